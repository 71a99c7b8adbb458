-- When tasks wake as a change is made: only that of the task it is about, and that of a new one, are other than before.
use Rattle.std.specs.List.{last_or, range_with_len, AllByRecursion}
use Rattle.std.specs.Prelude.{◌&&◌, ◌==◌, slice_get, slice_set}
use Rattle.std.specs.Ordering.{is_eq}
use Rattle.std.proofs.Common.{◌≡◌, ◌+◌, ◌++◌, ◌<◌, ◌≤◌, ◌∙◌, ℕ, zero, suc, nat_lt, get_or, Bool, true, false, not, cond, length, map, take, List, [], ◌∷◌, Option, Some, None, is_some, refl, ap, ap₂, sym, subst, arith}
use Rattle.std.proofs.lemmas.Bool.Decides.{nat_tests}
use Rattle.std.proofs.lemmas.Option.{slice_get-get_or}
use Rattle.ps_time.specs.Key.{key_cmp}
use Rattle.ps_time.specs.declared.key.RunKey.{RunKey}
use Rattle.run_states.specs.Life.{close_row, closed_by, first_there, lapse_of, settled_row, settled_rows}
use Rattle.run_states.specs.Conflict.{in_conflict}
use Rattle.run_states.specs.Preemption.{Incoming, give_way}
use Rattle.run_states.specs.Rows.{find_row, lift_row, put_row}
use Rattle.run_states.specs.TaskRows.{is_of_task, rows_of_task}
use Rattle.run_states.specs.declared.row.RunRow.{RunRow}
use Rattle.run_states.specs.declared.why.Closing.{Closing}
use Rattle.run_states.proofs.Place.{key_is}
use Rattle.run_states.specs.declared.why.Why.TheVariants.{Preempted}
use Rattle.host_model.specs.Apply.{apply, close_task, purged_key, put_new, without_row}
use Rattle.host_model.specs.Book.{Book, find_task}
use Rattle.host_model.specs.Effect.{change_key, effect, has_key}
use Rattle.host_model.specs.Lawful.{Lawful}
use Rattle.host_model.specs.NewRow.{new_row}
use Rattle.host_model.specs.Preemption.{incoming}
use Rattle.host_model.specs.declared.change.Change.{Change}
use Rattle.host_model.specs.declared.change.Change.TheVariants.{Accepted, Asked, Posted, Purged, TaskClosed}
use Rattle.host_model.specs.declared.task_row.TaskRow.{TaskRow}
use Rattle.host_model.proofs.GrownLemmas.{settled_evolves}
use Rattle.host_model.proofs.Standing.{changed_key, changed_row, way_evolves}
use Rattle.live_law.specs.Waking.{wake_in, wake_of}
use Rattle.live_law.proofs.WakingLemmas.{newest_put, wake_alike}
use Rattle.host_book.specs.Waking.{extended, is_touched, own_task, renewed, touched}

-- ---- as the book settles
settled_confirmed : (o : Option Closing) (r : RunRow) → (closed_by o r).confirmed ≡ r.confirmed
settled_confirmed None r = refl
settled_confirmed (Some c) r = refl

same_map : (f g : TaskRow → Option ℕ) → ((t : TaskRow) → f t ≡ g t) → (ts : List TaskRow) → map f ts ≡ map g ts
same_map f g same [] = refl
same_map f g same (t ∷ ts) = ap₂ (λ x l. x ∷ l) (same t) (same_map f g same ts)

pub wakes_settled : (self m : ℕ) (rows : List RunRow) (tasks : List TaskRow) → map (wake_in self (settled_rows m rows)) tasks ≡ map (wake_in self rows) tasks
wakes_settled self m rows tasks = same_map (wake_in self (settled_rows m rows)) (wake_in self rows) (λ t. wake_alike (settled_row m) (λ r. (settled_evolves m r).key) self rows t (λ r of. settled_confirmed (lapse_of m r) r)) tasks

-- ---- of a task that a change isn't about
-- the row of a key that isn't of this task
not_of : (self : ℕ) (k : RunKey) (t : TaskRow) → is_touched (own_task self (Some k)) t ≡ false → ((k.lead == self) && (k.task == t.serial)) ≡ false
not_of self k t off = go (k.lead == self) off
  where
    go : (b : Bool) → is_touched (cond b (Some k.task) None) t ≡ false → (b && (k.task == t.serial)) ≡ false
    go false e = refl
    go true e = grind (arith, nat_tests, e)

about : (self : ℕ) (c : Change) (k : RunKey) → change_key c ≡ Some k → touched self c ≡ own_task self (Some k)
about self (TaskClosed serial) k e = cc
about self c k e = ap (own_task self) e

module _ (self m : ℕ) (tasks : List TaskRow) (c : Change) (rows : List RunRow) (t : TaskRow) (off : is_touched (touched self c) t ≡ false) where
  abbrev way : RunRow → RunRow
  way r = give_way m (incoming rows c) r

  way_confirmed : (o : Option Incoming) (r : RunRow) → (give_way m o r).confirmed ≡ r.confirmed
  way_confirmed None r = refl
  way_confirmed (Some i) r = elim (in_conflict i.key i.class i.interval r) as (λ b. (cond b (close_row (record { moment = m; why = Preempted i.key }) r) r).confirmed ≡ r.confirmed) [ true ↦ refl | false ↦ refl ]

  stays : (r : RunRow) → is_of_task self t.serial r ≡ true → (changed_row m tasks c rows r).confirmed ≡ r.confirmed
  stays r of = go (has_key (way r).key (change_key c)) refl ∙ way_confirmed (incoming rows c) r
    where
      go : (b : Bool) → has_key (way r).key (change_key c) ≡ b → (cond b (effect m tasks c (way r)) (way r)).confirmed ≡ (way r).confirmed
      go false is = refl
      go true is = absurd (own (change_key c) refl is)
        where
          own : (o : Option RunKey) → change_key c ≡ o → has_key (way r).key o ≡ true → ⊥
          own None at e = cc
          own (Some k) at e =
              let key : r.key ≡ k = sym (way_evolves m (incoming rows c) r).key ∙ key_is (way r).key k e in
              let other = not_of self k t (subst (λ o. is_touched o t ≡ false) (about self c k at) off) in
              let here : ((k.lead == self) && (k.task == t.serial)) ≡ true = subst (λ j. ((j.lead == self) && (j.task == t.serial)) ≡ true) key of in
              cc

  as_mapped : wake_in self (map (changed_row m tasks c rows) rows) t ≡ wake_in self rows t
  as_mapped = wake_alike (changed_row m tasks c rows) (changed_key m tasks c rows) self rows t stays

-- a row of another task comes
put_beside : (self : ℕ) (t : TaskRow) (xs : List RunRow) (r : RunRow) → is_of_task self t.serial r ≡ false → wake_in self (put_new (Some r) xs) t ≡ wake_in self xs t
put_beside self t xs r other = elim (is_some (find_row xs r.key)) as (λ b. wake_in self (cond b xs (put_row xs r)) t ≡ wake_in self xs t) [ true ↦ refl | false ↦ ap (wake_of t) (newest_put self t.serial r other xs) ]

-- or goes
lift_beside : (self : ℕ) (t : TaskRow) (xs : List RunRow) (k : RunKey) → ((k.lead == self) && (k.task == t.serial)) ≡ false → wake_in self (lift_row xs k) t ≡ wake_in self xs t
lift_beside self t xs k other = ap (λ l. wake_of t (last_or None l)) (left xs)
  where
    left : (ys : List RunRow) → rows_of_task self t.serial (lift_row ys k) ≡ rows_of_task self t.serial ys
    left [] = refl
    left (y ∷ ys) = go (is_eq (key_cmp y.key k)) refl (left ys)
      where
        go : (b : Bool) → is_eq (key_cmp y.key k) ≡ b → rows_of_task self t.serial (lift_row ys k) ≡ rows_of_task self t.serial ys → rows_of_task self t.serial (cond (not b) (y ∷ lift_row ys k) (lift_row ys k)) ≡ rows_of_task self t.serial (y ∷ ys)
        go true is later =
            let gone : is_of_task self t.serial y ≡ false = ap (λ j. (j.lead == self) && (j.task == t.serial)) (key_is y.key k is) ∙ other in
            later ∙ ap (λ b. cond b (y ∷ rows_of_task self t.serial ys) (rows_of_task self t.serial ys)) (sym gone)
        go false is later = ap (λ l. cond (is_of_task self t.serial y) (y ∷ l) l) later

-- a task wakes as before where a change isn't about it
comes_beside : (self m : ℕ) (c : Change) (t : TaskRow) → is_touched (touched self c) t ≡ false → (xs : List RunRow) → wake_in self (put_new (new_row m c) xs) t ≡ wake_in self xs t
comes_beside self m (Accepted p participants epoch) t off xs = put_beside self t xs _ (not_of self p.key t off)
comes_beside self m (Asked q participants asker) t off xs = put_beside self t xs _ (not_of self q.key t off)
comes_beside self m c t off xs = refl

goes_beside : (self : ℕ) (c : Change) (t : TaskRow) → is_touched (touched self c) t ≡ false → (xs : List RunRow) → wake_in self (without_row (purged_key c) xs) t ≡ wake_in self xs t
goes_beside self (Purged k) t off xs = lift_beside self t xs k (not_of self k t off)
goes_beside self c t off xs = refl

wake_beside : (self m : ℕ) (c : Change) (b : Book) (t : TaskRow) → is_touched (touched self c) t ≡ false → wake_in self (apply m c b).rows t ≡ wake_in self b.rows t
wake_beside self m c b t off =
    let own : List RunRow = map (changed_row m b.tasks c b.rows) b.rows in
    goes_beside self c t off (put_new (new_row m c) own) ∙ (comes_beside self m c t off own ∙ as_mapped self m b.tasks c b.rows t off)

-- ---- one item for each task
extended_same : (f g : TaskRow → Option ℕ) (ts : List TaskRow) → extended f ts (map g ts) ≡ map g ts
extended_same f g [] = refl
extended_same f g (t ∷ ts) = ap (λ l. g t ∷ l) (extended_same f g ts)

extended_one : (f : TaskRow → Option ℕ) (ts : List TaskRow) (t : TaskRow) → extended f (ts ++ t ∷ []) (map f ts) ≡ map f (ts ++ t ∷ [])
extended_one f [] t = refl
extended_one f (x ∷ xs) t = ap (λ l. f x ∷ l) (extended_one f xs t)

renewed_map : (f g : TaskRow → Option ℕ) (h : TaskRow → TaskRow) (o : Option ℕ) → ((t : TaskRow) → is_touched o (h t) ≡ false → f (h t) ≡ g t) → (ts : List TaskRow) → renewed f o (map h ts) (map g ts) ≡ map f (map h ts)
renewed_map f g h o same [] = refl
renewed_map f g h o same (t ∷ ts) = ap₂ (λ x l. x ∷ l) (go (is_touched o (h t)) refl) (renewed_map f g h o same ts)
  where
    go : (b : Bool) → is_touched o (h t) ≡ b → cond b (f (h t)) (g t) ≡ f (h t)
    go true is = refl
    go false is = sym (same t is)

map_same : (ts : List TaskRow) → map (λ t. t) ts ≡ ts
map_same [] = refl
map_same (t ∷ ts) = ap (λ l. t ∷ l) (map_same ts)

pub renewed_none : (f : TaskRow → Option ℕ) (ts : List TaskRow) (ws : List (Option ℕ)) → renewed f None ts ws ≡ ws
renewed_none f [] ws = refl
renewed_none f (t ∷ ts) [] = refl
renewed_none f (t ∷ ts) (w ∷ ws) = ap (λ l. w ∷ l) (renewed_none f ts ws)

length_renewed : (f : TaskRow → Option ℕ) (o : Option ℕ) (ts : List TaskRow) (ws : List (Option ℕ)) → length (renewed f o ts ws) ≡ length ws
length_renewed f o [] ws = refl
length_renewed f o (t ∷ ts) [] = refl
length_renewed f o (t ∷ ts) (w ∷ ws) = ap suc (length_renewed f o ts ws)

take_front : (xs rest : List (Option ℕ)) (n : ℕ) → n ≡ length xs → take n (xs ++ rest) ≡ xs
take_front [] rest zero is = refl
take_front [] rest (suc n) is = absurd (omega (arith, is))
take_front (x ∷ xs) rest zero is = absurd (omega (arith, is))
take_front (x ∷ xs) rest (suc n) is = ap (λ l. x ∷ l) (take_front xs rest n (omega (arith, is)))

-- lent as a slice of so many, they stay as many
pub renewed_front : (f : TaskRow → Option ℕ) (o : Option ℕ) (ts : List TaskRow) (ws new rest : List (Option ℕ)) (n : ℕ) → new ≡ renewed f o ts ws → n ≡ length ws → take n (new ++ rest) ≡ renewed f o ts ws
renewed_front f o ts ws new rest n same many = take_front new rest n (many ∙ sym (ap length same ∙ length_renewed f o ts ws)) ∙ same

-- ---- the wakes of the book after a change
module _ (self m : ℕ) (b : Book) where
  abbrev before : TaskRow → Option ℕ
  before = wake_in self b.rows

  abbrev after : Change → TaskRow → Option ℕ
  after c = wake_in self (apply m c b).rows

  abbrev Wakes : Change → Type 0
  Wakes c = extended (after c) (apply m c b).tasks (renewed (after c) (touched self c) (apply m c b).tasks (map before b.tasks)) ≡ map (after c) (apply m c b).tasks

  wakes_posted : (task : TaskRow) → Wakes (Posted task)
  wakes_posted task =
      let f : TaskRow → Option ℕ = after (Posted task) in
      let same : map before b.tasks ≡ map f b.tasks = same_map before f (λ t. sym (wake_beside self m (Posted task) b t refl)) b.tasks in
      ap (extended f (b.tasks ++ task ∷ [])) (renewed_none f (b.tasks ++ task ∷ []) (map before b.tasks) ∙ same) ∙ extended_one f b.tasks task

  module _ (serial : ℕ) where
    abbrev closed : TaskRow → Option ℕ
    closed = after (TaskClosed serial)

    others : (t : TaskRow) → is_touched (Some serial) (close_task m serial t) ≡ false → closed (close_task m serial t) ≡ before t
    others t off = go (t.serial == serial) refl off
      where
        go : (x : Bool) → (t.serial == serial) ≡ x → is_touched (Some serial) (cond x (record t { closed = first_there t.closed (Some m) }) t) ≡ false → closed (cond x (record t { closed = first_there t.closed (Some m) }) t) ≡ before t
        go true is e = let both : true ≡ false = sym is ∙ e in cc
        go false is e = wake_beside self m (TaskClosed serial) b t is

    wakes_closed : Wakes (TaskClosed serial)
    wakes_closed =
        ap (extended closed (map (close_task m serial) b.tasks)) (renewed_map closed before (close_task m serial) (Some serial) others b.tasks) ∙ extended_same closed closed (map (close_task m serial) b.tasks)

  wakes_else : (f : TaskRow → Option ℕ) (o : Option ℕ) → ((t : TaskRow) → is_touched o t ≡ false → f t ≡ before t) → extended f b.tasks (renewed f o b.tasks (map before b.tasks)) ≡ map f b.tasks
  wakes_else f o same =
      let here : renewed f o b.tasks (map before b.tasks) ≡ map f b.tasks = ap (λ ts. renewed f o ts (map before b.tasks)) (sym (map_same b.tasks)) ∙ (renewed_map f before (λ t. t) o same b.tasks ∙ ap (map f) (map_same b.tasks)) in
      ap (extended f b.tasks) here ∙ extended_same f f b.tasks

  pub wakes_after : (c : Change) → Wakes c
  wakes_after (Posted task) = wakes_posted task
  wakes_after (TaskClosed serial) = wakes_closed serial
  wakes_after c = wakes_else (after c) (touched self c) (λ t off. wake_beside self m c b t off)

-- ---- what the code finds by place
module _ (f : TaskRow → Option ℕ) where
  -- no task has the serial
  renewed_off : (serial : ℕ) (ts : List TaskRow) → AllByRecursion (λ t. (t.serial == serial) ≡ false) ts → (ws : List (Option ℕ)) → renewed f (Some serial) ts ws ≡ ws
  renewed_off serial [] off ws = refl
  renewed_off serial (t ∷ ts) off [] = refl
  renewed_off serial (t ∷ ts) off (w ∷ ws) = ap₂ (λ x l. x ∷ l) (ap (λ b. cond b (f t) w) off.0) (renewed_off serial ts off.1 ws)

  -- serials count up, and this one is below the first
  below : (serial a n : ℕ) (ts : List TaskRow) → map (λ t. t.serial) ts ≡ range_with_len a n → serial < a → AllByRecursion (λ t. (t.serial == serial) ≡ false) ts
  below serial a n [] are low = tt
  below serial a zero (t ∷ ts) are low = cc
  below serial a (suc n) (t ∷ ts) are low =
      let own : t.serial ≡ a = cc in
      let more : map (λ x. x.serial) ts ≡ range_with_len (a + 1) n = cc in
      (grind (arith, nat_tests, own, low), below serial (a + 1) n ts more (omega (arith, low)))

  pub renewed_zero : (a n : ℕ) (ts : List TaskRow) → map (λ t. t.serial) ts ≡ range_with_len (a + 1) n → (ws : List (Option ℕ)) → renewed f (Some 0) ts ws ≡ ws
  renewed_zero a n ts are ws = renewed_off 0 ts (below 0 (a + 1) n ts are (omega arith)) ws

  -- the task of that place is the one with its serial
  pub renewed_at : (place a n : ℕ) (ts : List TaskRow) (t : TaskRow) (ws : List (Option ℕ)) → map (λ x. x.serial) ts ≡ range_with_len a n → slice_get ts place ≡ Some t → place < length ws → slice_set ws place (f t) ≡ renewed f (Some (place + a)) ts ws
  renewed_at place a n [] t ws are at within = cc
  renewed_at place a zero (x ∷ xs) t ws are at within = cc
  renewed_at place a (suc n) (x ∷ xs) t [] are at within = absurd (omega (arith, within))
  renewed_at zero a (suc n) (x ∷ xs) t (w ∷ ws) are at within =
      let own : x.serial ≡ a = cc in
      let more : map (λ y. y.serial) xs ≡ range_with_len (a + 1) n = cc in
      let same : x ≡ t = cc in
      let hit : (x.serial == (0 + a)) ≡ true = grind (arith, nat_tests, own) in
      ap₂ (λ y l. y ∷ l) (ap f (sym same) ∙ sym (ap (λ b. cond b (f x) w) hit)) (sym (renewed_off (0 + a) xs (below (0 + a) (a + 1) n xs more (omega arith)) ws))
  renewed_at (suc place) a (suc n) (x ∷ xs) t (w ∷ ws) are at within =
      let own : x.serial ≡ a = cc in
      let more : map (λ y. y.serial) xs ≡ range_with_len (a + 1) n = cc in
      let miss : (x.serial == (suc place + a)) ≡ false = grind (arith, nat_tests, own) in
      let shift : place + (a + 1) ≡ suc place + a = omega arith in
      ap₂ (λ y l. y ∷ l) (sym (ap (λ b. cond b (f x) w) miss)) (renewed_at place (a + 1) n xs t ws more at (omega (arith, within)) ∙ ap (λ s. renewed f (Some s) xs ws) shift)

  -- there is no task at the place, or nothing is kept of it
  pub renewed_past : (place a n : ℕ) (ts : List TaskRow) (ws : List (Option ℕ)) → map (λ x. x.serial) ts ≡ range_with_len a n → slice_get ts place ≡ None → ws ≡ renewed f (Some (place + a)) ts ws
  renewed_past place a n [] ws are at = refl
  renewed_past place a zero (x ∷ xs) ws are at = cc
  renewed_past zero a (suc n) (x ∷ xs) ws are at = cc
  renewed_past (suc place) a (suc n) (x ∷ xs) [] are at = refl
  renewed_past (suc place) a (suc n) (x ∷ xs) (w ∷ ws) are at =
      let own : x.serial ≡ a = cc in
      let more : map (λ y. y.serial) xs ≡ range_with_len (a + 1) n = cc in
      let miss : (x.serial == (suc place + a)) ≡ false = grind (arith, nat_tests, own) in
      let shift : place + (a + 1) ≡ suc place + a = omega arith in
      ap₂ (λ y l. y ∷ l) (sym (ap (λ b. cond b (f x) w) miss)) (renewed_past place (a + 1) n xs ws more at ∙ ap (λ s. renewed f (Some s) xs ws) shift)

  pub renewed_short : (place a n : ℕ) (ts : List TaskRow) (ws : List (Option ℕ)) → map (λ x. x.serial) ts ≡ range_with_len a n → length ws ≤ place → ws ≡ renewed f (Some (place + a)) ts ws
  renewed_short place a n [] ws are short = refl
  renewed_short place a n (x ∷ xs) [] are short = refl
  renewed_short place a zero (x ∷ xs) (w ∷ ws) are short = cc
  renewed_short zero a (suc n) (x ∷ xs) (w ∷ ws) are short = absurd (omega (arith, short))
  renewed_short (suc place) a (suc n) (x ∷ xs) (w ∷ ws) are short =
      let own : x.serial ≡ a = cc in
      let more : map (λ y. y.serial) xs ≡ range_with_len (a + 1) n = cc in
      let miss : (x.serial == (suc place + a)) ≡ false = grind (arith, nat_tests, own) in
      let shift : place + (a + 1) ≡ suc place + a = omega arith in
      ap₂ (λ y l. y ∷ l) (sym (ap (λ b. cond b (f x) w) miss)) (renewed_short place (a + 1) n xs ws more (omega (arith, short)) ∙ ap (λ s. renewed f (Some s) xs ws) shift)

  -- a new task
  pub extended_at : (ts : List TaskRow) (t : TaskRow) (ws : List (Option ℕ)) → slice_get ts (length ws) ≡ Some t → ws ++ f t ∷ [] ≡ extended f ts ws
  extended_at [] t ws at = cc
  extended_at (x ∷ xs) t [] at = let same : x ≡ t = cc in ap (λ y. f y ∷ []) (sym same)
  extended_at (x ∷ xs) t (w ∷ ws) at = ap (λ l. w ∷ l) (extended_at xs t ws at)

  pub extended_past : (ts : List TaskRow) (ws : List (Option ℕ)) → slice_get ts (length ws) ≡ None → ws ≡ extended f ts ws
  extended_past [] ws at = refl
  extended_past (x ∷ xs) [] at = cc
  extended_past (x ∷ xs) (w ∷ ws) at = ap (λ l. w ∷ l) (extended_past xs ws at)

-- what a look-up by place says
pub none_at : {X : Type 0} (ts us : List X) (place : ℕ) → ts ≡ us → false ≡ nat_lt place (length ts) → slice_get us place ≡ None
none_at {X} ts us place same past = subst (λ l. slice_get l place ≡ None) same (go ts place (grind (arith, nat_tests, past)))
  where
    go : (xs : List X) (i : ℕ) → length xs ≤ i → slice_get xs i ≡ None
    go [] i le = refl
    go (x ∷ xs) zero le = absurd (omega (arith, le))
    go (x ∷ xs) (suc i) le = go xs i (omega (arith, le))

pub some_at : {X : Type 0} (ts us : List X) (place : ℕ) (t : X) → ts ≡ us → true ≡ nat_lt place (length ts) → t ≡ get_or ts place t → slice_get us place ≡ Some t
some_at ts us place t same within is =
    let lt : place < length ts = grind (arith, nat_tests, within) in
    subst (λ l. slice_get l place ≡ Some t) same (slice_get-get_or ts place t lt ∙ ap (λ x. Some x) (sym is))

-- ---- of the task of a serial
module _ (f : TaskRow → Option ℕ) where
  found_wake : (place a n : ℕ) (ts : List TaskRow) (t : TaskRow) → map (λ x. x.serial) ts ≡ range_with_len a n → find_task ts (place + a) ≡ Some t → slice_get (map f ts) place ≡ Some (f t)
  found_wake place a n [] t are found = cc
  found_wake place a zero (x ∷ xs) t are found = cc
  found_wake zero a (suc n) (x ∷ xs) t are found =
      let own : x.serial ≡ a = cc in
      let hit : (x.serial == (0 + a)) ≡ true = grind (arith, nat_tests, own) in
      let here : Some x ≡ Some t = sym (ap (λ b. cond b (Some x) (find_task xs (0 + a))) hit) ∙ found in
      let same : x ≡ t = cc in
      ap (λ y. Some (f y)) same
  found_wake (suc place) a (suc n) (x ∷ xs) t are found =
      let own : x.serial ≡ a = cc in
      let more : map (λ y. y.serial) xs ≡ range_with_len (a + 1) n = cc in
      let miss : (x.serial == (suc place + a)) ≡ false = grind (arith, nat_tests, own) in
      let shift : suc place + a ≡ place + (a + 1) = omega arith in
      let behind : find_task xs (suc place + a) ≡ Some t = sym (ap (λ b. cond b (Some x) (find_task xs (suc place + a))) miss) ∙ found in
      found_wake place (a + 1) n xs t more (ap (find_task xs) (sym shift) ∙ behind)

  none_found : (ts : List TaskRow) (serial : ℕ) → AllByRecursion (λ t. (t.serial == serial) ≡ false) ts → find_task ts serial ≡ None
  none_found [] serial off = refl
  none_found (t ∷ ts) serial off = ap (λ b. cond b (Some t) (find_task ts serial)) off.0 ∙ none_found ts serial off.1

module _ (number : ℕ) (b : Book) (lawful : Lawful number b) (ws : List (Option ℕ)) (are : ws ≡ map (wake_in number b.rows) b.tasks) (t : TaskRow) where
  kept_wake : (place : ℕ) → find_task b.tasks (place + 1) ≡ Some t → slice_get ws place ≡ Some (wake_in number b.rows t)
  kept_wake place found = ap (λ l. slice_get l place) are ∙ found_wake (wake_in number b.rows) place 1 (length b.tasks) b.tasks t lawful.serials found

  pub wake_told : (place : ℕ) (w : Option ℕ) → find_task b.tasks (place + 1) ≡ Some t → true ≡ nat_lt place (length ws) → w ≡ get_or ws place w → w ≡ wake_in number b.rows t
  wake_told place w found within is =
      let here : Some w ≡ Some (wake_in number b.rows t) = sym (some_at ws ws place w refl within is) ∙ kept_wake place found in
      cc

  pub none_told : (place : ℕ) → find_task b.tasks (place + 1) ≡ Some t → false ≡ nat_lt place (length ws) → ⊥
  none_told place found past =
      let here : None ≡ Some (wake_in number b.rows t) = sym (none_at ws ws place refl past) ∙ kept_wake place found in
      cc

  pub zero_told : find_task b.tasks 0 ≡ Some t → ⊥
  zero_told found =
      let none : find_task b.tasks 0 ≡ None = none_found (wake_in number b.rows) b.tasks 0 (below (wake_in number b.rows) 0 1 (length b.tasks) b.tasks lawful.serials (omega arith)) in
      cc
