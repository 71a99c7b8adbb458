-- What a turn asks about doesn't go in it: the purges over the keys of the rows that were there before are those over all keys.
use Rattle.std.specs.List.{AllByRecursion, list_any}
use Rattle.std.specs.Ordering.{is_eq, match_ordering}
use Rattle.std.specs.declared.cmp.Ordering.{Ordering}
use Rattle.std.specs.declared.cmp.Ordering.TheVariants.{Less, Equal, Greater}
use Rattle.std.proofs.Common.{◌≡◌, ◌+◌, ◌⊎◌, inl, inr, ℕ, Bool, true, false, cond, ◌&&◌, ◌||◌, nat_le, List, [], ◌∷◌, ◌++◌, map, filter, Option, Some, None, is_some, option_and_then, not, refl, ap, ap₂, sym, subst, ◌∙◌}
use Rattle.std.specs.Prelude.{◌==◌}
use Rattle.std.proofs.Math.Bool.{or-false, or-true}
use Rattle.std.proofs.lemmas.List.Elements.{All-weaker, recursion_from_All}
use Rattle.ps_time.specs.Key.{key_cmp}
use Rattle.ps_time.specs.declared.asker.Asker.{Asker}
use Rattle.ps_time.specs.declared.key.RunKey.{RunKey}
use Rattle.run_states.specs.Purging.{is_led_out, is_later, is_long_past, is_purgeable, keeping, rest_of}
use Rattle.run_states.specs.Rows.{IsAscendingRows, find_row, lift_row, put_row}
use Rattle.run_states.specs.declared.proposal.Question.{Question}
use Rattle.run_states.specs.declared.row.RunRow.{RunRow}
use Rattle.host_model.specs.Apply.{apply, put_new}
use Rattle.host_model.specs.Book.{Book, find_task, keys_of_rows}
use Rattle.host_model.specs.Draft.{Draft, made, make, make_each, make_rows, make_tasks}
use Rattle.host_model.specs.Effect.{has_key}
use Rattle.host_model.specs.NewRow.{asked_row}
use Rattle.host_model.specs.NextAttempt.{ask}
use Rattle.host_model.specs.Purging.{purge_run}
use Rattle.host_model.specs.Walk.{change_if}
use Rattle.host_model.specs.declared.change.Change.{Change}
use Rattle.host_model.specs.declared.change.Change.TheVariants.{Asked, Purged}
use Rattle.host_model.specs.declared.config.Config.{Config}
use Rattle.host_model.specs.declared.task_row.TaskRow.{TaskRow}
use Rattle.host_model.proofs.Placed.{lift_from, put_from, put_keeps}
use Rattle.host_model.proofs.RowLemmas.{all_of_found}
use Rattle.host_model.proofs.Standing.{changed_row}
use Rattle.host_model.proofs.Wishes.{ask_granted, purge_granted}
use Rattle.live_law.specs.Groups.{asked_key, going_keys, is_past_at, let_go, lets_go, make_keys}
use Rattle.host_rows.specs.Still.{has_come, is_live_by, is_still, is_waiting, keys_live_by, StillStay}
use Rattle.host_rows.proofs.LaterLemmas.{fewer_stay, has_later, later_lifted, later_put, newest_beside}
use Rattle.host_rows.proofs.WaitLemmas.{waiting_parts}
use Rattle.live_law.proofs.DraftLemmas.{draft_keeps, made_keeps}
use Rattle.live_law.proofs.StillLemmas.{some_same, unlive_by}

-- ---- a key is that of a row
abbrev has : RunKey → List RunKey → Bool
has k ks = list_any (λ j. is_eq (key_cmp j k)) ks

found_has : (rows : List RunRow) (k : RunKey) → is_some (find_row rows k) ≡ has k (keys_of_rows rows)
found_has [] k = refl
found_has (r ∷ rs) k = go (is_eq (key_cmp r.key k)) (found_has rs k)
  where
    go : (b : Bool) → is_some (find_row rs k) ≡ has k (keys_of_rows rs) → is_some (cond b (Some r) (find_row rs k)) ≡ (b || has k (keys_of_rows rs))
    go true rest = refl
    go false rest = rest

filter_has : (p : RunKey → Bool) (k : RunKey) (ks : List RunKey) → has k (filter p ks) ≡ true → has k ks ≡ true
filter_has p k [] e = e
filter_has p k (j ∷ ks) e = go (p j) e (filter_has p k ks)
  where
    either : (same : Bool) → (same || has k (filter p ks)) ≡ true → (has k (filter p ks) ≡ true → has k ks ≡ true) → (same || has k ks) ≡ true
    either true e later = refl
    either false e later = later e

    go : (passes : Bool) → has k (cond passes (j ∷ filter p ks) (filter p ks)) ≡ true → (has k (filter p ks) ≡ true → has k ks ≡ true) → (is_eq (key_cmp j k) || has k ks) ≡ true
    go true e later = either (is_eq (key_cmp j k)) e later
    go false e later = ap (λ x. is_eq (key_cmp j k) || x) (later e) ∙ or-true (is_eq (key_cmp j k))

-- neither what is asked nor what goes changes another row
same_row : (t : Bool) (r : RunRow) → cond t r r ≡ r
same_row true r = refl
same_row false r = refl

asked_same : (m : ℕ) (tasks : List TaskRow) (q : Question) (participants : List (List ℕ)) (asker : Asker) (all rows : List RunRow) → map (changed_row m tasks (Asked q participants asker) all) rows ≡ rows
asked_same m tasks q participants asker all [] = refl
asked_same m tasks q participants asker all (r ∷ rs) = ap₂ (λ x xs. x ∷ xs) (same_row (has_key r.key (Some q.key)) r) (asked_same m tasks q participants asker all rs)

purged_same : (m : ℕ) (tasks : List TaskRow) (k : RunKey) (all rows : List RunRow) → map (changed_row m tasks (Purged k) all) rows ≡ rows
purged_same m tasks k all [] = refl
purged_same m tasks k all (r ∷ rs) = ap₂ (λ x xs. x ∷ xs) (same_row (has_key r.key (Some k)) r) (purged_same m tasks k all rs)

module _ (m : ℕ) (base : List RunRow) where
  -- a row of the key was there at first
  abbrev there : RunKey → Bool
  there k = is_some (find_row base k)

  -- what came since isn't long past
  abbrev IsYoung : List RunRow → Type 0
  IsYoung rows = (k : RunKey) (r : RunRow) → find_row rows k ≡ Some r → there k ≡ false → is_long_past m r ≡ false

  -- the keys of before are those that were there at first
  abbrev HaveKeys : List RunRow → Type 0
  HaveKeys rows = filter there (keys_of_rows rows) ≡ keys_of_rows base

  record Extended (b : Book) : Type 0 where
    pub keys : HaveKeys b.rows
    pub young : IsYoung b.rows

  -- ---- at first
  all_there : (rs : List RunRow) → AllByRecursion (λ s. find_row base s.key ≡ Some s) rs → filter there (keys_of_rows rs) ≡ keys_of_rows rs
  all_there [] all = refl
  all_there (s ∷ rs) all = ap (λ b. cond b (s.key ∷ filter there (keys_of_rows rs)) (filter there (keys_of_rows rs))) (ap is_some all.0) ∙ ap (λ ks. s.key ∷ ks) (all_there rs all.1)

  extended_first : IsAscendingRows base → (b : Book) → keys_of_rows b.rows ≡ keys_of_rows base → Extended b
  extended_first up b same = record {
    keys = ap (filter there) same ∙ all_there base (recursion_from_All (λ s. find_row base s.key ≡ Some s) base (all_of_found (λ s. find_row base s.key ≡ Some s) base up (λ r at. at)));
    young = λ k r at new.
        let is : there k ≡ true = found_has base k ∙ (ap (has k) (sym same) ∙ (sym (found_has b.rows k) ∙ ap is_some at)) in
        let never : true ≡ false = sym is ∙ new in
        cc;
  }

  -- ---- a run that is asked about
  -- a key that no row has is none of those at first
  new_key : (rows : List RunRow) (k : RunKey) → HaveKeys rows → find_row rows k ≡ None → there k ≡ false
  new_key rows k have none = go (there k) refl
    where
      go : (t : Bool) → there k ≡ t → t ≡ false
      go false is = refl
      go true is =
          let first : has k (filter there (keys_of_rows rows)) ≡ true = ap (has k) have ∙ (sym (found_has base k) ∙ is) in
          let never : false ≡ true = ap is_some (sym none) ∙ (found_has rows k ∙ filter_has there k (keys_of_rows rows) first) in
          cc

  put_keys : (rows : List RunRow) (n : RunRow) → there n.key ≡ false → filter there (keys_of_rows (put_row rows n)) ≡ filter there (keys_of_rows rows)
  put_keys [] n new = ap (λ b. cond b (n.key ∷ []) []) new
  put_keys (r ∷ rs) n new = go (key_cmp r.key n.key) (put_keys rs n new)
    where
      front : (xs ys : List RunKey) → xs ≡ ys → cond (there r.key) (r.key ∷ xs) xs ≡ cond (there r.key) (r.key ∷ ys) ys
      front xs ys same = ap (λ ks. cond (there r.key) (r.key ∷ ks) ks) same

      go : (o : Ordering) → filter there (keys_of_rows (put_row rs n)) ≡ filter there (keys_of_rows rs) →
          filter there (keys_of_rows (match_ordering o (r ∷ put_row rs n) (r ∷ put_row rs n) (n ∷ r ∷ rs))) ≡ filter there (keys_of_rows (r ∷ rs))
      go Less rest = front (filter there (keys_of_rows (put_row rs n))) (filter there (keys_of_rows rs)) rest
      go Equal rest = front (filter there (keys_of_rows (put_row rs n))) (filter there (keys_of_rows rs)) rest
      go Greater rest = ap (λ b. cond b (n.key ∷ filter there (keys_of_rows (r ∷ rs))) (filter there (keys_of_rows (r ∷ rs)))) new

  put_new_keys : (rows : List RunRow) (n : RunRow) → HaveKeys rows → HaveKeys (put_new (Some n) rows)
  put_new_keys rows n have = go (find_row rows n.key) refl
    where
      go : (o : Option RunRow) → find_row rows n.key ≡ o → HaveKeys (cond (is_some o) rows (put_row rows n))
      go (Some x) at = have
      go None at = put_keys rows n (new_key rows n.key have at) ∙ have

  extended_asked : (b : Book) (q : Question) (participants : List (List ℕ)) (asker : Asker) → Extended b → Extended (apply m (Asked q participants asker) b)
  extended_asked b q participants asker before =
      let n : RunRow = asked_row m q participants asker in
      let rows_are : put_new (Some n) b.rows ≡ (apply m (Asked q participants asker) b).rows = ap (put_new (Some n)) (sym (asked_same m b.tasks q participants asker b.rows b.rows)) in
      record {
        keys = subst HaveKeys rows_are (put_new_keys b.rows n before.keys);
        young = subst IsYoung rows_are (λ k r at new. from k r new (put_from n b.rows k r at));
      }
    where
      from : (k : RunKey) (r : RunRow) → there k ≡ false → (find_row b.rows k ≡ Some r) ⊎ (((asked_row m q participants asker).key ≡ k) × (asked_row m q participants asker ≡ r)) → is_long_past m r ≡ false
      from k r new (inl at) = before.young k r at new
      from k r new (inr is) = subst (λ x. is_long_past m x ≡ false) is.1 refl

  extended_asks : (c : Config) (serials : List ℕ) (d : Draft) → Extended d.book → Extended (make_each (λ b serial. option_and_then (ask c m b) (find_task b.tasks serial)) m serials d).book
  extended_asks c [] d before = before
  extended_asks c (serial ∷ serials) d before = extended_asks c serials (make m (wished (find_task d.book.tasks serial)) d) (task (find_task d.book.tasks serial))
    where
      wished : Option TaskRow → Option Change
      wished o = option_and_then (ask c m d.book) o

      one : (t : TaskRow) (o : Option Change) → ask c m d.book t ≡ o → Extended (make m o d).book
      one t None is = before
      one t (Some x) is =
          let g = ask_granted c m d.book t x is in
          made_keeps Extended m x d before (subst (λ y. Extended (apply m y d.book)) g.is (extended_asked d.book _ _ _ before))

      task : (o : Option TaskRow) → Extended (make m (wished o) d).book
      task None = before
      task (Some t) = one t (ask c m d.book t) refl

  -- ---- what goes
  young_purged : (b : Book) (k : RunKey) → IsYoung b.rows → IsYoung (apply m (Purged k) b).rows
  young_purged b k young = subst (λ rows. IsYoung (lift_row rows k)) (sym (purged_same m b.tasks k b.rows b.rows)) (λ j r at new. young j r (lift_from k j b.rows r at) new)

  module _ (c : Config) where
    abbrev gone : Book → RunKey → Option Change
    gone b k = option_and_then (purge_run c m b) (find_row b.rows k)

    -- what each going keeps, a purge keeps
    gone_keeps : (P : List RunRow → Type 0) → ((b : Book) (k : RunKey) → P b.rows → P (apply m (Purged k) b).rows) → (k : RunKey) (d : Draft) → P d.book.rows → P (make m (gone d.book k) d).book.rows
    gone_keeps P keeps k d here = found (find_row d.book.rows k)
      where
        one : (r : RunRow) (o : Option Change) → purge_run c m d.book r ≡ o → P (make m o d).book.rows
        one r None is = here
        one r (Some x) is =
            let g = purge_granted c m d.book r x is in
            made_keeps (λ b. P b.rows) m x d here (subst (λ y. P (apply m y d.book).rows) g.1 (keeps d.book r.key here))

        found : (o : Option RunRow) → P (make m (option_and_then (purge_run c m d.book) o) d).book.rows
        found None = here
        found (Some r) = one r (purge_run c m d.book r) refl

    young_made : (k : RunKey) (d : Draft) → IsYoung d.book.rows → IsYoung (make m (gone d.book k) d).book.rows
    young_made k d young = gone_keeps IsYoung young_purged k d young

    young_stays : (b : Book) (k : RunKey) → IsYoung b.rows → there k ≡ false → gone b k ≡ None
    young_stays b k young new = go (find_row b.rows k) refl
      where
        go : (o : Option RunRow) → find_row b.rows k ≡ o → option_and_then (purge_run c m b) o ≡ None
        go None at = refl
        go (Some r) at = ap (λ t. change_if (t && (not (r.key.lead == c.number) || is_led_out b.rows r)) (Purged r.key)) (young k r at new)

    skipped : (ks : List RunKey) (d : Draft) → IsYoung d.book.rows → make_keys (purge_run c m) m (filter there ks) d ≡ make_keys (purge_run c m) m ks d
    skipped [] d young = refl
    skipped (k ∷ ks) d young = go (there k) refl (skipped ks)
      where
        go : (t : Bool) → there k ≡ t → ((e : Draft) → IsYoung e.book.rows → make_keys (purge_run c m) m (filter there ks) e ≡ make_keys (purge_run c m) m ks e) →
            make_keys (purge_run c m) m (cond t (k ∷ filter there ks) (filter there ks)) d ≡ make_keys (purge_run c m) m (k ∷ ks) d
        go true old later = later (make m (gone d.book k) d) (young_made k d young)
        go false new later = later d young ∙ sym (ap (λ o. make_keys (purge_run c m) m ks (make m o d)) (young_stays d.book k young new))

-- ---- rows that aren't live by the moment, and aren't long past, stay
-- what comes of the row s by the moment is long past only where it is s
abbrev pub Lasts : ℕ → RunRow → RunRow → Type 0
Lasts m s r = is_long_past m r ≡ true → r ≡ s

pub not_past : (m : ℕ) (s r : RunRow) → Lasts m s r → is_long_past m s ≡ false → is_long_past m r ≡ false
not_past m s r lasts young = go (is_long_past m r) refl
  where
    go : (t : Bool) → is_long_past m r ≡ t → t ≡ false
    go false is = refl
    go true is = let never : false ≡ true = sym young ∙ (ap (is_long_past m) (sym (lasts is)) ∙ is) in cc

module _ (c : Config) (m : ℕ) (base : List RunRow) where
  -- such a row is there, and lasts
  abbrev Stand : List RunRow → Type 0
  Stand rows = (s : RunRow) → find_row base s.key ≡ Some s → is_live_by c.number m s ≡ false → (r : RunRow) × (find_row rows s.key ≡ Some r) × Lasts m s r

  -- it lasts, or has gone
  abbrev StandOrGone : List RunRow → Type 0
  StandOrGone rows = (s r : RunRow) → find_row base s.key ≡ Some s → is_live_by c.number m s ≡ false → find_row rows s.key ≡ Some r → Lasts m s r

  stand_or_gone : (rows : List RunRow) → Stand rows → StandOrGone rows
  stand_or_gone rows stand s r at out found = let q = stand s at out in subst (Lasts m s) (some_same q.0 r (sym q.1 ∙ found)) q.2

  stand_asked : (b : Book) (q : Question) (participants : List (List ℕ)) (asker : Asker) → Stand b.rows → Stand (apply m (Asked q participants asker) b).rows
  stand_asked b q participants asker stand s at out =
      let f = stand s at out in
      (f.0, put_keeps (Some (asked_row m q participants asker)) _ s.key f.0 (ap (λ rows. find_row rows s.key) (asked_same m b.tasks q participants asker b.rows b.rows) ∙ f.1), f.2)

  stand_asks : (serials : List ℕ) (d : Draft) → Stand d.book.rows → Stand (make_each (λ b serial. option_and_then (ask c m b) (find_task b.tasks serial)) m serials d).book.rows
  stand_asks [] d before = before
  stand_asks (serial ∷ serials) d before = stand_asks serials (make m (wished (find_task d.book.tasks serial)) d) (task (find_task d.book.tasks serial))
    where
      wished : Option TaskRow → Option Change
      wished o = option_and_then (ask c m d.book) o

      one : (t : TaskRow) (o : Option Change) → ask c m d.book t ≡ o → Stand (make m o d).book.rows
      one t None is = before
      one t (Some x) is =
          let g = ask_granted c m d.book t x is in
          made_keeps (λ b. Stand b.rows) m x d before (subst (λ y. Stand (apply m y d.book).rows) g.is (stand_asked d.book _ _ _ before))

      task : (o : Option TaskRow) → Stand (make m (wished o) d).book.rows
      task None = before
      task (Some t) = one t (ask c m d.book t) refl

  gone_purged : (b : Book) (k : RunKey) → StandOrGone b.rows → StandOrGone (apply m (Purged k) b).rows
  gone_purged b k stand = subst (λ rows. StandOrGone (lift_row rows k)) (sym (purged_same m b.tasks k b.rows b.rows)) (λ s r at out found. stand s r at out (lift_from k s.key b.rows r found))

  gone_made : (k : RunKey) (d : Draft) → StandOrGone d.book.rows → StandOrGone (make m (gone m base c d.book k) d).book.rows
  gone_made k d stand = gone_keeps m base c StandOrGone gone_purged k d stand

  -- what is neither long past nor live
  neither : (past live : Bool) → (past || live) ≡ false → (past ≡ false) × (live ≡ false)
  neither true live e = cc
  neither false live e = (refl, e)

  unwished : (b : Book) (s : RunRow) → StandOrGone b.rows → find_row base s.key ≡ Some s → (is_long_past m s || is_live_by c.number m s) ≡ false → gone m base c b s.key ≡ None
  unwished b s stand at out = go (find_row b.rows s.key) refl
    where
      go : (o : Option RunRow) → find_row b.rows s.key ≡ o → option_and_then (purge_run c m b) o ≡ None
      go None found = refl
      go (Some r) found =
          let parts = neither (is_long_past m s) (is_live_by c.number m s) out in
          ap (λ t. change_if (t && (not (r.key.lead == c.number) || is_led_out b.rows r)) (Purged r.key)) (not_past m s r (stand s r at parts.1 found) parts.0)

  going : (rs : List RunRow) → AllByRecursion (λ s. find_row base s.key ≡ Some s) rs → (d : Draft) → StandOrGone d.book.rows → make_keys (purge_run c m) m (going_keys c.number m rs) d ≡ make_keys (purge_run c m) m (keys_of_rows rs) d
  going [] all d stand = refl
  going (s ∷ rs) all d stand = go (is_long_past m s || is_live_by c.number m s) refl (going rs all.1)
    where
      go : (t : Bool) → (is_long_past m s || is_live_by c.number m s) ≡ t → ((e : Draft) → StandOrGone e.book.rows → make_keys (purge_run c m) m (going_keys c.number m rs) e ≡ make_keys (purge_run c m) m (keys_of_rows rs) e) →
          make_keys (purge_run c m) m (keys_of_rows (cond t (s ∷ filter (λ r. is_long_past m r || is_live_by c.number m r) rs) (filter (λ r. is_long_past m r || is_live_by c.number m r) rs))) d ≡ make_keys (purge_run c m) m (keys_of_rows (s ∷ rs)) d
      go true is later = later (make m (gone m base c d.book s.key) d) (gone_made s.key d stand)
      go false is later = later d stand ∙ sym (ap (λ o. make_keys (purge_run c m) m (keys_of_rows rs) (make m o d)) (unwished d.book s stand all.0 is))

-- the purges of a turn, where the rows have the keys of these before the asks, and those that weren't live last
pub purges_same : (c : Config) (m : ℕ) (base : List RunRow) → IsAscendingRows base → (d : Draft) → keys_of_rows d.book.rows ≡ keys_of_rows base
    → Stand c m base d.book.rows → make_keys (purge_run c m) m (going_keys c.number m base) (make_tasks (ask c m) m d) ≡ make_rows (purge_run c m) m (make_tasks (ask c m) m d)
purges_same c m base up d same stand =
    let asked : Draft = make_tasks (ask c m) m d in
    let all : AllByRecursion (λ s. find_row base s.key ≡ Some s) base = recursion_from_All (λ s. find_row base s.key ≡ Some s) base (all_of_found (λ s. find_row base s.key ≡ Some s) base up (λ r at. at)) in
    let extended : Extended m base asked.book = extended_asks m base c (map (λ t. t.serial) d.book.tasks) d (extended_first m base up d.book same) in
    let stood : Stand c m base asked.book.rows = stand_asks c m base (map (λ t. t.serial) d.book.tasks) d stand in
    going c m base base all asked (stand_or_gone c m base asked.book.rows stood)
    ∙ (ap (λ ks. make_keys (purge_run c m) m ks asked) (sym extended.keys) ∙ skipped m base c (keys_of_rows asked.book.rows) asked extended.young)

-- ---- later rows of a task are those of before, or were asked about
-- whether a later row is there is told by the keys
later_keys : (k : RunKey) (rows : List RunRow) → has_later k rows ≡ list_any (is_later k) (keys_of_rows rows)
later_keys k [] = refl
later_keys k (r ∷ rs) = ap (λ t. is_later k r.key || t) (later_keys k rs)

abbrev is_later_of : RunKey → Option RunKey → Bool
is_later_of k None = false
is_later_of k (Some j) = is_later k j

abbrev asked_later : RunKey → List Change → Bool
asked_later k xs = list_any (λ x. is_later_of k (asked_key x)) xs

any_more : (p : Change → Bool) (xs : List Change) (x : Change) → list_any p (xs ++ x ∷ []) ≡ (list_any p xs || p x)
any_more p [] x = or-false (p x)
any_more p (y ∷ ys) x = ap (λ t. p y || t) (any_more p ys x) ∙ go (p y)
  where
    go : (b : Bool) → (b || (list_any p ys || p x)) ≡ ((b || list_any p ys) || p x)
    go true = refl
    go false = refl

module _ (m : ℕ) (base : List RunRow) where
  abbrev Known : Draft → Type 0
  Known d = (k : RunKey) → has_later k d.book.rows ≡ true → (has_later k base || asked_later k d.changes) ≡ true

  known_first : (d : Draft) → keys_of_rows d.book.rows ≡ keys_of_rows base → Known d
  known_first d same k later = ap (λ t. t || asked_later k d.changes) (later_keys k base ∙ (ap (list_any (is_later k)) (sym same) ∙ (sym (later_keys k d.book.rows) ∙ later)))

  -- one more is asked about
  join : (a b c t : Bool) → (t ≡ true → (a || b) ≡ true) → (c || t) ≡ true → (a || (b || c)) ≡ true
  join true b c t known e = refl
  join false true c t known e = refl
  join false false true t known e = refl
  join false false false t known e = known e

  known_asked : (d : Draft) (q : Question) (participants : List (List ℕ)) (asker : Asker) → Known d → (n : ℕ) → Known (made m (Asked q participants asker) d n)
  known_asked d q participants asker known n k later =
      let row : RunRow = asked_row m q participants asker in
      let rows_are : put_new (Some row) d.book.rows ≡ (apply m (Asked q participants asker) d.book).rows = ap (put_new (Some row)) (sym (asked_same m d.book.tasks q participants asker d.book.rows d.book.rows)) in
      let one : (is_later k q.key || has_later k d.book.rows) ≡ true = came (is_some (find_row d.book.rows row.key)) (ap (has_later k) rows_are ∙ later) in
      ap (λ t. has_later k base || t) (any_more (λ x. is_later_of k (asked_key x)) d.changes (Asked q participants asker)) ∙ join (has_later k base) (asked_later k d.changes) (is_later k q.key) (has_later k d.book.rows) (known k) one
    where
      came : (t : Bool) → has_later k (cond t d.book.rows (put_row d.book.rows (asked_row m q participants asker))) ≡ true → (is_later k q.key || has_later k d.book.rows) ≡ true
      came true e = ap (λ t. is_later k q.key || t) e ∙ or-true (is_later k q.key)
      came false e = sym (later_put k d.book.rows (asked_row m q participants asker)) ∙ e

  known_asks : (c : Config) (serials : List ℕ) (d : Draft) → Known d → Known (make_each (λ b serial. option_and_then (ask c m b) (find_task b.tasks serial)) m serials d)
  known_asks c [] d before = before
  known_asks c (serial ∷ serials) d before = known_asks c serials (make m (wished (find_task d.book.tasks serial)) d) (task (find_task d.book.tasks serial))
    where
      wished : Option TaskRow → Option Change
      wished o = option_and_then (ask c m d.book) o

      one : (t : TaskRow) (o : Option Change) → ask c m d.book t ≡ o → Known (make m o d)
      one t None is = before
      one t (Some x) is =
          let g = ask_granted c m d.book t x is in
          draft_keeps Known m x d before before (λ n. subst (λ y. Known (made m y d n)) g.is (known_asked d _ _ _ before n))

      task : (o : Option TaskRow) → Known (make m (wished o) d)
      task None = before
      task (Some t) = one t (ask c m d.book t) refl

  -- none of these lets the row go, so it had a later one
  not_first : (a b : Bool) → (a || b) ≡ false → (a ≡ false) × (b ≡ false)
  not_first true b e = cc
  not_first false b e = (refl, e)

  module _ (up : IsAscendingRows base) (s : RunRow) (at : find_row base s.key ≡ Some s) (past : is_long_past m s ≡ true) where
    one_let : (o : Option RunKey) → lets_go m base o ≡ false → is_later_of s.key o ≡ true → has_later s.key base ≡ true
    one_let None none later = cc
    one_let (Some k) none later = go (has_later s.key base) refl
      where
        go : (t : Bool) → has_later s.key base ≡ t → t ≡ true
        go true is = refl
        go false is = let never : false ≡ true = sym none ∙ (ap (is_past_at m) (newest_beside s k base up at is later) ∙ past) in cc

    each_let : (xs : List Change) → let_go m base xs ≡ false → asked_later s.key xs ≡ true → has_later s.key base ≡ true
    each_let [] none later = cc
    each_let (x ∷ xs) none later =
        let parts = not_first (lets_go m base (asked_key x)) (let_go m base xs) none in
        go (is_later_of s.key (asked_key x)) refl later (each_let xs parts.1) (one_let (asked_key x) parts.0)
      where
        go : (t : Bool) → is_later_of s.key (asked_key x) ≡ t → (t || asked_later s.key xs) ≡ true → (asked_later s.key xs ≡ true → has_later s.key base ≡ true) → (is_later_of s.key (asked_key x) ≡ true → has_later s.key base ≡ true) → has_later s.key base ≡ true
        go true is e rest here = here is
        go false is e rest here = rest e

    known_let : (d : Draft) → Known d → let_go m base d.changes ≡ false → has_later s.key d.book.rows ≡ true → has_later s.key base ≡ true
    known_let d known none later = go (has_later s.key base) refl (known s.key later)
      where
        go : (t : Bool) → has_later s.key base ≡ t → (t || asked_later s.key d.changes) ≡ true → t ≡ true
        go true is e = refl
        go false is e = sym is ∙ each_let d.changes none e

-- ---- where no row that is still may go, and none is let go by a later one, only those that were live are looked at
module _ (c : Config) (m : ℕ) (base : List RunRow) where
  -- what is long past has no later row of its task that it hadn't before
  abbrev Fewer : List RunRow → Type 0
  Fewer rows = (s : RunRow) → find_row base s.key ≡ Some s → is_long_past m s ≡ true → has_later s.key rows ≡ true → has_later s.key base ≡ true

  fewer_purged : (b : Book) (k : RunKey) → Fewer b.rows → Fewer (apply m (Purged k) b).rows
  fewer_purged b k fewer = subst (λ rows. Fewer (lift_row rows k)) (sym (purged_same m b.tasks k b.rows b.rows)) (λ s at past later. fewer s at past (later_lifted s.key k b.rows later))

  kept : (b : Book) (s : RunRow) → StandOrGone c m base b.rows → Fewer b.rows → find_row base s.key ≡ Some s → is_live_by c.number m s ≡ false → is_purgeable c.number m base s ≡ false → gone m base c b s.key ≡ None
  kept b s stand fewer at out stays = go (find_row b.rows s.key) refl
    where
      past : (r : RunRow) → Lasts m s r → (t : Bool) → is_long_past m r ≡ t → is_purgeable c.number m b.rows r ≡ false
      past r lasts false is = ap (λ t. t && (not (r.key.lead == c.number) || is_led_out b.rows r)) is
      past r lasts true is = ap (is_purgeable c.number m b.rows) (lasts is) ∙ fewer_stay c.number m base b.rows s (fewer s at (ap (is_long_past m) (sym (lasts is)) ∙ is)) stays

      go : (o : Option RunRow) → find_row b.rows s.key ≡ o → option_and_then (purge_run c m b) o ≡ None
      go None found = refl
      go (Some r) found = ap (λ t. change_if t (Purged r.key)) (past r (stand s r at out found) (is_long_past m r) refl)

  over_live : (rs : List RunRow) → AllByRecursion (λ s. find_row base s.key ≡ Some s) rs → AllByRecursion (λ s. is_live_by c.number m s ≡ false → is_purgeable c.number m base s ≡ false) rs → (d : Draft) → StandOrGone c m base d.book.rows → Fewer d.book.rows
      → make_keys (purge_run c m) m (keys_live_by c.number m rs) d ≡ make_keys (purge_run c m) m (keys_of_rows rs) d
  over_live [] all stay d stand fewer = refl
  over_live (s ∷ rs) all stay d stand fewer = go (is_live_by c.number m s) refl (over_live rs all.1 stay.1)
    where
      go : (t : Bool) → is_live_by c.number m s ≡ t
          → ((e : Draft) → StandOrGone c m base e.book.rows → Fewer e.book.rows → make_keys (purge_run c m) m (keys_live_by c.number m rs) e ≡ make_keys (purge_run c m) m (keys_of_rows rs) e)
          → make_keys (purge_run c m) m (keys_of_rows (cond t (s ∷ filter (is_live_by c.number m) rs) (filter (is_live_by c.number m) rs))) d ≡ make_keys (purge_run c m) m (keys_of_rows (s ∷ rs)) d
      go false out later = later d stand fewer ∙ sym (ap (λ o. make_keys (purge_run c m) m (keys_of_rows rs) (make m o d)) (kept d.book s stand fewer all.0 out (stay.0 out)))
      go true is later = later (make m (gone m base c d.book s.key) d) (gone_made c m base s.key d stand) (gone_keeps m base c Fewer fewer_purged s.key d fewer)

  -- a row that waits isn't over
  unlive_stays : (s : RunRow) → (is_still c.number s ≡ true → is_purgeable c.number m base s ≡ false) → is_live_by c.number m s ≡ false → is_purgeable c.number m base s ≡ false
  unlive_stays s stays out = go (unlive_by c.number m s out)
    where
      go : (is_still c.number s ≡ true) ⊎ ((is_waiting s ≡ true) × (has_come m s.interval ≡ false)) → is_purgeable c.number m base s ≡ false
      go (inl still) = stays still
      go (inr waits) =
          let parts = waiting_parts s waits.0 in
          ap₂ (λ a b. ((a || b) && nat_le (rest_of s + keeping) m) && (not (s.key.lead == c.number) || is_led_out base s)) parts.unclosed parts.unended

-- the purges of a turn, where that is so
pub purges_live : (c : Config) (m : ℕ) (base : List RunRow) → IsAscendingRows base → (d : Draft) → keys_of_rows d.book.rows ≡ keys_of_rows base
    → Stand c m base d.book.rows → StillStay c.number base m → let_go m base (make_tasks (ask c m) m d).changes ≡ false
    → make_keys (purge_run c m) m (keys_live_by c.number m base) (make_tasks (ask c m) m d) ≡ make_rows (purge_run c m) m (make_tasks (ask c m) m d)
purges_live c m base up d same stand stay none =
    let asked : Draft = make_tasks (ask c m) m d in
    let all : AllByRecursion (λ s. find_row base s.key ≡ Some s) base = recursion_from_All (λ s. find_row base s.key ≡ Some s) base (all_of_found (λ s. find_row base s.key ≡ Some s) base up (λ r at. at)) in
    let extended : Extended m base asked.book = extended_asks m base c (map (λ t. t.serial) d.book.tasks) d (extended_first m base up d.book same) in
    let stood : Stand c m base asked.book.rows = stand_asks c m base (map (λ t. t.serial) d.book.tasks) d stand in
    let known : Known m base asked = known_asks m base c (map (λ t. t.serial) d.book.tasks) d (known_first m base d same) in
    let fewer : Fewer c m base asked.book.rows = λ s at past later. known_let m base up s at past asked known none later in
    let stays = All-weaker (λ s. is_still c.number s ≡ true → is_purgeable c.number m base s ≡ false) (λ s. is_live_by c.number m s ≡ false → is_purgeable c.number m base s ≡ false) (unlive_stays c m base) base stay in
    over_live c m base base all (recursion_from_All (λ s. is_live_by c.number m s ≡ false → is_purgeable c.number m base s ≡ false) base stays) asked (stand_or_gone c m base asked.book.rows stood) fewer
    ∙ (ap (λ ks. make_keys (purge_run c m) m ks asked) (sym extended.keys) ∙ skipped m base c (keys_of_rows asked.book.rows) asked extended.young)
