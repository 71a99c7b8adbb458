-- A turn need ask about no more tasks than those that were awake before it.
use Rattle.std.specs.Prelude.{◌&&◌, ◌==◌, option_and_then, option_map}
use Rattle.std.specs.List.{range_with_len, AllByRecursion}
use Rattle.std.proofs.Common.{◌≡◌, ◌+◌, ◌≤◌, ◌∙◌, ℕ, suc, zero, nat_eq, Bool, true, false, cond, filter, length, map, List, [], ◌∷◌, Option, Some, None, is_some, refl, ap, sym, subst, arith}
use Rattle.std.proofs.lemmas.Bool.Decides.{nat_tests}
use Rattle.ps_time.specs.Span.{Range}
use Rattle.ps_time.specs.declared.key.RunKey.{RunKey}
use Rattle.schedule_rule.specs.Rule.{Schedule}
use Rattle.run_states.specs.Rows.{find_row, put_row}
use Rattle.run_states.specs.ResultBytes.{result_bytes}
use Rattle.run_states.specs.TaskRows.{is_of_task, newest_row}
use Rattle.run_states.specs.Life.{settled_row}
use Rattle.run_states.specs.declared.row.RunRow.{RunRow}
use Rattle.run_states.specs.declared.why.Denial.{Denial}
use Rattle.host_model.specs.Apply.{apply, put_new, settled}
use Rattle.host_model.specs.Book.{Book, find_task, latest_epoch, limits_in}
use Rattle.host_model.specs.Draft.{Draft, fresh, make, make_each}
use Rattle.host_model.specs.Ending.{end_run, ended_with, tool_view}
use Rattle.host_model.specs.Fits.{full_denial, objection}
use Rattle.host_model.specs.Grown.{Evolves, Remains}
use Rattle.host_model.specs.Lawful.{Lawful}
use Rattle.host_model.specs.Merging.{merge_run, merged_text}
use Rattle.host_model.specs.NextAttempt.{ask, asked_change, attempt_key, next_attempt}
use Rattle.host_model.specs.Plan.{change_of_plan, own_answer, plan, plan_asked, plan_run, planned_proposal, unless_objected, wanted_tools}
use Rattle.host_model.specs.Starting.{start_run}
use Rattle.host_model.specs.declared.change.Change.{Change}
use Rattle.host_model.specs.declared.change.Change.TheVariants.{Closed, Merged, Planned as planned_change, Started}
use Rattle.host_model.specs.declared.config.Config.{Config}
use Rattle.host_model.specs.declared.lead.Attempt.{Attempt}
use Rattle.host_model.specs.declared.lead.Planned.{Planned}
use Rattle.host_model.specs.declared.lead.Planned.TheVariants.{At, NoTool, NoSlot}
use Rattle.host_model.specs.declared.task_row.TaskRow.{TaskRow}
use Rattle.host_model.proofs.Evolve.{Evolves-trans}
use Rattle.host_model.proofs.GrownLemmas.{settled_evolves}
use Rattle.host_model.proofs.Standing.{changed_evolves, changed_row}
use Rattle.host_model.proofs.Wishes.{ask_granted, end_granted, merge_granted, plan_granted, start_granted}
use Rattle.live_law.specs.Groups.{make_keys, turned_most}
use Rattle.live_law.specs.Waking.{awake_serials, has_come, is_awake, turned_awake, wake_after, wake_by, wake_of}
use Rattle.live_law.proofs.DraftLemmas.{made_keeps}
use Rattle.live_law.proofs.WakingLemmas.{newest_map, newest_put, never, none_asleep}

-- ---- rows that are those of the book before the turn, each evolved
record Stand (base rows : List RunRow) : Type 0 where
  pub into : RunRow → RunRow
  pub evolves : (r : RunRow) → Evolves r (into r)
  pub are : rows ≡ map into base

mapped_twice : (f g : RunRow → RunRow) (rows : List RunRow) → map f (map g rows) ≡ map (λ r. f (g r)) rows
mapped_twice f g [] = refl
mapped_twice f g (r ∷ rs) = ap (λ l. f (g r) ∷ l) (mapped_twice f g rs)

stand_next : (base rows now : List RunRow) (f : RunRow → RunRow) → ((r : RunRow) → Evolves r (f r)) → Stand base rows → now ≡ map f rows → Stand base now
stand_next base rows now f up stand are = record {
  into = λ r. f (stand.into r);
  evolves = λ r. Evolves-trans r (stand.into r) (f (stand.into r)) (stand.evolves r) (up (stand.into r));
  are = are ∙ (ap (map f) stand.are ∙ mapped_twice f stand.into base);
}

-- ---- a task that sleeps goes on sleeping as rows evolve
asleep_one : (m : ℕ) (rule : Schedule) (j k : RunKey) (a b : Option ℕ) → k ≡ j → Remains a b → has_come m (wake_after rule j a) ≡ false → has_come m (wake_after rule k b) ≡ false
asleep_one m rule j k None b same kept asleep = absurd (never m asleep)
asleep_one m rule j k (Some s) b same kept asleep = subst (λ o. has_come m (wake_after rule k o) ≡ false) (sym (kept s refl)) (subst (λ x. has_come m (wake_after rule x (Some s)) ≡ false) (sym same) asleep)

pub asleep_mapped : (self m : ℕ) (f : RunRow → RunRow) → ((r : RunRow) → Evolves r (f r)) → (rows : List RunRow) (t : TaskRow) → is_awake self rows m t ≡ false → is_awake self (map f rows) m t ≡ false
asleep_mapped self m f up rows t asleep = ap (λ o. has_come m (wake_of t o)) (newest_map f (λ r. (up r).key) self t.serial rows) ∙ go (is_some t.closed) (newest_row self t.serial rows) asleep
  where
    go : (b : Bool) (o : Option RunRow) → has_come m (cond b None (wake_by t.task.rule o)) ≡ false → has_come m (cond b None (wake_by t.task.rule (option_map f o))) ≡ false
    go true o e = refl
    go false None e = e
    go false (Some r) e = asleep_one m t.task.rule r.key (f r).key r.confirmed (f r).confirmed (up r).key (up r).confirmed e

-- ---- the groups over rows
record Wishes (m : ℕ) (wish : Book → RunRow → Option Change) : Type 0 where
  pub next : (base : List RunRow) (b : Book) (r : RunRow) (x : Change) → wish b r ≡ Some x → Stand base b.rows → Stand base (apply m x b).rows × ((apply m x b).tasks ≡ b.tasks)

-- what holds through them
record Held (base : List RunRow) (tasks : List TaskRow) (b : Book) : Type 0 where
  pub stand : Stand base b.rows
  pub known : b.tasks ≡ tasks

group_held : (m : ℕ) (wish : Book → RunRow → Option Change) → Wishes m wish → (base : List RunRow) (tasks : List TaskRow) (ks : List RunKey) (d : Draft) → Held base tasks d.book → Held base tasks (make_keys wish m ks d).book
group_held m wish wishes base tasks [] d held = held
group_held m wish wishes base tasks (k ∷ ks) d held = group_held m wish wishes base tasks ks (make m (option_and_then (wish d.book) (find_row d.book.rows k)) d) (found (find_row d.book.rows k))
  where
    wished : (r : RunRow) (o : Option Change) → wish d.book r ≡ o → Held base tasks (make m o d).book
    wished r None is = held
    wished r (Some x) is =
        let n = wishes.next base d.book r x is held.stand in
        made_keeps (Held base tasks) m x d held (record { stand = n.0; known = n.1 ∙ held.known })

    found : (o : Option RunRow) → Held base tasks (make m (option_and_then (wish d.book) o) d).book
    found None = held
    found (Some r) = wished r (wish d.book r) refl

-- a change of one row
abbrev Goes : ℕ → Book → Change → Type 0
Goes m b x = (base : List RunRow) → Stand base b.rows → Stand base (apply m x b).rows × ((apply m x b).tasks ≡ b.tasks)

end_wishes : (c : Config) (m : ℕ) → Wishes m (end_run c m)
end_wishes c m = record {
  next = λ base b r x is stand.
      let e = end_granted c m b r x is in
      let d : Change = ended_with r (tool_view c r e.started) e.outcome in
      let goes : Goes m b d = λ own s. (stand_next own b.rows (apply m d b).rows (changed_row m b.tasks d b.rows) (λ y. changed_evolves m b.tasks d b.rows y (λ same. tt)) s refl, refl) in
      subst (Goes m b) e.is goes base stand;
}

merge_wishes : (c : Config) (m : ℕ) → Wishes m (merge_run c m)
merge_wishes c m = record {
  next = λ base b r x is stand.
      let e = merge_granted c m b r x is in
      let d : Change = Merged r.key (merged_text r) in
      let goes : Goes m b d = λ own s. (stand_next own b.rows (apply m d b).rows (changed_row m b.tasks d b.rows) (λ y. changed_evolves m b.tasks d b.rows y (λ same. tt)) s refl, refl) in
      subst (Goes m b) e.is goes base stand;
}

start_wishes : (m : ℕ) → Wishes m (start_run m)
start_wishes m = record {
  next = λ base b r x is stand.
      let e = start_granted m b r x is in
      let d : Change = Started r.key in
      let goes : Goes m b d = λ own s. (stand_next own b.rows (apply m d b).rows (changed_row m b.tasks d b.rows) (λ y. changed_evolves m b.tasks d b.rows y (λ same. tt)) s refl, refl) in
      subst (Goes m b) e.is goes base stand;
}

module _ (c : Config) (m : ℕ) (b : Book) (r : RunRow) where
  closed_goes : (why : _) → Goes m b (Closed r.key why)
  closed_goes why base s = (stand_next base b.rows (apply m (Closed r.key why) b).rows (changed_row m b.tasks (Closed r.key why) b.rows) (λ y. changed_evolves m b.tasks (Closed r.key why) b.rows y (λ same. tt)) s refl, refl)

  planned_goes : (start : ℕ) (tool : List ℕ) (epoch : ℕ) → Goes m b (planned_change r.key start tool epoch)
  planned_goes start tool epoch base s =
      let d : Change = planned_change r.key start tool epoch in
      (stand_next base b.rows (apply m d b).rows (changed_row m b.tasks d b.rows) (λ y. changed_evolves m b.tasks d b.rows y (λ same. tt)) s refl, refl)

  unobjected : (start : ℕ) (tool : List ℕ) (o : Option Denial) → Goes m b (unless_objected c b (planned_proposal r start tool) o)
  unobjected start tool None = planned_goes start tool (latest_epoch b)
  unobjected start tool (Some denial) = closed_goes _

  by_plan : (p : Planned) → Goes m b (change_of_plan c b m r p)
  by_plan (At start tool) = unobjected start tool (objection c.installed (limits_in c b) b.rows m (planned_proposal r start tool))
  by_plan NoTool = closed_goes _
  by_plan NoSlot = closed_goes _

  by_question : (w : Option Range) → Goes m b (plan_asked c b m r w)
  by_question None = closed_goes _
  by_question (Some w) = by_plan (plan m (wanted_tools (find_task b.tasks r.key.task)) r (own_answer c b m r w))

plan_wishes : (c : Config) (m : ℕ) → Wishes m (plan_run c m)
plan_wishes c m = record { next = λ base b r x is stand. subst (Goes m b) (plan_granted c m b r x is).1 (by_question c m b r r.question) base stand }

-- ---- the questions: of tasks that sleep there are none, and the others' leave these asleep
module _ (c : Config) (m : ℕ) (base : List RunRow) (tasks : List TaskRow) where
  abbrev self : ℕ
  self = c.number

  abbrev wish : Book → ℕ → Option Change
  wish b serial = option_and_then (ask c m b) (find_task b.tasks serial)

  abbrev awake : TaskRow → Bool
  awake = is_awake self base m

  record Asks (b : Book) : Type 0 where
    pub known : b.tasks ≡ tasks
    pub sleep : (u : TaskRow) → find_task tasks u.serial ≡ Some u → awake u ≡ false → is_awake self b.rows m u ≡ false

  none_asked : (b : Book) (t : TaskRow) → is_awake self b.rows m t ≡ false → ask c m b t ≡ None
  none_asked b t asleep = elim (is_some (full_denial b.rows (result_bytes b.rows))) as (λ x. cond x None (option_map (asked_change c t) (next_attempt self b.rows m t)) ≡ None) [
    | true ↦ refl
    | false ↦ ap (option_map (asked_change c t)) (none_asleep self m b.rows t asleep)
  ]

  -- one task's question comes
  module _ (b : Book) (t : TaskRow) (at : find_task tasks t.serial ≡ Some t) (up : awake t ≡ true) (asks : Asks b) (a : Attempt) where
    abbrev asked : Change
    asked = asked_change c t a

    abbrev evolved : List RunRow
    evolved = map (changed_row m b.tasks asked b.rows) b.rows

    apart : (u : TaskRow) → find_task tasks u.serial ≡ Some u → awake u ≡ false → nat_eq t.serial u.serial ≡ false
    apart u there asleep = go (nat_eq t.serial u.serial) refl
      where
        go : (e : Bool) → nat_eq t.serial u.serial ≡ e → e ≡ false
        go false is = refl
        go true is =
            let same : t.serial ≡ u.serial = grind (arith, nat_tests, is) in
            let found : Some t ≡ Some u = sym at ∙ (ap (find_task tasks) same ∙ there) in
            let own : t ≡ u = cc in
            let no : awake t ≡ false = subst (λ y. awake y ≡ false) (sym own) asleep in
            cc

    beside : (u : TaskRow) → is_awake self evolved m u ≡ false → nat_eq t.serial u.serial ≡ false → (r : RunRow) → r.key ≡ attempt_key self t.serial a → is_awake self (put_new (Some r) evolved) m u ≡ false
    beside u asleep other r key = elim (is_some (find_row evolved r.key)) as (λ x. is_awake self (cond x evolved (put_row evolved r)) m u ≡ false) [
      | true ↦ asleep
      | false ↦ ap (λ o. has_come m (wake_of u o)) (newest_put self u.serial r not_own evolved) ∙ asleep
    ]
      where
        not_own : is_of_task self u.serial r ≡ false
        not_own = ap (λ k. (k.lead == self) && (k.task == u.serial)) key ∙ go (self == self) other
          where
            go : (x : Bool) → nat_eq t.serial u.serial ≡ false → (x && (t.serial == u.serial)) ≡ false
            go true e = e
            go false e = refl

    asks_next : Asks (apply m asked b)
    asks_next = record {
      known = asks.known;
      sleep = λ u there asleep. beside u (asleep_mapped self m (changed_row m b.tasks asked b.rows) (λ y. changed_evolves m b.tasks asked b.rows y (λ same. tt)) b.rows u (asks.sleep u there asleep)) (apart u there asleep) _ refl;
    }

  asks_on : (t : TaskRow) → find_task tasks t.serial ≡ Some t → awake t ≡ true → (d : Draft) → Asks d.book → Asks (make m (wish d.book t.serial) d).book
  asks_on t at up d asks = subst (λ o. Asks (make m o d).book) (sym (ap (λ l. option_and_then (ask c m d.book) (find_task l t.serial)) asks.known ∙ ap (option_and_then (ask c m d.book)) at)) (go (ask c m d.book t) refl)
    where
      go : (o : Option Change) → ask c m d.book t ≡ o → Asks (make m o d).book
      go None is = asks
      go (Some x) is =
          let g = ask_granted c m d.book t x is in
          made_keeps Asks m x d asks (subst (λ y. Asks (apply m y d.book)) g.is (asks_next d.book t at up asks g.attempt))

  asked_same : (ts : List TaskRow) → AllByRecursion (λ t. find_task tasks t.serial ≡ Some t) ts → (d : Draft) → Asks d.book → make_each wish m (map (λ t. t.serial) (filter awake ts)) d ≡ make_each wish m (map (λ t. t.serial) ts) d
  asked_same [] all d asks = refl
  asked_same (t ∷ ts) all d asks = go (awake t) refl (asked_same ts all.1)
    where
      go : (x : Bool) → awake t ≡ x → ((e : Draft) → Asks e.book → make_each wish m (map (λ t. t.serial) (filter awake ts)) e ≡ make_each wish m (map (λ t. t.serial) ts) e)
          → make_each wish m (map (λ t. t.serial) (cond x (t ∷ filter awake ts) (filter awake ts))) d ≡ make_each wish m (map (λ t. t.serial) ts) (make m (wish d.book t.serial) d)
      go true is later = later (make m (wish d.book t.serial) d) (asks_on t all.0 is d asks)
      go false is later =
          let none : wish d.book t.serial ≡ None = ap (λ l. option_and_then (ask c m d.book) (find_task l t.serial)) asks.known ∙ (ap (option_and_then (ask c m d.book)) all.0 ∙ none_asked d.book t (asks.sleep t all.0 is)) in
          later d asks ∙ sym (ap (λ o. make_each wish m (map (λ t. t.serial) ts) (make m o d)) none)

-- ---- each task is found by its serial
found_all : (a n : ℕ) (ts : List TaskRow) → map (λ t. t.serial) ts ≡ range_with_len a n → AllByRecursion (λ t. find_task ts t.serial ≡ Some t) ts
found_all a n [] are = tt
found_all a zero (t ∷ ts) are = cc
found_all a (suc n) (t ∷ ts) are = (ap (λ x. cond x (Some t) (find_task ts t.serial)) own, behind ts (found_all (a + 1) n ts rest) (above (a + 1) n ts rest))
  where
    own : (t.serial == t.serial) ≡ true
    own = grind (arith, nat_tests)

    first : t.serial ≡ a
    first = cc

    rest : map (λ u. u.serial) ts ≡ range_with_len (a + 1) n
    rest = cc

    above : (i k : ℕ) (us : List TaskRow) → map (λ u. u.serial) us ≡ range_with_len i k → AllByRecursion (λ u. i ≤ u.serial) us
    above i k [] e = tt
    above i zero (u ∷ us) e = cc
    above i (suc k) (u ∷ us) e = let own : u.serial ≡ i = cc in let more : map (λ v. v.serial) us ≡ range_with_len (i + 1) k = cc in (omega (arith, own), lower us (above (i + 1) k us more))
      where
        lower : (vs : List TaskRow) → AllByRecursion (λ v. i + 1 ≤ v.serial) vs → AllByRecursion (λ v. i ≤ v.serial) vs
        lower [] all = tt
        lower (v ∷ vs) all = (omega (arith, all.0), lower vs all.1)

    behind : (us : List TaskRow) → AllByRecursion (λ u. find_task ts u.serial ≡ Some u) us → AllByRecursion (λ u. a + 1 ≤ u.serial) us → AllByRecursion (λ u. find_task (t ∷ ts) u.serial ≡ Some u) us
    behind [] all high = tt
    behind (u ∷ us) all high =
        let other : (t.serial == u.serial) ≡ false = grind (arith, nat_tests, first, high.0) in
        (ap (λ x. cond x (Some t) (find_task ts u.serial)) other ∙ all.0, behind us all.1 high.1)

-- ---- the groups of a turn before the purging
pub awake_same : (c : Config) (m : ℕ) (live : List RunKey) (b : Book) → Lawful c.number b → turned_awake c m live (awake_serials c.number m b) (fresh (settled m b)) ≡ turned_most c m live (fresh (settled m b))
awake_same c m live b lawful =
    let d0 : Draft = fresh (settled m b) in
    let d1 : Draft = make_keys (end_run c m) m live d0 in
    let d2 : Draft = make_keys (merge_run c m) m live d1 in
    let d3 : Draft = make_keys (start_run m) m live d2 in
    let d4 : Draft = make_keys (plan_run c m) m live d3 in
    let h0 : Held b.rows b.tasks d0.book = record { stand = record { into = settled_row m; evolves = settled_evolves m; are = refl }; known = refl } in
    let h1 = group_held m (end_run c m) (end_wishes c m) b.rows b.tasks live d0 h0 in
    let h2 = group_held m (merge_run c m) (merge_wishes c m) b.rows b.tasks live d1 h1 in
    let h3 = group_held m (start_run m) (start_wishes m) b.rows b.tasks live d2 h2 in
    let h4 : Held b.rows b.tasks d4.book = group_held m (plan_run c m) (plan_wishes c m) b.rows b.tasks live d3 h3 in
    let asks : Asks c m b.rows b.tasks d4.book = record {
      known = h4.known;
      sleep = λ u there asleep. subst (λ rows. is_awake c.number rows m u ≡ false) (sym h4.stand.are) (asleep_mapped c.number m h4.stand.into h4.stand.evolves b.rows u asleep);
    } in
    asked_same c m b.rows b.tasks b.tasks (found_all 1 (length b.tasks) b.tasks lawful.serials) d4 asks
    ∙ ap (λ ts. make_each (λ x serial. option_and_then (ask c m x) (find_task x.tasks serial)) m (map (λ t. t.serial) ts) d4) (sym h4.known)
