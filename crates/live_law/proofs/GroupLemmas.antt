-- A group of a turn over the keys of the rows that were live by its moment is the group over all rows.
use Rattle.std.specs.List.{AllByRecursion}
use Rattle.std.proofs.Common.{◌≡◌, ◌≤◌, ◌+◌, ℕ, Bool, true, false, not, cond, ◌&&◌, ◌||◌, nat_le, List, [], ◌∷◌, map, filter, max, Option, Some, None, is_some, option_map, option_and_then, refl, ap, ap₂, sym, subst, ◌∙◌, arith}
use Rattle.std.proofs.Math.Bool.{and-false}
use Rattle.std.proofs.lemmas.Bool.Decides.{nat_tests}
use Rattle.std.proofs.lemmas.List.Elements.{recursion_from_All}
use Rattle.ps_time.specs.Span.{Range}
use Rattle.ps_time.specs.declared.key.RunKey.{RunKey}
use Rattle.run_states.specs.Conflict.{in_conflict}
use Rattle.run_states.specs.Life.{close_row, first_there, settled_row, settled_rows}
use Rattle.run_states.specs.Preemption.{Incoming, give_way}
use Rattle.run_states.specs.Purging.{is_long_past, keeping, later_of, rest_of}
use Rattle.run_states.specs.Rows.{IsAscendingRows, find_row}
use Rattle.run_states.specs.declared.row.RunRow.{RunRow}
use Rattle.run_states.specs.declared.why.Closing.{Closing}
use Rattle.run_states.specs.declared.why.Denial.{Denial}
use Rattle.run_states.specs.declared.why.Why.TheVariants.{Preempted}
use Rattle.host_model.specs.Apply.{apply, settled}
use Rattle.host_model.specs.Book.{Book, find_task, keys_of_rows, latest_epoch, limits_in}
use Rattle.host_model.specs.Draft.{Draft, fresh, make, make_rows, make_tasks, turned}
use Rattle.host_model.specs.Effect.{change_key, effect, has_key}
use Rattle.host_model.specs.Ending.{end_run, ended_with, tool_view}
use Rattle.host_model.specs.Fits.{objection}
use Rattle.host_model.specs.Lawful.{Lawful}
use Rattle.host_model.specs.Merging.{merge_run, merged_text}
use Rattle.host_model.specs.NextAttempt.{ask}
use Rattle.host_model.specs.Plan.{change_of_plan, own_answer, plan, plan_asked, plan_run, planned_proposal, unless_objected, wanted_tools}
use Rattle.host_model.specs.Preemption.{incoming}
use Rattle.host_model.specs.Purging.{purge_run}
use Rattle.host_model.specs.Starting.{may_start, start_run}
use Rattle.host_model.specs.declared.change.Change.{Change}
use Rattle.host_model.specs.declared.change.Change.TheVariants.{Closed, Merged, Planned as planned_change, Started}
use Rattle.host_model.specs.declared.config.Config.{Config}
use Rattle.host_model.specs.declared.lead.Planned.{Planned}
use Rattle.host_model.specs.declared.lead.Planned.TheVariants.{At, NoTool, NoSlot}
use Rattle.host_model.proofs.Keyed.{key_is}
use Rattle.host_model.proofs.Placed.{find_row-key, find_row-own}
use Rattle.host_model.proofs.RowLemmas.{all_of_found}
use Rattle.host_model.proofs.Standing.{changed_key, changed_row, find_row-map, way_evolves}
use Rattle.host_model.proofs.Wishes.{end_granted, merge_granted, plan_granted, start_granted}
use Rattle.host_model.proofs.GrownLemmas.{settled_evolves}
use Rattle.live_law.specs.Groups.{going_keys, let_go, make_keys, turned_by, turned_most, turned_over}
use Rattle.host_rows.specs.Still.{is_live_by, keys_live_by, StillStay}
use Rattle.live_law.proofs.DraftLemmas.{made_keeps}
use Rattle.live_law.proofs.PurgeLemmas.{purges_live, purges_same, Lasts}
use Rattle.live_law.proofs.StillLemmas.{idle_by, idle_end, idle_merge, idle_plan, idle_start, some_same, unlive_settled, IsIdle}

-- ---- what becomes of a row that isn't live by the moment
record StaysIdle (self m : ℕ) (s r : RunRow) : Type 0 where
  pub idle : IsIdle self m r
  pub lasts : Lasts m s r

-- once it is closed at the moment it is idle, and not long past
module _ (self m : ℕ) (s r : RunRow) (kept : StaysIdle self m s r) (c : Closing) (at : c.moment ≡ m) (open_row : is_some r.closed ≡ false) where
  closing_is : (o : Option Closing) → is_some o ≡ false → first_there o (Some c) ≡ Some c
  closing_is None e = refl
  closing_is (Some x) e = cc

  closed : first_there r.closed (Some c) ≡ Some c
  closed = closing_is r.closed open_row

  abbrev gone : RunRow
  gone = close_row c r

  later_least : (o : Option ℕ) (n : ℕ) → n ≤ later_of o n
  later_least None n = omega arith
  later_least (Some x) n = omega arith

  unbooked : (a : Bool) (o : Option Closing) (rest : Bool) → o ≡ Some c → ((a && not (is_some o)) && rest) ≡ false
  unbooked a o rest is = ap (λ x. (a && not (is_some x)) && rest) is ∙ ap (λ x. x && rest) (and-false a)

  rests : m ≤ rest_of gone
  rests =
      let d0 : ℕ = later_of (option_map (λ x. x.moment) gone.closed) 0 in
      let d1 : ℕ = later_of (option_map (λ e. e.moment) r.ended) d0 in
      let d2 : ℕ = later_of r.material d1 in
      let d3 : ℕ = later_of r.started d2 in
      let d4 : ℕ = later_of r.confirmed d3 in
      let d5 : ℕ = later_of r.accepted d4 in
      let d6 : ℕ = later_of r.asked d5 in
      let d7 : ℕ = later_of (option_map (λ i. i.end) r.interval) d6 in
      let l0 : d0 ≡ max c.moment 0 = ap (λ o. later_of (option_map (λ x. x.moment) o) 0) closed in
      let l1 : d0 ≤ d1 = later_least (option_map (λ e. e.moment) r.ended) d0 in
      let l2 : d1 ≤ d2 = later_least r.material d1 in
      let l3 : d2 ≤ d3 = later_least r.started d2 in
      let l4 : d3 ≤ d4 = later_least r.confirmed d3 in
      let l5 : d4 ≤ d5 = later_least r.accepted d4 in
      let l6 : d5 ≤ d6 = later_least r.asked d5 in
      let l7 : d6 ≤ d7 = later_least (option_map (λ i. i.end) r.interval) d6 in
      omega (arith, at, l0, l1, l2, l3, l4, l5, l6, l7)

  young : is_long_past m gone ≡ false
  young =
      let early : nat_le (rest_of gone + keeping) m ≡ false = too_early (rest_of gone) rests in
      ap (λ t. (is_some gone.closed || is_some gone.ended) && t) early ∙ and-false (is_some gone.closed || is_some gone.ended)
    where
      too_early : (n : ℕ) → m ≤ n → nat_le (n + keeping) m ≡ false
      too_early n low = grind (arith, nat_tests, low)

  closed_kept : StaysIdle self m s gone
  closed_kept = record {
    idle = record {
      inactive = kept.idle.inactive;
      merged = kept.idle.merged;
      unready = unbooked (is_some r.accepted) gone.closed (is_some r.confirmed && (not (is_some r.started) && may_start m r.interval)) closed;
      planned = ap (λ o. not (is_some r.accepted) && not (is_some o)) closed ∙ and-false (not (is_some r.accepted));
    };
    lasts = λ past. let never : false ≡ true = sym young ∙ past in cc;
  }

way_kept : (self m : ℕ) (o : Option Incoming) (s r : RunRow) → StaysIdle self m s r → StaysIdle self m s (give_way m o r)
way_kept self m None s r kept = kept
way_kept self m (Some i) s r kept = go (in_conflict i.key i.class i.interval r) refl
  where
    booked_open : (other accepted closed clashes : Bool) → (other && ((accepted && not closed) && clashes)) ≡ true → closed ≡ false
    booked_open true true false clashes e = refl
    booked_open true true true clashes e = cc
    booked_open true false closed clashes e = cc
    booked_open false accepted closed clashes e = cc

    go : (t : Bool) → in_conflict i.key i.class i.interval r ≡ t → StaysIdle self m s (cond t (close_row (record { moment = m; why = Preempted i.key }) r) r)
    go false other = kept
    go true hit = closed_kept self m s r kept (record { moment = m; why = Preempted i.key }) refl (booked_open _ (is_some r.accepted) (is_some r.closed) _ hit)

-- ---- what holds through a group: such rows are there, and the keys are the same
record Held (self m : ℕ) (base : List RunRow) (b : Book) : Type 0 where
  pub stand : (s : RunRow) → find_row base s.key ≡ Some s → is_live_by self m s ≡ false → (r : RunRow) × (find_row b.rows s.key ≡ Some r) × StaysIdle self m s r
  pub keys : keys_of_rows b.rows ≡ keys_of_rows base

mapped_keys : (f : RunRow → RunRow) → ((r : RunRow) → (f r).key ≡ r.key) → (rows : List RunRow) → keys_of_rows (map f rows) ≡ keys_of_rows rows
mapped_keys f same [] = refl
mapped_keys f same (r ∷ rs) = ap₂ (λ k ks. k ∷ ks) (same r) (mapped_keys f same rs)

-- a change of one row that isn't idle
module _ (self m : ℕ) (base : List RunRow) (b : Book) (held : Held self m base b) (r : RunRow) (at : find_row b.rows r.key ≡ Some r) (busy : IsIdle self m r → ⊥) (x : Change) (rows_are : (apply m x b).rows ≡ map (changed_row m b.tasks x b.rows) b.rows)
    (own : change_key x ≡ Some r.key) where
  abbrev f : RunRow → RunRow
  f = changed_row m b.tasks x b.rows

  stays : (s q : RunRow) → find_row b.rows s.key ≡ Some q → StaysIdle self m s q → StaysIdle self m s (f q)
  stays s q found kept = go (has_key way.key (change_key x)) refl
    where
      way : RunRow
      way = give_way m (incoming b.rows x) q

      go : (t : Bool) → has_key way.key (change_key x) ≡ t → StaysIdle self m s (cond t (effect m b.tasks x way) way)
      go false other = way_kept self m (incoming b.rows x) s q kept
      go true same =
          let way_key : way.key ≡ r.key = key_is way.key r.key (ap (has_key way.key) (sym own) ∙ same) in
          let row_key : r.key ≡ s.key = sym way_key ∙ ((way_evolves m (incoming b.rows x) q).key ∙ find_row-key b.rows s.key q found) in
          let is : q ≡ r = some_same q r (sym found ∙ (ap (λ k. find_row b.rows k) (sym row_key) ∙ at)) in
          absurd (busy (subst (IsIdle self m) is kept.idle))

  held_next : Held self m base (apply m x b)
  held_next = record {
    stand = λ s there out.
        let q = held.stand s there out in
        (f q.0, ap (λ l. find_row l s.key) rows_are ∙ (find_row-map f (changed_key m b.tasks x b.rows) b.rows s.key ∙ ap (option_map f) q.1), stays s q.0 q.1 q.2);
    keys = ap keys_of_rows rows_are ∙ (mapped_keys f (changed_key m b.tasks x b.rows) b.rows ∙ held.keys);
  }

-- ---- groups whose wishes are None for idle rows, and that keep this
record Keeps (self m : ℕ) (base : List RunRow) (wish : Book → RunRow → Option Change) : Type 0 where
  pub idle : (b : Book) (r : RunRow) → IsIdle self m r → wish b r ≡ None
  pub next : (b : Book) (r : RunRow) (x : Change) → Held self m base b → find_row b.rows r.key ≡ Some r → wish b r ≡ Some x → Held self m base (apply m x b)

module _ (self m : ℕ) (base : List RunRow) (wish : Book → RunRow → Option Change) (keeps : Keeps self m base wish) where
  abbrev at_key : Book → RunKey → Option Change
  at_key b k = option_and_then (wish b) (find_row b.rows k)

  one_held : (k : RunKey) (d : Draft) → Held self m base d.book → Held self m base (make m (at_key d.book k) d).book
  one_held k d held = found (find_row d.book.rows k) refl
    where
      wished : (r : RunRow) → find_row d.book.rows k ≡ Some r → (o : Option Change) → wish d.book r ≡ o → Held self m base (make m o d).book
      wished r at None is = held
      wished r at (Some x) is = made_keeps (λ b. Held self m base b) m x d held (keeps.next d.book r x held (find_row-own d.book.rows k r at) is)

      found : (o : Option RunRow) → find_row d.book.rows k ≡ o → Held self m base (make m (option_and_then (wish d.book) o) d).book
      found None at = held
      found (Some r) at = wished r at (wish d.book r) refl

  group_held : (ks : List RunKey) (d : Draft) → Held self m base d.book → Held self m base (make_keys wish m ks d).book
  group_held [] d held = held
  group_held (k ∷ ks) d held = group_held ks (make m (at_key d.book k) d) (one_held k d held)

  over : (rs : List RunRow) → AllByRecursion (λ s. find_row base s.key ≡ Some s) rs → (d : Draft) → Held self m base d.book → make_keys wish m (keys_live_by self m rs) d ≡ make_keys wish m (keys_of_rows rs) d
  over [] all d held = refl
  over (s ∷ rs) all d held = go (is_live_by self m s) refl (over rs all.1)
    where
      go : (t : Bool) → is_live_by self m s ≡ t → ((e : Draft) → Held self m base e.book → make_keys wish m (keys_live_by self m rs) e ≡ make_keys wish m (keys_of_rows rs) e)
          → make_keys wish m (keys_of_rows (cond t (s ∷ filter (is_live_by self m) rs) (filter (is_live_by self m) rs))) d ≡ make_keys wish m (keys_of_rows (s ∷ rs)) d
      go false out later =
          let q = held.stand s all.0 out in
          let none : at_key d.book s.key ≡ None = ap (option_and_then (wish d.book)) q.1 ∙ keeps.idle d.book q.0 q.2.idle in
          later d held ∙ sym (ap (λ o. make_keys wish m (keys_of_rows rs) (make m o d)) none)
      go true is later = later (make m (at_key d.book s.key) d) (one_held s.key d held)

  group_same : AllByRecursion (λ s. find_row base s.key ≡ Some s) base → (d : Draft) → Held self m base d.book → make_keys wish m (keys_live_by self m base) d ≡ make_rows wish m d
  group_same all d held = over base all d held ∙ ap (λ ks. make_keys wish m ks d) (sym held.keys)

-- ---- the groups
module _ (c : Config) (m : ℕ) (base : List RunRow) where
  abbrev self : ℕ
  self = c.number

  end_keeps : Keeps self m base (end_run c m)
  end_keeps = record {
    idle = λ b r is. idle_end self m r is c b;
    next = λ b r x held at is.
        let e = end_granted c m b r x is in
        let busy : IsIdle self m r → ⊥ = λ idle. let none = idle_end self m r idle c b in cc in
        subst (λ y. Held self m base (apply m y b)) e.is (held_next self m base b held r at busy (ended_with r (tool_view c r e.started) e.outcome) refl refl);
  }

  merge_keeps : Keeps self m base (merge_run c m)
  merge_keeps = record {
    idle = λ b r is. idle_merge self m r is c b refl;
    next = λ b r x held at is.
        let e = merge_granted c m b r x is in
        let busy : IsIdle self m r → ⊥ = λ idle. let none = idle_merge self m r idle c b refl in cc in
        subst (λ y. Held self m base (apply m y b)) e.is (held_next self m base b held r at busy (Merged r.key (merged_text r)) refl refl);
  }

  start_keeps : Keeps self m base (start_run m)
  start_keeps = record {
    idle = λ b r is. idle_start self m r is b;
    next = λ b r x held at is.
        let e = start_granted m b r x is in
        let busy : IsIdle self m r → ⊥ = λ idle. let none = idle_start self m r idle b in cc in
        subst (λ y. Held self m base (apply m y b)) e.is (held_next self m base b held r at busy (Started r.key) refl refl);
  }

  -- ---- planning
  module _ (b : Book) (held : Held self m base b) (r : RunRow) (at : find_row b.rows r.key ≡ Some r) (busy : IsIdle self m r → ⊥) where
    closed_held : (why : _) → Held self m base (apply m (Closed r.key why) b)
    closed_held why = held_next self m base b held r at busy (Closed r.key why) refl refl

    objected : (start : ℕ) (tool : List ℕ) (o : Option Denial) → Held self m base (apply m (unless_objected c b (planned_proposal r start tool) o) b)
    objected start tool None = held_next self m base b held r at busy (planned_change r.key start tool (latest_epoch b)) refl refl
    objected start tool (Some denial) = closed_held _

    by_plan : (p : Planned) → Held self m base (apply m (change_of_plan c b m r p) b)
    by_plan (At start tool) = objected start tool (objection c.installed (limits_in c b) b.rows m (planned_proposal r start tool))
    by_plan NoTool = closed_held _
    by_plan NoSlot = closed_held _

    by_question : (w : Option Range) → Held self m base (apply m (plan_asked c b m r w) b)
    by_question None = closed_held _
    by_question (Some w) = by_plan (plan m (wanted_tools (find_task b.tasks r.key.task)) r (own_answer c b m r w))

  plan_keeps : Keeps self m base (plan_run c m)
  plan_keeps = record {
    idle = λ b r is. idle_plan self m r is c b;
    next = λ b r x held at is.
        let e = plan_granted c m b r x is in
        let busy : IsIdle self m r → ⊥ = λ idle. let none = idle_plan self m r idle c b in cc in
        subst (λ y. Held self m base (apply m y b)) e.1 (by_question b held r at busy r.question);
  }

-- ---- the turn, over a draft whose rows are these but for what lapsed
module _ (c : Config) (m : ℕ) (base : List RunRow) (up : IsAscendingRows base) (d : Draft) (at_first : Held c.number m base d.book) where
  abbrev live : List RunKey
  live = keys_live_by c.number m base

  found : AllByRecursion (λ s. find_row base s.key ≡ Some s) base
  found = recursion_from_All (λ s. find_row base s.key ≡ Some s) base (all_of_found (λ s. find_row base s.key ≡ Some s) base up (λ r at. at))

  -- the groups that go over them
  abbrev led : Draft
  led = make_keys (plan_run c m) m live (make_keys (start_run m) m live (make_keys (merge_run c m) m live (make_keys (end_run c m) m live d)))

  led_same : (led ≡ make_rows (plan_run c m) m (make_rows (start_run m) m (make_rows (merge_run c m) m (make_rows (end_run c m) m d)))) × Held c.number m base led.book
  led_same =
      let ends = make_keys (end_run c m) m live d in
      let held_ends = group_held c.number m base (end_run c m) (end_keeps c m base) live d at_first in
      let merges = make_keys (merge_run c m) m live ends in
      let held_merges = group_held c.number m base (merge_run c m) (merge_keeps c m base) live ends held_ends in
      let starts = make_keys (start_run m) m live merges in
      let held_starts = group_held c.number m base (start_run m) (start_keeps c m base) live merges held_merges in
      let held_plans = group_held c.number m base (plan_run c m) (plan_keeps c m base) live starts held_starts in
      let first_is : ends ≡ make_rows (end_run c m) m d = group_same c.number m base (end_run c m) (end_keeps c m base) found d at_first in
      let second_is : merges ≡ make_rows (merge_run c m) m ends = group_same c.number m base (merge_run c m) (merge_keeps c m base) found ends held_ends in
      let third_is : starts ≡ make_rows (start_run m) m merges = group_same c.number m base (start_run m) (start_keeps c m base) found merges held_merges in
      let fourth_is : make_keys (plan_run c m) m live starts ≡ make_rows (plan_run c m) m starts = group_same c.number m base (plan_run c m) (plan_keeps c m base) found starts held_starts in
      let two : merges ≡ make_rows (merge_run c m) m (make_rows (end_run c m) m d) = second_is ∙ ap (make_rows (merge_run c m) m) first_is in
      let three : starts ≡ make_rows (start_run m) m (make_rows (merge_run c m) m (make_rows (end_run c m) m d)) = third_is ∙ ap (make_rows (start_run m) m) two in
      (fourth_is ∙ ap (make_rows (plan_run c m) m) three, held_plans)

first_kept : (n m : ℕ) (s : RunRow) → is_live_by n m s ≡ false → StaysIdle n m s s
first_kept n m s out = record { idle = idle_by n m s out; lasts = λ past. refl }

pub turned_same : (c : Config) (m : ℕ) (d : Draft) → Lawful c.number d.book → turned_over c m (keys_live_by c.number m d.book.rows) d ≡ turned c m d
turned_same c m d lawful =
    let at_first : Held c.number m d.book.rows d.book = record { stand = λ s at out. (s, at, first_kept c.number m s out); keys = refl } in
    ap (λ x. make_rows (purge_run c m) m (make_tasks (ask c m) m x)) (led_same c m d.book.rows lawful.ascending d at_first).0

-- a book that settled
settled_held : (n m : ℕ) (b : Book) → Held n m b.rows (settled m b)
settled_held n m b = record {
  stand = λ s at out. (s, found_settled s.key ∙ (ap (option_map (settled_row m)) at ∙ ap (λ r. Some r) (unlive_settled n m s out)), first_kept n m s out);
  keys = mapped_keys (settled_row m) (λ r. (settled_evolves m r).key) b.rows;
}
  where
    found_settled : (k : RunKey) → find_row (settled_rows m b.rows) k ≡ option_map (settled_row m) (find_row b.rows k)
    found_settled k = find_row-map (settled_row m) (λ r. (settled_evolves m r).key) b.rows k

-- such rows last
stood : (n m : ℕ) (base : List RunRow) (b : Book) → Held n m base b → (s : RunRow) → find_row base s.key ≡ Some s → is_live_by n m s ≡ false → (r : RunRow) × (find_row b.rows s.key ≡ Some r) × Lasts m s r
stood n m base b held s at out = let q = held.stand s at out in (q.0, q.1, q.2.lasts)

-- a turn over the keys of the book that the step began with
pub turned_begun : (c : Config) (m : ℕ) (b : Book) → Lawful c.number b → turned_by c m (keys_live_by c.number m b.rows) (going_keys c.number m b.rows) (fresh (settled m b)) ≡ turned c m (fresh (settled m b))
turned_begun c m b lawful =
    let d : Draft = fresh (settled m b) in
    let groups = led_same c m b.rows lawful.ascending d (settled_held c.number m b) in
    let through : Draft = led c m b.rows lawful.ascending d (settled_held c.number m b) in
    purges_same c m b.rows lawful.ascending through groups.1.keys (stood c.number m b.rows through.book groups.1)
    ∙ ap (λ x. make_rows (purge_run c m) m (make_tasks (ask c m) m x)) groups.0

-- and over those of the rows that were live by its moment alone, where none of the others may go
pub turned_live : (c : Config) (m : ℕ) (b : Book) → Lawful c.number b → StillStay c.number b.rows m → let_go m b.rows (turned_most c m (keys_live_by c.number m b.rows) (fresh (settled m b))).changes ≡ false
    → turned_by c m (keys_live_by c.number m b.rows) (keys_live_by c.number m b.rows) (fresh (settled m b)) ≡ turned c m (fresh (settled m b))
turned_live c m b lawful stay none =
    let d : Draft = fresh (settled m b) in
    let groups = led_same c m b.rows lawful.ascending d (settled_held c.number m b) in
    let through : Draft = led c m b.rows lawful.ascending d (settled_held c.number m b) in
    purges_live c m b.rows lawful.ascending through groups.1.keys (stood c.number m b.rows through.book groups.1) stay none
    ∙ ap (λ x. make_rows (purge_run c m) m (make_tasks (ask c m) m x)) groups.0
