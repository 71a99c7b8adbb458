-- Of a row that isn't live nothing is said and archived, and of one that isn't live by a moment nothing is wished for then.
use Rattle.std.specs.List.{list_all}
use Rattle.std.specs.Prelude.{◌==◌}
use Rattle.std.proofs.Common.{◌≡◌, ℕ, ◌+◌, Bool, true, false, not, cond, ◌&&◌, ◌||◌, nat_le, nat_lt, List, [], ◌∷◌, ◌++◌, map, flat_map, Option, Some, None, is_some, unwrap_or, if◌then◌else◌, ◌⊎◌, inl, inr, refl, ap, ap₂, sym, ◌∙◌, arith}
use Rattle.std.proofs.Math.Bool.{and-false}
use Rattle.std.proofs.lemmas.Bool.Decides.{nat_tests}
use Rattle.ps_time.specs.Numbers.{grace}
use Rattle.ps_time.specs.Span.{Range, Span}
use Rattle.plugin_core.specs.declared.test_spec.TestSpec.{TestSpec}
use Rattle.plugin_core.specs.declared.test_spec.TestSpec.TheVariants.{Idle, Idleex, Idlebgm, Idlemany, Simplestream}
use Rattle.archive_retry.specs.Retry.{is_due}
use Rattle.archive_retry.specs.declared.state.ArchiveState.{ArchiveState}
use Rattle.run_states.specs.Life.{closed_by, is_active, is_booked, lapse_at, lapse_missed, lapse_of, settled_row}
use Rattle.run_states.specs.Purging.{is_settled_archive}
use Rattle.run_states.specs.declared.answer.Other.{Other}
use Rattle.run_states.specs.declared.row.RunRow.{RunRow}
use Rattle.run_states.specs.declared.why.Closing.{Closing}
use Rattle.run_states.specs.declared.why.Why.TheVariants.{Missed}
use Rattle.host_model.specs.Archives.{due_from_index}
use Rattle.host_model.specs.Book.{Book}
use Rattle.host_model.specs.Ending.{end_run, end_started, restart_run}
use Rattle.host_model.specs.Merging.{is_collected, merge_run}
use Rattle.host_model.specs.Orders.{bodies_to, cancel_orders, confirm_orders, free_orders, is_before_end, is_past_end, material_orders, order_if, order_to, orders_from, propose_orders, result_orders, row_orders}
use Rattle.host_model.specs.Plan.{plan_asked, plan_run}
use Rattle.host_model.specs.Starting.{may_start, start_run}
use Rattle.host_model.specs.Walk.{change_if}
use Rattle.host_model.specs.declared.change.Change.{Change}
use Rattle.host_model.specs.declared.config.Config.{Config}
use Rattle.host_model.specs.declared.order.OrderBody.{OrderBody}
use Rattle.host_rows.specs.Still.{has_come, is_called, is_decided, is_live, is_live_by, awaits_merging, is_quiet, is_still, is_told, is_waiting, live_rows}
use Rattle.host_rows.proofs.WaitLemmas.{both, is_not, waiting_lapse, waiting_parts, Waiting}

-- ---- tests
pub some_same : (a b : RunRow) → Some a ≡ Some b → a ≡ b
some_same a b e = ap (λ o. unwrap_or o a) e

-- ---- the parts of stillness
pub record Still (self : ℕ) (r : RunRow) : Type 0 where
  pub decided : is_decided r ≡ true
  pub inactive : is_active r ≡ false
  pub merged : awaits_merging self r ≡ false
  pub quiet : is_quiet r ≡ true
  pub archived : list_all is_settled_archive r.archives ≡ true

pub still_parts : (self : ℕ) (r : RunRow) → is_still self r ≡ true → Still self r
still_parts self r still =
    let a = both (is_decided r) (not (is_active r) && (not (awaits_merging self r) && (is_quiet r && list_all is_settled_archive r.archives))) still in
    let b = both (not (is_active r)) (not (awaits_merging self r) && (is_quiet r && list_all is_settled_archive r.archives)) a.1 in
    let c = both (not (awaits_merging self r)) (is_quiet r && list_all is_settled_archive r.archives) b.1 in
    let d = both (is_quiet r) (list_all is_settled_archive r.archives) c.1 in
    record { decided = a.0; inactive = is_not (is_active r) b.0; merged = is_not (awaits_merging self r) c.0; quiet = d.0; archived = d.1 }

-- ---- what isn't live is still, or waits
pub unlive : (self : ℕ) (r : RunRow) → is_live self r ≡ false → (is_still self r ≡ true) ⊎ (is_waiting r ≡ true)
unlive self r out = go (is_still self r) (is_waiting r) out
  where
    go : (still waits : Bool) → not (still || waits) ≡ false → (still ≡ true) ⊎ (waits ≡ true)
    go true waits e = inl refl
    go false true e = inr refl
    go false false e = cc

-- by a moment: it is still, or waits for a start that lies ahead
pub unlive_by : (self m : ℕ) (r : RunRow) → is_live_by self m r ≡ false → (is_still self r ≡ true) ⊎ ((is_waiting r ≡ true) × (has_come m r.interval ≡ false))
unlive_by self m r out = go (is_still self r) (is_waiting r) (has_come m r.interval) out
  where
    go : (still waits come : Bool) → (not (still || waits) || (waits && come)) ≡ false → (still ≡ true) ⊎ ((waits ≡ true) × (come ≡ false))
    go true waits come e = inl refl
    go false true false e = inr (refl, refl)
    go false true true e = cc
    go false false come e = cc

-- so it is no more live whatever the moment
pub unlive_ever : (self m : ℕ) (r : RunRow) → is_live_by self m r ≡ false → is_live self r ≡ false
unlive_ever self m r out = go (is_live self r) (is_called m r) out
  where
    go : (live called : Bool) → (live || called) ≡ false → live ≡ false
    go true called e = cc
    go false called e = refl

-- ---- what isn't live is silent: nothing is said of it nor archived, and it doesn't end
pub record IsSilent (r : RunRow) : Type 0 where
  pub inactive : is_active r ≡ false
  pub proposed : (is_booked r && not (is_some r.confirmed)) ≡ false
  pub quiet : is_quiet r ≡ true
  pub archived : list_all is_settled_archive r.archives ≡ true

waiting_inactive : (r : RunRow) → Waiting r → is_active r ≡ false
waiting_inactive r waits = ap (λ x. x && not (is_some r.ended)) waits.unstarted

pub silent : (self : ℕ) (r : RunRow) → is_live self r ≡ false → IsSilent r
silent self r out = go (unlive self r out)
  where
    decided_proposed : (closed accepted confirmed started : Bool) → (closed || (accepted && (confirmed && started))) ≡ true → ((accepted && not closed) && not confirmed) ≡ false
    decided_proposed true true confirmed started e = refl
    decided_proposed true false confirmed started e = refl
    decided_proposed false true true started e = refl
    decided_proposed false true false started e = cc
    decided_proposed false false confirmed started e = cc

    go : (is_still self r ≡ true) ⊎ (is_waiting r ≡ true) → IsSilent r
    go (inl is) =
        let still = still_parts self r is in
        record { inactive = still.inactive; proposed = decided_proposed (is_some r.closed) (is_some r.accepted) (is_some r.confirmed) (is_some r.started) still.decided; quiet = still.quiet; archived = still.archived }
    go (inr is) =
        let waits = waiting_parts r is in
        record { inactive = waiting_inactive r waits; proposed = ap (λ x. is_booked r && not x) waits.confirmed ∙ and-false (is_booked r); quiet = waits.quiet; archived = waits.archived }

-- ---- what isn't live by a moment is idle: no change but a purge is wished for at it
pub record IsIdle (self m : ℕ) (r : RunRow) : Type 0 where
  pub inactive : is_active r ≡ false
  pub merged : awaits_merging self r ≡ false
  pub unready : (is_booked r && (is_some r.confirmed && (not (is_some r.started) && may_start m r.interval))) ≡ false
  pub planned : (not (is_some r.accepted) && not (is_some r.closed)) ≡ false

pub idle_by : (self m : ℕ) (r : RunRow) → is_live_by self m r ≡ false → IsIdle self m r
idle_by self m r out = go (unlive_by self m r out)
  where
    decided_unready : (closed accepted confirmed started come : Bool) → (closed || (accepted && (confirmed && started))) ≡ true → ((accepted && not closed) && (confirmed && (not started && come))) ≡ false
    decided_unready true true confirmed started come e = refl
    decided_unready true false confirmed started come e = refl
    decided_unready false true true true come e = refl
    decided_unready false true true false come e = cc
    decided_unready false true false started come e = cc
    decided_unready false false confirmed started come e = cc

    decided_planned : (closed accepted confirmed started : Bool) → (closed || (accepted && (confirmed && started))) ≡ true → (not accepted && not closed) ≡ false
    decided_planned closed true confirmed started e = refl
    decided_planned true false confirmed started e = refl
    decided_planned false false confirmed started e = cc

    not_come : (o : Option Span) → has_come m o ≡ false → may_start m o ≡ false
    not_come None later = refl
    not_come (Some s) later = ap (λ x. x && nat_le m (s.start + grace)) later

    never : (booked confirmed unstarted come : Bool) → come ≡ false → (booked && (confirmed && (unstarted && come))) ≡ false
    never false confirmed unstarted come e = refl
    never true false unstarted come e = refl
    never true true false come e = refl
    never true true true come e = e

    go : (is_still self r ≡ true) ⊎ ((is_waiting r ≡ true) × (has_come m r.interval ≡ false)) → IsIdle self m r
    go (inl is) =
        let still = still_parts self r is in
        record {
          inactive = still.inactive;
          merged = still.merged;
          unready = decided_unready (is_some r.closed) (is_some r.accepted) (is_some r.confirmed) (is_some r.started) (may_start m r.interval) still.decided;
          planned = decided_planned (is_some r.closed) (is_some r.accepted) (is_some r.confirmed) (is_some r.started) still.decided;
        }
    go (inr is) =
        let waits = waiting_parts r is.0 in
        record {
          inactive = waiting_inactive r waits;
          merged = ap (λ x. (r.key.lead == self) && (x && not (is_some r.merged))) waits.unended ∙ and-false (r.key.lead == self);
          unready = never (is_booked r) (is_some r.confirmed) (not (is_some r.started)) (may_start m r.interval) (not_come r.interval is.1);
          planned = ap (λ x. not x && not (is_some r.closed)) waits.accepted;
        }

-- ---- no change is wished for
change_none : (b : Bool) (c : Change) → b ≡ false → change_if b c ≡ None
change_none b c is = ap (λ x. change_if x c) is

module _ (self m : ℕ) (r : RunRow) (is : IsIdle self m r) where
  pub idle_end : (c : Config) (b : Book) → end_run c m b r ≡ None
  idle_end c b = ap (λ x. if x then end_started c m r r.started else None) is.inactive

  unmerged : (lead ended open_ collected : Bool) → (lead && (ended && open_)) ≡ false → (lead && (ended && (open_ && collected))) ≡ false
  unmerged false ended open_ collected e = refl
  unmerged true false open_ collected e = refl
  unmerged true true false collected e = refl
  unmerged true true true collected e = cc

  pub idle_merge : (c : Config) (b : Book) → c.number ≡ self → merge_run c m b r ≡ None
  idle_merge c b same =
      let here : awaits_merging c.number r ≡ false = ap (λ n. awaits_merging n r) same ∙ is.merged in
      change_none _ _ (unmerged (r.key.lead == c.number) (is_some r.ended) (not (is_some r.merged)) (is_collected m r) here)

  unstarted : (booked confirmed open_ come free : Bool) → (booked && (confirmed && (open_ && come))) ≡ false → (booked && (confirmed && (open_ && (come && free)))) ≡ false
  unstarted false confirmed open_ come free e = refl
  unstarted true false open_ come free e = refl
  unstarted true true false come free e = refl
  unstarted true true true false free e = refl
  unstarted true true true true free e = cc

  pub idle_start : (b : Book) → start_run m b r ≡ None
  idle_start b = change_none _ _ (unstarted (is_booked r) (is_some r.confirmed) (not (is_some r.started)) (may_start m r.interval) _ is.unready)

  unplanned : (asked new open_ answered : Bool) → (new && open_) ≡ false → (asked && (new && (open_ && answered))) ≡ false
  unplanned false new open_ answered e = refl
  unplanned true false open_ answered e = refl
  unplanned true true false answered e = refl
  unplanned true true true answered e = cc

  pub idle_plan : (c : Config) (b : Book) → plan_run c m b r ≡ None
  idle_plan c b =
      ap (λ x. if x then Some (plan_asked c b m r r.question) else None)
      (unplanned (is_some r.asked) (not (is_some r.accepted)) (not (is_some r.closed)) (list_all (λ o. is_some o.free) r.others) is.planned)

-- ---- it doesn't lapse
pub unlive_stands : (self m : ℕ) (r : RunRow) → is_live_by self m r ≡ false → lapse_of m r ≡ None
unlive_stands self m r out = go (unlive_by self m r out)
  where
    decided : (closed : Option Closing) (accepted confirmed started : Option ℕ) → (is_some closed || (is_some accepted && (is_some confirmed && is_some started))) ≡ true → lapse_at m r closed accepted confirmed started ≡ None
    decided (Some c) accepted confirmed started e = refl
    decided None (Some a) (Some f) (Some s) e = refl
    decided None None confirmed started e = cc
    decided None (Some a) None started e = cc
    decided None (Some a) (Some f) None e = cc

    missed : (o : Option Span) → has_come m o ≡ false → lapse_missed m o ≡ None
    missed None later = refl
    missed (Some s) later =
        let early : nat_lt (s.start + 15) m ≡ false = grind (arith, nat_tests, later) in
        ap (λ x. if x then Some (record { moment = s.start + (grace + 1); why = Missed }) else None) early

    go : (is_still self r ≡ true) ⊎ ((is_waiting r ≡ true) × (has_come m r.interval ≡ false)) → lapse_of m r ≡ None
    go (inl is) = decided r.closed r.accepted r.confirmed r.started (still_parts self r is).decided
    go (inr is) = waiting_lapse m r (waiting_parts r is.0) ∙ missed r.interval is.1

pub unlive_settled : (self m : ℕ) (r : RunRow) → is_live_by self m r ≡ false → settled_row m r ≡ r
unlive_settled self m r out = ap (λ o. closed_by o r) (unlive_stands self m r out)

module _ (r : RunRow) (is : IsSilent r) where
  pub silent_restart : (c : Config) (b : Book) → restart_run c b r ≡ None
  silent_restart c b = change_none (is_active r) _ is.inactive

  -- ---- it has no orders
  orders_none : (b : Bool) (body : OrderBody) → b ≡ false → order_if b body ≡ []
  orders_none b body e = ap (λ x. order_if x body) e

  abbrev Knows : Bool → Bool → Bool → Bool → Bool → Type 0
  Knows closed free accepted confirm cancel = (if closed then not accepted || cancel else free && confirm) ≡ true

  free_told : (closed free accepted confirm cancel : Bool) → Knows closed free accepted confirm cancel → (not closed && not free) ≡ false
  free_told true free accepted confirm cancel e = refl
  free_told false true accepted confirm cancel e = refl
  free_told false false accepted confirm cancel e = cc

  confirm_told : (closed free accepted confirm cancel confirmed before : Bool) → Knows closed free accepted confirm cancel → (confirmed && (not closed && (not confirm && before))) ≡ false
  confirm_told closed free accepted confirm cancel false before e = refl
  confirm_told true free accepted confirm cancel true before e = refl
  confirm_told false free accepted true cancel true before e = refl
  confirm_told false true accepted false cancel true before e = cc
  confirm_told false false accepted false cancel true before e = cc

  cancel_told : (closed free accepted confirm cancel before : Bool) → Knows closed free accepted confirm cancel → (closed && (accepted && (not cancel && before))) ≡ false
  cancel_told false free accepted confirm cancel before e = refl
  cancel_told true free false confirm cancel before e = refl
  cancel_told true free true confirm true before e = refl
  cancel_told true free true confirm false before e = cc

  proposed : (booked new open_ : Bool) → (booked && new) ≡ false → (booked && (new && open_)) ≡ false
  proposed false new open_ e = refl
  proposed true false open_ e = refl
  proposed true true open_ e = cc

  collected : (merged ended heard past : Bool) → (merged || (not ended || heard)) ≡ true → (ended && (not merged && (not heard && past))) ≡ false
  collected merged false heard past e = refl
  collected true true heard past e = refl
  collected false true true past e = refl
  collected false true false past e = cc

  free_none : (o : Other) (w : Option Range) → (not (is_some r.closed) && not (is_some o.free)) ≡ false → free_orders r o w ≡ []
  free_none o None e = refl
  free_none o (Some w) e = orders_none _ _ e

  material_none : (m : ℕ) (o : Other) (t : TestSpec) (s : Option ℕ) → material_orders m r o t s ≡ []
  material_none m o (Simplestream dest material dawdle timeout) (Some started) = orders_none _ _ (ap (λ x. x && (not o.material_told && nat_le (started + dawdle) m)) is.inactive)
  material_none m o (Simplestream dest material dawdle timeout) None = refl
  material_none m o (Idle sleep) s = refl
  material_none m o (Idleex sleep) s = refl
  material_none m o (Idlebgm sleep interval) s = refl
  material_none m o (Idlemany sleep hosts) s = refl

  told_none : (m : ℕ) (o : Other) → is_told r o ≡ true → bodies_to m r o ≡ []
  told_none m o told =
      let parts = both (if is_some r.closed then not o.accepted || o.cancel_told else is_some o.free && o.confirm_told) (is_some r.merged || (not (is_some r.ended) || is_some o.heard)) told in
      let frees = free_none o r.question (free_told (is_some r.closed) (is_some o.free) o.accepted o.confirm_told o.cancel_told parts.0) in
      let proposes : propose_orders r o ≡ [] = orders_none _ _ (proposed (is_booked r) (not (is_some r.confirmed)) (not o.accepted) is.proposed) in
      let confirms : confirm_orders m r o ≡ [] = orders_none _ _ (confirm_told (is_some r.closed) (is_some o.free) o.accepted o.confirm_told o.cancel_told (is_some r.confirmed) (is_before_end m r.interval) parts.0) in
      let cancels : cancel_orders m r o ≡ [] = orders_none _ _ (cancel_told (is_some r.closed) (is_some o.free) o.accepted o.confirm_told o.cancel_told (is_before_end m r.interval) parts.0) in
      let results : result_orders m r o ≡ [] = orders_none _ _ (collected (is_some r.merged) (is_some r.ended) (is_some o.heard) (is_past_end m r.interval) parts.1) in
      ap₂ (λ x y. x ++ y) (ap₂ (λ x y. x ++ y) (ap₂ (λ x y. x ++ y) (ap₂ (λ x y. x ++ y) (ap₂ (λ x y. x ++ y) frees proposes) confirms) cancels) (material_none m o r.test r.started)) results

  all_none : (m : ℕ) (place : ℕ) (os : List Other) → list_all (is_told r) os ≡ true → orders_from m r place os ≡ []
  all_none m place [] e = refl
  all_none m place (o ∷ os) e =
      let parts = both (is_told r o) (list_all (is_told r) os) e in
      ap₂ (λ x y. map (order_to r place) x ++ y) (told_none m o parts.0) (all_none m (place + 1) os parts.1)

  pub silent_orders : (m : ℕ) → row_orders m r ≡ []
  silent_orders m = go (is_some r.asked) is.quiet
    where
      go : (asked : Bool) → (not asked || list_all (is_told r) r.others) ≡ true → (if asked then orders_from m r 1 r.others else []) ≡ []
      go false e = refl
      go true e = all_none m 1 r.others e

  -- ---- no archive of it is due
  due_not : (s : ArchiveState) (m : ℕ) → is_settled_archive s ≡ true → is_due s m ≡ false
  due_not s m settled = go s.done s.next settled
    where
      go : (done : Bool) (next : Option ℕ) → (done || not (is_some next)) ≡ true → is_due (record { tried = s.tried; next = next; done = done }) m ≡ false
      go true next e = refl
      go false None e = refl
      go false (Some n) e = cc

  due_none : (m : ℕ) (index : ℕ) (ss : List ArchiveState) → list_all is_settled_archive ss ≡ true → due_from_index r.key m index ss ≡ []
  due_none m index [] e = refl
  due_none m index (s ∷ ss) e =
      let parts = both (is_settled_archive s) (list_all is_settled_archive ss) e in
      ap (λ x. if x then (r.key, index) ∷ due_from_index r.key m (index + 1) ss else due_from_index r.key m (index + 1) ss) (due_not s m parts.0) ∙ due_none m (index + 1) ss parts.1

  pub silent_due : (m : ℕ) → due_from_index r.key m 0 r.archives ≡ []
  silent_due m = due_none m 0 r.archives is.archived

-- ---- so listings over the others are those over all
pub listed : {A : Type 0} (self : ℕ) (f : RunRow → List A) → ((r : RunRow) → is_live self r ≡ false → f r ≡ []) → (rows : List RunRow) → flat_map f (live_rows self rows) ≡ flat_map f rows
listed self f none [] = refl
listed self f none (r ∷ rs) = go (is_live self r) refl (listed self f none rs)
  where
    go : (b : Bool) → is_live self r ≡ b → flat_map f (live_rows self rs) ≡ flat_map f rs → flat_map f (cond b (r ∷ live_rows self rs) (live_rows self rs)) ≡ f r ++ flat_map f rs
    go false is later = later ∙ ap (λ x. x ++ flat_map f rs) (sym (none r is))
    go true is later = ap (λ l. f r ++ l) later
