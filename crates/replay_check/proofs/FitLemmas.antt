-- A run may be accepted exactly where its key is new, or its row isn't accepted, and what is in its way may give way.
use Rattle.std.specs.Prelude.{◌↔◌, IfSome, IsNone, IsSome, MatchOption}
use Rattle.std.proofs.Common.{◌≡◌, ◌≤◌, ◌&&◌, ℕ, true, false, not, List, length, Option, Some, None, is_some, option_map, unwrap_or, subst, sym, ap}
use Rattle.ps_time.specs.Numbers.{greatest_moment}
use Rattle.ps_time.specs.Span.{Span}
use Rattle.ps_time.specs.declared.key.RunKey.{RunKey}
use Rattle.plugin_core.specs.Bounds.{IsTest}
use Rattle.plugin_core.specs.TestSpec.{test_class}
use Rattle.plugin_tool.specs.Choice.{tool_of_text}
use Rattle.run_states.specs.Conflict.{in_conflict}
use Rattle.run_states.specs.LawfulRow.{Reserves}
use Rattle.run_states.specs.Life.{is_booked}
use Rattle.run_states.specs.Preemption.{planned_run, planned_span}
use Rattle.run_states.specs.Rows.{find_row}
use Rattle.run_states.specs.declared.proposal.Proposal.{Proposal}
use Rattle.run_states.specs.declared.row.RunRow.{RunRow}
use Rattle.part_core.specs.Seen.{IsUnbooked}
use Rattle.host_model.specs.Book.{Book}
use Rattle.host_model.specs.Fits.{wanted_span}
use Rattle.host_model.specs.Lawful.{Lawful}
use Rattle.host_model.specs.LawfulRow.{IsHostRow}
use Rattle.host_model.specs.MayFollow.{IsNewKey}
use Rattle.host_model.specs.declared.change.Change.TheVariants.{Accepted, Planned}
use Rattle.host_model.proofs.Brings.{HasRoom, IsWayUnstarted}
use Rattle.host_model.proofs.NewRows.{CanAccept}
use Rattle.host_model.proofs.Placed.{find_row-key}
use Rattle.host_model.proofs.RowLemmas.{found_of_all}
use Rattle.replay_check.proofs.AfterLemmas.{none_is}
use Rattle.replay_check.proofs.NeedLemmas.{unaccepted}
use Rattle.replay_check.proofs.WayLemmas.{way_apart}
use Rattle.replay_check.specs.Suits.{FitsBook}
use Rattle.replay_check.specs.Way.{IsFreeWay}

new_unbooked : (o : Option RunRow) → IsNone o → IfSome o (λ x. is_booked x ≡ false)
new_unbooked None new = tt
new_unbooked (Some x) new = cc

module _ (self other : ℕ) (b : Book) (lawful : Lawful other b) where
  -- ---- a proposal
  module _ (p : Proposal) (hosts : List (List ℕ)) (epoch : ℕ) where
    abbrev Way : Type 0
    Way = IsFreeWay (test_class p.test) (wanted_span p) b.rows

    apart : IsNewKey b p.key → Way ↔ IsWayUnstarted b.rows (Accepted p hosts epoch)
    apart new = way_apart (test_class p.test) (wanted_span p) b.rows lawful.ascending p.key (new_unbooked (find_row b.rows p.key) new)

    pub accept_fits : (IsNewKey b p.key × CanAccept self p hosts × HasRoom b × ((epoch ≤ length b.epochs) × Way)) ↔ FitsBook self b (Accepted p hosts epoch)
    accept_fits = (
      λ may. (may.0, (may.1, may.2, record { known = may.3.0; way = (apart may.0).0 may.3.1 })),
      λ fits. (fits.0, fits.1.0, fits.1.1, (fits.1.2.known, (apart fits.0).1 fits.1.2.way)),
    )

  -- ---- a run that is planned
  module _ (k : RunKey) (start : ℕ) (tool : List ℕ) (epoch : ℕ) (q : RunRow) (at : find_row b.rows k ≡ Some q) where
    host : IsHostRow other b.tasks b.moment q
    host = found_of_all (IsHostRow other b.tasks b.moment) k q b.rows lawful.rows at

    pub found_test : IsTest q.test
    found_test = host.row.test

    abbrev PlanWay : Type 0
    PlanWay = IsFreeWay (test_class q.test) (planned_span start q) b.rows

    module _ (free : IsNone q.accepted) where
      interval_is : (planned_run start q).interval ≡ planned_span start q
      interval_is = ap (λ o. unwrap_or o (planned_span start q)) ((unaccepted q.test q.tool q.interval (subst (λ o. Reserves q.test o q.tool q.interval) (none_is q.accepted free) host.row.reserves)).1)

      unbooked : IsUnbooked k b.rows
      unbooked = subst (λ o. IfSome o (λ x. is_booked x ≡ false)) (sym at) (ap (λ t. t && not (is_some q.closed)) free)

      abbrev Apart : RunKey → Span → Type 0
      Apart key i = (r : RunRow) → find_row b.rows r.key ≡ Some r → in_conflict key (test_class q.test) i r ≡ true → IsNone r.started

      key_is : q.key ≡ k
      key_is = find_row-key b.rows k q at

      plan_apart : PlanWay ↔ IsWayUnstarted b.rows (Planned k start tool epoch)
      plan_apart =
          let both = way_apart (test_class q.test) (planned_span start q) b.rows lawful.ascending k unbooked in (
            λ way r found. subst (λ o. IfSome o (λ i. in_conflict i.key i.class i.interval r ≡ true → IsNone r.started)) (sym (ap (option_map (planned_run start)) at))
                (subst (λ i. in_conflict q.key (test_class q.test) i r ≡ true → IsNone r.started) (sym interval_is) (subst (λ j. in_conflict j (test_class q.test) (planned_span start q) r ≡ true → IsNone r.started) (sym key_is) (both.0 way r found))),
            λ way. both.1 (λ r found. subst (λ j. in_conflict j (test_class q.test) (planned_span start q) r ≡ true → IsNone r.started) key_is
                (subst (λ i. in_conflict q.key (test_class q.test) i r ≡ true → IsNone r.started) interval_is (subst (λ o. IfSome o (λ i. in_conflict i.key i.class i.interval r ≡ true → IsNone r.started)) (ap (option_map (planned_run start)) at) (way r found)))),
          )

    pub plan_fits : (IsNone q.accepted × IsNone q.closed × (IsSome (tool_of_text tool) × (start ≤ greatest_moment)) × ((epoch ≤ length b.epochs) × PlanWay)) ↔ FitsBook self b (Planned k start tool epoch)
    plan_fits = (
      λ may. (
        subst (λ o. MatchOption o ⊥ (λ r. IsNone r.accepted × IsNone r.closed)) (sym at) (may.0, may.1),
        (may.2.0, may.2.1, record { known = may.3.0; way = (plan_apart may.0).0 may.3.1 }),
      ),
      λ fits.
          let free : IsNone q.accepted × IsNone q.closed = subst (λ o. MatchOption o ⊥ (λ r. IsNone r.accepted × IsNone r.closed)) at fits.0 in
          (free.0, free.1, (fits.1.0, fits.1.1), (fits.1.2.known, (plan_apart free.0).1 fits.1.2.way)),
    )
