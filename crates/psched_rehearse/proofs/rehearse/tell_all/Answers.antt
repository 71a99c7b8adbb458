use Rattle.std.specs.Prelude.{All, flat_map}
use Rattle.std.proofs.Common.{◌≡◌, ◌∙◌, ◌++◌, ◌∷◌, List, [], append_assoc, ap, map, subst, sym, ℕ}
use Rattle.std.proofs.lemmas.List.{append-nil, map-append}
use Rattle.std.proofs.lemmas.List.Elements.{All-head, All-tail}
use Rattle.std.specs.Vec.Iter.{into_iter_items}
use Rattle.host_model.specs.Conditions.{IsConfig}
use Rattle.simulated_machine.specs.Held.{Held}
use Rattle.world_law.specs.World.{Stage}
use Rattle.rehearsal_model.specs.Rehearsal.{stage_table}
use Rattle.psched_rehearse.proofs.SimulatedLemmas.{none_left, states_of}
use Rattle.psched_rehearse.proofs.rehearse.tell_all.Goals as goal

abbrev HasConfig : Held Stage → Type 0
HasConfig h = IsConfig h.state.config

abbrev tables_of : ℕ → List (Held Stage) → List ℕ
tables_of moment hs = flat_map (λ (h : Held Stage). stage_table moment h.state) hs

pub tell-requires-clause-config : goal.tell-requires-clause-config
tell-requires-clause-config c = All-head HasConfig c.in-Some.held_host (into_iter_items c.next.new.self) (subst (All HasConfig) c.in-Some.ensures.steps.0 c.loop-held_host.invariant.configs)

-- one more
pub loop-held_host-preserved : goal.loop-held_host-preserved
loop-held_host-preserved c =
    let made : List (Held Stage) = c.loop-held_host.told.items in
    let one : Held Stage = c.in_ok-tell.field-0 in
    let held_host : Held Stage = c.in-Some.held_host in
    let rest : List (Held Stage) = into_iter_items c.next.new.self in
    let moment = c.args.moment in
    record {
      can_next = tt;
      is_finite = tt;
      configs = All-tail HasConfig held_host rest (subst (All HasConfig) c.in-Some.ensures.steps.0 c.loop-held_host.invariant.configs);
      tables =
          ap (λ (x : List ℕ). x ++ tables_of moment rest) c.in_ok-tell.ensures.report
          ∙ (append_assoc c.loop-held_host.report (stage_table moment held_host.state) (tables_of moment rest)
          ∙ (ap (λ (hs : List (Held Stage)). c.loop-held_host.report ++ tables_of moment hs) (sym c.in-Some.ensures.steps.0)
          ∙ c.loop-held_host.invariant.tables));
      states =
          ap (λ (hs : List (Held Stage)). states_of hs ++ states_of rest) c.in_ok-push.ensures.items
          ∙ (ap (λ (ss : List Stage). ss ++ states_of rest) (map-append (λ (h : Held Stage). h.state) made (one ∷ []))
          ∙ (append_assoc (states_of made) (one.state ∷ []) (states_of rest)
          ∙ (ap (λ (s : Stage). states_of made ++ s ∷ states_of rest) c.in_ok-tell.ensures.state
          ∙ (ap (λ (hs : List (Held Stage)). states_of made ++ states_of hs) (sym c.in-Some.ensures.steps.0)
          ∙ c.loop-held_host.invariant.states))));
    }

-- none is left
pub returns-clause-states : goal.returns-clause-states
returns-clause-states c =
    let left : into_iter_items c.loop-held_host.held_host-iterator ≡ [] =
    none_left (into_iter_items c.loop-held_host.held_host-iterator) (sym c.loop-held_host.held_host-iterator.rest.ok.0 ∙ c.in-None.ensures.steps.0) in
    sym (append-nil (states_of c.loop-held_host.told.items)) ∙ (ap (λ (ss : List (Held Stage)). states_of c.loop-held_host.told.items ++ states_of ss) (sym left) ∙ c.loop-held_host.invariant.states)

pub returns-clause-report : goal.returns-clause-report
returns-clause-report c =
    let left : into_iter_items c.loop-held_host.held_host-iterator ≡ [] =
    none_left (into_iter_items c.loop-held_host.held_host-iterator) (sym c.loop-held_host.held_host-iterator.rest.ok.0 ∙ c.in-None.ensures.steps.0) in
    sym (append-nil c.loop-held_host.report) ∙ (ap (λ (ss : List (Held Stage)). c.loop-held_host.report ++ tables_of c.args.moment ss) (sym left) ∙ c.loop-held_host.invariant.tables)
