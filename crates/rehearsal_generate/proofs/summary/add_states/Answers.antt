use Rattle.std.proofs.Common.{◌≡◌, ◌++◌, ◌∷◌, [], ◌∙◌, List, ap, append_assoc, map, sym}
use Rattle.std.proofs.lemmas.List.Elements.{All-rest}
use Rattle.run_states.specs.Life.{settled_row, settled_rows, state_of, HasMoments}
use Rattle.run_states.specs.declared.row.RunRow.{RunRow}
use Rattle.run_states.specs.declared.state.State.{State}
use Rattle.rehearsal_generate.proofs.summary.add_states.Goals as goal

-- the state of the first row that is left is the next one
pub loop-row-preserved : goal.loop-row-preserved
loop-row-preserved c =
    let m = c.args.moment in
    let row : RunRow = c.in-Some.row.now in
    let rest : List RunRow = c.next.new.self in
    let done : List State = c.loop-row.states.items in
    let told : List RunRow → List State = λ rows. map (λ r. state_of r m) (settled_rows m rows) in
    let state : State = state_of (settled_row m row) m in
    let pushed : c.push.new.self.items ≡ done ++ state ∷ [] = c.in_ok-push.ensures.items ∙ ap (λ s. done ++ s ∷ []) c.settled_state.ensures in (
      All-rest HasMoments row rest c.loop-row.row-iterator c.in-Some.ensures.steps c.loop-row.invariant.0,
      c.loop-row.invariant.1 ∙ (ap (λ rows. done ++ told rows) c.in-Some.ensures.steps
          ∙ (sym (append_assoc done (state ∷ []) (told rest)) ∙ ap (λ l. l ++ told rest) (sym pushed))),
    )
