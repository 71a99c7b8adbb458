use Rattle.std.proofs.Common.{◌≤◌, ◌∙◌, ap, length, subst, sym}
use Rattle.ps_time.specs.Numbers.{most_changes}
use Rattle.host_model.specs.Apply.{settled}
use Rattle.host_model.specs.Turn.{changed}
use Rattle.host_model.proofs.TurnLemmas.{turn_count}
use Rattle.host_turns.proofs.TurnLemmas.{begun, begun_most, ended_turn}
use Rattle.host_turns.proofs.turn.turn.Goals as goal

pub make_most-requires-clause-turn : goal.make_most-requires-clause-turn
make_most-requires-clause-turn c =
    let host = c.args.book.now in
    begun c.args.config.now host.number c.args.moment host.book c.requires.number c.rows.ensures.lawful c.tasks.result.now c.as_slice-live.result.now c.in_ok-draft.draft (c.as_slice-live.ensures ∙ c.in_ok-keys.ensures) c.in_ok-draft.ensures c.requires.later c.requires.bound c.tasks.ensures c.rows.result.now.list c.as_slice.result.now c.rows.ensures.list (c.as_slice.ensures.value ∙ c.in_ok-exclusive.ensures)

pub make_last-requires-clause-made : goal.make_last-requires-clause-made
make_last-requires-clause-made c =
    let host = c.args.book.now in
    begun_most c.args.config.now host.number c.args.moment host.book c.requires.number c.rows.ensures.lawful c.tasks.result.now c.as_slice-live.result.now c.in_ok-draft.draft (c.as_slice-live.ensures ∙ c.in_ok-keys.ensures) c.in_ok-draft.ensures c.tasks.ensures c.make_most.new.draft c.in_ok-make_most.ensures.made

pub changed-requires : goal.changed-requires
changed-requires c =
    let host = c.args.book.now in
    let ended = ended_turn c.args.config.now c.args.moment host.book c.make_last.new.draft c.in_ok-make_last.ensures in
    subst (λ list. length list ≤ most_changes) (sym (c.into_changes.ensures ∙ ended)) (turn_count c.args.config.now c.args.moment (settled c.args.moment host.book))

pub returns : goal.returns
returns c = c.changed.ensures ∙ ap changed (c.into_changes.ensures ∙ ended_turn c.args.config.now c.args.moment c.args.book.now.book c.make_last.new.draft c.in_ok-make_last.ensures)
