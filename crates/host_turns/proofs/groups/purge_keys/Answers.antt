use Rattle.std.proofs.Common.{◌+◌, ◌∙◌, ap, drop, get_or, option_and_then}
use Rattle.ps_time.specs.declared.key.RunKey.{RunKey}
use Rattle.run_states.specs.Rows.{find_row}
use Rattle.host_model.specs.Purging.{purge_run}
use Rattle.host_draft.specs.Draft.{Seen}
use Rattle.host_turns.proofs.GroupLemmas.{behind_at, moment_made, step}
use Rattle.host_turns.proofs.groups.purge_keys.Goals as goal

pub loop-key-preserved : goal.loop-key-preserved
loop-key-preserved c =
    let config = c.args.config.now in
    let m = c.args.draft.now.draft.book.moment in
    let keys = c.args.keys.now in
    let i = c.loop-key.key-index in
    let none : RunKey = record { lead = 0; task = 0; number = 0; attempt = 0 } in
    let before = c.loop-key.draft in
    let made = c.in_ok-purge_key.ensures.made in
    let rest = behind_at keys i none c.loop-key-test.true in
    record {
      left = c.loop-key.invariant.left ∙ step (λ n b k. option_and_then (purge_run config n b) (find_row b.rows k)) m (drop i keys) (drop (i + 1) keys) (get_or keys i none) before c.purge_key.new.draft rest c.loop-key.invariant.at made;
      turn = c.in_ok-purge_key.ensures.turn;
      at = ap (λ (s : Seen). s.draft.book.moment) made ∙ (moment_made before.draft.book.moment _ before.draft ∙ c.loop-key.invariant.at);
    }
