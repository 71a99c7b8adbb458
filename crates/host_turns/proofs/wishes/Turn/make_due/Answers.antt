use Rattle.std.proofs.Common.{◌+◌, ◌∙◌, ap, drop, get_or, option_and_then}
use Rattle.ps_time.specs.declared.key.RunKey.{RunKey}
use Rattle.run_states.specs.Rows.{find_row}
use Rattle.host_draft.specs.Draft.{Seen}
use Rattle.host_turns.specs.Turns.{wish_of}
use Rattle.host_turns.proofs.GroupLemmas.{behind_at, moment_made, step}
use Rattle.host_turns.proofs.KeepLemmas.{own_at}
use Rattle.host_turns.proofs.wishes.Turn.make_due.Goals as goal

pub make_at-requires-clause-live : goal.make_at-requires-clause-live
make_at-requires-clause-live c = own_at c.args.self.now.live.now c.loop-key.key-index (record { lead = 0; task = 0; number = 0; attempt = 0 }) c.loop-key-test.true

pub loop-key-preserved : goal.loop-key-preserved
loop-key-preserved c =
    let config = c.args.self.now.config.now in
    let m = c.args.draft.now.draft.book.moment in
    let live = c.args.self.now.live.now in
    let i = c.loop-key.key-index in
    let none : RunKey = record { lead = 0; task = 0; number = 0; attempt = 0 } in
    let before = c.loop-key.draft in
    let made = c.in_ok-make_at.ensures.made in
    let rest = behind_at live i none c.loop-key-test.true in
    record {
      left = c.loop-key.invariant.left ∙ step (λ n b k. option_and_then (wish_of c.args.due config n b) (find_row b.rows k)) m (drop i live) (drop (i + 1) live) (get_or live i none) before c.make_at.new.draft rest c.loop-key.invariant.at made;
      turn = c.in_ok-make_at.ensures.turn;
      at = ap (λ (s : Seen). s.draft.book.moment) made ∙ (moment_made before.draft.book.moment _ before.draft ∙ c.loop-key.invariant.at);
    }
