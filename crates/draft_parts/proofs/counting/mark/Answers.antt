use Rattle.std.proofs.Common.{arith}
use Rattle.run_states.specs.Life.{marked_row}
use Rattle.run_states.proofs.Place.{marked_key}
use Rattle.host_rows.specs.Ledger.{step_bytes}
use Rattle.host_rows.proofs.RowLemmas.{step_brings}
use Rattle.draft_parts.proofs.CountLemmas.{recount, recount_fits}
use Rattle.draft_parts.proofs.counting.mark.Goals as goal

pub overflow_add-result : goal.overflow_add-result
overflow_add-result c =
    let most = recount_fits (marked_row c.args.step c.args.moment) (λ r. marked_key c.args.step c.args.moment r) (step_bytes c.args.step) (λ r. step_brings c.args.step c.args.moment r) c.args.rows.now.list c.mark.new.self.list c.args.key c.mark.ensures.rows c.args.bytes c.bytes_at-before.result c.bytes_at-after.result c.requires.before c.requires.room c.bytes_at-before.ensures c.bytes_at-after.ensures in
    omega (arith, most)

pub returns-clause-bytes : goal.returns-clause-bytes
returns-clause-bytes c = recount (marked_row c.args.step c.args.moment) (λ r. marked_key c.args.step c.args.moment r) (step_bytes c.args.step) (λ r. step_brings c.args.step c.args.moment r) c.args.rows.now.list c.mark.new.self.list c.args.key c.mark.ensures.rows c.args.bytes c.bytes_at-before.result c.bytes_at-after.result c.requires.before c.requires.room c.bytes_at-before.ensures c.bytes_at-after.ensures
