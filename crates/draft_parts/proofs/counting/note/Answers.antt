use Rattle.std.proofs.Common.{arith}
use Rattle.run_states.specs.Effect.{noted_row}
use Rattle.run_states.proofs.Place.{noted_key}
use Rattle.host_rows.specs.Ledger.{fact_bytes}
use Rattle.host_rows.proofs.RowLemmas.{fact_brings}
use Rattle.draft_parts.proofs.CountLemmas.{recount, recount_fits}
use Rattle.draft_parts.proofs.counting.note.Goals as goal

pub overflow_add-result : goal.overflow_add-result
overflow_add-result c =
    let most = recount_fits (noted_row c.args.fact c.args.moment) (λ r. noted_key c.args.fact c.args.moment r) (fact_bytes c.args.fact) (λ r. fact_brings c.args.fact c.args.moment r) c.args.rows.now.list c.note.new.self.list c.args.key c.note.ensures.rows c.args.bytes c.bytes_at-before.result c.bytes_at-after.result c.requires.before c.requires.room c.bytes_at-before.ensures c.bytes_at-after.ensures in
    omega (arith, most)

pub returns-clause-bytes : goal.returns-clause-bytes
returns-clause-bytes c = recount (noted_row c.args.fact c.args.moment) (λ r. noted_key c.args.fact c.args.moment r) (fact_bytes c.args.fact) (λ r. fact_brings c.args.fact c.args.moment r) c.args.rows.now.list c.note.new.self.list c.args.key c.note.ensures.rows c.args.bytes c.bytes_at-before.result c.bytes_at-after.result c.requires.before c.requires.room c.bytes_at-before.ensures c.bytes_at-after.ensures
