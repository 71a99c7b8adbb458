use Rattle.host_codec.proofs.FollowLemmas.{record_keeps}
use Rattle.host_codec.proofs.WritableLemmas.{record_written}
use Rattle.host_codec.proofs.record.law_writable_record.Goals as goal

pub returns-clause-bounds : goal.returns-clause-bounds
returns-clause-bounds c = record_written

pub returns-clause-follows : goal.returns-clause-follows
returns-clause-follows c = λ self b r may. record_written r (record_keeps self b r may)
