use Rattle.host_codec.proofs.LengthLemmas.{change_is_long, record_is_long}
use Rattle.host_codec.proofs.record.law_lengths.Goals as goal

pub returns-clause-change : goal.returns-clause-change
returns-clause-change c = change_is_long

pub returns-clause-record : goal.returns-clause-record
returns-clause-record c = record_is_long
