use Rattle.byte_codec.proofs.Pushed.{push_then}
use Rattle.byte_codec.proofs.changes.write_accepted.Goals as goal

pub returns-clause-code : goal.returns-clause-code
returns-clause-code c = push_then c.write_accepted_parts.result c.args.out.now.items c.push.new.self.items c.write_accepted_parts.new.out.items _ 3 c.in_ok-push.ensures.items c.write_accepted_parts.ensures.code
