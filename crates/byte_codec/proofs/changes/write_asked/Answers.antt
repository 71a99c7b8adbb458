use Rattle.byte_codec.proofs.Pushed.{push_then}
use Rattle.byte_codec.proofs.changes.write_asked.Goals as goal

pub returns-clause-code : goal.returns-clause-code
returns-clause-code c = push_then c.write_asked_parts.result c.args.out.now.items c.push.new.self.items c.write_asked_parts.new.out.items _ 4 c.in_ok-push.ensures.items c.write_asked_parts.ensures.code
