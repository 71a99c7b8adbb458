use Rattle.std.proofs.Common.{ap, ◌∙◌, Ok, Err}
use Rattle.http_connection.proofs.ExchangeLemmas.{exchanged_after, ended_after, fault_after}
use Rattle.http_connection.proofs.turn.serve_turn.Goals as goal

pub returns-in-Ok-Some-clause-turned : goal.returns-in-Ok-Some-clause-turned
returns-in-Ok-Some-clause-turned g c =
    let k = c.in-Ok-Some.ensures in
    let takes = rw c.in-Ok-Some.field-0-is at k.message in
    let enough = rw c.in-Ok-Some.field-0-is at k.enough in
    let lent = c.source.ensures.value in
    exchanged_after (g.V.Service.answers c.args.service.now) c.args.address.now _ _ _ c.in-Ok-Some.request c.exchange.result (g.M.Source.left c.args.reader.now.source.stream.now)
    (g.M.Source.left c.read_request.new.self.source.stream.now) _ _ (g.M.Sink.written c.source.result.now.stream.now) _ c.args.reader.now.held c.read_request.new.self.held takes enough
    (c.exchange.ensures.kept.1.left ∙ ap (λ s. g.M.Source.left s.stream.now) lent) (ap (λ s. g.M.Sink.written s.stream.now) lent ∙ k.kept.1.written) c.exchange.ensures.done

pub returns-in-Err-clause-turned : goal.returns-in-Err-clause-turned
returns-in-Err-clause-turned g c =
    let k = c.in-Err.ensures in
    let came = k.kept.1.took in
    let lent = c.source-in-Err.ensures.value in
    fault_after (g.V.Service.answers c.args.service.now) c.args.address.now _ _ c.in-Err.fault c.refuse.result (g.M.Source.left c.args.reader.now.source.stream.now)
    (g.M.Source.left c.read_request.new.self.source.stream.now) _ _ (g.M.Sink.written c.source-in-Err.result.now.stream.now) _ c.args.reader.now.held came.bytes c.read_request.new.self.held came.consumed
    (λ is. k.due (ap Err is)) k.refusal k.begun k.in_time (c.refuse.ensures.kept.left ∙ ap (λ s. g.M.Source.left s.stream.now) lent)
    (ap (λ s. g.M.Sink.written s.stream.now) lent ∙ k.kept.1.written) c.refuse.ensures.ended

pub returns-in-Ok-None-clause-turned : goal.returns-in-Ok-None-clause-turned
returns-in-Ok-None-clause-turned g c =
    let k = c.in-Ok-None.ensures in
    let came = k.kept.1.took in
    let lent = c.source-in-Ok-None.ensures.value in
    ended_after (g.V.Service.answers c.args.service.now) c.args.address.now _ c.close.result _ (g.M.Source.left c.args.reader.now.source.stream.now)
    (g.M.Source.left c.read_request.new.self.source.stream.now) _ _ _ c.args.reader.now.held came.bytes came.consumed (k.end (ap Ok c.in-Ok-None.field-0-is)).0
    (ap (λ s. g.M.Source.left s.stream.now) lent) (ap (λ s. g.M.Sink.written s.stream.now) lent ∙ k.kept.1.written) c.close.ensures
