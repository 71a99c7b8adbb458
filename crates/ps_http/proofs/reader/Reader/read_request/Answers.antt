use Rattle.std.proofs.Common.{subst}
use Rattle.std.specs.Prelude.{IfErr, IfOk, IfSome}
use Rattle.std.specs.Io.KnownBytes.{prepend_known}
use Rattle.ps_http.specs.Answer.{requests, TakesMessage, WasEnough}
use Rattle.ps_http.specs.Next.{FaultAt}
use Rattle.ps_http.proofs.EnoughLemmas.{in_time_of}
use Rattle.ps_http.proofs.NextLemmas.{refusal_of, due_of}
use Rattle.ps_http.proofs.reader.Reader.read_request.Goals as goal

pub returns-clause-refusal : goal.returns-clause-refusal
returns-clause-refusal g c =
    let read = c.next_request-read in
    let rest = g.S.Source.left read.new.source in
    let err = subst (λ s. IfErr read.result (λ fault. FaultAt requests c.args.limits s.held read.new.held fault (g.S.Source.left s.source) rest)) c.self.view_is read.ensures.err in
    refusal_of requests c.args.limits read.result c.args.self.now.held read.new.held (g.S.Source.left c.args.self.now.source) rest err

pub returns-clause-due : goal.returns-clause-due
returns-clause-due g c =
    let read = c.next_request-read in
    let rest = g.S.Source.left read.new.source in
    let err = subst (λ s. IfErr read.result (λ fault. FaultAt requests c.args.limits s.held read.new.held fault (g.S.Source.left s.source) rest)) c.self.view_is read.ensures.err in
    due_of requests c.args.limits read.result c.args.self.now.held read.new.held (g.S.Source.left c.args.self.now.source) rest err

pub returns-clause-in_time : goal.returns-clause-in_time
returns-clause-in_time g c =
    let read = c.next_request-read in
    let rest = g.S.Source.left read.new.source in
    let err = subst (λ s. IfErr read.result (λ fault. FaultAt requests c.args.limits s.held read.new.held fault (g.S.Source.left s.source) rest)) c.self.view_is read.ensures.err in
    in_time_of requests c.args.limits read.result c.args.self.now.held read.new.held (g.S.Source.left c.args.self.now.source) rest err

pub returns-clause-message : goal.returns-clause-message
returns-clause-message g c =
    let read = c.next_request-read in
    let rest = g.S.Source.left read.new.source in
    subst (λ s. IfOk read.result (λ o. IfSome o (λ r. TakesMessage requests c.args.limits r (prepend_known s.held (g.S.Source.left s.source)) (prepend_known read.new.held rest)))) c.self.view_is read.ensures.message

pub returns-clause-enough : goal.returns-clause-enough
returns-clause-enough g c =
    let read = c.next_request-read in
    let rest = g.S.Source.left read.new.source in
    subst (λ s. IfOk read.result (λ o. IfSome o (λ _. WasEnough requests c.args.limits s.held read.new.held (g.S.Source.left s.source) rest))) c.self.view_is read.ensures.enough
