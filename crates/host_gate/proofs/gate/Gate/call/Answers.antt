use Rattle.std.proofs.Common.{sym, ap, ◌∙◌, subst}
use Rattle.host_gate.specs.Calls.{Stepped}
use Rattle.host_gate.proofs.gate.Gate.call.Goals as goal

pub serve-reply-requires-clause-may : goal.serve-reply-requires-clause-may
serve-reply-requires-clause-may g c =
    let seen = c.pass.invariant.seen in
    (seen.0, ap (λ s. s.0.seen) c.in-Ok.ensures.drawn.1 ∙ seen.1, c.requires.may seen.0 (sym (ap (λ v. v.seen) c.pass.view_is) ∙ seen.1))

pub invariant_of-pass : goal.invariant_of-pass
invariant_of-pass g c =
    let left = c.serve-reply.ensures.rest in record {
      outside = ap (λ s. s.0.stage) left;
      alone = ap (λ s. s.0.met) left ∙ (ap (λ s. s.0.met) c.in-Ok.ensures.drawn.1 ∙ c.pass.invariant.alone);
      empty = ap (λ s. s.1) left;
      seen = c.serve-reply.ensures.front;
    }

pub invariant_of-pass-in-Err-1 : goal.invariant_of-pass-in-Err-1
invariant_of-pass-in-Err-1 g c =
    let read = c.in-Err.ensures.beyond.1 in
    let was = c.pass.invariant in record {
      outside = ap (λ s. s.0.stage) read ∙ was.outside;
      alone = ap (λ s. s.0.met) read ∙ was.alone;
      empty = ap (λ s. s.1) read ∙ was.empty;
      seen = (was.seen.0, ap (λ s. s.0.seen) read ∙ was.seen.1, was.seen.2);
    }

pub returns-in-Ok-clause-step : goal.returns-in-Ok-clause-step
returns-in-Ok-clause-step g c = subst (λ was. Stepped g.K.Kept.grown g.K.Kept.steps was c.args.call c.serve-reply.result.0 c.serve-reply.new.seat.me.0.seen)
    (ap (λ s. s.0.seen) c.in-Ok.ensures.drawn.1 ∙ ap (λ v. v.seen) c.pass.view_is) c.serve-reply.ensures.step
