use Rattle.std.proofs.Common.{subst, sym}
use Rattle.value_bytes.specs.Changes.{changes}
use Rattle.host_model.specs.Conditions.{MayStep}
use Rattle.host_model.specs.Lawful.{Lawful}
use Rattle.host_model.specs.Step.{step_changes}
use Rattle.host_model.specs.declared.reply.Outcome.{Outcome}
use Rattle.host_keep.specs.Standing.{IsAsked, Seen}
use Rattle.host_keep.proofs.host.HostMachine.decide.Goals as goal

-- the record may follow the book
pub step_of-requires : goal.step_of-requires
step_of-requires c =
    let config = c.self.inside.config in
    let b = c.self.inside.book.book in
    let asked : IsAsked config c.args.call = subst (λ (x : Seen). IsAsked x.standing.config c.args.call) (sym c.self.view_is) c.requires in
    let may : MayStep config b c.args.call.clock c.args.call.input = record { config = asked.config; book = subst (λ n. Lawful n b) c.self.invariant c.rows-known.ensures.lawful; moment = asked.clock; bounds = asked.bounds } in
    let writable = c.law_writable_record.ensures.follows config.number b (step_changes config b c.args.call.clock c.args.call.input) (c.law_step.ensures.follows config b c.args.call.clock c.args.call.input may) in
    subst (λ (o : Outcome). changes.Writable (record { moment = c.max-moment.result; list = o.list })) (sym c.in_ok-reply.ensures) writable
