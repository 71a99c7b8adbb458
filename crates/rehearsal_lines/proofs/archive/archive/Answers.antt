use Rattle.std.proofs.Common.{◌<◌, ◌≡◌, ◌∙◌, ap, false, length, subst, sym, true}
use Rattle.std.proofs.lemmas.Result.{on_ok_weaker}
use Rattle.host_model.specs.Conditions.{IsConfig}
use Rattle.host_model.specs.Lawful.{Lawful}
use Rattle.host_model.specs.declared.input.Input.{Input}
use Rattle.host_model.specs.declared.input.Input.TheVariants as input
use Rattle.host_model.specs.declared.view.Page.TheVariants as page
use Rattle.simulated_machine.specs.Held.{Held}
use Rattle.world_law.specs.World.{Stage}
use Rattle.rehearsal_model.specs.Moves.{Outcomes}
use Rattle.rehearsal_model.specs.Simulations.{Simulation, at_last, is_answered, looks, held_at}
use Rattle.rehearsal_model.specs.Telling.{archive_said, tried_said}
use Rattle.rehearsal_state.specs.Ready.{IsReady}
use Rattle.rehearsal_state.proofs.MoveLemmas.{config_then, ready_then, there_then}
use Rattle.rehearsal_lines.proofs.ArchiveLemmas.{later_so, left_found, left_lost, left_sure, may_found, tells_found}
use Rattle.rehearsal_lines.proofs.ResultLemmas.{on_ok, reported}
use Rattle.rehearsal_lines.proofs.archive.archive.Goals as goal

abbrev look : Input
look = input.View page.Home

-- it knows what stands
pub returns-then-is_ready-clause-simulation : goal.returns-then-is_ready-clause-simulation
returns-then-is_ready-clause-simulation g c = λ hosts.
    let comes : Outcomes = g.A.Archivers.comes c.args.archivers.now in
    let sure = sym (ap (λ (h : Held Stage). h.ready) c.held_host.ensures) ∙ (sym c.is_ready.ensures ∙ c.if-is_ready.true) in
    on_ok_weaker c.try_first.result (left_sure comes hosts c.args.now.now c.args.place c.args.clock sure c.try_first.new.now) (c.try_first.ensures.simulation hosts)

-- it finds that out
pub held_host-requires-in-Answered : goal.held_host-requires-in-Answered
held_host-requires-in-Answered g c =
    let said = sym c.in_ok-reply.ensures.outcome ∙ c.in-Answered.is in
    subst (λ (x : Simulation). c.args.place < length x.held_hosts) (sym c.in_ok-reply.ensures.simulation) (there_then c.args.now.now c.args.place c.args.clock look c.in-Answered.reply said c.requires.there)

pub book-requires : goal.book-requires
book-requires g c =
    let b : Simulation = c.args.now.now in
    let said = sym c.in_ok-reply.ensures.outcome ∙ c.in-Answered.is in
    subst (λ (h : Held Stage). h.ready ≡ true) (sym (c.held_host-in-Answered.ensures ∙ ap (λ (x : Simulation). held_at x c.args.place) c.in_ok-reply.ensures.simulation)) (ready_then b c.args.place c.args.clock look c.in-Answered.reply said c.requires.there)

pub try_first-requires-in-Answered-clause-ready : goal.try_first-requires-in-Answered-clause-ready
try_first-requires-in-Answered-clause-ready g c =
    let b : Simulation = c.args.now.now in
    let place = c.args.place in
    let clock = c.args.clock in
    let reply = c.in-Answered.reply in
    let said = sym c.in_ok-reply.ensures.outcome ∙ c.in-Answered.is in
    let simulation = c.in_ok-reply.ensures.simulation in
    let held_host = c.held_host-in-Answered.ensures in
    subst (λ (x : Simulation). IsReady x place clock) (sym c.advance.ensures) (record {
      there = subst (λ (x : Simulation). place < length x.held_hosts) (sym simulation) (there_then b place clock look reply said c.requires.there);
      config = subst (λ (x : Simulation). IsConfig (held_at x place).state.config) (sym simulation) (subst IsConfig (config_then b place clock look reply said c.requires.there) c.requires.config);
      book = subst (λ (h : Held Stage). Lawful h.state.config.number h.state.book) held_host
          (subst (λ n. Lawful n c.held_host-in-Answered.result.now.state.book) c.book.ensures.number (subst (λ k. Lawful c.book.result.now.number k) c.book.ensures.book c.rows.ensures.lawful));
      in_time = c.requires.in_time;
    })

pub try_first-requires-in-Answered-clause-sure : goal.try_first-requires-in-Answered-clause-sure
try_first-requires-in-Answered-clause-sure g c =
    let b : Simulation = c.args.now.now in
    let said = sym c.in_ok-reply.ensures.outcome ∙ c.in-Answered.is in
    subst (λ (x : Simulation). (held_at x c.args.place).ready ≡ true) (sym (c.advance.ensures ∙ ap (at_last c.args.clock) c.in_ok-reply.ensures.simulation)) (ready_then b c.args.place c.args.clock look c.in-Answered.reply said c.requires.there)

pub returns-in-Answered-clause-report : goal.returns-in-Answered-clause-report
returns-in-Answered-clause-report g c = λ hosts.
    let comes : Outcomes = g.A.Archivers.comes c.args.archivers.now in
    let b : Simulation = c.args.now.now in
    let place = c.args.place in
    let clock = c.args.clock in
    let unsure = sym (ap (λ (h : Held Stage). h.ready) c.held_host.ensures) ∙ (sym c.is_ready.ensures ∙ c.if-is_ready.false) in
    let finds : looks b place clock ≡ true = ap is_answered (sym c.in_ok-reply.ensures.outcome ∙ c.in-Answered.is) in
    let looked = later_so comes hosts b place clock c.step.new.self c.advance.new.self c.in_ok-reply.ensures.simulation c.advance.ensures in
    reported c.try_first-in-Answered.result c.try_first-in-Answered.new.report c.args.report.now c.args.line (tried_said comes c.advance.new.self place clock) (archive_said comes hosts b place clock)
    (ap (λ (x : Simulation). tried_said comes x place clock) looked ∙ tells_found comes hosts b place clock unsure finds) c.try_first-in-Answered.ensures.report

pub returns-in-Answered-clause-simulation : goal.returns-in-Answered-clause-simulation
returns-in-Answered-clause-simulation g c = λ hosts.
    let comes : Outcomes = g.A.Archivers.comes c.args.archivers.now in
    let b : Simulation = c.args.now.now in
    let place = c.args.place in
    let clock = c.args.clock in
    let unsure = sym (ap (λ (h : Held Stage). h.ready) c.held_host.ensures) ∙ (sym c.is_ready.ensures ∙ c.if-is_ready.false) in
    let finds : looks b place clock ≡ true = ap is_answered (sym c.in_ok-reply.ensures.outcome ∙ c.in-Answered.is) in
    on_ok_weaker c.try_first-in-Answered.result
    (left_found comes hosts b place clock unsure finds c.advance.new.self c.try_first-in-Answered.new.now (later_so comes hosts b place clock c.step.new.self c.advance.new.self c.in_ok-reply.ensures.simulation c.advance.ensures))
    (c.try_first-in-Answered.ensures.simulation hosts)

pub returns-in-Answered-clause-may : goal.returns-in-Answered-clause-may
returns-in-Answered-clause-may g c = λ hosts.
    let comes : Outcomes = g.A.Archivers.comes c.args.archivers.now in
    let b : Simulation = c.args.now.now in
    let place = c.args.place in
    let clock = c.args.clock in
    let unsure = sym (ap (λ (h : Held Stage). h.ready) c.held_host.ensures) ∙ (sym c.is_ready.ensures ∙ c.if-is_ready.false) in
    let finds : looks b place clock ≡ true = ap is_answered (sym c.in_ok-reply.ensures.outcome ∙ c.in-Answered.is) in
    on_ok_weaker c.try_first-in-Answered.result (may_found comes hosts b place clock unsure finds c.advance.new.self (later_so comes hosts b place clock c.step.new.self c.advance.new.self c.in_ok-reply.ensures.simulation c.advance.ensures)) c.try_first-in-Answered.ensures.may

-- that stops, or meets a fault
pub returns-in-Faulted-clause-simulation : goal.returns-in-Faulted-clause-simulation
returns-in-Faulted-clause-simulation g c = λ hosts.
    let comes : Outcomes = g.A.Archivers.comes c.args.archivers.now in
    let b : Simulation = c.args.now.now in
    let place = c.args.place in
    let clock = c.args.clock in
    let unsure = sym (ap (λ (h : Held Stage). h.ready) c.held_host.ensures) ∙ (sym c.is_ready.ensures ∙ c.if-is_ready.false) in
    let lost : looks b place clock ≡ false = ap is_answered (sym c.in_ok-reply.ensures.outcome ∙ c.in-Faulted.is) in
    on_ok c.add_said.result (left_lost comes hosts b place clock unsure lost c.step.new.self c.in_ok-reply.ensures.simulation)

pub returns-in-Crashed-clause-simulation : goal.returns-in-Crashed-clause-simulation
returns-in-Crashed-clause-simulation g c = λ hosts.
    let comes : Outcomes = g.A.Archivers.comes c.args.archivers.now in
    let b : Simulation = c.args.now.now in
    let place = c.args.place in
    let clock = c.args.clock in
    let unsure = sym (ap (λ (h : Held Stage). h.ready) c.held_host.ensures) ∙ (sym c.is_ready.ensures ∙ c.if-is_ready.false) in
    let lost : looks b place clock ≡ false = ap is_answered (sym c.in_ok-reply.ensures.outcome ∙ c.in-Crashed.is) in
    on_ok c.add_said-in-Crashed.result (left_lost comes hosts b place clock unsure lost c.step.new.self c.in_ok-reply.ensures.simulation)
