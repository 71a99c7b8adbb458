use Rattle.std.specs.Fmt.{decimal}
use Rattle.std.specs.Prelude.{codes}
use Rattle.std.proofs.Common.{◌≡◌, ◌+◌, ◌++◌, ◌∙◌, List, Option, ap, refl, sym, ℕ}
use Rattle.std.proofs.lemmas.Result.{on_ok_weaker}
use Rattle.world_law.specs.World.{Message}
use Rattle.rehearsal_report.specs.Line.{sent_text}
use Rattle.rehearsal_model.specs.Hosts.{name_numbered}
use Rattle.rehearsal_model.specs.Moves.{replies}
use Rattle.rehearsal_model.specs.Rehearsal.{messages_told}
use Rattle.rehearsal_model.specs.Simulations.{Simulation, as_read, count_sent}
use Rattle.rehearsal_model.specs.Seen.{message}
use Rattle.rehearsal_model.specs.Telling.{arrival_said, disk_fault}
use Rattle.rehearsal_lines.specs.Arriving.{arrival_of}
use Rattle.rehearsal_lines.specs.declared.arrive.Arrival.TheVariants as arrival
use Rattle.rehearsal_lines.proofs.ResultLemmas.{reported}
use Rattle.rehearsal_lines.proofs.SaidLemmas.{after_replied, longer, tells}
use Rattle.rehearsal_lines.proofs.TellLemmas.{told_as}
use Rattle.rehearsal_lines.proofs.arrive.arrive.Goals as goal

pub returns-in-Missing-clause-report : goal.returns-in-Missing-clause-report
returns-in-Missing-clause-report c =
    let b : Simulation = c.args.now.now in
    let m = message (as_read b) c.args.position in
    reported c.add_said.result c.add_said.new.report c.args.report.now c.args.line (codes "not in flight") (arrival_said c.args.hosts.now b c.args.clock m)
    (tells c.args.hosts.now b c.args.clock m arrival.Missing (sym c.in-Missing.is ∙ c.in_ok-receive.ensures.arrival)) c.add_said.ensures

pub returns-in-Crashed-clause-report : goal.returns-in-Crashed-clause-report
returns-in-Crashed-clause-report c =
    let b : Simulation = c.args.now.now in
    let m = message (as_read b) c.args.position in
    reported c.add_said-in-Crashed.result c.add_said-in-Crashed.new.report c.args.report.now c.args.line (codes "crashed") (arrival_said c.args.hosts.now b c.args.clock m)
    (tells c.args.hosts.now b c.args.clock m arrival.Crashed (sym c.in-Crashed.is ∙ c.in_ok-receive.ensures.arrival)) c.add_said-in-Crashed.ensures

pub returns-in-Faulted-clause-report : goal.returns-in-Faulted-clause-report
returns-in-Faulted-clause-report c =
    let b : Simulation = c.args.now.now in
    let m = message (as_read b) c.args.position in
    reported c.add_said-in-Faulted.result c.add_said-in-Faulted.new.report c.args.report.now c.args.line disk_fault (arrival_said c.args.hosts.now b c.args.clock m)
    (tells c.args.hosts.now b c.args.clock m arrival.Faulted (sym c.in-Faulted.is ∙ c.in_ok-receive.ensures.arrival)) c.add_said-in-Faulted.ensures

pub returns-in-Heard-clause-report : goal.returns-in-Heard-clause-report
returns-in-Heard-clause-report c =
    let b : Simulation = c.args.now.now in
    let m = message (as_read b) c.args.position in
    reported c.add_said-in-Heard.result c.add_said-in-Heard.new.report c.args.report.now c.args.line (codes "heard") (arrival_said c.args.hosts.now b c.args.clock m)
    (tells c.args.hosts.now b c.args.clock m arrival.Heard (sym c.in-Heard.is ∙ c.in_ok-receive.ensures.arrival)) c.add_said-in-Heard.ensures

-- the answer has the next number
pub returns-in-Unanswered-clause-report : goal.returns-in-Unanswered-clause-report
returns-in-Unanswered-clause-report c =
    let hosts = c.args.hosts.now in
    let b : Simulation = c.args.now.now in
    let m = message (as_read b) c.args.position in
    let asker = c.in-Unanswered.asker in
    let asked = c.in-Unanswered.asked in
    let told : ℕ → List ℕ = λ n. decimal 503 ++ sent_text n (name_numbered hosts asked) (name_numbered hosts asker) (codes "reply") in
    reported c.add_unanswered.result c.add_unanswered.new.report c.args.report.now c.args.line (told c.next_number-number.result) (arrival_said hosts b c.args.clock m)
    (ap told c.next_number-number.ensures ∙ tells hosts b c.args.clock m (arrival.Unanswered asker asked) (sym c.in-Unanswered.is ∙ c.in_ok-receive.ensures.arrival)) c.add_unanswered.ensures

pub add_messages-requires-clause-before : goal.add_messages-requires-clause-before
add_messages-requires-clause-before c =
    let hosts = c.args.hosts.now in
    let b : Simulation = c.args.now.now in
    longer hosts b c.args.clock c.args.position (message (as_read b) c.args.position) refl c.in-Replied.status (sym c.in-Replied.is ∙ c.in_ok-receive.ensures.arrival) c.receive.new.now c.in_ok-receive.ensures.simulation
    c.messages-before.result.now c.messages.result.now c.messages-before.ensures c.messages.ensures

-- the reply was sent
pub returns-in_ok-begin_status-in-Replied-clause-report : goal.returns-in_ok-begin_status-in-Replied-clause-report
returns-in_ok-begin_status-in-Replied-clause-report c =
    let hosts = c.args.hosts.now in
    let b : Simulation = c.args.now.now in
    let n : ℕ = c.args.position in
    let m : Option Message = message (as_read b) n in
    let status : ℕ = c.in-Replied.status in
    let sent : List Message = replies hosts (as_read b) c.args.clock m in
    let outcome : arrival.Replied status ≡ arrival_of hosts b c.args.clock m = sym c.in-Replied.is ∙ c.in_ok-receive.ensures.arrival in
    let before : List Message = c.messages-before.result.now in
    let after : List Message = c.messages.result.now in
    reported c.add_messages.result c.add_messages.new.report c.args.report.now c.args.line (decimal status ++ messages_told hosts (count_sent b + 1) sent) (arrival_said hosts b c.args.clock m)
    (tells hosts b c.args.clock m (arrival.Replied status) outcome)
    (on_ok_weaker c.add_messages.result
    (told_as hosts b c.args.line c.count_broken-broken.result c.args.report.now (decimal status) c.begin_status.new.report c.add_messages.new.report before after sent c.messages-before.ensures c.count_broken-broken.ensures.count
    (after_replied hosts b c.args.clock n m refl status outcome c.receive.new.now c.in_ok-receive.ensures.simulation before after c.messages-before.ensures c.messages.ensures) c.in_ok-begin_status-in-Replied.ensures)
    c.add_messages.ensures)
