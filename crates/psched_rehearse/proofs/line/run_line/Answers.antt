use Rattle.std.proofs.Common.{◌≡◌, ◌∙◌, ap}
use Rattle.std.specs.Option.{unwrap_or}
use Rattle.rehearsal_script.specs.declared.script.ScriptLine.{ScriptLine}
use Rattle.rehearsal_model.specs.Moves.{Outcomes, moment_of_line}
use Rattle.rehearsal_model.specs.Simulations.{Simulation, at_last}
use Rattle.psched_rehearse.proofs.LineLemmas.{archive_told, line_archived, line_done, line_may}
use Rattle.psched_rehearse.proofs.line.run_line.Goals as goal
use Rattle.psched_rehearse.proofs.line.run_line.Goals.{in-Archive+in_ok-archive-in-Archive, in_default+in_ok-run_event-in_default}

pub returns-clause-report : goal.returns-clause-report
returns-clause-report g c =
    let comes : Outcomes = g.A.Archivers.comes c.args.archivers.now in
    let hosts = c.args.hosts.now in
    let b : Simulation = c.args.now.now in
    let l : ScriptLine = c.args.numbered.now.line in
    elim c.match-numbered.branch [
      | in-Archive+in_ok-archive-in-Archive w ↦
          w.report-is ∙ (w.in_ok-archive-in-Archive.ensures.report hosts ∙ archive_told comes hosts b l w.in-Archive.at w.in-Archive.host w.in-Archive.is c.args.report.now c.args.numbered.now.number)
      | in_default+in_ok-run_event-in_default w ↦ w.report-is ∙ w.in_ok-run_event-in_default.ensures.report comes
    ]

pub returns-clause-simulation : goal.returns-clause-simulation
returns-clause-simulation g c =
    let comes : Outcomes = g.A.Archivers.comes c.args.archivers.now in
    let hosts = c.args.hosts.now in
    let b : Simulation = c.args.now.now in
    let l : ScriptLine = c.args.numbered.now.line in
    let next : Simulation = c.advance.new.self in
    let moment : c.unwrap_or.result ≡ moment_of_line l = c.unwrap_or.ensures ∙ ap (λ o. unwrap_or o 0) c.moment.ensures in
    elim c.match-numbered.branch [
      | in-Archive+in_ok-archive-in-Archive w ↦
          let now : Simulation = w.archive.new.now in
          let next_is : next ≡ at_last (moment_of_line l) now = c.advance.ensures ∙ (ap (λ m. at_last m c.match-numbered.now) moment ∙ ap (at_last (moment_of_line l)) w.now-is) in
          line_archived comes hosts b l now next next_is w.in-Archive.at w.in-Archive.host w.in-Archive.is (w.in_ok-archive-in-Archive.ensures.simulation hosts)
      | in_default+in_ok-run_event-in_default w ↦
          let now : Simulation = w.run_event.new.now in
          let next_is : next ≡ at_last (moment_of_line l) now = c.advance.ensures ∙ (ap (λ m. at_last m c.match-numbered.now) moment ∙ ap (at_last (moment_of_line l)) w.now-is) in
          line_done comes hosts b l now next next_is w.in_default.not-Archive (w.in_ok-run_event-in_default.ensures.simulation comes)
    ]

pub returns-clause-may : goal.returns-clause-may
returns-clause-may g c =
    let comes : Outcomes = g.A.Archivers.comes c.args.archivers.now in
    let hosts = c.args.hosts.now in
    let b : Simulation = c.args.now.now in
    let l : ScriptLine = c.args.numbered.now.line in
    elim c.match-numbered.branch [
      | in-Archive+in_ok-archive-in-Archive w ↦
          line_may comes hosts b l w.in-Archive.at w.in-Archive.host w.in-Archive.is (w.in_ok-archive-in-Archive.ensures.may hosts)
      | in_default+in_ok-run_event-in_default w ↦ w.in_ok-run_event-in_default.ensures.may comes
    ]
