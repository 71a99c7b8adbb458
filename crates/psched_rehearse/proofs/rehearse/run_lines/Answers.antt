use Rattle.std.proofs.Common.{◌≡◌, ◌<◌, ◌+◌, ◌++◌, ◌∙◌, ◌∷◌, [], List, ap, arith, drop, get_or, length, subst, sym}
use Rattle.std.proofs.lemmas.List.{drop_all, drop_more}
use Rattle.rehearsal_script.specs.Lawful.{IsLawfulLine}
use Rattle.rehearsal_script.specs.declared.script.Numbered.{Numbered}
use Rattle.rehearsal_script.specs.declared.script.ScriptHost.{ScriptHost}
use Rattle.rehearsal_report.specs.Line.{line_text}
use Rattle.rehearsal_model.specs.Moves.{Outcomes}
use Rattle.rehearsal_model.specs.Plays.{MayLine}
use Rattle.rehearsal_model.specs.Simulations.{Simulation, simulation_line}
use Rattle.rehearsal_model.specs.Telling.{line_said}
use Rattle.rehearsal_lines.specs.Playing.{IsPlaying}
use Rattle.psched_rehearse.proofs.PlayLemmas.{HasCome, all_configs, all_told, last_low, one_more, playing, worlds_safe}
use Rattle.psched_rehearse.proofs.rehearse.run_lines.Goals as goal

-- the next line can be run
pub run_line-requires-clause-playing : goal.run_line-requires-clause-playing
run_line-requires-clause-playing g c =
    let hosts = c.args.script.now.hosts in
    let come = c.loop-numbered.invariant.come in
    subst (λ (hs : List ScriptHost). IsPlaying hs c.loop-numbered.now) (sym c.as_slice-hosts.ensures)
    (subst (IsPlaying hosts) come.simulation_so (playing hosts c.requires.lawful.hosts come.play come.is))

pub loop-numbered-preserved : goal.loop-numbered-preserved
loop-numbered-preserved g c =
    let comes : Outcomes = g.A.Archivers.comes c.args.archivers.now in
    let now : Outcomes = g.A.Archivers.comes c.loop-numbered.archivers in
    let same : now ≡ comes = c.loop-numbered.invariant.stays in
    let hosts = c.args.script.now.hosts in
    let lines = c.args.script.now.lines in
    let items : List Numbered = c.as_slice-numbered-items.result.now in
    let items_are : items ≡ lines = c.as_slice-numbered-items.ensures in
    let hosts_are = c.as_slice-hosts.ensures in
    let i = c.loop-numbered.numbered-index in
    let l = c.numbered-item.result in
    let b : Simulation = c.loop-numbered.now in
    let report = c.loop-numbered.report in
    let within : i < length items = omega arith in
    let here : l ≡ get_or items i l = c.numbered-item.is in
    let left : drop i items ≡ l ∷ drop (i + 1) items = drop_more items i l within ∙ ap (λ x. x ∷ drop (i + 1) items) (sym here) in
    let at : get_or lines i l ≡ l = sym (here ∙ ap (λ (xs : List Numbered). get_or xs i l) items_are) in
    let is : IsLawfulLine (length hosts) l.line = subst (λ (x : Numbered). IsLawfulLine (length hosts) x.line) at (c.requires.lawful.lines i l (subst (λ (xs : List Numbered). i < length xs) items_are within)) in
    record {
      stays = c.run_line.ensures.stays ∙ same;
      come =
          one_more comes hosts c.requires.lawful.hosts lines (drop (i + 1) items) c.args.report.now report b l
          (subst (λ (xs : List Numbered). HasCome comes hosts lines xs c.args.report.now report b) left c.loop-numbered.invariant.come)
          is (subst (λ (x : Outcomes). MayLine x hosts b l.line) same (subst (λ (hs : List ScriptHost). MayLine now hs b l.line) hosts_are c.in_ok-run_line.ensures.may))
          c.run_line.new.report (c.in_ok-run_line.ensures.report ∙ (ap (λ (hs : List ScriptHost). report ++ line_text l.number (line_said now hs b l.line)) hosts_are ∙ ap (λ (x : Outcomes). report ++ line_text l.number (line_said x hosts b l.line)) same))
          c.run_line.new.now (c.in_ok-run_line.ensures.simulation ∙ (ap (λ (hs : List ScriptHost). simulation_line now hs b l.line) hosts_are ∙ ap (λ (x : Outcomes). simulation_line x hosts b l.line) same));
    }

-- none is left
pub returns-clause-report : goal.returns-clause-report
returns-clause-report g c =
    let comes : Outcomes = g.A.Archivers.comes c.args.archivers.now in
    let hosts = c.args.script.now.hosts in
    let lines = c.args.script.now.lines in
    let none : drop c.loop-numbered.numbered-index c.as_slice-numbered-items.result.now ≡ [] = drop_all c.loop-numbered.numbered-index c.as_slice-numbered-items.result.now (omega arith) in
    all_told comes hosts c.requires.lawful.hosts lines c.args.report.now c.loop-numbered.report c.loop-numbered.now
    (subst (λ (xs : List Numbered). HasCome comes hosts lines xs c.args.report.now c.loop-numbered.report c.loop-numbered.now) none c.loop-numbered.invariant.come)

pub returns-clause-safe : goal.returns-clause-safe
returns-clause-safe g c =
    let comes : Outcomes = g.A.Archivers.comes c.args.archivers.now in
    let hosts = c.args.script.now.hosts in
    let lines = c.args.script.now.lines in
    let none : drop c.loop-numbered.numbered-index c.as_slice-numbered-items.result.now ≡ [] = drop_all c.loop-numbered.numbered-index c.as_slice-numbered-items.result.now (omega arith) in
    worlds_safe comes hosts c.requires.lawful.hosts lines c.args.report.now c.loop-numbered.report c.loop-numbered.now
    (subst (λ (xs : List Numbered). HasCome comes hosts lines xs c.args.report.now c.loop-numbered.report c.loop-numbered.now) none c.loop-numbered.invariant.come)
    (c.law_played.ensures.safe hosts)

pub returns-clause-configs : goal.returns-clause-configs
returns-clause-configs g c =
    let comes : Outcomes = g.A.Archivers.comes c.args.archivers.now in
    let hosts = c.args.script.now.hosts in
    let lines = c.args.script.now.lines in
    let none : drop c.loop-numbered.numbered-index c.as_slice-numbered-items.result.now ≡ [] = drop_all c.loop-numbered.numbered-index c.as_slice-numbered-items.result.now (omega arith) in
    all_configs comes hosts c.requires.lawful.hosts lines c.args.report.now c.loop-numbered.report c.loop-numbered.now
    (subst (λ (xs : List Numbered). HasCome comes hosts lines xs c.args.report.now c.loop-numbered.report c.loop-numbered.now) none c.loop-numbered.invariant.come)

pub returns-clause-moment : goal.returns-clause-moment
returns-clause-moment g c =
    let comes : Outcomes = g.A.Archivers.comes c.args.archivers.now in
    let hosts = c.args.script.now.hosts in
    let lines = c.args.script.now.lines in
    let none : drop c.loop-numbered.numbered-index c.as_slice-numbered-items.result.now ≡ [] = drop_all c.loop-numbered.numbered-index c.as_slice-numbered-items.result.now (omega arith) in
    last_low comes hosts c.requires.lawful.hosts lines c.args.report.now c.loop-numbered.report c.loop-numbered.now
    (subst (λ (xs : List Numbered). HasCome comes hosts lines xs c.args.report.now c.loop-numbered.report c.loop-numbered.now) none c.loop-numbered.invariant.come)
