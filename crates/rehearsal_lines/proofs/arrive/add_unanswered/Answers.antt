use Rattle.std.specs.Fmt.{decimal}
use Rattle.std.specs.Prelude.{codes}
use Rattle.std.proofs.Common.{◌≡◌, ◌∙◌, List, ap, ℕ}
use Rattle.std.proofs.lemmas.Result.{on_ok_weaker}
use Rattle.rehearsal_report.specs.Line.{sent_text}
use Rattle.rehearsal_model.specs.Hosts.{name_numbered}
use Rattle.rehearsal_lines.proofs.TellLemmas.{one_told}
use Rattle.rehearsal_lines.proofs.arrive.add_unanswered.Goals as goal

pub returns : goal.returns
returns c =
    let hosts = c.args.hosts.now in
    let number : ℕ = c.args.number in
    let asked : List ℕ = name_numbered hosts c.args.asked in
    let asker : List ℕ = name_numbered hosts c.args.asker in
    let from : List ℕ = c.name_of-from.result.now in
    let to : List ℕ = c.name_of-to.result.now in
    let told : List ℕ = sent_text number from to (codes "reply") in
    let sent : List ℕ = sent_text number asked asker (codes "reply") in
    let same : told ≡ sent = ap (λ (x : List ℕ). sent_text number x to (codes "reply")) c.name_of-from.ensures ∙ ap (λ (x : List ℕ). sent_text number asked x (codes "reply")) c.name_of-to.ensures in
    on_ok_weaker c.end_line.result
    (one_told c.args.report.now (decimal 503) c.begin_status.new.report told sent c.add_sent.new.report c.end_line.new.report c.args.line c.in_ok-begin_status.ensures c.in_ok-add_sent.ensures same)
    c.end_line.ensures
