use Rattle.std.proofs.Common.{◌≡◌, ◌∙◌, rules}
use Rattle.std.proofs.lemmas.Result.{IfOk-weaker}
use Rattle.world_law.specs.Laws.{Safe}
use Rattle.rehearsal_model.specs.Simulations.{Simulation}
use Rattle.rehearsal_generate.specs.Shown.{Alike}
use Rattle.rehearsal_generate.specs.Work.{work, work_hosts, work_of}
use Rattle.rehearsal_generate.specs.declared.tally.Tally.{Tally}
use Rattle.rehearsal_generate.proofs.WorkLemmas.{last_low, ok_always, summary_is, work_alike}
use Rattle.rehearsal_generate.proofs.generate.generate.Goals as goal

pub summarize-requires-clause-moment : goal.summarize-requires-clause-moment
summarize-requires-clause-moment c = last_low c.as_slice-all.result.now _ c.run_posts.new.now c.in_ok-run_posts.ensures.seen

pub returns : goal.returns
returns c =
    let count = c.args.count in
    let hosts_are : c.as_slice-all.result.now ≡ work_hosts = search rules in
    let bt : Simulation × Tally = (c.run_posts.new.now, c.run_posts.new.tally) in
    let alike : Alike work_hosts (work count) bt = work_alike c.as_slice-all.result.now hosts_are count bt c.in_ok-run_posts.ensures in
    record {
      summary = IfOk-weaker c.summarize.result _ _ (λ text is. is ∙ summary_is count bt alike) c.summarize.ensures;
      safe = λ turns. ok_always (Safe (work_of count turns)) c.summarize.result (c.law_played.ensures.safe work_hosts (work count).0 turns c.law_hosts.ensures.lawful alike.seen.is);
    }
