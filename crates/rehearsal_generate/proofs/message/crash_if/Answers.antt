use Rattle.std.proofs.Common.{◌≡◌, Bool, OnOk, subst, sym}
use Rattle.rehearsal_generate.specs.Work.{crashed, shows}
use Rattle.rehearsal_generate.proofs.ShownLemmas.{ready}
use Rattle.rehearsal_generate.proofs.message.crash_if.Goals as goal

pub crash-requires : goal.crash-requires
crash-requires c = ready c.args.hosts.now c.args.now.now c.requires.shown c.args.place c.args.clock c.requires.place c.requires.clock

pub returns-then-is_crash : goal.returns-then-is_crash
returns-then-is_crash c =
    let hosts = c.args.hosts.now in
    subst (λ (t : Bool). OnOk c.crash.result (c.crash.new.now ≡ crashed (shows hosts) t c.args.place c.args.clock c.args.now.now)) (sym c.if-is_crash.true) (c.crash.ensures hosts)
