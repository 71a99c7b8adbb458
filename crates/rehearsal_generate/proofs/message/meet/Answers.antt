use Rattle.std.proofs.Common.{◌≡◌, Bool, subst, sym}
use Rattle.rehearsal_generate.specs.Work.{met, shows}
use Rattle.rehearsal_generate.proofs.ShownLemmas.{is_playing}
use Rattle.rehearsal_generate.proofs.message.meet.Goals as goal

pub returns-then-is_loss : goal.returns-then-is_loss
returns-then-is_loss c =
    let hosts = c.args.hosts.now in
    subst (λ (t : Bool). c.lose.new.now ≡ met (shows hosts) t c.args.number c.args.clock c.args.now.now) (sym c.if-is_loss.true) (c.lose.ensures hosts)

pub arrive-requires-clause-playing : goal.arrive-requires-clause-playing
arrive-requires-clause-playing c = is_playing c.args.hosts.now c.args.now.now c.requires.shown
