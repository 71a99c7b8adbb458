use Rattle.std.proofs.Common.{subst, sym}
use Rattle.rehearsal_generate.specs.Shown.{IsShown}
use Rattle.rehearsal_generate.proofs.ShownLemmas.{shown_crashed}
use Rattle.rehearsal_generate.proofs.message.handle.Goals as goal

-- the host may have crashed
pub meet-requires-clause-shown : goal.meet-requires-clause-shown
meet-requires-clause-shown c =
    subst (IsShown c.args.hosts.now) (sym c.in_ok-crash_if.ensures)
    (shown_crashed c.args.hosts.now c.args.now.now c.requires.shown c.is_crash-crashes.result c.args.place c.args.clock c.requires.place c.requires.clock)
