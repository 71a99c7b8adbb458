use Rattle.std.proofs.Common.{◌≡◌, None, Ok, true, subst, sym}
use Rattle.ps_disks.proofs.RunLemmas.{fed_after}
use Rattle.host_journal.specs.Pair.{pair_of}
use Rattle.host_journal.specs.State.{first_disk, second_disk, stored}
use Rattle.host_journal.specs.declared.reading.Counted.{Counted}
use Rattle.machine_keep.specs.Faulted.{seen_on}
use Rattle.simulated_machine.specs.Held.{Held, place_of}
use Rattle.simulated_machine.proofs.SimulatedLemmas.{or_parts}
use Rattle.simulated_machine.proofs.StepLemmas.{OpenedAt, opened_place}
use Rattle.simulated_machine.proofs.simulated.SimulatedMachine.open.Goals as goal

pub over-requires-clause-reads : goal.over-requires-clause-reads
over-requires-clause-reads g c =
    let journal = c.in-Ok.keep.journal in
    let fed = or_parts (first_disk journal).starved (second_disk journal).starved (sym c.if-is_starved.ensures) in
    let calls_advance = c.in-Ok.ensures.calls_advance in
    ((fed_after c.args.first (first_disk journal) calls_advance.0 c.requires.armed.0.reads fed.0).reads, (fed_after c.args.second (second_disk journal) calls_advance.1 c.requires.armed.1.reads fed.1).reads)

pub returns-clause-place : goal.returns-clause-place
returns-clause-place g c =
    let m = g.M.Machine in
    let keep = c.in-Ok.keep in
    let o = c.in-Ok.ensures.opened in
    let first = seen_on c.args.first in
    let second = seen_on c.args.second in
    let now : Held g.M.Machine.State = record { state = m.state keep.machine; place = place_of (stored seen_on keep.journal); ready = true; unsynced = None; first = 0; second = 0 } in
    subst (λ (h : Held g.M.Machine.State). (read : Counted) × (pair_of first second ≡ Ok read) × OpenedAt m.stands_for m.stood_for h.state (pair_of first second) read h.place) {x = now} (sym c.over.ensures)
    (opened_place m.stands_for m.stood_for (m.state keep.machine) o.place keep.journal first second (stored seen_on keep.journal) (o.read.at tt) (c.known.ensures.place tt c.in-Ok.ensures.ready) o.image o.rewritten (c.in-Ok.ensures.form tt))

pub returns-in-Err-clause-nothing : goal.returns-in-Err-clause-nothing
returns-in-Err-clause-nothing g c at is s fixed stands = c.in-Err.ensures.nothing tt at is s fixed stands
