use Rattle.std.proofs.Common.{◌≡◌, ◌∙◌, ◌<◌, length, reverse, ap, subst, sym, arith}
use Rattle.std.proofs.lemmas.List.{length-reverse}
use Rattle.std.specs.List.{remove}
use Rattle.host_rows.specs.Deadlines.{Deadlines, IsAscendingDeadlines}
use Rattle.host_rows.proofs.DeadlineLemmas.{ascending_remove}
use Rattle.host_rows.proofs.ReverseLemmas.{removed}
use Rattle.host_rows.proofs.deadlines.Deadlines.take_out.Goals as goal

-- the others stay in order
pub invariant_of-self : goal.invariant_of-self
invariant_of-self c =
    let ds = c.self.inside.entries.list in
    let within : c.args.at < length (reverse ds) = subst (λ (t : Deadlines). c.args.at < length t.list) (sym c.self.view_is) c.requires in
    let left = removed ds c.remove.new.self.list c.args.at c.len.result c.remove.result (omega (arith, within, length-reverse ds)) c.len.ensures.value c.remove.ensures.list in
    subst IsAscendingDeadlines (sym left) (ascending_remove (reverse ds) c.args.at c.remove.result c.self.invariant within)

pub returns-clause-list : goal.returns-clause-list
returns-clause-list c =
    let ds = c.self.inside.entries.list in
    let within : c.args.at < length (reverse ds) = subst (λ (t : Deadlines). c.args.at < length t.list) (sym c.self.view_is) c.requires in
    removed ds c.remove.new.self.list c.args.at c.len.result c.remove.result (omega (arith, within, length-reverse ds)) c.len.ensures.value c.remove.ensures.list ∙ ap (λ (t : Deadlines). remove t.list c.args.at) c.self.view_is
