use Rattle.std.proofs.Common.{◌≡◌, Some, ap, reverse, sym, subst, ◌∙◌, arith}
use Rattle.std.proofs.lemmas.List.{length-reverse}
use Rattle.host_rows.specs.Deadlines.{filed, Deadlines, IsAscendingDeadlines, IsGapFor, IsPlaceOf}
use Rattle.host_rows.specs.declared.deadlines.Deadline.{Deadline}
use Rattle.host_rows.proofs.DeadlineLemmas.{ascending_put, put_gap, put_place}
use Rattle.host_rows.proofs.ReverseLemmas.{inserted}
use Rattle.host_rows.proofs.deadlines.Deadlines.file.Goals as goal

-- the deadline goes into the gap
pub invariant_of-self : goal.invariant_of-self
invariant_of-self c =
    let d : Deadline = record { moment = c.in-Some.moment; key = c.args.key } in
    let ds = c.self.inside.entries.list in
    let seen : reverse ds ≡ c.args.self.now.list = ap (λ (t : Deadlines). t.list) c.self.view_is in
    let gap : IsGapFor (reverse ds) d c.in-Err.at = rw seen c.in-Err.ensures.absent in
    let put = inserted ds c.insert.new.self.list c.in-Err.at c.len.result d (omega (arith, gap.within, length-reverse ds)) c.len.ensures.value c.insert.ensures.list in
    subst IsAscendingDeadlines (sym put) (ascending_put (reverse ds) d c.in-Err.at c.self.invariant gap)

-- one that is there already stays
pub returns-in-Ok-clause-list : goal.returns-in-Ok-clause-list
returns-in-Ok-clause-list c =
    let d : Deadline = record { moment = c.in-Some.moment; key = c.args.key } in
    let items = reverse c.self.inside.entries.list in
    let seen : items ≡ c.args.self.now.list = ap (λ (t : Deadlines). t.list) c.self.view_is in
    let place : IsPlaceOf items d c.in-Ok.field-0 = rw seen c.in-Ok.ensures.found in
    rw (← seen) (sym (ap (λ o. filed c.args.key o items) c.in-Some.is ∙ put_place items c.self.invariant d c.in-Ok.field-0 place))

pub returns-in-Err-clause-list : goal.returns-in-Err-clause-list
returns-in-Err-clause-list c =
    let d : Deadline = record { moment = c.in-Some.moment; key = c.args.key } in
    let ds = c.self.inside.entries.list in
    let seen : reverse ds ≡ c.args.self.now.list = ap (λ (t : Deadlines). t.list) c.self.view_is in
    let gap : IsGapFor (reverse ds) d c.in-Err.at = rw seen c.in-Err.ensures.absent in
    let put = inserted ds c.insert.new.self.list c.in-Err.at c.len.result d (omega (arith, gap.within, length-reverse ds)) c.len.ensures.value c.insert.ensures.list in
    put ∙ (sym (put_gap (reverse ds) d c.in-Err.at gap) ∙ (ap (λ l. filed c.args.key (Some c.in-Some.moment) l) seen ∙ sym (ap (λ o. filed c.args.key o c.args.self.now.list) c.in-Some.is)))
