use Rattle.std.proofs.Common.{◌+◌, ◌∙◌, List, ℕ, length, sym, ap, true, false}
use Rattle.std.specs.Prelude.{nat_le}
use Rattle.host_journal.proofs.LookLemmas.{front_known, front_seen}
use Rattle.host_journal.proofs.journal.look_at.Goals as goal

pub returns-in_default-clause-front : goal.returns-in_default-clause-front
returns-in_default-clause-front g c p =
    front_known c.args.second (g.D.Disk.seen c.args.disk.now) _ (c.in_ok-count.ensures.head p) c.front_of.result (sym c.numbers_in.ensures ∙ c.in_default.is) c.front_of.ensures

pub returns-then-branch-clause-front : goal.returns-then-branch-clause-front
returns-then-branch-clause-front g c p =
    let same = ap (λ (l : List ℕ). nat_le (c.in-Some.numbers.start + 1) (length l)) (c.in_ok-count.ensures.read p).same in
    front_seen c.args.second (g.D.Disk.seen c.args.disk.now) _ (c.in_ok-count.ensures.head p) c.in-Some.numbers true (sym c.numbers_in.ensures ∙ c.in-Some.is) (sym c.if-branch.true ∙ c.in_ok-has_byte_at.ensures.has p ∙ same)

pub returns-else-branch-clause-front : goal.returns-else-branch-clause-front
returns-else-branch-clause-front g c p =
    let same = ap (λ (l : List ℕ). nat_le (c.in-Some.numbers.start + 1) (length l)) (c.in_ok-count.ensures.read p).same in
    front_seen c.args.second (g.D.Disk.seen c.args.disk.now) _ (c.in_ok-count.ensures.head p) c.in-Some.numbers false (sym c.numbers_in.ensures ∙ c.in-Some.is) (sym c.if-branch.false ∙ c.in_ok-has_byte_at.ensures.has p ∙ same)
