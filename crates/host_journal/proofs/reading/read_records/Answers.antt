use Rattle.std.proofs.Common.{sym, ◌∙◌, ap, subst, List, [], ◌∷◌, ◌++◌, ℕ}
use Rattle.host_journal.proofs.FormatLemmas.{Walking, walking_step}
use Rattle.host_journal.proofs.reading.read_records.Goals as goal

pub loop-behind-preserved : goal.loop-behind-preserved
loop-behind-preserved c =
    let so_far = walking_step c.args.list.now c.loop-behind.list c.args.gate_bytes.now c.loop-behind.rest.now c.in-Some.behind.now _ _ c.loop-behind.invariant c.in-Some.ensures.some c.in-Some-read_sized.ensures.some in
    subst (λ (l : List (List ℕ)). Walking c.args.list.now l c.args.gate_bytes.now c.in-Some-read_sized.next.now)
    (ap (λ (x : List ℕ). c.loop-behind.list ++ x ∷ []) (sym c.in_ok-copy_bytes.ensures) ∙ sym c.in_ok-push.ensures.ok) so_far
