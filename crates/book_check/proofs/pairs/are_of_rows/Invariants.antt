use Rattle.std.specs.Prelude.{◌↔◌}
use Rattle.std.proofs.Common.{◌≡◌, drop, filter, is_some, map}
use Rattle.host_model.specs.Book.{keys_of_rows}
use Rattle.book_check.proofs.pairs.are_of_rows.Given as goal

-- what is left decides
abbrev pub invariant-loop-row : goal.invariant-loop-row
invariant-loop-row l =
    (map (λ p. p.0) l.left ≡ keys_of_rows (filter (λ r. is_some r.accepted) (drop l.row-index l.rows)))
    ↔ (map (λ p. p.0) l.pairs ≡ keys_of_rows (filter (λ r. is_some r.accepted) l.rows))
