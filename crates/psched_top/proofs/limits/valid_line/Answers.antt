use Rattle.std.proofs.Common.{◌≡◌, ℕ, List, [], ◌∷◌, ◌++◌, ◌∙◌, append_assoc, sym, codes, decimal}
use Rattle.psched_top.proofs.limits.valid_line.Goals as goal

-- a definition groups its parts to the left, what is written groups them to the right
regroup : (a b c d e f g h i j : List ℕ) → a ++ b ++ c ++ d ++ e ++ f ++ g ++ h ++ i ++ j ≡ a ++ (b ++ (c ++ (d ++ (e ++ (f ++ (g ++ (h ++ (i ++ j))))))))
regroup a b c d e f g h i j = simp append_assoc

pub returns : goal.returns
returns c =
    let n = c.args.counts in
    c.from_string.ensures ∙ c.in_ok-line.ensures.ok ∙ sym (regroup (codes "valid: ") (decimal n.identifiers) (codes " identifiers, ") (decimal n.classifiers) (codes " classifiers, ")
    (decimal n.limits) (codes " limits, ") (decimal n.applications) (codes " applications") (10 ∷ []))
