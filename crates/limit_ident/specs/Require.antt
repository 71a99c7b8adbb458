-- How many outcomes of a list have to be true.
use Rattle.std.specs.Prelude.{◌≡◌, ℕ, ◌+◌, ◌==◌, nat_le, Bool, true, false, List, [], ◌∷◌, length}
use Rattle.limit_ident.specs.declared.require.Require.{Require}
use Rattle.limit_ident.specs.declared.require.Require.TheVariants.{All, Any, One, None as no_one}
use Rattle.limit_ident.specs.declared.require.After.{After}
use Rattle.limit_ident.specs.declared.require.After.TheVariants.{Decided, Open}

abbrev pub trues : List Bool → ℕ
trues [] = 0
trues (true ∷ outcomes) = 1 + trues outcomes
trues (false ∷ outcomes) = trues outcomes

-- over n outcomes of which t are true
abbrev pub met : Require → List Bool → Bool
met All outcomes = trues outcomes == length outcomes
met Any outcomes = nat_le 1 (trues outcomes)
met One outcomes = trues outcomes == 1
met no_one outcomes = trues outcomes == 0

-- what an outcome leaves: the answer, whatever comes behind it, or what is required of those behind it
abbrev pub IsLeft : Require → Bool → After → Type 0
IsLeft require outcome (Decided answer) = (others : List Bool) → met require (outcome ∷ others) ≡ answer
IsLeft require outcome (Open left) = (others : List Bool) → met require (outcome ∷ others) ≡ met left others
