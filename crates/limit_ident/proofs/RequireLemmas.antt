-- What one outcome leaves of a requirement.
use Rattle.std.proofs.Common.{◌≡◌, ◌≤◌, Bool, true, false, List, [], ◌∷◌, length, arith}
use Rattle.std.proofs.lemmas.Bool.Decides.{nat_tests}
use Rattle.limit_ident.specs.declared.require.Require.{Require}
use Rattle.limit_ident.specs.declared.require.Require.TheVariants.{All}
use Rattle.limit_ident.specs.Require.{trues, met}

trues_few : (outcomes : List Bool) → trues outcomes ≤ length outcomes
trues_few [] = omega arith
trues_few (true ∷ os) = omega (arith, trues_few os)
trues_few (false ∷ os) = omega (arith, trues_few os)

all_false : (os : List Bool) → met All (false ∷ os) ≡ false
all_false os = grind (arith, nat_tests, trues_few os)

-- one that isn't true decides where all have to be
pub all_decided : (require : Require) (outcome : Bool) (others : List Bool) → require ≡ All → outcome ≡ false → met require (outcome ∷ others) ≡ false
all_decided require outcome others is gone = rw (is, gone) (all_false others)
