use Rattle.std.proofs.Common.{◌≡◌, map, drop}
use Rattle.limit_ident.specs.Require.{met}
use Rattle.limit_ident.proofs.require.Require.is_met.Given as goal

-- what is left decides
abbrev pub invariant-loop-place : goal.invariant-loop-place
invariant-loop-place g l =
    met l.fn.self (map (g.T.PlaceTest.outcome l.test) l.places)
    ≡ met l.require (map (g.T.PlaceTest.outcome l.test) (drop l.place-index l.places))
