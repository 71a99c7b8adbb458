-- Things that were given out and come back.
use Rattle.std.specs.Prelude.{ℕ, ◌+◌, ◌-◌, List, [], ◌∷◌, ◌++◌}

-- those that came back, in their order, and how many are still out
pub record ReturnedState (T : Type 0) : Type 0 where
  pub back : List T
  pub out : ℕ

-- one more is out
abbrev pub after_going : {T : Type 0} → ReturnedState T → ReturnedState T
after_going r = record { back = r.back; out = r.out + 1 }

-- one came back
abbrev pub after_coming : {T : Type 0} → ReturnedState T → T → ReturnedState T
after_coming r item = record { back = r.back ++ item ∷ []; out = r.out - 1 }
