-- The constants of the code are the numbers of the specification.
use Rattle.std.specs.Prelude.{◌≡◌}
use Rattle.ps_time.specs.declared.moment.TheConstants.{MAX_MOMENT, MAX_LENGTH, ON_DECK}
use Rattle.ps_time.specs.Numbers.{greatest_moment, greatest_length, on_deck}

pub record HasNumbers : Type 0 where
  pub moment : MAX_MOMENT ≡ greatest_moment
  pub length : MAX_LENGTH ≡ greatest_length
  pub deck : ON_DECK ≡ on_deck
