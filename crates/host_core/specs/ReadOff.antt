-- Which inputs are decided over the settled book.
use Rattle.host_model.specs.declared.input.Input.{Input}
use Rattle.host_model.specs.declared.input.Input.TheVariants as input

-- all but a turn, whose changes are read one after another
abbrev pub IsReadOff : Input → Type 0
IsReadOff input.Turn = ⊥
IsReadOff _ = Unit {0}
