-- Which inputs are decided once, over the settled book.
use Rattle.host_model.specs.declared.input.Input.{Input}
use Rattle.host_model.specs.declared.input.Input.TheVariants as input

-- it isn't a turn or an opening, whose changes are read one after another, nor asks to see a page
abbrev pub IsAnswerable : Input → Type 0
IsAnswerable (input.View page) = ⊥
IsAnswerable input.Turn = ⊥
IsAnswerable input.Open = ⊥
IsAnswerable _ = Unit {0}
