-- A walk over a table, in pieces.
use Rattle.std.specs.Prelude.{◌≡◌, ◌-◌, ◌||◌, Bool, nat_lt, if◌then◌else◌, length, slice_get, List, [], Option, Some, None, option_map}
use Rattle.std.specs.declared.cmp.Ordering.TheVariants.{Less}
use Rattle.ps_time.specs.Key.{key_cmp}
use Rattle.ps_time.specs.declared.key.RunKey.{RunKey}
use Rattle.result_table.specs.Record.{above}
use Rattle.result_table.specs.declared.record.Record.{Record}

-- what is left above the key; where there is none, nothing
abbrev pub left_above : Option RunKey → List Record → List Record
left_above None table = []
left_above (Some key) table = above (Some key) table

-- the key of the last record of a piece; none where nothing more is wanted, and where the piece isn't whole
abbrev pub next_key : Bool → List Record → Option RunKey
next_key full piece = if full || nat_lt (length piece) 64 then None else option_map (λ r. r.key) (slice_get piece (length piece - 1))

-- the key is above the other, where there is one
abbrev pub IsFurther : Option RunKey → RunKey → Type 0
IsFurther None next = Unit {0}
IsFurther (Some key) next = key_cmp key next ≡ Less
