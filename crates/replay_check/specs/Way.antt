-- What gives way to a run that is accepted.
use Rattle.std.specs.Prelude.{◌≡◌, IfSome, IsNone, List, Some, true}
use Rattle.ps_time.specs.Span.{Span}
use Rattle.ps_time.specs.declared.class.Class.{Class}
use Rattle.ps_time.specs.declared.key.RunKey.{RunKey}
use Rattle.run_states.specs.Conflict.{blocks}
use Rattle.run_states.specs.Rows.{find_row}
use Rattle.run_states.specs.declared.row.RunRow.{RunRow}

-- the row of the key, if there is one, wasn't started
abbrev pub IsWaiting : List RunRow → RunKey → Type 0
IsWaiting rows k = IfSome (find_row rows k) (λ r. IsNone r.started)

-- no booked row that clashes with a run of this class and interval was started
abbrev pub IsFreeWay : Class → Span → List RunRow → Type 0
IsFreeWay class i rows = (r : RunRow) → find_row rows r.key ≡ Some r → blocks class i r ≡ true → IsNone r.started
