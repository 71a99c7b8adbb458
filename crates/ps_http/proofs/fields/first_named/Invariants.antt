use Rattle.std.proofs.Common.{◌≡◌, drop}
use Rattle.std.specs.List.{slice_get}
use Rattle.ps_http.specs.Fields.{values_of, fields_in}
use Rattle.ps_http.proofs.fields.first_named.Given as goal

abbrev pub invariant-loop-span : goal.invariant-loop-span
invariant-loop-span l = slice_get (values_of l.name (fields_in l.bytes (drop l.span-index l.spans))) 0 ≡ slice_get (values_of l.name (fields_in l.bytes l.spans)) 0
