use Rattle.std.proofs.Common.{◌≡◌, ◌≤◌, length, ◌+◌, drop}
use Rattle.ps_http.specs.Fields.{values_of, fields_in}
use Rattle.ps_http.proofs.fields.count_named.Given as goal

abbrev pub invariant-loop-span : goal.invariant-loop-span
invariant-loop-span l = record {
  counted : l.count + length (values_of l.name (fields_in l.bytes (drop l.span-index l.spans))) ≡ length (values_of l.name (fields_in l.bytes l.spans));
  within : l.count ≤ l.span-index;
}
