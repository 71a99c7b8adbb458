use Rattle.std.proofs.Common.{◌≡◌, drop}
use Rattle.std.specs.Prelude.{codes}
use Rattle.std.specs.List.{list_any}
use Rattle.ps_http.specs.Fields.{values_of, fields_in, is_close}
use Rattle.ps_http.proofs.fields.asks_close.Given as goal

abbrev pub invariant-loop-span : goal.invariant-loop-span
invariant-loop-span l =
    list_any is_close (values_of (codes "connection") (fields_in l.bytes (drop l.span-index l.spans)))
    ≡ list_any is_close (values_of (codes "connection") (fields_in l.bytes l.spans))
