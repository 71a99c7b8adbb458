use Rattle.std.proofs.Common.{◌≡◌, drop}
use Rattle.std.specs.Prelude.{codes}
use Rattle.ps_http.specs.Fields.{values_of, fields_in, are_peers}
use Rattle.ps_http.proofs.fields.are_peers.Given as goal

abbrev pub invariant-loop-span : goal.invariant-loop-span
invariant-loop-span l =
    are_peers (values_of (codes "ps-peer") (fields_in l.bytes (drop l.span-index l.spans)))
    ≡ are_peers (values_of (codes "ps-peer") (fields_in l.bytes l.spans))
