use Rattle.std.proofs.Common.{◌≡◌, drop}
use Rattle.std.specs.List.{list_all}
use Rattle.std.specs.Char.{is_ascii_alphanumeric}
use Rattle.ps_http.proofs.fields.is_key.Given as goal

abbrev pub invariant-loop-b : goal.invariant-loop-b
invariant-loop-b l = list_all is_ascii_alphanumeric (drop l.b-index l.key) ≡ list_all is_ascii_alphanumeric l.key
