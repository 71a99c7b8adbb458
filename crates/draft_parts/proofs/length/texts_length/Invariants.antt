use Rattle.std.specs.Prelude.{sum}
use Rattle.std.proofs.Common.{◌≡◌, ◌+◌, drop, map}
use Rattle.host_model.specs.RecordLength.{list_bytes, text_bytes}
use Rattle.draft_parts.proofs.length.texts_length.Given as goal

-- what is counted and what is left come to all
abbrev pub invariant-loop-text : goal.invariant-loop-text
invariant-loop-text l = l.total + sum (map text_bytes (drop l.text-index l.texts)) ≡ list_bytes text_bytes l.texts
