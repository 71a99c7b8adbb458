use Rattle.std.proofs.Common.{◌≡◌, IfOk, Some, Result, Ok, Err, option_map, arith, sym, ap, ◌∙◌}
use Rattle.std.specs.Prelude.{option_and_then}
use Rattle.std.specs.Int.{w128, to_be_bytes, from_be_bytes}
use Rattle.uuid.specs.Text.{parsed, hyphenated_text, lower}
use Rattle.uuid.proofs.OrderLemmas.{from_be_bytes-to_be_bytes_16}
use Rattle.ps_time.specs.Id.{id_of, id_text, id_of_text}
use Rattle.ps_time.proofs.id.id_text.Goals as goal

-- what holds of the text holds of its copy
of_copy : {A E : Type 0} (P : A → Type 0) (r : Result A E) (x : A) → IfOk r (λ t. t ≡ x) → P x → IfOk r P
of_copy P (Ok t) x same p = rw same p
of_copy P (Err e) x same p = tt

pub returns-clause-text : goal.returns-clause-text
returns-clause-text c =
    let bytes = c.hyphenated.ensures ∙ (c.from_u128-uuid.ensures ∙ ap (to_be_bytes w128) c.key_uuid.ensures.value) in
    of_copy (λ t. t ≡ id_text c.args.id) _ _ c.new.ensures (c.encode_lower.ensures.text ∙ ap (hyphenated_text lower) bytes)

pub returns-clause-read_back : goal.returns-clause-read_back
returns-clause-read_back c =
    let value = c.key_uuid.result in
    let bytes = c.hyphenated.ensures ∙ c.from_u128-uuid.ensures in
    let read : parsed c.encode_lower.result.now ≡ Some (to_be_bytes w128 value) = sym c.encode_lower.ensures.parsed ∙ ap Some bytes in
    let back : from_be_bytes w128 (to_be_bytes w128 value) ≡ value = from_be_bytes-to_be_bytes_16 value (omega (arith, c.key_uuid.type_inv)) in
    of_copy (λ t. id_of_text t ≡ Some c.args.id) _ _ c.new.ensures (ap (λ p. option_and_then id_of (option_map (from_be_bytes w128) p)) read ∙ (ap id_of back ∙ c.key_uuid.ensures.read_back))
