-- A field takes three bytes at least, so a place for each three bytes is room enough.
use Rattle.std.proofs.Common.{◌≤◌, ◌+◌, ◌*◌, ℕ, List, [], ◌∷◌, ◌++◌, length, ap, arith, length-append, All}
use Rattle.std.specs.List.{flat_map}
use Rattle.std.proofs.lemmas.List.Elements.{All-head, All-tail}
use Rattle.httparse.specs.Grammar.{LineEnd, crlf, lf, print_end, print_blank, print_version, print_reason, print_section, Field, IsField, print_field, print_request, print_response}
use Rattle.httparse.specs.Spans.{RequestExceeds, ResponseExceeds}

end_takes : (e : LineEnd) → 1 ≤ length (print_end e)
end_takes crlf = omega arith
end_takes lf = omega arith

fields_take : (fields : List Field) → All IsField fields → 3 * length fields ≤ length (flat_map print_field fields)
fields_take [] all = omega arith
fields_take (f ∷ fields) all =
    let rest = fields_take fields (All-tail IsField f fields all) in
    let is = All-head IsField f fields all in
    let a = length-append (print_field f) (flat_map print_field fields) in
    let b = length-append (f.name ++ 58 ∷ f.raw) (print_end f.end) in
    let d = length-append f.name (58 ∷ f.raw) in
    omega (arith, rest, a, b, d, is.name.0, end_takes f.end)

-- a text that ends in a section
section_takes : (start : List ℕ) (fields : List Field) (last : LineEnd) → All IsField fields → 3 * length fields + 1 ≤ length (start ++ print_section fields last)
section_takes start fields last all =
    omega (arith, fields_take fields all, end_takes last, length-append start (print_section fields last), length-append (flat_map print_field fields) (print_end last))

pub request_has_room : (bytes : List ℕ) (room : ℕ) → length bytes ≤ 3 * room + 2 → ¬ (RequestExceeds room bytes)
unfolding print_request
request_has_room bytes room fits (front, rest, split, h, reads, over) =
    let takes = section_takes (print_blank h.blank ++ h.method ++ 32 ∷ h.target ++ 32 ∷ print_version h.minor ++ print_end h.line_end) h.fields h.last reads.0.fields in
    omega (arith, takes, over, fits, ap length split, length-append front rest, ap length reads.1, length-append front (print_end lf), length-append (print_request h) [])

pub response_has_room : (bytes : List ℕ) (room : ℕ) → length bytes ≤ 3 * room + 2 → ¬ (ResponseExceeds room bytes)
unfolding print_response
response_has_room bytes room fits (front, rest, split, h, reads, over) =
    let takes = section_takes (print_blank h.blank ++ print_version h.minor ++ 32 ∷ h.digits ++ print_reason h.reason ++ print_end h.line_end) h.fields h.last reads.0.fields in
    omega (arith, takes, over, fits, ap length split, length-append front rest, ap length reads.1, length-append front (print_end lf), length-append (print_response h) [])
