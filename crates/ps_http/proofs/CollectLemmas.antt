-- What comes from a source, read by read.
use Rattle.std.proofs.Common.{◌≡◌, ◌≤◌, ℕ, false, List, [], ◌++◌, length, sym, ap, ◌∙◌, ◌<◌, ◌-◌, ◌⊎◌, inl, inr, append_assoc, append-nil, Option, take, drop, min, arith}
use Rattle.std.proofs.lemmas.Bool.{cases_lt}
use Rattle.std.proofs.lemmas.List.{take_all}
use Rattle.ps_http.specs.Lines.{has_head_end}
use Rattle.ps_http.specs.Scan.{is_ended, positions_after}
use Rattle.ps_http.specs.declared.lines.LinePosition.{LinePosition}
use Rattle.ps_http.specs.declared.lines.LinePosition.TheVariants.{Before}
use Rattle.ps_http.proofs.ScanLemmas.{placed_more, scanned_head}
use Rattle.std.specs.Io.KnownBytes.{Keeps}
use Rattle.std.proofs.KnownBytes.{Consumes-nil, Consumes-trans, Consumes-kept}
use Rattle.ps_http.specs.Collected.{Added, IsWanted}
use Rattle.ps_http.specs.Held.{Came}

pub added_none : (held : List ℕ) (left : Option (List ℕ)) → Added held held left left
added_none held left = record { came = []; consumed = Consumes-nil left; added = sym (append-nil held) }

pub added_more : (n : ℕ) (old held now : List ℕ) (left mid rest : Option (List ℕ)) → Added old held left mid → Came n held now mid rest → Added old now left rest
added_more n old held now left mid rest before more = record {
  came = before.came ++ more.bytes;
  consumed = Consumes-trans left mid rest before.came more.bytes before.consumed more.consumed;
  added = more.added ∙ ap (λ l. l ++ more.bytes) before.added ∙ append_assoc old before.came more.bytes;
}

pub added_kept : (old held now : List ℕ) (left mid rest : Option (List ℕ)) → Added old held left mid → now ≡ held → Keeps mid rest → Added old now left rest
added_kept old held now left mid rest before same kept = record {
  came = before.came;
  consumed = Consumes-kept left mid rest before.came before.consumed kept;
  added = same ∙ before.added;
}

-- as many of the bytes as there are, up to most
pub take_upto : (held : List ℕ) (most upto : ℕ) → upto ≡ min (length held) most → take upto held ≡ take most held
take_upto held most upto is = by_order (cases_lt (length held) most)
  where
    by_order : (length held < most) ⊎ (most ≤ length held) → take upto held ≡ take most held
    by_order (inl short) = take_all upto held (omega (arith, is, short)) ∙ sym (take_all most held (omega (arith, short)))
    by_order (inr enough) = let same : upto ≡ most = omega (arith, is, enough) in ap (λ n. take n held) same

-- the place behind the bytes that were scanned
pub scanned_upto : (held line : List ℕ) (place next : LinePosition) (seen upto most : ℕ) → line ≡ held → seen ≤ upto → place ≡ positions_after Before (take seen held)
    → next ≡ positions_after place (take (upto - seen) (drop seen line)) → next ≡ positions_after Before (take upto held)
scanned_upto held line place next seen upto most same order placed is =
    is ∙ ap (λ l. positions_after place (take (upto - seen) (drop seen l))) same ∙ placed_more held place seen upto order placed

pub ended_upto : (held : List ℕ) (next : LinePosition) (most upto : ℕ) → upto ≡ min (length held) most → next ≡ positions_after Before (take upto held)
    → is_ended next ≡ has_head_end (take most held)
ended_upto held next most upto is placed = ap is_ended placed ∙ scanned_head (take upto held) ∙ ap has_head_end (take_upto held most upto is)

-- more came, which was wanted
pub wanted_more : (most n : ℕ) (old held now : List ℕ) (left rest : Option (List ℕ)) → IsWanted most old held → Came n held now left rest
    → length held < most → has_head_end held ≡ false → length now ≤ most → IsWanted most old now
wanted_more most n old held now left rest (inl same) came short unended within =
    inr (omega (arith, short, ap length same), ap has_head_end (sym same) ∙ unended, within)
wanted_more most n old held now left rest (inr was) came short unended within = inr (was.0, was.1, within)
