-- What the loop over the writes of a file keeps.
use Rattle.std.proofs.Common.{◌≡◌, ◌≤◌, ◌-◌, ℕ, ◌+◌, true, List, [], ◌∷◌, ◌++◌, length, take, drop, refl, sym, ap, subst, ◌∙◌, arith, append_assoc, length-append, length-take, take-append-drop}
use Rattle.std.specs.Prelude.{Option, Some, None}
use Rattle.std.proofs.lemmas.List.{append-nil, take_rest}
use Rattle.ps_files.specs.FileCalls.{Adds, ArePieces, WroteWhole}
use Rattle.ps_files.specs.declared.file_calls.FileCall.TheVariants.{WriteAt}
use Rattle.ps_files.specs.declared.file_calls.MadeCall.{MadeCall}

-- a write of this piece that was done
abbrev pub write_of : ℕ → List ℕ → MadeCall
write_of at piece = record { call = WriteAt at piece; done = true }

-- one piece more
pub pieces_more : (at : ℕ) (done piece : List ℕ) (made : List MadeCall) → ArePieces at done made → ArePieces at (done ++ piece) (made ++ write_of (at + length done) piece ∷ [])
pieces_more at done piece [] none =
    let here : at + length done ≡ at = omega (arith, ap length none) in
    (piece, [], ap (λ n. write_of n piece) here, ap (λ (l : List ℕ). l ++ piece) none ∙ sym (append-nil piece), refl)
pieces_more at done piece (m ∷ made) pieces =
    let first = pieces.0 in
    let rest = pieces.1 in
    let split : done ≡ first ++ rest = pieces.3 in
    let place : at + length first + length rest ≡ at + length done = omega (arith, ap length split, length-append first rest) in
    let more = pieces_more (at + length first) rest piece made pieces.4 in (
      first,
      rest ++ piece,
      pieces.2,
      ap (λ (l : List ℕ). l ++ piece) split ∙ append_assoc first rest piece,
      subst (λ n. ArePieces (at + length first) (rest ++ piece) (made ++ write_of n piece ∷ [])) place more,
    )

-- the front of the bytes is written, and the rest is left from this place on
pub record Writing (old now : Option (List MadeCall)) (at : ℕ) (bytes rest : List ℕ) (place : ℕ) : Type 0 where
  pub done : List ℕ
  pub split : bytes ≡ done ++ rest
  pub place_is : place ≡ at + length done
  pub wrote : WroteWhole old now at done

-- with one write more
wrote_more : (old mid now : Option (List MadeCall)) (at place : ℕ) (done piece : List ℕ) → place ≡ at + length done → WroteWhole old mid at done → Adds mid now (write_of place piece ∷ []) → WroteWhole old now at (done ++ piece)
wrote_more old mid None at place done piece is wrote adds = tt
wrote_more old mid (Some calls) at place done piece is wrote adds =
    let here : WroteWhole old (Some adds.0) at done = subst (λ o. WroteWhole old o at done) adds.1 wrote in
    let pieces : ArePieces at (done ++ piece) (here.1 ++ write_of place piece ∷ []) = subst (λ n. ArePieces at (done ++ piece) (here.1 ++ write_of n piece ∷ [])) (sym is) (pieces_more at done piece here.1 here.4) in
    (here.0, here.1 ++ write_of place piece ∷ [], here.2, adds.2 ∙ ap (λ l. l ++ write_of place piece ∷ []) here.3 ∙ append_assoc here.0 here.1 (write_of place piece ∷ []), pieces)

pub writing_more : (old mid now : Option (List MadeCall)) (at : ℕ) (bytes rest : List ℕ) (place n : ℕ) → n ≤ length rest → Writing old mid at bytes rest place → Adds mid now (write_of place (take n rest) ∷ [])
    → Writing old now at bytes (take (length rest - n) (drop n rest)) (place + n)
writing_more old mid now at bytes rest place n le so_far adds = record {
  done = so_far.done ++ take n rest;
  split = so_far.split ∙ ap (λ l. so_far.done ++ l) (sym (take-append-drop n rest)) ∙ sym (append_assoc so_far.done (take n rest) (drop n rest))
      ∙ ap (λ l. (so_far.done ++ take n rest) ++ l) (sym (take_rest rest n));
  place_is = omega (arith, so_far.place_is, le, length-append so_far.done (take n rest), length-take n rest);
  wrote = wrote_more old mid now at place so_far.done (take n rest) so_far.place_is so_far.wrote adds;
}
