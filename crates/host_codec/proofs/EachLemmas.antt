-- Values that are written one after another, as they are lent.
use Rattle.std.proofs.Common.{◌≡◌, ◌++◌, ◌∷◌, ◌∙◌, [], All, List, ap, append_assoc, subst, sym, ℕ}
use Rattle.std.proofs.lemmas.List.Elements.{All-cons, All-nil, All-rest}
use Rattle.std.specs.List.{flat_map}
use Rattle.value_bytes.specs.Codec.{Codec}

module _ {A : Type 0} (c : Codec A) (all : List A) (before : List ℕ) where
  -- what was written, and the bytes of those that are left; if these have bytes, all have
  abbrev pub AreWritten : List ℕ → List A → Type 0
  AreWritten out left = All c.Writable left × (before ++ flat_map c.code all ≡ out ++ flat_map c.code left) × (All c.Fits left → All c.Fits all)

  -- the first that is left is written next
  pub next_written : (first : A) (rest left : List A) (out new : List ℕ) → left ≡ first ∷ rest → new ≡ out ++ c.code first → c.Fits first → AreWritten out left → AreWritten new rest
  next_written first rest left out new steps code fits so_far = (
    All-rest c.Writable first rest left steps so_far.0,
    so_far.1 ∙ (ap (λ xs. out ++ flat_map c.code xs) steps ∙ (sym (append_assoc out (c.code first) (flat_map c.code rest)) ∙ ap (λ written. written ++ flat_map c.code rest) (sym code))),
    λ fit. so_far.2 (subst (All c.Fits) (sym steps) (All-cons c.Fits first rest fits fit)),
  )

  pub all_fit : (left : List A) (out : List ℕ) → left ≡ [] → AreWritten out left → All c.Fits all
  all_fit left out none so_far = so_far.2 (subst (All c.Fits) (sym none) (All-nil c.Fits))
