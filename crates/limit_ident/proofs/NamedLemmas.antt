-- The place of a name as entries come.
use Rattle.std.proofs.Common.{◌≡◌, ℕ, suc, Bool, true, false, cond, List, [], ◌∷◌, ◌++◌, length, Option, Some, None, option_map, bytes_eq, is_some, refl, sym, ap, ◌∙◌}
use Rattle.std.proofs.lemmas.Slice.Eq.{bytes_eq-Decides}
use Rattle.limit_ident.specs.declared.named.Named.{Named}
use Rattle.limit_ident.specs.Named.{place_of, first_place}

-- the place of the last one is one more behind another entry
one_more : (o : Option ℕ) (b : Bool) (n : ℕ) → option_map suc (first_place o (cond b (Some n) None)) ≡ first_place (option_map suc o) (cond b (Some (suc n)) None)
one_more (Some place) b n = refl
one_more None true n = refl
one_more None false n = refl

-- behind the others an entry is found by its name, unless an earlier one is
pub place_of-push : {T : Type 0} (name : List ℕ) (es : List (Named T)) (e : Named T) → place_of name (es ++ e ∷ []) ≡ first_place (place_of name es) (cond (bytes_eq e.name name) (Some (length es)) None)
place_of-push name [] e = refl
place_of-push name (x ∷ es) e =
    elim (bytes_eq x.name name) as (λ b. cond b (Some 0) (option_map suc (place_of name (es ++ e ∷ []))) ≡ first_place (cond b (Some 0) (option_map suc (place_of name es))) (cond (bytes_eq e.name name) (Some (length (x ∷ es))) None)) [
      | true ↦ refl
      | false ↦ ap (option_map suc) (place_of-push name es e) ∙ one_more (place_of name es) (bytes_eq e.name name) (length es)
    ]

-- ---- an index of places, seen by what it finds

alone : (o : Option ℕ) → o ≡ first_place o None
alone None = refl
alone (Some place) = refl

kept_place : (o other : Option ℕ) → is_some o ≡ true → o ≡ first_place o other
kept_place None other there = absurd cc
kept_place (Some place) other there = refl

no_place : (o other : Option ℕ) → is_some o ≡ false → other ≡ first_place o other
no_place None other gone = refl
no_place (Some place) other gone = absurd cc

module _ (find : List ℕ → Option ℕ) (name : List ℕ) (place : ℕ) where
  -- where the name has a place, nothing changes
  pub place_stays : is_some (find name) ≡ true → (other : List ℕ) → find other ≡ first_place (find other) (cond (bytes_eq name other) (Some place) None)
  place_stays there other =
      let cases = elim (bytes_eq name other) as (λ b. bytes_eq name other ≡ b → find other ≡ first_place (find other) (cond b (Some place) None)) [
        | true ↦ λ is. kept_place (find other) (Some place) (ap (λ q. is_some (find q)) (sym ((bytes_eq-Decides name other).0 is)) ∙ there)
        | false ↦ λ is. alone (find other)
      ] in
      cases refl

  -- else it gets one
  pub place_comes : (found : List ℕ → Option ℕ) → is_some (find name) ≡ false → ((other : List ℕ) → found other ≡ cond (bytes_eq name other) (Some place) (find other))
      → (other : List ℕ) → found other ≡ first_place (find other) (cond (bytes_eq name other) (Some place) None)
  place_comes found gone is other =
      let cases = elim (bytes_eq name other) as (λ b. bytes_eq name other ≡ b → cond b (Some place) (find other) ≡ first_place (find other) (cond b (Some place) None)) [
        | true ↦ λ same. no_place (find other) (Some place) (ap (λ q. is_some (find q)) (sym ((bytes_eq-Decides name other).0 same)) ∙ gone)
        | false ↦ λ same. alone (find other)
      ] in
      is other ∙ cases refl

-- an index that found the entries' places, with one more, finds the places of them and one more
pub found_push : {T : Type 0} (before found : List ℕ → Option ℕ) (es made : List (Named T)) (e : Named T) (place : ℕ)
    → ((name : List ℕ) → before name ≡ place_of name es) → ((name : List ℕ) → found name ≡ first_place (before name) (cond (bytes_eq e.name name) (Some place) None)) → place ≡ length es → made ≡ es ++ e ∷ []
    → (name : List ℕ) → found name ≡ place_of name made
found_push before found es made e place was comes last is name =
    rw (is, comes name, was name, last) (sym (place_of-push name es e))
