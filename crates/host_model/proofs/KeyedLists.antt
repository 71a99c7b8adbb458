-- Lists with keys as items come and go: their keys, how many they are, and those that a test passes.
use Rattle.std.specs.Ordering.{is_eq, match_ordering}
use Rattle.std.specs.List.{AllByRecursion, filter}
use Rattle.std.specs.declared.cmp.Ordering.{Ordering}
use Rattle.std.specs.declared.cmp.Ordering.TheVariants.{Less, Equal, Greater}
use Rattle.std.proofs.Common.{All, ◌≡◌, suc, Bool, true, false, not, cond, List, [], ◌∷◌, length, map, Some, is_some, refl, sym, ap, ◌∙◌}
use Rattle.std.proofs.lemmas.List.Elements.{All-filter, All-from_recursion, recursion_from_All}
use Rattle.ps_time.specs.Key.{key_cmp}
use Rattle.ps_time.specs.Sorted.{find_key, insert_key, without_key, IsAscending}
use Rattle.ps_time.specs.declared.key.RunKey.{RunKey}
use Rattle.ps_time.proofs.KeyLemmas.{key_cmp_total}
use Rattle.ps_time.proofs.SortedLemmas.{below_all, insert_front}

-- keys alone, as a list with keys
abbrev pub own_key : RunKey → RunKey
own_key k = k

abbrev pub has : List RunKey → RunKey → Bool
has ks k = is_some (find_key key_cmp own_key ks k)

abbrev pub put_key : List RunKey → RunKey → List RunKey
put_key ks k = insert_key key_cmp own_key ks k

abbrev pub drop_key : List RunKey → RunKey → List RunKey
drop_key ks k = without_key key_cmp own_key ks k

module _ {X : Type 0} (key : X → RunKey) where
  -- ---- the keys of a list
  abbrev pub keys : List X → List RunKey
  keys xs = map key xs

  pub keys_put : (xs : List X) (n : X) → keys (insert_key key_cmp key xs n) ≡ put_key (keys xs) (key n)
  keys_put [] n = refl
  keys_put (x ∷ xs) n =
      let later = ap (λ ks. key x ∷ ks) (keys_put xs n) in
      elim (key_cmp (key x) (key n)) as (λ c. keys (match_ordering c (x ∷ insert_key key_cmp key xs n) (x ∷ insert_key key_cmp key xs n) (n ∷ x ∷ xs)) ≡ match_ordering c (key x ∷ put_key (keys xs) (key n)) (key x ∷ put_key (keys xs) (key n)) (key n ∷ key x ∷ keys xs)) [
        | Less ↦ later
        | Equal ↦ later
        | Greater ↦ refl
      ]

  pub keys_drop : (xs : List X) (k : RunKey) → keys (without_key key_cmp key xs k) ≡ drop_key (keys xs) k
  keys_drop [] k = refl
  keys_drop (x ∷ xs) k =
      elim (is_eq (key_cmp (key x) k)) as (λ b. keys (cond (not b) (x ∷ without_key key_cmp key xs k) (without_key key_cmp key xs k)) ≡ cond (not b) (key x ∷ drop_key (keys xs) k) (drop_key (keys xs) k)) [
        | true ↦ keys_drop xs k
        | false ↦ ap (λ ks. key x ∷ ks) (keys_drop xs k)
      ]

  pub keys_has : (xs : List X) (k : RunKey) → is_some (find_key key_cmp key xs k) ≡ has (keys xs) k
  keys_has [] k = refl
  keys_has (x ∷ xs) k =
      elim (is_eq (key_cmp (key x) k)) as (λ b. is_some (cond b (Some x) (find_key key_cmp key xs k)) ≡ is_some (cond b (Some (key x)) (find_key key_cmp own_key (keys xs) k))) [
        | true ↦ refl
        | false ↦ keys_has xs k
      ]

  -- an item comes where none has its key
  pub keys_come : (xs : List X) (n : X) → has (keys xs) (key n) ≡ false → keys (cond (is_some (find_key key_cmp key xs (key n))) xs (insert_key key_cmp key xs n)) ≡ put_key (keys xs) (key n)
  keys_come xs n new = ap (λ b. keys (cond b xs (insert_key key_cmp key xs n))) (keys_has xs (key n) ∙ new) ∙ keys_put xs n

  -- ---- how many
  pub length-put : (xs : List X) (n : X) → length (insert_key key_cmp key xs n) ≡ suc (length xs)
  length-put [] n = refl
  length-put (x ∷ xs) n =
      let later = ap suc (length-put xs n) in
      elim (key_cmp (key x) (key n)) as (λ c. length (match_ordering c (x ∷ insert_key key_cmp key xs n) (x ∷ insert_key key_cmp key xs n) (n ∷ x ∷ xs)) ≡ suc (suc (length xs))) [
        | Less ↦ later
        | Equal ↦ later
        | Greater ↦ refl
      ]

  -- ---- what holds of all
  module _ (P : X → Type 0) where
    all_put : (n : X) (xs : List X) → P n → AllByRecursion P xs → AllByRecursion P (insert_key key_cmp key xs n)
    all_put n [] here all = (here, tt)
    all_put n (x ∷ xs) here all =
        let later = all_put n xs here all.1 in
        elim (key_cmp (key x) (key n)) as (λ c. AllByRecursion P (match_ordering c (x ∷ insert_key key_cmp key xs n) (x ∷ insert_key key_cmp key xs n) (n ∷ x ∷ xs))) [
          | Less ↦ (all.0, later)
          | Equal ↦ (all.0, later)
          | Greater ↦ (here, all)
        ]

    -- and of a new item, holds after it was put
    pub All-put : (n : X) (xs : List X) → P n → All P xs → All P (insert_key key_cmp key xs n)
    All-put n xs here all = All-from_recursion P (insert_key key_cmp key xs n) (all_put n xs here (recursion_from_All P xs all))

  -- ---- those that a test passes
  module _ (p : X → Bool) where
    -- an item that it doesn't pass changes nothing of them
    pub passed_put_no : (xs : List X) (n : X) → p n ≡ false → filter p (insert_key key_cmp key xs n) ≡ filter p xs
    passed_put_no [] n fails = rw fails refl
    passed_put_no (x ∷ xs) n fails =
        let later = ap (λ ys. cond (p x) (x ∷ ys) ys) (passed_put_no xs n fails) in
        elim (key_cmp (key x) (key n)) as (λ c. filter p (match_ordering c (x ∷ insert_key key_cmp key xs n) (x ∷ insert_key key_cmp key xs n) (n ∷ x ∷ xs)) ≡ filter p (x ∷ xs)) [
          | Less ↦ later
          | Equal ↦ later
          | Greater ↦ ap (λ b. cond b (n ∷ filter p (x ∷ xs)) (filter p (x ∷ xs))) fails
        ]

    -- one that it passes comes among them at its place
    pub passed_put : (xs : List X) (n : X) → IsAscending key_cmp key xs → p n ≡ true → filter p (insert_key key_cmp key xs n) ≡ insert_key key_cmp key (filter p xs) n
    passed_put [] n up passes = rw passes refl
    passed_put (x ∷ xs) n up passes =
        let cases = elim (key_cmp (key x) (key n)) as (λ c. key_cmp (key x) (key n) ≡ c → filter p (match_ordering c (x ∷ insert_key key_cmp key xs n) (x ∷ insert_key key_cmp key xs n) (n ∷ x ∷ xs)) ≡ insert_key key_cmp key (filter p (x ∷ xs)) n) [
          | Less ↦ λ is. later is refl (passed_put xs n up.1 passes)
          | Equal ↦ λ is. later is refl (passed_put xs n up.1 passes)
          | Greater ↦ λ is. ap (λ b. cond b (n ∷ filter p (x ∷ xs)) (filter p (x ∷ xs))) passes ∙ sym (insert_front key_cmp_total key (filter p (x ∷ xs)) n (above (x ∷ xs) (below is, below_all key_cmp_total key xs (key n) (key x) (below is) up.0)))
        ] in
        cases refl
      where
        above : (ys : List X) → AllByRecursion (λ z. key_cmp (key n) (key z) ≡ Less) ys → AllByRecursion (λ z. key_cmp (key n) (key z) ≡ Less) (filter p ys)
        above ys all = recursion_from_All (λ z. key_cmp (key n) (key z) ≡ Less) (filter p ys) (All-filter p (λ z. key_cmp (key n) (key z) ≡ Less) ys (All-from_recursion (λ z. key_cmp (key n) (key z) ≡ Less) ys all))

        below : key_cmp (key x) (key n) ≡ Greater → key_cmp (key n) (key x) ≡ Less
        below is = rw (key_cmp_total.antisymm (key n) (key x), is) refl

        stays : (b : Bool) (c : Ordering) → key_cmp (key x) (key n) ≡ c → match_ordering c true true false ≡ true → cond b (x ∷ insert_key key_cmp key (filter p xs) n) (insert_key key_cmp key (filter p xs) n) ≡ insert_key key_cmp key (cond b (x ∷ filter p xs) (filter p xs)) n
        stays false c is low = refl
        stays true Less is low = rw is refl
        stays true Equal is low = rw is refl
        stays true Greater is low = cc

        later : {c : Ordering} → key_cmp (key x) (key n) ≡ c → match_ordering c true true false ≡ true → filter p (insert_key key_cmp key xs n) ≡ insert_key key_cmp key (filter p xs) n → filter p (x ∷ insert_key key_cmp key xs n) ≡ insert_key key_cmp key (filter p (x ∷ xs)) n
        later {c} is low ih = ap (λ ys. cond (p x) (x ∷ ys) ys) ih ∙ stays (p x) c is low

    -- where one goes, it goes from among them
    pub passed_drop : (xs : List X) (k : RunKey) → filter p (without_key key_cmp key xs k) ≡ without_key key_cmp key (filter p xs) k
    passed_drop [] k = refl
    passed_drop (x ∷ xs) k = go (p x) (is_eq (key_cmp (key x) k)) refl refl (passed_drop xs k)
      where
        go : (a b : Bool) → p x ≡ a → is_eq (key_cmp (key x) k) ≡ b → filter p (without_key key_cmp key xs k) ≡ without_key key_cmp key (filter p xs) k →
            filter p (cond (not b) (x ∷ without_key key_cmp key xs k) (without_key key_cmp key xs k)) ≡ without_key key_cmp key (cond a (x ∷ filter p xs) (filter p xs)) k
        go a true f g ih = elim a as (λ a. filter p (without_key key_cmp key xs k) ≡ without_key key_cmp key (cond a (x ∷ filter p xs) (filter p xs)) k) [ true ↦ rw g ih | false ↦ ih ]
        go true false f g ih = rw (f, g) (ap (λ ys. x ∷ ys) ih)
        go false false f g ih = rw f ih
