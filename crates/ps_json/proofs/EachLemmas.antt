-- Items read one after another, by a recursion and by a loop.
use Rattle.std.proofs.Common.{◌≡◌, List, [], ◌∷◌, ◌++◌, map, All, Result, Ok, Err, refl, sym, ap, ◌∙◌, append_assoc}
use Rattle.std.proofs.lemmas.List.{append-nil}
use Rattle.std.proofs.lemmas.List.Elements.{All-head, All-tail}
use Rattle.serde_json.specs.Data.{Data}
use Rattle.ps_json.specs.Answer.{then_with}
use Rattle.ps_json.specs.Each.{read_each, read_after}

module _ {A E : Type 0} (read : Data → Result A E) where
  -- what a loop goes on with is what was read before, and then each item that is left
  pub read_after-each : (done : List A) (ds : List Data) → read_after read done ds ≡ then_with (read_each read ds) (λ xs. Ok (done ++ xs))
  read_after-each done [] = ap Ok (sym (append-nil done))
  read_after-each done (d ∷ ds) = of_first (read d) (λ x. read_after-each (done ++ x ∷ []) ds)
    where
      behind : (x : A) (r : Result (List A) E) → then_with r (λ xs. Ok ((done ++ x ∷ []) ++ xs)) ≡ then_with (then_with r (λ xs. Ok (x ∷ xs))) (λ xs. Ok (done ++ xs))
      behind x (Err e) = refl
      behind x (Ok xs) = ap Ok (append_assoc done (x ∷ []) xs)

      of_first : (r : Result A E) → ((x : A) → read_after read (done ++ x ∷ []) ds ≡ then_with (read_each read ds) (λ xs. Ok ((done ++ x ∷ []) ++ xs)))
          → then_with r (λ x. read_after read (done ++ x ∷ []) ds) ≡ then_with (then_with r (λ x. then_with (read_each read ds) (λ xs. Ok (x ∷ xs)))) (λ xs. Ok (done ++ xs))
      of_first (Err e) more = refl
      of_first (Ok x) more = more x ∙ behind x (read_each read ds)

  same_values : (r : Result (List A) E) → then_with r (λ xs. Ok xs) ≡ r
  same_values (Err e) = refl
  same_values (Ok xs) = refl

  -- a loop that begins with nothing read reads each item
  pub read_each-loop : (ds : List Data) → read_each read ds ≡ read_after read [] ds
  read_each-loop ds = sym (read_after-each [] ds ∙ same_values (read_each read ds))

  pub read_each-begins : {V : Type 0} (view : V → Data) (values left : List V) (done : List A) → done ≡ [] → left ≡ values → read_each read (map view values) ≡ read_after read done (map view left)
  read_each-begins view values left done none all = rw (none, all) (read_each-loop (map view values))

  -- and goes on behind an item that was read and put to the others
  pub read_after-item : {V : Type 0} (view : V → Data) (done more : List A) (x : A) (v : V) (values left : List V) → values ≡ v ∷ left → read (view v) ≡ Ok x → more ≡ done ++ x ∷ []
      → read_after read done (map view values) ≡ read_after read more (map view left)
  read_after-item view done more x v values left steps is put = rw (steps, is, put) refl

  -- each of some values that is read back from its tree, from the trees of all
  pub read_each-back : (P : A → Type 0) (write : A → Data) → ((x : A) → P x → read (write x) ≡ Ok x) → (xs : List A) → All P xs → read_each read (map write xs) ≡ Ok xs
  read_each-back P write back [] are = refl
  read_each-back P write back (x ∷ xs) are =
      rw (back x (All-head P x xs are), read_each-back P write back xs (All-tail P x xs are)) refl
