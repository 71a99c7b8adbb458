-- Runs of doors, one after another.
use Rattle.std.proofs.Common.{◌≡◌, ◌-◌, ℕ, List, [], ◌∷◌, ◌++◌, map, length, Option, Some, None, refl, sym, ap, subst, ◌∙◌, arith}
use Rattle.std.specs.Option.{option_map}
use Rattle.std.proofs.lemmas.List.{map-append, append_assoc, append-nil, length-append}
use Rattle.door_workers.specs.declared.part.End.{End}
use Rattle.door_workers.specs.Runs.{Visit, guest, Attends, faults_at, EndsAt, DoorRun}

-- a list that is told goes on by two lists, one after the other
told_then : {X Y : Type 0} (f : Y → X) (xs ys : List Y) (o : Option (List X)) → option_map (λ l. l ++ map f ys) (option_map (λ l. l ++ map f xs) o) ≡ option_map (λ l. l ++ map f (xs ++ ys)) o
told_then f xs ys None = refl
told_then f xs ys (Some l) = ap Some (append_assoc l (map f xs) (map f ys) ∙ ap (λ r. l ++ r) (sym (map-append f xs ys)))

told_none : {X : Type 0} (o : Option (List X)) → option_map (λ l. l ++ []) o ≡ o
told_none None = refl
told_none (Some l) = ap Some (append-nil l)

less_then : {Y : Type 0} (xs ys : List Y) (o : Option ℕ) → option_map (λ n. n - length ys) (option_map (λ n. n - length xs) o) ≡ option_map (λ n. n - length (xs ++ ys)) o
less_then xs ys None = refl
less_then xs ys (Some n) = let h = length-append xs ys in let e : (n - length xs) - length ys ≡ n - length (xs ++ ys) = omega (arith, h) in ap Some e

less_none : (o : Option ℕ) → option_map (λ n. n - 0) o ≡ o
less_none None = refl
less_none (Some n) = let e : n - 0 ≡ n = omega arith in ap Some e

attends_then : {S T : Type 0} (attended : T → S → List ℕ → S → T → Type 0) (vs ws : List (Visit S)) (t u w : T) → Attends attended vs t u → Attends attended ws u w → Attends attended (vs ++ ws) t w
attends_then attended [] ws t u w e b = subst (λ x. Attends attended ws x w) e b
attends_then attended (v ∷ vs) ws t u w a b = (a.0, a.1, attends_then attended vs ws a.0 u w a.2 b)

module _ {D S T : Type 0} (faults : D → ℕ) (share : D → Option ℕ) (given : D → Option (List (S × List ℕ))) (returned : D → Option (List S)) (attended : T → S → List ℕ → S → T → Type 0) where
  abbrev Run : D → T → Option End → D → T → Type 0
  Run = DoorRun faults share given returned attended

  -- no stream came
  pub no_stream : (d d' : D) (t t' : T) (end : Option End) → given d' ≡ given d → returned d' ≡ returned d → share d' ≡ share d → faults d' ≡ faults_at end (faults d) → EndsAt end (share d') → t' ≡ t → Run d t end d' t'
  no_stream d d' t t' end g r s f e same = record {
    visits = [];
    chain = same;
    gave = g ∙ sym (told_none (given d));
    took = r ∙ sym (told_none (returned d));
    shared = s ∙ sym (less_none (share d));
    counted = f;
    ended = e;
  }

  -- one stream came, was attended and went back
  pub one_stream : (d d1 d2 : D) (t t' : T) (s s' : S) (address : List ℕ)
      → given d1 ≡ option_map (λ l. l ++ (s, address) ∷ []) (given d) → returned d1 ≡ returned d → share d1 ≡ option_map (λ n. n - 1) (share d) → faults d1 ≡ faults d
      → attended t s address s' t'
      → given d2 ≡ given d1 → returned d2 ≡ option_map (λ l. l ++ s' ∷ []) (returned d1) → share d2 ≡ share d1 → faults d2 ≡ faults d1
      → Run d t None d2 t'
  one_stream d d1 d2 t t' s s' address g r h f a g2 r2 h2 f2 = record {
    visits = record { came = s; address = address; left = s' } ∷ [];
    chain = (t', a, refl);
    gave = g2 ∙ g;
    took = r2 ∙ ap (option_map (λ l. l ++ s' ∷ [])) r;
    shared = h2 ∙ h;
    counted = f2 ∙ f;
    ended = tt;
  }

  pub nothing_yet : (d : D) (t : T) → Run d t None d t
  nothing_yet d t = no_stream d d t t None refl refl refl refl tt refl

  -- one run after another
  pub run_then : (d d1 d2 : D) (t t1 t2 : T) (end : Option End) → Run d t None d1 t1 → Run d1 t1 end d2 t2 → Run d t end d2 t2
  run_then d d1 d2 t t1 t2 end a b = record {
    visits = a.visits ++ b.visits;
    chain = attends_then attended a.visits b.visits t t1 t2 a.chain b.chain;
    gave = b.gave ∙ ap (option_map (λ l. l ++ map guest b.visits)) a.gave ∙ told_then guest a.visits b.visits (given d);
    took = b.took ∙ ap (option_map (λ l. l ++ map (λ v. v.left) b.visits)) a.took ∙ told_then (λ v. v.left) a.visits b.visits (returned d);
    shared = b.shared ∙ ap (option_map (λ n. n - length b.visits)) a.shared ∙ less_then a.visits b.visits (share d);
    counted = b.counted ∙ ap (faults_at end) a.counted;
    ended = b.ended;
  }

-- what follows from each visit, and is kept from one to the next
pub attends_later : {S T : Type 0} (attended : T → S → List ℕ → S → T → Type 0) (later : T → T → Type 0) → ((t : T) → later t t) → ((t u v : T) → later t u → later u v → later t v)
    → ((t : T) (s : S) (address : List ℕ) (r : S) (u : T) → attended t s address r u → later t u) → (vs : List (Visit S)) (t u : T) → Attends attended vs t u → later t u
attends_later attended later same then one [] t u e = subst (λ x. later t x) (sym e) (same t)
attends_later attended later same then one (v ∷ vs) t u a =
    then t a.0 u (one t v.came v.address v.left a.0 a.1) (attends_later attended later same then one vs a.0 u a.2)
