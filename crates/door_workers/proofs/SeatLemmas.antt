-- What becomes of a door that is here.
use Rattle.std.proofs.Common.{◌≡◌, ℕ, List, Option, Some, None, IfSome, refl, sym, subst, ◌∙◌}
use Rattle.door_workers.specs.declared.part.End.{End}
use Rattle.door_workers.specs.declared.part.Ended.{Ended}
use Rattle.door_workers.specs.declared.part.Part.{Part}
use Rattle.door_workers.specs.declared.part.Served.{Served}
use Rattle.door_workers.specs.declared.seat.Seat.{Seat}
use Rattle.door_workers.specs.declared.seat.Seat.TheVariants.{There, Here}
use Rattle.door_workers.specs.Runs.{DoorRun}
use Rattle.door_workers.specs.Seats.{Continues, GoesOn, IsFor, HoldsHere, Ran}
use Rattle.door_workers.proofs.RunLemmas.{nothing_yet, run_then}

module _ {D S T : Type 0} (faults : D → ℕ) (share : D → Option ℕ) (given : D → Option (List (S × List ℕ))) (returned : D → Option (List S)) (attended : T → S → List ℕ → S → T → Type 0) where
  abbrev Run : D → T → Option End → D → T → Type 0
  Run = DoorRun faults share given returned attended

  abbrev C : Served D T → Served D T → Option End → Type 0
  C = Continues faults share given returned attended

  continues_refl : (x : Served D T) (e : Option End) → x.end ≡ e → C x x e
  continues_refl x (Some end) is = refl
  continues_refl x None is = subst (λ e. Run x.door x.token e x.door x.token) (sym is) (nothing_yet faults share given returned attended x.door x.token)

  continues_trans : (x y z : Served D T) (e f : Option End) → x.end ≡ e → y.end ≡ f → C x y e → C y z f → C x z e
  continues_trans x y z (Some a) (Some b) x_is y_is p q = q ∙ p
  continues_trans x y z (Some a) None x_is y_is p q = let e : y.end ≡ x.end = subst (λ (w : Served D T). w.end ≡ x.end) (sym p) refl in cc
  continues_trans x y z None (Some b) x_is y_is p q = subst (λ (w : Served D T). Run x.door x.token w.end w.door w.token) (sym q) p
  continues_trans x y z None None x_is y_is p q =
      run_then faults share given returned attended x.door y.door z.door x.token y.token z.token z.end
      (subst (λ e. Run x.door x.token e y.door y.token) y_is p) q

  continues_for : (p : Part D T) (x y : Served D T) (e : Option End) → x.end ≡ e → Run p.door p.token x.end x.door x.token → C x y e → Run p.door p.token y.end y.door y.token
  continues_for p x y (Some a) is i q = subst (λ (w : Served D T). Run p.door p.token w.end w.door w.token) (sym q) i
  continues_for p x y None is i q =
      run_then faults share given returned attended p.door x.door y.door p.token x.token y.token y.end
      (subst (λ (e : Option End). Run p.door p.token e x.door x.token) is i) q

  finishes_at : (p : Part D T) (x : Served D T) (r : Ended D T) (e : Option End) → x.end ≡ e → Run p.door p.token x.end x.door x.token
      → (x.end ≡ None → Run x.door x.token (Some r.end) r.door r.token) → IfSome e (λ e. r ≡ record { door = x.door; token = x.token; end = e })
      → Ran faults share given returned attended p r
  finishes_at p x r (Some a) is run goes same =
      subst (λ (w : Ended D T). Run p.door p.token (Some w.end) w.door w.token) (sym same) (subst (λ (e : Option End). Run p.door p.token e x.door x.token) is run)
  finishes_at p x r None is run goes same =
      run_then faults share given returned attended p.door x.door r.door p.token x.token r.token (Some r.end)
      (subst (λ (e : Option End). Run p.door p.token e x.door x.token) is run) (goes is)

  module _ {H : Type 0} where
    abbrev G : Seat H D T → Seat H D T → Type 0
    G = GoesOn faults share given returned attended

    pub goes_refl : (s : Seat H D T) → G s s
    goes_refl (There h) = refl
    goes_refl (Here x) = continues_refl x x.end refl

    pub goes_trans : (a b c : Seat H D T) → G a b → G b c → G a c
    goes_trans (There h) b c p q = subst (λ w. G w c) p q
    goes_trans (Here x) (There h) c p q = absurd p
    goes_trans (Here x) (Here y) (There h) p q = absurd q
    goes_trans (Here x) (Here y) (Here z) p q = continues_trans x y z x.end y.end refl refl p q

    -- a seat goes on, and is for the same door
    pub goes_for : (promised : H → Part D T → Type 0) (fits : T → Type 0) (p : Part D T) (a b : Seat H D T)
        → IsFor faults share given returned attended promised fits p a → G a b → HoldsHere fits b → IsFor faults share given returned attended promised fits p b
    goes_for promised fits p (There h) b i q holds = subst (λ w. IsFor faults share given returned attended promised fits p w) (sym q) i
    goes_for promised fits p (Here x) (There h) i q holds = absurd q
    goes_for promised fits p (Here x) (Here y) i q holds = (holds, continues_for p x y x.end refl i.1 q)

    pub holds_for : (promised : H → Part D T → Type 0) (fits : T → Type 0) (p : Part D T) (a : Seat H D T) → IsFor faults share given returned attended promised fits p a → HoldsHere fits a
    holds_for promised fits p (There h) i = tt
    holds_for promised fits p (Here x) i = i.0

  -- a door that went on until it ended
  pub finishes : (p : Part D T) (x : Served D T) (r : Ended D T) → Run p.door p.token x.end x.door x.token
      → (x.end ≡ None → Run x.door x.token (Some r.end) r.door r.token) → IfSome x.end (λ e. r ≡ record { door = x.door; token = x.token; end = e })
      → Ran faults share given returned attended p r
  finishes p x r run goes same = finishes_at p x r x.end refl run goes same
