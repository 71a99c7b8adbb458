-- Each step of a seat is allowed, and tells what its play says.
use Rattle.std.proofs.Common.{◌≡◌, ◌≤◌, ◌<◌, ◌+◌, ◌^◌, ◌%◌, ◌==◌, ◌⊎◌, ℕ, zero, suc, List, [], ◌∷◌, ◌++◌, slice_index, set, Option, Some, None, inl, inr, ⊎_elim, refl, sym, ap, ◌∙◌, subst, arith, eq-eqb, ne_eqb, le_refl, get_or-set_same, get_or-set_other, length-set}
use mathlib.Core.Option.{some, none, some-injective, some-ne-none}
use mathlib.Core.Logic.{dite}
use native.Mathlib.Decide.{ℕ_discrete, dec_le}
use prog.Atomic.{either}
use lib.ListN.{get_elem?}
use lib.Seq.{set-get_or}
use Rattle.atomic_table.specs.Table.{State, Act, keeps, takes, gives, step, stepped, Allows, Splits, Joins, Valid, carried_after, put_back}
use Rattle.atomic_table.proofs.Lists.{set_again, set_else}
use Rattle.std.proofs.lemmas.Option.{same_Some, none-some}
use Rattle.host_gate.specs.declared.view.Mark.{Mark}
use Rattle.host_gate.specs.declared.view.Stage.{Stage}
use Rattle.host_gate.specs.declared.view.Stage.TheVariants.{Outside, Waits, Holds, Leaves}
use Rattle.host_gate.specs.declared.view.View.{View}
use Rattle.host_gate.specs.Stages.{At, HasTicket, HasTurn}
use Rattle.host_gate.specs.Marks.{Follows, HasSeen}
use Rattle.host_gate.specs.Stages.{first_view}
use Rattle.host_gate.specs.Turns.{TurnRule}
use Rattle.host_gate.specs.Line.{counted, LineRule, GateRule}
use Rattle.host_gate.specs.Plays.{Sat, mark, leaving, read, drawn, served, counts, ended, compared}
use Rattle.host_gate.proofs.LineKept.{NoTurn, IsSeen}
use Rattle.host_gate.proofs.LineKept as line
use Rattle.host_gate.proofs.TurnKept as turn

module _ {K : Type 0} where
  abbrev ticket_or : ℕ → Stage K → ℕ
  ticket_or t (Holds u m) = u
  ticket_or t _ = t

  abbrev mark_or : Mark K → Stage K → Mark K
  mark_or m (Holds u n) = n
  mark_or m _ = m

  abbrev pub carried_or : Option K → List (ℕ × Option K) → Option K
  carried_or y [] = y
  carried_or y (x ∷ xs) = x.1

module _ {K : Type 0} (grown : K → K → Type 0) (grown_refl : (x : K) → grown x x) (grown_trans : (x y z : K) → grown x y → grown y z → grown x z) where
  abbrev Rule : State (Option K) (View K) → Type 0
  Rule s = GateRule grown s.words s.homes s.views

  -- a load that changes a view outside the turn
  loads : (s : State (Option K) (View K)) (i me : ℕ) (v w : View K) → Rule s → At s.views me v → NoTurn v.stage → NoTurn w.stage → w.read ≤ slice_index s.words 0
      → ((t : ℕ) → HasTicket w.stage t → HasTicket v.stage t) → ((m : Mark K) → HasSeen w m → IsSeen s.views m)
      → GateRule grown (set s.words i (slice_index s.words i)) s.homes (set s.views me w)
  loads s i me v w r at before after read ticket seen = subst (λ us. GateRule grown us s.homes (set s.views me w)) (sym (set-get_or s.words i 0)) record {
    turns = turn.stays s.words s.words s.views me v w r.turns.count refl refl r.turns at read ticket (λ t m h. absurd (after t m h));
    state = line.calm grown grown_refl grown_trans s.words s.words s.homes s.views me v w refl refl at before after seen r.state;
  }

  outside_calm : (v : View K) → v.stage ≡ Outside → NoTurn v.stage
  outside_calm v is t m h = subst (λ (s : Stage K). HasTurn s t m) is h

  waits_calm : (v : View K) (t : ℕ) → v.stage ≡ Waits t → NoTurn v.stage
  waits_calm v t is u m h = subst (λ (s : Stage K). HasTurn s u m) is h

  pub reads : (slots id : ℕ) (me : Sat K) → me.0.stage ≡ Outside → Allows Rule slots id me 0 (λ n. n) (read (step slots 0 0 0 none) me)
  reads slots id me outside s r homes at small =
      let calm = outside_calm me.0 outside in
      (record me.0 { read = slice_index s.words 0 }, keeps, tt, loads s 0 id me.0 _ r at calm calm (le_refl _) (λ t h. h) (λ m h. (id, me.0, at, h)), (r.turns.read id me.0 at, refl))

  pub draws : (slots id : ℕ) (me : Sat K) (t : ℕ) → me.0.stage ≡ Outside → t ≤ 2 ^ 63 → Allows Rule slots id me 0 (λ n. either (n == t) (t + 1) n) (drawn (step slots 0 t (t + 1) none) me)
  draws slots id me t outside room s r homes at small =
      let n = slice_index s.words 0 in
      let calm = outside_calm me.0 outside in
      let w : View K = record me.0 { stage = Waits n } in
      dite (ℕ_discrete n t)
      (λ hit. (
        w,
        keeps,
        tt,
        subst (λ x. GateRule grown (set s.words 0 x) s.homes (set s.views id w)) (ap (λ x. x + 1) hit ∙ ap (λ b. either b (t + 1) n) (sym (eq-eqb n t hit))) record {
          turns = turn.draws s.words s.views id me.0 r.turns at (omega arith);
          state = line.calm grown grown_refl grown_trans s.words (set s.words 0 (n + 1)) s.homes s.views id me.0 w (get_or-set_other s.words 0 1 (n + 1) 0 (λ e. omega arith)) (get_or-set_other s.words 0 2 (n + 1) 0 (λ e. omega arith))
              at calm (λ u m h. h) (λ m h. (id, me.0, at, h)) r.state;
        },
        (λ _. refl, λ other. absurd (other hit)),
      ))
      (λ miss. (
        me.0,
        keeps,
        tt,
        subst (λ x. GateRule grown (set s.words 0 x) s.homes (set s.views id me.0)) (ap (λ b. either b (t + 1) n) (sym (ne_eqb n t miss)))
            (loads s 0 id me.0 me.0 r at calm calm (r.turns.read id me.0 at) (λ u h. h) (λ m h. (id, me.0, at, h))),
        (λ hit. absurd (miss hit), λ _. refl),
      ))

  pub looks : (slots id : ℕ) (me : Sat K) (t : ℕ) → me.0.stage ≡ Waits t → Allows Rule slots id me 1 (λ n. n) (served grown (step slots 1 0 0 none) me)
  looks slots id me t waits s r homes at small =
      let n = slice_index s.words 1 in
      let calm = waits_calm me.0 t waits in
      let mine : (u : ℕ) → HasTicket me.0.stage u → t ≡ u = λ u h. subst (λ (s : Stage K). HasTicket s u) waits h in
      let has : (u : ℕ) → t ≡ u → HasTicket me.0.stage u = λ u e. subst (λ (s : Stage K). HasTicket s u) (sym waits) e in
      dite (ℕ_discrete n t)
      (λ come.
      let us = set s.words 1 n in
      let same : us ≡ s.words = set-get_or s.words 1 0 in
      let go = line.taken grown grown_refl grown_trans s.words us s.homes s.views id me.0 n (ap (λ ws. slice_index ws 1) same) (ap (λ ws. slice_index ws 2) same) r.turns at (waits ∙ ap (λ (x : ℕ). let y : Stage K = Waits x in y) (sym come)) refl r.state in
      let m = r.state.latest in
      let w : View K = record me.0 { stage = Holds n m } in (
        w,
        takes 0 (Some m.state),
        ap (λ hs. get_elem? hs 0) go.0,
        record {
          turns = turn.looks s.words s.views id 1 me.0 w r.turns at (r.turns.read id me.0 at) (λ u h. has u (sym come ∙ h)) (λ u x h. sym h.0);
          state = subst (λ hs. LineRule grown us hs (set s.views id w)) (ap (λ hs. set hs 0 none) (sym go.0)) go.1;
        },
        (λ _. (m, refl, λ x e. r.state.seen id me.0 x at (inl e)), λ other. absurd (other (has n (sym come)))),
      ))
      (λ other. (me.0, keeps, tt, loads s 1 id me.0 me.0 r at calm calm (r.turns.read id me.0 at) (λ u h. h) (λ m h. (id, me.0, at, h)), (λ h. absurd (other (sym (mine n h))), λ _. refl)))

  pub adds : (slots id : ℕ) (me : Sat K) (t : ℕ) (m : Mark K) (y : K) (up : ℕ) → me.0.stage ≡ Holds t m → me.1 ≡ (0, Some y) ∷ [] → grown m.state y → (up ≡ 0 → y ≡ m.state) → up ≤ 1
      → Allows Rule slots id me 2 (λ n. (n + up) % 2 ^ 64) (counts (step slots 2 up 0 none) me)
  adds slots id me t m y up holds carried grows same small s r homes at fits =
      let n = slice_index s.words 2 in
      let has : HasTurn me.0.stage t m = subst (λ (s : Stage K). HasTurn s t m) (sym holds) (refl, refl) in
      let out = r.state.out id me.0 t m at has in
      let room : n ≤ slice_index s.words 1 + 0 = subst (λ (g : Stage K). n ≤ slice_index s.words 1 + counted g) holds out.2 in
      let order = r.turns.order in
      let bound = r.turns.bound in
      let here : n ≡ m.front = r.state.count ∙ ap (λ (x : Mark K). x.front) (sym out.1) in
      let us = set s.words 2 ((n + up) % 2 ^ 64) in
      let sum : (n + up) % 2 ^ 64 ≡ m.front + up = omega (arith, here) in
      let zero_is : slice_index us 0 ≡ slice_index s.words 0 = get_or-set_other s.words 2 0 ((n + up) % 2 ^ 64) 0 (λ e. omega arith) in
      let one_is : slice_index us 1 ≡ slice_index s.words 1 = get_or-set_other s.words 2 1 ((n + up) % 2 ^ 64) 0 (λ e. omega arith) in
      let two_is : slice_index us 2 ≡ m.front + up = get_or-set_same s.words 2 ((n + up) % 2 ^ 64) 0 (omega (arith, r.turns.count)) ∙ sum in
      let w : View K = leaving me.0 t y (m.front + up) in
      let served : t ≡ slice_index s.words 1 = r.turns.turn id me.0 t m at has in (
        w,
        keeps,
        tt,
        record {
          turns = turn.stays s.words us s.views id me.0 w (length-set s.words 2 ((n + up) % 2 ^ 64) ∙ r.turns.count) zero_is one_is r.turns at (r.turns.read id me.0 at)
              (λ u h. subst (HasTicket me.0.stage) h (turn.turn_ticket me.0.stage t m has)) (λ u x h. sym h.0 ∙ served);
          state = line.counted_on grown grown_refl grown_trans s.words us s.homes s.views id me.0 t m y up one_is two_is small r.turns at holds grows same r.state;
        },
        λ t' m' y' holds' carried'. let same_stage : Holds t m ≡ Holds t' m' = sym holds ∙ holds' in
            let same_t : t ≡ t' = ap (ticket_or t) same_stage in
            let same_m : m ≡ m' = ap (mark_or m) same_stage in
            let same_y : y ≡ y' = same_Some y y' (ap (carried_or (Some y)) (sym carried ∙ carried')) in
            (here ∙ ap (λ (x : Mark K). x.front) same_m, omega arith, λ i. (leaving me.0 (same_t i) (same_y i) (sym here i + up), me.1)),
      )

  pub ends : (slots id : ℕ) (me : Sat K) (t : ℕ) (m : Mark K) → me.0.stage ≡ Leaves t m → me.1 ≡ (0, Some m.state) ∷ [] → Allows Rule slots id me 1 (λ n. (n + 1) % 2 ^ 64) (ended (step slots 1 1 0 none) me)
  ends slots id me t m leaves carried s r homes at fits =
      let n = slice_index s.words 1 in
      let has : HasTurn me.0.stage t m = subst (λ (s : Stage K). HasTurn s t m) (sym leaves) (refl, refl) in
      let mine : t ≡ n = r.turns.turn id me.0 t m at has in
      let inside = r.turns.out id me.0 t at (turn.turn_ticket me.0.stage t m has) in
      let bound = r.turns.bound in
      let us = set s.words 1 ((n + 1) % 2 ^ 64) in
      let one_is : slice_index us 1 ≡ n + 1 = get_or-set_same s.words 1 ((n + 1) % 2 ^ 64) 0 (omega (arith, r.turns.count)) ∙ omega arith in
      let two_is : slice_index us 2 ≡ slice_index s.words 2 = get_or-set_other s.words 1 2 ((n + 1) % 2 ^ 64) 0 (λ e. omega arith) in
      let go = line.given grown grown_refl grown_trans s.words us s.homes s.views id me.0 t m one_is two_is r.turns at leaves r.state in
      let w : View K = record me.0 { stage = Outside } in (
        w,
        gives,
        tt,
        record {
          turns = turn.ends s.words s.views id me.0 t m r.turns at has;
          state = subst (λ hs. LineRule grown us hs (set s.views id w)) (λ i. put_back (sym go.0 i) (sym carried i)) go.1;
        },
        refl,
      )

  pub compares : (slots id : ℕ) (me : Sat K) (x y : Mark K) → me.0.stage ≡ Outside → me.0.seen ≡ Some x → me.0.met ≡ Some y → Allows Rule slots id me 0 (λ n. n) (compared grown (step slots 0 0 0 none) me)
  compares slots id me x y outside seen met s r homes at fits = elim (dec_le x.front y.front) [
    | yes le ↦ keep y (inr met) (inr refl) (r.state.line id id me.0 me.0 x y at at (inl seen) (inr met) le) (line.follows_refl grown grown_refl grown_trans y)
    | no more ↦ keep x (inl seen) (inl refl) (line.follows_refl grown grown_refl grown_trans x) (r.state.line id id me.0 me.0 y x at at (inr met) (inl seen) (omega (arith, more)))
  ]
    where
      keep : (kept : Mark K) → HasSeen me.0 kept → (kept ≡ x) ⊎ (kept ≡ y) → Follows grown x kept → Follows grown y kept
          → (w : View K) × (a : Act (Option K)) × Valid s.homes me.1 a × Rule (stepped s 0 (slice_index s.words 0) id me.1 w a) × compared grown (step slots 0 0 0 none) me (slice_index s.words 0) (w, carried_after me.1 a)
      keep kept has one from_x from_y =
          let calm = outside_calm me.0 outside in
          let w : View K = record me.0 { seen = Some kept; met = None } in (
            w,
            keeps,
            tt,
            loads s 0 id me.0 w r at calm calm (r.turns.read id me.0 at) (λ t h. h)
                (λ m. ⊎_elim (λ (e : Some kept ≡ Some m). (id, me.0, at, subst (HasSeen me.0) (same_Some kept m e) has)) (λ (e : None ≡ Some m). absurd (none-some m e))),
            (record { first = x; second = y; last = kept; first_is = seen; second_is = met; last_is = refl; one = one; follows_first = from_x; follows_second = from_y }, refl),
          )

  pub splits : (id : ℕ) (v : View K) → v.stage ≡ Outside → Splits Rule id v v v
  splits id v outside s r at = subst (λ vs. GateRule grown s.words s.homes (vs ++ v ∷ [])) (sym (set_again s.views id v at)) record {
    turns = turn.comes s.words s.views v r.turns (r.turns.read id v at) outside;
    state = line.comes grown grown_refl grown_trans s.words s.homes s.views v (outside_calm v outside) (λ m h. (id, v, at, h)) r.state;
  }

  abbrev spent : View K
  spent = record { read = 0; stage = Outside; seen = None; met = None }

  pub joins : (id : ℕ) (v : View K) (other : ℕ) (w : View K) → v.stage ≡ Outside → w.stage ≡ Outside → v.met ≡ None → w.met ≡ None → Joins Rule id v other w (record v { met = w.seen }) spent
  joins id v other w outside out no_met no_other s r at apart there_w =
      let both : View K = record v { met = w.seen } in
      let calm = outside_calm v outside in
      let at_w : At s.views other w = sym (set_else s.views id other both apart) ∙ there_w in
      let first : GateRule grown s.words s.homes (set s.views id both) = record {
        turns = turn.stays s.words s.words s.views id v both r.turns.count refl refl r.turns at (r.turns.read id v at) (λ t h. h) (λ t m h. absurd (calm t m h));
        state = line.calm grown grown_refl grown_trans s.words s.words s.homes s.views id v both refl refl at calm calm
            (λ m. ⊎_elim (λ (e : v.seen ≡ Some m). (id, v, at, inl e)) (λ (e : w.seen ≡ Some m). (other, w, at_w, inl e))) r.state;
      } in
      let calm_w = outside_calm w out in record {
        turns = turn.stays s.words s.words (set s.views id both) other w spent r.turns.count refl refl first.turns there_w (omega arith) (λ t h. absurd h) (λ t m h. absurd h);
        state = line.calm grown grown_refl grown_trans s.words s.words s.homes (set s.views id both) other w spent refl refl there_w calm_w (λ t m h. h)
            (λ m. ⊎_elim (λ (e : None ≡ Some m). absurd (none-some m e)) (λ (e : None ≡ Some m). absurd (none-some m e))) first.state;
      }

  -- the table at the start, with t as the next ticket and the one that is served
  pub starts : (t : ℕ) (x : K) → t ≤ 2 ^ 63 → GateRule grown (t ∷ t ∷ 0 ∷ []) (some (Some x) ∷ []) (first_view x ∷ [])
  starts t x small = record { turns = first_turns; state = first_state }
    where
      only : (P : ℕ → View K → Type 0) → P 0 (first_view x) → (i : ℕ) (v : View K) → At (first_view x ∷ []) i v → P i v
      only P p zero v e = subst (P 0) (some-injective (first_view x) v e) p
      only P p (suc i) v e = absurd (some-ne-none v (sym e))

      first_turns : TurnRule (t ∷ t ∷ 0 ∷ []) (first_view x ∷ [])
      first_turns = record {
        count = refl;
        order = le_refl t;
        bound = omega arith;
        read = only (λ _ v. v.read ≤ t) (omega arith);
        out = λ i v u at. only (λ _ v. HasTicket v.stage u → (t ≤ u) × (u < t)) (λ h. absurd h) i v at;
        turn = λ i v u m at. only (λ _ v. HasTurn v.stage u m → u ≡ t) (λ h. absurd h) i v at;
        apart = λ i j v w u at_i at_j. only (λ i v. HasTicket v.stage u → HasTicket w.stage u → i ≡ j) (λ h _. absurd h) i v at_i;
      }

      same : (m : Mark K) → Some (mark x 0) ≡ Some m → Follows grown m (mark x 0)
      same m e = subst (λ z. Follows grown z (mark x 0)) (same_Some (mark x 0) m e) (line.follows_refl grown grown_refl grown_trans (mark x 0))

      is_first : (m : Mark K) → HasSeen (first_view x) m → mark x 0 ≡ m
      is_first m = ⊎_elim (λ (e : Some (mark x 0) ≡ Some m). same_Some (mark x 0) m e) (λ (e : None ≡ Some m). absurd (none-some m e))

      both : (m n : Mark K) → HasSeen (first_view x) m → HasSeen (first_view x) n → Follows grown m n
      both m n a b = subst (Follows grown m) (is_first n b) (same m (ap (λ (z : Mark K). Some z) (is_first m a)))

      first_state : LineRule grown (t ∷ t ∷ 0 ∷ []) (some (Some x) ∷ []) (first_view x ∷ [])
      first_state = record {
        latest = mark x 0;
        count = refl;
        home = λ _. (refl, omega arith);
        out = λ i v u m at. only (λ _ v. HasTurn v.stage u m → (some (Some x) ∷ [] ≡ none ∷ []) × (m ≡ mark x 0) × (0 ≤ t + counted v.stage)) (λ h. absurd h) i v at;
        seen = λ i v m at. only (λ _ v. HasSeen v m → Follows grown m (mark x 0)) (⊎_elim (λ (e : Some (mark x 0) ≡ Some m). same m e) (λ (e : None ≡ Some m). absurd (none-some m e))) i v at;
        line = λ i j v w m n at_i at_j. only (λ _ v. HasSeen v m → HasSeen w n → m.front ≤ n.front → Follows grown m n)
            (only (λ _ w. HasSeen (first_view x) m → HasSeen w n → m.front ≤ n.front → Follows grown m n) (λ a b _. both m n a b) j w at_j) i v at_i;
      }
