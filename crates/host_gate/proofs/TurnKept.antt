-- Each step keeps the order of turns.
use Rattle.std.proofs.Common.{◌≡◌, ◌≢◌, ◌≤◌, ◌<◌, ◌+◌, ◌^◌, ◌%◌, ℕ, List, [], ◌∷◌, ◌++◌, slice_index, length, set, refl, sym, ◌∙◌, subst, arith, get_or-set_same, get_or-set_other, length-set}
use lib.Seq.{set-get_or}
use Rattle.host_gate.specs.declared.view.Mark.{Mark}
use Rattle.host_gate.specs.declared.view.Stage.{Stage}
use Rattle.host_gate.specs.declared.view.Stage.TheVariants.{Outside, Waits, Holds, Leaves}
use Rattle.host_gate.specs.declared.view.View.{View}
use Rattle.host_gate.specs.Stages.{At, HasTicket, HasTurn}
use Rattle.host_gate.specs.Turns.{TurnRule}
use Rattle.host_gate.proofs.Views.{each, each_more}

module _ {K : Type 0} where
  -- whoever has its turn has its ticket
  pub turn_ticket : (s : Stage K) (t : ℕ) (m : Mark K) → HasTurn s t m → HasTicket s t
  turn_ticket Outside t m h = h
  turn_ticket (Waits n) t m h = absurd h
  turn_ticket (Holds n x) t m h = h.0
  turn_ticket (Leaves n x) t m h = h.0

  -- at most one seat has its turn
  pub one_turn : (ws : List ℕ) (vs : List (View K)) → TurnRule ws vs → (i j : ℕ) (v w : View K) (t u : ℕ) (m n : Mark K) → At vs i v → At vs j w → HasTurn v.stage t m → HasTurn w.stage u n → i ≡ j
  one_turn ws vs r i j v w t u m n at_i at_j turn_v turn_w = r.apart i j v w t at_i at_j (turn_ticket v.stage t m turn_v)
      (subst (HasTicket w.stage) (r.turn j w u n at_j turn_w ∙ sym (r.turn i v t m at_i turn_v)) (turn_ticket w.stage u n turn_w))

  -- other words, and one other view
  moves : (ws us : List ℕ) (vs : List (View K)) (me : ℕ) (w : View K) → length us ≡ 3
      → slice_index us 1 ≤ slice_index us 0 → slice_index us 0 ≤ 2 ^ 63 + 1
      → w.read ≤ slice_index us 0 → ((j : ℕ) (d : View K) → j ≢ me → At vs j d → d.read ≤ slice_index us 0)
      → ((t : ℕ) → HasTicket w.stage t → (slice_index us 1 ≤ t) × (t < slice_index us 0))
      → ((j : ℕ) (d : View K) → j ≢ me → At vs j d → (t : ℕ) → HasTicket d.stage t → (slice_index us 1 ≤ t) × (t < slice_index us 0))
      → ((t : ℕ) (m : Mark K) → HasTurn w.stage t m → t ≡ slice_index us 1)
      → ((j : ℕ) (d : View K) → j ≢ me → At vs j d → (t : ℕ) (m : Mark K) → HasTurn d.stage t m → t ≡ slice_index us 1)
      → ((j : ℕ) (d : View K) → j ≢ me → At vs j d → (t : ℕ) → HasTicket d.stage t → HasTicket w.stage t → ⊥)
      → TurnRule ws vs → TurnRule us (set vs me w)
  moves ws us vs me w count order bound read reads out outs turn turns apart r = record {
    count = count;
    order = order;
    bound = bound;
    read = each (λ j d. d.read ≤ slice_index us 0) vs me w read reads;
    out = λ i v t at. each (λ j d. (t : ℕ) → HasTicket d.stage t → (slice_index us 1 ≤ t) × (t < slice_index us 0)) vs me w out outs i v at t;
    turn = λ i v t m at. each (λ j d. (t : ℕ) (m : Mark K) → HasTurn d.stage t m → t ≡ slice_index us 1) vs me w turn turns i v at t m;
    apart = λ i j v x t at_i at_j has_v has_x. each (λ i v. HasTicket v.stage t → i ≡ j) vs me w
        (λ has_w. each (λ j x. HasTicket x.stage t → me ≡ j) vs me w (λ _. refl)
        (λ j d other at has_d. absurd (apart j d other at t has_d has_w)) j x at_j has_x)
        (λ i d other at has_d. each (λ j x. HasTicket x.stage t → i ≡ j) vs me w
        (λ has_w. absurd (apart i d other at t has_d has_w))
        (λ j e _ at_e has_e. r.apart i j d e t at at_e has_d has_e) j x at_j has_x) i v at_i has_v;
  }

  -- a step that leaves the next ticket and the served one, and draws none
  pub stays : (ws us : List ℕ) (vs : List (View K)) (me : ℕ) (v w : View K) → length us ≡ 3 → slice_index us 0 ≡ slice_index ws 0 → slice_index us 1 ≡ slice_index ws 1
      → TurnRule ws vs → At vs me v → w.read ≤ slice_index ws 0 → ((t : ℕ) → HasTicket w.stage t → HasTicket v.stage t) → ((t : ℕ) (m : Mark K) → HasTurn w.stage t m → t ≡ slice_index ws 1)
      → TurnRule us (set vs me w)
  stays ws us vs me v w count zero_is one_is r at read ticket turn = moves ws us vs me w count (rw (zero_is, one_is) r.order) (rw zero_is r.bound) (rw zero_is read)
      (λ j d _ h. rw zero_is (r.read j d h)) (λ t h. rw (zero_is, one_is) (r.out me v t at (ticket t h)))
      (λ j d _ h t has. rw (zero_is, one_is) (r.out j d t h has)) (λ t m h. turn t m h ∙ sym one_is) (λ j d _ h t m has. r.turn j d t m h has ∙ sym one_is)
      (λ j d other h t has_d has_w. other (r.apart j me d v t h at has_d (ticket t has_w))) r

  -- a load
  pub looks : (ws : List ℕ) (vs : List (View K)) (me i : ℕ) (v w : View K) → TurnRule ws vs → At vs me v → w.read ≤ slice_index ws 0
      → ((t : ℕ) → HasTicket w.stage t → HasTicket v.stage t) → ((t : ℕ) (m : Mark K) → HasTurn w.stage t m → t ≡ slice_index ws 1)
      → TurnRule (set ws i (slice_index ws i)) (set vs me w)
  looks ws vs me i v w r at read ticket turn = subst (λ us. TurnRule us (set vs me w)) (sym (set-get_or ws i 0)) (stays ws ws vs me v w r.count refl refl r at read ticket turn)

  -- a ticket is drawn
  pub draws : (ws : List ℕ) (vs : List (View K)) (me : ℕ) (v : View K) → TurnRule ws vs → At vs me v → slice_index ws 0 ≤ 2 ^ 63
      → TurnRule (set ws 0 (slice_index ws 0 + 1)) (set vs me (record v { stage = Waits (slice_index ws 0) }))
  draws ws vs me v r at room =
      let n = slice_index ws 0 in
      let w : View K = record v { stage = Waits n } in
      let us = set ws 0 (n + 1) in
      let zero_is : slice_index us 0 ≡ n + 1 = get_or-set_same ws 0 (n + 1) 0 (omega (arith, r.count)) in
      let one_is : slice_index us 1 ≡ slice_index ws 1 = get_or-set_other ws 0 1 (n + 1) 0 (λ e. omega arith) in
      let order = r.order in
      let was = r.read me v at in
      moves ws us vs me w (length-set ws 0 (n + 1) ∙ r.count) (rw (zero_is, one_is) (omega arith)) (rw zero_is (omega arith)) (rw zero_is (omega arith))
      (λ j d _ h. rw zero_is (let b = r.read j d h in omega arith))
      (λ t h. let same : n ≡ t = h in rw (zero_is, one_is) (omega arith, omega arith))
      (λ j d _ h t has. let b = r.out j d t h has in rw (zero_is, one_is) (b.0, omega arith))
      (λ t m h. absurd h)
      (λ j d _ h t m has. r.turn j d t m h has ∙ sym one_is)
      (λ j d _ h t has_d same. let b = r.out j d t h has_d in let s : n ≡ t = same in omega arith) r

  -- a turn ends
  pub ends : (ws : List ℕ) (vs : List (View K)) (me : ℕ) (v : View K) (t : ℕ) (m : Mark K) → TurnRule ws vs → At vs me v → HasTurn v.stage t m
      → TurnRule (set ws 1 ((slice_index ws 1 + 1) % 2 ^ 64)) (set vs me (record v { stage = Outside }))
  ends ws vs me v t m r at has =
      let n = slice_index ws 1 in
      let mine : t ≡ n = r.turn me v t m at has in
      let ticket : HasTicket v.stage t = turn_ticket v.stage t m has in
      let inside = r.out me v t at ticket in
      let bound = r.bound in
      let small : n + 1 < 2 ^ 64 = omega arith in
      let same_n : (n + 1) % 2 ^ 64 ≡ n + 1 = omega arith in
      let us = set ws 1 ((n + 1) % 2 ^ 64) in
      let one_is : slice_index us 1 ≡ n + 1 = get_or-set_same ws 1 ((n + 1) % 2 ^ 64) 0 (omega (arith, r.count)) ∙ same_n in
      let zero_is : slice_index us 0 ≡ slice_index ws 0 = get_or-set_other ws 1 0 ((n + 1) % 2 ^ 64) 0 (λ e. omega arith) in
      moves ws us vs me (record v { stage = Outside }) (length-set ws 1 ((n + 1) % 2 ^ 64) ∙ r.count) (rw (zero_is, one_is) (omega arith)) (rw zero_is bound) (rw zero_is (r.read me v at))
      (λ j d _ h. rw zero_is (r.read j d h))
      (λ u h. absurd h)
      (λ j d other h u has_d. let b = r.out j d u h has_d in
      let apart : u ≢ n = λ e. other (r.apart j me d v u h at has_d (subst (HasTicket v.stage) (mine ∙ sym e) ticket)) in rw (zero_is, one_is) (omega (arith, apart), b.1))
      (λ u x h. absurd h)
      (λ j d other h u x has_d. absurd (other (one_turn ws vs r j me d v u t x m h at has_d has)))
      (λ j d _ h u has_d has_w. has_w) r

  -- a seat comes that has no ticket
  pub comes : (ws : List ℕ) (vs : List (View K)) (w : View K) → TurnRule ws vs → w.read ≤ slice_index ws 0 → w.stage ≡ Outside → TurnRule ws (vs ++ w ∷ [])
  comes ws vs w r read outside =
      let no_ticket : (t : ℕ) → HasTicket w.stage t → ⊥ = λ t h. subst (λ (s : Stage K). HasTicket s t) outside h in
      let no_turn : (t : ℕ) (m : Mark K) → HasTurn w.stage t m → ⊥ = λ t m h. subst (λ (s : Stage K). HasTurn s t m) outside h in record {
        count = r.count;
        order = r.order;
        bound = r.bound;
        read = each_more (λ j d. d.read ≤ slice_index ws 0) vs w (λ _. read) r.read;
        out = λ i v t at. each_more (λ j d. HasTicket d.stage t → (slice_index ws 1 ≤ t) × (t < slice_index ws 0)) vs w (λ _ h. absurd (no_ticket t h)) (λ j d a. r.out j d t a) i v at;
        turn = λ i v t m at. each_more (λ j d. HasTurn d.stage t m → t ≡ slice_index ws 1) vs w (λ _ h. absurd (no_turn t m h)) (λ j d a. r.turn j d t m a) i v at;
        apart = λ i j v x t at_i at_j. each_more (λ i v. HasTicket v.stage t → HasTicket x.stage t → i ≡ j) vs w (λ _ h. absurd (no_ticket t h))
            (λ i v a. each_more (λ j x. HasTicket v.stage t → HasTicket x.stage t → i ≡ j) vs w (λ _ _ h. absurd (no_ticket t h)) (λ j x b. r.apart i j v x t a b) j x at_j) i v at_i;
      }
