-- Each step keeps the line of states.
use Rattle.std.proofs.Common.{◌≡◌, ◌≤◌, ◌+◌, ◌⊎◌, ℕ, List, [], ◌∷◌, ◌++◌, slice_index, set, Option, Some, inl, inr, ⊎_elim, refl, sym, ap, ◌∙◌, subst, arith}
use mathlib.Core.Option.{some, none}
use mathlib.Core.Option as maybe
use mathlib.Core.Logic.{dite}
use Rattle.std.proofs.lemmas.Option.{same_Some}
use native.Mathlib.Decide.{ℕ_discrete}
use Rattle.atomic_table.proofs.Lists.{set_else, at_longer}
use Rattle.host_gate.specs.declared.view.Mark.{Mark}
use Rattle.host_gate.specs.declared.view.Stage.{Stage}
use Rattle.host_gate.specs.declared.view.Stage.TheVariants.{Outside, Waits, Holds, Leaves}
use Rattle.host_gate.specs.declared.view.View.{View}
use Rattle.host_gate.specs.Stages.{At, HasTicket, HasTurn}
use Rattle.host_gate.specs.Marks.{Follows, HasSeen}
use Rattle.host_gate.specs.Turns.{TurnRule}
use Rattle.host_gate.specs.Line.{counted, NobodyServed, LineRule}
use Rattle.host_gate.specs.Plays.{mark, leaving}
use Rattle.host_gate.proofs.Views.{each, each_more, there, one}
use Rattle.host_gate.proofs.TurnKept.{turn_ticket, one_turn}

module _ {K : Type 0} where
  abbrev pub NoTurn : Stage K → Type 0
  NoTurn s = (t : ℕ) (m : Mark K) → HasTurn s t m → ⊥

  -- one of these seats has seen it
  abbrev pub IsSeen : List (View K) → Mark K → Type 0
  IsSeen vs m = (j : ℕ) × (d : View K) × At vs j d × HasSeen d m

  -- nobody has its turn besides a seat that hasn't
  nobody_before : (vs : List (View K)) (me : ℕ) (v w : View K) → At vs me v → NoTurn v.stage → NobodyServed (set vs me w) → NobodyServed vs
  nobody_before vs me v w at calm nobody i d t m at_i has = dite (ℕ_discrete i me)
      (λ same. calm t m (subst (λ (x : View K). HasTurn x.stage t m) (one vs me d v (subst (λ k. At vs k d) same at_i) at) has))
      (λ other. nobody i d t m (set_else vs me i w other ∙ at_i) has)

module _ {K : Type 0} (grown : K → K → Type 0) (grown_refl : (x : K) → grown x x) (grown_trans : (x y z : K) → grown x y → grown y z → grown x z) where
  pub follows_refl : (m : Mark K) → Follows grown m m
  follows_refl m = record { front = omega arith; grows = grown_refl m.state; same = λ _. refl }

  pub follows_trans : (m n o : Mark K) → Follows grown m n → Follows grown n o → Follows grown m o
  follows_trans m n o a b =
      let p = a.front in
      let q = b.front in record {
        front = omega arith;
        grows = grown_trans m.state n.state o.state a.grows b.grows;
        same = λ e. a.same (omega arith) ∙ b.same (omega arith);
      }

  -- the same words, and views in which nothing new was seen and nobody has a turn that nobody had
  regroups : (ws us : List ℕ) (hs : List (maybe.Option (Option K))) (vs new : List (View K)) → slice_index us 1 ≡ slice_index ws 1 → slice_index us 2 ≡ slice_index ws 2
      → ((i : ℕ) (v : View K) (m : Mark K) → At new i v → HasSeen v m → IsSeen vs m)
      → ((i : ℕ) (v : View K) (t : ℕ) (m : Mark K) → At new i v → HasTurn v.stage t m → (j : ℕ) × At vs j v)
      → (NobodyServed new → NobodyServed vs) → LineRule grown ws hs vs → LineRule grown us hs new
  regroups ws us hs vs new one_is two_is seen turns nobody r = record {
    latest = r.latest;
    count = two_is ∙ r.count;
    home = λ none_served. rw (one_is, two_is) (r.home (nobody none_served));
    out = λ i v t m at has. let was = turns i v t m at has in rw (one_is, two_is) (r.out was.0 v t m was.1 has);
    seen = λ i v m at has. let was = seen i v m at has in r.seen was.0 was.1 m was.2 was.3;
    line = λ i j v w m n at_i at_j has_m has_n. let a = seen i v m at_i has_m in let b = seen j w n at_j has_n in r.line a.0 b.0 a.1 b.1 m n a.2 b.2 a.3 b.3;
  }

  -- a view changes outside the turn
  pub calm : (ws us : List ℕ) (hs : List (maybe.Option (Option K))) (vs : List (View K)) (me : ℕ) (v w : View K) → slice_index us 1 ≡ slice_index ws 1 → slice_index us 2 ≡ slice_index ws 2
      → At vs me v → NoTurn v.stage → NoTurn w.stage → ((m : Mark K) → HasSeen w m → IsSeen vs m) → LineRule grown ws hs vs → LineRule grown us hs (set vs me w)
  calm ws us hs vs me v w one_is two_is at before after seen r = regroups ws us hs vs (set vs me w) one_is two_is
      (λ i d m. each (λ _ d. HasSeen d m → IsSeen vs m) vs me w (seen m) (λ j d _ at_j has. (j, d, at_j, has)) i d)
      (λ i d t m. each (λ _ d. HasTurn d.stage t m → (j : ℕ) × At vs j d) vs me w (λ has. absurd (after t m has)) (λ j d _ at_j has. (j, at_j)) i d)
      (nobody_before vs me v w at before) r

  -- a seat comes that has seen what another has
  pub comes : (ws : List ℕ) (hs : List (maybe.Option (Option K))) (vs : List (View K)) (w : View K) → NoTurn w.stage → ((m : Mark K) → HasSeen w m → IsSeen vs m) → LineRule grown ws hs vs → LineRule grown ws hs (vs ++ w ∷ [])
  comes ws hs vs w outside seen r = regroups ws ws hs vs (vs ++ w ∷ []) refl refl
      (λ i d m. each_more (λ _ d. HasSeen d m → IsSeen vs m) vs w (λ _. seen m) (λ j d at_j has. (j, d, at_j, has)) i d)
      (λ i d t m. each_more (λ _ d. HasTurn d.stage t m → (j : ℕ) × At vs j d) vs w (λ _ has. absurd (outside t m has)) (λ j d at_j has. (j, at_j)) i d)
      (λ nobody i d t m at has. nobody i d t m (at_longer vs (w ∷ []) i d at) has) r

  -- nobody has its turn while the served ticket is out with a seat that waits
  nobody_else : (ws : List ℕ) (vs : List (View K)) (me : ℕ) (v : View K) → TurnRule ws vs → At vs me v → HasTicket v.stage (slice_index ws 1) → NoTurn v.stage → NobodyServed vs
  nobody_else ws vs me v r at mine calm i d t m at_i has =
      let same : i ≡ me = r.apart i me d v (slice_index ws 1) at_i at (subst (HasTicket d.stage) (r.turn i d t m at_i has) (turn_ticket d.stage t m has)) mine in
      calm t m (subst (λ (x : View K). HasTurn x.stage t m) (one vs me d v (subst (λ k. At vs k d) same at_i) at) has)

  -- the turn has come, and the state goes out with the seat
  pub taken : (ws us : List ℕ) (hs : List (maybe.Option (Option K))) (vs : List (View K)) (me : ℕ) (v : View K) (t : ℕ) → slice_index us 1 ≡ slice_index ws 1 → slice_index us 2 ≡ slice_index ws 2
      → TurnRule ws vs → At vs me v → v.stage ≡ Waits t → slice_index ws 1 ≡ t → (r : LineRule grown ws hs vs)
      → (hs ≡ some (Some r.latest.state) ∷ []) × LineRule grown us (none ∷ []) (set vs me (record v { stage = Holds t r.latest }))
  taken ws us hs vs me v t one_is two_is turns at waits come r =
      let w : View K = record v { stage = Holds t r.latest } in
      let calm : NoTurn v.stage = λ u m h. subst (λ (s : Stage K). HasTurn s u m) waits h in
      let nobody = nobody_else ws vs me v turns at (subst (λ (s : Stage K). HasTicket s (slice_index ws 1)) (sym waits) (sym come)) calm in
      let home = r.home nobody in
      let room = home.1 in (
        home.0,
        record {
          latest = r.latest;
          count = two_is ∙ r.count;
          home = λ none_served. absurd (none_served me w t r.latest (there vs me v w at) (refl, refl));
          out = λ i d u m at_i. each (λ _ d. HasTurn d.stage u m → (hs_out ≡ none ∷ []) × (m ≡ r.latest) × (slice_index us 2 ≤ slice_index us 1 + counted d.stage)) vs me w
              (λ has. (refl, sym has.1, rw (one_is, two_is) (omega arith))) (λ j d _ at_j has. absurd (nobody j d u m at_j has)) i d at_i;
          seen = λ i d m. each (λ _ d. HasSeen d m → Follows grown m r.latest) vs me w (r.seen me v m at) (λ j d _. r.seen j d m) i d;
          line = λ i j x y m n at_i at_j. each (λ _ x. HasSeen x m → HasSeen y n → m.front ≤ n.front → Follows grown m n) vs me w
              (each (λ _ y. HasSeen v m → HasSeen y n → m.front ≤ n.front → Follows grown m n) vs me w (r.line me me v v m n at at) (λ k y _ at_k. r.line me k v y m n at at_k) j y at_j)
              (λ k x _ at_k. each (λ _ y. HasSeen x m → HasSeen y n → m.front ≤ n.front → Follows grown m n) vs me w (r.line k me x v m n at_k at) (λ l y _ at_l. r.line k l x y m n at_k at_l) j y at_j) i x at_i;
        },
      )
    where
      hs_out : List (maybe.Option (Option K))
      hs_out = none ∷ []

  -- what was seen before a step is followed by what the step leaves
  still : (m n o : Mark K) → Follows grown m n → grown n.state o.state → n.front ≤ o.front → (o.front ≡ n.front → o.state ≡ n.state) → Follows grown m o
  still m n o a grows up same =
      let p = a.front in record {
        front = omega arith;
        grows = grown_trans m.state n.state o.state a.grows grows;
        same = λ e. a.same (omega arith) ∙ sym (same (omega arith));
      }

  -- what the step leaves is in front of what was seen only where nothing changed
  back : (x z m latest : Mark K) (up : ℕ) → x.front ≡ m.front + up → grown m.state x.state → (up ≡ 0 → x.state ≡ m.state) → m ≡ latest → Follows grown z latest → x.front ≤ z.front → Follows grown x z
  back x z m latest up front grows same is f le =
      let behind : z.front ≤ m.front = subst (λ (o : Mark K). z.front ≤ o.front) (sym is) f.front in
      let none_up : up ≡ 0 = omega arith in
      let level : z.front ≡ m.front = omega arith in
      let states : x.state ≡ z.state = same none_up ∙ (ap (λ (o : Mark K). o.state) is ∙ sym (f.same (level ∙ ap (λ (o : Mark K). o.front) is))) in
      record { front = le; grows = subst (grown x.state) states (grown_refl x.state); same = λ _. states }

  -- the step is counted
  pub counted_on : (ws us : List ℕ) (hs : List (maybe.Option (Option K))) (vs : List (View K)) (me : ℕ) (v : View K) (t : ℕ) (m : Mark K) (y : K) (up : ℕ)
      → slice_index us 1 ≡ slice_index ws 1 → slice_index us 2 ≡ m.front + up → up ≤ 1
      → TurnRule ws vs → At vs me v → v.stage ≡ Holds t m → grown m.state y → (up ≡ 0 → y ≡ m.state) → LineRule grown ws hs vs
      → LineRule grown us hs (set vs me (leaving v t y (m.front + up)))
  counted_on ws us hs vs me v t m y up one_is two_is small turns at holds grows same r =
      let w : View K = leaving v t y (m.front + up) in
      let new : Mark K = mark y (m.front + up) in
      let has : HasTurn v.stage t m = subst (λ (s : Stage K). HasTurn s t m) (sym holds) (refl, refl) in
      let out = r.out me v t m at has in
      let room : slice_index ws 2 ≤ slice_index ws 1 + 0 = subst (λ (s : Stage K). slice_index ws 2 ≤ slice_index ws 1 + counted s) holds out.2 in
      let here : slice_index ws 2 ≡ m.front = r.count ∙ ap (λ (x : Mark K). x.front) (sym out.1) in
      let step : (x : Mark K) → Follows grown x r.latest → Follows grown x new = λ x f. still x m new (subst (Follows grown x) (sym out.1) f) grows (omega arith) (λ e. same (omega arith)) in
      let old : (i : ℕ) (d : View K) (x : Mark K) → At vs i d → HasSeen d x → Follows grown x new = λ i d x at_i has_x. step x (r.seen i d x at_i has_x) in
      let mine : (x : Mark K) → HasSeen w x → (x ≡ new) ⊎ IsSeen vs x = λ x. ⊎_elim (λ (e : w.seen ≡ Some x). inl (sym (same_Some new x e))) (λ (e : w.met ≡ Some x). inr (me, v, at, inr e)) in
      let all : (i : ℕ) (d : View K) (x : Mark K) → At (set vs me w) i d → HasSeen d x → (x ≡ new) ⊎ IsSeen vs x = λ i d x. each (λ _ d. HasSeen d x → (x ≡ new) ⊎ IsSeen vs x) vs me w (mine x) (λ j d _ at_j has_x. inr (j, d, at_j, has_x)) i d in
      let up_to : (x : Mark K) → (x ≡ new) ⊎ IsSeen vs x → Follows grown x new = λ x. ⊎_elim (λ (e : x ≡ new). subst (λ z. Follows grown z new) (sym e) (follows_refl new)) (λ (s : IsSeen vs x). old s.0 s.1 x s.2 s.3) in
      record {
        latest = new;
        count = two_is;
        home = λ none_served. absurd (none_served me w t new (there vs me v w at) (refl, refl));
        out = λ i d u x at_i. each (λ _ d. HasTurn d.stage u x → (hs ≡ none ∷ []) × (x ≡ new) × (slice_index us 2 ≤ slice_index us 1 + counted d.stage)) vs me w
            (λ h. (out.0, sym h.1, rw (one_is, two_is) (omega arith))) (λ j d other at_j h. absurd (other (one_turn ws vs turns j me d v u t x m at_j at h has))) i d at_i;
        seen = λ i d x at_i h. up_to x (all i d x at_i h);
        line = λ i j c d x z at_i at_j h_x h_z le. ⊎_elim
            (λ (e : z ≡ new). subst (Follows grown x) (sym e) (up_to x (all i c x at_i h_x)))
            (λ (s : IsSeen vs z). ⊎_elim
            (λ (e : x ≡ new). subst (λ o. Follows grown o z) (sym e) (back new z m r.latest up refl grows same out.1 (r.seen s.0 s.1 z s.2 s.3) (subst (λ (o : Mark K). o.front ≤ z.front) e le)))
            (λ (q : IsSeen vs x). r.line q.0 s.0 q.1 s.1 x z q.2 s.2 q.3 s.3 le) (all i c x at_i h_x)) (all j d z at_j h_z);
      }

  -- the turn ends, and the state is at home
  pub given : (ws us : List ℕ) (hs : List (maybe.Option (Option K))) (vs : List (View K)) (me : ℕ) (v : View K) (t : ℕ) (m : Mark K) → slice_index us 1 ≡ slice_index ws 1 + 1 → slice_index us 2 ≡ slice_index ws 2
      → TurnRule ws vs → At vs me v → v.stage ≡ Leaves t m → LineRule grown ws hs vs
      → (hs ≡ none ∷ []) × LineRule grown us (some (Some m.state) ∷ []) (set vs me (record v { stage = Outside }))
  given ws us hs vs me v t m one_is two_is turns at leaves r =
      let w : View K = record v { stage = Outside } in
      let has : HasTurn v.stage t m = subst (λ (s : Stage K). HasTurn s t m) (sym leaves) (refl, refl) in
      let out = r.out me v t m at has in
      let room : slice_index ws 2 ≤ slice_index ws 1 + 1 = subst (λ (s : Stage K). slice_index ws 2 ≤ slice_index ws 1 + counted s) leaves out.2 in (
        out.0,
        record {
          latest = r.latest;
          count = two_is ∙ r.count;
          home = λ _. (ap (λ (o : Mark K). some (Some o.state) ∷ []) out.1, rw (one_is, two_is) room);
          out = λ i d u x at_i. each (λ _ d. HasTurn d.stage u x → (some (Some m.state) ∷ [] ≡ none ∷ []) × (x ≡ r.latest) × (slice_index us 2 ≤ slice_index us 1 + counted d.stage)) vs me w
              (λ h. absurd h) (λ j d other at_j h. absurd (other (one_turn ws vs turns j me d v u t x m at_j at h has))) i d at_i;
          seen = λ i d x. each (λ _ d. HasSeen d x → Follows grown x r.latest) vs me w (r.seen me v x at) (λ j d _. r.seen j d x) i d;
          line = λ i j c d x z at_i at_j. each (λ _ c. HasSeen c x → HasSeen d z → x.front ≤ z.front → Follows grown x z) vs me w
              (each (λ _ d. HasSeen v x → HasSeen d z → x.front ≤ z.front → Follows grown x z) vs me w (r.line me me v v x z at at) (λ k d _ at_k. r.line me k v d x z at at_k) j d at_j)
              (λ k c _ at_k. each (λ _ d. HasSeen c x → HasSeen d z → x.front ≤ z.front → Follows grown x z) vs me w (r.line k me c v x z at_k at) (λ l d _ at_l. r.line k l c d x z at_k at_l) j d at_j) i c at_i;
        },
      )
