-- No two booked rows conflict after a change, where none did before.
use Rattle.std.specs.Ordering.{is_eq}
use Rattle.std.proofs.Common.{◌≡◌, ◌≢◌, ◌⊎◌, inl, inr, ℕ, Bool, true, false, cond, ◌&&◌, nat_lt, not, is_some, List, map, Option, Some, None, option_map, unwrap_or, refl, sym, ap, ap₂, subst, ◌∙◌}
use Rattle.std.proofs.Math.Bool.{and_comm}
use Rattle.ps_time.specs.Class.{conflicting_classes, clash}
use Rattle.ps_time.specs.Key.{key_cmp}
use Rattle.ps_time.specs.Span.{Span}
use Rattle.ps_time.specs.declared.class.Class.{Class}
use Rattle.ps_time.specs.declared.class.Class.TheVariants.{BackgroundMulti, Background, Normal, Exclusive}
use Rattle.ps_time.specs.declared.key.RunKey.{RunKey}
use Rattle.plugin_core.specs.TestSpec.{test_class}
use Rattle.run_states.specs.declared.row.RunRow.{RunRow}
use Rattle.run_states.specs.declared.why.Closing.{Closing}
use Rattle.run_states.specs.declared.why.Why.TheVariants.{Preempted}
use Rattle.run_states.specs.Conflict.{blocks, clashes, in_conflict}
use Rattle.run_states.specs.Life.{first_there, is_booked, close_row}
use Rattle.run_states.specs.Rows.{find_row}
use Rattle.run_states.specs.Preemption.{Incoming, give_way, planned_run, planned_span}
use Rattle.run_states.specs.Effect.{accept_row, confirmed_if, is_alone}
use Rattle.host_model.specs.Apply.{put_new}
use Rattle.host_model.specs.Lawful.{NoClash}
use Rattle.host_model.specs.declared.change.Change.{Change}
use Rattle.host_model.specs.declared.change.Change.TheVariants.{Planned}
use Rattle.host_model.specs.declared.task_row.TaskRow.{TaskRow}
use Rattle.host_model.specs.Effect.{effect}
use Rattle.host_model.specs.Preemption.{incoming}
use Rattle.host_model.proofs.Keyed.{key_is}
use Rattle.host_model.proofs.Placed.{find_row-key, put_from}
use Rattle.host_model.proofs.Standing.{find_row-map, changed_row, changed_key, way_evolves}

closed_now : (c : Closing) (o : Option Closing) → is_some (first_there o (Some c)) ≡ true
closed_now c None = refl
closed_now c (Some d) = refl

closed_not_booked : (c : Closing) (r : RunRow) → is_booked (close_row c r) ≡ false
closed_not_booked c r =
    ap (λ x. is_some r.accepted && not x) (closed_now c r.closed) ∙ elim (is_some r.accepted) as (λ x. (x && false) ≡ false) [ true ↦ refl | false ↦ refl ]

closed_blocks_nothing : (class : Class) (s : Span) (c : Closing) (r : RunRow) → blocks class s (close_row c r) ≡ false
closed_blocks_nothing class s c r = ap (λ x. x && clashes class s (test_class r.test) r.interval) (closed_not_booked c r)

-- ---- conflict is mutual ----
classes_same : (a b : Class) → conflicting_classes a b ≡ conflicting_classes b a
classes_same BackgroundMulti BackgroundMulti = refl
classes_same Background Background = refl
classes_same Normal Normal = refl
classes_same Exclusive Exclusive = refl
classes_same _ _ = refl

clash_same : (a : Class) (s : Span) (b : Class) (t : Span) → clash a s b t ≡ clash b t a s
clash_same a s b t = ap₂ (λ x y. x && y) (classes_same a b) (and_comm (nat_lt s.start t.end) (nat_lt t.start s.end))

-- no booked row is in conflict with another: the same, in the word of a change
abbrev pub Free : List RunRow → Type 0
Free rows = (j k : RunKey) (r s : RunRow) (i : Span) → j ≢ k → find_row rows j ≡ Some r → find_row rows k ≡ Some s → is_booked r ≡ true → r.interval ≡ Some i → blocks (test_class r.test) i s ≡ false

pub free_from : (rows : List RunRow) → NoClash rows → Free rows
free_from rows none j k r s i apart e g booked at = go (is_booked s) s.interval refl refl
  where
    go : (b : Bool) (o : Option Span) → is_booked s ≡ b → s.interval ≡ o → (b && clashes (test_class r.test) i (test_class s.test) o) ≡ false
    go false o f h = refl
    go true None f h = refl
    go true (Some l) f h = none j k r s i l apart e g booked f at h

pub none_from : (rows : List RunRow) → Free rows → NoClash rows
none_from rows free j k r s i l apart e g booked other at there =
    ap₂ (λ b o. b && clashes (test_class r.test) i (test_class s.test) o) (sym other) (sym there) ∙ free j k r s i apart e g booked at

-- ---- what is booked after was booked before, with its class and interval
pub record Calm (q r : RunRow) : Type 0 where
  pub class : test_class r.test ≡ test_class q.test
  pub interval : r.interval ≡ q.interval
  pub booked : is_booked r ≡ true → is_booked q ≡ true

pub Calm-refl : (q : RunRow) → Calm q q
Calm-refl q = record { class = refl; interval = refl; booked = λ e. e }

pub Calm-trans : (q r s : RunRow) → Calm q r → Calm r s → Calm q s
Calm-trans q r s f g = record { class = g.class ∙ f.class; interval = g.interval ∙ f.interval; booked = λ e. f.booked (g.booked e) }

pub close_calm : (c : Closing) (q : RunRow) → Calm q (close_row c q)
close_calm c q = record { class = refl; interval = refl; booked = λ e. let gone = closed_not_booked c q in cc }

pub either_calm : (b : Bool) (q r s : RunRow) → Calm q r → Calm q s → Calm q (cond b r s)
either_calm true q r s f g = f
either_calm false q r s f g = g

pub way_calm : (m : ℕ) (o : Option Incoming) (q : RunRow) → Calm q (give_way m o q)
way_calm m None q = Calm-refl q
way_calm m (Some i) q = either_calm (in_conflict i.key i.class i.interval q) q _ q (close_calm _ q) (Calm-refl q)

-- ---- rows that are mapped calmly ----
-- a row that isn't in conflict with a run comes into none
pub calm_free : (class : Class) (i : Span) (q r : RunRow) → Calm q r → blocks class i q ≡ false → blocks class i r ≡ false
calm_free class i q r calm free = go (is_booked r) refl
  where
    go : (b : Bool) → is_booked r ≡ b → (b && clashes class i (test_class r.test) r.interval) ≡ false
    go false e = refl
    go true e =
        let was : is_booked q ≡ true = calm.booked e in
        let at : (true && clashes class i (test_class q.test) q.interval) ≡ false = subst (λ x. (x && clashes class i (test_class q.test) q.interval) ≡ false) was free in
        ap₂ (λ c o. clashes class i c o) calm.class calm.interval ∙ at

-- where a row of a mapped list was
pub found_map : (f : RunRow → RunRow) → ((r : RunRow) → (f r).key ≡ r.key) → (rows : List RunRow) (k : RunKey) (r : RunRow) → find_row (map f rows) k ≡ Some r → (q : RunRow) × (find_row rows k ≡ Some q) × (f q ≡ r)
found_map f same rows k r e = go (find_row rows k) refl (sym (find_row-map f same rows k) ∙ e)
  where
    go : (o : Option RunRow) → find_row rows k ≡ o → option_map f o ≡ Some r → (q : RunRow) × (find_row rows k ≡ Some q) × (f q ≡ r)
    go None h g = cc
    go (Some q) h g = (q, h, cc)

pub map_free : (f : RunRow → RunRow) → ((r : RunRow) → (f r).key ≡ r.key) → ((r : RunRow) → Calm r (f r)) → (rows : List RunRow) → Free rows → Free (map f rows)
map_free f same calm rows free j k r s i apart e g booked at =
    let x = found_map f same rows j r e in
    let y = found_map f same rows k s g in
    let a : Calm x.0 r = subst (λ z. Calm x.0 z) x.2 (calm x.0) in
    let b : Calm y.0 s = subst (λ z. Calm y.0 z) y.2 (calm y.0) in
    let before : blocks (test_class x.0.test) i y.0 ≡ false = free j k x.0 y.0 i apart x.1 y.1 (a.booked booked) (sym a.interval ∙ at) in
    calm_free (test_class r.test) i y.0 s b (subst (λ c. blocks c i y.0 ≡ false) (sym a.class) before)

-- ---- a row that comes ----
-- not in conflict with a run, so a row of that run is in no conflict with it
turned : (n r : RunRow) (i l : Span) → n.interval ≡ Some i → is_booked r ≡ true → r.interval ≡ Some l → blocks (test_class n.test) i r ≡ false → blocks (test_class r.test) l n ≡ false
turned n r i l at booked there free =
    let here : clash (test_class n.test) i (test_class r.test) l ≡ false = ap₂ (λ b o. b && clashes (test_class n.test) i (test_class r.test) o) (sym booked) (sym there) ∙ free in
    let back : clashes (test_class r.test) l (test_class n.test) n.interval ≡ false = ap (λ o. clashes (test_class r.test) l (test_class n.test) o) at ∙ clash_same (test_class r.test) l (test_class n.test) i ∙ here in
    go (is_booked n) back
  where
    go : (b : Bool) → clashes (test_class r.test) l (test_class n.test) n.interval ≡ false → (b && clashes (test_class r.test) l (test_class n.test) n.interval) ≡ false
    go true e = e
    go false e = refl

pub put_free : (n : RunRow) (i : Span) → n.interval ≡ Some i → (rows : List RunRow) → ((k : RunKey) (s : RunRow) → n.key ≢ k → find_row rows k ≡ Some s → blocks (test_class n.test) i s ≡ false) → Free rows → Free (put_new (Some n) rows)
put_free n i at rows clear free j k r s l apart e g booked there = go (put_from n rows j r e) (put_from n rows k s g)
  where
    new : (n.key ≡ j) → (n ≡ r) → find_row rows k ≡ Some s → blocks (test_class r.test) l s ≡ false
    new here is f =
        let own : n.interval ≡ Some l = ap (λ x. x.interval) is ∙ there in
        let same : i ≡ l = cc in
        subst (λ x. blocks (test_class x.test) l s ≡ false) is (subst (λ x. blocks (test_class n.test) x s ≡ false) same (clear k s (λ same. apart (sym here ∙ same)) f))

    go : (find_row rows j ≡ Some r) ⊎ ((n.key ≡ j) × (n ≡ r)) → (find_row rows k ≡ Some s) ⊎ ((n.key ≡ k) × (n ≡ s)) → blocks (test_class r.test) l s ≡ false
    go (inl e) (inl g) = free j k r s l apart e g booked there
    go (inl e) (inr y) = subst (λ x. blocks (test_class r.test) l x ≡ false) y.1 (turned n r i l at booked there (clear j r (λ same. apart (sym same ∙ y.0)) e))
    go (inr x) (inl g) = new x.0 x.1 g
    go (inr x) (inr y) = absurd (apart (sym x.0 ∙ y.0))

-- a row of another run that gave way doesn't block the run any more
pub gave_way : (m : ℕ) (i : Incoming) (q : RunRow) → i.key ≢ q.key → blocks i.class i.interval (give_way m (Some i) q) ≡ false
gave_way m i q apart = go (is_eq (key_cmp q.key i.key)) (blocks i.class i.interval q) refl refl
  where
    go : (e b : Bool) → is_eq (key_cmp q.key i.key) ≡ e → blocks i.class i.interval q ≡ b → blocks i.class i.interval (cond (not e && b) (close_row (record { moment = m; why = Preempted i.key }) q) q) ≡ false
    go true b same is = absurd (apart (sym (key_is q.key i.key same)))
    go false true other is = closed_blocks_nothing i.class i.interval (record { moment = m; why = Preempted i.key }) q
    go false false other is = is

-- ---- a run is planned: its own row is booked, and all others have given way
first_unwrapped : (o : Option Span) (d : Span) → first_there o (Some d) ≡ Some (unwrap_or o d)
first_unwrapped None d = refl
first_unwrapped (Some s) d = refl

confirmed_interval : (b : Bool) (m : ℕ) (r : RunRow) → (confirmed_if b m r).interval ≡ r.interval
confirmed_interval true m r = refl
confirmed_interval false m r = refl

confirmed_test : (b : Bool) (m : ℕ) (r : RunRow) → (confirmed_if b m r).test ≡ r.test
confirmed_test true m r = refl
confirmed_test false m r = refl

module _ (m : ℕ) (tasks : List TaskRow) (k : RunKey) (start : ℕ) (tool : List ℕ) (epoch : ℕ) (rows : List RunRow) where
  abbrev plans : Change
  plans = Planned k start tool epoch

  abbrev way : RunRow → RunRow
  way r = give_way m (incoming rows plans) r

  abbrev after : RunRow → RunRow
  after r = changed_row m tasks plans rows r

  -- what the planned row reserves, and its class
  planned_interval : (r : RunRow) → (effect m tasks plans (way r)).interval ≡ Some (planned_run start r).interval
  planned_interval r =
      let up = way_evolves m (incoming rows plans) r in
      let calm = way_calm m (incoming rows plans) r in
      let accepted : RunRow = accept_row m (planned_span start (way r)) tool (way r) in
      confirmed_interval (is_booked accepted && is_alone accepted) m accepted
      ∙ ap₂ (λ o t. first_there o (Some (planned_span start (record (way r) { test = t })))) calm.interval up.test
      ∙ first_unwrapped r.interval (planned_span start r)

  planned_class : (r : RunRow) → test_class (effect m tasks plans (way r)).test ≡ (planned_run start r).class
  planned_class r =
      let accepted : RunRow = accept_row m (planned_span start (way r)) tool (way r) in
      ap test_class (confirmed_test (is_booked accepted && is_alone accepted) m accepted ∙ (way_evolves m (incoming rows plans) r).test)

  -- the row that is planned, and any other
  own_after : (r : RunRow) (b : Bool) → is_eq (key_cmp r.key k) ≡ b → after r ≡ cond b (effect m tasks plans (way r)) (way r)
  own_after r b is = ap (λ x. cond x (effect m tasks plans (way r)) (way r)) (ap (λ j. is_eq (key_cmp j k)) (way_evolves m (incoming rows plans) r).key ∙ is)

  -- the row of the key is the one that comes in
  comes : (r : RunRow) → find_row rows r.key ≡ Some r → is_eq (key_cmp r.key k) ≡ true → incoming rows plans ≡ Some (planned_run start r)
  comes r e is = ap (option_map (planned_run start)) (subst (λ j. find_row rows j ≡ Some r) (key_is r.key k is) e)

  -- so each other row has given way to it
  given_way : (r q : RunRow) → r.key ≢ q.key → find_row rows r.key ≡ Some r → is_eq (key_cmp r.key k) ≡ true → blocks (planned_run start r).class (planned_run start r).interval (way q) ≡ false
  given_way r q apart e is = subst (λ o. blocks (planned_run start r).class (planned_run start r).interval (give_way m o q) ≡ false) (sym (comes r e is)) (gave_way m (planned_run start r) q apart)

  pub planned_free : Free rows → Free (map after rows)
  planned_free free h j r s l apart e g booked at =
      let x = found_map after (changed_key m tasks plans rows) rows h r e in
      let y = found_map after (changed_key m tasks plans rows) rows j s g in
      go x.0 y.0 x.1 y.1 x.2 y.2 (is_eq (key_cmp x.0.key k)) (is_eq (key_cmp y.0.key k)) refl refl
    where
      found : (q : RunRow) (i : RunKey) → find_row rows i ≡ Some q → find_row rows q.key ≡ Some q
      found q i f = subst (λ z. find_row rows z ≡ Some q) (sym (find_row-key rows i q f)) f

      -- neither is planned
      both : (p q : RunRow) → find_row rows h ≡ Some p → find_row rows j ≡ Some q → way p ≡ r → way q ≡ s → blocks (test_class r.test) l s ≡ false
      both p q f u a b =
          let before : Calm p r = subst (λ z. Calm p z) a (way_calm m (incoming rows plans) p) in
          let other : Calm q s = subst (λ z. Calm q z) b (way_calm m (incoming rows plans) q) in
          let was : blocks (test_class p.test) l q ≡ false = free h j p q l apart f u (before.booked booked) (sym before.interval ∙ at) in
          calm_free (test_class r.test) l q s other (subst (λ c. blocks c l q ≡ false) (sym before.class) was)

      -- the second is planned
      second : (p q : RunRow) → find_row rows h ≡ Some p → find_row rows j ≡ Some q → is_eq (key_cmp q.key k) ≡ true → way p ≡ r → effect m tasks plans (way q) ≡ s → blocks (test_class r.test) l s ≡ false
      second p q f u is a b =
          let there : s.interval ≡ Some (planned_run start q).interval = subst (λ z. z.interval ≡ Some (planned_run start q).interval) b (planned_interval q) in
          let class : test_class s.test ≡ (planned_run start q).class = subst (λ z. test_class z.test ≡ (planned_run start q).class) b (planned_class q) in
          let gone : blocks (planned_run start q).class (planned_run start q).interval r ≡ false = subst (λ z. blocks (planned_run start q).class (planned_run start q).interval z ≡ false) a (given_way q p (λ same. apart (sym (find_row-key rows h p f) ∙ sym same ∙ find_row-key rows j q u)) (found q j u) is) in
          turned s r (planned_run start q).interval l there booked at (subst (λ c. blocks c (planned_run start q).interval r ≡ false) (sym class) gone)

      -- the first is planned
      one : (p q : RunRow) → find_row rows h ≡ Some p → find_row rows j ≡ Some q → is_eq (key_cmp p.key k) ≡ true → effect m tasks plans (way p) ≡ r → way q ≡ s → blocks (test_class r.test) l s ≡ false
      one p q f u is a b =
          let there : r.interval ≡ Some (planned_run start p).interval = subst (λ z. z.interval ≡ Some (planned_run start p).interval) a (planned_interval p) in
          let class : test_class r.test ≡ (planned_run start p).class = subst (λ z. test_class z.test ≡ (planned_run start p).class) a (planned_class p) in
          let same : (planned_run start p).interval ≡ l = let ends : Some (planned_run start p).interval ≡ Some l = sym there ∙ at in cc in
          let gone : blocks (planned_run start p).class (planned_run start p).interval s ≡ false = subst (λ z. blocks (planned_run start p).class (planned_run start p).interval z ≡ false) b (given_way p q (λ same. apart (sym (find_row-key rows h p f) ∙ same ∙ find_row-key rows j q u)) (found p h f) is) in
          subst (λ i. blocks (test_class r.test) i s ≡ false) same (subst (λ c. blocks c (planned_run start p).interval s ≡ false) (sym class) gone)

      go : (p q : RunRow) → find_row rows h ≡ Some p → find_row rows j ≡ Some q → after p ≡ r → after q ≡ s → (a b : Bool) → is_eq (key_cmp p.key k) ≡ a → is_eq (key_cmp q.key k) ≡ b → blocks (test_class r.test) l s ≡ false
      go p q f u v w false false c d = both p q f u (sym (own_after p false c) ∙ v) (sym (own_after q false d) ∙ w)
      go p q f u v w false true c d = second p q f u d (sym (own_after p false c) ∙ v) (sym (own_after q true d) ∙ w)
      go p q f u v w true false c d = one p q f u c (sym (own_after p true c) ∙ v) (sym (own_after q false d) ∙ w)
      go p q f u v w true true c d = absurd (apart (sym (find_row-key rows h p f) ∙ key_is p.key k c ∙ sym (key_is q.key k d) ∙ find_row-key rows j q u))
