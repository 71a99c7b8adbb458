-- An acceptance confirms where it is the last one; an order is listed where it is due.
use Rattle.std.specs.List.{list_all}
use Rattle.std.specs.Prelude.{◌&&◌, ◌++◌, ◌↔◌, Contains, IsNone, IsSome, nat_le, not, slice_get, slice_index_or}
use Rattle.std.proofs.Common.{◌≡◌, ◌≢◌, ◌+◌, ◌<◌, ℕ, zero, suc, Bool, true, false, cond, length, map, List, [], ◌∷◌, Option, Some, None, is_some, inl, inr, refl, sym, ap, ◌∙◌, subst, arith}
use Rattle.std.proofs.lemmas.Bool.{and_from, le-leb, leb-true, lt-ltb, ltb-true}
use Rattle.std.proofs.lemmas.List.Elements.{Contains-append_cases, Contains-append_left, Contains-append_right}
use Rattle.ps_time.specs.Span.{Range, Span}
use Rattle.ps_time.proofs.PictureLemmas.{and_true}
use Rattle.plugin_core.specs.declared.test_spec.TestSpec.{TestSpec}
use Rattle.plugin_core.specs.declared.test_spec.TestSpec.TheVariants.{Idle, Idleex, Idlebgm, Idlemany, Simplestream}
use Rattle.run_states.specs.Content.{kept_proposal}
use Rattle.run_states.specs.Effect.{change_at, with_acceptance}
use Rattle.run_states.specs.Life.{first_there, is_active, is_booked}
use Rattle.run_states.specs.declared.answer.Other.{Other}
use Rattle.run_states.specs.declared.row.RunRow.{RunRow}
use Rattle.host_model.specs.Effect.{effect}
use Rattle.host_model.specs.Heard.{other_at}
use Rattle.host_model.specs.Orders.{bodies_to, cancel_orders, confirm_orders, free_orders, is_before_end, is_past_end, material_orders, order_if, order_to, orders_from, propose_orders, result_orders, row_orders}
use Rattle.host_model.specs.declared.change.Change.TheVariants.{AcceptHeard}
use Rattle.host_model.specs.declared.order.Order.{Order}
use Rattle.host_model.specs.declared.order.OrderBody.{OrderBody}
use Rattle.host_model.specs.declared.order.OrderBody.TheVariants.{Free, Propose, Confirm, Cancel, Material, Result}
use Rattle.host_model.specs.declared.task_row.TaskRow.{TaskRow}
use Rattle.lead_orders.specs.Due.{IsBeforeEnd, IsDue, IsMaterialAt, IsPastEnd, WantsOnly, question_of}

-- ---- options and tests
some_is : {A : Type 0} (o : Option A) → is_some o ≡ true → IsSome o
some_is o e = e

is_some_of : {A : Type 0} (o : Option A) → IsSome o → is_some o ≡ true
is_some_of o some = some

none_is : {A : Type 0} (o : Option A) → not (is_some o) ≡ true → IsNone o
none_is None e = refl
none_is (Some a) e = cc

not_some_of : {A : Type 0} (o : Option A) → IsNone o → not (is_some o) ≡ true
not_some_of None none = refl
not_some_of (Some a) none = cc

false_is : (b : Bool) → not b ≡ true → b ≡ false
false_is true e = cc
false_is false e = refl

not_of : (b : Bool) → b ≡ false → not b ≡ true
not_of true e = cc
not_of false e = refl

-- ---- acceptances
others_accepted : (i : ℕ) (os : List Other) → list_all (λ o. o.accepted) (change_at with_acceptance i os) ≡ true → (j : ℕ) (o : Other) → j ≢ i → slice_get os j ≡ Some o → o.accepted ≡ true
others_accepted i [] all j o apart at = cc
others_accepted zero (x ∷ xs) all zero o apart at = absurd (apart refl)
others_accepted zero (x ∷ xs) all (suc j) o apart at = all_accepted xs all j o at
  where
    all_accepted : (os : List Other) → list_all (λ o. o.accepted) os ≡ true → (j : ℕ) (o : Other) → slice_get os j ≡ Some o → o.accepted ≡ true
    all_accepted [] all j o at = cc
    all_accepted (x ∷ xs) all zero o at = let same : x ≡ o = cc in subst (λ y. y.accepted ≡ true) same (and_true x.accepted _ all).0
    all_accepted (x ∷ xs) all (suc j) o at = all_accepted xs (and_true x.accepted _ all).1 j o at
others_accepted (suc i) (x ∷ xs) all zero o apart at = let same : x ≡ o = cc in subst (λ y. y.accepted ≡ true) same (and_true x.accepted _ all).0
others_accepted (suc i) (x ∷ xs) all (suc j) o apart at = others_accepted i xs (and_true x.accepted _ all).1 j o (λ e. apart (ap suc e)) at

accepted_all : (i : ℕ) (os : List Other) → ((j : ℕ) (o : Other) → j ≢ i → slice_get os j ≡ Some o → o.accepted ≡ true) → list_all (λ o. o.accepted) (change_at with_acceptance i os) ≡ true
accepted_all i [] each = refl
accepted_all zero (x ∷ xs) each = all_of xs (λ j o at. each (suc j) o (λ e. cc) at)
  where
    all_of : (os : List Other) → ((j : ℕ) (o : Other) → slice_get os j ≡ Some o → o.accepted ≡ true) → list_all (λ o. o.accepted) os ≡ true
    all_of [] each = refl
    all_of (x ∷ xs) each = and_from x.accepted _ (each zero x refl) (all_of xs (λ j o at. each (suc j) o at))
accepted_all (suc i) (x ∷ xs) each = and_from x.accepted _ (each zero x (λ e. cc) refl) (accepted_all i xs (λ j o apart at. each (suc j) o (λ e. apart (cc (e))) at))

module _ (m : ℕ) (tasks : List TaskRow) (r : RunRow) where
  wants : (i : ℕ) → (is_booked r && list_all (λ o. o.accepted) (change_at with_acceptance i r.others)) ≡ true → WantsOnly r (suc i)
  wants i e =
      let both = and_true (is_booked r) _ e in
      let booked = and_true (is_some r.accepted) (not (is_some r.closed)) both.0 in
      record {
        accepted = some_is r.accepted booked.0;
        unclosed = none_is r.closed booked.1;
        others = λ j o apart at. by_place i both.1 j o apart at;
      }
    where
      by_place : (i : ℕ) → list_all (λ o. o.accepted) (change_at with_acceptance i r.others) ≡ true → (j : ℕ) (o : Other) → j ≢ suc i → other_at r j ≡ Some o → o.accepted ≡ true
      by_place i all zero o apart at = cc
      by_place i all (suc j) o apart at = others_accepted i r.others all j o (λ e. apart (ap suc e)) at

  last_one : (i : ℕ) → WantsOnly r (suc i) → (is_booked r && list_all (λ o. o.accepted) (change_at with_acceptance i r.others)) ≡ true
  last_one i wants =
      and_from (is_booked r) _ (and_from (is_some r.accepted) (not (is_some r.closed)) (is_some_of r.accepted wants.accepted) (not_some_of r.closed wants.unclosed))
      (accepted_all i r.others (λ j o apart at. wants.others (suc j) o (λ e. apart (cc (e))) at))

  -- a row is confirmed by an acceptance exactly where no other one is missing
  pub confirmed_by_last : (place : ℕ) (o : Other) → r.confirmed ≡ None → other_at r place ≡ Some o → IsSome (effect m tasks (AcceptHeard r.key place) r).confirmed ↔ WantsOnly r place
  confirmed_by_last zero o unconfirmed there = cc
  confirmed_by_last (suc i) o unconfirmed there = (
    (λ some. wants i (holds (is_booked r && list_all (λ o. o.accepted) (change_at with_acceptance i r.others)) refl some)),
    (λ only. subst (λ b. IsSome (cond b (record r { confirmed = first_there r.confirmed (Some m); others = change_at with_acceptance i r.others }) (record r { others = change_at with_acceptance i r.others })).confirmed) (sym (last_one i only)) (now r.confirmed)),
  )
    where
      now : (c : Option ℕ) → IsSome (first_there c (Some m))
      now None = refl
      now (Some x) = refl

      holds : (b : Bool) → (is_booked r && list_all (λ o. o.accepted) (change_at with_acceptance i r.others)) ≡ b →
          IsSome (cond b (record r { confirmed = first_there r.confirmed (Some m); others = change_at with_acceptance i r.others }) (record r { others = change_at with_acceptance i r.others })).confirmed → b ≡ true
      holds true is some = refl
      holds false is some = let none : is_some {T = ℕ} None ≡ true = subst (λ c. is_some c ≡ true) unconfirmed some in cc

-- ---- members of small lists
in_one : {X : Type 0} (x y : X) → Contains (x ∷ []) y → x ≡ y
in_one x y c = go c.0 c.1 c.2
  where
    go : (k : ℕ) → k < 1 → slice_index_or (x ∷ []) k y ≡ y → x ≡ y
    go zero lt is = is
    go (suc k) lt is = absurd (omega (arith, lt))

pub in_none : {X : Type 0} (y : X) → Contains [] y → ⊥
in_none y c = omega (arith, c.1)

pub one_behind : {X : Type 0} (x : X) (xs : List X) (y : X) → Contains xs y → Contains (x ∷ xs) y
one_behind x xs y c = (suc c.0, omega (arith, c.1), c.2)

in_map : {X Y : Type 0} (f : X → Y) (xs : List X) (y : Y) → Contains (map f xs) y → (x : X) × Contains xs x × (f x ≡ y)
in_map f [] y c = absurd (in_none y c)
in_map {X} f (x ∷ xs) y c = go (in_map f xs y) c.0 c.1 c.2
  where
    go : (Contains (map f xs) y → (z : X) × Contains xs z × (f z ≡ y)) → (k : ℕ) → k < length (map f (x ∷ xs)) → slice_index_or (map f (x ∷ xs)) k y ≡ y → (z : X) × Contains (x ∷ xs) z × (f z ≡ y)
    go later zero lt is = (x, (0, omega arith, refl), is)
    go later (suc k) lt is = let rest = later (k, omega (arith, lt), is) in (rest.0, one_behind x xs rest.0 rest.1, rest.2)

map_in : {X Y : Type 0} (f : X → Y) (xs : List X) (x : X) → Contains xs x → Contains (map f xs) (f x)
map_in f [] x c = absurd (in_none x c)
map_in f (z ∷ zs) x c = go (map_in f zs x) c.0 c.1 c.2
  where
    go : (Contains zs x → Contains (map f zs) (f x)) → (k : ℕ) → k < length (z ∷ zs) → slice_index_or (z ∷ zs) k x ≡ x → Contains (map f (z ∷ zs)) (f x)
    go later zero lt is = (0, omega arith, ap f is)
    go later (suc k) lt is = one_behind (f z) (map f zs) (f x) (later (k, omega (arith, lt), is))

in_if : (b : Bool) (x y : OrderBody) → Contains (order_if b x) y → (b ≡ true) × (x ≡ y)
in_if true x y c = (refl, in_one x y c)
in_if false x y c = absurd (in_none y c)

if_in : (b : Bool) (x y : OrderBody) → b ≡ true → x ≡ y → Contains (order_if b x) y
if_in true x y on e = (0, omega arith, e)
if_in false x y on e = cc

before_is : (m : ℕ) (i : Option Span) → is_before_end m i ≡ true → IsBeforeEnd m i
before_is m None e = cc
before_is m (Some s) e = ltb-true m s.end e

before_of : (m : ℕ) (i : Option Span) → IsBeforeEnd m i → is_before_end m i ≡ true
before_of m None before = absurd before
before_of m (Some s) before = lt-ltb m s.end before

past_is : (m : ℕ) (i : Option Span) → is_past_end m i ≡ true → IsPastEnd m i
past_is m None e = cc
past_is m (Some s) e = leb-true s.end m e

past_of : (m : ℕ) (i : Option Span) → IsPastEnd m i → is_past_end m i ≡ true
past_of m None past = absurd past
past_of m (Some s) past = le-leb s.end m past

-- ---- each kind of order
module _ (m : ℕ) (r : RunRow) (o : Other) where
  free_is : (w : Option Range) → r.question ≡ w → (body : OrderBody) → Contains (free_orders r o w) body → IsDue m r o body
  free_is None is body c = absurd (in_none body c)
  free_is (Some w) is body c =
      let x = in_if (not (is_some r.closed) && not (is_some o.free)) (Free (question_of r w)) body c in
      let t = and_true (not (is_some r.closed)) (not (is_some o.free)) x.0 in
      subst (IsDue m r o) x.1 (none_is r.closed t.0, none_is o.free t.1, is, refl)

  propose_is : (body : OrderBody) → Contains (propose_orders r o) body → IsDue m r o body
  propose_is body c =
      let x = in_if (is_booked r && (not (is_some r.confirmed) && not o.accepted)) (Propose (kept_proposal r)) body c in
      let t = and_true (is_booked r) _ x.0 in
      let b = and_true (is_some r.accepted) (not (is_some r.closed)) t.0 in
      let u = and_true (not (is_some r.confirmed)) (not o.accepted) t.1 in
      subst (IsDue m r o) x.1 (some_is r.accepted b.0, none_is r.closed b.1, none_is r.confirmed u.0, false_is o.accepted u.1, refl)

  confirm_is : (body : OrderBody) → Contains (confirm_orders m r o) body → IsDue m r o body
  confirm_is body c =
      let x = in_if (is_some r.confirmed && (not (is_some r.closed) && (not o.confirm_told && is_before_end m r.interval))) Confirm body c in
      let t = and_true (is_some r.confirmed) _ x.0 in
      let u = and_true (not (is_some r.closed)) _ t.1 in
      let v = and_true (not o.confirm_told) (is_before_end m r.interval) u.1 in
      subst (IsDue m r o) x.1 (some_is r.confirmed t.0, none_is r.closed u.0, false_is o.confirm_told v.0, before_is m r.interval v.1)

  cancel_is : (body : OrderBody) → Contains (cancel_orders m r o) body → IsDue m r o body
  cancel_is body c =
      let x = in_if (is_some r.closed && (o.accepted && (not o.cancel_told && is_before_end m r.interval))) Cancel body c in
      let t = and_true (is_some r.closed) _ x.0 in
      let u = and_true o.accepted _ t.1 in
      let v = and_true (not o.cancel_told) (is_before_end m r.interval) u.1 in
      subst (IsDue m r o) x.1 (some_is r.closed t.0, u.0, false_is o.cancel_told v.0, before_is m r.interval v.1)

  material_is : (test : TestSpec) (started : Option ℕ) → r.test ≡ test → r.started ≡ started → (body : OrderBody) → Contains (material_orders m r o test started) body → IsDue m r o body
  material_is (Simplestream dest material dawdle timeout) (Some started) is at body c =
      let x = in_if (is_active r && (not o.material_told && nat_le (started + dawdle) m)) (Material material) body c in
      let t = and_true (is_active r) _ x.0 in
      let a = and_true (is_some r.started) (not (is_some r.ended)) t.0 in
      let u = and_true (not o.material_told) (nat_le (started + dawdle) m) t.1 in
      let sent : IsMaterialAt m r.test r.started material =
      subst (λ y. IsMaterialAt m y r.started material) (sym is) (subst (λ y. IsMaterialAt m (Simplestream dest material dawdle timeout) y material) (sym at) (leb-true (started + dawdle) m u.1, refl)) in
      subst (IsDue m r o) x.1 (some_is r.started a.0, none_is r.ended a.1, false_is o.material_told u.0, sent)
  material_is (Simplestream dest material dawdle timeout) None is at body c = absurd (in_none body c)
  material_is (Idle sleep) started is at body c = absurd (in_none body c)
  material_is (Idleex sleep) started is at body c = absurd (in_none body c)
  material_is (Idlebgm sleep interval) started is at body c = absurd (in_none body c)
  material_is (Idlemany sleep hosts) started is at body c = absurd (in_none body c)

  result_is : (body : OrderBody) → Contains (result_orders m r o) body → IsDue m r o body
  result_is body c =
      let x = in_if (is_some r.ended && (not (is_some r.merged) && (not (is_some o.heard) && is_past_end m r.interval))) Result body c in
      let t = and_true (is_some r.ended) _ x.0 in
      let u = and_true (not (is_some r.merged)) _ t.1 in
      let v = and_true (not (is_some o.heard)) (is_past_end m r.interval) u.1 in
      subst (IsDue m r o) x.1 (some_is r.ended t.0, none_is r.merged u.0, none_is o.heard v.0, past_is m r.interval v.1)

  abbrev frees : List OrderBody
  frees = free_orders r o r.question

  abbrev materials : List OrderBody
  materials = material_orders m r o r.test r.started

  -- what is said is due
  pub listed_due : (body : OrderBody) → Contains (bodies_to m r o) body → IsDue m r o body
  listed_due body c =
      elim (Contains-append_cases (frees ++ propose_orders r o ++ confirm_orders m r o ++ cancel_orders m r o ++ materials) (result_orders m r o) body c) [
        | inr x ↦ result_is body x
        | inl c ↦ elim (Contains-append_cases (frees ++ propose_orders r o ++ confirm_orders m r o ++ cancel_orders m r o) materials body c) [
          | inr x ↦ material_is r.test r.started refl refl body x
          | inl c ↦ elim (Contains-append_cases (frees ++ propose_orders r o ++ confirm_orders m r o) (cancel_orders m r o) body c) [
            | inr x ↦ cancel_is body x
            | inl c ↦ elim (Contains-append_cases (frees ++ propose_orders r o) (confirm_orders m r o) body c) [
              | inr x ↦ confirm_is body x
              | inl c ↦ elim (Contains-append_cases frees (propose_orders r o) body c) [
                | inr x ↦ propose_is body x
                | inl x ↦ free_is r.question refl body x
              ]
            ]
          ]
        ]
      ]

  -- ---- what is due is said
  abbrev first_two : List OrderBody
  first_two = frees ++ propose_orders r o

  abbrev first_three : List OrderBody
  first_three = first_two ++ confirm_orders m r o

  abbrev first_four : List OrderBody
  first_four = first_three ++ cancel_orders m r o

  abbrev first_five : List OrderBody
  first_five = first_four ++ materials

  from_five : (body : OrderBody) → Contains first_five body → Contains (bodies_to m r o) body
  from_five body c = Contains-append_left first_five (result_orders m r o) body c

  from_four : (body : OrderBody) → Contains first_four body → Contains (bodies_to m r o) body
  from_four body c = from_five body (Contains-append_left first_four materials body c)

  from_three : (body : OrderBody) → Contains first_three body → Contains (bodies_to m r o) body
  from_three body c = from_four body (Contains-append_left first_three (cancel_orders m r o) body c)

  from_two : (body : OrderBody) → Contains first_two body → Contains (bodies_to m r o) body
  from_two body c = from_three body (Contains-append_left first_two (confirm_orders m r o) body c)

  free_due : (w : Option Range) (body : OrderBody) (v : Range) → w ≡ Some v → IsNone r.closed → IsNone o.free → Free (question_of r v) ≡ body → Contains (free_orders r o w) body
  free_due None body v at unclosed unheard is = cc
  free_due (Some w) body v at unclosed unheard is =
      let same : w ≡ v = cc in
      if_in (not (is_some r.closed) && not (is_some o.free)) (Free (question_of r w)) body
      (and_from (not (is_some r.closed)) (not (is_some o.free)) (not_some_of r.closed unclosed) (not_some_of o.free unheard))
      (ap (λ x. Free (question_of r x)) same ∙ is)

  material_due : (test : TestSpec) (started : Option ℕ) (text : List ℕ) → IsMaterialAt m test started text → IsSome r.started → IsNone r.ended → o.material_told ≡ false → Contains (material_orders m r o test started) (Material text)
  material_due (Simplestream dest material dawdle timeout) (Some started) text sent begun unended untold =
      if_in (is_active r && (not o.material_told && nat_le (started + dawdle) m)) (Material material) (Material text)
      (and_from (is_active r) _ (and_from (is_some r.started) (not (is_some r.ended)) (is_some_of r.started begun) (not_some_of r.ended unended))
      (and_from (not o.material_told) (nat_le (started + dawdle) m) (not_of o.material_told untold) (le-leb (started + dawdle) m sent.0)))
      (ap Material sent.1)
  material_due (Simplestream dest material dawdle timeout) None text sent begun unended untold = absurd sent
  material_due (Idle sleep) started text sent begun unended untold = absurd sent
  material_due (Idleex sleep) started text sent begun unended untold = absurd sent
  material_due (Idlebgm sleep interval) started text sent begun unended untold = absurd sent
  material_due (Idlemany sleep hosts) started text sent begun unended untold = absurd sent

  due_listed : (body : OrderBody) → IsDue m r o body → Contains (bodies_to m r o) body
  due_listed (Free q) due = from_two (Free q) (Contains-append_left frees (propose_orders r o) (Free q) (free_due r.question (Free q) q.window due.2 due.0 due.1 (ap Free due.3)))
  due_listed (Propose p) due =
      from_two (Propose p) (Contains-append_right frees (propose_orders r o) (Propose p)
      (if_in (is_booked r && (not (is_some r.confirmed) && not o.accepted)) (Propose (kept_proposal r)) (Propose p)
      (and_from (is_booked r) _ (and_from (is_some r.accepted) (not (is_some r.closed)) (is_some_of r.accepted due.0) (not_some_of r.closed due.1))
      (and_from (not (is_some r.confirmed)) (not o.accepted) (not_some_of r.confirmed due.2) (not_of o.accepted due.3)))
      (ap Propose due.4)))
  due_listed Confirm due =
      from_three Confirm (Contains-append_right first_two (confirm_orders m r o) Confirm
      (if_in (is_some r.confirmed && (not (is_some r.closed) && (not o.confirm_told && is_before_end m r.interval))) Confirm Confirm
      (and_from (is_some r.confirmed) _ (is_some_of r.confirmed due.0)
      (and_from (not (is_some r.closed)) _ (not_some_of r.closed due.1)
      (and_from (not o.confirm_told) (is_before_end m r.interval) (not_of o.confirm_told due.2) (before_of m r.interval due.3))))
      refl))
  due_listed Cancel due =
      from_four Cancel (Contains-append_right first_three (cancel_orders m r o) Cancel
      (if_in (is_some r.closed && (o.accepted && (not o.cancel_told && is_before_end m r.interval))) Cancel Cancel
      (and_from (is_some r.closed) _ (is_some_of r.closed due.0)
      (and_from o.accepted _ due.1 (and_from (not o.cancel_told) (is_before_end m r.interval) (not_of o.cancel_told due.2) (before_of m r.interval due.3))))
      refl))
  due_listed (Material text) due = from_five (Material text) (Contains-append_right first_four materials (Material text) (material_due r.test r.started text due.3 due.0 due.1 due.2))
  due_listed Result due =
      Contains-append_right first_five (result_orders m r o) Result
      (if_in (is_some r.ended && (not (is_some r.merged) && (not (is_some o.heard) && is_past_end m r.interval))) Result Result
      (and_from (is_some r.ended) _ (is_some_of r.ended due.0)
      (and_from (not (is_some r.merged)) _ (not_some_of r.merged due.1)
      (and_from (not (is_some o.heard)) (is_past_end m r.interval) (not_some_of o.heard due.2) (past_of m r.interval due.3))))
      refl)

-- ---- the orders of a row
module _ (m : ℕ) (r : RunRow) where
  from_listed : (p : ℕ) (os : List Other) (i : ℕ) (o : Other) (body : OrderBody) → slice_get os i ≡ Some o → Contains (bodies_to m r o) body → Contains (orders_from m r p os) (order_to r (p + i) body)
  from_listed p [] i o body at c = cc
  from_listed p (x ∷ xs) zero o body at c =
      let same : o ≡ x = cc in
      let place : p ≡ p + 0 = omega arith in
      subst (λ n. Contains (orders_from m r p (x ∷ xs)) (order_to r n body)) place
      (Contains-append_left (map (order_to r p) (bodies_to m r x)) (orders_from m r (p + 1) xs) (order_to r p body)
      (map_in (order_to r p) (bodies_to m r x) body (subst (λ y. Contains (bodies_to m r y) body) same c)))
  from_listed p (x ∷ xs) (suc i) o body at c =
      let place : p + 1 + i ≡ p + suc i = omega arith in
      Contains-append_right (map (order_to r p) (bodies_to m r x)) (orders_from m r (p + 1) xs) (order_to r (p + suc i) body)
      (subst (λ n. Contains (orders_from m r (p + 1) xs) (order_to r n body)) place (from_listed (p + 1) xs i o body at c))

  -- what a listed order is
  pub record IsListed (p : ℕ) (os : List Other) (x : Order) : Type 0 where
    pub at : ℕ
    pub other : Other
    pub body : OrderBody
    pub known : slice_get os at ≡ Some other
    pub said : Contains (bodies_to m r other) body
    pub is : order_to r (p + at) body ≡ x

  pub listed_from : (p : ℕ) (os : List Other) (x : Order) → Contains (orders_from m r p os) x → IsListed p os x
  listed_from p [] x c = absurd (in_none x c)
  listed_from p (o ∷ os) x c =
      elim (Contains-append_cases (map (order_to r p) (bodies_to m r o)) (orders_from m r (p + 1) os) x c) [
        | inl here ↦
            let none : p + 0 ≡ p = omega arith in
            let found = in_map (order_to r p) (bodies_to m r o) x here in record { at = 0; other = o; body = found.0; known = refl; said = found.1; is = ap (λ n. order_to r n found.0) none ∙ found.2 }
        | inr later ↦
            let rest = listed_from (p + 1) os x later in
            let place : p + suc rest.at ≡ p + 1 + rest.at = omega arith in
            record { at = suc rest.at; other = rest.other; body = rest.body; known = rest.known; said = rest.said; is = ap (λ n. order_to r n rest.body) place ∙ rest.is }
      ]

  -- an order stands among those of its row exactly where it is due
  pub order_listed : (place : ℕ) (o : Other) (body : OrderBody) → IsSome r.asked → other_at r place ≡ Some o → Contains (row_orders m r) (order_to r place body) ↔ IsDue m r o body
  order_listed zero o body asked there = cc
  order_listed (suc i) o body asked there = (
    (λ c. due (listed_from 1 r.others (order_to r (suc i) body) (subst (λ b. Contains (cond b (orders_from m r 1 r.others) []) (order_to r (suc i) body)) (is_some_of r.asked asked) c))),
    (λ is. subst (λ b. Contains (cond b (orders_from m r 1 r.others) []) (order_to r (suc i) body)) (sym (is_some_of r.asked asked))
        (let place : 1 + i ≡ suc i = omega arith in subst (λ n. Contains (orders_from m r 1 r.others) (order_to r n body)) place (from_listed 1 r.others i o body there (due_listed m r o body is)))),
  )
    where
      due : IsListed 1 r.others (order_to r (suc i) body) → IsDue m r o body
      due listed =
          let places : 1 + listed.at ≡ suc i = ap (λ x. x.place) listed.is in
          let at : listed.at ≡ i = omega (arith, places) in
          let same : listed.other ≡ o = cc (ap (slice_get r.others) at, listed.known, there) in
          let bodies : listed.body ≡ body = ap (λ x. x.body) listed.is in
          subst (λ y. IsDue m r y body) same (subst (IsDue m r listed.other) bodies (listed_due m r listed.other listed.body listed.said))
