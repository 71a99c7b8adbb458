-- A new stage of one host keeps what hosts know of each other.
use Rattle.std.proofs.Common.{◌≡◌, ◌≢◌, ◌≤◌, ◌<◌, ◌⊎◌, inl, inr, ◌+◌, ℕ, zero, suc, IsSome, List, length, Option, Some, None, option_map, slice_get, refl, sym, ap, ◌∙◌, subst, arith}
use Rattle.std.specs.declared.cmp.Ordering.TheVariants.{Less, Equal}
use Rattle.ps_time.specs.Key.{key_cmp}
use Rattle.ps_time.specs.Numbers.{keeping, most_result_bytes}
use Rattle.ps_time.specs.Span.{Range, Span}
use Rattle.ps_time.specs.declared.key.RunKey.{RunKey}
use Rattle.ps_time.proofs.KeyLemmas.{key_cmp_same, key_cmp_total}
use Rattle.plugin_core.specs.Participants.{participants}
use Rattle.run_states.specs.Content.{kept_proposal}
use Rattle.run_states.specs.Life.{first_there}
use Rattle.run_states.specs.LawfulRow.{Needs, Reserves}
use Rattle.run_states.specs.Purging.{later_of, rest_of}
use Rattle.run_states.specs.Rows.{find_row}
use Rattle.run_states.specs.declared.proposal.Proposal.{Proposal}
use Rattle.run_states.specs.declared.row.Ending.{Ending}
use Rattle.run_states.specs.declared.row.RunRow.{RunRow}
use Rattle.host_model.specs.Book.{Book, epoch_of, find_task, latest_epoch}
use Rattle.host_model.specs.Fits.{wanted_span}
use Rattle.host_model.specs.Grown.{TaskStands}
use Rattle.host_model.specs.Lawful.{Lawful}
use Rattle.host_model.specs.LawfulRow.{IsHostRow}
use Rattle.host_model.specs.declared.input.Input.{Input}
use Rattle.host_model.specs.declared.input.Input.TheVariants as input
use Rattle.host_model.specs.declared.order.PeerAnswer.TheVariants as answer
use Rattle.host_model.specs.declared.task_row.TaskRow.{TaskRow}
use Rattle.host_model.proofs.Placed.{find_row-key}
use Rattle.host_model.proofs.RowFacts.{lawful_at}
use Rattle.world_law.specs.Laws.{Acceptance, Has, HasAccepted, Holds, accepted_in, acceptance, first_accepted}
use Rattle.world_law.specs.World.{Stage, World, last_row, push, row_at, stages}
use Rattle.world_law.proofs.Allowed.{AcceptCause, AllFlagged, Fresh, HasFlag, HeardAccepted, Newer, OwnTasks}
use Rattle.world_law.proofs.Carries.{Carries, RowGrown, carries_refl, grown_refl, grown_to, grown_trans}
use Rattle.world_law.proofs.Invariant.{AskedOf, Dead, HeardOk, InputOk, Inv, Later, RowOk, StandsOn, Timed, Within, accepted_there_up, confirmed_there_up, holds_there_up, message_up, row_up}
use Rattle.world_law.proofs.Lawfulness.{Orderly}
use Rattle.world_law.proofs.Moves.{Moved, holds_up, starts_up}
use Rattle.world_law.proofs.Shown.{holds_of, holds_one}
use Rattle.world_law.proofs.Steps.{StepOk}
use Rattle.world_law.proofs.Worlds.{now_same, pushed_all, pushed_cases, stages_same}

-- ---- options
pub first_set : {A : Type 0} (o p : Option A) (a : A) → o ≡ Some a → first_there o p ≡ Some a
first_set None p a e = cc
first_set (Some b) p a e = e

-- ---- what a row rests on
-- the end of its interval isn't after its rest
end_rests : (r : RunRow) (s : Span) → r.interval ≡ Some s → s.end ≤ rest_of r
end_rests r s e = ends r.interval e (later_of r.asked (later_of r.accepted (later_of r.confirmed (later_of r.started (later_of r.material (later_of (option_map (λ e. e.moment) r.ended) (later_of (option_map (λ c. c.moment) r.closed) 0)))))))
  where
    ends : (o : Option Span) → o ≡ Some s → (n : ℕ) → s.end ≤ later_of (option_map (λ i. i.end) o) n
    ends None e n = cc
    ends (Some x) e n = let same : x ≡ s = cc in subst (λ y. y.end ≤ later_of (Some x.end) n) same (omega arith)

module _ (w : World) (inv : Inv w) (h m : ℕ) (i : Input) (ok : InputOk w h i) (s : Stage) (step : StepOk w.names h m i s.config (w.hosts h).now.book s.book)
    (lawful : Lawful h s.book) (tasks : (serial : ℕ) (t : TaskRow) → find_task (w.hosts h).now.book.tasks serial ≡ Some t → TaskStands s.book serial t) (later_moment : (w.hosts h).now.book.moment ≤ s.book.moment)
    (orderly : Orderly (push w h s)) where
  abbrev old : Book
  old = (w.hosts h).now.book

  abbrev v : World
  v = push w h s

  row_same : (k : RunKey) → row_at (push w h s) h k ≡ first_there (find_row s.book.rows k) (row_at w h k)
  row_same k = ap (λ xs. last_row xs k) (stages_same w h s)

  row_other : (g : ℕ) (k : RunKey) → stages (push w h s) g ≡ stages w g → row_at (push w h s) g k ≡ row_at w g k
  row_other g k e = ap (λ xs. last_row xs k) e

  present_row : (k : RunKey) (r : RunRow) → find_row old.rows k ≡ Some r → row_at w h k ≡ Some r
  present_row k r e = first_set (find_row old.rows k) (last_row (w.hosts h).before k) r e

  -- a key that is gone doesn't come back
  reborn : (k : RunKey) (y r : RunRow) → row_at w h k ≡ Some y → find_row old.rows k ≡ None → find_row s.book.rows k ≡ Some r → ⊥
  reborn k y r e n f = go (((step.stands k r f).born r n refl).1)
    where
      one : (p c : Proposal) → p.key ≡ k → k.lead ≢ h → m ≤ p.start → Has w k.lead p.key (Holds p) → Holds c y → Has w k.lead k (Holds c) → ⊥
      one p c key other soon (l, le, lh) cy (z, ze, zh) =
          let at : row_at w k.lead k ≡ Some l = subst (λ j. row_at w k.lead j ≡ Some l) key le in
          let same : z ≡ l = cc (at, ze) in
          let content : c ≡ p = holds_one c p l (subst (Holds c) same zh) lh in
          let mine : Holds p y = subst (λ q. Holds q y) content cy in
          let past : p.start < old.moment = (inv.dead h k y e n).past (wanted_span p) mine.interval in
          let late = step.late in
          omega (arith, past, late, soon)

      go : ((k.lead ≡ h) × Fresh old.rows k × (slice_get r.participants 0 ≡ Some (w.names k.lead)) × (r.asker.server ≡ w.names k.lead)) ⊎ ((p : Proposal) × (i ≡ input.Propose k.lead p) × Holds p r × (k.lead ≢ h) × (m ≤ p.start)) → ⊥
      go (inl (own, fresh, first, server)) =
          let d = (inv.dead h k y e n).newer own in
          let less : key_cmp d.key k ≡ Less = fresh d.key d.row d.at d.lead d.task in
          let around : key_cmp k k ≡ Less = key_cmp_total.trans k d.key k d.later less in
          let equal : key_cmp k k ≡ Equal = key_cmp_same k in
          cc
      go (inr (p, is, held, other, soon)) =
          let key : p.key ≡ k = sym held.key ∙ find_row-key s.book.rows k r f in
          let sent : Has w k.lead p.key (Holds p) = subst (λ j. InputOk w h j) is ok in
          let c = (inv.rows h k y e).foreign other in
          one p c.0 key other soon sent c.1 c.2

  known : (k : RunKey) (r y : RunRow) → find_row s.book.rows k ≡ Some r → row_at w h k ≡ Some y → find_row old.rows k ≡ Some y
  known k r y f e = go (find_row old.rows k) refl
    where
      go : (o : Option RunRow) → find_row old.rows k ≡ o → find_row old.rows k ≡ Some y
      go None n = absurd (reborn k y r e n f)
      go (Some q) n = let x : row_at w h k ≡ Some q = present_row k q n in n ∙ sym x ∙ e

  new_last : (k : RunKey) (r : RunRow) → find_row s.book.rows k ≡ Some r → row_at (push w h s) h k ≡ Some r
  new_last k r e = row_same k ∙ first_set (find_row s.book.rows k) (row_at w h k) r e

  rows_here : (k : RunKey) → RowGrown (row_at w h k) (row_at (push w h s) h k)
  rows_here k r e = go (find_row s.book.rows k) refl
    where
      go : (o : Option RunRow) → find_row s.book.rows k ≡ o → (t : RunRow) × (row_at (push w h s) h k ≡ Some t) × Carries r t
      go None f = (r, row_same k ∙ ap (λ o. first_there o (row_at w h k)) f ∙ e, carries_refl r)
      go (Some t) f = (t, new_last k t f, grown_to (find_row old.rows k) (Some t) r t (step.stands k t f).grown (known k t r f e) refl)

  firsts_here : (k : RunKey) (a : Acceptance) → first_accepted (stages w h) k ≡ Some a → first_accepted (stages (push w h s) h) k ≡ Some a
  firsts_here k a e = ap (λ xs. first_accepted xs k) (stages_same w h s) ∙ first_set (first_accepted (stages w h) k) (accepted_in s (find_row s.book.rows k)) a e

  tasks_here : (serial : ℕ) (t : TaskRow) → find_task old.tasks serial ≡ Some t → (u : TaskRow) × (find_task ((push w h s).hosts h).now.book.tasks serial ≡ Some u) × (u.task ≡ t.task)
  tasks_here serial t e = let u = tasks serial t e in (u.0, ap (λ x. find_task x.book.tasks serial) (now_same w h s) ∙ u.1, u.2.task)

  -- the present stage of another host
  now_other : (g : ℕ) → stages (push w h s) g ≡ stages w g → ((push w h s).hosts g).now ≡ (w.hosts g).now
  now_other g e = cc

  pub later : Later w (push w h s)
  later = record {
    rows = λ g k. elim (pushed_cases w h s g) [
      | inl c ↦ subst (λ x. RowGrown (row_at w x k) (row_at (push w h s) x k)) (sym c.0) (rows_here k)
      | inr c ↦ subst (λ o. RowGrown (row_at w g k) o) (sym (row_other g k c)) (grown_refl (row_at w g k))
    ];
    firsts = λ g k a e. elim (pushed_cases w h s g) [
      | inl c ↦ subst (λ x. first_accepted (stages (push w h s) x) k ≡ Some a) (sym c.0) (firsts_here k a (subst (λ x. first_accepted (stages w x) k ≡ Some a) c.0 e))
      | inr c ↦ ap (λ xs. first_accepted xs k) c ∙ e
    ];
    names = λ q. refl;
    tasks = λ g serial t e. elim (pushed_cases w h s g) [
      | inl c ↦ subst (λ x. (u : TaskRow) × (find_task ((push w h s).hosts x).now.book.tasks serial ≡ Some u) × (u.task ≡ t.task)) (sym c.0) (tasks_here serial t (subst (λ x. find_task (w.hosts x).now.book.tasks serial ≡ Some t) c.0 e))
      | inr c ↦ (t, ap (λ x. find_task x.book.tasks serial) (now_other g c) ∙ e, refl)
    ];
  }

  -- ---- a row of the new stage
  module _ (k : RunKey) (r : RunRow) (at : find_row s.book.rows k ≡ Some r) where
    abbrev moved : Moved w.names h m i s.config s.book old k (Some r) (epoch_of s.book k)
    moved = step.stands k r at

    row_is : IsHostRow h s.book.tasks s.book.moment r
    row_is = lawful_at h s.book lawful k r at

    here : (P : RunRow → Type 0) → P r → Has (push w h s) h k P
    here P p = (r, new_last k r at, p)

    was_ok : (q : RunRow) → find_row old.rows k ≡ Some q → RowOk (push w h s) h k q
    was_ok q f = row_up w (push w h s) h k q later (inv.rows h k q (present_row k q f))

    carried : (q : RunRow) → find_row old.rows k ≡ Some q → Carries q r
    carried q f = grown_to (find_row old.rows k) (Some r) q r moved.grown f refl

    participants_ok : r.participants ≡ participants r.test (w.names k.lead)
    participants_ok = go (find_row old.rows k) refl
      where
        go : (o : Option RunRow) → find_row old.rows k ≡ o → r.participants ≡ participants r.test (w.names k.lead)
        go None f = (moved.born r f refl).0
        go (Some q) f = let up = carried q f in up.participants ∙ (was_ok q f).participants ∙ ap (λ t. participants t (w.names k.lead)) (sym up.test)

    first_ok : k.lead ≡ h → slice_get r.participants 0 ≡ Some (w.names h)
    first_ok own = go (find_row old.rows k) refl
      where
        born : ((k.lead ≡ h) × Fresh old.rows k × (slice_get r.participants 0 ≡ Some (w.names k.lead)) × (r.asker.server ≡ w.names k.lead)) ⊎ ((p : Proposal) × (i ≡ input.Propose k.lead p) × Holds p r × (k.lead ≢ h) × (m ≤ p.start)) → slice_get r.participants 0 ≡ Some (w.names h)
        born (inl x) = x.2 ∙ ap (λ n. Some (w.names n)) own
        born (inr x) = absurd (x.3 own)

        go : (o : Option RunRow) → find_row old.rows k ≡ o → slice_get r.participants 0 ≡ Some (w.names h)
        go None f = born (moved.born r f refl).1
        go (Some q) f = ap (λ xs. slice_get xs 0) (carried q f).participants ∙ (was_ok q f).first own

    server_ok : k.lead ≡ h → r.asker.server ≡ w.names h
    server_ok own = go (find_row old.rows k) refl
      where
        born : ((k.lead ≡ h) × Fresh old.rows k × (slice_get r.participants 0 ≡ Some (w.names k.lead)) × (r.asker.server ≡ w.names k.lead)) ⊎ ((p : Proposal) × (i ≡ input.Propose k.lead p) × Holds p r × (k.lead ≢ h) × (m ≤ p.start)) → r.asker.server ≡ w.names h
        born (inl x) = x.3 ∙ ap w.names own
        born (inr x) = absurd (x.3 own)

        go : (o : Option RunRow) → find_row old.rows k ≡ o → r.asker.server ≡ w.names h
        go None f = born (moved.born r f refl).1
        go (Some q) f = ap (λ a. a.server) (carried q f).asker ∙ (was_ok q f).server own

    short_ok : (x : Ending) → r.ended ≡ Some x → length x.body ≤ most_result_bytes
    short_ok x e = elim (moved.short r x refl e) [ inl y ↦ (was_ok y.0 y.1).short x y.2 | inr y ↦ y ]

    foreign_ok : k.lead ≢ h → (p : Proposal) × Holds p r × Has (push w h s) k.lead k (Holds p)
    foreign_ok other = go (find_row old.rows k) refl
      where
        born : ((k.lead ≡ h) × Fresh old.rows k × (slice_get r.participants 0 ≡ Some (w.names k.lead)) × (r.asker.server ≡ w.names k.lead)) ⊎ ((p : Proposal) × (i ≡ input.Propose k.lead p) × Holds p r × (k.lead ≢ h) × (m ≤ p.start)) → (p : Proposal) × Holds p r × Has (push w h s) k.lead k (Holds p)
        born (inl x) = absurd (other x.0)
        born (inr (p, is, held, apart, soon)) =
            let key : p.key ≡ k = sym held.key ∙ find_row-key s.book.rows k r at in
            let sent : Has w k.lead p.key (Holds p) = subst (λ j. InputOk w h j) is ok in
            (p, held, holds_there_up w (push w h s) k.lead k p later (subst (λ j. Has w k.lead j (Holds p)) key sent))

        go : (o : Option RunRow) → find_row old.rows k ≡ o → (p : Proposal) × Holds p r × Has (push w h s) k.lead k (Holds p)
        go None f = born (moved.born r f refl).1
        go (Some q) f = let x = (was_ok q f).foreign other in (x.0, holds_up x.0 q r (carried q f) x.1, x.2)

    heard_ok : (j : ℕ) → HasFlag j r → (name : List ℕ) × (slice_get r.participants (suc j) ≡ Some name) × HasAccepted (push w h s) k name
    heard_ok j flag = elim (moved.flag r j refl flag) [
      | inl x ↦ (let y = (was_ok x.0 x.1).heard j x.2 in (y.0, ap (λ xs. slice_get xs (suc j)) (carried x.0 x.1).participants ∙ y.1, y.2))
      | inr x ↦ told x.1
    ]
      where
        told : HeardAccepted i k (suc j) → (name : List ℕ) × (slice_get r.participants (suc j) ≡ Some name) × HasAccepted (push w h s) k name
        told (o, n, p, is, key, place, body) =
            let b : HeardOk w h o (answer.Accepted n) = subst (λ x. InputOk w h x) is ok in
            let q = b.0 in
            let there : Has w q o.key (λ x. IsSome x.accepted) = b.2 p n body refl in
            let row = b.1 in
            let known_row : find_row old.rows k ≡ Some row.0 = known k r row.0 at (subst (λ x. row_at w h x ≡ Some row.0) key row.1) in
            let name : slice_get row.0.participants (suc j) ≡ Some (w.names q) = subst (λ x. slice_get row.0.participants x ≡ Some (w.names q)) place row.2 in
            (w.names q, ap (λ xs. slice_get xs (suc j)) (carried row.0 known_row).participants ∙ name, (q, refl, accepted_there_up w (push w h s) q k later (subst (λ x. Has w q x (λ z. IsSome z.accepted)) key there)))

    accepted_ok : IsSome r.confirmed → IsSome r.accepted
    accepted_ok con = go r.confirmed r.accepted con row_is.row.life.confirmed
      where
        go : (o a : Option ℕ) → IsSome o → Needs o a → IsSome a
        go None a e n = cc
        go (Some x) a e n = n

    confirmed_ok : IsSome r.confirmed → Has (push w h s) k.lead k (λ l. IsSome l.confirmed)
    confirmed_ok con = elim (moved.confirmed r refl con) [
      | inl x ↦ (was_ok x.0 x.1).confirmed x.2
      | inr x ↦ elim x [
        | inl is ↦ confirmed_there_up w (push w h s) k.lead k later (subst (λ j. InputOk w h j) is ok)
        | inr y ↦ subst (λ g. Has (push w h s) g k (λ l. IsSome l.confirmed)) (sym y.0) (here (λ l. IsSome l.confirmed) con)
      ]
    ]

    whole_ok : k.lead ≡ h → IsSome r.confirmed → (j : ℕ) (name : List ℕ) → slice_get r.participants j ≡ Some name → HasAccepted (push w h s) k name
    whole_ok own con = elim (moved.confirmed r refl con) [
      | inl x ↦ λ j name e. (was_ok x.0 x.1).whole own x.2 j name (ap (λ xs. slice_get xs j) (sym (carried x.0 x.1).participants) ∙ e)
      | inr x ↦ elim x [
        | inl is ↦ λ j name e. (let b : Has w k.lead k (λ y. IsSome y.confirmed) = subst (λ z. InputOk w h z) is ok in before j name e (subst (λ g. Has w g k (λ y. IsSome y.confirmed)) own b))
        | inr y ↦ λ j name e. flagged y.1 j name e
      ]
    ]
      where
        before : (j : ℕ) (name : List ℕ) → slice_get r.participants j ≡ Some name → Has w h k (λ y. IsSome y.confirmed) → HasAccepted (push w h s) k name
        before j name e (y, ye, yc) =
            let f = known k r y at ye in
            (was_ok y f).whole own yc j name (ap (λ xs. slice_get xs j) (sym (carried y f).participants) ∙ e)

        flagged : AllFlagged r → (j : ℕ) (name : List ℕ) → slice_get r.participants j ≡ Some name → HasAccepted (push w h s) k name
        flagged all zero name e = (h, (let lead = first_ok own in cc), here (λ l. IsSome l.accepted) (accepted_ok con))
        flagged all (suc j) name e =
            let x = heard_ok j (all j name e) in
            let same : x.0 ≡ name = cc (x.1, e) in
            subst (λ n. HasAccepted (push w h s) k n) same x.2

    question_ok : (x : Range) → r.question ≡ Some x → AskedOf (push w h s) h k x
    question_ok x e = elim (moved.question r x refl e) [
      | inl y ↦ (was_ok y.0 y.1).question x y.2
      | inr y ↦ (y.0, ap (λ z. find_task z.book.tasks k.task) (now_same w h s) ∙ y.1, y.2)
    ]

    timed_ok : IsSome r.accepted → Timed h k r
    timed_ok acc = elim (moved.timed r refl acc) [
      | inl x ↦ up x.0 (carried x.0 x.1) ((was_ok x.0 x.1).timed x.2)
      | inr x ↦ x
    ]
      where
        up : (q : RunRow) → Carries q r → Timed h k q → Timed h k r
        up q on (inl x) = inl x
        up q on (inr (inl x)) = inr (inl x)
        up q on (inr (inr x)) = inr (inr (starts_up q r on x))

    within_ok : IsSome r.accepted → Within (push w h s) h k r
    within_ok acc = elim (moved.accepted r refl acc) [
      | inl x ↦ was_within x.0 x.1 x.2
      | inr x ↦ go (first_accepted (stages w h) k) refl x
    ]
      where
        was_within : (q : RunRow) → find_row old.rows k ≡ Some q → IsSome q.accepted → Within (push w h s) h k r
        was_within q f a =
            let x = (was_ok q f).within a in
            (x.0, holds_up x.0 q r (carried q f) x.1, (x.2.0, x.2.1, x.2.2, x.2.3 ∙ sym (carried q f).participants, x.2.4))

        set_in : (o : Option ℕ) → IsSome o → acceptance s r o ≡ Some (record { stage = s; row = r })
        set_in None e = cc
        set_in (Some n) e = refl

        go : (o : Option Acceptance) → first_accepted (stages w h) k ≡ o → AcceptCause s.config s.book r × (epoch_of s.book k ≡ Some (latest_epoch s.book)) → Within (push w h s) h k r
        go None f x =
            let held : Holds (kept_proposal r) r = holds_of s.book.moment r (kept_proposal r) row_is.row acc refl in
            let there : first_accepted (stages (push w h s) h) k ≡ Some (record { stage = s; row = r }) =
            ap (λ xs. first_accepted xs k) (stages_same w h s) ∙ ap (λ o. first_there o (accepted_in s (find_row s.book.rows k))) f ∙ ap (accepted_in s) at ∙ set_in r.accepted acc in
            (kept_proposal r, held, (record { stage = s; row = r }, there, held, refl, (x.0.0, x.0.1, x.1, x.0.2)))
        go (Some a) f x = let y = inv.firsts h k a f in was_within y.0 (known k r y.0 at y.1) y.2

    changed_ok : RowOk (push w h s) h k r
    changed_ok = record {
      kept = (s.book, lawful, at);
      participants = participants_ok;
      first = first_ok;
      foreign = foreign_ok;
      heard = heard_ok;
      confirmed = confirmed_ok;
      whole = whole_ok;
      question = question_ok;
      server = server_ok;
      short = short_ok;
      timed = timed_ok;
      within = within_ok;
    }

  -- ---- all rows of the host
  rows_ok : (k : RunKey) (r : RunRow) → row_at (push w h s) h k ≡ Some r → RowOk (push w h s) h k r
  rows_ok k r e = go (find_row s.book.rows k) refl (sym (row_same k) ∙ e)
    where
      go : (o : Option RunRow) → find_row s.book.rows k ≡ o → first_there o (row_at w h k) ≡ Some r → RowOk (push w h s) h k r
      go None f g = row_up w (push w h s) h k r later (inv.rows h k r g)
      go (Some t) f g = let same : t ≡ r = cc in changed_ok k r (f ∙ ap Some same)

  dead_ok : (k : RunKey) (r : RunRow) → row_at (push w h s) h k ≡ Some r → find_row s.book.rows k ≡ None → ((x : Span) → r.interval ≡ Some x → x.start < s.book.moment) × (k.lead ≡ h → Newer k s.book.rows)
  dead_ok k r e n = go (find_row old.rows k) refl
    where
      was : row_at w h k ≡ Some r
      was = sym (row_same k ∙ ap (λ o. first_there o (row_at w h k)) n) ∙ e

      long : (t : RunRow) (x : Span) → t.interval ≡ Some x → rest_of t + keeping ≤ s.book.moment → x.start ≤ x.end → x.start < s.book.moment
      long t x i p order = let low : x.end ≤ rest_of t = end_rests t x i in omega (arith, low, p, order)

      ordered : (x : Span) → r.interval ≡ Some x → x.start ≤ x.end
      ordered x f = span r.accepted r.tool r.interval f (lawful_at h (inv.rows h k r was).kept.0 (inv.rows h k r was).kept.1 k r (inv.rows h k r was).kept.2).row.reserves
        where
          span : (a : Option ℕ) (t : Option (List ℕ)) (o : Option Span) → o ≡ Some x → Reserves r.test a t o → x.start ≤ x.end
          span (Some a) (Some t) (Some y) g has = let same : y ≡ x = cc in subst (λ z. z.start ≤ z.end) same (subst (λ z. y.start ≤ z.end) (sym has.2) (omega arith))
          span None None None g has = cc
          span None None (Some y) g has = absurd has
          span None (Some t) o g has = absurd has
          span (Some a) None o g has = absurd has
          span (Some a) (Some t) None g has = cc

      -- the newer row stays, or a still newer one does
      newer_on : Newer k old.rows → k.lead ≡ h → Newer k s.book.rows
      newer_on x own = on (find_row s.book.rows x.key) refl
        where
          on : (o : Option RunRow) → find_row s.book.rows x.key ≡ o → Newer k s.book.rows
          on (Some y) f = record { key = x.key; row = y; at = f; lead = x.lead; task = x.task; later = x.later }
          on None f =
              let g = (step.gone x.key x.row x.at f).newer (x.lead ∙ own) in
              record { key = g.key; row = g.row; at = g.at; lead = g.lead ∙ x.lead; task = g.task ∙ x.task; later = key_cmp_total.trans k x.key g.key x.later g.later }

      go : (o : Option RunRow) → find_row old.rows k ≡ o → ((x : Span) → r.interval ≡ Some x → x.start < s.book.moment) × (k.lead ≡ h → Newer k s.book.rows)
      go None f =
          let d = inv.dead h k r was f in
          (λ x i. (let p = d.past x i in omega (arith, p, later_moment)), λ own. newer_on (d.newer own) own)
      go (Some q) f =
          let same : q ≡ r = cc (present_row k q f, was) in
          let g = step.gone k q f n in
          (λ x i. long g.row x (g.carries.interval x (subst (λ z. z.interval ≡ Some x) (sym same) i)) g.past (ordered x i), g.newer)

  firsts_of : (k : RunKey) (a : Acceptance) → first_there (first_accepted (stages w h) k) (accepted_in s (find_row s.book.rows k)) ≡ Some a → Has (push w h s) h k (λ r. IsSome r.accepted)
  firsts_of k a = go (first_accepted (stages w h) k) refl (find_row s.book.rows k) refl
    where
      set_by : (r : RunRow) (o : Option ℕ) → acceptance s r o ≡ Some a → IsSome o
      set_by r None e = cc
      set_by r (Some n) e = refl

      go : (o : Option Acceptance) → first_accepted (stages w h) k ≡ o → (p : Option RunRow) → find_row s.book.rows k ≡ p → first_there o (accepted_in s p) ≡ Some a → Has (push w h s) h k (λ r. IsSome r.accepted)
      go (Some b) f p g e = accepted_there_up w (push w h s) h k later (inv.firsts h k b f)
      go None f None g e = cc
      go None f (Some r) g e = (r, new_last k r g, set_by r r.accepted e)

  stage_on : (k : RunKey) → RowGrown (find_row s.book.rows k) (row_at (push w h s) h k)
  stage_on k r e = (r, new_last k r e, carries_refl r)

  pub pushed : Inv (push w h s)
  pushed = record {
    orderly = orderly;
    stage = pushed_all w h s (λ g t. StandsOn (push w h s) g t) stage_on (λ g j t e k. grown_trans (find_row t.book.rows k) (row_at w g k) (row_at (push w h s) g k) (inv.stage g j t e k) (later.rows g k));
    rows = λ g k r e. elim (pushed_cases w h s g) [
      | inl c ↦ subst (λ x. RowOk (push w h s) x k r) (sym c.0) (rows_ok k r (subst (λ x. row_at (push w h s) x k ≡ Some r) c.0 e))
      | inr c ↦ row_up w (push w h s) g k r later (inv.rows g k r (sym (row_other g k c) ∙ e))
    ];
    dead = λ g k r e n. elim (pushed_cases w h s g) [
      | inl c ↦ subst (λ x. Dead (push w h s) x k r) (sym c.0) (here_dead k r (subst (λ x. row_at (push w h s) x k ≡ Some r) c.0 e) (subst (λ x. find_row ((push w h s).hosts x).now.book.rows k ≡ None) c.0 n))
      | inr c ↦ other_dead g c k r e n
    ];
    firsts = λ g k a e. elim (pushed_cases w h s g) [
      | inl c ↦ subst (λ x. Has (push w h s) x k (λ r. IsSome r.accepted)) (sym c.0) (firsts_of k a (subst (λ xs. first_accepted xs k ≡ Some a) c.1 e))
      | inr c ↦ accepted_there_up w (push w h s) g k later (inv.firsts g k a (subst (λ xs. first_accepted xs k ≡ Some a) c e))
    ];
    owned = λ g. elim (pushed_cases w h s g) [
      | inl c ↦ subst (λ x. OwnTasks (w.names x) ((push w h s).hosts x).now.book.tasks) (sym c.0) (subst (λ z. OwnTasks (w.names h) z.book.tasks) (sym (now_same w h s)) step.own)
      | inr c ↦ subst (λ z. OwnTasks (w.names g) z.book.tasks) (sym (now_other g c)) (inv.owned g)
    ];
    messages = λ j l e. message_up w (push w h s) l later (inv.messages j l e);
  }
    where
      here_dead : (k : RunKey) (r : RunRow) → row_at (push w h s) h k ≡ Some r → find_row ((push w h s).hosts h).now.book.rows k ≡ None → Dead (push w h s) h k r
      here_dead k r e n =
          let d = dead_ok k r e (subst (λ z. find_row z.book.rows k ≡ None) (now_same w h s) n) in
          record { past = λ x i. subst (λ z. x.start < z.book.moment) (sym (now_same w h s)) (d.0 x i); newer = λ own. subst (λ z. Newer k z.book.rows) (sym (now_same w h s)) (d.1 own) }

      other_dead : (g : ℕ) → stages (push w h s) g ≡ stages w g → (k : RunKey) (r : RunRow) → row_at (push w h s) g k ≡ Some r → find_row ((push w h s).hosts g).now.book.rows k ≡ None → Dead (push w h s) g k r
      other_dead g c k r e n =
          let d = inv.dead g k r (sym (row_other g k c) ∙ e) (subst (λ z. find_row z.book.rows k ≡ None) (now_other g c) n) in
          record { past = λ x i. subst (λ z. x.start < z.book.moment) (sym (now_other g c)) (d.past x i); newer = λ own. subst (λ z. Newer k z.book.rows) (sym (now_other g c)) (d.newer own) }
