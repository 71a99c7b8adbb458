-- In a run that keeps to the bounds every stage's book is lawful for its host, and has grown from each earlier one.
use Rattle.std.proofs.Common.{◌≡◌, ◌≤◌, ◌⊎◌, inl, inr, ℕ, zero, suc, List, [], ◌∷◌, length, Some, slice_get, sym, subst, arith}
use Rattle.host_model.specs.Book.{Book, empty_book, moment_at}
use Rattle.host_model.specs.Conditions.{MayStep}
use Rattle.host_model.specs.Grown.{Grown}
use Rattle.host_model.specs.Lawful.{Lawful}
use Rattle.host_model.specs.MayFollow.{MayFollow}
use Rattle.host_model.specs.Step.{step, step_book, step_changes}
use Rattle.host_model.specs.declared.config.Config.{Config}
use Rattle.host_model.specs.declared.input.Input.{Input}
use Rattle.host_model.proofs.GrownLemmas.{Grown-refl, Grown-trans}
use Rattle.host_model.proofs.LawfulBook.{after_lawful, empty_lawful}
use Rattle.host_model.proofs.StepGrown.{step_grown}
use Rattle.world_law.specs.Events.{Cause, Cause.ByOpening, CauseInBounds, InBounds, Right, answer_now, answered, config_by, idle_stage, step_stage, stepped}
use Rattle.world_law.specs.Laws.{AllGrown, AllLawful, OfStages}
use Rattle.world_law.specs.World.{Answer, Message, Stage, World, aged, posted, push, stages, start}
use Rattle.world_law.proofs.Stages.{aged_all, aged_cases, aged_last, aged_within}
use Rattle.world_law.proofs.Worlds.{now_at, pushed_all, pushed_cases, pushed_up}

-- what is shown of each input of one host: the changes of a step that may be made may follow its book
abbrev pub StepsFollow : Type 0
StepsFollow = (c : Config) (b : Book) (clock : ℕ) (i : Input) → MayStep c b clock i → MayFollow c.number b (step_changes c b clock i)

-- ---- what such a world keeps
abbrev pub AskedRight : World → Answer → Type 0
AskedRight w a = (s : Stage) × (aged (stages w a.host) a.stage ≡ Some s) × InBounds s.config a.clock a.input

pub record Orderly (w : World) : Type 0 where
  pub lawful : AllLawful w
  pub right : OfStages w (λ h s. Right w.names h s.config)
  pub grown : AllGrown w
  -- what was answered was asked within the bounds
  pub asked : (j : ℕ) (a : Answer) → slice_get w.answers j ≡ Some a → AskedRight w a

-- ---- the stages of one host
abbrev pub GrownStages : List Stage → Type 0
GrownStages xs = (i j : ℕ) (s t : Stage) → i ≤ j → aged xs i ≡ Some s → aged xs j ≡ Some t → Grown s.book t.book

grown_push : (x s : Stage) (xs : List Stage) → GrownStages (x ∷ xs) → Grown x.book s.book → GrownStages (s ∷ x ∷ xs)
grown_push x s xs all step i j r t le e f = go (aged_cases s (x ∷ xs) i r e) (aged_cases s (x ∷ xs) j t f)
  where
    go : ((i ≡ length (x ∷ xs)) × (s ≡ r)) ⊎ (aged (x ∷ xs) i ≡ Some r) → ((j ≡ length (x ∷ xs)) × (s ≡ t)) ⊎ (aged (x ∷ xs) j ≡ Some t) → Grown r.book t.book
    go (inl a) (inl b) = subst (λ y. Grown y.book t.book) a.1 (subst (λ y. Grown s.book y.book) b.1 (Grown-refl s.book))
    go (inl a) (inr b) = let lt = aged_within (x ∷ xs) j t b in absurd (omega (arith, a.0, lt, le))
    go (inr a) (inl b) =
        let lt = aged_within (x ∷ xs) i r a in
        let before : Grown r.book x.book = all i (length xs) r x (omega (arith, lt)) a (aged_last x xs) in
        subst (λ y. Grown r.book y.book) b.1 (Grown-trans r.book x.book s.book before step)
    go (inr a) (inr b) = all i j r t le a b

pushed_ok : (w : World) (h : ℕ) (s : Stage) → Orderly w → Lawful h s.book → Right w.names h s.config → Grown (w.hosts h).now.book s.book → Orderly (push w h s)
pushed_ok w h s ok lawful right step = record {
  lawful = pushed_all w h s (λ g t. Lawful g t.book) lawful ok.lawful;
  right = pushed_all w h s (λ g t. Right w.names g t.config) right ok.right;
  grown = λ g. elim (pushed_cases w h s g) [
    | inl c ↦ subst GrownStages (sym c.1) (grown_push (w.hosts h).now s (w.hosts h).before (ok.grown h) step)
    | inr c ↦ subst GrownStages (sym c) (ok.grown g)
  ];
  asked = λ j a e. let x = ok.asked j a e in (x.0, pushed_up w h s a.host a.stage x.0 x.1, x.2);
}

-- ---- steps
pub may_step : (names : ℕ → List ℕ) (h : ℕ) (c : Config) (b : Book) (clock : ℕ) (i : Input) → Right names h c → Lawful h b → InBounds c clock i → MayStep c b clock i
may_step names h c b clock i right lawful bounds = record { config = right.config; book = subst (λ n. Lawful n b) (sym right.number) lawful; moment = bounds.0; bounds = bounds.1 }

module _ (follow : StepsFollow) where
  pub step_is_lawful : (names : ℕ → List ℕ) (h : ℕ) (c : Config) (b : Book) (clock : ℕ) (i : Input) → Right names h c → MayStep c b clock i → Lawful h (step_book c b clock i)
  step_is_lawful names h c b clock i right may = subst (λ n. Lawful n (step_book c b clock i)) right.number (after_lawful c.number b (moment_at b clock) (step c b clock i).list may.book (follow c b clock i may))

  module _ (w : World) (ok : Orderly w) where
    pub lawful_now : (h : ℕ) → Lawful h (w.hosts h).now.book
    lawful_now h = ok.lawful h (length (w.hosts h).before) (w.hosts h).now (now_at w h)

    pub right_now : (h : ℕ) → Right w.names h (w.hosts h).now.config
    right_now h = ok.right h (length (w.hosts h).before) (w.hosts h).now (now_at w h)

    pub performed : (h clock : ℕ) (c : Config) (i : Input) → Right w.names h c → InBounds c clock i → Orderly (push w h (step_stage w h clock c i))
    performed h clock c i right bounds =
        let b : Book = (w.hosts h).now.book in
        let may : MayStep c b clock i = may_step w.names h c b clock i right (lawful_now h) bounds in
        pushed_ok w h (step_stage w h clock c i) ok (step_is_lawful w.names h c b clock i right may) right (step_grown c b clock i may)

    pub idle : (h : ℕ) (c : Config) → Right w.names h c → Orderly (push w h (idle_stage w h c))
    idle h c right = pushed_ok w h (idle_stage w h c) ok (lawful_now h) right (Grown-refl (w.hosts h).now.book)

  -- messages and answers say nothing of stages
  pub posted_ok : (w : World) (l : Message) → Orderly w → Orderly (posted w l)
  posted_ok w l ok = record { lawful = ok.lawful; right = ok.right; grown = ok.grown; asked = ok.asked }

  pub answered_ok : (w : World) (ok : Orderly w) (h clock : ℕ) (i : Input) → InBounds (w.hosts h).now.config clock i → Orderly (answered w h clock i)
  answered_ok w ok h clock i bounds =
      let after = performed w ok h clock (w.hosts h).now.config i (right_now w ok h) bounds in
      let s : Stage = step_stage w h clock (w.hosts h).now.config i in
      let now : AskedRight (stepped w h clock i) (answer_now w h clock i) = ((w.hosts h).now, pushed_up w h s h (length (w.hosts h).before) (w.hosts h).now (now_at w h), bounds) in
      record { lawful = after.lawful; right = after.right; grown = after.grown; asked = λ j a e. first_or j a now after.asked e }
    where
      first_or : (j : ℕ) (a : Answer) → AskedRight (stepped w h clock i) (answer_now w h clock i) → ((n : ℕ) (x : Answer) → slice_get w.answers n ≡ Some x → AskedRight (stepped w h clock i) x) →
          slice_get (answer_now w h clock i ∷ w.answers) j ≡ Some a → AskedRight (stepped w h clock i) a
      first_or zero a now before e = let is : answer_now w h clock i ≡ a = cc in subst (λ x. AskedRight (stepped w h clock i) x) is now
      first_or (suc j) a now before e = before j a e

  -- what may happen happens under a right configuration
  pub cause_right : (w : World) → Orderly w → (h clock : ℕ) (cause : Cause) → CauseInBounds w h clock cause → Right w.names h (config_by w h cause)
  cause_right w ok h clock (ByOpening c) bounds = bounds.1
  cause_right w ok h clock cause bounds = right_now w ok h

pub start_ok : (names : ℕ → List ℕ) (configs : ℕ → Config) → ((h : ℕ) → Right names h (configs h)) → Orderly (start names configs)
start_ok names configs known = record {
  lawful = λ h. aged_all (λ s. Lawful h s.book) (record { config = configs h; book = empty_book }) [] (empty_lawful h) (λ i s e. cc);
  right = λ h. aged_all (λ s. Right names h s.config) (record { config = configs h; book = empty_book }) [] (known h) (λ i s e. cc);
  grown = λ h i j s t le e f. only h s t (one h i s e) (one h j t f);
  asked = λ j a e. cc;
}
  where
    first_stage : ℕ → Stage
    first_stage h = record { config = configs h; book = empty_book }

    one : (h i : ℕ) (s : Stage) → aged (first_stage h ∷ []) i ≡ Some s → first_stage h ≡ s
    one h i s e = elim (aged_cases (first_stage h) [] i s e) [ inl a ↦ a.1 | inr a ↦ cc ]

    only : (h : ℕ) (s t : Stage) → first_stage h ≡ s → first_stage h ≡ t → Grown s.book t.book
    only h s t e f = subst (λ x. Grown x.book t.book) e (subst (λ x. Grown empty_book x.book) f (Grown-refl empty_book))
