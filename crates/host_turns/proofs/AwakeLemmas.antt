-- The asks of a turn, one awake task after another.
use Rattle.std.proofs.Common.{◌≡◌, ◌∙◌, ◌∷◌, [], ℕ, Bool, true, false, cond, List, filter, map, option_and_then, refl, ap, sym}
use Rattle.run_states.specs.declared.row.RunRow.{RunRow}
use Rattle.host_model.specs.Book.{find_task}
use Rattle.host_model.specs.Draft.{Draft, make}
use Rattle.host_model.specs.NextAttempt.{ask}
use Rattle.host_model.specs.declared.config.Config.{Config}
use Rattle.host_model.specs.declared.task_row.TaskRow.{TaskRow}
use Rattle.live_law.specs.Waking.{is_awake, make_asked}
use Rattle.host_draft.specs.Draft.{Seen, with_draft}
use Rattle.host_turns.specs.Awake.{awake_among}

module _ (c : Config) (self : ℕ) where
  -- ---- one step
  split : (m : ℕ) (rows : List RunRow) (t : TaskRow) (rest : List TaskRow) (d : Draft)
      → make_asked c m (awake_among self rows m (t ∷ rest)) d ≡ make_asked c m (awake_among self rows m rest) (make_asked c m (awake_among self rows m (t ∷ [])) d)
  split m rows t rest d = go (is_awake self rows m t)
    where
      others : List TaskRow
      others = filter (is_awake self rows m) rest

      go : (b : Bool) → make_asked c m (map (λ x. x.serial) (cond b (t ∷ others) others)) d ≡ make_asked c m (map (λ x. x.serial) others) (make_asked c m (map (λ x. x.serial) (cond b (t ∷ []) [])) d)
      go true = refl
      go false = refl

  pub awake_step : (m : ℕ) (rows : List RunRow) (tasks rest : List TaskRow) (task : TaskRow) (s t : Seen) → tasks ≡ task ∷ rest → s.draft.book.moment ≡ m
      → t ≡ with_draft (make_asked c s.draft.book.moment (awake_among self rows s.draft.book.moment (task ∷ [])) s.draft) s
      → with_draft (make_asked c m (awake_among self rows m tasks) s.draft) s ≡ with_draft (make_asked c m (awake_among self rows m rest) t.draft) t
  awake_step m rows tasks rest task s t are at is =
      ap (λ ts. with_draft (make_asked c m (awake_among self rows m ts) s.draft) s) are
      ∙ (ap (λ d. with_draft d s) (split m rows task rest s.draft)
      ∙ (ap (λ n. with_draft (make_asked c m (awake_among self rows m rest) (make_asked c n (awake_among self rows n (task ∷ [])) s.draft)) s) (sym at)
      ∙ ap (λ x. with_draft (make_asked c m (awake_among self rows m rest) x.draft) x) (sym is)))

  -- ---- a task that is awake is asked about, another one isn't
  module _ (rows : List RunRow) (task : TaskRow) (s : Seen) where
    abbrev moment : ℕ
    moment = s.draft.book.moment

    tested : (n : ℕ) (b : Bool) → n ≡ moment → b ≡ is_awake self rows n task → is_awake self rows moment task ≡ b
    tested n b at is = ap (λ x. is_awake self rows x task) (sym at) ∙ sym is

    pub asked_awake : (t : Seen) (n : ℕ) (b : Bool) → n ≡ moment → b ≡ is_awake self rows n task → b ≡ true
        → t ≡ with_draft (make moment (option_and_then (ask c moment s.draft.book) (find_task s.draft.book.tasks task.serial)) s.draft) s
        → t ≡ with_draft (make_asked c moment (awake_among self rows moment (task ∷ [])) s.draft) s
    asked_awake t n b at is holds made = made ∙ ap (λ x. with_draft (make_asked c moment (map (λ y. y.serial) (cond x (task ∷ []) [])) s.draft) s) (sym (tested n b at is ∙ holds))

    pub asleep_left : (n : ℕ) (b : Bool) → n ≡ moment → b ≡ is_awake self rows n task → b ≡ false → s ≡ with_draft (make_asked c moment (awake_among self rows moment (task ∷ [])) s.draft) s
    asleep_left n b at is fails = ap (λ x. with_draft (make_asked c moment (map (λ y. y.serial) (cond x (task ∷ []) [])) s.draft) s) (sym (tested n b at is ∙ fails))
