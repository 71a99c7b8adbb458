-- What a line does.
use Rattle.std.proofs.Common.{◌≡◌, ◌∙◌, ◌++◌, List, ap, refl, subst, sym, ℕ, ℤ}
use Rattle.ps_time.specs.declared.class.Class.{Class}
use Rattle.host_model.specs.declared.input.Input.{Input}
use Rattle.host_model.specs.declared.input.Input.TheVariants as input
use Rattle.rehearsal_script.specs.declared.script.ScriptHost.{ScriptHost}
use Rattle.rehearsal_script.specs.declared.script.ScriptLine.{ScriptLine}
use Rattle.rehearsal_script.specs.declared.script.ScriptLine.TheVariants as line
use Rattle.rehearsal_model.specs.Moves.{Move, Outcomes, moment_of_line}
use Rattle.rehearsal_model.specs.Plays.{MayArchive, MayLine}
use Rattle.rehearsal_report.specs.Line.{booking_text, line_text}
use Rattle.rehearsal_model.specs.Simulations.Action.{Does}
use Rattle.rehearsal_model.specs.Simulations.{Simulation, at_last, outcome_at, action_of, simulation_archived, simulation_after, simulation_line}
use Rattle.rehearsal_model.specs.Telling.{archive_said, outcome_said, line_said, unavailable}

-- ---- what is there afterwards, at the moment of the line
module _ (comes : Outcomes) (hosts : List ScriptHost) (b : Simulation) where
  plainly : (l : ScriptLine) → ((at host : ℕ) → l ≡ line.Archive at host → ⊥) → at_last (moment_of_line l) (simulation_after hosts b (action_of comes b l)) ≡ simulation_line comes hosts b l
  plainly (line.Archive at host) other = absurd (other at host refl)
  plainly (line.Host place) other = refl
  plainly (line.Tools host tools) other = refl
  plainly (line.Limits host limits) other = refl
  plainly (line.Book at host class priority start len) other = refl
  plainly (line.Post at host address body) other = refl
  plainly (line.Get at host path) other = refl
  plainly (line.Delete at host address path) other = refl
  plainly (line.Turn at host) other = refl
  plainly (line.Crash at host stop) other = refl
  plainly (line.Fail at host call) other = refl
  plainly (line.Deliver at n) other = refl
  plainly (line.Repeat at n) other = refl
  plainly (line.Lose n) other = refl

  module _ (l : ScriptLine) (now next : Simulation) (next_is : next ≡ at_last (moment_of_line l) now) where
    pub line_done : ((at host : ℕ) → l ≡ line.Archive at host → ⊥) → now ≡ simulation_after hosts b (action_of comes b l) → next ≡ simulation_line comes hosts b l
    line_done other done =
        let then_is : next ≡ at_last (moment_of_line l) (simulation_after hosts b (action_of comes b l)) = next_is ∙ ap (λ (x : Simulation). at_last (moment_of_line l) x) done in
        then_is ∙ plainly l other

    -- one that has a host try an archive
    pub line_archived : (at host : ℕ) → l ≡ line.Archive at host → at_last at now ≡ simulation_archived comes hosts b host at → next ≡ simulation_line comes hosts b l
    line_archived at host is done =
        let then_is : next ≡ at_last at now = next_is ∙ ap (λ (x : ScriptLine). at_last (moment_of_line x) now) is in
        let line_is : simulation_archived comes hosts b host at ≡ simulation_line comes hosts b l = ap (simulation_line comes hosts b) (sym is) in
        then_is ∙ (done ∙ line_is)

  pub line_may : (l : ScriptLine) (at host : ℕ) → l ≡ line.Archive at host → MayArchive comes hosts b host at → MayLine comes hosts b l
  line_may l at host is may = subst (λ (x : ScriptLine). MayLine comes hosts b x) (sym is) may

  pub archive_told : (l : ScriptLine) (at host : ℕ) → l ≡ line.Archive at host → (old : List ℕ) (number : ℕ) → old ++ line_text number (archive_said comes hosts b host at) ≡ old ++ line_text number (line_said comes hosts b l)
  archive_told l at host is old number = ap (λ (x : ScriptLine). old ++ line_text number (line_said comes hosts b x)) (sym is)

  -- ---- a booking: what it does, and what it is told
  pub booking_done : (l : ScriptLine) (at host : ℕ) (class : Class) (priority : ℤ) (start len : ℕ) → l ≡ line.Book at host class priority start len
      → (i : Input) → i ≡ input.Book class priority start len → simulation_after hosts b (Does (Move.Asks host at i)) ≡ simulation_after hosts b (action_of comes b l)
  booking_done l at host class priority start len is i i_is = ap (λ (x : Input). simulation_after hosts b (Does (Move.Asks host at x))) i_is ∙ ap (λ (x : ScriptLine). simulation_after hosts b (action_of comes b x)) (sym is)

  pub booking_said : (l : ScriptLine) (at host : ℕ) (class : Class) (priority : ℤ) (start len : ℕ) → l ≡ line.Book at host class priority start len
      → (i : Input) → i ≡ input.Book class priority start len → outcome_said (outcome_at b host at i) unavailable booking_text ≡ line_said comes hosts b l
  booking_said l at host class priority start len is i i_is = ap (λ (x : Input). outcome_said (outcome_at b host at x) unavailable booking_text) i_is ∙ ap (line_said comes hosts b) (sym is)
