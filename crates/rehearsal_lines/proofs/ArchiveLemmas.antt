-- An attempt that was made: what the host is told of it, and what its line does then.
use Rattle.std.specs.Prelude.{IfSome, codes, if◌then◌else◌}
use Rattle.std.proofs.Common.{◌≡◌, ◌∙◌, ℕ, Bool, List, [], None, ap, Option, Some, false, refl, subst, sym, true}
use Rattle.host_model.specs.declared.input.Input.{Input}
use Rattle.host_model.specs.declared.input.Input.TheVariants as input
use Rattle.host_model.specs.declared.lead.Due.{Due}
use Rattle.host_model.specs.declared.view.Page.TheVariants as page
use Rattle.rehearsal_script.specs.declared.script.ScriptHost.{ScriptHost}
use Rattle.rehearsal_report.specs.Line.{archive_text}
use Rattle.rehearsal_model.specs.Moves.{Move, Outcomes, trying}
use Rattle.rehearsal_model.specs.Plays.{MayArchive, MayTry}
use Rattle.rehearsal_model.specs.Simulations.Action.{Does}
use Rattle.rehearsal_model.specs.Simulations.{Simulation, at_last, outcome_at, looks, simulation_archived, simulation_after, simulation_looked, simulation_tried, held_at, try_at}
use Rattle.rehearsal_model.specs.Telling.{archive_said, outcome_said, disk_fault, due_said, tried_said}
use Rattle.rehearsal_state.specs.Moved.{with_step}
use Rattle.rehearsal_state.proofs.MoveLemmas.{asked}
use Rattle.rehearsal_lines.specs.Archiving.{tried_by}

-- ---- its move
pub trying_some : (comes : Outcomes) (place clock : ℕ) (o : Option Due) (i : Input) → Some i ≡ tried_by comes o → Move.Tries place clock i ≡ trying comes place clock o
trying_some comes place clock None i is = absurd cc
trying_some comes place clock (Some d) i is = cc

-- ---- what is told of it
pub told_some : (comes : Outcomes) (b : Simulation) (place clock : ℕ) (o : Option Due) (i : Input) → Some i ≡ tried_by comes o → outcome_said (outcome_at b place clock i) disk_fault archive_text ≡ due_said comes b place clock o
told_some comes b place clock None i is = absurd cc
told_some comes b place clock (Some d) i is = cc

pub told_none : (comes : Outcomes) (b : Simulation) (place clock : ℕ) (o : Option Due) → None ≡ tried_by comes o → codes "nothing due" ≡ due_said comes b place clock o
told_none comes b place clock None is = refl
told_none comes b place clock (Some d) is = absurd cc

-- ---- a host that knows what stands, or finds it out first
at_last_so : (m : ℕ) (x y : Simulation) → x ≡ y → at_last m x ≡ at_last m y
at_last_so m x y same = ap (at_last m) same

module _ (comes : Outcomes) (hosts : List ScriptHost) (b : Simulation) (place clock : ℕ) where
  abbrev looking : Input
  looking = input.View page.Home

  abbrev later : Simulation
  later = simulation_looked hosts b place clock

  abbrev told_by : Bool → Bool → List ℕ
  told_by ready finds = if ready then tried_said comes b place clock else (if finds then tried_said comes later place clock else outcome_said (outcome_at b place clock looking) disk_fault (λ reply. []))

  abbrev left_by : Bool → Bool → Simulation
  left_by ready finds = if ready then simulation_tried comes hosts b place clock else (if finds then simulation_tried comes hosts later place clock else later)

  module _ (sure : (held_at b place).ready ≡ true) where
    pub tells_sure : tried_said comes b place clock ≡ archive_said comes hosts b place clock
    tells_sure = sym (ap (λ (t : Bool). told_by t (looks b place clock)) sure)

    leaves_sure : simulation_tried comes hosts b place clock ≡ simulation_archived comes hosts b place clock
    leaves_sure = sym (ap (λ (t : Bool). left_by t (looks b place clock)) sure)

    pub left_sure : (now : Simulation) → now ≡ simulation_after hosts b (try_at comes b place clock) → at_last clock now ≡ simulation_archived comes hosts b place clock
    left_sure now is = at_last_so clock now (simulation_after hosts b (try_at comes b place clock)) is ∙ leaves_sure

    pub may_sure : MayTry comes b place clock → MayArchive comes hosts b place clock
    may_sure may = (λ e. may, λ e f. absurd (let both : true ≡ false = sym sure ∙ e in cc))

  module _ (unsure : (held_at b place).ready ≡ false) (finds : Bool) (is : looks b place clock ≡ finds) where
    tells_unsure : told_by false finds ≡ archive_said comes hosts b place clock
    tells_unsure = sym (ap (λ (t : Bool). told_by t (looks b place clock)) unsure ∙ ap (told_by false) is)

    leaves_unsure : left_by false finds ≡ simulation_archived comes hosts b place clock
    leaves_unsure = sym (ap (λ (t : Bool). left_by t (looks b place clock)) unsure ∙ ap (left_by false) is)

  -- once it looked
  pub later_so : (now next : Simulation) → now ≡ with_step b place clock looking → next ≡ at_last clock now → next ≡ later
  later_so now next is then_is = then_is ∙ at_last_so clock now (simulation_after hosts b (Does (Move.Asks place clock looking))) (is ∙ asked hosts b place clock looking)

  module _ (unsure : (held_at b place).ready ≡ false) where
    module _ (finds : looks b place clock ≡ true) where
      pub tells_found : tried_said comes later place clock ≡ archive_said comes hosts b place clock
      tells_found = tells_unsure unsure true finds

      leaves_found : simulation_tried comes hosts later place clock ≡ simulation_archived comes hosts b place clock
      leaves_found = leaves_unsure unsure true finds

      pub left_found : (next now : Simulation) → next ≡ later → now ≡ simulation_after hosts next (try_at comes next place clock) → at_last clock now ≡ simulation_archived comes hosts b place clock
      left_found next now is made =
          let there : now ≡ simulation_after hosts later (try_at comes later place clock) = made ∙ ap (λ (x : Simulation). simulation_after hosts x (try_at comes x place clock)) is in
          at_last_so clock now (simulation_after hosts later (try_at comes later place clock)) there ∙ leaves_found

      pub may_found : (next : Simulation) → next ≡ later → MayTry comes next place clock → MayArchive comes hosts b place clock
      may_found next is tries = by (subst (λ (x : Simulation). MayTry comes x place clock) is tries)
        where
          by : MayTry comes later place clock → MayArchive comes hosts b place clock
          by may = (λ e. absurd (let both : true ≡ false = sym e ∙ unsure in cc), λ e f. may)

    module _ (lost : looks b place clock ≡ false) where
      pub tells_lost : outcome_said (outcome_at b place clock looking) disk_fault (λ reply. []) ≡ archive_said comes hosts b place clock
      tells_lost = tells_unsure unsure false lost

      leaves_lost : later ≡ simulation_archived comes hosts b place clock
      leaves_lost = leaves_unsure unsure false lost

      pub left_lost : (now : Simulation) → now ≡ with_step b place clock looking → at_last clock now ≡ simulation_archived comes hosts b place clock
      left_lost now is = later_so now (at_last clock now) is refl ∙ leaves_lost

      pub may_lost : MayArchive comes hosts b place clock
      may_lost = (λ e. absurd (let both : true ≡ false = sym e ∙ unsure in cc), λ e f. absurd (let both : true ≡ false = sym f ∙ lost in cc))

-- ---- what holds of the input of an attempt that was made
pub of_some : {A : Type 0} (P : A → Type 0) (o : Option A) (x : A) → o ≡ Some x → IfSome o P → P x
of_some P None x is all = absurd cc
of_some P (Some y) x is all = let same : y ≡ x = cc in subst P same all
