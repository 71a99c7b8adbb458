-- The state behind a gate, and what the seats have seen of it.
use Rattle.std.specs.Prelude.{◌≡◌, ◌≤◌, ◌+◌, ℕ, List, [], ◌∷◌, Option, Some}
use mathlib.Core.Option.{some, none}
use mathlib.Core.Option as maybe
use Rattle.host_gate.specs.declared.view.Mark.{Mark}
use Rattle.host_gate.specs.declared.view.Stage.{Stage}
use Rattle.host_gate.specs.declared.view.Stage.TheVariants.{Leaves}
use Rattle.host_gate.specs.declared.view.View.{View}
use Rattle.host_gate.specs.Stages.{served_ticket, changes, At, HasTurn}
use Rattle.host_gate.specs.Marks.{Follows, HasSeen}
use Rattle.host_gate.specs.Turns.{TurnRule}

module _ {K : Type 0} where
  -- 1 where the step of this turn is counted
  abbrev pub counted : Stage K → ℕ
  counted (Leaves t m) = 1
  counted _ = 0

  abbrev pub NobodyServed : List (View K) → Type 0
  NobodyServed views = (i : ℕ) (v : View K) (t : ℕ) (m : Mark K) → At views i v → HasTurn v.stage t m → ⊥

module _ {K : Type 0} (grown : K → K → Type 0) where
  pub record LineRule (words : List ℕ) (homes : List (maybe.Option (Option K))) (views : List (View K)) : Type 0 where
    -- the state behind the gate, with its front
    pub latest : Mark K
    pub count : changes words ≡ latest.front
    -- while nobody has its turn, the state is at home
    pub home : NobodyServed views → (homes ≡ some (Some latest.state) ∷ []) × (changes words ≤ served_ticket words)
    -- else it is out, and whoever has its turn knows it
    pub out : (i : ℕ) (v : View K) (t : ℕ) (m : Mark K) → At views i v → HasTurn v.stage t m
        → (homes ≡ none ∷ []) × (m ≡ latest) × (changes words ≤ served_ticket words + counted v.stage)
    -- the state follows all that was seen
    pub seen : (i : ℕ) (v : View K) (m : Mark K) → At views i v → HasSeen v m → Follows grown m latest
    -- what was seen is in line by its fronts
    pub line : (i j : ℕ) (v w : View K) (m n : Mark K) → At views i v → At views j w → HasSeen v m → HasSeen w n → m.front ≤ n.front → Follows grown m n

  pub record GateRule (words : List ℕ) (homes : List (maybe.Option (Option K))) (views : List (View K)) : Type 0 where
    pub turns : TurnRule words views
    pub state : LineRule words homes views
