-- What each step on the table tells.
use Rattle.std.specs.Prelude.{◌≡◌, ◌≢◌, ◌≤◌, ◌+◌, ◌^◌, ℕ, [], ◌∷◌, Option, Some, None}
use Rattle.atomic_table.specs.Table.{Me, Step, rest}
use Rattle.host_gate.specs.declared.view.Mark.{Mark}
use Rattle.host_gate.specs.declared.view.Stage.TheVariants.{Outside, Waits, Holds, Leaves}
use Rattle.host_gate.specs.declared.view.View.{View}
use Rattle.host_gate.specs.Stages.{HasTicket}
use Rattle.host_gate.specs.Marks.{Follows, Meets}

abbrev pub Sat : Type 0 → Type 0
Sat K = Me (Option K) (View K)

abbrev Of : Type 0 → Type 0
Of K = Step (Option K)

module _ {K : Type 0} where
  abbrev pub mark : K → ℕ → Mark K
  mark x n = record { state = x; front = n }

  -- the view once the state y is counted at the front n
  abbrev pub leaving : View K → ℕ → K → ℕ → View K
  leaving v t y n = record v { stage = Leaves t (mark y n); seen = Some (mark y n) }

  -- the next ticket was read, which is no less than the one read before
  abbrev pub read : Of K → Sat K → ℕ → Sat K → Type 0
  read st me n after = (me.0.read ≤ n) × (after ≡ (record me.0 { read = n }, me.1))

  -- the ticket was drawn where it was the next one
  abbrev pub drawn : Of K → Sat K → ℕ → Sat K → Type 0
  drawn st me n after = (n ≡ st.first → after ≡ (record me.0 { stage = Waits n }, me.1)) × (n ≢ st.first → after ≡ me)

  -- the step was counted, at the front that was found
  abbrev pub counts : Of K → Sat K → ℕ → Sat K → Type 0
  counts st me n after = (t : ℕ) (m : Mark K) (y : K) → me.0.stage ≡ Holds t m → me.1 ≡ (0, Some y) ∷ [] → (n ≡ m.front) × (n ≤ 2 ^ 63 + 1) × (after ≡ (leaving me.0 t y (n + st.first), me.1))

  -- the state went home
  abbrev pub ended : Of K → Sat K → ℕ → Sat K → Type 0
  ended st me n after = after ≡ (record me.0 { stage = Outside }, rest me.1)

module _ {K : Type 0} (grown : K → K → Type 0) where
  -- the seat has its turn with the ticket t, and takes the state, which follows what it had seen
  abbrev pub TakesTurn : ℕ → Sat K → Sat K → Type 0
  TakesTurn t me after = (m : Mark K) × (after ≡ (record me.0 { stage = Holds t m }, (0, Some m.state) ∷ me.1)) × ((x : Mark K) → me.0.seen ≡ Some x → Follows grown x m)

  -- the seat has its turn where its ticket is served
  abbrev pub served : Of K → Sat K → ℕ → Sat K → Type 0
  served st me n after = (HasTicket me.0.stage n → TakesTurn n me after) × (¬ HasTicket me.0.stage n → after ≡ me)

  -- of what the seat had seen and what it met, the later is kept
  abbrev pub compared : Of K → Sat K → ℕ → Sat K → Type 0
  compared st me n after = Meets grown me.0.seen me.0.met after.0.seen × (after ≡ (record me.0 { seen = after.0.seen; met = None }, me.1))
