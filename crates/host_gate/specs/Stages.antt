-- The words of a gate's table, and where a seat stands in a call.
use Rattle.std.specs.Prelude.{◌≡◌, ℕ, List, slice_index, Some, None}
use mathlib.Core.Option.{some}
use lib.ListN.{get_elem?}
use Rattle.host_gate.specs.declared.view.Mark.{Mark}
use Rattle.host_gate.specs.declared.view.Stage.{Stage}
use Rattle.host_gate.specs.declared.view.Stage.TheVariants.{Outside, Waits, Holds, Leaves}
use Rattle.host_gate.specs.declared.view.View.{View}

abbrev pub next_ticket : List ℕ → ℕ
next_ticket words = slice_index words 0

abbrev pub served_ticket : List ℕ → ℕ
served_ticket words = slice_index words 1

-- how many steps changed the state
abbrev pub changes : List ℕ → ℕ
changes words = slice_index words 2

module _ {K : Type 0} where
  -- what the first seat knows
  abbrev pub first_view : K → View K
  first_view x = record { read = 0; stage = Outside; seen = Some (record { state = x; front = 0 }); met = None }

  -- the seat of this number has this view
  abbrev pub At : List (View K) → ℕ → View K → Type 0
  At views i v = get_elem? views i ≡ some v

  -- this ticket is out with the seat
  abbrev pub HasTicket : Stage K → ℕ → Type 0
  HasTicket Outside t = ⊥
  HasTicket (Waits n) t = n ≡ t
  HasTicket (Holds n m) t = n ≡ t
  HasTicket (Leaves n m) t = n ≡ t

  -- the seat has its turn with this ticket, and the state behind the gate is this one
  abbrev pub HasTurn : Stage K → ℕ → Mark K → Type 0
  HasTurn (Holds n m) t x = (n ≡ t) × (m ≡ x)
  HasTurn (Leaves n m) t x = (n ≡ t) × (m ≡ x)
  HasTurn _ t x = ⊥
