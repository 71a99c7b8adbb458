-- Turns by tickets.
use Rattle.std.specs.Prelude.{◌≡◌, ◌≤◌, ◌<◌, ◌+◌, ◌^◌, ℕ, List, length}
use Rattle.host_gate.specs.declared.view.Mark.{Mark}
use Rattle.host_gate.specs.declared.view.View.{View}
use Rattle.host_gate.specs.Stages.{next_ticket, served_ticket, At, HasTicket, HasTurn}

module _ {K : Type 0} where
  pub record TurnRule (words : List ℕ) (views : List (View K)) : Type 0 where
    pub count : length words ≡ 3
    pub order : served_ticket words ≤ next_ticket words
    pub bound : next_ticket words ≤ 2 ^ 63 + 1
    -- what was read as the next ticket was once the next
    pub read : (i : ℕ) (v : View K) → At views i v → v.read ≤ next_ticket words
    -- a ticket that is out waits to be served, or is
    pub out : (i : ℕ) (v : View K) (t : ℕ) → At views i v → HasTicket v.stage t → (served_ticket words ≤ t) × (t < next_ticket words)
    -- who has its turn has the ticket that is served
    pub turn : (i : ℕ) (v : View K) (t : ℕ) (m : Mark K) → At views i v → HasTurn v.stage t m → t ≡ served_ticket words
    -- no two seats have one ticket, so at most one has its turn
    pub apart : (i j : ℕ) (v w : View K) (t : ℕ) → At views i v → At views j w → HasTicket v.stage t → HasTicket w.stage t → i ≡ j
