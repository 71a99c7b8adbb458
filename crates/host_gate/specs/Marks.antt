-- States in line, each with its front: the count of changes that led to it.
use Rattle.std.specs.Prelude.{◌≡◌, ◌≤◌, ◌⊎◌, ℕ, Bool, true, false, Option, Some}
use Rattle.host_gate.specs.declared.view.Mark.{Mark}
use Rattle.host_gate.specs.declared.view.View.{View}

-- what a step adds to the front
abbrev pub added : Bool → ℕ
added true = 1
added false = 0

module _ {K : Type 0} (grown : K → K → Type 0) where
  -- the second has grown from the first, and is the same where nothing changed between them
  pub record Follows (m n : Mark K) : Type 0 where
    pub front : m.front ≤ n.front
    pub grows : grown m.state n.state
    pub same : m.front ≡ n.front → m.state ≡ n.state

  -- of what two have seen one is kept, which follows both
  pub record Meets (mine theirs kept : Option (Mark K)) : Type 0 where
    pub first : Mark K
    pub second : Mark K
    pub last : Mark K
    pub first_is : mine ≡ Some first
    pub second_is : theirs ≡ Some second
    pub last_is : kept ≡ Some last
    pub one : (last ≡ first) ⊎ (last ≡ second)
    pub follows_first : Follows first last
    pub follows_second : Follows second last

module _ {K : Type 0} where
  -- the seat has seen it, or a seat has that went into this one
  abbrev pub HasSeen : View K → Mark K → Type 0
  HasSeen v m = (v.seen ≡ Some m) ⊎ (v.met ≡ Some m)

  -- what was seen has this front
  abbrev pub HasFront : Option (Mark K) → ℕ → Type 0
  HasFront seen n = (m : Mark K) × (seen ≡ Some m) × (m.front ≡ n)
