-- The calls that disks tell, and where a run of them met a fault.
use Rattle.std.specs.Prelude.{◌≡◌, ◌⊎◌, ℕ, List, [], ◌∷◌, ◌++◌, Option, IfSome, Some}
use Rattle.ps_ports.specs.Causes.{Rose}
use Rattle.ps_disks.specs.declared.disk.DiskCall.{DiskCall}
use Rattle.ps_disks.specs.declared.disk.DiskCall.TheVariants.{Sync}

-- where the disk tells its calls it told those before, and then these
abbrev pub TellsAll : Option (List DiskCall) → Option (List DiskCall) → List DiskCall → Type 0
TellsAll old now made = IfSome now (λ calls. (before : List DiskCall) × (old ≡ Some before) × (calls ≡ before ++ made))

module _ {D : Type 0} (tells : D → Option (List DiskCall)) (faults : D → ℕ) (goes : D → D → Type 0) where
  -- the disk made these, and none of its calls failed
  pub record MakesAll (old new : D) (made : List DiskCall) : Type 0 where
    pub told : TellsAll (tells old) (tells new) made
    pub no_fault : faults new ≡ faults old
    pub calls_advance : goes old new

  -- The first of these, up to the one that failed: those before it were made without a fault.
  pub record TellsFirst (old new : D) (calls : List DiskCall) : Type 0 where
    pub made : List DiskCall
    pub failed : DiskCall
    pub rest : List DiskCall
    pub split : calls ≡ made ++ failed ∷ rest
    -- before the call that failed
    pub mid : D
    pub before : MakesAll old mid made
    pub told : TellsAll (tells mid) (tells new) (failed ∷ [])
    pub rose : Rose (faults mid) (faults new)
    pub calls_advance : goes mid new

  -- all of the first run, and of the second some, up to the one that failed
  pub record TellsBoth (old new : D) (all some : List DiskCall) : Type 0 where
    pub mid : D
    pub before : MakesAll old mid all
    pub first : TellsFirst mid new some

  -- One of two disks was synced without a fault. Then the sync of the other failed, or a read of one of them behind it.
  pub record TellsSecond (one other one_new other_new : D) : Type 0 where
    pub mid : D
    pub before : MakesAll one mid (Sync ∷ [])
    pub still : tells one_new ≡ tells mid
    pub told : TellsAll (tells other) (tells other_new) (Sync ∷ [])
    pub rose : Rose (faults mid) (faults one_new) ⊎ Rose (faults other) (faults other_new)
    pub calls_advance_one : goes mid one_new
    pub calls_advance_other : goes other other_new

  -- Of two disks one is synced, and then the other. A fault was met at the first, of which nothing is told but its sync, or behind it.
  abbrev pub TellsSyncs : D → D → D → D → Type 0
  TellsSyncs one other one_new other_new = (TellsFirst one one_new (Sync ∷ []) × (other_new ≡ other)) ⊎ TellsSecond one other one_new other_new
