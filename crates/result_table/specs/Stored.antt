-- What a list of attempts to archive stores.
use Rattle.std.specs.Prelude.{◌≡◌, ℕ, Bool, true, false, List, [], ◌∷◌, map, filter, if◌then◌else◌, Some, codes}
use Rattle.std.specs.Ordering.{is_eq}
use Rattle.ps_time.specs.Key.{key_cmp}
use Rattle.ps_time.specs.declared.key.RunKey.{RunKey}
use Rattle.ps_doors.specs.declared.archiver.Tried.{Tried}
use Rattle.ps_doors.specs.declared.archiver.Tried.TheVariants.{Succeeded, Failed, Memory}
use Rattle.result_table.specs.Record.{says_good, put_record}
use Rattle.result_table.specs.Upsert.{occurring}
use Rattle.result_table.specs.declared.record.Record.{Record}

-- an attempt: whose result it was to deliver, when, the result, and what came of it
pub record Delivery : Type 0 where
  pub key : RunKey
  pub moment : ℕ
  pub body : List ℕ
  pub outcome : Tried

abbrev pub has_succeeded : Tried → Bool
has_succeeded Succeeded = true
has_succeeded (Failed error retry) = false
has_succeeded Memory = false

-- the attempts that succeeded
abbrev pub succeeded : List Delivery → List Delivery
succeeded attempts = filter (λ a. has_succeeded a.outcome) attempts

-- those of a key
abbrev pub attempts_of : RunKey → List Delivery → List Delivery
attempts_of key attempts = filter (λ a. is_eq (key_cmp key a.key)) attempts

-- the last one, behind the first
abbrev pub last_behind : Delivery → List Delivery → Delivery
last_behind first [] = first
last_behind first (next ∷ more) = last_behind next more

-- the moment of the first, and the moment and body of the last
abbrev pub record_from : RunKey → Delivery → Delivery → Record
record_from key first last = record { key = key; since = first.moment; latest = last.moment; good = says_good last.body; body = last.body }

abbrev pub record_of : RunKey → List Delivery → Record
record_of key [] = record { key = key; since = 0; latest = 0; good = false; body = [] }
record_of key (first ∷ more) = record_from key first (last_behind first more)

-- for each key that was ever delivered, by key, its record
abbrev pub stored : List Delivery → List Record
stored attempts = map (λ key. record_of key (attempts_of key (succeeded attempts))) (occurring key_cmp (map (λ a. a.key) (succeeded attempts)))

-- what an attempt at a store answers: where it fails, the error is `store`, and it is to be tried again in 60 seconds
abbrev pub IsStoreOutcome : Tried → Type 0
IsStoreOutcome Succeeded = Unit {0}
IsStoreOutcome (Failed error retry) = (error ≡ codes "store") × (retry ≡ Some 60)
IsStoreOutcome Memory = Unit {0}

-- a table after one attempt more
abbrev pub after_delivery : List Record → Delivery → List Record
after_delivery table a = if has_succeeded a.outcome then put_record table a.key a.moment a.body else table
