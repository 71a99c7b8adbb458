-- What each fact does to a row. What is set once stays: `first_there` keeps it.
use Rattle.std.specs.List.{list_all}
use Rattle.std.specs.Prelude.{◌&&◌, ◌==◌, ◌∷◌, Bool, List, Option, Some, [], false, if◌then◌else◌, length, suc, true, zero, ℕ}
use Rattle.ps_time.specs.Span.{Span}
use Rattle.archive_retry.specs.declared.state.ArchiveState.{ArchiveState}
use Rattle.run_states.specs.Life.{confirm_row, first_there, is_booked}
use Rattle.run_states.specs.declared.answer.Answer.{Answer}
use Rattle.run_states.specs.declared.answer.Answer.TheVariants.{Free, Accepted, Acknowledged, Result}
use Rattle.run_states.specs.declared.answer.FreeAnswer.{FreeAnswer}
use Rattle.run_states.specs.declared.answer.Other.{Other}
use Rattle.run_states.specs.declared.answer.Told.{Told}
use Rattle.run_states.specs.declared.answer.Told.TheVariants.{Confirm, Cancel, Material}
use Rattle.run_states.specs.declared.fact.Fact.{Fact}
use Rattle.run_states.specs.declared.fact.Fact.TheVariants.{Planned, Answered, MaterialHeard, Merged, Tried}
use Rattle.run_states.specs.declared.row.RunRow.{RunRow}

-- f of the item at a place
abbrev pub change_at : {A : Type 0} → (A → A) → ℕ → List A → List A
change_at f i [] = []
change_at f zero (x ∷ xs) = f x ∷ xs
change_at f (suc i) (x ∷ xs) = x ∷ change_at f i xs

-- f of what is known of the participant at a place; the lead's is 0
abbrev pub change_other : (Other → Other) → ℕ → RunRow → RunRow
change_other f zero r = r
change_other f (suc i) r = record r { others = change_at f i r.others }

-- ---- acceptance and confirmation
abbrev pub accept_row : ℕ → Span → List ℕ → RunRow → RunRow
accept_row m interval tool r = record r { tool = first_there r.tool (Some tool); interval = first_there r.interval (Some interval); accepted = first_there r.accepted (Some m) }

-- the lead is the only participant
abbrev pub is_alone : RunRow → Bool
is_alone r = length r.participants == 1

-- every other participant has accepted
abbrev pub is_complete : RunRow → Bool
is_complete r = list_all (λ o. o.accepted) r.others

-- confirmed at m where the test holds
abbrev pub confirmed_if : Bool → ℕ → RunRow → RunRow
confirmed_if test m r = if test then confirm_row m r else r

-- confirmed at m where it is booked and the lead is alone
abbrev pub confirmed_alone : ℕ → RunRow → RunRow
confirmed_alone m r = confirmed_if (is_booked r && is_alone r) m r

-- confirmed at m where it is booked and every other participant has accepted
abbrev pub confirmed_complete : ℕ → RunRow → RunRow
confirmed_complete m r = confirmed_if (is_booked r && is_complete r) m r

-- ---- what is heard of another participant
-- when it is free
abbrev pub with_free : FreeAnswer → Other → Other
with_free answer o = record o { free = first_there o.free (Some answer) }

-- it has accepted
abbrev pub with_acceptance : Other → Other
with_acceptance o = record o { accepted = true }

-- it has acknowledged what it was told
abbrev pub with_told : Told → Other → Other
with_told Confirm o = record o { confirm_told = true }
with_told Cancel o = record o { cancel_told = true }
with_told Material o = record o { material_told = true }

-- its result, or that it has none
abbrev pub with_result : Option (List ℕ) → Other → Other
with_result result o = record o { heard = first_there o.heard (Some result) }

-- what it answered
abbrev pub with_answer : Answer → Other → Other
with_answer (Free answer) o = with_free answer o
with_answer Accepted o = with_acceptance o
with_answer (Acknowledged told) o = with_told told o
with_answer (Result result) o = with_result result o

abbrev pub is_acceptance : Answer → Bool
is_acceptance Accepted = true
is_acceptance _ = false

-- an acceptance confirms where none is missing any more
abbrev pub confirmed_by : Answer → ℕ → RunRow → RunRow
confirmed_by answer m r = if is_acceptance answer then confirmed_complete m r else r

-- ---- material, merging and archives
-- the material came at m
abbrev pub material_row : ℕ → RunRow → RunRow
material_row m r = record r { material = first_there r.material (Some m) }

-- what stands, unless that is nothing
abbrev pub or_else : {A : Type 0} → List A → List A → List A
or_else [] ys = ys
or_else (x ∷ xs) ys = x ∷ xs

-- merged into this text, with one state for each archive of the run's task
abbrev pub merge_row : List ArchiveState → List ℕ → RunRow → RunRow
merge_row states body r = record r { merged = first_there r.merged (Some body); archives = or_else r.archives states }

-- the state of one archive is this from now on
abbrev pub tried_row : ℕ → ArchiveState → RunRow → RunRow
tried_row index state r = record r { archives = change_at (λ before. state) index r.archives }

-- ---- the row once it has the fact, which came at m
abbrev pub noted_row : Fact → ℕ → RunRow → RunRow
noted_row (Planned tool interval) m r = confirmed_alone m (accept_row m interval tool r)
noted_row (Answered place answer) m r = confirmed_by answer m (change_other (with_answer answer) place r)
noted_row MaterialHeard m r = material_row m r
noted_row (Merged body states) m r = merge_row states body r
noted_row (Tried index state) m r = tried_row index state r
