-- Each change leaves a row evolved.
use Rattle.std.proofs.Common.{◌≡◌, ℕ, zero, suc, Bool, true, false, List, [], ◌∷◌, Option, Some, slice_get, refl, subst}
use Rattle.ps_time.specs.Span.{Span}
use Rattle.archive_retry.specs.declared.state.ArchiveState.{ArchiveState}
use Rattle.run_states.specs.declared.answer.Other.{Other}
use Rattle.run_states.specs.declared.answer.FreeAnswer.{FreeAnswer}
use Rattle.run_states.specs.declared.row.RunRow.{RunRow}
use Rattle.run_states.specs.declared.row.Ending.{Ending}
use Rattle.run_states.specs.declared.why.Closing.{Closing}
use Rattle.run_states.specs.Life.{confirm_row, start_row, end_row, close_row}
use Rattle.run_states.specs.declared.answer.Told.{Told}
use Rattle.run_states.specs.declared.answer.Told.TheVariants.{Confirm, Cancel, Material}
use Rattle.run_states.specs.Effect.{accept_row, change_at, change_other, confirmed_if, material_row, merge_row, or_else, tried_row, with_acceptance, with_free, with_result, with_told}
use Rattle.run_states.specs.Preemption.{planned_span}
use Rattle.host_model.specs.declared.task_row.TaskRow.{TaskRow}
use Rattle.host_model.specs.declared.change.Change.{Change}
use Rattle.host_model.specs.declared.change.Change.TheVariants.{Planned, Confirmed, Closed, Started, Ended, FreeHeard, AcceptHeard, Told as told_there, MaterialHeard, ResultHeard, Merged, Tried}
use Rattle.host_model.specs.Grown.{AllEvolve, OtherEvolves, ArchiveEvolves, Evolves}
use Rattle.host_model.specs.Effect.{archives_of, effect, states_due}
use Rattle.host_model.proofs.Evolve.{Remains-refl, first_keeps, AllEvolve-refl, OtherEvolves-refl, ArchiveEvolves-refl, Evolves-refl, Evolves-trans}

others_same : (os : List Other) → AllEvolve OtherEvolves os os
others_same os = AllEvolve-refl OtherEvolves OtherEvolves-refl os

archives_same : (ss : List ArchiveState) → AllEvolve ArchiveEvolves ss ss
archives_same ss = AllEvolve-refl ArchiveEvolves ArchiveEvolves-refl ss

-- ---- lists
change_at_evolves : {A : Type 0} (E : A → A → Type 0) → ((x : A) → E x x) → (f : A → A) → (i : ℕ) (xs : List A) → ((x : A) → slice_get xs i ≡ Some x → E x (f x)) → AllEvolve E xs (change_at f i xs)
change_at_evolves E same f i [] up j x e = cc
change_at_evolves E same f zero (y ∷ ys) up zero x e = (f y, refl, subst (λ z. E z (f y)) (let is : y ≡ x = cc in is) (up y refl))
change_at_evolves E same f zero (y ∷ ys) up (suc j) x e = (x, e, same x)
change_at_evolves E same f (suc i) (y ∷ ys) up zero x e = (x, e, same x)
change_at_evolves E same f (suc i) (y ∷ ys) up (suc j) x e = change_at_evolves E same f i ys up j x e

or_else_evolves : (xs ys : List ArchiveState) → AllEvolve ArchiveEvolves xs (or_else xs ys)
or_else_evolves [] ys j x e = cc
or_else_evolves (x ∷ xs) ys j y e = archives_same (x ∷ xs) j y e

-- ---- one step of a row's life each
confirm_evolves : (m : ℕ) (r : RunRow) → Evolves r (confirm_row m r)
confirm_evolves m r = search (first_keeps, Remains-refl, others_same, archives_same)

start_evolves : (m : ℕ) (r : RunRow) → Evolves r (start_row m r)
start_evolves m r = search (first_keeps, Remains-refl, others_same, archives_same)

end_evolves : (e : Ending) (r : RunRow) → Evolves r (end_row e r)
end_evolves e r = search (first_keeps, Remains-refl, others_same, archives_same)

pub close_evolves : (c : Closing) (r : RunRow) → Evolves r (close_row c r)
close_evolves c r = search (first_keeps, Remains-refl, others_same, archives_same)

accept_evolves : (m : ℕ) (s : Span) (tool : List ℕ) (r : RunRow) → Evolves r (accept_row m s tool r)
accept_evolves m s tool r = search (first_keeps, Remains-refl, others_same, archives_same)

material_evolves : (m : ℕ) (r : RunRow) → Evolves r (material_row m r)
material_evolves m r = search (first_keeps, Remains-refl, others_same, archives_same)

merge_evolves : (states : List ArchiveState) (body : List ℕ) (r : RunRow) → Evolves r (merge_row states body r)
merge_evolves states body r = search (first_keeps, Remains-refl, others_same, or_else_evolves)

confirmed_if_evolves : (test : Bool) (m : ℕ) (r : RunRow) → Evolves r (confirmed_if test m r)
confirmed_if_evolves true m r = confirm_evolves m r
confirmed_if_evolves false m r = Evolves-refl r

-- ---- what is known of another participant
with_others : (r : RunRow) (os : List Other) → AllEvolve OtherEvolves r.others os → Evolves r (record r { others = os })
with_others r os up = record {
  key = refl;
  test = refl;
  priority = refl;
  participants = refl;
  asker = refl;
  tool = Remains-refl r.tool;
  interval = Remains-refl r.interval;
  accepted = Remains-refl r.accepted;
  confirmed = Remains-refl r.confirmed;
  started = Remains-refl r.started;
  ended = Remains-refl r.ended;
  material = Remains-refl r.material;
  closed = Remains-refl r.closed;
  question = Remains-refl r.question;
  asked = Remains-refl r.asked;
  others = up;
  merged = Remains-refl r.merged;
  archives = archives_same r.archives;
}

other_evolves : (f : Other → Other) → ((o : Other) → OtherEvolves o (f o)) → (place : ℕ) (r : RunRow) → Evolves r (change_other f place r)
other_evolves f up zero r = Evolves-refl r
other_evolves f up (suc i) r = with_others r (change_at f i r.others) (change_at_evolves OtherEvolves OtherEvolves-refl f i r.others (λ o e. up o))

free_up : (a : FreeAnswer) (o : Other) → OtherEvolves o (with_free a o)
free_up a o = record { free = first_keeps o.free (Some a); accepted = λ e. e; confirm_told = λ e. e; cancel_told = λ e. e; material_told = λ e. e; heard = Remains-refl o.heard }

acceptance_up : (o : Other) → OtherEvolves o (with_acceptance o)
acceptance_up o = record { free = Remains-refl o.free; accepted = λ e. refl; confirm_told = λ e. e; cancel_told = λ e. e; material_told = λ e. e; heard = Remains-refl o.heard }

told_up : (t : Told) (o : Other) → OtherEvolves o (with_told t o)
told_up Confirm o = record { free = Remains-refl o.free; accepted = λ e. e; confirm_told = λ e. refl; cancel_told = λ e. e; material_told = λ e. e; heard = Remains-refl o.heard }
told_up Cancel o = record { free = Remains-refl o.free; accepted = λ e. e; confirm_told = λ e. e; cancel_told = λ e. refl; material_told = λ e. e; heard = Remains-refl o.heard }
told_up Material o = record { free = Remains-refl o.free; accepted = λ e. e; confirm_told = λ e. e; cancel_told = λ e. e; material_told = λ e. refl; heard = Remains-refl o.heard }

result_up : (t : Option (List ℕ)) (o : Other) → OtherEvolves o (with_result t o)
result_up t o = record { free = Remains-refl o.free; accepted = λ e. e; confirm_told = λ e. e; cancel_told = λ e. e; material_told = λ e. e; heard = first_keeps o.heard (Some t) }

-- ---- every change
-- an attempt at an archive goes on from its state
abbrev pub GoesOn : Change → RunRow → Type 0
GoesOn (Tried k index state) r = (old : ArchiveState) → slice_get r.archives index ≡ Some old → ArchiveEvolves old state
GoesOn c r = Unit {0}

tried_evolves : (index : ℕ) (s : ArchiveState) (r : RunRow) → ((old : ArchiveState) → slice_get r.archives index ≡ Some old → ArchiveEvolves old s) → Evolves r (tried_row index s r)
tried_evolves index s r up = record {
  key = refl;
  test = refl;
  priority = refl;
  participants = refl;
  asker = refl;
  tool = Remains-refl r.tool;
  interval = Remains-refl r.interval;
  accepted = Remains-refl r.accepted;
  confirmed = Remains-refl r.confirmed;
  started = Remains-refl r.started;
  ended = Remains-refl r.ended;
  material = Remains-refl r.material;
  closed = Remains-refl r.closed;
  question = Remains-refl r.question;
  asked = Remains-refl r.asked;
  others = others_same r.others;
  merged = Remains-refl r.merged;
  archives = change_at_evolves ArchiveEvolves ArchiveEvolves-refl (λ before. s) index r.archives up;
}

pub effect_evolves : (m : ℕ) (tasks : List TaskRow) (c : Change) (r : RunRow) → GoesOn c r → Evolves r (effect m tasks c r)
effect_evolves m tasks (Planned k start tool epoch) r on = Evolves-trans r (accept_row m (planned_span start r) tool r) _ (accept_evolves m (planned_span start r) tool r) (confirmed_if_evolves _ m (accept_row m (planned_span start r) tool r))
effect_evolves m tasks (Confirmed k) r on = confirm_evolves m r
effect_evolves m tasks (Closed k why) r on = close_evolves _ r
effect_evolves m tasks (Started k) r on = start_evolves m r
effect_evolves m tasks (Ended k good body) r on = end_evolves _ r
effect_evolves m tasks (FreeHeard k place answer) r on = other_evolves (with_free answer) (free_up answer) place r
effect_evolves m tasks (AcceptHeard k place) r on = Evolves-trans r (change_other with_acceptance place r) _ (other_evolves with_acceptance acceptance_up place r) (confirmed_if_evolves _ m (change_other with_acceptance place r))
effect_evolves m tasks (told_there k place told) r on = other_evolves (with_told told) (told_up told) place r
effect_evolves m tasks (MaterialHeard k) r on = material_evolves m r
effect_evolves m tasks (ResultHeard k place result) r on = other_evolves (with_result result) (result_up result) place r
effect_evolves m tasks (Merged k body) r on = merge_evolves (states_due m (archives_of tasks k)) body r
effect_evolves m tasks (Tried k index state) r on = tried_evolves index state r on
effect_evolves m tasks c r on = Evolves-refl r
