-- A book stays orderly through each change that brings what is.
use Rattle.std.specs.Ordering.{is_eq}
use Rattle.std.specs.Prelude.{◌==◌, All, IfSome, IsSome}
use Rattle.std.proofs.Common.{◌≡◌, ◌∙◌, ◌∷◌, [], Bool, List, None, Option, Some, cond, false, is_some, map, not, refl, subst, suc, sym, true, zero, ℕ}
use Rattle.std.proofs.lemmas.List.Elements.{All-filter, All-map, All-nil, All-push, All-weaker}
use Rattle.ps_time.specs.Key.{key_cmp}
use Rattle.ps_time.specs.declared.key.RunKey.{RunKey}
use Rattle.run_states.specs.Conflict.{in_conflict}
use Rattle.run_states.specs.Effect.{accept_row, change_other, confirmed_if, with_acceptance, with_free, with_result, with_told}
use Rattle.run_states.specs.Life.{close_row, closed_by, first_there, lapse_of, settled_row, settled_rows}
use Rattle.run_states.specs.Preemption.{Incoming, give_way, planned_span}
use Rattle.run_states.specs.Rows.{find_row, put_row}
use Rattle.run_states.specs.declared.answer.Other.{Other}
use Rattle.run_states.specs.declared.row.RunRow.{RunRow}
use Rattle.run_states.specs.declared.why.Closing.{Closing}
use Rattle.host_model.specs.Apply.{apply, apply_all, book_after, close_task, purged_key, put_new, rows_after, settled, tasks_after, without_row}
use Rattle.host_model.specs.Book.{Book, empty_book}
use Rattle.host_model.specs.Effect.{change_key, effect, has_key}
use Rattle.host_model.specs.NewRow.{new_row}
use Rattle.host_model.specs.Preemption.{incoming}
use Rattle.host_model.specs.declared.change.Change.{Change}
use Rattle.host_model.specs.declared.change.Change.TheVariants.{Posted, TaskClosed, Accepted, Asked, Planned, Confirmed, Closed, Started, Ended, FreeHeard, AcceptHeard, Told as told_there, MaterialHeard, ResultHeard, Merged, Tried}
use Rattle.host_model.specs.declared.task_row.TaskRow.{TaskRow}
use Rattle.host_model.proofs.KeyedLists.{All-put}
use Rattle.host_model.proofs.Standing.{changed_row}
use Rattle.host_model.proofs.WalkLemmas.{AllAlong}
use Rattle.api_peer.specs.Orderly.{IsAskedHere, IsOrderly, IsOrderlyRow, IsWithinDay}

-- ---- a row keeps who asked for it, when it was asked about, and its question
pub record SameOrigin (r s : RunRow) : Type 0 where
  pub asker : s.asker ≡ r.asker
  pub asked : s.asked ≡ r.asked
  pub question : s.question ≡ r.question

same_origin : (r : RunRow) → SameOrigin r r
same_origin r = record { asker = refl; asked = refl; question = refl }

origin_on : (r s t : RunRow) → SameOrigin r s → SameOrigin s t → SameOrigin r t
origin_on r s t one other = record { asker = other.asker ∙ one.asker; asked = other.asked ∙ one.asked; question = other.question ∙ one.question }

origin_either : (b : Bool) (r s t : RunRow) → SameOrigin r s → SameOrigin r t → SameOrigin r (cond b s t)
origin_either true r s t one other = one
origin_either false r s t one other = other

close_origin : (c : Closing) (r : RunRow) → SameOrigin r (close_row c r)
close_origin c r = record { asker = refl; asked = refl; question = refl }

confirmed_origin : (t : Bool) (m : ℕ) (r s : RunRow) → SameOrigin r s → SameOrigin r (confirmed_if t m s)
confirmed_origin true m r s same = record { asker = same.asker; asked = same.asked; question = same.question }
confirmed_origin false m r s same = same

other_origin : (f : Other → Other) (place : ℕ) (r : RunRow) → SameOrigin r (change_other f place r)
other_origin f zero r = same_origin r
other_origin f (suc i) r = record { asker = refl; asked = refl; question = refl }

effect_origin : (m : ℕ) (tasks : List TaskRow) (c : Change) (r : RunRow) → SameOrigin r (effect m tasks c r)
effect_origin m tasks (Planned k start tool epoch) r = confirmed_origin _ m r (accept_row m (planned_span start r) tool r) (record { asker = refl; asked = refl; question = refl })
effect_origin m tasks (Confirmed k) r = record { asker = refl; asked = refl; question = refl }
effect_origin m tasks (Closed k why) r = close_origin _ r
effect_origin m tasks (Started k) r = record { asker = refl; asked = refl; question = refl }
effect_origin m tasks (Ended k good body) r = record { asker = refl; asked = refl; question = refl }
effect_origin m tasks (FreeHeard k place answer) r = other_origin (with_free answer) place r
effect_origin m tasks (AcceptHeard k place) r = confirmed_origin _ m r (change_other with_acceptance place r) (other_origin with_acceptance place r)
effect_origin m tasks (told_there k place told) r = other_origin (with_told told) place r
effect_origin m tasks (MaterialHeard k) r = record { asker = refl; asked = refl; question = refl }
effect_origin m tasks (ResultHeard k place result) r = other_origin (with_result result) place r
effect_origin m tasks (Merged k body) r = record { asker = refl; asked = refl; question = refl }
effect_origin m tasks (Tried k index state) r = record { asker = refl; asked = refl; question = refl }
effect_origin m tasks c r = same_origin r

way_origin : (m : ℕ) (o : Option Incoming) (r : RunRow) → SameOrigin r (give_way m o r)
way_origin m None r = same_origin r
way_origin m (Some i) r = origin_either (in_conflict i.key i.class i.interval r) r _ r (close_origin _ r) (same_origin r)

changed_origin : (m : ℕ) (tasks : List TaskRow) (c : Change) (rows : List RunRow) (r : RunRow) → SameOrigin r (changed_row m tasks c rows r)
changed_origin m tasks c rows r =
    let way : RunRow = give_way m (incoming rows c) r in
    origin_on r way (changed_row m tasks c rows r) (way_origin m (incoming rows c) r)
    (origin_either (has_key way.key (change_key c)) way (effect m tasks c way) way (effect_origin m tasks c way) (same_origin way))

closed_origin : (o : Option Closing) (r : RunRow) → SameOrigin r (closed_by o r)
closed_origin None r = same_origin r
closed_origin (Some c) r = close_origin c r

-- ---- what a change brings
-- what is posted or asked about is asked for here, and asked about for a day at most
abbrev pub BringsOrderly : List ℕ → Change → Type 0
BringsOrderly name (Posted t) = IsAskedHere name t.asker
BringsOrderly name (Asked q participants asker) = IsAskedHere name asker × IsWithinDay q.window
BringsOrderly name c = Unit {0}

-- in an orderly book: what is to be shown of each change of a step
abbrev pub KeepsOrderly : List ℕ → Book → Change → Type 0
KeepsOrderly name b c = IsOrderly name b → BringsOrderly name c

module _ (name : List ℕ) where
  -- ---- rows
  row_orderly : (r s : RunRow) → SameOrigin r s → IsOrderlyRow name r → IsOrderlyRow name s
  row_orderly r s same own asked =
      let was = own (subst (λ o. IsSome o) same.asked asked) in
      record { asker = subst (IsAskedHere name) (sym same.asker) was.asker; question = subst (λ o. IfSome o IsWithinDay) (sym same.question) was.question }

  mapped_orderly : (f : RunRow → RunRow) → ((r : RunRow) → SameOrigin r (f r)) → (rows : List RunRow) → All (IsOrderlyRow name) rows → All (IsOrderlyRow name) (map f rows)
  mapped_orderly f same rows all =
      All-map (IsOrderlyRow name) f rows (All-weaker (IsOrderlyRow name) (λ r. IsOrderlyRow name (f r)) (λ r own. row_orderly r (f r) (same r) own) rows all)

  new_orderly : (m : ℕ) (c : Change) → BringsOrderly name c → IfSome (new_row m c) (IsOrderlyRow name)
  new_orderly m (Accepted p participants epoch) brings = λ asked. cc
  new_orderly m (Asked q participants asker) brings = λ asked. record { asker = brings.0; question = brings.1 }
  new_orderly m c brings = tt

  put_orderly : (o : Option RunRow) (rows : List RunRow) → IfSome o (IsOrderlyRow name) → All (IsOrderlyRow name) rows → All (IsOrderlyRow name) (put_new o rows)
  put_orderly None rows new all = all
  put_orderly (Some n) rows new all = go (is_some (find_row rows n.key))
    where
      go : (t : Bool) → All (IsOrderlyRow name) (cond t rows (put_row rows n))
      go true = all
      go false = All-put (λ r. r.key) (IsOrderlyRow name) n rows new all

  without_orderly : (o : Option RunKey) (rows : List RunRow) → All (IsOrderlyRow name) rows → All (IsOrderlyRow name) (without_row o rows)
  without_orderly None rows all = all
  without_orderly (Some k) rows all = All-filter (λ r. not (is_eq (key_cmp r.key k))) (IsOrderlyRow name) rows all

  rows_orderly : (m : ℕ) (tasks : List TaskRow) (c : Change) (rows : List RunRow) → BringsOrderly name c → All (IsOrderlyRow name) rows → All (IsOrderlyRow name) (rows_after m tasks c rows)
  rows_orderly m tasks c rows brings all =
      let changed : List RunRow = map (changed_row m tasks c rows) rows in
      without_orderly (purged_key c) (put_new (new_row m c) changed)
      (put_orderly (new_row m c) changed (new_orderly m c brings) (mapped_orderly (changed_row m tasks c rows) (changed_origin m tasks c rows) rows all))

  -- ---- tasks
  abbrev IsOwnTask : TaskRow → Type 0
  IsOwnTask t = IsAskedHere name t.asker

  closed_task : (m serial : ℕ) (t : TaskRow) → IsOwnTask t → IsOwnTask (close_task m serial t)
  closed_task m serial t own = elim (t.serial == serial) as (λ b. IsOwnTask (cond b (record t { closed = first_there t.closed (Some m) }) t)) [ true ↦ own | false ↦ own ]

  tasks_orderly : (m : ℕ) (c : Change) (tasks : List TaskRow) → BringsOrderly name c → All IsOwnTask tasks → All IsOwnTask (tasks_after m c tasks)
  tasks_orderly m (Posted t) tasks brings all = All-push IsOwnTask tasks t all brings
  tasks_orderly m (TaskClosed serial) tasks brings all =
      All-map IsOwnTask (close_task m serial) tasks (All-weaker IsOwnTask (λ t. IsOwnTask (close_task m serial t)) (λ t own. closed_task m serial t own) tasks all)
  tasks_orderly m c tasks brings all = all

  -- ---- books
  pub empty_orderly : IsOrderly name empty_book
  empty_orderly = record { tasks = All-nil IsOwnTask; rows = All-nil (IsOrderlyRow name) }

  pub settled_rows_orderly : (m : ℕ) (rows : List RunRow) → All (IsOrderlyRow name) rows → All (IsOrderlyRow name) (settled_rows m rows)
  settled_rows_orderly m rows all = mapped_orderly (settled_row m) (λ r. closed_origin (lapse_of m r) r) rows all

  all_orderly : (m : ℕ) (cs : List Change) (b : Book) → IsOrderly name b → AllAlong (KeepsOrderly name) m b cs → IsOrderly name (apply_all m cs b)
  all_orderly m [] b own all = own
  all_orderly m (c ∷ cs) b own all =
      let brings : BringsOrderly name c = all.0 own in
      all_orderly m cs (apply m c b) (record { tasks = tasks_orderly m c b.tasks brings own.tasks; rows = rows_orderly m b.tasks c b.rows brings own.rows }) all.1

  -- a step: with no change the book stays
  pub after_orderly : (b : Book) (m : ℕ) (cs : List Change) → IsOrderly name b → AllAlong (KeepsOrderly name) m (settled m b) cs → IsOrderly name (book_after b (record { moment = m; list = cs }))
  after_orderly b m [] own all = own
  after_orderly b m (c ∷ cs) own all = all_orderly m (c ∷ cs) (settled m b) (record { tasks = own.tasks; rows = settled_rows_orderly m b.rows own.rows }) all
