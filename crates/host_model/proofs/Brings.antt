-- What a change brings, beside what it names: where it can be applied and this is lawful, it suits a book.
use Rattle.std.specs.Ordering.{is_eq}
use Rattle.std.specs.Prelude.{IfSome, IsNone, IsSome, MatchOption}
use Rattle.std.proofs.Common.{◌≡◌, ◌≤◌, ◌<◌, ℕ, true, List, [], ◌∷◌, length, slice_get, Option, Some, None, refl, subst, ap, ◌∙◌}
use Rattle.ps_time.specs.Key.{key_cmp}
use Rattle.ps_time.specs.Numbers.{greatest_moment, most_rows, most_tasks}
use Rattle.ps_time.specs.declared.key.RunKey.{RunKey}
use Rattle.plugin_tool.specs.Choice.{tool_of_text}
use Rattle.archive_retry.specs.Bounds.{IsStateOf}
use Rattle.archive_retry.specs.Merge.{IsResult, IsResultText, IsTreeText}
use Rattle.limit_apply.specs.Read.{IsKept}
use Rattle.run_states.specs.Conflict.{in_conflict}
use Rattle.run_states.specs.LawfulRow.{IsDueInTime, IsFreeAnswer, IsWhy}
use Rattle.run_states.specs.Rows.{find_row}
use Rattle.run_states.specs.declared.row.RunRow.{RunRow}
use Rattle.task_spec.specs.declared.task.Archive.{Archive}
use Rattle.host_model.specs.Apply.{apply, new_pair}
use Rattle.host_model.specs.Book.{Book}
use Rattle.host_model.specs.Effect.{archives_of, change_key, has_key}
use Rattle.host_model.specs.Lawful.{IsLawfulTask, Lawful}
use Rattle.host_model.specs.MayFollow.{CanApply, WithRow}
use Rattle.host_model.specs.NewRow.{new_row}
use Rattle.host_model.specs.Preemption.{incoming}
use Rattle.host_model.specs.declared.change.Change.{Change}
use Rattle.host_model.specs.declared.change.Change.TheVariants.{Posted, Accepted, Asked, Planned, Confirmed, Closed, Started, Ended, FreeHeard, MaterialHeard, ResultHeard, Merged, Tried, LimitsSet}
use Rattle.host_model.proofs.HostRows.{Suits}
use Rattle.host_model.proofs.Keyed.{key_is}
use Rattle.host_model.proofs.LawfulBook.{SuitsBook, SuitsLawful}
use Rattle.host_model.proofs.LawfulTasks.{SuitsEpochs, SuitsTasks}
use Rattle.host_model.proofs.NewRows.{CanAccept, CanAsk, SuitsNew}
use Rattle.host_model.proofs.WalkLemmas.{AllAlong}

-- what gives way to a run that is accepted isn't started
abbrev pub IsWayUnstarted : List RunRow → Change → Type 0
IsWayUnstarted rows c = (r : RunRow) → find_row rows r.key ≡ Some r → IfSome (incoming rows c) (λ i. in_conflict i.key i.class i.interval r ≡ true → IsNone r.started)

-- a run is accepted under limits that were set, or under none, and what gives way to it isn't started
pub record BringsRun (b : Book) (c : Change) (epoch : ℕ) : Type 0 where
  pub known : epoch ≤ length b.epochs
  pub way : IsWayUnstarted b.rows c

-- there is a place for one more row
abbrev pub HasRoom : Book → Type 0
HasRoom b = length b.rows < most_rows

-- what a change at m brings is lawful, and there is place for it
abbrev pub Brings : ℕ → ℕ → Book → Change → Type 0
Brings self m b (Posted t) = IsLawfulTask m t × (length b.tasks < most_tasks)
Brings self m b (Accepted p participants epoch) = CanAccept self p participants × HasRoom b × BringsRun b (Accepted p participants epoch) epoch
Brings self m b (Asked q participants asker) = CanAsk self b.tasks q participants × HasRoom b
Brings self m b (Planned k start tool epoch) = IsSome (tool_of_text tool) × (start ≤ greatest_moment) × BringsRun b (Planned k start tool epoch) epoch
Brings self m b (Closed k why) = IsWhy why
Brings self m b (Ended k good body) = IsResultText body
Brings self m b (FreeHeard k place answer) = IsFreeAnswer answer
Brings self m b (MaterialHeard k) = WithRow b k (λ r. IsSome r.started)
Brings self m b (ResultHeard k place result) = IsResult result
Brings self m b (Merged k body) = IsTreeText body × (k.lead ≡ self) × WithRow b k (λ r. IsSome r.ended)
Brings self m b (Tried k index state) = IsDueInTime state × ((a : Archive) → slice_get (archives_of b.tasks k) index ≡ Some a → IsStateOf a.policy state)
Brings self m b (LimitsSet l) = IsKept l
Brings self m b c = Unit {0}

module _ (self m : ℕ) (b : Book) where
  -- what holds of the row of a key holds of the row that is found with it
  with_found : (k : RunKey) (P : RunRow → Type 0) → WithRow b k P → (r : RunRow) → find_row b.rows r.key ≡ Some r → is_eq (key_cmp r.key k) ≡ true → P r
  with_found k P there r at own = go (find_row b.rows k) refl there
    where
      go : (o : Option RunRow) → find_row b.rows k ≡ o → MatchOption o ⊥ P → P r
      go None e none = absurd none
      go (Some q) e here =
          let found : find_row b.rows k ≡ Some r = subst (λ j. find_row b.rows j ≡ Some r) (key_is r.key k own) at in
          let same : q ≡ r = cc in
          subst P same here

  own_suits : (c : Change) → CanApply b c → Brings self m b c → (r : RunRow) → find_row b.rows r.key ≡ Some r → has_key r.key (change_key c) ≡ true → Suits self b.tasks c r
  own_suits (Planned k start tool epoch) can brings r at own = let free = with_found k _ can r at own in (free.0, free.1, brings.0, brings.1)
  own_suits (Confirmed k) can brings r at own = with_found k _ can r at own
  own_suits (Closed k why) can brings r at own = (with_found k _ can r at own, brings)
  own_suits (Started k) can brings r at own = with_found k _ can r at own
  own_suits (Ended k good body) can brings r at own = (with_found k _ can r at own, brings)
  own_suits (FreeHeard k place answer) can brings r at own = brings
  own_suits (MaterialHeard k) can brings r at own = with_found k _ brings r at own
  own_suits (ResultHeard k place result) can brings r at own = brings
  own_suits (Merged k body) can brings r at own = (brings.0, with_found k _ brings.2 r at own, ap (λ j. j.lead) (key_is r.key k own) ∙ brings.1)
  own_suits (Tried k index state) can brings r at own =
      (brings.0, λ a e. brings.1 a (subst (λ j. slice_get (archives_of b.tasks j) index ≡ Some a) (key_is r.key k own) e))
  own_suits c can brings r at own = tt

  way_suits : (c : Change) → Brings self m b c → IsWayUnstarted b.rows c
  way_suits (Accepted p participants epoch) brings = brings.2.way
  way_suits (Planned k start tool epoch) brings = brings.2.way
  way_suits c brings = λ r at. tt

  new_suits : (c : Change) → Brings self m b c → SuitsNew self b.tasks c
  new_suits (Accepted p participants epoch) brings = brings.0
  new_suits (Asked q participants asker) brings = brings.0
  new_suits c brings = tt

  tasks_suit : (c : Change) → CanApply b c → Brings self m b c → SuitsTasks m b.tasks c
  tasks_suit (Posted t) can brings = record { lawful = brings.0; serial = can; room = brings.1 }
  tasks_suit c can brings = tt

  epochs_suit : (c : Change) → Brings self m b c → SuitsEpochs c
  epochs_suit (LimitsSet l) brings = brings
  epochs_suit c brings = tt

  pair_suits : (c : Change) → Brings self m b c → IfSome (new_pair c) (λ p. p.1 ≤ length b.epochs)
  pair_suits (Accepted p participants epoch) brings = brings.2.known
  pair_suits (Planned k start tool epoch) brings = brings.2.known
  pair_suits c brings = tt

  room_suits : (c : Change) → Brings self m b c → IfSome (new_row m c) (λ r. length b.rows < most_rows)
  room_suits (Accepted p participants epoch) brings = brings.1
  room_suits (Asked q participants asker) brings = brings.1
  room_suits c brings = tt

  -- what can be applied and brings what is lawful suits the book
  pub brings_suits : (c : Change) → CanApply b c → Brings self m b c → SuitsBook self m b c
  brings_suits c can brings = record {
    can = can;
    rows = record { own = own_suits c can brings; way = way_suits c brings; new = new_suits c brings };
    tasks = tasks_suit c can brings;
    epochs = epochs_suit c brings;
    known = pair_suits c brings;
    room = room_suits c brings;
  }

-- ---- changes in a row
-- where the book is lawful and stands at m
abbrev pub BringsLawful : ℕ → ℕ → Book → Change → Type 0
BringsLawful self m b c = b.moment ≡ m → Lawful self b → Brings self m b c

-- where each can be applied and brings what is lawful, each suits
pub suits_along : (self m : ℕ) (cs : List Change) (b : Book) → AllAlong (λ a c. a.moment ≡ m → Lawful self a → CanApply a c) m b cs → AllAlong (BringsLawful self m) m b cs → AllAlong (SuitsLawful self m) m b cs
suits_along self m [] b can brings = tt
suits_along self m (c ∷ cs) b can brings =
    (λ at lawful. brings_suits self m b c (can.0 at lawful) (brings.0 at lawful), suits_along self m cs (apply m c b) can.1 brings.1)
