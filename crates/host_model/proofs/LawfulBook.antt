-- What a change asks of a lawful book, so that it leaves a lawful one; and what that gives for changes in a row.
use Rattle.std.specs.Ordering.{is_eq}
use Rattle.std.specs.Prelude.{IfSome}
use Rattle.std.proofs.Common.{◌≡◌, ◌≤◌, ◌<◌, ℕ, Bool, true, false, not, cond, List, [], ◌∷◌, length, map, Option, Some, None, is_some, refl, sym, subst, arith}
use Rattle.std.proofs.lemmas.List.{length-map}
use Rattle.std.proofs.lemmas.List.Elements.{All-nil}
use Rattle.std.proofs.lemmas.List.Filters.{length-filter_both}
use Rattle.ps_time.specs.Key.{key_cmp}
use Rattle.ps_time.specs.Numbers.{greatest_moment, most_rows}
use Rattle.ps_time.specs.declared.key.RunKey.{RunKey}
use Rattle.limit_apply.specs.Read.{IsKept}
use Rattle.run_states.specs.Rows.{find_row, put_row}
use Rattle.run_states.specs.declared.row.RunRow.{RunRow}
use Rattle.host_model.specs.Apply.{apply, apply_all, book_after, new_pair, purged_key, put_new, recorded, rows_after, settled, without_row}
use Rattle.host_model.specs.Book.{Book, empty_book}
use Rattle.host_model.specs.Lawful.{IsLawfulTask, Lawful}
use Rattle.host_model.specs.LawfulRow.{IsHostRow}
use Rattle.host_model.specs.MayFollow.{CanApply, CanApplyAll, MayFollow}
use Rattle.host_model.specs.NewRow.{new_row}
use Rattle.host_model.specs.declared.change.Change.{Change}
use Rattle.host_model.specs.declared.change.Changes.{Changes}
use Rattle.host_model.specs.declared.task_row.TaskRow.{TaskRow}
use Rattle.host_model.proofs.ClashLemmas.{rows_clash}
use Rattle.host_model.proofs.KeyedLists.{length-put}
use Rattle.host_model.proofs.LawfulRowsAfter.{SuitsRows, rows_host, rows_up}
use Rattle.host_model.proofs.LawfulTasks.{SuitsEpochs, SuitsTasks, epochs_lawful, serials_lawful, tasks_few, tasks_lawful}
use Rattle.host_model.proofs.Pairs.{pairs_lawful}
use Rattle.host_model.proofs.SettledBook.{book_settled}
use Rattle.host_model.proofs.Standing.{changed_row}
use Rattle.host_model.proofs.TasksAround.{rows_around}
use Rattle.host_model.proofs.WalkLemmas.{AllAlong}

-- what a change at m asks of a book of this moment
pub record SuitsBook (self m : ℕ) (b : Book) (c : Change) : Type 0 where
  -- what it names is there, and what it adds isn't
  pub can : CanApply b c
  pub rows : SuitsRows self b.tasks m b.rows c
  pub tasks : SuitsTasks m b.tasks c
  pub epochs : SuitsEpochs c
  -- what is accepted is so under limits that were set, or under none
  pub known : IfSome (new_pair c) (λ p. p.1 ≤ length b.epochs)
  -- there is a place where a row comes
  pub room : IfSome (new_row m c) (λ r. length b.rows < most_rows)

-- the same, where the book is lawful and stands at m: what is to be shown of each change of a step
abbrev pub SuitsLawful : ℕ → ℕ → Book → Change → Type 0
SuitsLawful self m b c = b.moment ≡ m → Lawful self b → SuitsBook self m b c

-- the empty book is lawful
pub empty_lawful : (self : ℕ) → Lawful self empty_book
empty_lawful self = record {
  moment = omega arith;
  epochs = All-nil IsKept;
  few_tasks = omega arith;
  serials = refl;
  tasks = All-nil (IsLawfulTask 0);
  few_rows = omega arith;
  ascending = tt;
  rows = All-nil (IsHostRow self [] 0);
  no_clash = λ j k r s a b apart e f booked other at there. cc;
  pairs = record { keys = refl; known = All-nil (λ p. p.1 ≤ 0) };
}

-- ---- how many rows
put_few : (o : Option RunRow) (rows : List RunRow) → IfSome o (λ r. length rows < most_rows) → length rows ≤ most_rows → length (put_new o rows) ≤ most_rows
put_few None rows room few = few
put_few (Some n) rows room few = go (is_some (find_row rows n.key))
  where
    go : (b : Bool) → length (cond b rows (put_row rows n)) ≤ most_rows
    go true = few
    go false = omega (arith, length-put (λ r. r.key) rows n, room)

without_few : (o : Option RunKey) (rows : List RunRow) → length rows ≤ most_rows → length (without_row o rows) ≤ most_rows
without_few None rows few = few
without_few (Some k) rows few =
    omega (arith, length-filter_both (λ r. not (is_eq (key_cmp r.key k))) (λ r. not (not (is_eq (key_cmp r.key k)))) (λ r. refl) rows, few)

room_mapped : (f : RunRow → RunRow) (rows : List RunRow) (o : Option RunRow) → IfSome o (λ r. length rows < most_rows) → IfSome o (λ r. length (map f rows) < most_rows)
room_mapped f rows None room = tt
room_mapped f rows (Some n) room = omega (arith, length-map rows f, room)

rows_few : (m : ℕ) (tasks : List TaskRow) (c : Change) (rows : List RunRow) → IfSome (new_row m c) (λ r. length rows < most_rows) → length rows ≤ most_rows → length (rows_after m tasks c rows) ≤ most_rows
rows_few m tasks c rows room few =
    let f : RunRow → RunRow = changed_row m tasks c rows in
    without_few (purged_key c) (put_new (new_row m c) (map f rows)) (put_few (new_row m c) (map f rows) (room_mapped f rows (new_row m c) room) (omega (arith, length-map rows f, few)))

-- ---- one change
apply_here : (self : ℕ) (b : Book) (c : Change) → Lawful self b → SuitsBook self b.moment b c → Lawful self (apply b.moment c b)
apply_here self b c lawful suits = record {
  moment = lawful.moment;
  epochs = epochs_lawful c b.epochs suits.epochs lawful.epochs;
  few_tasks = tasks_few b.moment c b.tasks suits.tasks lawful.few_tasks;
  serials = serials_lawful b.moment c b.tasks suits.tasks lawful.serials;
  tasks = tasks_lawful b.moment c b.tasks suits.tasks lawful.tasks;
  few_rows = rows_few b.moment b.tasks c b.rows suits.room lawful.few_rows;
  ascending = rows_up b.moment b.tasks c b.rows lawful.ascending;
  rows = rows_around self b.moment b.tasks b.moment c suits.tasks (rows_after b.moment b.tasks c b.rows) (rows_host self b.tasks b.moment b.rows c lawful.moment lawful.ascending suits.rows lawful.rows);
  no_clash = rows_clash b.moment b.tasks c b.rows lawful.no_clash;
  pairs = pairs_lawful b.moment c b lawful.ascending suits.can suits.known lawful.pairs;
}

-- a change that suits a lawful book leaves a lawful one
pub apply_lawful : (self m : ℕ) (b : Book) (c : Change) → b.moment ≡ m → Lawful self b → SuitsBook self m b c → Lawful self (apply m c b)
apply_lawful self m b c at lawful suits =
    subst (λ n. Lawful self (apply n c b)) at (apply_here self b c lawful (subst (λ n. SuitsBook self n b c) (sym at) suits))

-- ---- changes in a row
-- where each suits the book that the earlier ones left, each can be applied and leaves a lawful book
pub all_can_apply : (self m : ℕ) (cs : List Change) (b : Book) → b.moment ≡ m → Lawful self b → AllAlong (SuitsLawful self m) m b cs → CanApplyAll self m cs b
all_can_apply self m [] b at lawful all = tt
all_can_apply self m (c ∷ cs) b at lawful all =
    let suits : SuitsBook self m b c = all.0 at lawful in
    let after : Lawful self (apply m c b) = apply_lawful self m b c at lawful suits in
    (suits.can, after, all_can_apply self m cs (apply m c b) at after all.1)

-- so the record of them may follow the book
pub may_follow : (self : ℕ) (b : Book) (changes : Changes) → Lawful self b → b.moment ≤ changes.moment → changes.moment ≤ greatest_moment →
    AllAlong (SuitsLawful self changes.moment) changes.moment (settled changes.moment b) changes.list → MayFollow self b changes
may_follow self b changes lawful later within all = record {
  later = later;
  moment = within;
  each = all_can_apply self changes.moment changes.list (settled changes.moment b) refl (book_settled self b changes.moment later within lawful) all;
}

all_lawful : (self m : ℕ) (cs : List Change) (b : Book) → Lawful self b → CanApplyAll self m cs b → Lawful self (apply_all m cs b)
all_lawful self m [] b lawful can = lawful
all_lawful self m (c ∷ cs) b lawful can = all_lawful self m cs (apply m c b) can.1 can.2

-- a lawful book is lawful after a record that may follow it, and so after a step
pub recorded_lawful : (self : ℕ) (b : Book) (changes : Changes) → Lawful self b → MayFollow self b changes → Lawful self (recorded b changes)
recorded_lawful self b changes lawful may =
    all_lawful self changes.moment changes.list (settled changes.moment b) (book_settled self b changes.moment may.later may.moment lawful) may.each

pub after_lawful : (self : ℕ) (b : Book) (m : ℕ) (cs : List Change) → Lawful self b → MayFollow self b (record { moment = m; list = cs }) → Lawful self (book_after b (record { moment = m; list = cs }))
after_lawful self b m [] lawful may = lawful
after_lawful self b m (c ∷ cs) lawful may = recorded_lawful self b (record { moment = m; list = c ∷ cs }) lawful may
