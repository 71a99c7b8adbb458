-- The results of a book stay compact texts through each change that brings such a one.
use Rattle.std.specs.Ordering.{is_eq}
use Rattle.std.specs.Prelude.{All, IfSome}
use Rattle.std.proofs.Common.{◌≡◌, ◌∷◌, [], Bool, List, None, Option, Some, cond, false, is_some, map, not, refl, suc, true, zero, ℕ}
use Rattle.std.proofs.lemmas.List.Elements.{All-filter, All-map, All-nil, All-weaker}
use Rattle.ps_time.specs.Key.{key_cmp}
use Rattle.ps_time.specs.declared.key.RunKey.{RunKey}
use Rattle.run_states.specs.Conflict.{in_conflict}
use Rattle.run_states.specs.Effect.{change_other, confirmed_if, with_acceptance, with_free, with_result, with_told}
use Rattle.run_states.specs.Life.{closed_by, first_there, lapse_of, settled_row, settled_rows}
use Rattle.run_states.specs.Preemption.{Incoming, give_way}
use Rattle.run_states.specs.Rows.{find_row, put_row}
use Rattle.run_states.specs.declared.answer.Other.{Other}
use Rattle.run_states.specs.declared.row.Ending.{Ending}
use Rattle.run_states.specs.declared.row.RunRow.{RunRow}
use Rattle.run_states.specs.declared.why.Closing.{Closing}
use Rattle.host_model.specs.Apply.{apply, apply_all, book_after, purged_key, put_new, rows_after, settled, without_row}
use Rattle.host_model.specs.Book.{Book, empty_book}
use Rattle.host_model.specs.Effect.{change_key, effect, has_key}
use Rattle.host_model.specs.Lawful.{Lawful}
use Rattle.host_model.specs.NewRow.{new_row}
use Rattle.host_model.specs.Preemption.{incoming}
use Rattle.host_model.specs.declared.change.Change.{Change}
use Rattle.host_model.specs.declared.change.Change.TheVariants.{Accepted, Asked, Planned, Confirmed, Closed, Started, Ended, FreeHeard, AcceptHeard, Told as told_there, MaterialHeard, ResultHeard, Merged, Tried}
use Rattle.host_model.specs.declared.task_row.TaskRow.{TaskRow}
use Rattle.host_model.proofs.KeyedLists.{All-put}
use Rattle.host_model.proofs.LawfulBook.{SuitsLawful, apply_lawful}
use Rattle.host_model.proofs.Standing.{changed_row}
use Rattle.host_model.proofs.WalkLemmas.{AllAlong}
use Rattle.api_peer.specs.Replied.{IsResultTold}
use Rattle.api_peer.specs.Told.{AreTold, IsTold}

-- ---- what a change brings
abbrev pub BringsTold : Change → Type 0
BringsTold (Ended k good body) = IsResultTold body
BringsTold c = Unit {0}

-- in a lawful book that stands at m
abbrev pub KeepsTold : ℕ → ℕ → Book → Change → Type 0
KeepsTold self m b c = b.moment ≡ m → Lawful self b → BringsTold c

-- ---- a row
told_either : (b : Bool) (r s : RunRow) → IsTold r → IsTold s → IsTold (cond b r s)
told_either true r s one other = one
told_either false r s one other = other

confirmed_told : (t : Bool) (m : ℕ) (r : RunRow) → IsTold r → IsTold (confirmed_if t m r)
confirmed_told true m r is = is
confirmed_told false m r is = is

other_told : (f : Other → Other) (place : ℕ) (r : RunRow) → IsTold r → IsTold (change_other f place r)
other_told f zero r is = is
other_told f (suc i) r is = is

ended_told : (x : Ending) (o : Option Ending) → IsResultTold x.body → IfSome o (λ e. IsResultTold e.body) → IfSome (first_there o (Some x)) (λ e. IsResultTold e.body)
ended_told x None brings is = brings
ended_told x (Some y) brings is = is

effect_told : (m : ℕ) (tasks : List TaskRow) (c : Change) (r : RunRow) → BringsTold c → IsTold r → IsTold (effect m tasks c r)
effect_told m tasks (Planned k start tool epoch) r brings is = confirmed_told _ m _ is
effect_told m tasks (Confirmed k) r brings is = is
effect_told m tasks (Closed k why) r brings is = is
effect_told m tasks (Started k) r brings is = is
effect_told m tasks (Ended k good body) r brings is = ended_told (record { moment = m; good = good; body = body }) r.ended brings is
effect_told m tasks (FreeHeard k place answer) r brings is = other_told (with_free answer) place r is
effect_told m tasks (AcceptHeard k place) r brings is = confirmed_told _ m (change_other with_acceptance place r) (other_told with_acceptance place r is)
effect_told m tasks (told_there k place told) r brings is = other_told (with_told told) place r is
effect_told m tasks (MaterialHeard k) r brings is = is
effect_told m tasks (ResultHeard k place result) r brings is = other_told (with_result result) place r is
effect_told m tasks (Merged k body) r brings is = is
effect_told m tasks (Tried k index state) r brings is = is
effect_told m tasks c r brings is = is

way_told : (m : ℕ) (o : Option Incoming) (r : RunRow) → IsTold r → IsTold (give_way m o r)
way_told m None r is = is
way_told m (Some i) r is = told_either (in_conflict i.key i.class i.interval r) _ r is is

changed_told : (m : ℕ) (tasks : List TaskRow) (c : Change) (rows : List RunRow) (r : RunRow) → BringsTold c → IsTold r → IsTold (changed_row m tasks c rows r)
changed_told m tasks c rows r brings is =
    let way : RunRow = give_way m (incoming rows c) r in
    let here : IsTold way = way_told m (incoming rows c) r is in
    told_either (has_key way.key (change_key c)) (effect m tasks c way) way (effect_told m tasks c way brings here) here

closed_told : (o : Option Closing) (r : RunRow) → IsTold r → IsTold (closed_by o r)
closed_told None r is = is
closed_told (Some c) r is = is

-- ---- rows
mapped_told : (f : RunRow → RunRow) → ((r : RunRow) → IsTold r → IsTold (f r)) → (rows : List RunRow) → All IsTold rows → All IsTold (map f rows)
mapped_told f up rows all = All-map IsTold f rows (All-weaker IsTold (λ r. IsTold (f r)) up rows all)

new_told : (m : ℕ) (c : Change) → IfSome (new_row m c) IsTold
new_told m (Accepted p participants epoch) = tt
new_told m (Asked q participants asker) = tt
new_told m c = tt

put_told : (o : Option RunRow) (rows : List RunRow) → IfSome o IsTold → All IsTold rows → All IsTold (put_new o rows)
put_told None rows new all = all
put_told (Some n) rows new all = go (is_some (find_row rows n.key))
  where
    go : (t : Bool) → All IsTold (cond t rows (put_row rows n))
    go true = all
    go false = All-put (λ r. r.key) IsTold n rows new all

without_told : (o : Option RunKey) (rows : List RunRow) → All IsTold rows → All IsTold (without_row o rows)
without_told None rows all = all
without_told (Some k) rows all = All-filter (λ r. not (is_eq (key_cmp r.key k))) IsTold rows all

rows_told : (m : ℕ) (tasks : List TaskRow) (c : Change) (rows : List RunRow) → BringsTold c → All IsTold rows → All IsTold (rows_after m tasks c rows)
rows_told m tasks c rows brings all =
    let changed : List RunRow = map (changed_row m tasks c rows) rows in
    without_told (purged_key c) (put_new (new_row m c) changed)
    (put_told (new_row m c) changed (new_told m c) (mapped_told (changed_row m tasks c rows) (λ r is. changed_told m tasks c rows r brings is) rows all))

-- ---- books
pub empty_told : AreTold empty_book
empty_told = All-nil IsTold

pub settled_told : (m : ℕ) (rows : List RunRow) → All IsTold rows → All IsTold (settled_rows m rows)
settled_told m rows all = mapped_told (settled_row m) (λ r is. closed_told (lapse_of m r) r is) rows all

all_told : (self m : ℕ) (cs : List Change) (b : Book) → b.moment ≡ m → Lawful self b → AllAlong (SuitsLawful self m) m b cs → AllAlong (KeepsTold self m) m b cs → AreTold b → AreTold (apply_all m cs b)
all_told self m [] b at lawful suits keeps all = all
all_told self m (c ∷ cs) b at lawful suits keeps all =
    all_told self m cs (apply m c b) at (apply_lawful self m b c at lawful (suits.0 at lawful)) suits.1 keeps.1 (rows_told m b.tasks c b.rows (keeps.0 at lawful) all)

-- a step: with no change the book stays
pub after_told : (self : ℕ) (b : Book) (m : ℕ) (cs : List Change) → Lawful self (settled m b) → AllAlong (SuitsLawful self m) m (settled m b) cs → AllAlong (KeepsTold self m) m (settled m b) cs → AreTold b
    → AreTold (book_after b (record { moment = m; list = cs }))
after_told self b m [] lawful suits keeps all = all
after_told self b m (c ∷ cs) lawful suits keeps all = all_told self m (c ∷ cs) (settled m b) refl lawful suits keeps (settled_told m b.rows all)
