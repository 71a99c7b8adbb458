-- What a statement that was refused, or that only reads, leaves of a table; what the first statement makes.
use Rattle.std.proofs.Common.{◌≡◌, ◌⊎◌, inl, inr, ℕ, false, cond, List, [], Some, None, Option, Ok, Err, Result, IsTrue, IfOk, IfErr, OnOk, OnErr, sym, ap, subst, ◌∙◌}
use Rattle.std.proofs.lemmas.Bool.{cases_Bool}
use Rattle.std.proofs.lemmas.List.Sorted.{IsPermutation-refl}
use Rattle.sqlite.proofs.Callers.{IsPlain, runs_as}
use Rattle.sqlite.specs.Change.{created, next_tree}
use Rattle.sqlite.specs.Command.{Command}
use Rattle.sqlite.specs.Command.TheVariants.{Select, Insert, InsertOr, Update, Delete, CreateTable, CreateIndex, DropTable, DropIndex, Begin, Commit, Rollback, Savepoint as Save, Release, RollbackTo, Nothing, CreateView, DropView, Rows}
use Rattle.sqlite.specs.Does.{Tally, lacks_sequence}
use Rattle.sqlite.specs.Effect.{Database}
use Rattle.sqlite.specs.Listing.{understood}
use Rattle.sqlite.specs.Order.{Row}
use Rattle.sqlite.specs.State.{State, HasCleanDisk, IsUnchanged, IsRolledBack, IsNotRun, Runs, RunsCommand, RunsAlone, shows_rows, Writes, Executes, ExecutesIn, Shown, ShowsRows, FailsToShow, FailsToQuery}
use Rattle.sqlite.specs.Steps.{IsEmpty}
use Rattle.sqlite.specs.declared.error.Error.{Error}
use Rattle.sqlite_resolve.specs.declared.compiled.Compiled.{Compiled}
use Rattle.sqlite_schema.specs.declared.command.Returning.{Returning}
use Rattle.result_rows.specs.Keeps.{IsSound, Keeps}
use Rattle.result_rows.specs.Rows.{AreOf}
use Rattle.result_rows.specs.Statement.{create_text}
use Rattle.result_rows.specs.Table.{results, no_schema, results_schema}
use Rattle.result_rows.proofs.Texts.{create_is, create_plain}
use Rattle.result_table.specs.declared.record.Record.{Record}

-- a part that gave a value did not stop on the way
pub went : {B E R : Type 0} {b : B} {Stops : E → Type 0} → ((stop : E) × Stops stop × (Ok b ≡ Err stop)) ⊎ R → R
went (inl stopped) = absurd (let e = stopped.2 in cc)
went (inr on) = on

pub same_value : {B E : Type 0} {a b : B} → ◌≡◌ {A = Result B E} (Ok a) (Ok b) → a ≡ b
same_value e = cc

-- ---- what stands where nothing was written

abbrev pub Stands : State → State → Type 0
Stands old new = IsUnchanged old new ⊎ IsRolledBack old new

pub stands_open : (old new : State) → Stands old new → IsTrue new.is_open → IsTrue old.is_open
stands_open old new (inl same) is_open = same.0.was_open
stands_open old new (inr back) is_open = back.was_open is_open

pub stands_keeps : (old new : State) (table : List Record) → Stands old new → IsTrue new.is_open → Keeps old table → Keeps new table
stands_keeps old new table (inl same) is_open keeps = record {
  schema = ap (λ (d : Database). d.schema) same.0.now_is ∙ keeps.schema;
  rows = subst (λ (d : Database). AreOf (d.trees 0) table) (sym same.0.now_is) keeps.rows;
  committed = same.0.committed_is ∙ keeps.committed ∙ sym same.0.now_is;
  autocommit = same.0.mode ∙ keeps.autocommit;
  unmarked = same.2 ∙ keeps.unmarked;
}
stands_keeps old new table (inr back) is_open keeps =
    let now = (back.undone is_open).0 ∙ keeps.committed in
    record {
      schema = ap (λ (d : Database). d.schema) now ∙ keeps.schema;
      rows = subst (λ (d : Database). AreOf (d.trees 0) table) (sym now) keeps.rows;
      committed = (back.undone is_open).1 ∙ sym (back.undone is_open).0;
      autocommit = back.autocommit;
      unmarked = back.unmarked;
    }

not_run : (old new : State) (sql : List ℕ) (params : Row) (e : Error) → IsNotRun old new sql params e → Stands old new
unfolding IsNotRun
not_run old new sql params e (inl isnt_so) = inl isnt_so.1
not_run old new sql params e (inr fails) = inr fails.3

command_refused : (old new : State) (sql : List ℕ) (c : Compiled) (params : Row) (e : Error) → RunsCommand old new sql c params (Err e) → Stands old new
command_refused old new sql c params e (inl isnt_so) = inl isnt_so.1
command_refused old new sql c params e (inr fails) = inr fails.3

alone_refused : (old new : State) (sql : List ℕ) (c : Compiled) (params : Row) (e : Error) → RunsAlone false old new sql c params (Err e) → Stands old new
alone_refused old new sql c params e h =
    elim (cases_Bool (shows_rows false c)) [
      | inl shows ↦ inl (rw shows at h).1
      | inr runs ↦ command_refused old new sql c params e (rw runs at h)
    ]

pub refused : (sql : List ℕ) (params : Row) (old new : State) (e : Error) → Executes sql params old new (Err e) → Stands old new
unfolding ExecutesIn
refused sql params old new e (inl isnt_so) = not_run old new sql params e isnt_so
refused sql params old new e (inr ran) = alone_refused old new sql ran.0 _ e ran.2

fails_to_show : (old new : State) (sql : List ℕ) (c : Compiled) (params : Row) (e : Error) (returning : Option Returning) → FailsToShow old new sql c params e returning → Stands old new
fails_to_show old new sql c params e None h = inl h.3
fails_to_show old new sql c params e (Some what) h = command_refused old new sql c params e h

pub unread : (sql : List ℕ) (params : Row) (old new : State) (e : Error) → FailsToQuery sql params old new e → Stands old new
unfolding FailsToQuery
unread sql params old new e (inl isnt_so) = not_run old new sql params e isnt_so
unread sql params old new e (inr ran) = fails_to_show old new sql ran.0 _ e ran.0.returning ran.2

-- ---- a connection that is open was open

runs_open : (old new : State) (returning : Option Returning) (command : Command) (text : List ℕ) (params : Row) (count : ℕ) → Runs old new returning command text params count → IsTrue new.is_open → IsTrue old.is_open
runs_open old new returning (Select q names) text params count h is_open = absurd h
runs_open old new returning (Insert at from) text params count h is_open = h.shown.was_open
runs_open old new returning (InsertOr at how from clauses) text params count h is_open = h.shown.was_open
runs_open old new returning (Update at q) text params count h is_open = h.shown.was_open
runs_open old new returning (Delete at q) text params count h is_open = h.shown.was_open
runs_open old new returning CreateTable text params count h is_open = h.shown.was_open
runs_open old new returning (CreateIndex at) text params count h is_open = h.shown.was_open
runs_open old new returning (DropTable at) text params count h is_open = h.shown.was_open
runs_open old new returning (DropIndex at) text params count h is_open = h.shown.was_open
runs_open old new returning Begin text params count h is_open = h.1.was_open
runs_open old new returning Commit text params count h is_open = h.1.was_open
runs_open old new returning Rollback text params count h is_open = h.1.was_open is_open
runs_open old new returning (Save name) text params count h is_open = h.0.0.was_open
runs_open old new returning (Release name) text params count h is_open = elim h.2 [ inl all ↦ all.1.0.was_open | inr part ↦ part.1.0.was_open ]
runs_open old new returning (RollbackTo name) text params count h is_open = h.2.2.was_open
runs_open old new returning (Rows values width names) text params count h is_open = h.0.0.was_open
runs_open old new returning Nothing text params count h is_open = h.0.0.was_open
runs_open old new returning CreateView text params count h is_open = h.shown.was_open
runs_open old new returning (DropView at) text params count h is_open = h.shown.was_open

pub executed_open : (sql : List ℕ) (params : Row) (old new : State) (r : Result ℕ Error) → Executes sql params old new r → IsTrue new.is_open → IsTrue old.is_open
unfolding ExecutesIn
executed_open sql params old new (Ok count) h is_open =
    elim (cases_Bool (shows_rows false h.0)) [
      | inl shows ↦ absurd (let e = (rw shows at h.2).0 in cc)
      | inr runs ↦ runs_open old new h.0.returning h.0.command _ _ count (rw runs at h.2) is_open
    ]
executed_open sql params old new (Err e) h is_open = stands_open old new (refused sql params old new e h) is_open

shows_open : (old new : State) (sql : List ℕ) (c : Compiled) (params : Row) (rows : List Row) (returning : Option Returning) → ShowsRows old new sql c params rows returning → IsTrue old.is_open
shows_open old new sql c params rows None h = h.3.0.was_open
shows_open old new sql c params rows (Some what) h = h.1.shown.was_open

pub shown_open : (sql : List ℕ) (params : Row) (old new : State) (rows : List Row) → Shown sql params old new rows → IsTrue old.is_open
unfolding Shown
shown_open sql params old new rows h = shows_open old new sql h.0 _ rows h.0.returning h.2

-- ---- the table that is made

creates : (old new : State) (count : ℕ) → IsEmpty old → Executes create_text [] old new (Ok count) → IsTrue new.is_open × Keeps new []
creates old new count empty h =
    let has = empty.2 in
    let w = subst (λ t. Writes old new None CreateTable t [] count) create_is.1 (runs_as create_text [] old new no_schema has CreateTable create_is.0 create_plain count h) in
    let all = went w.changed in
    let first = went all.1 in
    let made = first.1 in
    let both : Ok made.table ≡ Ok results = sym made.defined ∙ create_is.2 in
    let same : made.table ≡ results = same_value both in
    let schema : first.0.schema ≡ results_schema = made.is ∙ ap (λ s. created s made.table) has ∙ ap (created no_schema) same in
    let plain : lacks_sequence first.0.schema ≡ false = ap lacks_sequence schema in
    let now : new.now ≡ first.0 = ap (λ (p : Tally × Database). p.1) (same_value all.2) ∙ same_value (rw plain at first.2) in
    let none : new.now.trees 0 ≡ [] = ap (λ (d : Database). d.trees 0) now ∙ subst (λ s. first.0.trees (next_tree s) ≡ []) has made.empty in (
      w.shown.is_open,
      record {
        schema = ap (λ (d : Database). d.schema) now ∙ schema;
        rows = record { entries = []; are = none; numbered = tt; same = IsPermutation-refl []; ascends = tt; keys = tt };
        committed = w.shown.committed_is ∙ ap (λ b. cond b old.committed new.now) empty.0.autocommit;
        autocommit = w.shown.mode ∙ empty.0.autocommit;
        unmarked = w.marks ∙ empty.0.unmarked;
      },
    )

pub creates_on : (old new : State) (r : Result ℕ Error) → IsEmpty old → HasCleanDisk new → Executes create_text [] old new r → OnOk r (IsSound new × Keeps new [])
creates_on old new (Ok count) empty clean h = let made = creates old new count empty h in ((clean, made.0), made.1)
creates_on old new (Err e) empty clean h = tt

pub refused_keeps : (sql : List ℕ) (params : Row) (old new : State) (table : List Record) (r : Result ℕ Error) → Executes sql params old new r → Keeps old table → IsTrue new.is_open → OnErr r (Keeps new table)
refused_keeps sql params old new table (Ok count) h keeps is_open = tt
refused_keeps sql params old new table (Err e) h keeps is_open = stands_keeps old new table (refused sql params old new e h) is_open keeps

-- ---- a select changes nothing

unchanged : (sql : List ℕ) (params : Row) (old new : State) (rows : List Row) → old.now.schema ≡ results_schema → IsPlain (understood results_schema sql) → Shown sql params old new rows → IsUnchanged old new
unfolding Shown
unchanged sql params old new rows has plain h =
    let known = sym h.1.is ∙ ap (λ s. understood s sql) has in
    let bare = subst IsPlain (sym known) plain in
    (rw bare.0 at h.2).3

module _ {X : Type 0} (items : X → List Row) (sql : List ℕ) (params : Row) (old new : State) where
  pub read_keeps : IsPlain (understood results_schema sql) → (r : Result X Error) → IfOk r (λ v. Shown sql params old new (items v)) → IfErr r (FailsToQuery sql params old new)
      → (table : List Record) → Keeps old table → IsTrue new.is_open → Keeps new table
  read_keeps plain (Ok v) shown fails table keeps is_open = stands_keeps old new table (inl (unchanged sql params old new (items v) keeps.schema plain shown)) is_open keeps
  read_keeps plain (Err e) shown fails table keeps is_open = stands_keeps old new table (unread sql params old new e fails) is_open keeps

  pub read_open : (r : Result X Error) → IfOk r (λ v. Shown sql params old new (items v)) → IfErr r (FailsToQuery sql params old new) → IsTrue new.is_open → IsTrue old.is_open
  read_open (Ok v) shown fails is_open = shown_open sql params old new (items v) shown
  read_open (Err e) shown fails is_open = stands_open old new (unread sql params old new e fails) is_open
