-- What a keeper finds when it is opened.
use Rattle.std.proofs.Common.{◌≡◌, inl, ℕ, ◌++◌, List, [], ◌∷◌, Result, Ok, Err, IfOk, sym, ap, subst, ◌∙◌}
use Rattle.std.specs.List.{AllByRecursion}
use Rattle.sqlite.proofs.Callers.{IsPlain, never_commits}
use Rattle.sqlite.proofs.StateLemmas.{survives_weaker}
use Rattle.sqlite.specs.Effect.{Database}
use Rattle.sqlite.specs.Files.{AreFoundIn}
use Rattle.sqlite.specs.Listing.{understood}
use Rattle.sqlite.specs.Order.{Row}
use Rattle.sqlite.specs.Recovery.{Image}
use Rattle.sqlite.specs.Schema.{Schema}
use Rattle.sqlite.specs.Start.{FindsIn}
use Rattle.sqlite.specs.State.{State, HasCleanDisk, IsLive, IsUnchanged, Opens, Shown, Survives, CommitsShowing}
use Rattle.sqlite_catalog.specs.Listing as catalog
use Rattle.result_keeper.specs.Opening.{IsOpenedWith, HasFound}
use Rattle.result_keeper.specs.declared.opening.OpenFault.{OpenFault}
use Rattle.result_rows.proofs.FileLemmas.{rows_rise}
use Rattle.result_rows.proofs.OpenLemmas.{all_shown, has_table, opened}
use Rattle.result_rows.proofs.Texts.{all_plain}
use Rattle.result_rows.specs.Found.{HoldsTable, IsTableIn}
use Rattle.result_rows.specs.Keeps.{IsSound, Keeps}
use Rattle.result_rows.specs.Rows.{IsRecord, columns_in}
use Rattle.result_rows.specs.Statement.{all_text}
use Rattle.result_rows.specs.Table.{results_schema}
use Rattle.result_table.specs.declared.record.Record.{Record}

-- the schema that the connection has is that of its trees
live_schema : (s : State) (schema : Schema) → Opens s → IsLive s → s.now.schema ≡ schema → catalog.IsSound schema s.now.trees
live_schema s schema opens live is = subst (λ x. catalog.IsSound x s.now.trees) is (live opens.is_open).0

-- each row was a record
pub taken : (old new : State) → old.now.schema ≡ results_schema → IsOpenedWith old → HasCleanDisk new → IsUnchanged old new → AllByRecursion (λ row. IsRecord (columns_in row)) (old.now.trees 0) → HasFound old new
taken old new is begun clean same records =
    let sound = live_schema old results_schema begun.opens begun.live is in
    let it = has_table old.now.trees sound (begun.rises sound) records in
    record {
      sound = (clean, same.0.is_open);
      table = it.0;
      keeps = opened old new it.0 begun.opens is it.1 same;
      held = inl (sound, it.1);
    }

-- ---- a query that only reads

pub commits_nothing : (sql : List ℕ) (params : Row) (old new : State) → IsPlain (understood old.now.schema sql) → Survives old new (CommitsShowing sql params old) → Survives old new (λ _. ⊥)
commits_nothing sql params old new plain = survives_weaker old new _ _ (λ _ db. never_commits sql params old db plain)

pub plain_in : (schema : Schema) → schema ≡ results_schema → IsPlain (understood schema all_text)
plain_in schema is = subst (λ s. IsPlain (understood s all_text)) (sym is) all_plain

-- the rows that were given are all, and each is a record
pub all_given : (old was new : State) (given : List Row) → old.now.schema ≡ results_schema → IsUnchanged old was → Shown all_text [] was new given → AllByRecursion IsRecord given → AllByRecursion (λ row. IsRecord (columns_in row)) (old.now.trees 0)
all_given old was new given is same shown all =
    let now = same.0.now_is in
    subst (λ (d : Database). AllByRecursion (λ row. IsRecord (columns_in row)) (d.trees 0)) now (all_shown IsRecord was new given (ap (λ (d : Database). d.schema) now ∙ is) shown all)

pub one_more : (given : List Row) (row : Row) → AllByRecursion IsRecord given → IsRecord row → AllByRecursion IsRecord (given ++ row ∷ [])
one_more [] row all is = (is, tt)
one_more (x ∷ xs) row all is = (all.0, one_more xs row all.1 is)

-- ---- files

pub begun_with : (s : State) (image : Image) → Opens s → IsLive s → AreFoundIn image s.committed.trees → IsOpenedWith s
begun_with s image opens live reads = record { opens = opens; live = live; rises = rows_rise image s.now.trees (subst (AreFoundIn image) (sym (ap (λ (d : Database). d.trees) opens.clean)) reads) }

pub found_on : {K : Type 0} (r : Result K OpenFault) (shown : K → State) (old : State) (image : Image) → IfOk r (λ k. HasCleanDisk (shown k) → HasCleanDisk old) → (HasCleanDisk old → Opens old × IsLive old) → (HasCleanDisk old → FindsIn image old)
    → (IsOpenedWith old → IfOk r (λ k. HasCleanDisk (shown k) → HasFound old (shown k)))
    → IfOk r (λ k. HasCleanDisk (shown k) → IsSound (shown k) × (table : List Record) × Keeps (shown k) table × IsTableIn image table)
found_on (Err e) shown old image clean opens finds found = tt
found_on (Ok k) shown old image clean opens finds found = λ late.
    let early = clean late in
    let begun = opens early in
    let held = finds early in
    let same : old.now.trees ≡ old.committed.trees = ap (λ (d : Database). d.trees) begun.0.clean in
    let reads = subst (AreFoundIn image) (sym same) held.reads in
    let it = found (begun_with old image begun.0 begun.1 held.reads) late in
    (it.sound, it.table, it.keeps, record { holds = λ db is. subst (λ d. HoldsTable d it.table) (same ∙ held.holds db is) it.held; reads = (old.now.trees, reads, it.held) })
