-- The table that files hold, whose rows rise by their numbers.
use Rattle.std.proofs.Common.{◌≡◌, inl, inr, sym, ap, subst, subst₂, ◌∙◌, arith}
use Rattle.std.proofs.Math.Logic.{∥∥₁_elim}
use Rattle.sqlite.specs.Files.{AreFoundIn}
use Rattle.sqlite.specs.Recovery.{Image}
use Rattle.sqlite.specs.Tree.{Trees}
use Rattle.sqlite_catalog.proofs.LayoutLemmas.{laid_out}
use Rattle.sqlite_catalog.specs.Listing.{IsSound, AreListed}
use Rattle.sqlite_pool.specs.File.{in_use, version_in}
use Rattle.sqlite_store.proofs.ListingLemmas.{all_ordered, listing_shaped}
use Rattle.sqlite_store.specs.Listed.{catalog_rows, is_listed}
use Rattle.sqlite_store.specs.Listing.{listed_from}
use Rattle.sqlite_trees.specs.Objects.{catalog_tree}
use Rattle.sqlite_trees.specs.Props.{IsShaped-prop}
use Rattle.sqlite_trees.specs.View.{IsShaped}
use Rattle.sqlite_trees.specs.declared.store.Shape.TheVariants.{Table}
use Rattle.result_rows.specs.Table.{results_schema}

pub rows_rise : (image : Image) (db : Trees) → AreFoundIn image db → IsSound results_schema db → IsShaped Table (db 0)
rows_rise image db (inl it) sound =
    let wanted = it.2 in
    let pages = in_use it.0 it.1 in
    ∥∥₁_elim it.4 (IsShaped-prop Table (db 0)) (λ ours.
    let ordered = all_ordered ours.file.db (version_in it.1) in
    let catalog : db catalog_tree ≡ listed_from 0 wanted = ap (λ (t : Trees). t catalog_tree) it.5 ∙ catalog_rows it.0 wanted pages in
    let laid = laid_out (is_listed wanted) (listing_shaped 0 wanted) (subst (λ rows. AreListed rows results_schema) catalog sound.lists.listed) in
    subst₂ IsShaped laid.tables.0 (ap (λ (t : Trees). t 0) (sym it.5)) (ordered 0))
rows_rise image db (inr it) sound = subst (IsShaped Table) (sym (it.1.0 0 (omega arith))) (tt, tt)
