-- Books as bytes: what a snapshot of the second format has.
use Rattle.std.specs.Prelude.{◌&&◌, ◌==◌, ◌≡◌, Bool, List, None, Option, Some, cond, false, if◌then◌else◌, refl, true, ℕ}
use Rattle.std.proofs.Common.{ap₂, sym, arith}
use Rattle.std.proofs.lemmas.Bool.{eqb-true}
use Rattle.ps_time.specs.declared.key.RunKey.{RunKey}
use Rattle.limit_apply.specs.Limits.{LimitsConfig as Limits}
use Rattle.run_states.specs.declared.row.RunRow.{RunRow}
use Rattle.host_model.specs.Book.{Book}
use Rattle.host_model.specs.declared.task_row.TaskRow.{TaskRow}
use Rattle.value_bytes.specs.Codec.{◌&◌, Codec, built, list, number_32, number_64, partly}
use Rattle.value_bytes.specs.Keys.{key, key_is}
use Rattle.value_bytes.specs.Laws.{IsCodec}
use Rattle.value_bytes.specs.ListLaws.{list_is}
use Rattle.value_bytes.specs.NumberLaws.{number_32_is, number_64_is}
use Rattle.value_bytes.specs.PairLaws.{built_is, pair_is, partly_is}
use Rattle.value_bytes.specs.Rows.{row, row_is}
use Rattle.value_bytes.specs.Tasks.{limits, limits_is, task_row, task_row_is}
use Rattle.host_codec.specs.declared.book.BookParts.{BookParts as Lent}

-- ---- the mark of the second format: the greatest number of 64 bits, and 2
abbrev pub mark_of : ℕ × ℕ → Option (Unit {0})
mark_of p = if p.0 == 18_446_744_073_709_551_615 && p.1 == 2 then Some tt else None

abbrev pub the_mark : Unit {0} → ℕ × ℕ
the_mark u = (18_446_744_073_709_551_615, 2)

abbrev pub Any : Unit {0} → Type 0
Any u = Unit {0}

abbrev pub second : Codec (Unit {0})
second = partly mark_of the_mark Any Any (number_64 & number_32)

mark_back : (p : ℕ × ℕ) (u : Unit {0}) → mark_of p ≡ Some u → the_mark u ≡ p
mark_back p u e = by (p.0 == 18_446_744_073_709_551_615) (p.1 == 2) refl refl e
  where
    by : (a b : Bool) → (p.0 == 18_446_744_073_709_551_615) ≡ a → (p.1 == 2) ≡ b → cond (a && b) (Some tt) None ≡ Some u → the_mark u ≡ p
    by true true first last e = ap₂ (λ (x y : ℕ). (x, y)) (sym (eqb-true p.0 18_446_744_073_709_551_615 first)) (sym (eqb-true p.1 2 last))
    by true false first last e = absurd cc
    by false b first last e = absurd cc

mark_fits : (u : Unit {0}) → Any u → (number_64 & number_32).Fits (the_mark u)
mark_fits u any = (omega arith, omega arith)

mark_read : (u : Unit {0}) → Any u → mark_of (the_mark u) ≡ Some u
mark_read u any = refl

pub second_is : IsCodec second
second_is = partly_is mark_of the_mark Any Any mark_read mark_fits mark_back (pair_is number_64_is number_32_is)

-- ---- a book: moment, epochs, pairs, tasks, rows
abbrev pub pair : Codec (RunKey × ℕ)
pair = key & number_32

abbrev pub Front : Type 0
Front = ℕ × (List Limits × List (RunKey × ℕ))

abbrev pub epochs : Codec (List Limits × List (RunKey × ℕ))
epochs = list limits & list pair

abbrev pub front : Codec Front
front = number_64 & epochs

abbrev pub Back : Type 0
Back = List TaskRow × List RunRow

abbrev pub back : Codec Back
back = list task_row & list row

abbrev pub front_of : Book → Front
front_of b = (b.moment, (b.epochs, b.pairs))

abbrev pub back_of : Book → Back
back_of b = (b.tasks, b.rows)

abbrev pub book_of : Unit {0} × (Front × Back) → Book
book_of p = record { moment = p.1.0.0; epochs = p.1.0.1.0; pairs = p.1.0.1.1; tasks = p.1.1.0; rows = p.1.1.1 }

abbrev pub parts_of_book : Book → Unit {0} × (Front × Back)
parts_of_book b = (tt, (front_of b, back_of b))

abbrev pub book : Codec Book
book = built book_of parts_of_book (second & (front & back))

front_is : IsCodec front
front_is = pair_is number_64_is (pair_is (list_is limits limits_is) (list_is pair (pair_is key_is number_32_is)))

pub back_is : IsCodec back
back_is = pair_is (list_is task_row task_row_is) (list_is row row_is)

pub book_is : IsCodec book
book_is = built_is book_of parts_of_book (λ b. refl) (λ p. refl) (pair_is second_is (pair_is front_is back_is))

-- the book whose parts are lent
abbrev pub lent : Lent → Book
lent p = record { moment = p.moment; epochs = p.epochs.now; pairs = p.pairs; tasks = p.tasks.now; rows = p.rows }
