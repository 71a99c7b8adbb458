-- What is counted, and listed, one record after another is what is told of the whole table.
use Rattle.std.proofs.Common.{◌≡◌, ℕ, zero, suc, ◌-◌, ◌==◌, ◌≤◌, ◌*◌, Bool, true, false, cond, List, [], ◌∷◌, ◌++◌, take, drop, Result, Ok, Err, OnOk, OnErr, append-nil, refl, ap, sym, ◌∙◌, arith}
use Rattle.std.specs.Cmp.{IsTotalOrder, nat_cmp_total}
use Rattle.std.specs.Cmp.Rules.{comparing}
use Rattle.std.specs.BTreeMap.{insert_entry, is_at}
use Rattle.std.specs.Map.{lookup}
use Rattle.std.specs.Option.{unwrap_or}
use Rattle.std.specs.List.{All, AllByRecursion, fold, flat_map}
use Rattle.std.specs.Ordering.{nat_cmp, match_ordering}
use Rattle.std.specs.declared.cmp.Ordering.TheVariants.{Less, Equal, Greater}
use Rattle.result_table.specs.declared.tally.Counts.{Counts}
use Rattle.result_table.proofs.RecordLemmas.{by_place, by_recursion}
use Rattle.std.proofs.Common.{rules}
use Rattle.std.proofs.lemmas.Bool.Decides.{nat_tests}
use Rattle.std.proofs.lemmas.List.{append_assoc}
use Rattle.std.proofs.lemmas.List.Elements.{filter-append}
use Rattle.ps_time.specs.Numbers.{greatest_moment}
use Rattle.result_table.specs.Report.{is_within, records_within, task_of, task_cmp, day_of, report_text, record_line, listing_text, TallyState, no_tally, with_record, tallied, tally_text, PageState, listed}
use Rattle.result_table.specs.Tally.{counts_of, counts_by, counted_in, counted_one, none_counted}
use Rattle.result_table.specs.declared.record.Record.{Record}
use Rattle.result_table.proofs.TallyLemmas.{counts_more, counts_by_more}

task_cmp_total : IsTotalOrder task_cmp
task_cmp_total = search (comparing, rules) depth 9

-- ---- the report

abbrev tally_of : ℕ → ℕ → List Record → TallyState
tally_of from to rs = record { from = from; to = to; tasks = counts_by task_cmp task_of rs; days = counts_by nat_cmp day_of rs; total = counts_of rs }

counted_more : (from to : ℕ) (rs : List Record) (r : Record) → tally_of from to (rs ++ r ∷ []) ≡ with_record (tally_of from to rs) r
counted_more from to rs r = rw (counts_by_more task_cmp_total task_of rs r, counts_by_more nat_cmp_total day_of rs r, counts_more rs r) refl

one_more : (from to : ℕ) (table : List Record) (r : Record) → tally_of from to (records_within from to (table ++ r ∷ [])) ≡ tallied (tally_of from to (records_within from to table)) r
one_more from to table r =
    let both = filter-append (is_within from to) table (r ∷ []) in
    let rs = records_within from to table in
    let cases = elim (is_within from to r) as (λ b. records_within from to (table ++ r ∷ []) ≡ rs ++ cond b (r ∷ []) [] → tally_of from to (records_within from to (table ++ r ∷ []))
    ≡ cond b (with_record (tally_of from to rs) r) (tally_of from to rs)) [
      | true ↦ λ both. ap (tally_of from to) both ∙ counted_more from to rs r
      | false ↦ λ both. ap (tally_of from to) (both ∙ append-nil rs)
    ] in
    cases both

tally_from : (from to : ℕ) (done rest : List Record) → fold tallied (tally_of from to (records_within from to done)) rest ≡ tally_of from to (records_within from to (done ++ rest))
tally_from from to done [] = ap (λ xs. tally_of from to (records_within from to xs)) (sym (append-nil done))
tally_from from to done (r ∷ rest) =
    ap (λ s. fold tallied s rest) (sym (one_more from to done r))
    ∙ (tally_from from to (done ++ r ∷ []) rest ∙ ap (λ xs. tally_of from to (records_within from to xs)) (append_assoc done (r ∷ []) rest))

-- the text of what was counted is the report
pub report_is : (from to : ℕ) (table : List Record) → tally_text (fold tallied (no_tally from to) table) ≡ report_text table from to
report_is from to table = ap tally_text (tally_from from to [] table)

-- the days stay such days
all_inserted : (P : ℕ → Type 0) (es : List (ℕ × Counts)) (k : ℕ) (v : Counts) → AllByRecursion (λ e. P e.0) es → P k → AllByRecursion (λ e. P e.0) (insert_entry nat_cmp es k v)
all_inserted P [] k v all here = (here, tt)
all_inserted P (e ∷ es) k v all here =
    let rest = insert_entry nat_cmp es k v in
    elim (nat_cmp k e.0) as (λ c. AllByRecursion (λ e. P e.0) (match_ordering c ((k, v) ∷ e ∷ es) ((e.0, v) ∷ es) (e ∷ rest))) [
      | Less ↦ (here, all)
      | Equal ↦ (all.0, all.1)
      | Greater ↦ (all.0, all_inserted P es k v all.1 here)
    ]

pub days_kept : {A E : Type 0} (r : Result A E) (old new : List (ℕ × Counts)) (day : ℕ) (good : Bool) → OnOk r (new ≡ counted_in nat_cmp old day good) → OnErr r (new ≡ old) → day * 86_400 ≤ greatest_moment
    → All (λ e. e.0 * 86_400 ≤ greatest_moment) old → All (λ e. e.0 * 86_400 ≤ greatest_moment) new
days_kept (Ok x) old new day good ok err fits all =
    rw ok (by_place (λ e. e.0 * 86_400 ≤ greatest_moment) (counted_in nat_cmp old day good)
    (all_inserted (λ d. d * 86_400 ≤ greatest_moment) old day (counted_one (unwrap_or (lookup (is_at (nat_cmp day)) old) none_counted) good) (by_recursion (λ e. e.0 * 86_400 ≤ greatest_moment) old all) fits))
days_kept (Err e) old new day good ok err fits all = rw err all

-- ---- a page

page_done : (s : PageState) (rs : List Record) → s.left ≡ 0 → fold listed s rs ≡ s
page_done s [] none = refl
page_done s (r ∷ rs) none = let stays : listed s r ≡ s = rw none refl in ap (λ t. fold listed t rs) stays ∙ page_done s rs none

never_zero : (n : ℕ) → (suc n == 0) ≡ false
never_zero n = grind (arith, nat_tests)

abbrev pub page_with : ℕ → ℕ → List ℕ → PageState
page_with skip left text = record { skip = skip; left = left; text = text }

lines_from : (left : ℕ) (text : List ℕ) (rs : List Record) → (fold listed (page_with 0 left text) rs).text ≡ text ++ flat_map record_line (take left rs)
lines_from zero text rs = ap (λ (s : PageState). s.text) (page_done (page_with 0 0 text) rs refl) ∙ sym (nothing rs)
  where
    nothing : (rs : List Record) → text ++ flat_map record_line (take 0 rs) ≡ text
    nothing [] = append-nil text
    nothing (r ∷ rs) = append-nil text
lines_from (suc left) text [] = sym (append-nil text)
lines_from (suc left) text (r ∷ rs) =
    let less : suc left - 1 ≡ left = omega arith in
    let step : listed (page_with 0 (suc left) text) r ≡ page_with 0 left (text ++ record_line r) = rw (never_zero left, less) refl in
    ap (λ (s : PageState). (fold listed s rs).text) step ∙ (lines_from left (text ++ record_line r) rs ∙ append_assoc text (record_line r) (flat_map record_line (take left rs)))

page_from : (skip left : ℕ) (text : List ℕ) (rs : List Record) → (fold listed (page_with skip (suc left) text) rs).text ≡ text ++ flat_map record_line (take (suc left) (drop skip rs))
page_from zero left text rs = lines_from (suc left) text rs
page_from (suc skip) left text [] = sym (append-nil text)
page_from (suc skip) left text (r ∷ rs) =
    let less : suc skip - 1 ≡ skip = omega arith in
    let step : listed (page_with (suc skip) (suc left) text) r ≡ page_with skip (suc left) text = rw (never_zero left, never_zero skip, less) refl in
    ap (λ (s : PageState). (fold listed s rs).text) step ∙ page_from skip left text rs

-- the text of a page is the listing
pub listing_is : (page : ℕ) (table : List Record) → (fold listed (page_with ((page - 1) * 50) 50 []) table).text ≡ listing_text table page
listing_is page table = page_from ((page - 1) * 50) 49 [] table
