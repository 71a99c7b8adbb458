-- What is due of the rows that keys name, one key and one archive after another, and of the live rows of a lawful book.
use Rattle.std.specs.Prelude.{All, IfSome, slice_get}
use Rattle.std.specs.List.{AllByRecursion}
use Rattle.std.proofs.Common.{◌≡◌, ◌+◌, ◌<◌, ◌≤◌, ◌++◌, ◌∷◌, ◌∙◌, ℕ, Bool, true, false, cond, List, [], length, drop, get_or, Option, Some, None, refl, sym, ap, ap₂, append_assoc, append-nil, arith}
use Rattle.std.proofs.lemmas.List.{at_drop_all, at_drop_more}
use Rattle.std.proofs.lemmas.List.Elements.{All-filter, All-weaker, recursion_from_All}
use Rattle.ps_time.specs.declared.key.RunKey.{RunKey}
use Rattle.archive_retry.specs.Retry.{is_due}
use Rattle.archive_retry.specs.declared.state.ArchiveState.{ArchiveState}
use Rattle.run_states.specs.LawfulRow.{HasArchives}
use Rattle.run_states.specs.Rows.{find_row}
use Rattle.run_states.specs.declared.row.RunRow.{RunRow}
use Rattle.host_rows.specs.Still.{is_live, live_keys, live_rows}
use Rattle.live_law.proofs.StillLemmas.{listed, silent, silent_due}
use Rattle.host_model.specs.Archives.{due, due_from_index, due_pairs}
use Rattle.host_model.specs.Book.{Book, keys_of_rows, moment_at}
use Rattle.host_model.specs.Effect.{archives_of}
use Rattle.host_model.specs.Lawful.{Lawful}
use Rattle.host_model.specs.LawfulRow.{HasStates, IsHostRow}
use Rattle.host_model.proofs.RowLemmas.{all_of_found, found_of_all}
use Rattle.host_book.proofs.MergingLemmas.{few_archives}
use Rattle.host_queries.specs.DueKeys.{HasFewArchives, due_of_keys, found_due}

-- ---- one archive after another
module _ (k : RunKey) (m n : ℕ) (ss : List ArchiveState) (i : ℕ) (d : ArchiveState) (lt : i < length ss) where
  abbrev rest : List (RunKey × ℕ)
  rest = due_from_index k m (n + 1) (drop (i + 1) ss)

  -- the list from one on
  from_here : due_from_index k m n (drop i ss) ≡ cond (is_due (get_or ss i d) m) ((k, n) ∷ rest) rest
  from_here = at_drop_more (due_from_index k m n) ss i d lt

  pub next_archive : (a b : List (RunKey × ℕ)) → b ≡ a ++ due_from_index k m n (get_or ss i d ∷ []) → a ++ due_from_index k m n (drop i ss) ≡ b ++ rest
  next_archive a b is =
      ap (λ xs. a ++ xs) (from_here ∙ parted (is_due (get_or ss i d) m))
      ∙ (sym (append_assoc a (due_from_index k m n (get_or ss i d ∷ [])) rest)
      ∙ ap (λ xs. xs ++ rest) (sym is))
    where
      parted : (t : Bool) → cond t ((k, n) ∷ rest) rest ≡ cond t ((k, n) ∷ []) [] ++ rest
      parted true = refl
      parted false = refl

  pub first_here : is_due (get_or ss i d) m ≡ true → slice_get (due_from_index k m n (drop i ss)) 0 ≡ Some (k, n)
  first_here is = ap (λ xs. slice_get xs 0) (from_here ∙ ap (λ t. cond t ((k, n) ∷ rest) rest) is)

  pub first_later : is_due (get_or ss i d) m ≡ false → slice_get (due_from_index k m n (drop i ss)) 0 ≡ slice_get rest 0
  first_later is = ap (λ xs. slice_get xs 0) (from_here ∙ ap (λ t. cond t ((k, n) ∷ rest) rest) is)

pub last_archive : (k : RunKey) (m n : ℕ) (ss : List ArchiveState) (i : ℕ) (a : List (RunKey × ℕ)) → length ss ≤ i → a ++ due_from_index k m n (drop i ss) ≡ a
last_archive k m n ss i a done = ap (λ xs. a ++ xs) (at_drop_all (due_from_index k m n) ss i done) ∙ append-nil a

pub none_due : (k : RunKey) (m n : ℕ) (ss : List ArchiveState) (i : ℕ) → length ss ≤ i → slice_get (due_from_index k m n (drop i ss)) 0 ≡ None
none_due k m n ss i done = ap (λ xs. slice_get xs 0) (at_drop_all (due_from_index k m n) ss i done)

-- ---- one key after another
module _ (m : ℕ) (rows : List RunRow) (keys left : List RunKey) (k : RunKey) (step : keys ≡ k ∷ left) (o : Option RunRow) (found : o ≡ find_row rows k) where
  abbrev others : List (RunKey × ℕ)
  others = due_of_keys m left rows

  -- the list from one on
  from_key : due_of_keys m keys rows ≡ found_due m o ++ others
  from_key = ap (λ ks. due_of_keys m ks rows) step ∙ ap (λ x. found_due m x ++ others) (sym found)

  pub next_key : (a b : List (RunKey × ℕ)) → b ≡ a ++ found_due m o → a ++ due_of_keys m keys rows ≡ b ++ others
  next_key a b is = ap (λ xs. a ++ xs) from_key ∙ (sym (append_assoc a (found_due m o) others) ∙ ap (λ xs. xs ++ others) (sym is))

  pub first_of_key : (p : RunKey × ℕ) → slice_get (found_due m o) 0 ≡ Some p → slice_get (due_of_keys m keys rows) 0 ≡ Some p
  first_of_key p is = ap (λ xs. slice_get xs 0) from_key ∙ at_front (found_due m o) is
    where
      at_front : (xs : List (RunKey × ℕ)) → slice_get xs 0 ≡ Some p → slice_get (xs ++ others) 0 ≡ Some p
      at_front [] is = cc
      at_front (x ∷ xs) is = is

  pub first_behind : slice_get (found_due m o) 0 ≡ None → slice_get (due_of_keys m keys rows) 0 ≡ slice_get others 0
  first_behind is = ap (λ xs. slice_get xs 0) from_key ∙ behind (found_due m o) is
    where
      behind : (xs : List (RunKey × ℕ)) → slice_get xs 0 ≡ None → slice_get (xs ++ others) 0 ≡ slice_get others 0
      behind [] is = refl
      behind (x ∷ xs) is = cc

pub last_key : (m : ℕ) (rows : List RunRow) (keys : List RunKey) (a : List (RunKey × ℕ)) → keys ≡ [] → a ++ due_of_keys m keys rows ≡ a
last_key m rows keys a done = ap (λ ks. a ++ due_of_keys m ks rows) done ∙ append-nil a

pub none_left : (m : ℕ) (rows : List RunRow) (keys : List RunKey) → keys ≡ [] → slice_get (due_of_keys m keys rows) 0 ≡ None
none_left m rows keys done = ap (λ ks. slice_get (due_of_keys m ks rows) 0) done

-- a row that is found has few archives where all have
pub few_found : (rows : List RunRow) (k : RunKey) (o : Option RunRow) → find_row rows k ≡ o → All HasFewArchives rows → IfSome o HasFewArchives
few_found rows k None at all = tt
few_found rows k (Some r) at all = found_of_all HasFewArchives k r rows all at

-- ---- a lawful book
module _ (self : ℕ) (b : Book) (lawful : Lawful self b) where
  few_states : (r : RunRow) (o : Option (List ℕ)) → HasArchives r o → HasStates self (archives_of b.tasks r.key) r o → HasFewArchives r
  few_states r None none has = omega (arith, ap length none)
  few_states r (Some text) is has = omega (arith, has.1, few_archives b.moment b.tasks r.key lawful.tasks)

  -- no row of it has more archives than a task
  pub book_few : All HasFewArchives b.rows
  book_few = All-weaker (IsHostRow self b.tasks b.moment) HasFewArchives (λ r row. few_states r r.merged row.row.merged row.merged) b.rows lawful.rows

  by_keys : (m : ℕ) (rs : List RunRow) → AllByRecursion (λ r. find_row b.rows r.key ≡ Some r) rs → due_of_keys m (keys_of_rows rs) b.rows ≡ due_pairs rs m
  by_keys m [] found = refl
  by_keys m (r ∷ rs) found = ap₂ (λ o xs. found_due m o ++ xs) found.0 (by_keys m rs found.1)

  -- the keys of the live rows name all that is due
  pub due_of_live : (m : ℕ) → due_of_keys m (live_keys self b.rows) b.rows ≡ due_pairs b.rows m
  due_of_live m =
      let IsFound : RunRow → Type 0 = λ r. find_row b.rows r.key ≡ Some r in
      let all : All IsFound b.rows = all_of_found IsFound b.rows lawful.ascending (λ r at. at) in
      by_keys m (live_rows self b.rows) (recursion_from_All IsFound (live_rows self b.rows) (All-filter (is_live self) IsFound b.rows all))
      ∙ listed self (λ r. due_from_index r.key m 0 r.archives) (λ r out. silent_due r (silent self r out) m) b.rows

  -- so do such keys of such rows
  pub named_due : (clock m : ℕ) (keys : List RunKey) (rows : List RunRow) → m ≡ moment_at b clock → keys ≡ live_keys self b.rows → rows ≡ b.rows → due_of_keys m keys rows ≡ due b clock
  named_due clock m keys rows at named same =
      ap (λ n. due_of_keys n keys rows) at
      ∙ (ap₂ (λ ks rs. due_of_keys (moment_at b clock) ks rs) named same ∙ due_of_live (moment_at b clock))
