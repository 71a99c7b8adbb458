-- The groups of a turn, one after another; the draft with which it begins, and what it ends with.
use Rattle.std.proofs.Common.{◌≡◌, ◌≤◌, ℕ, List, false, map, option_and_then, refl, sym, ap, ap₂, subst, ◌∙◌}
use Rattle.ps_time.specs.Numbers.{greatest_moment}
use Rattle.ps_time.specs.declared.key.RunKey.{RunKey}
use Rattle.run_states.specs.Rows.{find_row}
use Rattle.run_states.specs.declared.row.RunRow.{RunRow}
use Rattle.host_model.specs.Apply.{settled}
use Rattle.host_model.specs.Book.{Book, find_task}
use Rattle.host_model.specs.Draft.{Draft, fresh, make_tasks, turned}
use Rattle.host_model.specs.Lawful.{Lawful}
use Rattle.host_model.specs.NextAttempt.{ask}
use Rattle.host_model.specs.Purging.{purge_run}
use Rattle.host_model.specs.Turn.{turn_changes}
use Rattle.host_model.specs.declared.config.Config.{Config}
use Rattle.host_model.specs.declared.task_row.TaskRow.{TaskRow}
use Rattle.host_model.proofs.DraftLemmas.{turned_is}
use Rattle.host_model.proofs.SettledBook.{book_settled}
use Rattle.host_rows.specs.Still.{keys_live_by, StillStay}
use Rattle.live_law.specs.Groups.{going_keys, let_go, make_keys, turned_by, turned_most}
use Rattle.live_law.specs.Waking.{make_asked, turned_awake}
use Rattle.live_law.proofs.AwakeLemmas.{awake_same}
use Rattle.live_law.proofs.GroupLemmas.{turned_begun, turned_live}
use Rattle.host_draft.specs.Draft.{Seen, opened, with_draft}
use Rattle.host_turns.specs.Awake.{awake_among}
use Rattle.host_turns.specs.Turns.{IsLiveTurn, exclusive_keys, wish_of}
use Rattle.host_turns.specs.declared.due.Due.{Due}
use Rattle.host_turns.specs.declared.due.Due.TheVariants.{End, Merge, Start, Plan}
use Rattle.host_turns.proofs.GroupLemmas.{moment_each}
use Rattle.host_turns.proofs.KeepLemmas.{settled_active, settled_exclusive}

-- ---- one group after another
-- a group at a moment leaves the moment of the book
abbrev Stays : (ℕ → Draft → Draft) → Type 0
Stays group = (m : ℕ) (d : Draft) → (group m d).book.moment ≡ d.book.moment

-- the draft after a group at its moment
abbrev after : (ℕ → Draft → Draft) → Seen → Seen
after group s = with_draft (group s.draft.book.moment s.draft) s

joined : (g h : ℕ → Draft → Draft) → Stays g → (s t u : Seen) → t ≡ after g s → u ≡ after h t → u ≡ after (λ m d. h m (g m d)) s
joined g h stays s t u first second =
    let m : ℕ = s.draft.book.moment in
    second ∙ (ap (after h) first ∙ ap (λ n. with_draft (h n (g m s.draft)) s) (stays m s.draft))

stays_both : (g h : ℕ → Draft → Draft) → Stays g → Stays h → Stays (λ m d. h m (g m d))
stays_both g h first second m d = second m (g m d) ∙ first m d

module _ (c : Config) (live : List RunKey) where
  abbrev due : Due → ℕ → Draft → Draft
  due kind m = make_keys (wish_of kind c m) m live

  stays_due : (kind : Due) → Stays (due kind)
  stays_due kind m d = moment_each (λ b k. option_and_then (wish_of kind c m b) (find_row b.rows k)) m live d

  abbrev asks : ℕ → Draft → Draft
  asks m = make_tasks (ask c m) m

  stays_asks : Stays asks
  stays_asks m d = moment_each (λ b serial. option_and_then (ask c m b) (find_task b.tasks serial)) m (map (λ t. t.serial) d.book.tasks) d

  -- the same of the tasks that were awake
  abbrev awake : ℕ → List RunRow → List TaskRow → ℕ → Draft → Draft
  awake self rows tasks m = make_asked c m (awake_among self rows m tasks)

  abbrev two : ℕ → Draft → Draft
  two m d = due Merge m (due End m d)

  abbrev three : ℕ → Draft → Draft
  three m d = due Start m (two m d)

  abbrev four : ℕ → Draft → Draft
  four m d = due Plan m (three m d)

  stays_two : Stays two
  stays_two = stays_both (due End) (due Merge) (stays_due End) (stays_due Merge)

  stays_three : Stays three
  stays_three = stays_both two (due Start) stays_two (stays_due Start)

  stays_four : Stays four
  stays_four = stays_both three (due Plan) stays_three (stays_due Plan)

  stays_most : (m : ℕ) (d : Draft) → (turned_most c m live d).book.moment ≡ d.book.moment
  stays_most = stays_both four asks stays_four stays_asks

  pub five : (self : ℕ) (rows : List RunRow) (tasks : List TaskRow) (s0 s1 s2 s3 s4 s5 : Seen) → s1 ≡ after (due End) s0 → s2 ≡ after (due Merge) s1 → s3 ≡ after (due Start) s2 → s4 ≡ after (due Plan) s3 → s5 ≡ after (awake self rows tasks) s4
      → s5 ≡ with_draft (turned_awake c s0.draft.book.moment live (awake_among self rows s0.draft.book.moment tasks) s0.draft) s0
  five self rows tasks s0 s1 s2 s3 s4 s5 e1 e2 e3 e4 e5 =
      let t2 : s2 ≡ after two s0 = joined (due End) (due Merge) (stays_due End) s0 s1 s2 e1 e2 in
      let t3 : s3 ≡ after three s0 = joined two (due Start) stays_two s0 s2 s3 t2 e3 in
      let t4 : s4 ≡ after four s0 = joined three (due Plan) stays_three s0 s3 s4 t3 e4 in
      joined four (awake self rows tasks) stays_four s0 s4 s5 t4 e5

-- ---- the purging, behind the others
module _ (c : Config) (number m : ℕ) (b : Book) (same : number ≡ c.number) (lawful : Lawful number b) (live : List RunKey) (s : Seen) (live_are : live ≡ keys_live_by number m b.rows) (made : s.draft ≡ turned_most c m live (fresh (settled m b))) where
  of_host : Lawful c.number b
  of_host = subst (λ n. Lawful n b) same lawful

  own : live ≡ keys_live_by c.number m b.rows
  own = live_are ∙ ap (λ n. keys_live_by n m b.rows) same

  at : s.draft.book.moment ≡ m
  at = ap (λ d. d.book.moment) made ∙ stays_most c live m (fresh (settled m b))

  purged : (keys : List RunKey) (t : Seen) → t ≡ with_draft (make_keys (purge_run c s.draft.book.moment) s.draft.book.moment keys s.draft) s → turned_by c m live keys (fresh (settled m b)) ≡ turned c m (fresh (settled m b)) → t.draft ≡ turned c m (fresh (settled m b))
  purged keys t is turns = ap (λ x. x.draft) is ∙ (ap₂ (λ n d. make_keys (purge_run c n) n keys d) at made ∙ turns)

  -- over all rows
  pub all_purged : (rows : List RunRow) (t : Seen) → rows ≡ b.rows → t ≡ with_draft (make_keys (purge_run c s.draft.book.moment) s.draft.book.moment (going_keys c.number s.draft.book.moment rows) s.draft) s → t.draft ≡ turned c m (fresh (settled m b))
  all_purged rows t rows_are is =
      let m0 : ℕ = s.draft.book.moment in
      let keys : going_keys c.number m0 rows ≡ going_keys c.number m b.rows = ap₂ (λ n rs. going_keys c.number n rs) at rows_are in
      purged (going_keys c.number m b.rows) t (is ∙ ap (λ ks. with_draft (make_keys (purge_run c m0) m0 ks s.draft) s) keys)
      (ap (λ ks. turned_by c m ks (going_keys c.number m b.rows) (fresh (settled m b))) own ∙ turned_begun c m b of_host)

  -- over the live ones
  pub live_purged : (t : Seen) → StillStay number b.rows m → let_go m b.rows s.draft.changes ≡ false → t ≡ with_draft (make_keys (purge_run c s.draft.book.moment) s.draft.book.moment live s.draft) s → t.draft ≡ turned c m (fresh (settled m b))
  live_purged t stay none is =
      let none_let : let_go m b.rows (turned_most c m (keys_live_by c.number m b.rows) (fresh (settled m b))).changes ≡ false =
      ap (λ ks. let_go m b.rows (turned_most c m ks (fresh (settled m b))).changes) (sym own) ∙ (ap (λ d. let_go m b.rows d.changes) (sym made) ∙ none) in
      purged live t is (ap (λ ks. turned_by c m ks ks (fresh (settled m b))) own ∙ turned_live c m b of_host (subst (λ n. StillStay n b.rows m) same stay) none_let)

-- ---- at first, and at last
module _ (c : Config) (number m : ℕ) (b : Book) (same : number ≡ c.number) (lawful : Lawful number b) (tasks : List TaskRow) (live : List RunKey) (s : Seen) (live_are : live ≡ keys_live_by number m b.rows) (opens : s ≡ opened number m c.limits b) where
  pub begun : b.moment ≤ m → m ≤ greatest_moment → tasks ≡ b.tasks → (rows : List RunRow) (exclusive : List RunKey) → rows ≡ b.rows → exclusive ≡ exclusive_keys rows live → IsLiveTurn c tasks live exclusive s
  begun later bound tasks_are rows exclusive rows_are exclusive_are =
      let first : IsLiveTurn c b.tasks (keys_live_by number m b.rows) (exclusive_keys b.rows (keys_live_by number m b.rows)) (opened number m c.limits b) = record {
        turn = record {
          number = same;
          book = record { lawful = subst (λ n. Lawful n (settled m b)) same (book_settled number b m later bound lawful); limits = refl; tasks = refl };
        };
        active = settled_active number m b.rows;
        exclusive_held = settled_exclusive m b.rows (keys_live_by number m b.rows);
      } in
      let opened_so : IsLiveTurn c b.tasks (keys_live_by number m b.rows) (exclusive_keys b.rows (keys_live_by number m b.rows)) s = subst (IsLiveTurn c b.tasks (keys_live_by number m b.rows) (exclusive_keys b.rows (keys_live_by number m b.rows))) (sym opens) first in
      let own_live : IsLiveTurn c b.tasks live (exclusive_keys b.rows live) s = subst (λ ks. IsLiveTurn c b.tasks ks (exclusive_keys b.rows ks) s) (sym live_are) opened_so in
      let own_exclusive : IsLiveTurn c b.tasks live exclusive s = subst (λ es. IsLiveTurn c b.tasks live es s) (sym (exclusive_are ∙ ap (λ rs. exclusive_keys rs live) rows_are)) own_live in
      subst (λ ts. IsLiveTurn c ts live exclusive s) (sym tasks_are) own_exclusive

  -- the groups before the purging, from there
  pub begun_most : tasks ≡ b.tasks → (t : Seen) → t ≡ with_draft (turned_awake c s.draft.book.moment live (awake_among number b.rows s.draft.book.moment tasks) s.draft) s → t.draft ≡ turned_most c m live (fresh (settled m b))
  begun_most tasks_are t is =
      ap (λ x. x.draft) is
      ∙ (ap (λ x. turned_awake c x.draft.book.moment live (awake_among number b.rows x.draft.book.moment tasks) x.draft) opens
      ∙ (ap₂ (λ n ts. turned_awake c m live (awake_among n b.rows m ts) (fresh (settled m b))) same tasks_are
      ∙ awake_same c m live b (subst (λ n. Lawful n b) same lawful)))

-- what a turn ends with are its changes
pub ended_turn : (c : Config) (m : ℕ) (b : Book) (t : Seen) → t.draft ≡ turned c m (fresh (settled m b)) → t.draft.changes ≡ turn_changes c (settled m b) m
ended_turn c m b t is = ap (λ d. d.changes) is ∙ (turned_is m c (settled m b)).0
