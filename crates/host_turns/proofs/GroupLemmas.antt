-- One wish after another over a draft: each may be made, and what is left decides.
use Rattle.std.specs.List.{range_with_len}
use Rattle.std.specs.Prelude.{◌||◌, IfSome, IsSome, filter}
use Rattle.std.proofs.Common.{◌≡◌, ◌<◌, ◌+◌, ℕ, true, List, ◌∷◌, length, map, get_or, drop, drop-cons, add-one, Option, Some, None, option_and_then, refl, sym, ap, subst, ◌∙◌, Bool, false, cond, []}
use Rattle.ps_time.specs.Name.{is_name}
use Rattle.ps_time.specs.declared.key.RunKey.{RunKey}
use Rattle.run_states.specs.Purging.{is_long_past}
use Rattle.run_states.specs.Rows.{find_row}
use Rattle.run_states.specs.declared.row.RunRow.{RunRow}
use Rattle.host_model.specs.Apply.{apply}
use Rattle.host_model.specs.Book.{Book, find_task, keys_of_rows}
use Rattle.host_model.specs.Draft.{Draft, make, make_each}
use Rattle.host_model.specs.Lawful.{Lawful}
use Rattle.host_model.specs.NextAttempt.{ask}
use Rattle.host_model.specs.Purging.{purge_run}
use Rattle.host_model.specs.declared.change.Change.{Change}
use Rattle.host_model.specs.declared.config.Config.{Config}
use Rattle.host_model.specs.declared.task_row.TaskRow.{TaskRow}
use Rattle.host_model.proofs.Placed.{find_row-key, find_row-own}
use Rattle.host_rows.specs.LiveKeys.{find_own}
use Rattle.host_rows.specs.Still.{is_live_by}
use Rattle.live_law.specs.Groups.{going_keys, make_keys}
use Rattle.live_law.proofs.DraftLemmas.{made_keeps}
use Rattle.host_draft.specs.Draft.{Seen, with_draft}
use Rattle.host_turns.specs.Wishes.{HoldActive}
use Rattle.host_turns.specs.Turns.{HoldExclusive, IsLiveTurn, IsOfHost, IsTurn, MayMake, wish_of}
use Rattle.host_turns.specs.declared.due.Due.{Due}
use Rattle.host_turns.proofs.GrantLemmas.{Granted, ask_grants, due_grants, granted_lawful, granted_next, purge_grants}
use Rattle.host_turns.proofs.KeepLemmas.{due_active}
use Rattle.host_turns.proofs.TaskLemmas.{task_at}

-- ---- one wish
found_along : {K : Type 0} (wish : K → Option Change) (o : Option K) (x : Change) → option_and_then wish o ≡ Some x → (k : K) × (o ≡ Some k) × (wish k ≡ Some x)
found_along wish None x e = cc
found_along wish (Some k) x e = (k, refl, e)

module _ (c : Config) (known : List TaskRow) (s : Seen) (is : IsTurn c known s) where
  abbrev book : Book
  book = s.draft.book

  -- the draft after it
  abbrev after : Option Change → Seen
  after o = with_draft (make book.moment o s.draft) s

  may : (x : Change) → Granted c book x → MayMake s x
  may x g = record { kind = g.kind; can = g.can; lawful = subst (λ n. Lawful n (apply book.moment x book)) (sym is.number) (granted_lawful c s.limits known book is.book x g) }

  made : (x : Change) → Granted c book x → IsTurn c known (after (Some x))
  made x g = record { number = is.number; book = made_keeps (IsOfHost c s.limits known) book.moment x s.draft is.book (granted_next c s.limits known book is.book x g) }

  -- of a row
  module _ (wish : RunRow → Option Change) (grants : (r : RunRow) → find_row book.rows r.key ≡ Some r → (x : Change) → wish r ≡ Some x → Granted c book x) (k : RunKey) where
    granted_at : (x : Change) → Some x ≡ option_and_then wish (find_row book.rows k) → Granted c book x
    granted_at x e = let f = found_along wish (find_row book.rows k) x (sym e) in grants f.0 (find_row-own book.rows k f.0 f.1) x f.2

    row_may : (o : Option Change) → o ≡ option_and_then wish (find_row book.rows k) → IfSome o (MayMake s)
    row_may None e = tt
    row_may (Some x) e = may x (granted_at x e)

    row_turn : (o : Option Change) → o ≡ option_and_then wish (find_row book.rows k) → IsTurn c known (after o)
    row_turn None e = is
    row_turn (Some x) e = made x (granted_at x e)

  pub purge_may : (k : RunKey) (o : Option Change) → o ≡ option_and_then (purge_run c book.moment book) (find_row book.rows k) → IfSome o (MayMake s)
  purge_may k = row_may (purge_run c book.moment book) (λ r at. purge_grants c book is.book.lawful r at) k

  pub purge_turn : (k : RunKey) (o : Option Change) → o ≡ option_and_then (purge_run c book.moment book) (find_row book.rows k) → IsTurn c known (after o)
  purge_turn k = row_turn (purge_run c book.moment book) (λ r at. purge_grants c book is.book.lawful r at) k

  pub due_may : (due : Due) (k : RunKey) (o : Option Change) → o ≡ option_and_then (wish_of due c book.moment book) (find_row book.rows k) → IfSome o (MayMake s)
  due_may due k = row_may (wish_of due c book.moment book) (λ r at. due_grants c book is.book.lawful r at due) k

  due_turn : (due : Due) (k : RunKey) (o : Option Change) → o ≡ option_and_then (wish_of due c book.moment book) (find_row book.rows k) → IsTurn c known (after o)
  due_turn due k = row_turn (wish_of due c book.moment book) (λ r at. due_grants c book is.book.lawful r at due) k

  -- of a task
  module _ (name : is_name c.name ≡ true) (t : TaskRow) (at : find_task known t.serial ≡ Some t) where
    ask_granted_at : (x : Change) → Some x ≡ ask c book.moment book t → Granted c book x
    ask_granted_at x e = ask_grants c book is.book.lawful name t x (ap (λ tasks. find_task tasks t.serial) is.book.tasks ∙ at) (sym e)

    pub ask_may : (o : Option Change) → o ≡ ask c book.moment book t → IfSome o (MayMake s)
    ask_may None e = tt
    ask_may (Some x) e = may x (ask_granted_at x e)

    pub ask_turn : (o : Option Change) → o ≡ ask c book.moment book t → IsTurn c known (after o)
    ask_turn None e = is
    ask_turn (Some x) e = made x (ask_granted_at x e)

-- of one of the keys among which every active run's is
pub live_turn : (c : Config) (known : List TaskRow) (keys exclusive : List RunKey) (s : Seen) → IsLiveTurn c known keys exclusive s → (due : Due) (k : RunKey) → IsSome (find_own keys k) → (o : Option Change)
    → o ≡ option_and_then (wish_of due c s.draft.book.moment s.draft.book) (find_row s.draft.book.rows k) → IsLiveTurn c known keys exclusive (with_draft (make s.draft.book.moment o s.draft) s)
live_turn c known keys exclusive s is due k live o e = let held = both_held o e in record { turn = due_turn c known s is.turn due k o e; active = held.0; exclusive_held = held.1 }
  where
    both_held : (o : Option Change) → o ≡ option_and_then (wish_of due c s.draft.book.moment s.draft.book) (find_row s.draft.book.rows k) → HoldActive keys (make s.draft.book.moment o s.draft).book.rows × HoldExclusive keys exclusive (make s.draft.book.moment o s.draft).book.rows
    both_held None e = (is.active, is.exclusive_held)
    both_held (Some x) e =
        let f = found_along (wish_of due c s.draft.book.moment s.draft.book) (find_row s.draft.book.rows k) x (sym e) in
        let own : IsSome (find_own keys f.0.key) = subst (λ j. IsSome (find_own keys j)) (sym (find_row-key s.draft.book.rows k f.0 f.1)) live in
        made_keeps (λ b. HoldActive keys b.rows × HoldExclusive keys exclusive b.rows) s.draft.book.moment x s.draft (is.active, is.exclusive_held) (due_active c keys exclusive s.draft.book f.0 own is.active is.exclusive_held due x f.2)

-- ---- the moment stays
pub moment_made : (m : ℕ) (o : Option Change) (d : Draft) → (make m o d).book.moment ≡ d.book.moment
moment_made m None d = refl
moment_made m (Some x) d = made_keeps (λ b. b.moment ≡ d.book.moment) m x d refl refl

pub moment_each : {K : Type 0} (wish : Book → K → Option Change) (m : ℕ) (ks : List K) (d : Draft) → (make_each wish m ks d).book.moment ≡ d.book.moment
moment_each wish m [] d = refl
moment_each wish m (k ∷ ks) d = moment_each wish m ks (make m (wish d.book k) d) ∙ moment_made m (wish d.book k) d

pub moment_purged : (c : Config) (m : ℕ) (rows : List RunRow) (d : Draft) → (make_keys (purge_run c m) m (going_keys c.number m rows) d).book.moment ≡ d.book.moment
moment_purged c m rows d = moment_each (λ b k. option_and_then (purge_run c m b) (find_row b.rows k)) m (going_keys c.number m rows) d

-- ---- what is left decides: one step
pub step : {K : Type 0} (wish : ℕ → Book → K → Option Change) (m : ℕ) (ks rest : List K) (k : K) (s t : Seen) → ks ≡ k ∷ rest → s.draft.book.moment ≡ m → t ≡ with_draft (make s.draft.book.moment (wish s.draft.book.moment s.draft.book k) s.draft) s
    → with_draft (make_each (wish m) m ks s.draft) s ≡ with_draft (make_each (wish m) m rest t.draft) t
step wish m ks rest k s t are at is =
    ap (λ xs. with_draft (make_each (wish m) m xs s.draft) s) are
    ∙ (ap (λ n. with_draft (make_each (wish m) m rest (make n (wish n s.draft.book k) s.draft)) s) (sym at)
    ∙ ap (λ x. with_draft (make_each (wish m) m rest x.draft) x) (sym is))

-- the same of the rows that may go
split : (c : Config) (m : ℕ) (r : RunRow) (rest : List RunRow) (d : Draft)
    → make_keys (purge_run c m) m (going_keys c.number m (r ∷ rest)) d ≡ make_keys (purge_run c m) m (going_keys c.number m rest) (make_keys (purge_run c m) m (going_keys c.number m (r ∷ [])) d)
split c m r rest d = go (is_long_past m r || is_live_by c.number m r)
  where
    others : List RunRow
    others = filter (λ x. is_long_past m x || is_live_by c.number m x) rest

    go : (t : Bool) → make_keys (purge_run c m) m (keys_of_rows (cond t (r ∷ others) others)) d ≡ make_keys (purge_run c m) m (keys_of_rows others) (make_keys (purge_run c m) m (keys_of_rows (cond t (r ∷ []) [])) d)
    go true = refl
    go false = refl

pub purge_step : (c : Config) (m : ℕ) (rows rest : List RunRow) (r : RunRow) (s t : Seen) → rows ≡ r ∷ rest → s.draft.book.moment ≡ m
    → t ≡ with_draft (make_keys (purge_run c s.draft.book.moment) s.draft.book.moment (going_keys c.number s.draft.book.moment (r ∷ [])) s.draft) s
    → with_draft (make_keys (purge_run c m) m (going_keys c.number m rows) s.draft) s ≡ with_draft (make_keys (purge_run c m) m (going_keys c.number m rest) t.draft) t
purge_step c m rows rest r s t are at is =
    ap (λ rs. with_draft (make_keys (purge_run c m) m (going_keys c.number m rs) s.draft) s) are
    ∙ (ap (λ d. with_draft d s) (split c m r rest s.draft)
    ∙ (ap (λ n. with_draft (make_keys (purge_run c m) m (going_keys c.number m rest) (make_keys (purge_run c n) n (going_keys c.number n (r ∷ [])) s.draft)) s) (sym at)
    ∙ ap (λ x. with_draft (make_keys (purge_run c m) m (going_keys c.number m rest) x.draft) x) (sym is)))

-- the item at a place, and those behind it
pub behind_at : {X : Type 0} (xs : List X) (i : ℕ) (d : X) → i < length xs → drop i xs ≡ get_or xs i d ∷ drop (i + 1) xs
behind_at xs i d lt = drop-cons xs i d lt ∙ ap (λ j. get_or xs i d ∷ drop j xs) (sym (add-one i))

pub behind : {X : Type 0} (xs : List X) (i : ℕ) (x : X) → i < length xs → x ≡ get_or xs i x → drop i xs ≡ x ∷ drop (i + 1) xs
behind xs i x lt is = behind_at xs i x lt ∙ ap (λ y. y ∷ drop (i + 1) xs) (sym is)

-- ---- the tasks of the host
-- each is found by its serial
pub known_task : (c : Config) (known : List TaskRow) (s : Seen) → IsTurn c known s → (i : ℕ) (t : TaskRow) → i < length known → t ≡ get_or known i t → find_task known t.serial ≡ Some t
known_task c known s is i t lt same =
    let serials : map (λ x. x.serial) known ≡ range_with_len 1 (length known) = subst (λ tasks. map (λ x. x.serial) tasks ≡ range_with_len 1 (length tasks)) is.book.tasks is.book.lawful.serials in
    ap (λ x. find_task known x.serial) same ∙ (task_at known 1 i t serials lt ∙ ap Some (sym same))

-- so what is made of it is what its serial wishes for
pub ask_by_serial : (c : Config) (known : List TaskRow) (s t : Seen) → IsTurn c known s → (task : TaskRow) → find_task known task.serial ≡ Some task
    → t ≡ with_draft (make s.draft.book.moment (ask c s.draft.book.moment s.draft.book task) s.draft) s
    → t ≡ with_draft (make s.draft.book.moment (option_and_then (ask c s.draft.book.moment s.draft.book) (find_task s.draft.book.tasks task.serial)) s.draft) s
ask_by_serial c known s t is task at made =
    let found : find_task s.draft.book.tasks task.serial ≡ Some task = ap (λ tasks. find_task tasks task.serial) is.book.tasks ∙ at in
    made ∙ ap (λ o. with_draft (make s.draft.book.moment o s.draft) s) (sym (ap (option_and_then (ask c s.draft.book.moment s.draft.book)) found))
