-- What a draft keeps of its parts as a change is made.
use Rattle.std.proofs.Common.{◌≡◌, ◌≤◌, ◌<◌, ◌+◌, ◌-◌, ◌&&◌, ◌++◌, ◌∷◌, ℕ, Bool, true, false, cond, nat_le, nat_lt, List, [], Option, Some, None, option_map, length, min, refl, ap, ap₂, sym, subst, ◌∙◌, arith}
use Rattle.std.proofs.lemmas.Bool.Decides.{nat_tests}
use Rattle.std.specs.Prelude.{IsSome}
use Rattle.std.specs.Ordering.{is_eq}
use Rattle.ps_time.specs.Key.{key_cmp}
use Rattle.ps_time.specs.declared.key.RunKey.{RunKey}
use Rattle.limit_apply.specs.Limits.{LimitsConfig as Limits}
use Rattle.run_states.specs.Life.{first_there}
use Rattle.run_states.specs.ResultBytes.{result_bytes, row_bytes}
use Rattle.run_states.specs.Rows.{change_row, find_row, lift_row, put_row}
use Rattle.run_states.specs.declared.row.RunRow.{RunRow}
use Rattle.host_rows.specs.Ledger.{bytes_at, most_counted}
use Rattle.host_rows.proofs.RowLemmas.{bytes_changed, bytes_lifted, bytes_put, bytes_within, found_change}
use Rattle.host_rows.proofs.LiveLemmas.{length_changed, length_put}
use Rattle.host_model.specs.Apply.{apply, put_new}
use Rattle.host_model.specs.Book.{Book}
use Rattle.host_model.specs.Lawful.{Lawful}
use Rattle.host_model.specs.MayFollow.{CanApply}
use Rattle.host_model.specs.declared.change.Change.{Change}
use Rattle.host_model.proofs.Keyed.{key_same}
use Rattle.host_draft.specs.Draft.{IsDraft, Seen, admits, book_now}
use Rattle.host_draft.specs.Making.{IsAdmitted, made_in}
use Rattle.draft_parts.specs.Overlay.{below, over}
use Rattle.draft_parts.proofs.CountLemmas.{brought}
use Rattle.host_draft.proofs.DraftLemmas.{bytes_kept, fewer_rows, made_shown, now_last, shown}
use Rattle.draft_parts.proofs.OverLemmas.{below_own, find_row-put, found_gone, found_marked, found_touched, new_at}

-- ---- tests of places and bytes
both : (a b : Bool) → (a && b) ≡ true → (a ≡ true) × (b ≡ true)
both true b e = (refl, e)
both false b e = cc

le_from : (n m : ℕ) → nat_le n m ≡ true → n ≤ m
le_from n m e = grind (arith, nat_tests)

lt_from : (n m : ℕ) → nat_lt n m ≡ true → n < m
lt_from n m e = grind (arith, nat_tests)

-- ---- a copy of the row of a key
-- is found by it as the row was
pub found_there : (ts : List RunRow) (gone : List RunKey) (book : List RunRow) (k : RunKey) → find_row (put_new (below gone book k) ts) k ≡ over ts gone book k
found_there ts gone book k = new_at (below gone book) (below_own gone book) ts k k ∙ ap (λ t. first_there (find_row ts k) (cond t (below gone book k) None)) (key_same k)

-- where none is found over the book, there is no copy
first_left : (a o : Option RunRow) → first_there a o ≡ None → a ≡ None
first_left None o e = refl
first_left (Some r) o e = cc

-- ---- bytes of results as one row changes
-- two lists in which a key finds the same, once its row changed
pub found_alike : (f : RunRow → RunRow) → ((r : RunRow) → (f r).key ≡ r.key) → (xs ys : List RunRow) (k : RunKey) → find_row xs k ≡ find_row ys k → find_row (change_row f xs k) k ≡ find_row (change_row f ys k) k
found_alike f same xs ys k at =
    found_change f same xs k k
    ∙ (ap (option_map (λ r. cond (is_eq (key_cmp r.key k)) (f r) r)) at
    ∙ sym (found_change f same ys k k))

-- ---- more copies
-- what is kept where more rows lie over the book's, and each key finds the same
pub copied_kept : (number m : ℕ) (b : Book) (cs : List Change) (ts : List RunRow) (gone : List RunKey) (epoch count bytes left : ℕ) → IsDraft number m b (book_now m cs b) ts gone epoch count bytes left
    → (over_it : List RunRow) (also : List Change) (l : ℕ) → also ≡ cs → l ≡ left → ((j : RunKey) → over over_it gone b.rows j ≡ over ts gone b.rows j) → IsDraft number m b (book_now m also b) over_it gone epoch count bytes l
copied_kept number m b cs ts gone epoch count bytes left sound over_it also l same_changes same_left same =
    subst (λ x. IsDraft number m b (book_now m x b) over_it gone epoch count bytes l) (sym same_changes) (record {
      moment = sound.moment;
      at = sound.at;
      lawful = sound.lawful;
      found = λ j. sound.found j ∙ sym (same j);
      tasks = sound.tasks;
      epochs = sound.epochs;
      epoch = sound.epoch;
      count = sound.count;
      bytes = sound.bytes;
      room = subst (λ n. bytes + n ≤ most_counted) (sym same_left) sound.room;
    })

-- a copy of the row of a key
pub touched_kept : (number m : ℕ) (b : Book) (cs : List Change) (ts : List RunRow) (gone : List RunKey) (epoch count bytes left : ℕ) → IsDraft number m b (book_now m cs b) ts gone epoch count bytes left
    → (k : RunKey) (over_it : List RunRow) (also : List Change) (l : ℕ) → also ≡ cs → l ≡ left → over_it ≡ put_new (below gone b.rows k) ts → IsDraft number m b (book_now m also b) over_it gone epoch count bytes l
touched_kept number m b cs ts gone epoch count bytes left sound k over_it also l same_changes same_left is =
    copied_kept number m b cs ts gone epoch count bytes left sound over_it also l same_changes same_left
    (λ j. ap (λ x. over x gone b.rows j) is ∙ found_touched (below gone b.rows) (below_own gone b.rows) ts k j)

-- ---- a change that is made
module _ (number m : ℕ) (limits : Limits) (b : Book) (cs : List Change) (ts : List RunRow) (gone : List RunKey) (epoch count bytes places left : ℕ)
    (sound : IsDraft number m b (book_now m cs b) ts gone epoch count bytes left) (s : Seen) (seen : shown number limits (book_now m cs b) cs places left ≡ s)
    (size : ℕ) (c : Change) (due : IsAdmitted size c s) where
  -- what is asked of the book that is shown holds of the one that is kept
  pub spoken : Lawful number (apply (book_now m cs b).moment c (book_now m cs b))
  spoken = subst (λ (x : Seen). Lawful x.number (apply x.draft.book.moment c x.draft.book)) (sym seen) due.lawful

  pub after : Lawful number (apply m c (book_now m cs b))
  after = subst (λ n. Lawful number (apply n c (book_now m cs b))) sound.at spoken

  pub can : CanApply (book_now m cs b) c
  can = subst (λ (x : Seen). CanApply x.draft.book c) (sym seen) due.can

  fits : (nat_lt 0 places && nat_le size left) ≡ true
  fits = subst (λ (x : Seen). admits size x.draft ≡ true) (sym seen) due.admits

  -- there is place for it
  pub place : 0 < places
  place = lt_from 0 places (both (nat_lt 0 places) (nat_le size left) fits).0

  pub within : size ≤ left
  within = le_from size left (both (nat_lt 0 places) (nat_le size left) fits).1

  -- what is shown
  pub shown_made : (later : List Change) (p l : ℕ) → later ≡ cs ++ c ∷ [] → p ≡ places - 1 → l ≡ left - size → shown number limits (book_now m later b) later p l ≡ made_in c s
  shown_made later p l next fewer less =
      ap₂ (λ x y. shown number limits (book_now m later b) later x y) fewer (less ∙ ap (λ n. left - n) due.bytes)
      ∙ made_shown number m limits b cs places left c s seen sound.at later next (subst (λ n. admits n s.draft ≡ true) due.bytes due.admits)

  -- what is kept
  pub kept : (later : List Change) (over_it : List RunRow) (went : List RunKey) (n all l : ℕ) → later ≡ cs ++ c ∷ [] → (apply m c (book_now m cs b)).tasks ≡ (book_now m cs b).tasks → (apply m c (book_now m cs b)).epochs ≡ (book_now m cs b).epochs
      → ((k : RunKey) → find_row (apply m c (book_now m cs b)).rows k ≡ over over_it went b.rows k)
      → n ≡ length (apply m c (book_now m cs b)).rows → all ≡ result_bytes (apply m c (book_now m cs b)).rows → all ≤ bytes + size → l ≡ left - size
      → IsDraft number m b (book_now m later b) over_it went epoch n all l
  kept later over_it went n all l next tasks epochs found many bytes_are more less =
      subst (λ x. IsDraft number m b x over_it went epoch n all l) (sym (now_last m cs later c b next)) (record {
        moment = sound.moment;
        at = sound.at;
        lawful = after;
        found = found;
        tasks = tasks ∙ sound.tasks;
        epochs = epochs ∙ sound.epochs;
        epoch = sound.epoch ∙ ap length (sym epochs);
        count = many;
        bytes = bytes_are;
        room = let room = sound.room in let small = within in omega (arith, room, small, more, less);
      })

  -- ---- one row changes
  module _ (f : RunRow → RunRow) (same : (r : RunRow) → (f r).key ≡ r.key) (k : RunKey) (tasks : (apply m c (book_now m cs b)).tasks ≡ (book_now m cs b).tasks) (epochs : (apply m c (book_now m cs b)).epochs ≡ (book_now m cs b).epochs)
      (rows : (apply m c (book_now m cs b)).rows ≡ change_row f (book_now m cs b).rows k) where
    changed_kept : (later : List Change) (over_it : List RunRow) (all l : ℕ) → later ≡ cs ++ c ∷ [] → over_it ≡ change_row f (put_new (below gone b.rows k) ts) k → all ≡ result_bytes (change_row f (book_now m cs b).rows k) → all ≤ bytes + size → l ≡ left - size
        → IsDraft number m b (book_now m later b) over_it gone epoch count all l
    changed_kept later over_it all l next is bytes_are more less =
        kept later over_it gone count all l next tasks epochs
        (λ j. ap (λ x. find_row x j) rows
        ∙ (found_marked (below gone b.rows) (below_own gone b.rows) f same (book_now m cs b).rows ts k sound.found j
        ∙ ap (λ x. over x gone b.rows j) (sym is)))
        (let many = length_changed f (book_now m cs b).rows k in let all_rows = ap length rows in omega (arith, sound.count, many, all_rows))
        (bytes_are ∙ ap result_bytes (sym rows))
        more less

    -- and keeps its results
    pub steady_kept : ((r : RunRow) → row_bytes (f r) ≡ row_bytes r) → (later : List Change) (over_it : List RunRow) (l : ℕ) → later ≡ cs ++ c ∷ [] → over_it ≡ change_row f (put_new (below gone b.rows k) ts) k → l ≡ left - size
        → IsDraft number m b (book_now m later b) over_it gone epoch count bytes l
    steady_kept steady later over_it l next is less = changed_kept later over_it bytes l next is (sound.bytes ∙ sym (bytes_kept f steady (book_now m cs b).rows k)) (omega arith) less

    -- or has more of them
    module _ (n : ℕ) (brings : (r : RunRow) → row_bytes (f r) ≤ row_bytes r + n) (small : n ≤ size) where
      copied : (over_it : List RunRow) → over_it ≡ put_new (below gone b.rows k) ts → find_row over_it k ≡ find_row (book_now m cs b).rows k
      copied over_it is = ap (λ x. find_row x k) is ∙ (found_there ts gone b.rows k ∙ sym (sound.found k))

      -- the copy's are among all
      pub copy_within : (over_it : List RunRow) → over_it ≡ put_new (below gone b.rows k) ts → bytes_at (find_row over_it k) ≤ bytes
      copy_within over_it is =
          let all = bytes_within (book_now m cs b).rows k in
          let own = ap bytes_at (copied over_it is) in
          omega (arith, all, own, sound.bytes)

      pub brought_within : bytes + n ≤ most_counted
      brought_within = let room = sound.room in let fit = within in omega (arith, room, fit, small)

      pub grown_kept : (later : List Change) (copy over_it : List RunRow) (all l : ℕ) → later ≡ cs ++ c ∷ [] → copy ≡ put_new (below gone b.rows k) ts → over_it ≡ change_row f copy k → all + bytes_at (find_row copy k) ≡ bytes + bytes_at (find_row over_it k) → l ≡ left - size
          → IsDraft number m b (book_now m later b) over_it gone epoch count all l
      grown_kept later copy over_it all l next copy_is is counted less =
          let before = ap bytes_at (copied copy copy_is) in
          let once = ap bytes_at (ap (λ x. find_row x k) is ∙ found_alike f same copy (book_now m cs b).rows k (copied copy copy_is)) in
          let whole = bytes_changed f same (book_now m cs b).rows k sound.lawful.ascending in
          let more = brought f same n brings (book_now m cs b).rows k in
          let own = bytes_within (book_now m cs b).rows k in
          changed_kept later over_it all l next (is ∙ ap (λ x. change_row f x k) copy_is) (omega (arith, before, once, whole, counted, sound.bytes)) (omega (arith, before, once, more, counted, small)) less

  -- ---- no row changes
  pub idle_kept : (apply m c (book_now m cs b)).tasks ≡ (book_now m cs b).tasks → (apply m c (book_now m cs b)).epochs ≡ (book_now m cs b).epochs → (apply m c (book_now m cs b)).rows ≡ (book_now m cs b).rows
      → (later : List Change) (l : ℕ) → later ≡ cs ++ c ∷ [] → l ≡ left - size → IsDraft number m b (book_now m later b) ts gone epoch count bytes l
  idle_kept tasks epochs rows later l next less =
      kept later ts gone count bytes l next tasks epochs (λ j. ap (λ x. find_row x j) rows ∙ sound.found j) (sound.count ∙ ap length (sym rows)) (sound.bytes ∙ ap result_bytes (sym rows)) (omega arith) less

  -- ---- a row goes
  module _ (k : RunKey) (tasks : (apply m c (book_now m cs b)).tasks ≡ (book_now m cs b).tasks) (epochs : (apply m c (book_now m cs b)).epochs ≡ (book_now m cs b).epochs)
      (rows : (apply m c (book_now m cs b)).rows ≡ lift_row (book_now m cs b).rows k) (there : IsSome (find_row (book_now m cs b).rows k))
      (own : ℕ) (is : own ≡ min (bytes_at (over ts gone b.rows k)) most_counted) where
    own_within : own ≤ bytes
    own_within =
        let all = bytes_within (book_now m cs b).rows k in
        let at = ap bytes_at (sound.found k) in
        omega (arith, all, at, is, sound.bytes)

    own_is : own ≡ bytes_at (find_row (book_now m cs b).rows k)
    own_is =
        let all = bytes_within (book_now m cs b).rows k in
        let at = ap bytes_at (sound.found k) in
        let room = sound.room in
        omega (arith, all, at, is, sound.bytes, room)

    fewer : length (lift_row (book_now m cs b).rows k) + 1 ≡ length (book_now m cs b).rows
    fewer = go (find_row (book_now m cs b).rows k) refl there
      where
        go : (o : Option RunRow) → find_row (book_now m cs b).rows k ≡ o → IsSome o → length (lift_row (book_now m cs b).rows k) + 1 ≡ length (book_now m cs b).rows
        go None at some = cc
        go (Some r) at some = fewer_rows (book_now m cs b).rows k r sound.lawful.ascending at

    -- its bytes are among all, and there was a row
    pub purge_within : own ≤ bytes
    purge_within = own_within

    pub purge_counted : 1 ≤ count
    purge_counted = let less = fewer in omega (arith, less, sound.count)

    pub purged_kept : (later : List Change) (over_it : List RunRow) (went : List RunKey) (l : ℕ) → later ≡ cs ++ c ∷ [] → over_it ≡ lift_row ts k → went ≡ gone ++ k ∷ [] → l ≡ left - size
        → IsDraft number m b (book_now m later b) over_it went epoch (count - 1) (bytes - own) l
    purged_kept later over_it went l next over_is went_is less =
        kept later over_it went (count - 1) (bytes - own) l next tasks epochs
        (λ j. ap (λ x. find_row x j) rows
        ∙ (found_gone (book_now m cs b).rows ts gone b.rows k sound.found j
        ∙ ap₂ (λ x y. over x y b.rows j) (sym over_is) (sym went_is)))
        (let one = fewer in let all_rows = ap length rows in omega (arith, one, sound.count, all_rows))
        (let all = bytes_lifted (book_now m cs b).rows k sound.lawful.ascending in let all_bytes = ap result_bytes rows in omega (arith, all, own_is, sound.bytes, all_bytes))
        (omega arith)
        less

  -- ---- a new row
  module _ (r : RunRow) (tasks : (apply m c (book_now m cs b)).tasks ≡ (book_now m cs b).tasks) (epochs : (apply m c (book_now m cs b)).epochs ≡ (book_now m cs b).epochs)
      (rows : (apply m c (book_now m cs b)).rows ≡ put_row (book_now m cs b).rows r) (none : find_row (book_now m cs b).rows r.key ≡ None) (bare : row_bytes r ≡ 0) where
    -- its key isn't among the copies
    pub new_above : find_row ts r.key ≡ None
    new_above = first_left (find_row ts r.key) (below gone b.rows r.key) (sym (sound.found r.key) ∙ none)

    found_put : (j : RunKey) → find_row (put_row (book_now m cs b).rows r) j ≡ over (put_row ts r) gone b.rows j
    found_put j =
        find_row-put r (book_now m cs b).rows j none
        ∙ (ap (cond (is_eq (key_cmp r.key j)) (Some r)) (sound.found j)
        ∙ (one (is_eq (key_cmp r.key j))
        ∙ ap (λ o. first_there o (below gone b.rows j)) (sym (find_row-put r ts j new_above))))
      where
        one : (t : Bool) → cond t (Some r) (over ts gone b.rows j) ≡ first_there (cond t (Some r) (find_row ts j)) (below gone b.rows j)
        one true = refl
        one false = refl

    pub asked_kept : (later : List Change) (over_it : List RunRow) (l : ℕ) → later ≡ cs ++ c ∷ [] → over_it ≡ put_row ts r → l ≡ left - size
        → IsDraft number m b (book_now m later b) over_it gone epoch (count + 1) bytes l
    asked_kept later over_it l next over_is less =
        kept later over_it gone (count + 1) bytes l next tasks epochs
        (λ j. ap (λ x. find_row x j) rows ∙ (found_put j ∙ ap (λ x. over x gone b.rows j) (sym over_is)))
        (let one = length_put (book_now m cs b).rows r in let all_rows = ap length rows in omega (arith, one, sound.count, all_rows))
        (let all = bytes_put (book_now m cs b).rows r in let all_bytes = ap result_bytes rows in omega (arith, all, bare, sound.bytes, all_bytes))
        (omega arith)
        less
