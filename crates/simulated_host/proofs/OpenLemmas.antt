-- What disks are opened as: the stage for which they stand, at their place.
use Rattle.std.specs.Prelude.{◌⊎◌, IfOk, OnOk}
use Rattle.std.proofs.Common.{◌≡◌, ◌∙◌, ◌∷◌, ap, inl, inr, refl, subst, sym, Bool, false, true, List, [], length, None, Result, Ok, Err, ℕ}
use Rattle.ps_disks.specs.declared.rack.TheConstants.{FRESH_FIRST, FRESH_SECOND}
use Rattle.host_journal.specs.Pair.{pair_of}
use Rattle.host_journal.specs.declared.reading.Counted.{Counted}
use Rattle.host_journal.specs.declared.reading.DiskPlace.{DiskPlace}
use Rattle.host_keep.specs.Standing.{Standing, StandsNow, StoodOnce}
use Rattle.host_model.proofs.LawfulBook.{empty_lawful}
use Rattle.host_model.specs.Book.{Book, empty_book}
use Rattle.host_model.specs.declared.config.Config.{Config}
use Rattle.host_model.specs.declared.input.Input.TheVariants.{Open}
use Rattle.host_keep.specs.Stands.{StandsAs, StandsFor as BookStands}
use Rattle.host_replay.proofs.OneBookLemmas.{apart}
use Rattle.machine_keep.specs.Kept.{StandsEither, StandsFor}
use Rattle.simulated_machine.specs.Held.{Held, Place, place_at, with_snapshot}
use Rattle.world_law.specs.World.{Stage}
use Rattle.rehearsal_model.specs.Simulated.{Left, unarmed_on, new_left, new_place, opened_on, snapshot_length, stepped}
use Rattle.rehearsal_model.proofs.UnarmedLemmas.{stepped_done}
use Rattle.simulated_host.specs.Staged.{IsLeft, stage_of, staged, standing_of}
use Rattle.simulated_host.proofs.StepLemmas.{snapshot_is}

-- ---- a list stands for a book in one form alone
forms_apart : (self : ℕ) (list : List (List ℕ)) (a b : Book) → StandsAs true self list a → StandsAs false self list b → ⊥
forms_apart self [] a b x y = x
forms_apart self (snapshot ∷ records) a b x y = apart self snapshot x.from y.from x.is y.is y.lawful

-- ---- the book for which two disks stand
-- a list stands for one book alone
abbrev OneBook : Type 0
OneBook = (self : ℕ) (list : List (List ℕ)) (a b : Book) → BookStands self list a → BookStands self list b → a ≡ b

book_stands : (self : ℕ) (list : List (List ℕ)) (b : Book) → StandsAs true self list b ⊎ StandsAs false self list b → BookStands self list b
book_stands self [] b stands = elim stands [ inl x ↦ absurd x | inr x ↦ absurd x ]
book_stands self (snapshot ∷ records) b stands = stands

same_book : OneBook → (c : Config) (pair : Result Counted DiskPlace) (a b : Book) → StandsEither StandsNow StoodOnce (record { config = c; book = a }) pair → StandsEither StandsNow StoodOnce (record { config = c; book = b }) pair → a ≡ b
same_book one c (Ok k) a b x y = one c.number k.list a b (book_stands c.number k.list a x) (book_stands c.number k.list b y)
same_book one c (Err place) a b x y = elim x [ inl e ↦ absurd e | inr e ↦ absurd e ]

not_both : (c d : Config) → c ≡ d → (a b : Book) (pair : Result Counted DiskPlace) → StandsFor StandsNow (record { config = c; book = a }) pair → StandsFor StoodOnce (record { config = d; book = b }) pair → ⊥
not_both c d same a b (Ok k) x y = forms_apart c.number k.list a b x (subst (λ (e : Config). StandsAs false e.number k.list b) (sym same) y)
not_both c d same a b (Err place) x y = x

-- ---- a machine as it was opened on such disks
within : Counted → Result Counted DiskPlace → Counted
within k (Ok read) = read
within k (Err place) = k

ok_same : (a b : Counted) → (r : Result Counted DiskPlace) → r ≡ Ok a → r ≡ Ok b → a ≡ b
unfolding within
ok_same a b r one two = sym (ap (within a) one) ∙ ap (within a) two

module _ (one : OneBook) (config : Config) (pair : Result Counted DiskPlace) (h : Held Standing) (fixed : h.state.config ≡ config) (either : StandsEither StandsNow StoodOnce h.state pair)
    (ready : (h.ready ≡ true) × (h.unsynced ≡ None) × (h.first ≡ 0) × (h.second ≡ 0))
    (read : Counted) (is_read : pair ≡ Ok read)
    (placed : (StandsFor StandsNow h.state pair × (h.place ≡ place_at read)) ⊎ (StandsFor StoodOnce h.state pair × ((image : List ℕ) × StandsNow (image ∷ []) h.state × (h.place ≡ with_snapshot (place_at read) (length image))))) where
  no_fault_with : (s : Stage) → stage_of h.state ≡ s → (p : Place) → h.place ≡ p → staged h ≡ unarmed_on (record { state = s; place = p })
  no_fault_with s a p b =
      ap (λ (x : Stage). record { state = x; place = h.place; ready = h.ready; unsynced = (staged h).unsynced; first = h.first; second = h.second }) a
      ∙ (ap (λ (x : Place). record { state = s; place = x; ready = h.ready; unsynced = (staged h).unsynced; first = h.first; second = h.second }) b
      ∙ (ap (λ (x : Bool). record { state = s; place = p; ready = x; unsynced = (staged h).unsynced; first = h.first; second = h.second }) ready.0
      ∙ (ap (λ x. record { state = s; place = p; ready = true; unsynced = x; first = h.first; second = h.second }) none
      ∙ (ap (λ (x : ℕ). record { state = s; place = p; ready = true; unsynced = None; first = x; second = h.second }) ready.2
      ∙ ap (λ (x : ℕ). record { state = s; place = p; ready = true; unsynced = None; first = 0; second = x }) ready.3))))
    where
      none : (staged h).unsynced ≡ None
      none = ap (λ l. (staged (record h { unsynced = l })).unsynced) ready.1

  state_with : (b : Book) → h.state.book ≡ b → stage_of h.state ≡ record { config = config; book = b }
  state_with b same = ap (λ (c : Config). record { config = c; book = h.state.book }) fixed ∙ ap (λ (x : Book). record { config = config; book = x }) same

  either_fixed : StandsEither StandsNow StoodOnce (record { config = config; book = h.state.book }) pair
  either_fixed = subst (λ (c : Config). StandsEither StandsNow StoodOnce (record { config = c; book = h.state.book }) pair) fixed either

  -- disks that a crash left
  pub opened_left : (left : Left) → left.state.config ≡ config → IsLeft left pair → staged h ≡ unarmed_on left
  opened_left left same stands =
      let now : StandsFor StandsNow (record { config = left.state.config; book = left.state.book }) pair = subst (λ (p : Result Counted DiskPlace). StandsFor StandsNow (standing_of left.state) p) (sym stands.is_left) stands.stood in
      let now_fixed : StandsEither StandsNow StoodOnce (record { config = config; book = left.state.book }) pair = inl (subst (λ (c : Config). StandsFor StandsNow (record { config = c; book = left.state.book }) pair) same now) in
      let same_one : h.state.book ≡ left.state.book = same_book one config pair h.state.book left.state.book either_fixed now_fixed in
      let state : stage_of h.state ≡ left.state = state_with left.state.book same_one ∙ ap (λ (c : Config). record { config = c; book = left.state.book }) (sym same) in
      let at : place_at read ≡ left.place = ap place_at (ok_same read stands.left pair is_read stands.is_left) ∙ stands.is_place in
      elim placed [
        | inl same_disk ↦ no_fault_with left.state state left.place (same_disk.1 ∙ at)
        | inr other ↦ absurd (not_both left.state.config h.state.config (same ∙ sym fixed) left.state.book h.state.book pair now other.0)
      ]

  -- new disks
  module _ (anew : pair ≡ pair_of FRESH_FIRST FRESH_SECOND) where
    fresh_once : StandsFor StoodOnce (record { config = config; book = empty_book }) (pair_of FRESH_FIRST FRESH_SECOND)
    fresh_once = record { from = empty_book; is = refl; lawful = empty_lawful config.number; leads = refl }

    pub opened_new : staged h ≡ unarmed_on (new_left config)
    opened_new =
        let once : StandsFor StoodOnce (record { config = config; book = empty_book }) pair = subst (λ (p : Result Counted DiskPlace). StandsFor StoodOnce (record { config = config; book = empty_book }) p) (sym anew) fresh_once in
        let same_one : h.state.book ≡ empty_book = same_book one config pair h.state.book empty_book either_fixed (inr once) in
        let at : place_at read ≡ new_place = fresh_at read (sym is_read ∙ anew) in
        elim placed [
          | inl same_disk ↦ absurd (not_both h.state.config config fixed h.state.book empty_book pair same_disk.0 once)
          | inr other ↦ no_fault_with (record { config = config; book = empty_book }) (state_with empty_book same_one) (with_snapshot new_place (snapshot_length empty_book))
              (other.1.2 ∙ (ap (λ (p : Place). with_snapshot p (length other.1.0)) at
              ∙ ap (with_snapshot new_place) (snapshot_is h.state other.1.0 other.1.1 ∙ ap snapshot_length same_one)))
        ]
      where
        fresh_at : (k : Counted) → Ok k ≡ pair_of FRESH_FIRST FRESH_SECOND → place_at k ≡ new_place
        fresh_at k is = ap (λ r. at_of r) is
          where
            at_of : Result Counted DiskPlace → Place
            at_of (Ok c) = place_at c
            at_of (Err place) = new_place

-- ---- its first step
pub first_step : (left : Left) (clock : ℕ) → stepped (unarmed_on left) clock Open ≡ opened_on left clock
first_step left clock = stepped_done (unarmed_on left) refl refl clock Open

-- ---- where a call ended well
pub on_ok : {T E : Type 0} {P : Type 0} (r : Result T E) (x : T) → r ≡ Ok x → P → OnOk r P
on_ok {T} {E} {P} r x is p = subst (λ (s : Result T E). OnOk s P) (sym is) p

pub if_ok : {T E : Type 0} (P : T → Type 0) (r : Result T E) (x : T) → r ≡ Ok x → P x → IfOk r P
if_ok {T} {E} P r x is p = subst (λ (s : Result T E). IfOk s P) (sym is) p
