-- What became of the row of a key by changes: it grew, and whatever is new in it has its cause.
use Rattle.std.proofs.Common.{◌≡◌, ◌≤◌, ◌⊎◌, inl, inr, ℕ, IsSome, IsTrue, List, length, Option, Some, None, is_some, slice_get, suc, refl, sym, ap, ◌∙◌, subst}
use Rattle.ps_time.specs.Numbers.{most_result_bytes}
use Rattle.ps_time.specs.Span.{Range}
use Rattle.ps_time.specs.declared.key.RunKey.{RunKey}
use Rattle.plugin_core.specs.Participants.{participants}
use Rattle.host_model.specs.Granting.{IsGrantedUnder}
use Rattle.run_states.specs.Rows.{find_row}
use Rattle.run_states.specs.declared.answer.Other.{Other}
use Rattle.run_states.specs.declared.proposal.Proposal.{Proposal}
use Rattle.run_states.specs.declared.row.Ending.{Ending}
use Rattle.run_states.specs.declared.row.RunRow.{RunRow}
use Rattle.host_model.specs.Book.{Book, epoch_of, latest_epoch}
use Rattle.host_model.specs.Grown.{Remains}
use Rattle.host_model.specs.declared.config.Config.{Config}
use Rattle.host_model.specs.declared.input.Input.{Input}
use Rattle.host_model.proofs.Evolve.{Remains-refl, Remains-trans}
use Rattle.world_law.specs.Laws.{Holds}
use Rattle.world_law.proofs.Allowed.{AcceptCause, AllFlagged, AskedIn, BornCause, ConfirmCause, Fresh, HasFlag, HeardAccepted, StartsIn, TimedCause, Was}
use Rattle.world_law.proofs.Carries.{Alike, Carries, RowGrown, grown_refl, grown_to, grown_trans}

-- an option that has something has it still
pub set_up : {A : Type 0} (o p : Option A) → Remains o p → IsSome o → IsSome p
set_up None p kept e = cc
set_up (Some a) p kept e = ap is_some (kept a refl)

-- ---- what a row carries on
pub accepted_up : (r s : RunRow) → Carries r s → IsSome r.accepted → IsSome s.accepted
accepted_up r s v e = set_up r.accepted s.accepted v.accepted e

pub confirmed_up : (r s : RunRow) → Carries r s → IsSome r.confirmed → IsSome s.confirmed
confirmed_up r s v e = set_up r.confirmed s.confirmed v.confirmed e

pub holds_up : (p : Proposal) (r s : RunRow) → Carries r s → Holds p r → Holds p s
holds_up p r s v h = record {
  key = v.key ∙ h.key;
  test = v.test ∙ h.test;
  tool = v.tool p.tool h.tool;
  interval = v.interval _ h.interval;
  priority = v.priority ∙ h.priority;
  asker = v.asker ∙ h.asker;
  accepted = accepted_up r s v h.accepted;
}

flag_up : (j : ℕ) (r s : RunRow) → Carries r s → (o : Other) × (slice_get r.others j ≡ Some o) × IsTrue o.accepted → (o : Other) × (slice_get s.others j ≡ Some o) × IsTrue o.accepted
flag_up j r s v x = let y = v.others j x.0 x.1 in (y.0, y.1, y.2.accepted x.2)

-- ---- causes are kept
pub flagged_up : (r s : RunRow) → Carries r s → AllFlagged r → AllFlagged s
flagged_up r s v f j name e = flag_up j r s v (f j name (ap (λ xs. slice_get xs (suc j)) (sym v.participants) ∙ e))

accept_up : (c : Config) (d : Book) (r s : RunRow) → Carries r s → AcceptCause c d r → AcceptCause c d s
accept_up c d r s v x = (
  x.0,
  v.interval x.0 x.1,
  subst (λ a. IsGrantedUnder c d (latest_epoch d) a s.test x.0 s.priority) (sym v.asker)
      (subst (λ t. IsGrantedUnder c d (latest_epoch d) r.asker t x.0 s.priority) (sym v.test) (subst (λ p. IsGrantedUnder c d (latest_epoch d) r.asker r.test x.0 p) (sym v.priority) x.2)),
)

pub starts_up : (r s : RunRow) → Carries r s → StartsIn r → StartsIn s
starts_up r s v x = (x.0, x.1, v.question x.0 x.2, v.interval x.1 x.3, x.4)

-- of a host with this number in a world with these names, at m, for an input; the book at the end is d
module _ (names : ℕ → List ℕ) (self m : ℕ) (i : Input) (c : Config) (d : Book) where
  -- from the row that the book a has of the key to this one, with this epoch
  pub record Moved (a : Book) (k : RunKey) (o : Option RunRow) (e : Option ℕ) : Type 0 where
    pub grown : RowGrown (find_row a.rows k) o
    pub epoch : Remains (epoch_of a k) e
    pub born : (r : RunRow) → find_row a.rows k ≡ None → o ≡ Some r → BornCause names self m i a.rows k r
    pub accepted : (r : RunRow) → o ≡ Some r → IsSome r.accepted → Was (find_row a.rows k) (λ q. IsSome q.accepted) ⊎ (AcceptCause c d r × (e ≡ Some (latest_epoch d)))
    pub confirmed : (r : RunRow) → o ≡ Some r → IsSome r.confirmed → Was (find_row a.rows k) (λ q. IsSome q.confirmed) ⊎ ConfirmCause names self m i k r
    pub flag : (r : RunRow) (j : ℕ) → o ≡ Some r → HasFlag j r → Was (find_row a.rows k) (HasFlag j) ⊎ ((k.lead ≡ self) × HeardAccepted i k (suc j))
    pub question : (r : RunRow) (w : Range) → o ≡ Some r → r.question ≡ Some w → Was (find_row a.rows k) (λ q. q.question ≡ Some w) ⊎ AskedIn d k w
    pub short : (r : RunRow) (x : Ending) → o ≡ Some r → r.ended ≡ Some x → Was (find_row a.rows k) (λ q. q.ended ≡ Some x) ⊎ (length x.body ≤ most_result_bytes)
    pub timed : (r : RunRow) → o ≡ Some r → IsSome r.accepted → Was (find_row a.rows k) (λ q. IsSome q.accepted) ⊎ TimedCause names self m i k r

  pub moved_refl : (a : Book) (k : RunKey) → Moved a k (find_row a.rows k) (epoch_of a k)
  moved_refl a k = record {
    grown = grown_refl (find_row a.rows k);
    epoch = Remains-refl (epoch_of a k);
    born = λ r e f. cc;
    accepted = λ r e f. inl (r, e, f);
    confirmed = λ r e f. inl (r, e, f);
    flag = λ r j e f. inl (r, e, f);
    question = λ r w e f. inl (r, e, f);
    short = λ r x e f. inl (r, e, f);
    timed = λ r e f. inl (r, e, f);
  }

  born_up : (rows : List RunRow) (k : RunKey) (r s : RunRow) → Carries r s → BornCause names self m i rows k r → BornCause names self m i rows k s
  born_up rows k r s v x = (
    v.participants ∙ x.0 ∙ ap (λ t. participants t (names k.lead)) (sym v.test),
    elim x.1 [ inl f ↦ inl (f.0, f.1, ap (λ xs. slice_get xs 0) v.participants ∙ f.2, ap (λ a. a.server) v.asker ∙ f.3) | inr f ↦ inr (f.0, f.1, holds_up f.0 r s v f.2, f.3, f.4) ],
  )

  confirm_up : (k : RunKey) (r s : RunRow) → Carries r s → ConfirmCause names self m i k r → ConfirmCause names self m i k s
  confirm_up k r s v x = elim x [ inl f ↦ inl f | inr f ↦ inr (f.0, flagged_up r s v f.1) ]

  timed_up : (k : RunKey) (r s : RunRow) → Carries r s → TimedCause names self m i k r → TimedCause names self m i k s
  timed_up k r s v x = elim x [ inl f ↦ inl f | inr f ↦ inr (elim f [ inl g ↦ inl g | inr g ↦ inr (starts_up r s v g) ]) ]

  -- fresh among rows all of which stand on is fresh before
  fresh_down : (rows more : List RunRow) (k : RunKey) → ((j : RunKey) → RowGrown (find_row rows j) (find_row more j)) → Fresh more k → Fresh rows k
  fresh_down rows more k grows f j q e lead task = let s = grows j q e in f j s.0 s.1 lead task

  module _ (a b : Book) (all : (j : RunKey) → RowGrown (find_row a.rows j) (find_row b.rows j)) (k : RunKey) (o : Option RunRow) (e : Option ℕ) (first : Moved a k (find_row b.rows k) (epoch_of b k)) (next : Moved b k o e) where
    up : (q r : RunRow) → find_row b.rows k ≡ Some q → o ≡ Some r → Carries q r
    up q r f g = grown_to (find_row b.rows k) o q r next.grown f g

    trans_born : (r : RunRow) → find_row a.rows k ≡ None → o ≡ Some r → (p : Option RunRow) → find_row b.rows k ≡ p → BornCause names self m i a.rows k r
    trans_born r none at None f = let x = next.born r f at in (x.0, elim x.1 [ inl y ↦ inl (y.0, fresh_down a.rows b.rows k all y.1, y.2, y.3) | inr y ↦ inr y ])
    trans_born r none at (Some q) f = born_up a.rows k q r (up q r f at) (first.born q none f)

    pub moved_trans : Moved a k o e
    moved_trans = record {
      grown = grown_trans (find_row a.rows k) (find_row b.rows k) o first.grown next.grown;
      epoch = Remains-trans (epoch_of a k) (epoch_of b k) e first.epoch next.epoch;
      born = λ r none at. trans_born r none at (find_row b.rows k) refl;
      accepted = λ r at f. elim (next.accepted r at f) [
        | inr x ↦ inr x
        | inl x ↦ elim (first.accepted x.0 x.1 x.2) [ inl y ↦ inl y | inr y ↦ inr (accept_up c d x.0 r (up x.0 r x.1 at) y.0, next.epoch (latest_epoch d) y.1) ]
      ];
      confirmed = λ r at f. elim (next.confirmed r at f) [
        | inr x ↦ inr x
        | inl x ↦ elim (first.confirmed x.0 x.1 x.2) [ inl y ↦ inl y | inr y ↦ inr (confirm_up k x.0 r (up x.0 r x.1 at) y) ]
      ];
      flag = λ r j at f. elim (next.flag r j at f) [ inr x ↦ inr x | inl x ↦ first.flag x.0 j x.1 x.2 ];
      question = λ r w at f. elim (next.question r w at f) [ inr x ↦ inr x | inl x ↦ first.question x.0 w x.1 x.2 ];
      short = λ r y at f. elim (next.short r y at f) [ inr x ↦ inr x | inl x ↦ first.short x.0 y x.1 x.2 ];
      timed = λ r at f. elim (next.timed r at f) [
        | inr x ↦ inr x
        | inl x ↦ elim (first.timed x.0 x.1 x.2) [ inl y ↦ inl y | inr y ↦ inr (timed_up k x.0 r (up x.0 r x.1 at) y) ]
      ];
    }

  -- ---- a row that differs in its closing alone
  pub moved_alike : (a : Book) (k : RunKey) (q r : RunRow) (e : Option ℕ) → find_row a.rows k ≡ Some q → Alike q r → Carries q r → Remains (epoch_of a k) e → Moved a k (Some r) e
  moved_alike a k q r e at like on epoch = record {
    grown = λ x f. let same : q ≡ x = cc in (r, refl, subst (λ y. Carries y r) same on);
    epoch = epoch;
    born = λ x none f. let never : None ≡ Some q = sym none ∙ at in cc;
    accepted = λ x f g. inl (q, at, was (λ y. IsSome y.accepted) (λ h. subst (λ o. IsSome o) like.accepted h) x f g);
    confirmed = λ x f g. inl (q, at, was (λ y. IsSome y.confirmed) (λ h. subst (λ o. IsSome o) like.confirmed h) x f g);
    flag = λ x j f g. inl (q, at, was (HasFlag j) (λ h. (h.0, ap (λ xs. slice_get xs j) (sym like.others) ∙ h.1, h.2)) x f g);
    question = λ x w f g. inl (q, at, was (λ y. y.question ≡ Some w) (λ h. sym like.question ∙ h) x f g);
    short = λ x w f g. inl (q, at, was (λ y. y.ended ≡ Some w) (λ h. sym like.ended ∙ h) x f g);
    timed = λ x f g. inl (q, at, was (λ y. IsSome y.accepted) (λ h. subst (λ o. IsSome o) like.accepted h) x f g);
  }
    where
      was : (P : RunRow → Type 0) → (P r → P q) → (x : RunRow) → Some r ≡ Some x → P x → P q
      was P back x f h = let same : x ≡ r = cc in back (subst P same h)
