-- Records that lead from a book, one after another, and the first item of a list that is refused.
use Rattle.std.specs.Prelude.{◌⊎◌}
use Rattle.std.proofs.Common.{◌≡◌, ◌<◌, ◌≤◌, ◌+◌, ◌-◌, ◌∙◌, ℕ, zero, suc, add-one, arith, Bool, true, false, List, [], ◌∷◌, ◌++◌, ap, append_assoc, drop, get_or, inl, inr, length, refl, subst, sym, take, ⊎_elim}
use Rattle.std.proofs.lemmas.List.{take_all, take_more}
use Rattle.host_model.specs.Apply.{recorded}
use Rattle.host_model.specs.Book.{Book}
use Rattle.host_model.specs.Lawful.{Lawful}
use Rattle.host_model.specs.MayFollow.{MayFollow}
use Rattle.host_model.specs.declared.change.Changes.{Changes}
use Rattle.machine_keep.specs.Refusal.{IsFirstRefused}
use Rattle.host_replay.specs.Stands.{IsRecord, IsSnapshot, Leads, StandsAs, StandsFor, StandsIn}

-- one record more behind others
pub lead_on : (second : Bool) (self : ℕ) (bytes : List ℕ) (b after : Book) (k : Changes) → IsRecord second bytes k → MayFollow self b k → after ≡ recorded b k → (from : Book) (xs : List (List ℕ)) → Leads second self from xs b → Leads second self from (xs ++ bytes ∷ []) after
lead_on second self bytes b after k is may taken from [] here = (k, is, subst (λ a. MayFollow self a k) (sym here) may, ap (λ a. recorded a k) here ∙ sym taken)
lead_on second self bytes b after k is may taken from (x ∷ xs) leads = (leads.0, leads.1, leads.2, lead_on second self bytes b after k is may taken (recorded from leads.0) xs leads.3)

-- whatever follows these records leads on from the book that they left
abbrev pub LeadOn : Bool → ℕ → Book → List (List ℕ) → Book → Type 0
LeadOn second self from before b = (more : List (List ℕ)) (last : Book) → Leads second self from (before ++ more) last → Leads second self b more last

module _ (second : Bool) (self : ℕ) (records : List (List ℕ)) (i : ℕ) (bytes : List ℕ) (within : i < length records) (is : bytes ≡ get_or records i bytes) (from b : Book) where
  next : take (i + 1) records ≡ take i records ++ bytes ∷ []
  next = take_more records i bytes within ∙ ap (λ x. take i records ++ x ∷ []) (sym is)

  -- it may not follow: with it none lead on
  pub stops : LeadOn second self from (take i records) b → ((c : Changes) → IsRecord second bytes c → MayFollow self b c → ⊥) → (last : Book) → Leads second self from (take (i + 1) records) last → ⊥
  stops on refused last leads = let these = on (bytes ∷ []) last (subst (λ (l : List (List ℕ)). Leads second self from l last) next leads) in refused these.0 these.1 these.2

  module _ (after : Book) (taken : (k : Changes) × IsRecord second bytes k × MayFollow self b k × (after ≡ recorded b k) × ((c : Changes) → IsRecord second bytes c → c ≡ k)) where
    -- with the next one those so far lead on
    pub one_more : Leads second self from (take i records) b → Leads second self from (take (i + 1) records) after
    one_more leads = subst (λ (l : List (List ℕ)). Leads second self from l after) (sym next) (lead_on second self bytes b after taken.0 taken.1 taken.2 taken.3 from (take i records) leads)

    pub goes_on : LeadOn second self from (take i records) b → LeadOn second self from (take (i + 1) records) after
    goes_on on more last leads =
        let split : take (i + 1) records ++ more ≡ take i records ++ bytes ∷ more = ap (λ l. l ++ more) next ∙ append_assoc (take i records) (bytes ∷ []) more in
        let these = on (bytes ∷ more) last (subst (λ (l : List (List ℕ)). Leads second self from l last) split leads) in
        let same : these.0 ≡ taken.0 = taken.4 these.0 these.1 in
        subst (λ a. Leads second self a more last) (sym taken.3) (subst (λ (c : Changes). Leads second self (recorded b c) more last) same these.3)

-- where records lead on, so do the first of them
leads_less : (second : Bool) (self : ℕ) (from last : Book) (records : List (List ℕ)) (n k : ℕ) → n ≤ k → Leads second self from (take k records) last → (b : Book) × Leads second self from (take n records) b
leads_less second self from last records zero k le leads = (from, refl)
leads_less second self from last [] (suc n) k le leads = (from, refl)
leads_less second self from last (x ∷ xs) (suc n) zero le leads = absurd (omega (arith, le))
leads_less second self from last (x ∷ xs) (suc n) (suc k) le leads =
    let rest = leads_less second self (recorded from leads.0) last xs n k (omega (arith, le)) leads.3 in
    (rest.0, (leads.0, leads.1, leads.2, rest.1))

-- ---- a snapshot and records
pub stands_in : (second : Bool) (self : ℕ) (snapshot : List ℕ) (records : List (List ℕ)) (from last : Book) → IsSnapshot second snapshot from × Lawful self from → Leads second self from records last → StandsIn second self snapshot records last
stands_in second self snapshot records from last is leads = record { from = from; is = is.0; lawful = is.1; leads = leads }

-- where its book is known and doesn't lead on, it stands for none
none_in : (second : Bool) (self : ℕ) (snapshot : List ℕ) (records : List (List ℕ)) (from : Book) → ((b : Book) → IsSnapshot second snapshot b → Lawful self b → from ≡ b) → ((last : Book) → Leads second self from records last → ⊥) → (last : Book) → StandsIn second self snapshot records last → ⊥
none_in second self snapshot records from only refused last stands =
    refused last (subst (λ (a : Book). Leads second self a records last) (sym (only stands.from stands.is stands.lawful)) stands.leads)

-- one item more of a list
longer : (n : ℕ) (x : List ℕ) (xs : List (List ℕ)) → take (n + 1) (x ∷ xs) ≡ x ∷ take n xs
longer n x xs = ap (λ k. take k (x ∷ xs)) (add-one n)

stands_less : (second : Bool) (self : ℕ) (list : List (List ℕ)) (n k : ℕ) → n ≤ k → (last : Book) → StandsAs second self (take (k + 1) list) last → (b : Book) × StandsAs second self (take (n + 1) list) b
stands_less second self [] n k le last stands = absurd (subst (λ (l : List (List ℕ)). StandsAs second self l last) (take_all (k + 1) [] (omega arith)) stands)
stands_less second self (x ∷ xs) n k le last stands =
    let it = subst (λ (l : List (List ℕ)). StandsAs second self l last) (longer k x xs) stands in
    let less = leads_less second self it.from last xs n k le it.leads in
    (less.0, subst (λ (l : List (List ℕ)). StandsAs second self l less.0) (sym (longer n x xs)) (stands_in second self x (take n xs) it.from less.0 (it.is, it.lawful) less.1))

-- a list of one format or of the other
pub either_stands : (self : ℕ) (list : List (List ℕ)) (b : Book) → StandsAs true self list b ⊎ StandsAs false self list b → StandsFor self list b
either_stands self [] b either = ⊎_elim (λ never. never) (λ never. never) either
either_stands self (x ∷ xs) b either = either

pub stands_either : (self : ℕ) (list : List (List ℕ)) (b : Book) → StandsFor self list b → StandsAs true self list b ⊎ StandsAs false self list b
stands_either self [] b stands = absurd stands
stands_either self (x ∷ xs) b stands = stands

-- ---- the first item that is refused
-- a record behind the snapshot
pub first_behind : (second : Bool) (self : ℕ) (snapshot : List ℕ) (records : List (List ℕ)) (from : Book) → IsSnapshot second snapshot from × Lawful self from → ((b : Book) → IsSnapshot second snapshot b → Lawful self b → from ≡ b)
    → (index : ℕ) → index < length records → (b : Book) × Leads second self from (take index records) b → ((b : Book) → Leads second self from (take (index + 1) records) b → ⊥) → IsFirstRefused (StandsAs second self) (snapshot ∷ records) (index + 1)
first_behind second self snapshot records from is only index within front first = record {
  within = omega (arith, within);
  front = λ some. (front.0, subst (λ (l : List (List ℕ)). StandsAs second self l front.0) (sym (longer index snapshot records)) (stands_in second self snapshot (take index records) from front.0 is front.1));
  refused = λ b stands. none_in second self snapshot (take (index + 1) records) from only first b (subst (λ (l : List (List ℕ)). StandsAs second self l b) (longer (index + 1) snapshot records) stands);
}

-- of two formats the later one
pub first_later : (self : ℕ) (list : List (List ℕ)) (m n k : ℕ) → IsFirstRefused (StandsAs true self) list m → IsFirstRefused (StandsAs false self) list n → m ≤ k → n ≤ k → (k ≡ m) ⊎ (k ≡ n) → IsFirstRefused (StandsFor self) list k
first_later self list m n k one two le le_too is = record {
  within = ⊎_elim (λ first. omega (arith, first, one.within)) (λ second. omega (arith, second, two.within)) is;
  front = λ some. ⊎_elim
      (λ first. let it = one.front (omega (arith, first, some)) in (it.0, either_stands self (take k list) it.0 (inl (subst (λ (i : ℕ). StandsAs true self (take i list) it.0) (sym first) it.1))))
      (λ second. let it = two.front (omega (arith, second, some)) in (it.0, either_stands self (take k list) it.0 (inr (subst (λ (i : ℕ). StandsAs false self (take i list) it.0) (sym second) it.1))))
      is;
  refused = λ b stands. ⊎_elim
      (λ first. let less = stands_less true self list m k le b first in one.refused less.0 less.1)
      (λ second. let less = stands_less false self list n k le_too b second in two.refused less.0 less.1)
      (stands_either self (take (k + 1) list) b stands);
}

-- with those behind it the list stands for none
pub none_after : (self : ℕ) (list : List (List ℕ)) (index : ℕ) → IsFirstRefused (StandsFor self) list index → (b : Book) → StandsFor self list b → ⊥
none_after self list index first b stands =
    let whole : take (length list + 1) list ≡ list = take_all (length list + 1) list (omega arith) in
    let within = first.within in
    ⊎_elim
    (λ one. let less = stands_less true self list index (length list) (omega (arith, within)) b one in first.refused less.0 (either_stands self (take (index + 1) list) less.0 (inl less.1)))
    (λ two. let less = stands_less false self list index (length list) (omega (arith, within)) b two in first.refused less.0 (either_stands self (take (index + 1) list) less.0 (inr less.1)))
    (stands_either self (take (length list + 1) list) b (subst (λ (l : List (List ℕ)). StandsFor self l b) (sym whole) stands))

-- a list that is taken apart
pub put_together : (list : List (List ℕ)) (snapshot : List ℕ) → 1 ≤ length list → snapshot ≡ get_or list 0 snapshot → snapshot ∷ take (length list - 1) (drop 1 list) ≡ list
put_together [] snapshot some is = absurd (omega (arith, some))
put_together (x ∷ xs) snapshot some is = ap (λ y. y ∷ take (length (x ∷ xs) - 1) xs) is ∙ ap (λ l. x ∷ l) (take_all (length (x ∷ xs) - 1) xs (omega arith))
