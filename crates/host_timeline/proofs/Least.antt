-- The least key of those that a test lets through.
use Rattle.std.proofs.Common.{◌≡◌, ◌∙◌, ℕ, List, [], ◌∷◌, ◌++◌, Bool, true, false, cond, not, ◌&&◌, ◌||◌, map, Option, Some, None, refl, sym, ap, subst}
use Rattle.std.proofs.lemmas.Cmp.{upto}
use Rattle.std.proofs.lemmas.List.Folds.{list_all-append}
use Rattle.std.specs.List.{filter, list_all, AllByRecursion}
use Rattle.std.specs.declared.cmp.Ordering.{Ordering}
use Rattle.std.specs.declared.cmp.Ordering.TheVariants.{Less, Equal, Greater}
use Rattle.std.specs.Option.{is_none}
use Rattle.std.specs.Ordering.{is_eq, is_gt, is_lt, ordering_reverse}
use Rattle.ps_time.specs.Key.{key_cmp}
use Rattle.ps_time.specs.declared.class.Class.{Class}
use Rattle.ps_time.specs.declared.key.RunKey.{RunKey}
use Rattle.ps_time.specs.Sorted.{IsAscending}
use Rattle.ps_time.proofs.KeyLemmas.{key_cmp_same, key_cmp_total, same_key}
use Rattle.ps_time.proofs.SortedLemmas.{ascending-filter}
use Rattle.host_timeline.specs.declared.booking.Booking.{Booking}
use Rattle.host_timeline.specs.Booking.{keys_of, lesser, lesser_of, least_key}
use Rattle.host_timeline.specs.Lane.{is_beside, Decide}
use Rattle.host_timeline.specs.Timeline.{IsAscendingBookings}
use Rattle.host_timeline.proofs.Tests.{and_false, both_true}

module _ {K X : Type 0} (cmp : K → K → Ordering) (key : X → K) where
  all-keys : (P : K → Type 0) (xs : List X) → AllByRecursion (λ x. P (key x)) xs → AllByRecursion P (map key xs)
  all-keys P [] all = tt
  all-keys P (x ∷ xs) all = (all.0, all-keys P xs all.1)

  pub ascending-keys : (xs : List X) → IsAscending cmp key xs → IsAscending cmp (λ k. k) (map key xs)
  ascending-keys [] up = tt
  ascending-keys (x ∷ xs) up = (all-keys (λ k. cmp (key x) k ≡ Less) xs up.0, ascending-keys xs up.1)

-- so the first of an ascending list has the least key
least_first : (b : Booking) (bs : List Booking) → IsAscendingBookings (b ∷ bs) → least_key (keys_of (b ∷ bs)) ≡ Some b.key
least_first b [] up = refl
least_first b (d ∷ ds) up =
    let above : key_cmp d.key b.key ≡ Greater = key_cmp_total.antisymm d.key b.key ∙ ap ordering_reverse up.0.0 in
    let lesser_first : Some (lesser b.key (Some d.key)) ≡ Some b.key = rw above refl in
    ap (λ least. Some (lesser b.key least)) (least_first d ds up.1) ∙ lesser_first

-- and the first that a test lets through has the least key of those
pub least_passing : (p : Booking → Bool) (bs : List Booking) (b : Booking) (rest : List Booking) → IsAscendingBookings bs → filter p bs ≡ b ∷ rest → least_key (keys_of (filter p bs)) ≡ Some b.key
least_passing p bs b rest up passing =
    let left : IsAscendingBookings (b ∷ rest) = subst IsAscendingBookings passing (ascending-filter key_cmp_total (λ b. b.key) p bs up) in
    rw passing (least_first b rest left)

-- the keys of those that pass are ascending
pub ascending_passing : (p : Booking → Bool) (bs : List Booking) → IsAscendingBookings bs → IsAscending key_cmp (λ k. k) (keys_of (filter p bs))
ascending_passing p bs up = ascending-keys key_cmp (λ b. b.key) (filter p bs) (ascending-filter key_cmp_total (λ b. b.key) p bs up)

-- none is in the way exactly where all that conflict may be preempted
pub none_least : (q r : Booking → Bool) (bs : List Booking) → is_none (least_key (keys_of (filter (λ b. q b && not (r b)) bs))) ≡ list_all r (filter q bs)
none_least q r [] = refl
none_least q r (b ∷ bs) =
    let rest = filter (λ b. q b && not (r b)) bs in
    let more = filter q bs in
    let cases = elim (r b) as (λ y. is_none (least_key (keys_of (cond (not y) (b ∷ rest) rest))) ≡ (y && list_all r more)) [
      | true ↦ none_least q r bs
      | false ↦ refl
    ] in
    elim (q b) as (λ x. is_none (least_key (keys_of (cond (x && not (r b)) (b ∷ rest) rest))) ≡ list_all r (cond x (b ∷ more) more)) [
      | true ↦ cases
      | false ↦ none_least q r bs
    ]

not_true : (x : Bool) → (false || not x) ≡ true → x ≡ false
not_true true is = cc
not_true false is = refl

-- ---- the least of two
abbrev pub below : RunKey → RunKey → Bool
below a b = is_lt (key_cmp a b)

not_below : (a b : RunKey) → below b a ≡ false → is_gt (key_cmp a b) ≡ false
not_below a b above =
    let cases = elim (key_cmp b a) as (λ c. is_lt c ≡ false → key_cmp a b ≡ ordering_reverse c → is_gt (key_cmp a b) ≡ false) [
      | Less ↦ λ n is. cc
      | Equal ↦ λ n is. rw is refl
      | Greater ↦ λ n is. rw is refl
    ] in
    cases above (key_cmp_total.antisymm a b)

below_not : (a b : RunKey) → is_gt (key_cmp a b) ≡ false → below b a ≡ false
below_not a b upto_b =
    let cases = elim (key_cmp a b) as (λ c. is_gt c ≡ false → key_cmp b a ≡ ordering_reverse c → is_lt (key_cmp b a) ≡ false) [
      | Less ↦ λ n is. rw is refl
      | Equal ↦ λ n is. rw is refl
      | Greater ↦ λ n is. cc
    ] in
    cases upto_b (key_cmp_total.antisymm b a)

-- what is no less than one that is no less than another is no less than that
not_below_far : (a b c : RunKey) → below b a ≡ false → below c b ≡ false → below c a ≡ false
not_below_far a b c first second = below_not a c (upto key_cmp_total a b c (not_below a b first) (not_below b c second))

pub is_less : (a b : RunKey) → below a b ≡ true → key_cmp a b ≡ Less
is_less a b is =
    let cases = elim (key_cmp a b) as (λ c. is_lt c ≡ true → c ≡ Less) [ Less ↦ λ e. refl | Equal ↦ λ e. cc | Greater ↦ λ e. cc ] in
    cases is

pub below_far : (a b c : RunKey) → below a b ≡ true → below b c ≡ true → below a c ≡ true
below_far a b c first second = rw (key_cmp_total.trans a b c (is_less a b first) (is_less b c second)) refl

pub below_itself : (a : RunKey) → below a a ≡ false
below_itself a = rw (key_cmp_same a) refl

pub neither_below : (j k : RunKey) → below j k ≡ false → below k j ≡ false → j ≡ k
neither_below j k first second =
    let cases = elim (key_cmp j k) as (λ c. key_cmp j k ≡ c → is_lt c ≡ false → is_lt (ordering_reverse c) ≡ false → j ≡ k) [
      | Less ↦ λ is a b. cc
      | Equal ↦ λ is a b. same_key j k is
      | Greater ↦ λ is a b. cc
    ] in
    cases refl first (ap is_lt (sym (key_cmp_total.antisymm k j)) ∙ second)

choose : (a b c : RunKey) (x y : Bool) → below b a ≡ x → below c b ≡ y → lesser (cond x b a) (Some c) ≡ lesser a (Some (cond y c b))
choose a b c true true first second = rw (second, below_far c b a second first) refl
choose a b c true false first second = rw (second, first) refl
choose a b c false true first second = refl
choose a b c false false first second = rw (not_below_far a b c first second, first) refl

pub lesser_of_assoc : (a b c : Option RunKey) → lesser_of (lesser_of a b) c ≡ lesser_of a (lesser_of b c)
lesser_of_assoc None b c = refl
lesser_of_assoc (Some a) None c = refl
lesser_of_assoc (Some a) (Some b) None = refl
lesser_of_assoc (Some a) (Some b) (Some c) = ap Some (choose a b c (below b a) (below c b) refl refl)

pub lesser_of_none : (a : Option RunKey) → lesser_of a None ≡ a
lesser_of_none None = refl
lesser_of_none (Some a) = refl

module _ (p : Booking → Bool) where
  abbrev pub least_of : List Booking → Option RunKey
  least_of bs = least_key (keys_of (filter p bs))

  least_append : (xs ys : List Booking) → least_of (xs ++ ys) ≡ lesser_of (least_of xs) (least_of ys)
  least_append [] ys = refl
  least_append (x ∷ xs) ys =
      elim (p x) as (λ t. least_key (keys_of (cond t (x ∷ filter p (xs ++ ys)) (filter p (xs ++ ys)))) ≡ lesser_of (least_key (keys_of (cond t (x ∷ filter p xs) (filter p xs)))) (least_of ys)) [
        | true ↦ ap (lesser_of (Some x.key)) (least_append xs ys) ∙ sym (lesser_of_assoc (Some x.key) (least_of xs) (least_of ys))
        | false ↦ least_append xs ys
      ]

  -- a turn of a loop that keeps the least so far
  pub least_turn : (least : Option RunKey) (items : List Booking) (b : Booking) (rest : List Booking) → items ≡ b ∷ rest → lesser_of least (least_of items) ≡ lesser_of (lesser_of least (cond (p b) (Some b.key) None)) (least_of rest)
  least_turn least items b rest here =
      let turn : lesser_of least (least_of (b ∷ rest)) ≡ lesser_of (lesser_of least (cond (p b) (Some b.key) None)) (least_of rest) =
      elim (p b) as (λ x. lesser_of least (least_key (keys_of (cond x (b ∷ filter p rest) (filter p rest)))) ≡ lesser_of (lesser_of least (cond x (Some b.key) None)) (least_of rest)) [
        | true ↦ sym (lesser_of_assoc least (Some b.key) (least_of rest))
        | false ↦ ap (λ l. lesser_of l (least_of rest)) (sym (lesser_of_none least))
      ] in
      ap (λ l. lesser_of least (least_of l)) here ∙ turn

  -- ---- what a least key says of tests
  pub all_implies : (q r : Booking → Bool) → ((b : Booking) → q b ≡ true → r b ≡ true) → (bs : List Booking) → list_all q bs ≡ true → list_all r bs ≡ true
  all_implies q r implies [] all = refl
  all_implies q r implies (b ∷ bs) all =
      let parts = both_true (q b) (list_all q bs) all in
      rw (implies b parts.0) (all_implies q r implies bs parts.1)

  abbrev none_below : RunKey → Booking → Bool
  none_below k b = not (p b) || not (below b.key k)

  abbrev pub not_this : RunKey → Booking → Bool
  not_this k b = not (p b) || not (is_eq (key_cmp b.key k))

  abbrev pub Says : List Booking → Option RunKey → Type 0
  Says bs None = list_all (λ b. not (p b)) bs ≡ true
  Says bs (Some k) = (list_all (none_below k) bs ≡ true) × (list_all (not_this k) bs ≡ false)

  or_left : (x y : Bool) → x ≡ true → (x || y) ≡ true
  or_left x y is = rw is refl

  weaker : (j k : RunKey) (b : Booking) → below j k ≡ false → none_below j b ≡ true → none_below k b ≡ true
  weaker j k b above is =
      let cases = elim (p b) as (λ x. (not x || not (below b.key j)) ≡ true → (not x || not (below b.key k)) ≡ true) [
        | true ↦ λ e. let off : below b.key j ≡ false = not_true (below b.key j) e in rw (not_below_far k j b.key above off) refl
        | false ↦ λ e. refl
      ] in
      cases is

  says_more : (b : Booking) (bs : List Booking) → p b ≡ true → (r : Option RunKey) → Says bs r → Says (b ∷ bs) (Some (lesser b.key r))
  says_more b bs passes None none =
      let first : none_below b.key b ≡ true = rw (passes, below_itself b.key) refl in
      let this : not_this b.key b ≡ false = rw (passes, key_cmp_same b.key) refl in
      (rw first (all_implies (λ b. not (p b)) (none_below b.key) (λ d is. or_left (not (p d)) (not (below d.key b.key)) is) bs none), rw this refl)
  says_more b bs passes (Some j) says =
      let cases = elim (below j b.key) as (λ x. below j b.key ≡ x → Says (b ∷ bs) (Some (cond x j b.key))) [
        | true ↦ λ is.
            let later : below b.key j ≡ false = below_not j b.key (rw (is_less j b.key is) refl) in
            let first : none_below j b ≡ true = rw (passes, later) refl in
            (rw first says.0, rw says.1 (and_false (not_this j b)))
        | false ↦ λ is.
            let first : none_below b.key b ≡ true = rw (passes, below_itself b.key) refl in
            let this : not_this b.key b ≡ false = rw (passes, key_cmp_same b.key) refl in
            (rw first (all_implies (none_below j) (none_below b.key) (λ d of_j. weaker j b.key d is of_j) bs says.0), rw this refl)
      ] in
      cases refl

  says_less : (b : Booking) (bs : List Booking) → p b ≡ false → (r : Option RunKey) → Says bs r → Says (b ∷ bs) r
  says_less b bs fails None none = rw fails none
  says_less b bs fails (Some k) says = (rw fails says.0, rw fails says.1)

  pub least_says : (bs : List Booking) → Says bs (least_of bs)
  least_says [] = refl
  least_says (b ∷ bs) =
      let cases = elim (p b) as (λ x. p b ≡ x → Says (b ∷ bs) (least_key (keys_of (cond x (b ∷ filter p bs) (filter p bs))))) [
        | true ↦ λ is. says_more b bs is (least_of bs) (least_says bs)
        | false ↦ λ is. says_less b bs is (least_of bs) (least_says bs)
      ] in
      cases refl

  no_less_at : (b : Booking) (x : Bool) (c : Ordering) (j k : RunKey) → below j k ≡ true → (not x || not (below b.key k)) ≡ true → key_cmp b.key j ≡ c → (not x || not (is_eq c)) ≡ true
  no_less_at b false c j k less is at = refl
  no_less_at b true Less j k less is at = refl
  no_less_at b true Greater j k less is at = refl
  no_less_at b true Equal j k less is at =
      let same : below b.key k ≡ true = rw (same_key b.key j at) less in
      cc (same, not_true (below b.key k) is)

  -- one that is there isn't below one that none is below
  no_less : (bs : List Booking) (j k : RunKey) → list_all (none_below k) bs ≡ true → list_all (not_this j) bs ≡ false → below j k ≡ false
  no_less bs j k none there =
      let implies : below j k ≡ true → (b : Booking) → none_below k b ≡ true → not_this j b ≡ true = λ less b is. no_less_at b (p b) (key_cmp b.key j) j k less is refl in
      let cases = elim (below j k) as (λ x. below j k ≡ x → x ≡ false) [
        | true ↦ λ less. let all = all_implies (none_below k) (not_this j) (implies less) bs none in cc (all, there)
        | false ↦ λ less. refl
      ] in
      cases refl

  none_there : (bs : List Booking) (k : RunKey) → list_all (λ b. not (p b)) bs ≡ true → list_all (not_this k) bs ≡ true
  none_there bs k none = all_implies (λ b. not (p b)) (not_this k) (λ b is. or_left (not (p b)) (not (is_eq (key_cmp b.key k))) is) bs none

  says_one : (bs : List Booking) (a b : Option RunKey) → Says bs a → Says bs b → a ≡ b
  says_one bs None None left right = refl
  says_one bs None (Some k) left right = cc (none_there bs k left, right.1)
  says_one bs (Some k) None left right = cc (none_there bs k right, left.1)
  says_one bs (Some j) (Some k) left right = ap Some (neither_below j k (no_less bs j k right.0 left.1) (no_less bs k j left.0 right.1))

  -- lists that no such test tells apart have the same least key
  pub least_same : (xs ys : List Booking) → ((q : Booking → Bool) → ((b : Booking) → p b ≡ false → q b ≡ true) → list_all q xs ≡ list_all q ys) → least_of xs ≡ least_of ys
  least_same xs ys same =
      let moved : (r : Option RunKey) → Says xs r → Says ys r = λ r. elim r as (λ r. Says xs r → Says ys r) [
        | None ↦ λ says. sym (same (λ b. not (p b)) (λ b no. rw no refl)) ∙ says
        | Some k ↦ λ says. (sym (same (none_below k) (λ b no. rw no refl)) ∙ says.0, sym (same (not_this k) (λ b no. rw no refl)) ∙ says.1)
      ] in
      says_one ys (least_of xs) (least_of ys) (moved (least_of xs) (least_says xs)) (least_says ys)

  pub decided_least : (class : Class) (from : ℕ) (until : Option ℕ) (bs some others : List Booking) → Decide class from until bs some others → ((b : Booking) → is_beside class from until b ≡ false → p b ≡ false) → lesser_of (least_of some) (least_of others) ≡ least_of bs
  decided_least class from until bs some others decide outside =
      sym (least_append some others)
      ∙ least_same (some ++ others) bs (λ q passes. list_all-append q some others ∙ decide q (λ b off. passes b (outside b off)))
