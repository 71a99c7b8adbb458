-- From the fronts of two disks to what the two stand for.
use Rattle.std.proofs.Common.{◌≡◌, ℕ, Bool, true, false, if◌then◌else◌, List, drop, Result, Ok, Err, Option, Some, None, refl, sym, ◌∙◌, ap, subst}
use Rattle.std.specs.Prelude.{nat_le}
use Rattle.host_journal.specs.Format.{Body, body_of}
use Rattle.host_journal.specs.Front.{generation_in, IsFrontOf, chosen_open, allowed, chosen}
use Rattle.host_journal.specs.Pair.{counted, need_body, alone, headless, unless_at, greater, pair_of}
use Rattle.host_journal.specs.declared.reading.Counted.{Counted}
use Rattle.host_journal.specs.declared.reading.DiskPlace.{DiskPlace}
use Rattle.host_journal.specs.declared.reading.Front.{Front}
use Rattle.host_journal.specs.declared.reading.Front.TheVariants.{Open, Closed}
use Rattle.host_journal.proofs.PairLemmas.{by_stands}

-- the disk that was chosen says by itself what both stand for
abbrev pub Settles : Result Bool DiskPlace → List ℕ → List ℕ → Type 0
Settles (Ok second) one two = pair_of one two ≡ alone second (if second then two else one)
Settles (Err place) one two = pair_of one two ≡ Err place

open_by : (first second : List ℕ) (a b : Body) (t : Bool) → body_of (drop 9 first) ≡ Some a → body_of (drop 9 second) ≡ Some b
    → nat_le b.generation a.generation ≡ t → pair_of first second ≡ greater a b → Settles (if t then Ok false else Ok true) first second
open_by first second a b true is is_too less pair =
    pair ∙ ap (λ (t : Bool). if t then counted false a else counted true b) less ∙ sym (ap (λ (o : Option Body). need_body false o (λ body. counted false body)) is)
open_by first second a b false is is_too less pair =
    pair ∙ ap (λ (t : Bool). if t then counted false a else counted true b) less ∙ sym (ap (λ (o : Option Body). need_body true o (λ body. counted true body)) is_too)

both_open : (first second : List ℕ) (o p : Option Body) → body_of (drop 9 first) ≡ o → body_of (drop 9 second) ≡ p
    → pair_of first second ≡ need_body false o (λ a. need_body true p (λ b. greater a b)) → Settles (chosen_open (generation_in o) (generation_in p)) first second
both_open first second None p is is_too pair = pair
both_open first second (Some a) None is is_too pair = pair
both_open first second (Some a) (Some b) is is_too pair =
    subst (λ (t : Bool). Settles (if t then Ok false else Ok true) first second) refl (open_by first second a b (nat_le b.generation a.generation) is is_too refl pair)

one_open : (second : Bool) (one two : List ℕ) (at : Option DiskPlace) → pair_of one two ≡ unless_at at (alone second (if second then two else one)) → Settles (allowed at second) one two
one_open second one two None pair = pair
one_open second one two (Some place) pair = pair

pub settles : (first second : Front) (one two : List ℕ) → IsFrontOf false one first → IsFrontOf true two second → Settles (chosen first second) one two
settles (Open g) (Open h) one two is is_too =
    let made = both_open one two (body_of (drop 9 one)) (body_of (drop 9 two)) refl refl (by_stands one two true true is.0 is_too.0) in
    subst (λ (p : Option ℕ). Settles (chosen_open g p) one two) (sym is_too.1) (subst (λ (o : Option ℕ). Settles (chosen_open o (generation_in (body_of (drop 9 two)))) one two) (sym is.1) made)
settles (Open g) (Closed place at) one two is is_too =
    subst (λ (o : Option DiskPlace). Settles (allowed o false) one two) (sym is_too.2) (one_open false one two (headless true two) (by_stands one two true false is.0 is_too.0))
settles (Closed place at) (Open h) one two is is_too =
    subst (λ (o : Option DiskPlace). Settles (allowed o true) one two) (sym is.2) (one_open true one two (headless false one) (by_stands one two false true is.0 is_too.0))
settles (Closed place at) (Closed place_too at_too) one two is is_too =
    subst (λ (n : ℕ). pair_of one two ≡ Err (record { disk = 1; place = n })) (sym is.1) (by_stands one two false false is.0 is_too.0)

-- at the two answers
pub settled : (first second : Front) (one two : List ℕ) (r : Result Bool DiskPlace) → IsFrontOf false one first → IsFrontOf true two second → r ≡ chosen first second → Settles r one two
settled first second one two r is is_too same = subst (λ (q : Result Bool DiskPlace). Settles q one two) (sym same) (settles first second one two is is_too)

-- and what the chosen one says, read again
pub pair_read : (first second : Front) (one two one_now two_now bytes : List ℕ) (is_second : Bool) (r : Result Counted DiskPlace) → IsFrontOf false one first → IsFrontOf true two second → Ok is_second ≡ chosen first second
    → one_now ≡ one → two_now ≡ two → bytes ≡ (if is_second then two_now else one_now) → r ≡ alone is_second bytes → pair_of one two ≡ r
pair_read first second one two one_now two_now bytes is_second r is is_too choice same same_too are said =
    let now : bytes ≡ (if is_second then two else one) = are ∙ ap (λ (l : List ℕ). if is_second then l else one_now) same_too ∙ ap (λ (l : List ℕ). if is_second then two else l) same in
    settled first second one two (Ok is_second) is is_too choice ∙ sym (ap (alone is_second) now) ∙ sym said
