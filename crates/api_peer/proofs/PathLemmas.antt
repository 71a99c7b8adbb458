-- What the paths of orders name.
use Rattle.std.proofs.Common.{◌++◌, ◌<◌, ◌==◌, ◌≡◌, ◌≤◌, ◌∷◌, ◌∙◌, Bool, append-nil, List, Some, [], ap, arith, codes, false, if◌then◌else◌, length, nat_le, refl, true, ℕ}
use Rattle.std.proofs.lemmas.Bool.Decides.{nat_tests}
use Rattle.std.proofs.lemmas.List.{length-append}
use Rattle.std.proofs.lemmas.List.Folds.{list_all-append}
use Rattle.std.proofs.lemmas.List.Splits.{slice_split_at, slice_split_none}
use Rattle.std.proofs.lemmas.List.Sums.{list_all-from_AllPass}
use Rattle.std.specs.Int.{to_be_bytes, w128}
use Rattle.std.specs.List.{All, list_all, slice_split}
use Rattle.uuid.proofs.TextLemmas.{by_index_at, by_index_length, nibble_small}
use Rattle.ps_http.specs.Sendable.{is_path_byte}
use Rattle.uuid.specs.Text.{by_index, digit_place, hex_digit, hyphen, is_hyphen_place, lower, nibble}
use Rattle.ps_time.specs.Id.{id_of_text, uuid_of}
use Rattle.ps_time.specs.Numbers.{most_head_bytes}
use Rattle.ps_time.specs.declared.id.Id.TheVariants.{Run}
use Rattle.ps_time.specs.declared.key.RunKey.{RunKey}
use Rattle.api_input.specs.Places.{is_ascii_byte, is_plain, target_in, target_of}
use Rattle.api_input.specs.declared.place.PeerPlace.{PeerPlace}
use Rattle.api_input.specs.declared.place.PeerPlace.TheVariants as peer
use Rattle.api_input.specs.declared.place.Place.TheVariants.{Peer}
use Rattle.api_input.specs.declared.place.Target.{Target}
use Rattle.api_input.specs.declared.route.Methods.{Methods}
use Rattle.api_input.specs.declared.route.Methods.TheVariants.{Delete, Get, Post, Put}
use Rattle.api_reply.specs.Shown.{run_text}
use Rattle.api_peer.specs.Ordered.{run_path}

-- ---- an identifier is one part of a path
abbrev is_slash : ℕ → Bool
is_slash b = b == 47

pub record IsPart (t : List ℕ) : Type 0 where
  pub apart : All (λ b. is_slash b ≡ false) t
  pub ascii : All (λ b. is_ascii_byte b ≡ true) t
  pub visible : All (λ b. is_path_byte b ≡ true) t
  pub short : length t ≡ 36

digit_apart : (d : ℕ) → d < 16 → is_slash (hex_digit lower d) ≡ false
digit_apart d small = grind (arith, nat_tests)

digit_ascii : (d : ℕ) → d < 16 → is_ascii_byte (hex_digit lower d) ≡ true
digit_ascii d small = grind (arith, nat_tests)

digit_visible : (d : ℕ) → d < 16 → is_path_byte (hex_digit lower d) ≡ true
digit_visible d small = grind (arith, nat_tests)

-- what stands at a place
abbrev place : List ℕ → ℕ → ℕ
place xs k = if is_hyphen_place k then hyphen else hex_digit lower (nibble xs (digit_place k))

by_place : (p : ℕ → Bool) (answer : Bool) → p hyphen ≡ answer → ((d : ℕ) → d < 16 → p (hex_digit lower d) ≡ answer) → (xs : List ℕ) (n k : ℕ) (dash : Bool) → p (if dash then hyphen else hex_digit lower (nibble xs (digit_place k))) ≡ answer
by_place p answer dashed digits xs n k true = dashed
by_place p answer dashed digits xs n k false = digits (nibble xs (digit_place k)) (nibble_small xs (digit_place k))

all_places : (p : ℕ → Bool) (answer : Bool) → p hyphen ≡ answer → ((d : ℕ) → d < 16 → p (hex_digit lower d) ≡ answer) → (xs : List ℕ) (n : ℕ) → All (λ b. p b ≡ answer) (by_index n (place xs))
all_places p answer dashed digits xs n k d h =
    rw (by_index_at n (place xs) k d (rw (by_index_length n (place xs)) at h)) (by_place p answer dashed digits xs n k (is_hyphen_place k))

pub run_part : (k : RunKey) → IsPart (run_text k)
unfolding run_text
run_part k =
    let xs = to_be_bytes w128 (uuid_of (Run k)) in
    record {
      apart = all_places is_slash false refl digit_apart xs 36;
      ascii = all_places is_ascii_byte true refl digit_ascii xs 36;
      visible = all_places is_path_byte true refl digit_visible xs 36;
      short = by_index_length 36 (place xs);
    }

-- ---- paths below a run
abbrev pub front : List ℕ
front = codes "/pscheduler/peer/runs/"

plain_below : (t end : List ℕ) → IsPart t → list_all is_ascii_byte end ≡ true → length end ≤ 100 → is_plain (front ++ (t ++ end)) ≡ true
plain_below t end is ascii short =
    let ascii_t : list_all is_ascii_byte t ≡ true = list_all-from_AllPass is_ascii_byte t is.ascii in
    let all : list_all is_ascii_byte (front ++ (t ++ end)) ≡ true = list_all-append is_ascii_byte front (t ++ end) ∙ (rw (list_all-append is_ascii_byte t end, ascii_t, ascii) refl) in
    let long : nat_le (length (front ++ (t ++ end))) most_head_bytes ≡ true = grind (arith, nat_tests, length-append front (t ++ end), length-append t end, is.short, short) in
    rw (long, all) refl

parts_below : (t end : List ℕ) → IsPart t → slice_split is_slash (front ++ (t ++ 47 ∷ end)) ≡ [] ∷ codes "pscheduler" ∷ codes "peer" ∷ codes "runs" ∷ t ∷ slice_split is_slash end
parts_below t end is = ap (λ rest. [] ∷ codes "pscheduler" ∷ codes "peer" ∷ codes "runs" ∷ rest) (slice_split_at is_slash t 47 end is.apart refl)

parts_of_run : (t : List ℕ) → IsPart t → slice_split is_slash (front ++ t) ≡ [] ∷ codes "pscheduler" ∷ codes "peer" ∷ codes "runs" ∷ t ∷ []
parts_of_run t is = ap (λ rest. [] ∷ codes "pscheduler" ∷ codes "peer" ∷ codes "runs" ∷ rest) (slice_split_none is_slash t is.apart)

-- ---- what they name

abbrev at_run : List ℕ → List (List ℕ) → List (List ℕ)
at_run t rest = [] ∷ codes "pscheduler" ∷ codes "peer" ∷ codes "runs" ∷ t ∷ rest

abbrev pub target : PeerPlace → Methods → Target
target place methods = record { place = Peer place; methods = methods }

-- a path by its parts
by_parts : (self : ℕ) (path : List ℕ) (ps : List (List ℕ)) → is_plain path ≡ true → slice_split is_slash path ≡ ps → target_of self path ≡ target_in self ps
by_parts self path ps plain parts = rw (plain, parts) refl

module _ (self : ℕ) (t : List ℕ) (k : RunKey) (is : IsPart t) (names : id_of_text t ≡ Some (Run k)) where
  confirm_at : target_of self (front ++ (t ++ codes "/confirm")) ≡ Some (target (peer.Confirm k) Put)
  confirm_at = by_parts self (front ++ (t ++ codes "/confirm")) (at_run t (codes "confirm" ∷ [])) (plain_below t (codes "/confirm") is refl (omega arith)) (parts_below t (codes "confirm") is) ∙ (rw names refl)

  material_at : target_of self (front ++ (t ++ codes "/material")) ≡ Some (target (peer.Material k) Put)
  material_at = by_parts self (front ++ (t ++ codes "/material")) (at_run t (codes "material" ∷ [])) (plain_below t (codes "/material") is refl (omega arith)) (parts_below t (codes "material") is) ∙ (rw names refl)

  result_at : target_of self (front ++ (t ++ codes "/result")) ≡ Some (target (peer.Result k) Get)
  result_at = by_parts self (front ++ (t ++ codes "/result")) (at_run t (codes "result" ∷ [])) (plain_below t (codes "/result") is refl (omega arith)) (parts_below t (codes "result") is) ∙ (rw names refl)

  drop_at : target_of self (front ++ (t ++ [])) ≡ Some (target (peer.Drop k) Delete)
  drop_at = by_parts self (front ++ (t ++ [])) (at_run t []) (plain_below t [] is refl (omega arith)) (rw (append-nil t) (parts_of_run t is)) ∙ (rw names refl)

pub free_named : (self : ℕ) → target_of self (codes "/pscheduler/peer/free") ≡ Some (target peer.Free Post)
free_named self = refl

pub propose_named : (self : ℕ) → target_of self (codes "/pscheduler/peer/runs") ≡ Some (target peer.Propose Post)
propose_named self = refl

module _ (self : ℕ) (k : RunKey) (names : id_of_text (run_text k) ≡ Some (Run k)) where
  pub confirm_named : target_of self (run_path k (codes "/confirm")) ≡ Some (target (peer.Confirm k) Put)
  confirm_named = confirm_at self (run_text k) k (run_part k) names

  pub material_named : target_of self (run_path k (codes "/material")) ≡ Some (target (peer.Material k) Put)
  material_named = material_at self (run_text k) k (run_part k) names

  pub result_named : target_of self (run_path k (codes "/result")) ≡ Some (target (peer.Result k) Get)
  result_named = result_at self (run_text k) k (run_part k) names

  pub drop_named : target_of self (run_path k []) ≡ Some (target (peer.Drop k) Delete)
  drop_named = drop_at self (run_text k) k (run_part k) names
