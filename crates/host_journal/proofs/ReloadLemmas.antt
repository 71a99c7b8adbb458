-- What a `reload` finds, by what was pending.
use Rattle.std.proofs.Common.{◌≡◌, ◌≢◌, ℕ, ◌+◌, Bool, true, false, not, if◌then◌else◌, List, [], ◌∷◌, ◌++◌, get_or, refl, sym, ◌∙◌, ap, subst, arith}
use Rattle.std.specs.Prelude.{◌==◌}
use Rattle.std.proofs.Math.Seq.{get_or-append_seam}
use Rattle.ps_disks.specs.Disk.{Only}
use Rattle.host_journal.specs.Reload.{stood_of}
use Rattle.host_journal.specs.State.{State, stored, has_record, IsClosed, IsAside, IsWhole, IsStaged, IsImage, Counting, Beside, IsSound}
use Rattle.host_journal.specs.declared.pending.Pending.{Pending}
use Rattle.host_journal.specs.declared.pending.Pending.TheVariants.{Nothing, Unopened, Record, Snapshot}
use Rattle.host_journal.specs.declared.reload.Stood.{Stood}
use Rattle.host_journal.specs.declared.reload.Stood.TheVariants.{Nothing as no_gate, Record as the_record, Snapshot as the_snapshot}
use Rattle.host_journal.proofs.AppendLemmas.{staged_open, staged_shut}
use Rattle.host_journal.proofs.FormatLemmas.{eq_from, eq_true, ne_false}
use Rattle.host_journal.proofs.PairLemmas.{counts_as}
use Rattle.host_journal.proofs.SnapshotLemmas.{image_open, image_shut, older_now}
use Rattle.host_journal.proofs.StateLemmas.{stored_of}
use Rattle.host_journal.proofs.TakenLemmas.{Fixed, fixed_counts, same_order}

-- the byte that a read of the gate byte gives
gate_staged : (generation start end next : ℕ) (list : List (List ℕ)) (payload c : List ℕ) (staged : IsStaged generation start end next list payload c) → get_or c end 0 ≡ staged.gate_byte
gate_staged generation start end next list payload c staged =
    ap (λ (l : List ℕ). get_or l end 0) staged.split ∙ ap (λ (n : ℕ). get_or (staged.front ++ staged.gate_byte ∷ (staged.frame ++ staged.last ∷ staged.tail)) n 0) staged.is_end
    ∙ get_or-append_seam staged.front staged.gate_byte (staged.frame ++ staged.last ∷ staged.tail) 0

gate_image : (generation start : ℕ) (image c : List ℕ) (is : IsImage generation start image c) → get_or c 8 0 ≡ is.gate_byte
gate_image generation start image c is = ap (λ (l : List ℕ). get_or l 8 0) is.split

-- a test on a gate byte
no_from : (gate_byte n m : ℕ) → n ≡ m → (n == gate_byte) ≡ false → m ≢ gate_byte
no_from gate_byte n m same test is = absurd (cc (eq_true n gate_byte (same ∙ is), test))

yes_from : (gate_byte n m : ℕ) → n ≡ m → (n == gate_byte) ≡ true → m ≡ gate_byte
yes_from gate_byte n m same test = sym same ∙ eq_from n gate_byte test

record_or : (t : Bool) (next : ℕ) → (if t then the_record next else no_gate) ≡ no_gate → t ≡ false
record_or true next is = absurd (cc is)
record_or false next is = refl

snapshot_or : (t : Bool) (start : ℕ) → (if t then the_snapshot start else no_gate) ≡ no_gate → t ≡ false
snapshot_or true start is = absurd (cc is)
snapshot_or false start is = refl

record_is : (t : Bool) (next found : ℕ) → (if t then the_record next else no_gate) ≡ the_record found → (t ≡ true) × (next ≡ found)
record_is true next found is = (refl, cc is)
record_is false next found is = absurd (cc is)

snapshot_is : (t : Bool) (start found : ℕ) → (if t then the_snapshot start else no_gate) ≡ the_snapshot found → (t ≡ true) × (start ≡ found)
snapshot_is true start found is = (refl, cc is)
snapshot_is false start found is = absurd (cc is)

record_no : (t : Bool) (next found : ℕ) → (if t then the_record next else no_gate) ≡ the_snapshot found → ⊥
record_no true next found is = cc is
record_no false next found is = cc is

snapshot_no : (t : Bool) (start found : ℕ) → (if t then the_snapshot start else no_gate) ≡ the_record found → ⊥
snapshot_no true start found is = cc is
snapshot_no false start found is = cc is

module _ {D : Type 0} (seen : D → List ℕ) (may_leave : D → List ℕ → Type 0) (reads_now : (disk : D) → may_leave disk (seen disk)) (s : State D) (sound : IsSound seen may_leave s) where
  counting_by : (p : Pending) → s.pending ≡ p → Counting s sound.list p (seen s.counting)
  counting_by p is = subst (λ (q : Pending). Counting s sound.list q (seen s.counting)) is (sound.counting (seen s.counting) (reads_now s.counting))

  beside_by : (p : Pending) → s.pending ≡ p → Beside s p (seen s.other)
  beside_by p is = subst (λ (q : Pending). Beside s q (seen s.other)) is (sound.other (seen s.other) (reads_now s.other))

  abbrev found : Pending → Stood
  found p = stood_of p s.end (seen s.counting) (seen s.other)

  -- No gate byte stands open: the disk that counts is as it was.
  no_counting : (p : Pending) → s.pending ≡ p → found p ≡ no_gate → IsWhole s.generation s.start s.end sound.list (seen s.counting)
  no_counting Nothing is none = counting_by Nothing is
  no_counting Unopened is none = counting_by Unopened is
  no_counting (Record next) is none =
      let stood = counting_by (Record next) is in
      let test = record_or (get_or (seen s.counting) s.end 0 == 1) next none in
      staged_shut s.generation s.start s.end sound.list next stood.0 (seen s.counting) stood.1
      (no_from 1 (get_or (seen s.counting) s.end 0) stood.1.gate_byte (gate_staged s.generation s.start s.end next sound.list stood.0 (seen s.counting) stood.1) test)
  no_counting (Snapshot start) is none = counting_by (Snapshot start) is

  no_beside : (p : Pending) → s.pending ≡ p → found p ≡ no_gate → IsAside s.second s.generation s.shut (seen s.other)
  no_beside Nothing is none = beside_by Nothing is
  no_beside Unopened is none = beside_by Unopened is
  no_beside (Record next) is none = beside_by (Record next) is
  no_beside (Snapshot start) is none =
      let beside = beside_by (Snapshot start) is in
      let image = beside.1 in
      let test = snapshot_or (get_or (seen s.other) 8 0 == 1) start none in
      let closed : IsClosed (seen s.other) = image_shut (s.generation + 1) start image.0 (seen s.other) image.1
      (no_from 1 (get_or (seen s.other) 8 0) image.1.gate_byte (gate_image (s.generation + 1) start image.0 (seen s.other) image.1) test) in
      subst (λ (t : Bool). IsAside s.second s.generation t (seen s.other)) (sym beside.0) closed

  no_answer : (p : Pending) → s.pending ≡ p → found p ≡ no_gate → stored seen s ≡ counts_as s.second s.generation s.start s.end sound.list → has_record p (stored seen s) ≡ false
  no_answer Nothing is none counts = refl
  no_answer Unopened is none counts = refl
  no_answer (Record next) is none counts =
      let stood = counting_by (Record next) is in
      let less : s.end ≢ next = λ same. absurd (omega (arith, same, stood.1.is_next, stood.1.is_end)) in
      ap (has_record (Record next)) counts ∙ ne_false s.end next less
  no_answer (Snapshot start) is none counts = refl

  -- The record stands.
  pub record Recorded (next : ℕ) : Type 0 where
    pub payload : List ℕ
    pub whole : IsWhole s.generation s.start next (sound.list ++ payload ∷ []) (seen s.counting)
    pub aside : IsAside s.second s.generation s.shut (seen s.other)
    pub answer : (list : List (List ℕ)) → stored seen s ≡ counts_as s.second s.generation s.start next list → has_record s.pending (stored seen s) ≡ true

  the_recorded : (p : Pending) (next : ℕ) → s.pending ≡ p → found p ≡ the_record next → Recorded next
  the_recorded Nothing next is has = absurd (cc has)
  the_recorded Unopened next is has = absurd (cc has)
  the_recorded (Record n) next is has =
      let stood = counting_by (Record n) is in
      let test = record_is (get_or (seen s.counting) s.end 0 == 1) n next has in
      let opens : stood.1.gate_byte ≡ 1 = yes_from 1 (get_or (seen s.counting) s.end 0) stood.1.gate_byte (gate_staged s.generation s.start s.end n sound.list stood.0 (seen s.counting) stood.1) test.0 in
      record {
        payload = stood.0;
        whole = subst (λ (m : ℕ). IsWhole s.generation s.start m (sound.list ++ stood.0 ∷ []) (seen s.counting)) test.1 (staged_open s.generation s.start s.end sound.list n stood.0 (seen s.counting) stood.1 opens);
        aside = beside_by (Record n) is;
        answer = λ list counts. ap (λ (q : Pending). has_record q (stored seen s)) is ∙ ap (has_record (Record n)) counts ∙ eq_true next n (sym test.1);
      }
  the_recorded (Snapshot start) next is has = absurd (snapshot_no (get_or (seen s.other) 8 0 == 1) start next has)

  pub recorded : (next : ℕ) → stood_of s.pending s.end (seen s.counting) (seen s.other) ≡ the_record next → Recorded next
  recorded next has = the_recorded s.pending next refl has

  -- The snapshot stands.
  pub record Snapped (start : ℕ) : Type 0 where
    pub image : List ℕ
    pub whole : IsWhole (s.generation + 1) start start (image ∷ []) (seen s.other)
    pub aside : IsAside (not s.second) (s.generation + 1) false (seen s.counting)
    pub answer : has_record s.pending (stored seen s) ≡ false

  the_snapped : (p : Pending) (start : ℕ) → s.pending ≡ p → found p ≡ the_snapshot start → Snapped start
  the_snapped Nothing start is has = absurd (cc has)
  the_snapped Unopened start is has = absurd (cc has)
  the_snapped (Record n) start is has = absurd (record_no (get_or (seen s.counting) s.end 0 == 1) n start has)
  the_snapped (Snapshot at) start is has =
      let image = (beside_by (Snapshot at) is).1 in
      let test = snapshot_is (get_or (seen s.other) 8 0 == 1) at start has in
      let opens : image.1.gate_byte ≡ 1 = yes_from 1 (get_or (seen s.other) 8 0) image.1.gate_byte (gate_image (s.generation + 1) at image.0 (seen s.other) image.1) test.0 in
      record {
        image = image.0;
        whole = subst (λ (m : ℕ). IsWhole (s.generation + 1) m m (image.0 ∷ []) (seen s.other)) test.1 (image_open (s.generation + 1) at image.0 (seen s.other) image.1 opens);
        aside = older_now s.second s.generation s.start s.end sound.list (seen s.counting) (counting_by (Snapshot at) is);
        answer = ap (λ (q : Pending). has_record q (stored seen s)) is;
      }

  pub snapped : (start : ℕ) → stood_of s.pending s.end (seen s.counting) (seen s.other) ≡ the_snapshot start → Snapped start
  snapped start has = the_snapped s.pending start refl has

  -- Neither does.
  pub record Neither : Type 0 where
    pub whole : IsWhole s.generation s.start s.end sound.list (seen s.counting)
    pub aside : IsAside s.second s.generation s.shut (seen s.other)
    pub answer : stored seen s ≡ counts_as s.second s.generation s.start s.end sound.list → has_record s.pending (stored seen s) ≡ false

  pub neither : stood_of s.pending s.end (seen s.counting) (seen s.other) ≡ no_gate → Neither
  neither none = record { whole = no_counting s.pending refl none; aside = no_beside s.pending refl none; answer = no_answer s.pending refl none }

  -- Over disks that were read.
  module _ (counting other : D) (read : seen counting ≡ seen s.counting) (read_other : seen other ≡ seen s.other)
      (only : Only (seen counting) (may_leave counting)) (only_other : Only (seen other) (may_leave other)) (room : ℕ) where
    abbrev taken : ℕ → State D
    taken end = record { counting = counting; other = other; second = s.second; generation = s.generation; start = s.start; end = end; shut = s.shut; pending = Nothing; room = room }

    abbrev turned : D → D → ℕ → State D
    turned x y start = record { counting = x; other = y; second = not s.second; generation = s.generation + 1; start = start; end = start; shut = false; pending = Nothing; room = room }

    pub fixed_neither : Neither → Fixed seen may_leave (taken s.end) sound.list
    fixed_neither found = record {
      whole = subst (IsWhole s.generation s.start s.end sound.list) (sym read) found.whole;
      aside = subst (IsAside s.second s.generation s.shut) (sym read_other) found.aside;
      only = only;
      only_other = only_other;
    }

    pub fixed_recorded : (next : ℕ) (found : Recorded next) → Fixed seen may_leave (taken next) (sound.list ++ found.payload ∷ [])
    fixed_recorded next found = record {
      whole = subst (IsWhole s.generation s.start next (sound.list ++ found.payload ∷ [])) (sym read) found.whole;
      aside = subst (IsAside s.second s.generation s.shut) (sym read_other) found.aside;
      only = only;
      only_other = only_other;
    }

    fixed_turned : (start : ℕ) (found : Snapped start) → Fixed seen may_leave (turned other counting start) (found.image ∷ [])
    fixed_turned start found = record {
      whole = subst (IsWhole (s.generation + 1) start start (found.image ∷ [])) (sym read_other) found.whole;
      aside = subst (IsAside (not s.second) (s.generation + 1) false) (sym read) found.aside;
      only = only_other;
      only_other = only;
    }

    pub fixed_snapped : (start : ℕ) (found : Snapped start) (x y : D) → x ≡ other → y ≡ counting → Fixed seen may_leave (turned x y start) (found.image ∷ [])
    fixed_snapped start found x y one two =
        subst (λ (a : D). Fixed seen may_leave (turned a y start) (found.image ∷ [])) (sym one)
        (subst (λ (b : D). Fixed seen may_leave (turned other b start) (found.image ∷ [])) (sym two) (fixed_turned start found))

    same : stored_of seen s.second counting other ≡ stored_of seen s.second s.counting s.other
    same = same_order seen s.second s.counting s.other counting other read read_other

    pub answer_neither : Neither → has_record s.pending (stored seen s) ≡ false
    answer_neither found = found.answer (sym same ∙ fixed_counts seen may_leave (taken s.end) sound.list (fixed_neither found))

    pub answer_recorded : (next : ℕ) → Recorded next → has_record s.pending (stored seen s) ≡ true
    answer_recorded next found =
        found.answer (sound.list ++ found.payload ∷ []) (sym same ∙ fixed_counts seen may_leave (taken next) (sound.list ++ found.payload ∷ []) (fixed_recorded next found))
