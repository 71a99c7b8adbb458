-- Laws of pairs, of what is made of its parts, and of variants. Proved here, since an `impl` cites them.
use Rattle.std.specs.Prelude.{◌++◌, ◌==◌, ◌∷◌, ◌≡◌, Bool, List, None, Option, Some, [], cond, false, refl, suc, true, ℕ}
use Rattle.std.proofs.Common.{◌∙◌, sym, ap, subst, append_assoc}
use Rattle.std.proofs.lemmas.Bool.{eqb-true}
use Rattle.value_bytes.specs.Codec.{◌&◌, Codec, built, nothing, partly, variant}
use Rattle.value_bytes.specs.Laws.{AreBytes, Begins, IsCodec, ReadAgain, ReadsCodes}
use Rattle.value_bytes.specs.Reading.{before, behind, case_at, made_at, no_case_at, pair_at, variant_at}

-- what was found first
pub behind_some : {A B : Type 0} (o : Option (A × List ℕ)) (next : A → List ℕ → Option B) (y : B) → behind o next ≡ Some y → (x : A × List ℕ) × (o ≡ Some x) × (next x.0 x.1 ≡ Some y)
behind_some (Some x) next y e = (x, refl, e)
behind_some None next y e = absurd cc

abbrev found : {A : Type 0} → A → Option A
found x = Some x

pub some_is : {A : Type 0} (x y : A) → found x ≡ found y → x ≡ y
some_is x y e = cc

pub before_some : {A : Type 0} (o : Option A) (rest : List ℕ) (y : A × List ℕ) → before o rest ≡ Some y → (a : A) × (o ≡ Some a) × ((a, rest) ≡ y)
before_some (Some a) rest y e = (a, refl, some_is (a, rest) y e)
before_some None rest y e = absurd cc

-- two behind each other
pub begins_then : {A B : Type 0} (code_a : A → List ℕ) (code_b : B → List ℕ) (bytes middle rest : List ℕ) (a : A) (b : B)
    → Begins code_a bytes a middle → Begins code_b middle b rest → Begins (λ (p : A × B). code_a p.0 ++ code_b p.1) bytes (a, b) rest
begins_then code_a code_b bytes middle rest a b first second = record {
  parts = first.parts ∙ ap (λ (t : List ℕ). code_a a ++ t) second.parts ∙ sym (append_assoc (code_a a) (code_b b) rest);
  are_bytes = second.are_bytes;
}

pub nothing_is : IsCodec nothing
nothing_is = record { again = λ x rest fits. refl; reads = λ bytes x rest are e. record { parts = ap (λ (y : Unit {0} × List ℕ). y.1) (some_is (tt, bytes) (x, rest) e); are_bytes = subst AreBytes (ap (λ (y : Unit {0} × List ℕ). y.1) (some_is (tt, bytes) (x, rest) e)) are } }

module _ {A B : Type 0} {c : Codec A} {d : Codec B} where
  pair_again : IsCodec c → IsCodec d → ReadAgain (c & d).Fits (c & d).code (c & d).read
  pair_again is_c is_d x rest fits =
      ap (pair_at c.read d.read) (append_assoc (c.code x.0) (d.code x.1) rest) ∙ rw (is_c.again x.0 (d.code x.1 ++ rest) fits.0, is_d.again x.1 rest fits.1) refl

  pair_reads : IsCodec c → IsCodec d → ReadsCodes (c & d).code (c & d).read
  pair_reads is_c is_d bytes x rest are e =
      let p = behind_some (c.read bytes) (λ a after. behind (d.read after) (λ b last. Some ((a, b), last))) (x, rest) e in
      let q = behind_some (d.read p.0.1) (λ b last. Some ((p.0.0, b), last)) (x, rest) p.2 in
      let first = is_c.reads bytes p.0.0 p.0.1 are p.1 in
      let second = is_d.reads p.0.1 q.0.0 q.0.1 first.are_bytes q.1 in
      subst (λ (y : (A × B) × List ℕ). Begins (c & d).code bytes y.0 y.1) (some_is ((p.0.0, q.0.0), q.0.1) (x, rest) q.2) (begins_then c.code d.code bytes p.0.1 q.0.1 p.0.0 q.0.0 first second)

  pub pair_is : IsCodec c → IsCodec d → IsCodec (c & d)
  pair_is is_c is_d = record { again = pair_again is_c is_d; reads = pair_reads is_c is_d }

-- ---- what is made of its parts
module _ {A B : Type 0} (make : A → B) (parts : B → A) {c : Codec A} where
  pub built_is : ((b : B) → make (parts b) ≡ b) → ((a : A) → parts (make a) ≡ a) → IsCodec c → IsCodec (built make parts c)
  built_is back forth is = record { again = again; reads = reads }
    where
      again : ReadAgain (built make parts c).Fits (built make parts c).code (built make parts c).read
      again b rest fits = rw (is.again (parts b) rest fits, back b) refl

      reads : ReadsCodes (built make parts c).code (built make parts c).read
      reads bytes b rest are e =
          let p = behind_some (c.read bytes) (λ a last. Some (make a, last)) (b, rest) e in
          let first = is.reads bytes p.0.0 p.0.1 are p.1 in
          subst (λ (y : B × List ℕ). Begins (built make parts c).code bytes y.0 y.1) (some_is (make p.0.0, p.0.1) (b, rest) p.2)
          (record { parts = first.parts ∙ ap (λ (a : A). c.code a ++ p.0.1) (sym (forth p.0.0)); are_bytes = first.are_bytes })

module _ {A B : Type 0} (make : A → Option B) (parts : B → A) (Writable Fits : B → Type 0) {c : Codec A} where
  pub partly_is : ((b : B) → Fits b → make (parts b) ≡ Some b) → ((b : B) → Fits b → c.Fits (parts b)) → ((a : A) (b : B) → make a ≡ Some b → parts b ≡ a) → IsCodec c → IsCodec (partly make parts Writable Fits c)
  partly_is back kept forth is = record { again = again; reads = reads }
    where
      again : ReadAgain Fits (partly make parts Writable Fits c).code (partly make parts Writable Fits c).read
      again b rest fits = rw (is.again (parts b) rest (kept b fits), back b fits) refl

      reads : ReadsCodes (partly make parts Writable Fits c).code (partly make parts Writable Fits c).read
      reads bytes b rest are e =
          let p = behind_some (c.read bytes) (λ a last. before (make a) last) (b, rest) e in
          let q = before_some (make p.0.0) p.0.1 (b, rest) p.2 in
          let first = is.reads bytes p.0.0 p.0.1 are p.1 in
          subst (λ (y : B × List ℕ). Begins (partly make parts Writable Fits c).code bytes y.0 y.1) q.2
          (record { parts = first.parts ∙ ap (λ (a : A). c.code a ++ p.0.1) (sym (forth p.0.0 q.0 q.1)); are_bytes = first.are_bytes })

-- ---- variants
-- what is read behind a number has a code that begins with it
abbrev pub CasesRead : {A : Type 0} → (A → List ℕ) → (ℕ → List ℕ → Option (A × List ℕ)) → Type 0
CasesRead {A} code cases = (n : ℕ) (bytes : List ℕ) (x : A) (rest : List ℕ) → AreBytes bytes → cases n bytes ≡ Some (x, rest) → Begins code (n ∷ bytes) x rest

pub no_case_reads : {A : Type 0} (code : A → List ℕ) → CasesRead code no_case_at
no_case_reads code n bytes x rest are e = absurd cc

module _ {A B : Type 0} {code : A → List ℕ} {others : ℕ → List ℕ → Option (A × List ℕ)} (number : ℕ) (make : B → A) {c : Codec B} where
  pub case_reads : ((b : B) → code (make b) ≡ number ∷ c.code b) → IsCodec c → CasesRead code others → CasesRead code (case_at number (made_at make c.read) others)
  case_reads coded is rest_reads n bytes x rest are e = by (n == number) refl e
    where
      by : (t : Bool) → (n == number) ≡ t → cond t (made_at make c.read bytes) (others n bytes) ≡ Some (x, rest) → Begins code (n ∷ bytes) x rest
      by false other e = rest_reads n bytes x rest are e
      by true same e =
          let p = behind_some (c.read bytes) (λ b last. Some (make b, last)) (x, rest) e in
          let first = is.reads bytes p.0.0 p.0.1 are p.1 in
          let n-is : n ≡ number = eqb-true n number same in
          subst (λ (y : A × List ℕ). Begins code (n ∷ bytes) y.0 y.1) (some_is (make p.0.0, p.0.1) (x, rest) p.2)
          (record { parts = rw (n-is, coded p.0.0) (ap (λ (t : List ℕ). number ∷ t) first.parts); are_bytes = first.are_bytes })

-- the fields of a variant are read again
pub made_again : {A B : Type 0} (make : B → A) {c : Codec B} → IsCodec c → (b : B) (rest : List ℕ) → c.Fits b → made_at make c.read (c.code b ++ rest) ≡ Some (make b, rest)
made_again make is b rest fits = rw (is.again b rest fits) refl

pub variant_is : {A : Type 0} (Writable Fits : A → Type 0) (code : A → List ℕ) (cases : ℕ → List ℕ → Option (A × List ℕ)) → ReadAgain Fits code (variant_at cases) → CasesRead code cases → IsCodec (variant Writable Fits code cases)
variant_is {A} Writable Fits code cases again cases_read = record { again = again; reads = reads }
  where
    reads : ReadsCodes code (variant_at cases)
    reads [] x rest are e = absurd cc
    reads (b ∷ bytes) x rest are e = cases_read b bytes x rest (λ i. are (suc i)) e
