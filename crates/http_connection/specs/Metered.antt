-- A stream of which so many bytes may be read, as its reads and writes change it.
use Rattle.std.specs.Prelude.{◌≡◌, ◌≤◌, ◌<◌, ◌+◌, ℕ, List, [], ◌++◌, length, Option, refl}
use Rattle.std.specs.Io.KnownBytes.{Consumes}
use Rattle.std.proofs.Common.{◌∙◌, arith, length-append}
use Rattle.std.proofs.KnownBytes.{Consumes-nil, Consumes-trans}
use Rattle.ps_ports.specs.Causes.{counted}
use Rattle.http_connection.specs.declared.metered.Metered.{Metered}

-- what is left and what was written, where the stream tells them, its counts, how many bytes may still be read, and how many reads were refused
pub record Seen : Type 0 where
  pub left : Option (List ℕ)
  pub written : Option (List ℕ)
  pub read_faults : ℕ
  pub write_faults : ℕ
  pub room : ℕ
  pub refusals : ℕ

abbrev pub seen : {M : Type 0} → (M → Option (List ℕ)) → (M → Option (List ℕ)) → (M → ℕ) → (M → ℕ) → Metered M → Seen
seen left written read_faults write_faults m = record {
  left = left m.stream.now;
  written = written m.stream.now;
  read_faults = read_faults m.stream.now;
  write_faults = write_faults m.stream.now;
  room = m.room;
  refusals = counted m.refusals;
}

-- bytes came, and so many fewer may still come
pub record Took (a b : Seen) : Type 0 where
  pub bytes : List ℕ
  pub consumed : Consumes a.left b.left bytes
  pub room : length bytes + b.room ≡ a.room

-- reads are refused only where no more bytes may come
abbrev pub IsFair : Seen → Type 0
IsFair a = 0 < a.refusals → a.room ≡ 0

-- what reads keep
pub record ReadKept (a b : Seen) : Type 0 where
  pub written : b.written ≡ a.written
  pub write_faults : b.write_faults ≡ a.write_faults
  pub read_faults : a.read_faults ≤ b.read_faults
  pub refusals : a.refusals ≤ b.refusals
  pub fair : IsFair a → IsFair b
  pub took : Took a b

pub Took-refl : (a : Seen) → Took a a
Took-refl a = record { bytes = []; consumed = Consumes-nil a.left; room = omega arith }

pub Took-trans : (a b c : Seen) → Took a b → Took b c → Took a c
Took-trans a b c p q = record {
  bytes = p.bytes ++ q.bytes;
  consumed = Consumes-trans a.left b.left c.left p.bytes q.bytes p.consumed q.consumed;
  room = omega (arith, length-append p.bytes q.bytes, p.room, q.room);
}

pub ReadKept-refl : (a : Seen) → ReadKept a a
ReadKept-refl a = record { written = refl; write_faults = refl; read_faults = omega arith; refusals = omega arith; fair = λ f. f; took = Took-refl a }

pub ReadKept-trans : (a b c : Seen) → ReadKept a b → ReadKept b c → ReadKept a c
ReadKept-trans a b c p q = record {
  written = q.written ∙ p.written;
  write_faults = q.write_faults ∙ p.write_faults;
  read_faults = omega (arith, p.read_faults, q.read_faults);
  refusals = omega (arith, p.refusals, q.refusals);
  fair = λ f. q.fair (p.fair f);
  took = Took-trans a b c p.took q.took;
}

-- what writes keep
pub record WriteKept (a b : Seen) : Type 0 where
  pub left : b.left ≡ a.left
  pub read_faults : b.read_faults ≡ a.read_faults
  pub write_faults : a.write_faults ≤ b.write_faults
  pub refusals : b.refusals ≡ a.refusals
  pub room : b.room ≡ a.room

pub WriteKept-refl : (a : Seen) → WriteKept a a
WriteKept-refl a = record { left = refl; read_faults = refl; write_faults = omega arith; refusals = refl; room = refl }

pub WriteKept-trans : (a b c : Seen) → WriteKept a b → WriteKept b c → WriteKept a c
WriteKept-trans a b c p q = record {
  left = q.left ∙ p.left;
  read_faults = q.read_faults ∙ p.read_faults;
  write_faults = omega (arith, p.write_faults, q.write_faults);
  refusals = q.refusals ∙ p.refusals;
  room = q.room ∙ p.room;
}

-- what reads and writes together keep
pub record Used (a b : Seen) : Type 0 where
  pub read_faults : a.read_faults ≤ b.read_faults
  pub write_faults : a.write_faults ≤ b.write_faults
  pub refusals : a.refusals ≤ b.refusals
  pub fair : IsFair a → IsFair b
  pub took : Took a b
