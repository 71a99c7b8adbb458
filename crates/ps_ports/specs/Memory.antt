-- Sources, sinks and streams in memory, and the calls that are to fail.
use Rattle.std.specs.Prelude.{◌≡◌, ℕ, ◌==◌, Bool, ◌||◌, not, List, ◌++◌, drop, Result, Ok, Err, refl}
use Rattle.std.specs.List.{list_any}
use Rattle.std.proofs.Common.{◌∙◌}
use Rattle.ps_ports.specs.Causes.{raised}

-- how many calls were made, and the numbers of those that are to fail, the first call being number 1
pub record Calls : Type 0 where
  pub made : ℕ
  pub failing : List ℕ

-- before the first call
abbrev pub no_calls : List ℕ → Calls
no_calls failing = record { made = 0; failing = failing }

-- the next call is to fail
abbrev pub fails_next : Calls → Bool
fails_next calls = list_any (λ n. n == raised calls.made) calls.failing

-- one more call was made
abbrev pub called : Calls → Calls
called calls = record { made = raised calls.made; failing = calls.failing }

-- the bytes left, the calls, and the count of faults
pub record SourceState : Type 0 where
  pub left : List ℕ
  pub calls : Calls
  pub faults : ℕ

-- after a read with this answer
abbrev pub after_read : {E : Type 0} → SourceState → Result ℕ E → SourceState
after_read s (Ok n) = record { left = drop n s.left; calls = called s.calls; faults = s.faults }
after_read s (Err e) = record { left = s.left; calls = called s.calls; faults = raised s.faults }

-- the bytes written, and whether memory ran out
pub record WrittenState : Type 0 where
  pub bytes : List ℕ
  pub starved : Bool

-- the bytes written, the calls, the count of faults, and whether memory ran out
pub record SinkState : Type 0 where
  pub written : List ℕ
  pub calls : Calls
  pub faults : ℕ
  pub starved : Bool

-- after a write of the bytes with this answer; one that fails and isn't to fail found no memory
abbrev pub after_write : {E : Type 0} → SinkState → List ℕ → Result ℕ E → SinkState
after_write s bytes (Ok n) = record { written = s.written ++ bytes; calls = called s.calls; faults = s.faults; starved = s.starved }
after_write s bytes (Err e) =
    record { written = s.written; calls = called s.calls; faults = raised s.faults; starved = s.starved || not (fails_next s.calls) }

-- the two in one, whose calls are numbered together
pub record StreamState : Type 0 where
  pub left : List ℕ
  pub written : List ℕ
  pub calls : Calls
  pub read_faults : ℕ
  pub write_faults : ℕ
  pub starved : Bool

-- the source in a stream
abbrev pub source_of : StreamState → SourceState
source_of s = record { left = s.left; calls = s.calls; faults = s.read_faults }

-- the sink in a stream
abbrev pub sink_of : StreamState → SinkState
sink_of s = record { written = s.written; calls = s.calls; faults = s.write_faults; starved = s.starved }

-- the stream with this source in it
abbrev pub with_source : StreamState → SourceState → StreamState
with_source s source = record {
  left = source.left;
  written = s.written;
  calls = source.calls;
  read_faults = source.faults;
  write_faults = s.write_faults;
  starved = s.starved;
}

-- the stream with this sink in it
abbrev pub with_sink : StreamState → SinkState → StreamState
with_sink s sink = record {
  left = s.left;
  written = sink.written;
  calls = sink.calls;
  read_faults = s.read_faults;
  write_faults = sink.faults;
  starved = sink.starved;
}

-- a read leaves what was written, the count of its faults, and which calls are to fail
pub record ReadKeeps (old new : StreamState) : Type 0 where
  pub written : new.written ≡ old.written
  pub faults : new.write_faults ≡ old.write_faults
  pub failing : new.calls.failing ≡ old.calls.failing

pub ReadKeeps-refl : (a : StreamState) → ReadKeeps a a
ReadKeeps-refl a = record { written = refl; faults = refl; failing = refl }

pub ReadKeeps-trans : (a b c : StreamState) → ReadKeeps a b → ReadKeeps b c → ReadKeeps a c
ReadKeeps-trans a b c p q = record { written = q.written ∙ p.written; faults = q.faults ∙ p.faults; failing = q.failing ∙ p.failing }

-- a write leaves what is left to read, the count of its faults, and which calls are to fail
pub record WriteKeeps (old new : StreamState) : Type 0 where
  pub left : new.left ≡ old.left
  pub faults : new.read_faults ≡ old.read_faults
  pub failing : new.calls.failing ≡ old.calls.failing

pub WriteKeeps-refl : (a : StreamState) → WriteKeeps a a
WriteKeeps-refl a = record { left = refl; faults = refl; failing = refl }

pub WriteKeeps-trans : (a b c : StreamState) → WriteKeeps a b → WriteKeeps b c → WriteKeeps a c
WriteKeeps-trans a b c p q = record { left = q.left ∙ p.left; faults = q.faults ∙ p.faults; failing = q.failing ∙ p.failing }
