-- The text of a test as it is written straight: each piece behind what was written before.
use Rattle.std.specs.Prelude.{ℕ, List, [], ◌∷◌, ◌++◌, Option, Some, None, codes}
use Rattle.ps_time.specs.Length.{length_text_of}
use Rattle.plugin_core.specs.declared.test_spec.Sleep.{Sleep}
use Rattle.plugin_core.specs.declared.test_spec.TestSpec.{TestSpec}
use Rattle.plugin_core.specs.declared.test_spec.TestSpec.TheVariants.{Idle, Idleex, Idlebgm, Idlemany, Simplestream}

-- a text, what stands before it and its closing quote
abbrev pub with_text : List ℕ → List ℕ → List ℕ → List ℕ
with_text out head bs = ((out ++ head) ++ bs) ++ codes "\""

abbrev pub with_note : List ℕ → List ℕ → Option (List ℕ) → List ℕ
with_note out head None = out
with_note out head (Some bs) = with_text out head bs

abbrev pub with_length : List ℕ → List ℕ → ℕ → List ℕ
with_length out head len = with_text out head (length_text_of len)

-- names behind a first one, and the end of their list
abbrev pub with_names : List ℕ → List (List ℕ) → List ℕ
with_names out [] = out ++ codes "]"
with_names out (name ∷ names) = with_names (with_text out (codes ",\"") name) names

abbrev pub with_hosts : List ℕ → List (List ℕ) → List ℕ
with_hosts out [] = out
with_hosts out (host ∷ hosts) = with_names (with_text out (codes ",\"hosts\":[\"") host) hosts

abbrev pub with_duration : List ℕ → Sleep → List ℕ
with_duration out sleep = with_length out (codes "{\"spec\":{\"duration\":\"") sleep.duration

abbrev pub with_notes : List ℕ → Sleep → List ℕ
with_notes out sleep =
    with_note (with_note out (codes ",\"parting-comment\":\"") sleep.parting_comment) (codes ",\"starting-comment\":\"") sleep.starting_comment

-- the kind, and the end of the test
abbrev pub with_kind : List ℕ → List ℕ → List ℕ
with_kind out kind = with_text out (codes "},\"type\":\"") kind ++ codes "}"

abbrev pub with_sleep : List ℕ → Sleep → List ℕ → List ℕ
with_sleep out sleep kind = with_kind (with_notes (with_duration out sleep) sleep) kind

abbrev pub with_stream : List ℕ → List ℕ → List ℕ → ℕ → ℕ → List ℕ
with_stream out dest material dawdle timeout =
    with_length (with_text (with_text (with_length out (codes "{\"spec\":{\"dawdle\":\"") dawdle) (codes ",\"dest\":\"") dest) (codes ",\"test-material\":\"") material) (codes ",\"timeout\":\"") timeout

abbrev pub with_test : List ℕ → TestSpec → List ℕ
with_test out (Idle sleep) = with_sleep out sleep (codes "idle")
with_test out (Idleex sleep) = with_sleep out sleep (codes "idleex")
with_test out (Idlebgm sleep interval) = with_kind (with_notes (with_length (with_duration out sleep) (codes ",\"interval\":\"") interval) sleep) (codes "idlebgm")
with_test out (Idlemany sleep hosts) = with_kind (with_notes (with_hosts (with_duration out sleep) hosts) sleep) (codes "idlemany")
with_test out (Simplestream dest material dawdle timeout) = with_kind (with_stream out dest material dawdle timeout) (codes "simplestream")
