-- When a proposal has the content of a row.
use Rattle.std.specs.Cmp.Lexicographic.{pointwise}
use Rattle.std.specs.Ordering.{int_eq, is_eq}
use Rattle.std.specs.Prelude.{◌&&◌, ◌==◌, Bool, List, None, Option, Some, [], bytes_eq, false, true, unwrap_or, ℕ}
use Rattle.ps_time.specs.Key.{key_cmp}
use Rattle.ps_time.specs.Span.{Span}
use Rattle.ps_time.specs.declared.asker.Asker.{Asker}
use Rattle.plugin_core.specs.declared.test_spec.Sleep.{Sleep}
use Rattle.plugin_core.specs.declared.test_spec.TestSpec.{TestSpec}
use Rattle.plugin_core.specs.declared.test_spec.TestSpec.TheVariants.{Idle, Idleex, Idlebgm, Idlemany, Simplestream}
use Rattle.run_states.specs.declared.proposal.Proposal.{Proposal}
use Rattle.run_states.specs.declared.row.RunRow.{RunRow}

-- both have nothing, or the same
abbrev pub same_option : {A : Type 0} → (A → A → Bool) → Option A → Option A → Bool
same_option same None None = true
same_option same (Some a) (Some b) = same a b
same_option same _ _ = false

-- the same texts in the same order
abbrev pub same_texts : List (List ℕ) → List (List ℕ) → Bool
same_texts = pointwise bytes_eq

-- the same duration and comments
abbrev pub same_sleep : Sleep → Sleep → Bool
same_sleep y z =
    (y.duration == z.duration) && (same_option bytes_eq y.starting_comment z.starting_comment && same_option bytes_eq y.parting_comment z.parting_comment)

-- the same test, with the same parameters
abbrev pub same_test : TestSpec → TestSpec → Bool
same_test (Idle y) (Idle z) = same_sleep y z
same_test (Idleex y) (Idleex z) = same_sleep y z
same_test (Idlebgm y i) (Idlebgm z j) = same_sleep y z && (i == j)
same_test (Idlemany y hosts) (Idlemany z others) = same_sleep y z && same_texts hosts others
same_test (Simplestream a m d o) (Simplestream b n e u) = bytes_eq a b && (bytes_eq m n && ((d == e) && (o == u)))
same_test _ _ = false

-- the same requester and server
abbrev pub same_asker : Asker → Asker → Bool
same_asker a b = bytes_eq a.requester b.requester && bytes_eq a.server b.server

-- the same in every field
abbrev pub same_proposal : Proposal → Proposal → Bool
same_proposal p q =
    is_eq (key_cmp p.key q.key) && (same_test p.test q.test && (bytes_eq p.tool q.tool && ((p.start == q.start) && (int_eq p.priority q.priority && same_asker p.asker q.asker))))

-- the start of an interval that may be there
abbrev pub start_of_span : Option Span → ℕ
start_of_span None = 0
start_of_span (Some s) = s.start

-- what was accepted, as it was proposed; a row that wasn't accepted has no tool and no start
abbrev pub kept_proposal : RunRow → Proposal
kept_proposal r = record { key = r.key; test = r.test; tool = unwrap_or r.tool []; start = start_of_span r.interval; priority = r.priority; asker = r.asker }

-- the row of the proposal's key, with these participants, has its content
abbrev pub same_content : RunRow → Proposal → List (List ℕ) → Bool
same_content r p participants = same_proposal (kept_proposal r) p && same_texts r.participants participants
