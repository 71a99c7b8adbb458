-- A line of a report that is written in two parts.
use Rattle.std.specs.Fmt.{decimal}
use Rattle.std.specs.Prelude.{codes}
use Rattle.std.proofs.Common.{◌≡◌, ◌+◌, ◌++◌, ◌∙◌, ℕ, List, ap, append_assoc, drop, length}
use Rattle.std.proofs.Math.Seq.{drop-append_seam}
use Rattle.rehearsal_script.specs.declared.script.ScriptHost.{ScriptHost}
use Rattle.world_law.specs.World.{Message}
use Rattle.rehearsal_report.specs.Line.{line_text}
use Rattle.rehearsal_model.specs.Rehearsal.{messages_told}
use Rattle.rehearsal_model.specs.Simulations.{Simulation, count_sent}

pub line_joined : (old said more : List ℕ) (line : ℕ)
    → ((old ++ (decimal line ++ codes " " ++ said)) ++ more) ++ codes "\n" ≡ old ++ line_text line (said ++ more)
line_joined old said more line =
    let front : List ℕ = decimal line ++ codes " " in
    ap (λ x. x ++ codes "\n") (append_assoc old (front ++ said) more ∙ ap (λ x. old ++ x) (append_assoc front said more))
    ∙ append_assoc old (front ++ (said ++ more)) (codes "\n")

-- one that tells of one message
pub one_told : (old said begun told sent next new : List ℕ) (line : ℕ) → begun ≡ old ++ (decimal line ++ codes " " ++ said) → next ≡ begun ++ told → told ≡ sent → new ≡ next ++ codes "\n" → new ≡ old ++ line_text line (said ++ sent)
one_told old said begun told sent next new line begun_is next_is told_is new_is =
    new_is
    ∙ (ap (λ (x : List ℕ). x ++ codes "\n") next_is
    ∙ (ap (λ (x : List ℕ). (x ++ told) ++ codes "\n") begun_is
    ∙ (ap (λ (x : List ℕ). ((old ++ (decimal line ++ codes " " ++ said)) ++ x) ++ codes "\n") told_is
    ∙ line_joined old said sent line)))

-- one that tells of messages: those that were sent after `before`, when so many numbers besides were given
pub told_as : (hosts : List ScriptHost) (b : Simulation) (line besides : ℕ) (old said begun new : List ℕ) (before after sent : List Message)
    → before ≡ b.messages → besides ≡ length b.broken → after ≡ b.messages ++ sent → begun ≡ old ++ (decimal line ++ codes " " ++ said)
    → new ≡ begun ++ messages_told hosts (length before + besides + 1) (drop (length before) after) ++ codes "\n"
    → new ≡ old ++ line_text line (said ++ messages_told hosts (count_sent b + 1) sent)
told_as hosts b line besides old said begun new before after sent before_is besides_is after_is begun_is new_is =
    let front : List ℕ = old ++ (decimal line ++ codes " " ++ said) in
    new_is
    ∙ (ap (λ (x : List ℕ). (x ++ messages_told hosts (length before + besides + 1) (drop (length before) after)) ++ codes "\n") begun_is
    ∙ (ap (λ (x : List Message). (front ++ messages_told hosts (length x + besides + 1) (drop (length x) after)) ++ codes "\n") before_is
    ∙ (ap (λ (n : ℕ). (front ++ messages_told hosts (length b.messages + n + 1) (drop (length b.messages) after)) ++ codes "\n") besides_is
    ∙ (ap (λ (x : List Message). (front ++ messages_told hosts (count_sent b + 1) (drop (length b.messages) x)) ++ codes "\n") after_is
    ∙ (ap (λ (x : List Message). (front ++ messages_told hosts (count_sent b + 1) x) ++ codes "\n") (drop-append_seam b.messages sent)
    ∙ line_joined old said (messages_told hosts (count_sent b + 1) sent) line)))))
