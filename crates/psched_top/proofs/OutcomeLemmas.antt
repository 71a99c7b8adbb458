-- Why an outcome comes, from what a reading gave.
use Rattle.std.proofs.Common.{◌≡◌, ◌≤◌, ◌<◌, ℕ, true, length, List, [], Option, Some, None, IfSome, inl, inr, refl, ap, subst, ◌∙◌, arith, rules, tests}
use Rattle.ps_ports.specs.All.{GaveAll, GaveMoreThan, HeldMoreThan}
use Rattle.ps_ports.specs.Causes.{Rose}
use Rattle.ps_ports.specs.declared.fault.AllFault.{AllFault}
use Rattle.ps_ports.specs.declared.fault.AllFault.TheVariants.{TooLong as MoreCame, ReadFault, Memory}
use Rattle.ps_time.specs.Numbers.{most_input_bytes}
use Rattle.rehearsal_model.specs.Moves.{Outcomes}
use Rattle.psched_top.specs.declared.command.Command.{Command}
use Rattle.psched_top.specs.declared.command.Command.TheVariants.{Rehearse, ValidateLimits, Generate, Help, Version}
use Rattle.psched_top.specs.declared.outcome.Outcome.{Outcome}
use Rattle.psched_top.specs.declared.outcome.Outcome.TheVariants.{TooLong, CannotRead}
use Rattle.psched_top.specs.Command.{takes_input}
use Rattle.psched_top.specs.Outcome.{outcome_of, status_of, unread_of}
use Rattle.psched_top.specs.Psched.{Comes, Exactly, IsChecked, IsGiven, IsSafeReport, IsRehearsed, IsValid, Told}

-- what holds of the bytes of a source that was read to its end
pub rehearsed_of : (comes : Outcomes) (held left : Option (List ℕ)) (bytes : List ℕ) (outcome : Outcome) → GaveAll held left bytes → IsSafeReport comes bytes outcome → IsRehearsed comes held left outcome
rehearsed_of comes None left bytes outcome gave s = (record { input = bytes; all = tt; ended = tt; script = s.script; grammar = s.grammar; safe = s.safe }, s.report)
rehearsed_of comes (Some held) left bytes outcome gave s = (record { input = bytes; all = gave.0; ended = gave.1; script = s.script; grammar = s.grammar; safe = s.safe }, s.report)

pub checked_of : (held left : Option (List ℕ)) (bytes : List ℕ) (outcome : Outcome) → GaveAll held left bytes → IsValid bytes outcome → IsChecked held left outcome
checked_of None left bytes outcome gave v = (record { input = bytes; all = tt; ended = tt; config = v.config; grammar = v.grammar }, v.counts)
checked_of (Some held) left bytes outcome gave v = (record { input = bytes; all = gave.0; ended = gave.1; config = v.config; grammar = v.grammar }, v.counts)

-- more bytes than a command takes
too_long : (comes : Outcomes) (command : Option Command) (input : List ℕ) → takes_input command ≡ true → most_input_bytes < length input → TooLong ≡ outcome_of comes command input
too_long comes None input reads more = absurd (cc)
too_long comes (Some Help) input reads more = absurd (cc)
too_long comes (Some Version) input reads more = absurd (cc)
too_long comes (Some (Generate count)) input reads more = absurd (cc)
too_long comes (Some Rehearse) input reads more = search (rules, tests)
too_long comes (Some ValidateLimits) input reads more = search (rules, tests)

given_too_long : (comes : Outcomes) (command : Option Command) (held left : Option (List ℕ)) → takes_input command ≡ true → GaveMoreThan most_input_bytes held left → HeldMoreThan most_input_bytes held
    → IsGiven comes command held TooLong
given_too_long comes command None left reads gave more = record { input = gave.0; all = tt; given = too_long comes command gave.0 reads gave.2 }
given_too_long comes command (Some held) left reads gave more = record { input = held; all = refl; given = too_long comes command held reads more }

-- a source that didn't give a whole input has its cause
pub comes_unread : (comes : Outcomes) (command : Option Command) (held left : Option (List ℕ)) (before now : ℕ) (fault : AllFault) (outcome : Outcome) → takes_input command ≡ true
    → (fault ≡ MoreCame → GaveMoreThan most_input_bytes held left) → (fault ≡ MoreCame → HeldMoreThan most_input_bytes held) → (fault ≡ ReadFault → Rose before now)
    → unread_of fault ≡ Some outcome → Comes comes command held before now outcome
comes_unread comes command held left before now MoreCame outcome reads gave more rose is =
    let same : TooLong ≡ outcome = cc in
    subst (Comes comes command held before now) same (inl (given_too_long comes command held left reads (gave refl) (more refl)))
comes_unread comes command held left before now ReadFault outcome reads gave more rose is =
    let same : outcome ≡ CannotRead = cc in
    inr (record { fault = same; reads = reads; cause = rose refl })
comes_unread comes command held left before now Memory outcome reads gave more rose is = absurd (cc)

pub unread_fails : (fault : AllFault) (outcome : Outcome) → unread_of fault ≡ Some outcome → status_of outcome ≡ 0 → ⊥
unread_fails MoreCame outcome is zero =
    let same : TooLong ≡ outcome = cc in
    omega (arith, ap status_of same ∙ zero)
unread_fails ReadFault outcome is zero =
    let same : CannotRead ≡ outcome = cc in
    omega (arith, ap status_of same ∙ zero)
unread_fails Memory outcome is zero = absurd (cc)

-- a command that takes every input alike
pub given_unread : (comes : Outcomes) (asked : Option Command) (held : Option (List ℕ)) (outcome : Outcome) → ((input : List ℕ) → outcome ≡ outcome_of comes asked input) → IsGiven comes asked held outcome
given_unread comes asked None outcome same = record { input = []; all = tt; given = same [] }
given_unread comes asked (Some held) outcome same = record { input = held; all = refl; given = same held }

pub exactly_given : (comes : Outcomes) (asked : Option Command) (held : List ℕ) (old new : Option (List ℕ)) (outcome : Outcome) (status : ℕ) → IsGiven comes asked (Some held) outcome
    → Exactly outcome old new status → Exactly (outcome_of comes asked held) old new status
exactly_given comes asked held old new outcome status given is = subst (λ o. Exactly o old new status) (given.given ∙ ap (outcome_of comes asked) given.all) is

-- a source that tells its bytes leaves no choice below status 3
pub exactly_of : (comes : Outcomes) (asked : Option Command) (held : Option (List ℕ)) (before now : ℕ) (old new : Option (List ℕ)) (status : ℕ) → Told comes asked held before now old new status
    → status ≤ 2 → IfSome held (λ bytes. Exactly (outcome_of comes asked bytes) old new status)
exactly_of comes asked None before now old new status told low = tt
exactly_of comes asked (Some held) before now old new status told low = by_cause told.cause where
  by_cause : Comes comes asked (Some held) before now told.outcome → Exactly (outcome_of comes asked held) old new status
  by_cause (inl given) = exactly_given comes asked held old new told.outcome status given (told.status_is, told.written)
  by_cause (inr fault) = absurd (omega (arith, low, told.status_is ∙ ap status_of fault.fault))
