-- The row that a change brings is lawful.
use Rattle.std.specs.Prelude.{IfSome, IsSome}
use Rattle.std.proofs.Common.{◌≡◌, ◌≤◌, ◌+◌, ℕ, List, [], ◌∷◌, All, length, map, refl, arith}
use Rattle.std.proofs.lemmas.List.{length-map}
use Rattle.std.proofs.lemmas.List.Elements.{All-cons, All-nil}
use Rattle.ps_time.specs.declared.asker.Asker.{Asker}
use Rattle.plugin_core.specs.Bounds.{IsTest}
use Rattle.plugin_tool.specs.Choice.{tool_of_text}
use Rattle.run_states.specs.LawfulRow.{HasParticipants, IsDueInTime, IsOther, IsProposal, IsWindow}
use Rattle.run_states.specs.declared.proposal.Proposal.{Proposal}
use Rattle.run_states.specs.declared.proposal.Question.{Question}
use Rattle.host_model.specs.Book.{find_task}
use Rattle.host_model.specs.LawfulRow.{IsHostRow}
use Rattle.host_model.specs.NewRow.{accepted_row, all_unheard, asked_row, new_row, unheard}
use Rattle.host_model.specs.declared.change.Change.{Change}
use Rattle.host_model.specs.declared.change.Change.TheVariants.{Accepted, Asked}
use Rattle.host_model.specs.declared.task_row.TaskRow.{TaskRow}

-- a run that is accepted has a known tool and lawful participants; one of this host's own is a booking
pub record CanAccept (self : ℕ) (p : Proposal) (hosts : List (List ℕ)) : Type 0 where
  pub proposal : IsProposal p
  pub tool : IsSome (tool_of_text p.tool)
  pub participants : HasParticipants hosts
  pub lead : p.key.lead ≡ self → (p.key.task ≡ 0) × (length hosts ≡ 1)

-- a run that is asked about is of one of this host's tasks
pub record CanAsk (self : ℕ) (tasks : List TaskRow) (q : Question) (hosts : List (List ℕ)) : Type 0 where
  pub test : IsTest q.test
  pub window : IsWindow q.window
  pub participants : HasParticipants hosts
  pub lead : q.key.lead ≡ self
  pub task : IsSome (find_task tasks q.key.task)

-- what a change brings, so that its row is lawful
abbrev pub SuitsNew : ℕ → List TaskRow → Change → Type 0
SuitsNew self tasks (Accepted p participants epoch) = CanAccept self p participants
SuitsNew self tasks (Asked q participants asker) = CanAsk self tasks q participants
SuitsNew self tasks c = Unit {0}

others_few : (hosts : List (List ℕ)) → 1 ≤ length hosts → length (all_unheard hosts) + 1 ≡ length hosts
others_few [] some = absurd (omega (arith, some))
others_few (lead ∷ others) some = omega (arith, length-map others (λ name. unheard))

none_heard : (others : List (List ℕ)) → All IsOther (map (λ name. unheard) others)
none_heard [] = All-nil IsOther
none_heard (name ∷ rest) = All-cons IsOther unheard (map (λ name. unheard) rest) (record { free = tt; heard = tt }) (none_heard rest)

all_others : (hosts : List (List ℕ)) → All IsOther (all_unheard hosts)
all_others [] = All-nil IsOther
all_others (lead ∷ others) = none_heard others

module _ (self : ℕ) (tasks : List TaskRow) (m : ℕ) where
  accepted_host : (p : Proposal) (hosts : List (List ℕ)) → CanAccept self p hosts → IsHostRow self tasks m (accepted_row m p hosts)
  accepted_host p hosts can = record {
    row = record {
      moments = record { asked = tt; accepted = omega arith; confirmed = tt; started = tt; material = tt; ended = tt; closed = tt };
      test = can.proposal.test;
      reserves = (can.tool, can.proposal.start, refl);
      participants = can.participants;
      origin = (refl, refl, refl);
      question = tt;
      life = record { confirmed = tt; started = tt; ended = tt; material = tt };
      closed = tt;
      result = tt;
      others = All-nil IsOther;
      merged = refl;
      archives = All-nil IsDueInTime;
    };
    lead = can.lead;
    merged = tt;
    archives = λ i a state at e. cc;
  }

  asked_host : (q : Question) (hosts : List (List ℕ)) (asker : Asker) → CanAsk self tasks q hosts → IsHostRow self tasks m (asked_row m q hosts asker)
  asked_host q hosts asker can = record {
    row = record {
      moments = record { asked = omega arith; accepted = tt; confirmed = tt; started = tt; material = tt; ended = tt; closed = tt };
      test = can.test;
      reserves = tt;
      participants = can.participants;
      origin = (refl, others_few hosts can.participants.some);
      question = can.window;
      life = record { confirmed = tt; started = tt; ended = tt; material = tt };
      closed = tt;
      result = tt;
      others = all_others hosts;
      merged = refl;
      archives = All-nil IsDueInTime;
    };
    lead = (can.lead, can.task);
    merged = tt;
    archives = λ i a state at e. cc;
  }

  -- what comes is lawful
  pub new_host : (c : Change) → SuitsNew self tasks c → IfSome (new_row m c) (IsHostRow self tasks m)
  new_host (Accepted p participants epoch) can = accepted_host p participants can
  new_host (Asked q participants asker) can = asked_host q participants asker can
  new_host c can = tt
