-- What a configuration, a clock and an input keep, so that a host may take a step.
use Rattle.std.specs.List.{list_all, list_any}
use Rattle.std.specs.Prelude.{◌&&◌, ◌+◌, ◌==◌, ◌∷◌, ◌≡◌, ◌≤◌, All, Bool, IfSome, List, [], length, map, not, true, ℕ}
use Rattle.ps_time.specs.Name.{is_name}
use Rattle.ps_time.specs.Numbers.{greatest_length, greatest_moment, most_intervals, most_result_bytes}
use Rattle.plugin_core.specs.Bounds.{IsTest}
use Rattle.plugin_core.specs.ReadTest.{all_differ}
use Rattle.archive_retry.specs.Merge.{IsResultText}
use Rattle.limit_apply.specs.Read.{IsKept}
use Rattle.run_states.specs.declared.answer.FreeAnswer.{FreeAnswer}
use Rattle.run_states.specs.LawfulRow.{IsDenial, IsFreeAnswer, IsWindow}
use Rattle.task_spec.specs.Bounds.{IsTask}
use Rattle.task_spec.specs.ReadTask.{is_tool}
use Rattle.host_model.specs.Book.{Book}
use Rattle.host_model.specs.Lawful.{Lawful}
use Rattle.host_model.specs.declared.config.Config.{Config}
use Rattle.host_model.specs.declared.config.Peer.{Peer}
use Rattle.host_model.specs.declared.input.Input.{Input}
use Rattle.host_model.specs.declared.order.PeerAnswer.{PeerAnswer}
use Rattle.host_model.specs.declared.order.PeerAnswer.TheVariants.{Free, Accepted, Confirmed, Result, Denied}
use Rattle.host_model.specs.declared.view.Page.{Page}
use Rattle.host_model.specs.declared.view.Page.TheVariants.{Schedule}
use Rattle.host_model.specs.Propose.{lead_name}
use Rattle.host_model.specs.declared.input.Input.TheVariants as input

-- ---- configurations
-- no number is equal to one after it
abbrev pub numbers_differ : List ℕ → Bool
numbers_differ [] = true
numbers_differ (n ∷ ns) = not (list_any (λ other. other == n) ns) && numbers_differ ns

-- a peer as a configuration may have it
pub record IsPeer (p : Peer) : Type 0 where
  pub name : is_name p.name ≡ true
  pub authority : length p.authority ≤ 255

-- a configuration that a host may have
pub record IsConfig (c : Config) : Type 0 where
  pub name : is_name c.name ≡ true
  pub authority : length c.authority ≤ 255
  pub peers : All IsPeer c.peers
  -- numbers and names of the host and its peers differ from each other
  pub numbers : numbers_differ (c.number ∷ map (λ p. p.number) c.peers) ≡ true
  pub names : all_differ (c.name ∷ map (λ p. p.name) c.peers) ≡ true
  pub tools : list_all is_tool c.installed ≡ true
  pub different : all_differ c.installed ≡ true
  pub limits : IsKept c.limits

-- ---- answers that were heard
-- a free answer that counts as one
pub record IsFreeHeard (answer : FreeAnswer) : Type 0 where
  pub bounds : IsFreeAnswer answer
  pub different : all_differ answer.tools ≡ true
  pub few_first : length answer.tiers.first ≤ most_intervals
  pub few_second : length answer.tiers.second ≤ most_intervals

-- a result that counts as one
pub record IsResultHeard (bs : List ℕ) : Type 0 where
  pub bounds : IsResultText bs
  pub short : length bs ≤ most_result_bytes

-- an answer that counts as one
abbrev pub IsAnswer : PeerAnswer → Type 0
IsAnswer (Free answer) = IsFreeHeard answer
IsAnswer (Accepted m) = m ≤ greatest_moment
IsAnswer (Confirmed m) = m ≤ greatest_moment
IsAnswer (Result text) = IsResultHeard text
IsAnswer (Denied denial) = IsDenial denial
IsAnswer _ = Unit {0}

-- ---- inputs
abbrev pub IsPage : Page → Type 0
IsPage (Schedule start end) = (start ≤ greatest_moment) × (end ≤ greatest_moment + greatest_length)
IsPage _ = Unit {0}

-- an input that a host with this configuration may be given
abbrev pub IsInput : Config → Input → Type 0
IsInput c (input.Book class priority start len) = (start ≤ greatest_moment) × (1 ≤ len) × (len ≤ greatest_length)
IsInput c (input.Post task requester) = IsTask c.name task
IsInput c (input.View page) = IsPage page
IsInput c (input.Free sender question) = IsTest question.test × IsWindow question.window
IsInput c (input.Propose sender proposal) = IsTest proposal.test × (proposal.start ≤ greatest_moment) × IfSome (lead_name c sender proposal.key) (λ lead. proposal.asker.server ≡ lead)
IsInput c (input.Heard order answer) = IsAnswer answer
IsInput c (input.Tried key index good retry) = IfSome retry (λ r. r ≤ greatest_length)
IsInput c (input.Limits limits) = IsKept limits
IsInput c _ = Unit {0}

-- a step under these conditions
pub record MayStep (c : Config) (b : Book) (clock : ℕ) (i : Input) : Type 0 where
  pub config : IsConfig c
  pub book : Lawful c.number b
  pub moment : clock ≤ greatest_moment
  pub bounds : IsInput c i
