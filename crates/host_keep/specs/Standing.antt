-- A host that is kept: its configuration and its book, what it is asked, and its steps.
use Rattle.std.specs.Prelude.{◌<◌, ◌≡◌, ◌≤◌, ◌-◌, All, List, None, Option, Some, [], false, length, true, ℕ}
use Rattle.value_bytes.specs.Changes.{changes}
use Rattle.host_book.specs.Ready.{IsReady, all_brought, changes_of}
use Rattle.host_model.specs.Apply.{recorded}
use Rattle.host_model.specs.Book.{Book}
use Rattle.host_model.specs.Conditions.{IsConfig, IsInput}
use Rattle.host_model.specs.MayFollow.{MayFollow}
use Rattle.host_model.specs.Step.{step_changes, step_reply}
use Rattle.host_model.specs.declared.change.Changes.{Changes}
use Rattle.host_model.specs.declared.config.Config.{Config}
use Rattle.host_model.specs.declared.reply.Reply.{Reply}
use Rattle.host_replay.specs.Stands.{StandsAs}
use Rattle.ps_time.specs.Numbers.{greatest_moment}
use Rattle.host_rows.specs.Ledger.{most_counted}
use Rattle.run_states.specs.ResultBytes.{result_bytes}
use Rattle.host_keep.specs.declared.call.HostCall.{HostCall}
use Rattle.host_keep.specs.declared.call.HostStep.{HostStep}

pub record Standing : Type 0 where
  pub config : Config
  pub book : Book

-- and the places for changes
pub record Seen : Type 0 where
  pub standing : Standing
  pub room : ℕ

-- the host with another configuration
abbrev pub with_config : Config → Standing → Standing
with_config c s = record s { config = c }

-- a list in the second format stands for the host's book, or one in the first
abbrev pub StandsNow : List (List ℕ) → Standing → Type 0
StandsNow list s = StandsAs true s.config.number list s.book

abbrev pub StoodOnce : List (List ℕ) → Standing → Type 0
StoodOnce list s = StandsAs false s.config.number list s.book

-- the call may be made of a host with this configuration
pub record IsAsked (c : Config) (call : HostCall) : Type 0 where
  pub config : IsConfig c
  pub clock : call.clock ≤ greatest_moment
  pub bounds : IsInput c call.input

-- a configuration that another may take the place of
pub record IsNext (before later : Config) : Type 0 where
  pub number : later.number ≡ before.number
  pub name : later.name ≡ before.name
  pub config : IsConfig later

-- what a step changes
abbrev pub changes_in : HostStep → Changes
changes_in step = record { moment = step.moment; list = changes_of step.list }

-- the step makes exactly these changes; with none there is no step
abbrev pub Makes : Changes → Option HostStep → Type 0
Makes c None = c.list ≡ []
Makes c (Some step) = (changes_in step ≡ c) × (0 < length step.list)

-- the reply and the step are those of the host's definition
pub record Answers (s : Standing) (call : HostCall) (said : Reply) (made : Option HostStep) : Type 0 where
  pub reply : said ≡ step_reply s.config s.book call.clock call.input
  pub step : Makes (step_changes s.config s.book call.clock call.input) made

-- the step may follow: its changes may, it has all that they need, and the bytes of its record
pub record Follows (s : Standing) (step : HostStep) : Type 0 where
  pub may : MayFollow s.config.number s.book (changes_in step)
  pub some : 0 < length step.list
  pub ready : All IsReady step.list
  pub bytes : all_brought step.list ≤ most_counted - result_bytes s.book.rows
  pub fits : changes.Fits (changes_in step)
  pub code : step.record.items ≡ changes.code (changes_in step)

-- the host after a step
abbrev pub after : Standing → HostStep → Standing
after s step = record s { book = recorded s.book (changes_in step) }
