-- One step of a host: its reply and its changes, read off the settled book, and the book after it.
use Rattle.std.specs.Prelude.{ℕ}
use Rattle.host_model.specs.Apply.{book_after, settled}
use Rattle.host_model.specs.Archives.{try_archive}
use Rattle.host_model.specs.Book.{Book, moment_at}
use Rattle.host_model.specs.Booking.{book_run}
use Rattle.host_model.specs.Collect.{collect, hear_material}
use Rattle.host_model.specs.Confirm.{confirm, drop_run}
use Rattle.host_model.specs.Epochs.{open_host, set_limits}
use Rattle.host_model.specs.FreeStarts.{free}
use Rattle.host_model.specs.Heard.{hear}
use Rattle.host_model.specs.Post.{cancel, post}
use Rattle.host_model.specs.Propose.{propose}
use Rattle.host_model.specs.Turn.{turn}
use Rattle.host_model.specs.Views.{shown, view_of}
use Rattle.host_model.specs.declared.change.Changes.{Changes}
use Rattle.host_model.specs.declared.config.Config.{Config}
use Rattle.host_model.specs.declared.input.Input.{Input}
use Rattle.host_model.specs.declared.reply.Outcome.{Outcome}
use Rattle.host_model.specs.declared.reply.Reply.{Reply}
use Rattle.host_model.specs.declared.input.Input.TheVariants as input

-- of a book that is settled at m
abbrev pub outcome_of : Config → ℕ → Book → Input → Outcome
outcome_of c m b (input.Book class priority start len) = book_run c b m class priority start len
outcome_of c m b (input.Post task requester) = post c b m task requester
outcome_of c m b (input.Cancel serial requester) = cancel c b m serial requester
outcome_of c m b (input.View page) = shown (view_of c b m page)
outcome_of c m b (input.Free sender question) = free c b m sender question
outcome_of c m b (input.Propose sender proposal) = propose c b m sender proposal
outcome_of c m b (input.Confirm sender key) = confirm c b m sender key
outcome_of c m b (input.Drop sender key) = drop_run c b sender key
outcome_of c m b (input.Collect sender key) = collect c b m sender key
outcome_of c m b (input.Material sender key text) = hear_material c b sender key
outcome_of c m b (input.Heard order answer) = hear b order answer
outcome_of c m b (input.Tried key index good retry) = try_archive b m key index good retry
outcome_of c m b input.Turn = turn c b m
outcome_of c m b input.Open = open_host c b m
outcome_of c m b (input.Limits limits) = set_limits b limits

-- what a step comes to, at a clock
abbrev pub step : Config → Book → ℕ → Input → Outcome
step c b clock input = let m = moment_at b clock in outcome_of c m (settled m b) input

-- what it answers
abbrev pub step_reply : Config → Book → ℕ → Input → Reply
step_reply c b clock input = (step c b clock input).reply

-- what it changes
abbrev pub step_changes : Config → Book → ℕ → Input → Changes
step_changes c b clock input = record { moment = moment_at b clock; list = (step c b clock input).list }

-- the book after it
abbrev pub step_book : Config → Book → ℕ → Input → Book
step_book c b clock input = book_after b (step_changes c b clock input)
