-- Scripts of a host: what it is asked, at a clock, and what it tells.
use Rattle.std.specs.Prelude.{◌∷◌, List, Option, [], length, option_map, ℕ, ℤ}
use Rattle.ps_time.specs.declared.key.RunKey.{RunKey}
use Rattle.run_states.specs.Life.{closed_state}
use Rattle.run_states.specs.declared.row.RunRow.{RunRow}
use Rattle.run_states.specs.declared.state.State.{State}
use Rattle.run_states.specs.declared.why.Denial.{Denial}
use Rattle.host_model.specs.Book.{Book, epoch_of}
use Rattle.host_model.specs.Step.{step_book, step_reply}
use Rattle.host_model.specs.declared.config.Config.{Config}
use Rattle.host_model.specs.declared.input.Input.{Input}
use Rattle.host_model.specs.declared.reply.Reply.{Reply}
use Rattle.host_model.specs.declared.view.View.{View}
use Rattle.run_states.specs.declared.why.Denial.TheVariants as denial
use Rattle.host_model.specs.declared.reply.Reply.TheVariants as reply
use Rattle.host_model.specs.declared.view.View.TheVariants as view

-- what is seen of a reply
pub data Said : Type 0 where
  -- all of it
  Says : (whole : Reply) → Said
  -- of a run when it was asked about, accepted, confirmed, started, ended and closed, its state, and the archivers of its archives
  ShowsRun : (moments : List (Option ℕ)) (state : State) (archivers : List (List ℕ)) → Said
  -- of a task its serial, who posted it, its priority, and when it was posted and canceled
  ShowsTask : (serial : ℕ) (requester : List ℕ) (priority : ℤ) (posted : ℕ) (closed : Option ℕ) → Said
  -- the kept start and the one that was sent
  DiffersBy : (kept sent : ℕ) → Said
  -- the state that names the reason
  ClosedAs : (state : State) → Said
  -- of the book its moment, and how many rows, tasks and epochs it has
  HasSo : (moment rows tasks epochs : ℕ) → Said
  -- the epoch of a run
  IsUnder : (epoch : Option ℕ) → Said

pub data Line : Type 0 where
  Asks : (clock : ℕ) (asked : Input) (said : Said) → Line
  -- the book is looked at
  Stands : (moment rows tasks epochs : ℕ) → Line
  Epoch : (key : RunKey) (epoch : Option ℕ) → Line

-- ---- what is told
abbrev moments_of : RunRow → List (Option ℕ)
moments_of r = r.asked ∷ r.accepted ∷ r.confirmed ∷ r.started ∷ option_map (λ e. e.moment) r.ended ∷ option_map (λ c. c.moment) r.closed ∷ []

abbrev said_view : View → Said
said_view (view.Run r archivers state) = ShowsRun (moments_of r) state archivers
said_view (view.Task t) = ShowsTask t.serial t.asker.requester t.task.priority t.posted t.closed
said_view v = Says (reply.View v)

abbrev said_denial : Denial → Said
said_denial (denial.Differs kept sent) = DiffersBy kept.start sent.start
said_denial d = Says (reply.Denied d)

abbrev said_of : Reply → Said
said_of (reply.View v) = said_view v
said_of (reply.Denied d) = said_denial d
said_of (reply.Closed why) = ClosedAs (closed_state why)
said_of r = Says r

-- ---- a script's lines, one after another
abbrev pub told : Config → Book → List Line → List Said
told c b [] = []
told c b (Asks clock asked said ∷ ls) = said_of (step_reply c b clock asked) ∷ told c (step_book c b clock asked) ls
told c b (Stands moment rows tasks epochs ∷ ls) = HasSo b.moment (length b.rows) (length b.tasks) (length b.epochs) ∷ told c b ls
told c b (Epoch key epoch ∷ ls) = IsUnder (epoch_of b key) ∷ told c b ls

-- what is to be told
abbrev pub wanted : List Line → List Said
wanted [] = []
wanted (Asks clock asked said ∷ ls) = said ∷ wanted ls
wanted (Stands moment rows tasks epochs ∷ ls) = HasSo moment rows tasks epochs ∷ wanted ls
wanted (Epoch key epoch ∷ ls) = IsUnder epoch ∷ wanted ls
