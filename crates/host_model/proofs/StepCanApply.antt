-- The changes of every step can be applied, each to the book with the earlier ones applied, as far as that is lawful.
use Rattle.std.proofs.Common.{ℕ}
use Rattle.host_model.specs.Apply.{settled}
use Rattle.host_model.specs.Book.{Book, moment_at}
use Rattle.host_model.specs.Conditions.{IsConfig, MayStep}
use Rattle.host_model.specs.Step.{outcome_of, step}
use Rattle.host_model.specs.declared.config.Config.{Config}
use Rattle.host_model.specs.declared.input.Input.{Input}
use Rattle.host_model.specs.declared.input.Input.TheVariants as input
use Rattle.host_model.proofs.StepAlong.{collect_along, free_along, view_along}
use Rattle.host_model.proofs.StepCan.{CanNow, book_can, cancel_can, confirm_can, drop_can, hear_can, limits_can, material_can, open_can, post_can, propose_can, tried_can}
use Rattle.host_model.proofs.TurnCan.{turn_can}
use Rattle.host_model.proofs.WalkLemmas.{AllAlong}

-- of a book that is settled at m
pub input_can : (c : Config) (m : ℕ) (b : Book) (i : Input) → IsConfig c → AllAlong (CanNow c.number m) m b (outcome_of c m b i).list
input_can c m b (input.Book class priority start len) config = book_can c m b class priority start len
input_can c m b (input.Post task requester) config = post_can c m b task requester
input_can c m b (input.Cancel serial requester) config = cancel_can c m b serial requester
input_can c m b (input.View page) config = view_along (CanNow c.number m) m c b page
input_can c m b (input.Free sender question) config = free_along (CanNow c.number m) m c b sender question
input_can c m b (input.Propose sender proposal) config = propose_can c m b sender proposal
input_can c m b (input.Confirm sender key) config = confirm_can c m b sender key config
input_can c m b (input.Drop sender key) config = drop_can c m b sender key
input_can c m b (input.Collect sender key) config = collect_along (CanNow c.number m) m c b sender key
input_can c m b (input.Material sender key text) config = material_can c m b sender key
input_can c m b (input.Heard order said) config = hear_can c m b order said
input_can c m b (input.Tried key index good retry) config = tried_can c m b key index good retry
input_can c m b input.Turn config = turn_can c m b
input_can c m b input.Open config = open_can c m b
input_can c m b (input.Limits limits) config = limits_can c m b limits

pub step_can : (c : Config) (b : Book) (clock : ℕ) (i : Input) → MayStep c b clock i → AllAlong (CanNow c.number (moment_at b clock)) (moment_at b clock) (settled (moment_at b clock) b) (step c b clock i).list
step_can c b clock i may = input_can c (moment_at b clock) (settled (moment_at b clock) b) i may.config
