-- The changes of every step may follow the book, and leave a lawful one.
use Rattle.std.proofs.Common.{◌≤◌, ℕ, arith}
use Rattle.ps_time.specs.Numbers.{greatest_moment}
use Rattle.host_model.specs.Apply.{settled}
use Rattle.host_model.specs.Book.{Book, moment_at}
use Rattle.host_model.specs.Conditions.{IsConfig, IsInput, MayStep}
use Rattle.host_model.specs.Lawful.{Lawful}
use Rattle.host_model.specs.MayFollow.{MayFollow}
use Rattle.host_model.specs.Step.{outcome_of, step, step_book, step_changes}
use Rattle.host_model.specs.declared.config.Config.{Config}
use Rattle.host_model.specs.declared.input.Input.{Input}
use Rattle.host_model.specs.declared.input.Input.TheVariants as input
use Rattle.host_model.proofs.AcceptBrings.{propose_brings}
use Rattle.host_model.proofs.ArchiveBrings.{tried_brings}
use Rattle.host_model.proofs.BookBrings.{book_brings, post_brings}
use Rattle.host_model.proofs.Brings.{BringsLawful, suits_along}
use Rattle.host_model.proofs.LawfulBook.{after_lawful, may_follow}
use Rattle.host_model.proofs.StepAlong.{collect_along, free_along, view_along}
use Rattle.host_model.proofs.StepBrings.{cancel_brings, confirm_brings, drop_brings, hear_brings, limits_brings, material_brings}
use Rattle.host_model.proofs.StepCanApply.{step_can}
use Rattle.host_model.proofs.TurnBrings.{open_brings, turn_brings}
use Rattle.host_model.proofs.WalkLemmas.{AllAlong}

-- of a book that is settled at m
pub input_brings : (c : Config) (m : ℕ) (b : Book) (i : Input) → IsConfig c → IsInput c i → AllAlong (BringsLawful c.number m) m b (outcome_of c m b i).list
input_brings c m b (input.Book class priority start len) config is = book_brings c m b config class priority start len is.0 is.1 is.2
input_brings c m b (input.Post task requester) config is = post_brings c m b task requester config is
input_brings c m b (input.Cancel serial requester) config is = cancel_brings c m b serial requester
input_brings c m b (input.View page) config is = view_along (BringsLawful c.number m) m c b page
input_brings c m b (input.Free sender question) config is = free_along (BringsLawful c.number m) m c b sender question
input_brings c m b (input.Propose sender proposal) config is = propose_brings c m b sender proposal config (record { test = is.0; start = is.1 })
input_brings c m b (input.Confirm sender key) config is = confirm_brings c m b sender key
input_brings c m b (input.Drop sender key) config is = drop_brings c m b sender key
input_brings c m b (input.Collect sender key) config is = collect_along (BringsLawful c.number m) m c b sender key
input_brings c m b (input.Material sender key text) config is = material_brings c m b sender key
input_brings c m b (input.Heard order said) config is = hear_brings c m b order said is
input_brings c m b (input.Tried key index good retry) config is = tried_brings c m b key index good retry is
input_brings c m b input.Turn config is = turn_brings c m config b
input_brings c m b input.Open config is = open_brings c m config b
input_brings c m b (input.Limits limits) config is = limits_brings c m b limits is

-- any step whose changes bring what is lawful
pub brings_follow : (c : Config) (b : Book) (clock : ℕ) (i : Input) → MayStep c b clock i → AllAlong (BringsLawful c.number (moment_at b clock)) (moment_at b clock) (settled (moment_at b clock) b) (step c b clock i).list →
    MayFollow c.number b (step_changes c b clock i)
brings_follow c b clock i may brings =
    let m : ℕ = moment_at b clock in
    let later : b.moment ≤ m = omega arith in
    let within : m ≤ greatest_moment = omega (arith, may.book.moment, may.moment) in
    may_follow c.number b (step_changes c b clock i) may.book later within (suits_along c.number m (step c b clock i).list (settled m b) (step_can c b clock i may) brings)

-- every step may follow, and leaves a lawful book
pub step_follows : (c : Config) (b : Book) (clock : ℕ) (i : Input) → MayStep c b clock i → MayFollow c.number b (step_changes c b clock i)
step_follows c b clock i may = brings_follow c b clock i may (input_brings c (moment_at b clock) (settled (moment_at b clock) b) i may.config may.bounds)

pub step_lawful : (c : Config) (b : Book) (clock : ℕ) (i : Input) → MayStep c b clock i → Lawful c.number (step_book c b clock i)
step_lawful c b clock i may = after_lawful c.number b (moment_at b clock) (step c b clock i).list may.book (step_follows c b clock i may)
