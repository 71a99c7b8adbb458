-- Each answer to a proposal or a booking is an acceptance exactly where it may be.
use Rattle.std.proofs.Common.{◌≡◌, ℕ, List, sym, ap, ◌∙◌, subst}
use Rattle.run_states.specs.Rows.{IsAscendingRows}
use Rattle.host_model.specs.Apply.{settled}
use Rattle.host_model.specs.Book.{Book, moment_at}
use Rattle.host_model.specs.Step.{outcome_of, step_reply}
use Rattle.host_model.specs.declared.config.Config.{Config}
use Rattle.host_model.specs.declared.input.Input.{Input}
use Rattle.host_model.specs.declared.input.Input.TheVariants as input
use Rattle.host_model.proofs.AnswerLemmas.{booking_accepted, booking_new, proposal_accepted}
use Rattle.host_model.proofs.SettledRows.{settled_up}
use Rattle.world_law.specs.Events.{Event, run}
use Rattle.world_law.specs.Laws.{Fair, FitAnswers}
use Rattle.world_law.specs.World.{World, start}
use Rattle.world_law.proofs.Worlds.{Sound, always_sound}

-- of a book that is settled at m
fair : (c : Config) (b : Book) (m : ℕ) (i : Input) → IsAscendingRows b.rows → Fair c b m i (outcome_of c m b i).reply
fair c b m (input.Propose sender p) up = λ lead known. proposal_accepted c b m sender p lead known up
fair c b m (input.Book class priority begin len) up = (booking_new c b class priority begin len, booking_accepted c b m class priority begin len up)
fair c b m i up = tt

pub step_fair : (c : Config) (b : Book) (clock : ℕ) (i : Input) → IsAscendingRows b.rows → let m = moment_at b clock in Fair c (settled m b) m i (step_reply c b clock i)
step_fair c b clock i up = let m : ℕ = moment_at b clock in fair c (settled m b) m i (settled_up m b.rows up)

fit_of : (w : World) → Sound w → FitAnswers w
fit_of w ok j a e s at =
    let x = ok.answers j a e in
    let same : x.before ≡ s = cc (x.at, at) in
    let told : a.reply ≡ step_reply s.config s.book a.clock a.input = x.reply ∙ ap (λ y. step_reply y.config y.book a.clock a.input) same in
    let m : ℕ = moment_at s.book a.clock in
    subst (λ r. Fair s.config (settled m s.book) m a.input r) (sym told) (step_fair s.config s.book a.clock a.input (ok.keyed a.host a.stage s at))

pub fit_law : (names : ℕ → List ℕ) (configs : ℕ → Config) (es : List Event) → FitAnswers (run es (start names configs))
fit_law names configs es = fit_of (run es (start names configs)) (always_sound names configs es)
