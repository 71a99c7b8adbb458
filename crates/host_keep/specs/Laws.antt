-- Laws of kept hosts, as any kept machine has them.
use Rattle.std.proofs.Common.{◌≡◌, ◌<◌, ◌∷◌, ◌∙◌, ◌++◌, List, None, Option, Some, [], ap, arith, length, refl, subst, sym, true, ℕ}
use Rattle.std.proofs.lemmas.List.{length-map}
use Rattle.host_book.specs.Ready.{changes_of}
use Rattle.host_book.specs.declared.ready.Ready.{Ready}
use Rattle.host_model.specs.Apply.{book_after, recorded}
use Rattle.host_model.specs.Book.{Book}
use Rattle.host_model.specs.MayFollow.{MayFollow}
use Rattle.host_model.specs.Step.{step_book, step_changes}
use Rattle.host_model.specs.declared.change.Change.{Change}
use Rattle.host_model.specs.declared.change.Changes.{Changes}
use Rattle.host_model.specs.declared.config.Config.{Config}
use Rattle.host_model.specs.declared.reply.Reply.{Reply}
use Rattle.host_replay.specs.Stands.{StandsAs}
use Rattle.host_replay.proofs.ListLemmas.{lead_on}
use Rattle.machine_keep.specs.Kept.{after_step}
use Rattle.host_keep.specs.Standing.{Answers, Follows, IsNext, Standing, StandsNow, after, changes_in, with_config}
use Rattle.host_keep.specs.declared.call.HostCall.{HostCall}
use Rattle.host_keep.specs.declared.call.HostStep.{HostStep}

-- with the record of a step behind it a list stands for the host after the step
pub stands_more : (list : List (List ℕ)) (s : Standing) (step : HostStep) → StandsNow list s → Follows s step → StandsNow (list ++ step.record.items ∷ []) (after s step)
stands_more [] s step stands follows = absurd stands
stands_more (snapshot ∷ records) s step stands follows = record {
  from = stands.from;
  is = stands.is;
  lawful = stands.lawful;
  leads = lead_on true s.config.number step.record.items s.book (recorded s.book (changes_in step)) (changes_in step) (follows.fits, follows.code) follows.may refl stands.from records stands.leads;
}

-- a step leaves the configuration
pub after_fixed : (s : Standing) (step : HostStep) → Follows s step → (after s step).config ≡ s.config
after_fixed s step follows = refl

-- a list stands for a host of the same number too
pub stands_with : (list : List (List ℕ)) (c : Config) (s : Standing) → IsNext s.config c → StandsNow list s → StandsNow list (with_config c s)
stands_with list c s next stands = subst (λ n. StandsAs true n list s.book) (sym next.number) stands

-- and a step may follow it
pub follows_with : (c : Config) (s : Standing) (step : HostStep) → IsNext s.config c → Follows s step → Follows (with_config c s) step
follows_with c s step next follows = record {
  may = subst (λ n. MayFollow n s.book (changes_in step)) (sym next.number) follows.may;
  some = follows.some;
  ready = follows.ready;
  bytes = follows.bytes;
  fits = follows.fits;
  code = follows.code;
}

-- it is the configuration then, and the step leaves the same
pub fixed_with : (c : Config) (s : Standing) → (with_config c s).config ≡ c
fixed_with c s = refl

pub after_with : (c : Config) (s : Standing) (step : HostStep) → after (with_config c s) step ≡ with_config c (after s step)
after_with c s step = refl

-- ---- the book after a call is that of the host's definition
pub nothing_after : (b : Book) (c : Changes) → c.list ≡ [] → book_after b c ≡ b
nothing_after b c is = go c.list is
  where
    go : (cs : List Change) → cs ≡ [] → book_after b (record c { list = cs }) ≡ b
    go [] is = refl
    go (d ∷ ds) is = cc

something_after : (b : Book) (m : ℕ) (cs : List Change) → 0 < length cs → book_after b (record { moment = m; list = cs }) ≡ recorded b (record { moment = m; list = cs })
something_after b m [] some = absurd (omega (arith, some))
something_after b m (c ∷ cs) some = refl

pub book_answered : (s : Standing) (call : HostCall) (reply : Reply) (step : Option HostStep) → Answers s call reply step → (after_step after s step).book ≡ step_book s.config s.book call.clock call.input
book_answered s call reply None answers = sym (nothing_after s.book (step_changes s.config s.book call.clock call.input) answers.step)
book_answered s call reply (Some step) answers =
    let many : length (changes_of step.list) ≡ length step.list = length-map step.list (λ (r : Ready). r.change) in
    sym (something_after s.book step.moment (changes_of step.list) (omega (arith, many, answers.step.1)))
    ∙ ap (λ c. book_after s.book c) answers.step.0

pub config_answered : (s : Standing) (step : Option HostStep) → (after_step after s step).config ≡ s.config
config_answered s None = refl
config_answered s (Some step) = refl
