-- A first step that refuses the limits makes no call of a disk.
use Rattle.std.specs.Prelude.{Option, Some, None}
use Rattle.std.specs.Option.{option_map}
use Rattle.std.proofs.Common.{◌≡◌, ◌∙◌, ◌==◌, ◌&&◌, if◌then◌else◌, Bool, List, [], ap, arith, false, length, refl, subst, sym, true, ℕ}
use Rattle.std.proofs.lemmas.List.{length-map}
use Rattle.host_book.specs.Ready.{changes_of}
use Rattle.host_book.specs.declared.ready.Ready.{Ready}
use Rattle.host_journal.specs.State.{State, is_ready}
use Rattle.host_model.specs.Apply.{settled}
use Rattle.host_model.specs.Book.{Book, latest_epoch, moment_at}
use Rattle.host_model.specs.Epochs.{is_too_long, open_changes, open_host, refused}
use Rattle.host_model.specs.Step.{step_changes, step_reply}
use Rattle.host_model.specs.Turn.{changed}
use Rattle.host_model.specs.declared.change.Change.{Change}
use Rattle.host_model.specs.declared.change.Changes.{Changes}
use Rattle.host_model.specs.declared.config.Config.{Config}
use Rattle.host_model.specs.declared.input.Input.TheVariants.{Open}
use Rattle.host_model.specs.declared.reply.LimitsWrong.{LimitsWrong}
use Rattle.host_model.specs.declared.reply.LimitsWrong.TheVariants.{Bytes}
use Rattle.host_model.specs.declared.reply.Reply.{Reply}
use Rattle.host_model.specs.declared.reply.Reply.TheVariants.{LimitsWrong as limits_wrong}
use Rattle.machine_keep.specs.Calls.{TellsIn, step_calls}
use Rattle.machine_keep.specs.Course.{Shortens}
use Rattle.machine_keep.specs.Kept.{caught}
use Rattle.ps_disks.specs.declared.disk.DiskCall.{DiskCall}
use Rattle.host_keep.specs.Opening.{IsFirstAnswer, KeptHost, first_call}
use Rattle.host_keep.specs.Standing.{Answers, Makes, Standing, StandsNow, after}
use Rattle.host_keep.specs.declared.call.HostStep.{HostStep}

-- one that refuses the limits changes nothing
refused_empty : (b : Bool) (w wrong : LimitsWrong) (cs : List Change) → (if b then refused w else changed cs).reply ≡ limits_wrong wrong → (if b then refused w else changed cs).list ≡ []
refused_empty true w wrong cs is = refl
refused_empty false w wrong cs is = cc is

open_empty : (c : Config) (m : ℕ) (b : Book) (wrong : LimitsWrong) → (open_host c b m).reply ≡ limits_wrong wrong → (open_host c b m).list ≡ []
open_empty c m b wrong is = refused_empty ((latest_epoch b == 0) && is_too_long c.limits) (Bytes (length c.limits.text)) wrong (open_changes c b m) is

nothing_refused : (c : Config) (b : Book) (clock : ℕ) (wrong : LimitsWrong) → step_reply c b clock Open ≡ limits_wrong wrong → (step_changes c b clock Open).list ≡ []
nothing_refused c b clock wrong is = open_empty c (moment_at b clock) (settled (moment_at b clock) b) wrong is

-- so it makes no step
no_step : (c : Changes) (made : Option HostStep) → Makes c made → c.list ≡ [] → made ≡ None
no_step c None makes none = refl
no_step c (Some step) makes none =
    let many : length (changes_of step.list) ≡ length step.list = length-map step.list (λ (r : Ready). r.change) in
    let few : length (changes_of step.list) ≡ 0 = ap (λ (x : Changes). length x.list) makes.0 ∙ ap length none in
    absurd (omega (arith, many, few, makes.1))

-- and no call
module _ {D : Type 0} (tells : D → Option (List DiskCall)) (mid now place : State D) (ready : is_ready mid.pending ≡ true) where
  no_calls : (s : Standing) (off off_now : ℕ) (step : Option HostStep) (image : Option (List ℕ)) → step ≡ None → Shortens StandsNow s off off_now place (option_map (λ (x : HostStep). x.record.items) step) image
      → TellsIn tells mid now (step_calls (is_ready mid.pending) place (option_map (λ (x : HostStep). x.record.items) step) image) → TellsIn tells mid now []
  no_calls s off off_now None image none short told =
      subst (λ (b : Bool). TellsIn tells mid now (step_calls b place None None)) ready (subst (λ (i : Option (List ℕ)). TellsIn tells mid now (step_calls (is_ready mid.pending) place None i)) short.0 told)
  no_calls s off off_now (Some step) image none short told = cc none

module _ {D : Type 0} (premise : Type 0) (seen : D → List ℕ) (tells : D → Option (List DiskCall)) (clock : ℕ) where
  pub refused_calls : (mid now : KeptHost D) (reply : Reply) (wrong : LimitsWrong) → mid.unsure ≡ None → is_ready mid.journal.pending ≡ true → reply ≡ limits_wrong wrong → IsFirstAnswer premise seen tells clock mid now reply → TellsIn tells mid.journal now.journal []
  refused_calls mid now reply wrong sure ready is a =
      let s : Standing = mid.machine.standing in
      let answers = subst (λ (x : Standing). Answers x (first_call clock) reply a.step) (ap (λ u. caught after s u a.stood) sure) a.answered in
      no_calls tells mid.journal now.journal a.place ready now.machine.standing mid.put_off now.put_off a.step a.image
      (no_step (step_changes s.config s.book clock Open) a.step answers.step (nothing_refused s.config s.book clock wrong (sym answers.reply ∙ is))) a.shortened a.told
