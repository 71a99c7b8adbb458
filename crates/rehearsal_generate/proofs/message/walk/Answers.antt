use Rattle.std.specs.Prelude.{slice_index}
use Rattle.std.proofs.Common.{◌≡◌, ◌+◌, ◌∷◌, ◌<◌, ◌∙◌, List, ap, arith, drop, length, subst, sym, ℕ}
use Rattle.std.proofs.lemmas.List.{drop_more}
use Rattle.rehearsal_model.specs.Simulations.{Simulation}
use Rattle.rehearsal_generate.specs.Shown.{IsShown}
use Rattle.rehearsal_generate.specs.Work.{handled, shows, walked}
use Rattle.rehearsal_generate.specs.declared.tally.Tally.{Tally}
use Rattle.rehearsal_generate.proofs.ShownLemmas.{shown_handled}
use Rattle.rehearsal_generate.proofs.message.walk.Goals as goal

pub handle-requires-clause-shown : goal.handle-requires-clause-shown
handle-requires-clause-shown c = c.loop-number.invariant.shown

pub loop-number-preserved : goal.loop-number-preserved
loop-number-preserved c =
    let hosts = c.args.hosts.now in
    let place = c.args.place in
    let clock = c.args.clock in
    let numbers : List ℕ = c.args.numbers.now in
    let i = c.loop-number.number-index in
    let n : ℕ = slice_index numbers i in
    let b : Simulation = c.loop-number.now in
    let t : Tally = c.loop-number.tally in
    let within : i < length numbers = omega arith in
    let left : drop i numbers ≡ n ∷ drop (i + 1) numbers = drop_more numbers i _ within in
    let is : (c.handle.new.now, c.handle.new.tally) ≡ handled (shows hosts) place clock n (b, t) = c.in_ok-handle.ensures in
    record {
      left =
          ap (walked (shows hosts) place clock (drop (i + 1) numbers)) is
          ∙ (ap (λ (ns : List ℕ). walked (shows hosts) place clock ns (b, t)) (sym left) ∙ c.loop-number.invariant.left);
      shown = subst (λ (x : Simulation × Tally). IsShown hosts x.0) (sym is) (shown_handled hosts b c.loop-number.invariant.shown place clock n c.requires.place c.requires.clock t);
    }
