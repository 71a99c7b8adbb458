use Rattle.std.proofs.Common.{◌≡◌, rules, subst}
use Rattle.ps_files.specs.FileCalls.{Adds}
use Rattle.ps_files.specs.PairSteps.{AddsSuch, MakesMissing, new_pair, swept, whole_pair}
use Rattle.ps_files.proofs.FolderLemmas.{pair_brought}
use Rattle.ps_files.proofs.folder_rack.make_pair.Goals as goal

pub returns : goal.returns
returns g c =
    let folder = c.args.folder.now in
    let steps = g.C.FolderCalls.steps in
    let old = steps c.args.calls.now in
    let clean = steps c.sweep.new.calls in
    let there = steps c.make_missing.new.calls in
    let made : c.as_str.result.now ≡ new_pair folder = search rules in
    let made_again : c.as_str-2.result.now ≡ new_pair folder = search rules in
    let pair : c.as_str-3.result.now ≡ whole_pair folder = search rules in
    let sweeps = c.in_ok-sweep.ensures in
    let makes = c.in_ok-make_missing.ensures in
    let clears : Adds old clean (swept sweeps.0 (new_pair folder)) = subst (λ made. Adds old clean (swept sweeps.0 made)) made sweeps.1 in
    let in_place = subst (λ made. AddsSuch clean there (MakesMissing makes.0 made c.as_str-3.result.now)) made_again makes.1 in
    let brings = subst (λ pair. AddsSuch clean there (MakesMissing makes.0 (new_pair folder) pair)) pair in_place in
    pair_brought old clean there (steps c.sync_folder.new.self) folder sweeps.0 makes.0 clears brings c.in_ok-sync_folder.ensures.steps
