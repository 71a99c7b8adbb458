use Rattle.std.proofs.Common.{◌≡◌, [], ◌∷◌, ◌++◌, true, rules, subst}
use Rattle.ps_files.specs.FileCalls.{Adds, one}
use Rattle.ps_files.specs.declared.file_calls.FileCall.TheVariants.{SyncAll}
use Rattle.ps_files.specs.declared.folder_calls.Step.TheVariants.{CreateFile}
use Rattle.ps_files.proofs.FolderLemmas.{file_made}
use Rattle.ps_files.proofs.folder_rack.write_new.Goals as goal

pub returns : goal.returns
returns g c =
    let steps = g.C.FolderCalls.steps in
    let made = g.C.File.FileCalls.made in
    let old = steps c.args.calls.now in
    let named = steps c.create_file.new.self in
    let whole = made c.write_whole.new.file in
    let synced = made c.sync_all.new.self in
    let path = c.args.folder.now ++ c.args.name.now in
    let joined : c.as_str.result.now ≡ path = search rules in
    let creates : Adds old named (CreateFile path ∷ []) = subst (λ name. Adds old named (CreateFile name ∷ [])) joined c.in_ok-file.ensures.steps in
    let syncs : Adds whole synced (one SyncAll true) = search rules in
    file_made old named (steps c.close_file.new.self) (made c.in_ok-file.file) whole synced path c.args.bytes.now creates c.in_ok-file.ensures.untouched c.in_ok-write_whole.ensures syncs c.close_file.ensures.steps
