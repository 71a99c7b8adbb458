-- What an attempt of each archiver comes to.
use Rattle.std.specs.Prelude.{List, None, Some, codes, if◌then◌else◌, nat_lt, ℕ}
use Rattle.std.specs.Str.{bytes_eq}
use Rattle.ps_doors.specs.declared.archiver.Tried.{Tried}
use Rattle.ps_doors.specs.declared.archiver.Tried.TheVariants.{Failed, Succeeded}
use Rattle.task_spec.specs.ReadArchive.{fails_by}

-- as many attempts fail as these settings say; each asks for no wait of its own
abbrev pub failer_outcome : List ℕ → ℕ → Tried
failer_outcome settings tried = if nat_lt tried (fails_by settings) then Failed (codes "failed") (Some 0) else Succeeded

-- by the archiver's name, the settings, and how many attempts were made before
abbrev pub plain : List ℕ → List ℕ → ℕ → Tried
plain archiver settings tried =
    if bytes_eq archiver (codes "bitbucket") then Succeeded
    else if bytes_eq archiver (codes "failer") then failer_outcome settings tried
    else Failed (codes "no archiver") None
