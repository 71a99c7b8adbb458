-- The steps by which the pair of a folder is made and opened.
use Rattle.std.specs.Prelude.{◌≡◌, ℕ, Bool, true, false, if◌then◌else◌, List, [], ◌∷◌, ◌++◌, codes, Option, IfSome, Some}
use Rattle.ps_files.specs.FileCalls.{Adds, ArePieces, one}
use Rattle.ps_disks.specs.Rack.{fresh_first, fresh_second}
use Rattle.ps_files.specs.declared.file_calls.FileCall.TheVariants.{SyncAll}
use Rattle.ps_files.specs.declared.file_calls.MadeCall.{MadeCall}
use Rattle.ps_files.specs.declared.folder_calls.Step.{Step}
use Rattle.ps_files.specs.declared.folder_calls.Step.TheVariants.{CloseFile, CreateFolder, CreateFile, Lock, RemoveFolder, Rename, SyncFolder}

-- where steps are told, those before were told, and such steps are more
abbrev pub AddsSuch : Option (List Step) → Option (List Step) → (List Step → Type 0) → Type 0
AddsSuch old now such = IfSome now (λ steps. (added : List Step) × Adds old (Some steps) added × such added)

-- where a file tells its calls, there are none yet
abbrev pub IsUntouched : Option (List MadeCall) → Type 0
IsUntouched made = IfSome made (λ calls. calls ≡ [])

-- a file that was closed told these calls
abbrev pub Closes : Option (List MadeCall) → List Step → Type 0
Closes made steps = (calls : List MadeCall) × (made ≡ Some calls) × (steps ≡ CloseFile calls ∷ [])

-- all calls on a file: they wrote these bytes from its beginning on, whole, and then synced it
abbrev pub IsWritten : List ℕ → List MadeCall → Type 0
IsWritten bytes calls = (pieces : List MadeCall) × (calls ≡ pieces ++ one SyncAll true) × ArePieces 0 bytes pieces

-- a new file is made, written, synced and closed
abbrev pub MakesFile : List ℕ → List ℕ → List Step → Type 0
MakesFile path bytes steps = (calls : List MadeCall) × IsWritten bytes calls × (steps ≡ CreateFile path ∷ CloseFile calls ∷ [])

-- the folder in which a new pair is made, and the one that it becomes
abbrev pub new_pair : List ℕ → List ℕ
new_pair folder = folder ++ codes "/pair.new"

abbrev pub whole_pair : List ℕ → List ℕ
whole_pair folder = folder ++ codes "/pair"

-- one that was left over is removed
abbrev pub swept : Bool → List ℕ → List Step
swept left pair = if left then RemoveFolder pair ∷ [] else []

-- a pair is made: both files with the bytes of a new pair, then their folder is synced, and then it gets its name
abbrev pub MakesPair : List ℕ → List ℕ → List Step → Type 0
MakesPair made pair steps =
    (first : List Step) × (second : List Step) × MakesFile (made ++ codes "/first") fresh_first first × MakesFile (made ++ codes "/second") fresh_second second
    × (steps ≡ CreateFolder made ∷ first ++ second ++ SyncFolder made ∷ Rename made pair ∷ [])

-- where there is none
abbrev pub MakesMissing : Bool → List ℕ → List ℕ → List Step → Type 0
MakesMissing true made pair steps = steps ≡ []
MakesMissing false made pair steps = MakesPair made pair steps

-- and the folder above is synced
abbrev pub BringsPair : List ℕ → List Step → Type 0
BringsPair folder steps =
    (left : Bool) × (there : Bool) × (made : List Step) × MakesMissing there (new_pair folder) (whole_pair folder) made
    × (steps ≡ swept left (new_pair folder) ++ made ++ SyncFolder folder ∷ [])

-- the steps of an opening, where they are told: the lock first, and then those
abbrev pub OpensFolder : List ℕ → Option (List Step) → Option (List Step) → Type 0
OpensFolder folder old now = AddsSuch old now (λ steps. (more : List Step) × BringsPair folder more × (steps ≡ Lock ∷ more))
