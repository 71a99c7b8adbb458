-- Calls in a row, as the rack makes them.
use Rattle.std.proofs.Common.{◌≡◌, ℕ, Bool, true, List, [], ◌∷◌, ◌++◌, codes, ap, refl, subst, sym, ◌∙◌, append_assoc}
use Rattle.std.specs.Prelude.{Option, Some, None}
use Rattle.ps_files.specs.FileCalls.{Adds, WroteWhole, one}
use Rattle.ps_files.specs.PairSteps.{AddsSuch, BringsPair, Closes, IsUntouched, IsWritten, MakesFile, MakesMissing, MakesPair, OpensFolder, new_pair, swept, whole_pair}
use Rattle.ps_disks.specs.Rack.{fresh_first, fresh_second}
use Rattle.ps_files.specs.declared.file_calls.FileCall.TheVariants.{SyncAll}
use Rattle.ps_files.specs.declared.file_calls.MadeCall.{MadeCall}
use Rattle.ps_files.specs.declared.folder_calls.Step.{Step}
use Rattle.ps_files.specs.declared.folder_calls.Step.TheVariants.{CreateFile, CreateFolder, Lock, Rename, SyncFolder}

module _ {X : Type 0} where
  -- some calls, and then more
  pub adds_then : (a b c : Option (List X)) (xs ys : List X) → Adds a b xs → Adds b c ys → Adds a c (xs ++ ys)
  adds_then a b None xs ys first more = tt
  adds_then a b (Some calls) xs ys first more =
      let here : Adds a (Some more.0) xs = subst (λ o. Adds a o xs) more.1 first in
      (here.0, here.1, more.2 ∙ ap (λ l. l ++ ys) here.2 ∙ append_assoc here.0 xs ys)

-- these steps are such
pub adds_such : (a b : Option (List Step)) (steps : List Step) (such : List Step → Type 0) → Adds a b steps → such steps → AddsSuch a b such
adds_such a None steps such adds is = tt
adds_such a (Some now) steps such adds is = (steps, adds, is)

-- such steps, and then others
pub such_then : (a b c : Option (List Step)) (first more both : List Step → Type 0) → ((xs ys : List Step) → first xs → more ys → both (xs ++ ys))
    → AddsSuch a b first → AddsSuch b c more → AddsSuch a c both
such_then a b None first more both join begins goes_on = tt
such_then a b (Some now) first more both join begins goes_on =
    let adds : Adds b (Some now) goes_on.0 = goes_on.1 in
    let here : AddsSuch a (Some adds.0) first = subst (λ o. AddsSuch a o first) adds.1 begins in
    let before : Adds a b here.0 = subst (λ o. Adds a o here.0) (sym adds.1) here.1 in
    (here.0 ++ goes_on.0, adds_then a b (Some now) here.0 goes_on.0 before adds, join here.0 goes_on.0 here.2 goes_on.2)

-- the calls on a file that was untouched, then written whole, then synced
all_calls : (new whole : Option (List MadeCall)) (calls : List MadeCall) (bytes : List ℕ) → IsUntouched new → WroteWhole new whole 0 bytes → Adds whole (Some calls) (one SyncAll true) → IsWritten bytes calls
all_calls new whole calls bytes untouched wrote syncs =
    let here : WroteWhole new (Some syncs.0) 0 bytes = subst (λ o. WroteWhole new o 0 bytes) syncs.1 wrote in
    let none : here.0 ≡ [] = subst IsUntouched here.2 untouched in
    let front : syncs.0 ≡ here.1 = here.3 ∙ ap (λ l. l ++ here.1) none in
    (here.1, syncs.2 ∙ ap (λ l. l ++ one SyncAll true) front, here.4)

-- a new file, whose calls are told as it is closed
pub file_made : (a b c : Option (List Step)) (new whole synced : Option (List MadeCall)) (path bytes : List ℕ) → Adds a b (CreateFile path ∷ []) → IsUntouched new → WroteWhole new whole 0 bytes
    → Adds whole synced (one SyncAll true) → AddsSuch b c (Closes synced) → AddsSuch a c (MakesFile path bytes)
file_made a b c new whole synced path bytes creates untouched wrote syncs closes =
    such_then a b c (λ xs. xs ≡ CreateFile path ∷ []) (Closes synced) (MakesFile path bytes)
    (λ xs ys is closed.
    let told : Adds whole (Some closed.0) (one SyncAll true) = subst (λ o. Adds whole o (one SyncAll true)) closed.1 syncs in
    (closed.0, all_calls new whole closed.0 bytes untouched wrote told, ap (λ l. l ++ ys) is ∙ ap (λ l. CreateFile path ∷ l) closed.2))
    (adds_such a b (CreateFile path ∷ []) (λ xs. xs ≡ CreateFile path ∷ []) creates refl) closes

-- the files of a new pair, and then the end
abbrev SecondFile : List ℕ → List Step → List Step → Type 0
SecondFile made end steps = (second : List Step) × MakesFile (made ++ codes "/second") fresh_second second × (steps ≡ second ++ end)

abbrev BothFiles : List ℕ → List Step → List Step → Type 0
BothFiles made end steps =
    (first : List Step) × (second : List Step) × MakesFile (made ++ codes "/first") fresh_first first × MakesFile (made ++ codes "/second") fresh_second second × (steps ≡ first ++ second ++ end)

pub pair_made : (a b c d e f : Option (List Step)) (made pair : List ℕ) → Adds a b (CreateFolder made ∷ []) → AddsSuch b c (MakesFile (made ++ codes "/first") fresh_first) → AddsSuch c d (MakesFile (made ++ codes "/second") fresh_second)
    → Adds d e (SyncFolder made ∷ []) → Adds e f (Rename made pair ∷ []) → AddsSuch a f (MakesPair made pair)
pair_made a b c d e f made pair creates first second syncs renames =
    let end = SyncFolder made ∷ Rename made pair ∷ [] in
    let ends : AddsSuch d f (λ ys. ys ≡ end) = adds_such d f end (λ ys. ys ≡ end) (adds_then d e f (SyncFolder made ∷ []) (Rename made pair ∷ []) syncs renames) refl in
    let from_second : AddsSuch c f (SecondFile made end) =
    such_then c d f (MakesFile (made ++ codes "/second") fresh_second) (λ ys. ys ≡ end) (SecondFile made end) (λ xs ys is last. (xs, is, ap (λ l. xs ++ l) last)) second ends in
    let from_first : AddsSuch b f (BothFiles made end) =
    such_then b c f (MakesFile (made ++ codes "/first") fresh_first) (SecondFile made end) (BothFiles made end) (λ xs ys is more. (xs, more.0, is, more.1, ap (λ l. xs ++ l) more.2 ∙ sym (append_assoc xs more.0 end))) first from_second in
    such_then a b f (λ xs. xs ≡ CreateFolder made ∷ []) (BothFiles made end) (MakesPair made pair)
    (λ xs ys is more. (more.0, more.1, more.2, more.3, ap (λ l. l ++ ys) is ∙ ap (λ l. CreateFolder made ∷ l) more.4))
    (adds_such a b (CreateFolder made ∷ []) (λ xs. xs ≡ CreateFolder made ∷ []) creates refl) from_first

-- what was left over is removed, a pair that is missing is made, and the folder above is synced
pub pair_brought : (a b c d : Option (List Step)) (folder : List ℕ) (left there : Bool) → Adds a b (swept left (new_pair folder)) → AddsSuch b c (MakesMissing there (new_pair folder) (whole_pair folder))
    → Adds c d (SyncFolder folder ∷ []) → AddsSuch a d (BringsPair folder)
pair_brought a b c d folder left there sweeps makes syncs =
    let clean = swept left (new_pair folder) in
    let end = SyncFolder folder ∷ [] in
    let made = MakesMissing there (new_pair folder) (whole_pair folder) in
    let ends : AddsSuch c d (λ ys. ys ≡ end) = adds_such c d end (λ ys. ys ≡ end) syncs refl in
    let makes_on = such_then b c d made (λ ys. ys ≡ end) (λ steps. (xs : List Step) × made xs × (steps ≡ xs ++ end)) (λ xs ys is last. (xs, is, ap (λ l. xs ++ l) last)) makes ends in
    such_then a b d (λ xs. xs ≡ clean) (λ steps. (xs : List Step) × made xs × (steps ≡ xs ++ end)) (BringsPair folder)
    (λ xs ys is more. (left, there, more.0, more.1, ap (λ l. l ++ ys) is ∙ ap (λ l. clean ++ l) more.2 ∙ sym (append_assoc clean more.0 end)))
    (adds_such a b clean (λ xs. xs ≡ clean) sweeps refl) makes_on

-- the lock, and then those
pub folder_opened : (a b c : Option (List Step)) (folder : List ℕ) → Adds a b (Lock ∷ []) → AddsSuch b c (BringsPair folder) → OpensFolder folder a c
folder_opened a b c folder locks brings =
    such_then a b c (λ xs. xs ≡ Lock ∷ []) (BringsPair folder) (λ steps. (more : List Step) × BringsPair folder more × (steps ≡ Lock ∷ more))
    (λ xs ys is more. (ys, more, ap (λ l. l ++ ys) is))
    (adds_such a b (Lock ∷ []) (λ xs. xs ≡ Lock ∷ []) locks refl) brings
