-- Who takes part in a run.
use Rattle.std.specs.Prelude.{ℕ, ◌≡◌, ◌≤◌, Bool, true, List, [], ◌∷◌, length, if◌then◌else◌}
use Rattle.std.specs.List.{list_all, list_any}
use Rattle.std.specs.Str.{bytes_eq}
use Rattle.ps_time.specs.Name.{is_name}
use Rattle.ps_time.specs.Numbers.{most_participants}
use Rattle.plugin_core.specs.declared.test_spec.TestSpec.{TestSpec}
use Rattle.plugin_core.specs.declared.test_spec.TestSpec.TheVariants.{Idle, Idleex, Idlebgm, Idlemany, Simplestream}

-- the names of the participants, where this lead leads the run
abbrev pub participants : TestSpec → List ℕ → List (List ℕ)
participants (Idle sleep) lead = lead ∷ []
participants (Idleex sleep) lead = lead ∷ []
participants (Idlebgm sleep interval) lead = lead ∷ []
participants (Idlemany sleep hosts) lead = hosts
participants (Simplestream dest material dawdle timeout) lead = if bytes_eq dest lead then lead ∷ [] else lead ∷ dest ∷ []

-- the name is among these
abbrev pub is_named : List ℕ → List (List ℕ) → Bool
is_named name names = list_any (λ other. bytes_eq other name) names

-- 1 to 8 participants, each a name
pub record HasParticipants (names : List (List ℕ)) : Type 0 where
  pub some : 1 ≤ length names
  pub few : length names ≤ most_participants
  pub named : list_all is_name names ≡ true
