-- Kinds of tests and their names.
use Rattle.std.specs.Prelude.{ℕ, List, [], ◌∷◌, Option, Some, None, if◌then◌else◌, codes}
use Rattle.std.specs.Str.{bytes_eq}
use Rattle.ps_time.specs.declared.class.Class.{Class}
use Rattle.ps_time.specs.declared.class.Class.TheVariants.{BackgroundMulti, Background, Normal, Exclusive}
use Rattle.plugin_core.specs.declared.kind.TestKind.{TestKind}
use Rattle.plugin_core.specs.declared.kind.TestKind.TheVariants.{Idle, Idleex, Idlebgm, Idlemany, Simplestream}
use Rattle.plugin_core.specs.declared.test_spec.TestSpec.{TestSpec}
use Rattle.plugin_core.specs.declared.test_spec.TestSpec.TheVariants.{Idle as an_idle, Idleex as an_idleex, Idlebgm as an_idlebgm, Idlemany as an_idlemany, Simplestream as a_simplestream}

abbrev pub kind_text : TestKind → List ℕ
kind_text Idle = codes "idle"
kind_text Idleex = codes "idleex"
kind_text Idlebgm = codes "idlebgm"
kind_text Idlemany = codes "idlemany"
kind_text Simplestream = codes "simplestream"

-- the kind of a name
abbrev pub kind_of_text : List ℕ → Option TestKind
kind_of_text bs =
    if bytes_eq bs (codes "idle") then Some Idle
    else if bytes_eq bs (codes "idleex") then Some Idleex
    else if bytes_eq bs (codes "idlebgm") then Some Idlebgm
    else if bytes_eq bs (codes "idlemany") then Some Idlemany
    else if bytes_eq bs (codes "simplestream") then Some Simplestream
    else None

abbrev pub test_kind : TestSpec → TestKind
test_kind (an_idle sleep) = Idle
test_kind (an_idleex sleep) = Idleex
test_kind (an_idlebgm sleep interval) = Idlebgm
test_kind (an_idlemany sleep hosts) = Idlemany
test_kind (a_simplestream dest material dawdle timeout) = Simplestream

-- the class in which tests of a kind run
abbrev pub kind_class : TestKind → Class
kind_class Idle = Background
kind_class Idleex = Exclusive
kind_class Idlebgm = BackgroundMulti
kind_class Idlemany = Exclusive
kind_class Simplestream = Normal

-- every kind, ascending by name
abbrev pub kinds_by_name : List TestKind
kinds_by_name = Idle ∷ Idlebgm ∷ Idleex ∷ Idlemany ∷ Simplestream ∷ []
