-- Scheduling classes: their names, and which of them conflict.
use Rattle.std.specs.Prelude.{ℕ, Bool, true, false, List, Option, Some, None, if◌then◌else◌, codes, ◌&&◌}
use Rattle.std.specs.Str.{bytes_eq}
use Rattle.ps_time.specs.declared.class.Class.{Class}
use Rattle.ps_time.specs.declared.class.Class.TheVariants.{BackgroundMulti, Background, Normal, Exclusive}
use Rattle.ps_time.specs.Span.{Span, overlap}

-- one is exclusive, and the other is exclusive or normal
abbrev pub conflicting_classes : Class → Class → Bool
conflicting_classes Exclusive Exclusive = true
conflicting_classes Exclusive Normal = true
conflicting_classes Normal Exclusive = true
conflicting_classes _ _ = false

-- runs of these classes at these intervals clash: their classes conflict, and some second lies in both
abbrev pub clash : Class → Span → Class → Span → Bool
clash a s b t = conflicting_classes a b && overlap s t

abbrev pub class_text : Class → List ℕ
class_text BackgroundMulti = codes "background-multi"
class_text Background = codes "background"
class_text Normal = codes "normal"
class_text Exclusive = codes "exclusive"

-- the class of a name
abbrev pub class_of_text : List ℕ → Option Class
class_of_text bs =
    if bytes_eq bs (codes "background-multi") then Some BackgroundMulti
    else if bytes_eq bs (codes "background") then Some Background
    else if bytes_eq bs (codes "normal") then Some Normal
    else if bytes_eq bs (codes "exclusive") then Some Exclusive
    else None
