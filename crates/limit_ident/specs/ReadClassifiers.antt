-- Which classifiers a JSON tree is.
use Rattle.std.specs.Prelude.{ℕ, List, Option, Some, None, Result, Ok, Err, if◌then◌else◌, bytes_eq, codes}
use Rattle.serde_json.specs.Data.{Data, Members}
use Rattle.ps_json.specs.Each.{read_each}
use Rattle.ps_json.specs.Answer.{then_with}
use Rattle.ps_json.specs.declared.fault.JsonFault.TheVariants.{WrongKind}
use Rattle.limit_ident.specs.declared.classifier.Classifier.{Classifier}
use Rattle.limit_ident.specs.declared.fault.LimitFault.{LimitFault}
use Rattle.limit_ident.specs.declared.fault.LimitFault.TheVariants.{Json}
use Rattle.limit_ident.specs.declared.identifier.Identifier.{Identifier}
use Rattle.limit_ident.specs.declared.named.Named.{Named}
use Rattle.limit_ident.specs.declared.require.Require.{Require}
use Rattle.limit_ident.specs.declared.require.Require.TheVariants.{All as all, Any as any, One as one, None as no_one}
use Rattle.ps_json.specs.Member.{required, optional, member_then}
use Rattle.limit_ident.specs.Member.{text_in, some_in, described}
use Rattle.limit_ident.specs.Fault.{wrapped}
use Rattle.limit_ident.specs.Named.{place_in, entries_in}

abbrev pub require_of : List ℕ → Option Require
require_of bs =
    if bytes_eq bs (codes "all") then Some all
    else if bytes_eq bs (codes "any") then Some any
    else if bytes_eq bs (codes "one") then Some one
    else if bytes_eq bs (codes "none") then Some no_one
    else None

abbrev pub require_in : List ℕ → Data → Result Require LimitFault
require_in name d = then_with (text_in name d) (λ bs. known (require_of bs))
  where
    known : Option Require → Result Require LimitFault
    known None = Err (Json (WrongKind name))
    known (Some require) = Ok require

-- the places of the entries that the items name
abbrev pub places_in : {T : Type 0} → List (Named T) → List ℕ → Data → Result (List ℕ) LimitFault
places_in es name d = then_with (some_in name d) (read_each (place_in es name))

-- what stands behind the name
abbrev pub classifier_of : List (Named Identifier) → Members → Result Classifier LimitFault
classifier_of is ms =
    member_then (codes "identifiers") (required wrapped (places_in is)) ms (λ places ms.
    member_then (codes "require") (optional any require_in) ms (λ require ms.
    then_with (described ms) (λ _. Ok (record { identifiers = places; require = require }))))

-- a list of classifiers over these identifiers, which isn't empty
abbrev pub classifiers_of : List (Named Identifier) → Data → Result (List (Named Classifier)) LimitFault
classifiers_of is d = entries_in (classifier_of is) (codes "classifiers") d
