-- Which identifiers a JSON tree is.
use Rattle.std.specs.Prelude.{ℕ, List, Option, Some, None, Result, Ok, Err, if◌then◌else◌, false, bytes_eq, codes}
use Rattle.serde_json.specs.Data.{Data, Members}
use Rattle.serde_json.specs.Find.{get_member}
use Rattle.ps_json.specs.Each.{read_each}
use Rattle.ps_json.specs.Answer.{then_with}
use Rattle.ps_json.specs.Fields.{without_member}
use Rattle.ps_json.specs.declared.fault.JsonFault.TheVariants.{WrongKind}
use Rattle.limit_ident.specs.declared.address.Block.{Block}
use Rattle.limit_ident.specs.declared.fault.LimitFault.{LimitFault}
use Rattle.limit_ident.specs.declared.fault.LimitFault.TheVariants.{Json, UnknownType, BadCidr}
use Rattle.limit_ident.specs.declared.identifier.Hint.{Hint}
use Rattle.limit_ident.specs.declared.identifier.Hint.TheVariants.{Requester, Server}
use Rattle.limit_ident.specs.declared.identifier.Style.{Style}
use Rattle.limit_ident.specs.declared.identifier.Style.TheVariants.{Exact, Contains}
use Rattle.limit_ident.specs.declared.identifier.Condition.{Condition}
use Rattle.limit_ident.specs.declared.identifier.Condition.TheVariants.{Always as always, CidrList as cidr_list, Hint as hinted}
use Rattle.limit_ident.specs.declared.identifier.Identifier.{Identifier}
use Rattle.limit_ident.specs.declared.named.Named.{Named}
use Rattle.limit_ident.specs.declared.read_identifiers.Kind.{Kind}
use Rattle.limit_ident.specs.declared.read_identifiers.Kind.TheVariants.{Always, CidrList, Hint as hint}
use Rattle.limit_ident.specs.Address.{block_of}
use Rattle.ps_json.specs.Member.{required, optional, member_then}
use Rattle.limit_ident.specs.Member.{text_in, flag_in, object_in, some_in, ended, described}
use Rattle.limit_ident.specs.Fault.{wrapped}
use Rattle.limit_ident.specs.Named.{entries_in}

-- ---- words

abbrev pub kind_of : List ℕ → Option Kind
kind_of bs =
    if bytes_eq bs (codes "always") then Some Always
    else if bytes_eq bs (codes "hint") then Some hint
    else if bytes_eq bs (codes "ip-cidr-list") then Some CidrList
    else None

abbrev pub kind_in : List ℕ → Data → Result Kind LimitFault
kind_in name d = then_with (text_in name d) (λ bs. known bs (kind_of bs))
  where
    known : List ℕ → Option Kind → Result Kind LimitFault
    known bs None = Err (UnknownType bs)
    known bs (Some kind) = Ok kind

abbrev pub hint_in : List ℕ → Data → Result Hint LimitFault
hint_in name d =
    then_with (text_in name d) (λ bs.
    if bytes_eq bs (codes "requester") then Ok Requester
    else if bytes_eq bs (codes "server") then Ok Server
    else Err (Json (WrongKind name)))

abbrev pub style_in : List ℕ → Data → Result Style LimitFault
style_in name d =
    then_with (text_in name d) (λ bs.
    if bytes_eq bs (codes "exact") then Ok Exact
    else if bytes_eq bs (codes "contains") then Ok Contains
    else Err (Json (WrongKind name)))

-- ---- data by type

abbrev pub match_in : List ℕ → Data → Result (Style × List ℕ) LimitFault
match_in name d =
    then_with (object_in name d) (λ ms.
    member_then (codes "style") (required wrapped style_in) ms (λ style ms.
    member_then (codes "match") (required wrapped text_in) ms (λ text ms.
    then_with (ended ms) (λ _. Ok (style, text)))))

abbrev pub hinted_in : List ℕ → Data → Result Condition LimitFault
hinted_in name d =
    then_with (object_in name d) (λ ms.
    member_then (codes "hint") (required wrapped hint_in) ms (λ hint ms.
    member_then (codes "match") (required wrapped match_in) ms (λ match ms.
    then_with (ended ms) (λ _. Ok (hinted hint match.0 match.1)))))

abbrev pub block_in : Data → Result Block LimitFault
block_in d = then_with (text_in (codes "cidrs") d) (λ bs. known bs (block_of bs))
  where
    known : List ℕ → Option Block → Result Block LimitFault
    known bs None = Err (BadCidr bs)
    known bs (Some block) = Ok block

abbrev pub blocks_in : List ℕ → Data → Result (List Block) LimitFault
blocks_in name d = then_with (some_in name d) (read_each block_in)

abbrev pub cidr_list_in : List ℕ → Data → Result Condition LimitFault
cidr_list_in name d =
    then_with (object_in name d) (λ ms.
    member_then (codes "cidrs") (required wrapped blocks_in) ms (λ blocks ms.
    then_with (ended ms) (λ _. Ok (cidr_list blocks))))

-- an object without members, or nothing
abbrev pub always_of : Option Data → Result Condition LimitFault
always_of None = Ok always
always_of (Some d) = then_with (object_in (codes "data") d) (λ ms. then_with (ended ms) (λ _. Ok always))

unfoldable pub condition_of : Kind → List ℕ → Members → Result Condition LimitFault
condition_of Always name ms = always_of (get_member name ms)
condition_of hint name ms = required wrapped hinted_in name ms
condition_of CidrList name ms = required wrapped cidr_list_in name ms

-- ---- entries

abbrev pub told_of : Kind → Members → Result Identifier LimitFault
told_of kind ms =
    member_then (codes "data") (condition_of kind) ms (λ condition ms.
    member_then (codes "invert") (optional false flag_in) ms (λ invert ms.
    Ok (record { condition = condition; invert = invert })))

abbrev pub after_told : Members → Members
after_told ms = without_member (codes "invert") (without_member (codes "data") ms)

-- what stands behind the type
abbrev pub rest_of : Kind → Members → Result Identifier LimitFault
rest_of kind ms = then_with (told_of kind ms) (λ identifier. then_with (described (after_told ms)) (λ _. Ok identifier))

-- what stands behind the name
abbrev pub identifier_of : Members → Result Identifier LimitFault
identifier_of ms = member_then (codes "type") (required wrapped kind_in) ms (λ kind ms. rest_of kind ms)

-- a list of identifiers, which isn't empty
abbrev pub identifiers_of : Data → Result (List (Named Identifier)) LimitFault
identifiers_of d = entries_in identifier_of (codes "identifiers") d
