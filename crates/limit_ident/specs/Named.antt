-- Entries that others name: the first with a name, a name that is new, a name that stands for an entry.
use Rattle.std.specs.Prelude.{ℕ, suc, List, [], ◌∷◌, ◌++◌, Option, Some, None, option_map, Result, Ok, Err, if◌then◌else◌, bytes_eq, codes}
use Rattle.serde_json.specs.Data.{Data, Members}
use Rattle.ps_json.specs.Answer.{then_with}
use Rattle.ps_json.specs.Member.{required, member_then}
use Rattle.limit_ident.specs.declared.fault.LimitFault.{LimitFault}
use Rattle.limit_ident.specs.declared.fault.LimitFault.TheVariants.{Duplicate, UnknownName}
use Rattle.limit_ident.specs.declared.named.Named.{Named}
use Rattle.limit_ident.specs.Fault.{wrapped}
use Rattle.limit_ident.specs.Member.{text_in, object_in, some_in}

-- the first place of that name
abbrev pub place_of : {T : Type 0} → List ℕ → List (Named T) → Option ℕ
place_of name [] = None
place_of name (e ∷ es) = if bytes_eq e.name name then Some 0 else option_map suc (place_of name es)

-- the first of two places that are there
abbrev pub first_place : Option ℕ → Option ℕ → Option ℕ
first_place (Some place) other = Some place
first_place None other = other

-- a name that no entry has
abbrev pub new_in : {T : Type 0} → List (Named T) → List ℕ → Data → Result (List ℕ) LimitFault
new_in es member d = then_with (text_in member d) (λ name. fresh name (place_of name es))
  where
    fresh : List ℕ → Option ℕ → Result (List ℕ) LimitFault
    fresh name None = Ok name
    fresh name (Some place) = Err (Duplicate name)

-- the place of the entry that is named
abbrev pub place_in : {T : Type 0} → List (Named T) → List ℕ → Data → Result ℕ LimitFault
place_in es member d = then_with (text_in member d) (λ name. known name (place_of name es))
  where
    known : List ℕ → Option ℕ → Result ℕ LimitFault
    known name None = Err (UnknownName name)
    known name (Some place) = Ok place

-- an entry of the list `list`: a name that none before it has, and what stands behind the name
abbrev pub head_in : {T : Type 0} → List ℕ → List (Named T) → Data → Result (List ℕ × Members) LimitFault
head_in list before d =
    then_with (object_in list d) (λ ms.
    member_then (codes "name") (required wrapped (new_in before)) ms (λ name ms. Ok (name, ms)))

-- the entry of the value that stands behind the name
abbrev pub entry_in : {T : Type 0} → List ℕ → (Members → Result T LimitFault) → List (Named T) → Data → Result (Named T) LimitFault
entry_in list rest before d =
    then_with (head_in list before d) (λ head. then_with (rest head.1) (λ value. Ok (record { name = head.0; value = value })))

abbrev pub entries_from : {T : Type 0} → List ℕ → (Members → Result T LimitFault) → List (Named T) → List Data → Result (List (Named T)) LimitFault
entries_from list rest done [] = Ok done
entries_from list rest done (d ∷ ds) = then_with (entry_in list rest done d) (λ e. entries_from list rest (done ++ e ∷ []) ds)

-- the entries of a list, which isn't empty
abbrev pub entries_in : {T : Type 0} → (Members → Result T LimitFault) → List ℕ → Data → Result (List (Named T)) LimitFault
entries_in rest list d = then_with (some_in list d) (entries_from list rest [])
