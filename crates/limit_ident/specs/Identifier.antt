-- When an identifier is true of who asks.
use Rattle.std.specs.Prelude.{ℕ, ◌==◌, ◌||◌, Bool, true, false, not, List, [], ◌∷◌, length, Option, Some, None, slice_get, bytes_eq}
use Rattle.std.specs.List.{list_any, starts_with}
use Rattle.ps_time.specs.declared.asker.Asker.{Asker}
use Rattle.limit_ident.specs.declared.address.Address.{Address}
use Rattle.limit_ident.specs.declared.address.Block.{Block}
use Rattle.limit_ident.specs.declared.identifier.Hint.{Hint}
use Rattle.limit_ident.specs.declared.identifier.Hint.TheVariants.{Requester, Server}
use Rattle.limit_ident.specs.declared.identifier.Style.{Style}
use Rattle.limit_ident.specs.declared.identifier.Style.TheVariants.{Exact, Contains}
use Rattle.limit_ident.specs.declared.identifier.Condition.{Condition}
use Rattle.limit_ident.specs.declared.identifier.Condition.TheVariants.{Always, CidrList, Hint as hinted}
use Rattle.limit_ident.specs.declared.identifier.Identifier.{Identifier}
use Rattle.limit_ident.specs.declared.named.Named.{Named}
use Rattle.limit_ident.specs.Address.{address_of, is_within}

abbrev pub hint_text : Hint → Asker → List ℕ
hint_text Requester asker = asker.requester
hint_text Server asker = asker.server

-- the part stands somewhere in the text
abbrev pub contains_text : List ℕ → List ℕ → Bool
contains_text part [] = length part == 0
contains_text part (b ∷ bs) = starts_with ◌==◌ (b ∷ bs) part || contains_text part bs

abbrev pub matches : Style → List ℕ → List ℕ → Bool
matches Exact hint text = bytes_eq hint text
matches Contains hint text = contains_text text hint

-- an address that lies in one of the blocks
abbrev pub in_blocks : Option Address → List Block → Bool
in_blocks None blocks = false
in_blocks (Some address) blocks = list_any (λ block. is_within block address) blocks

abbrev pub condition_holds : Asker → Condition → Bool
condition_holds asker Always = true
condition_holds asker (hinted hint style text) = matches style (hint_text hint asker) text
condition_holds asker (CidrList blocks) = in_blocks (address_of asker.requester) blocks

-- `invert` turns an outcome round
abbrev pub turned : Bool → Bool → Bool
turned true outcome = not outcome
turned false outcome = outcome

abbrev pub identified : Asker → Identifier → Bool
identified asker i = turned i.invert (condition_holds asker i.condition)

-- the same of the identifier at a place; none stands past the end
abbrev pub identified_at : List (Named Identifier) → Asker → ℕ → Bool
identified_at is asker index = of_entry (slice_get is index)
  where
    of_entry : Option (Named Identifier) → Bool
    of_entry None = false
    of_entry (Some e) = identified asker e.value
