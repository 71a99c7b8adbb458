-- When a classifier holds of who asks.
use Rattle.std.specs.Prelude.{ℕ, Bool, false, List, map, Option, Some, None, slice_get}
use Rattle.ps_time.specs.declared.asker.Asker.{Asker}
use Rattle.limit_ident.specs.declared.classifier.Classifier.{Classifier}
use Rattle.limit_ident.specs.declared.identifier.Identifier.{Identifier}
use Rattle.limit_ident.specs.declared.named.Named.{Named}
use Rattle.limit_ident.specs.Identifier.{identified_at}
use Rattle.limit_ident.specs.Require.{met}

-- as many of its identifiers are true as it requires
abbrev pub held : List (Named Identifier) → Asker → Classifier → Bool
held is asker c = met c.require (map (identified_at is asker) c.identifiers)

-- the same of the classifier at a place; none stands past the end
abbrev pub held_at : List (Named Classifier) → List (Named Identifier) → Asker → ℕ → Bool
held_at cs is asker index = of_entry (slice_get cs index)
  where
    of_entry : Option (Named Classifier) → Bool
    of_entry None = false
    of_entry (Some e) = held is asker e.value
