-- What the orders of a lawful book keep.
use Rattle.std.specs.Prelude.{◌≤◌, length, ℕ}
use Rattle.plugin_core.specs.Bounds.{IsTest}
use Rattle.run_states.specs.LawfulRow.{IsProposal, IsWindow}
use Rattle.host_model.specs.declared.order.OrderBody.{OrderBody}
use Rattle.host_model.specs.declared.order.OrderBody.TheVariants.{Free, Propose, Material}

-- the most bytes of the material of a test
abbrev pub most_material_bytes : ℕ
most_material_bytes = 8_192

abbrev pub IsListed : OrderBody → Type 0
IsListed (Free q) = IsTest q.test × IsWindow q.window
IsListed (Propose p) = IsProposal p
IsListed (Material text) = length text ≤ most_material_bytes
IsListed _ = Unit {0}
