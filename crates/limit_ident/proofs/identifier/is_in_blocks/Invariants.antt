use Rattle.std.proofs.Common.{◌≡◌, drop}
use Rattle.std.specs.List.{list_any}
use Rattle.limit_ident.specs.Address.{is_within}
use Rattle.limit_ident.proofs.identifier.is_in_blocks.Given as goal

-- what is left decides
abbrev pub invariant-loop-block : goal.invariant-loop-block
invariant-loop-block l = list_any (λ block. is_within block l.address) l.blocks ≡ list_any (λ block. is_within block l.address) (drop l.block-index l.blocks)
