use Rattle.std.proofs.Common.{◌≡◌, map, take}
use Rattle.host_pages.proofs.page.names_of.Given as goal

-- those so far
abbrev pub invariant-loop-archive : goal.invariant-loop-archive
invariant-loop-archive l = l.names ≡ map (λ a. a.archiver) (take l.archive-index l.archives)
