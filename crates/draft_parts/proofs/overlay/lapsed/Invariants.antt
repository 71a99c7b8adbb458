use Rattle.std.proofs.Common.{◌≡◌, [], drop}
use Rattle.host_rows.specs.Deadlines.{due_keys}
use Rattle.draft_parts.specs.Overlay.{lapsed_over}
use Rattle.draft_parts.proofs.overlay.lapsed.Given as goal

-- what is left decides
abbrev pub invariant-loop-place : goal.invariant-loop-place
invariant-loop-place l = lapsed_over l.moment l.book.list (due_keys l.moment l.deadlines.list) [] ≡ lapsed_over l.moment l.book.list (due_keys l.moment (drop l.place l.deadlines.list)) l.made.list
