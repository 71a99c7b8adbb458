use Rattle.std.specs.Prelude.{find}
use Rattle.std.specs.List.{slice_get}
use Rattle.std.specs.Option.{option_copied}
use Rattle.std.proofs.Common.{◌≡◌, ◌∙◌, None, Some, option_map, ap, sym}
use Rattle.run_states.specs.declared.row.RunRow.{RunRow}
use Rattle.host_timeline.specs.Booking.{is_after}
use Rattle.draft_parts.proofs.WalkLemmas.{first_above}
use Rattle.draft_parts.proofs.walk.first_after.Goals as goal

-- the least of those above the key is the first above it
pub returns-in-Some : goal.returns-in-Some
returns-in-Some c =
    let found : find (λ (r : RunRow). is_after c.args.after r.key) c.args.rows ≡ Some c.in-Some.row.now =
    sym (first_above c.args.after c.args.rows) ∙ (sym (c.least.ensures ∙ ap (λ l. slice_get l 0) c.above.ensures) ∙ ap option_copied c.in-Some.is) in
    sym (ap (option_map (λ r. r.key)) found)

pub returns-in-None : goal.returns-in-None
returns-in-None c =
    let found : find (λ (r : RunRow). is_after c.args.after r.key) c.args.rows ≡ None =
    sym (first_above c.args.after c.args.rows) ∙ (sym (c.least.ensures ∙ ap (λ l. slice_get l 0) c.above.ensures) ∙ ap option_copied c.in-None.is) in
    sym (ap (option_map (λ r. r.key)) found)
