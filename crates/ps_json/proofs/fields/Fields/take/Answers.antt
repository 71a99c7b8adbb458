use Rattle.std.proofs.Common.{◌≡◌, option_map, None, ap, ◌∙◌}
use Rattle.std.specs.Map.{lookup, remove_entry}
use Rattle.serde_json.specs.Find.{get_member}
use Rattle.serde_json.specs.View.{view}
use Rattle.serde_json.proofs.Views.{view-lookup}
use Rattle.ps_json.proofs.MemberLemmas.{is_named, members_view-remove_entry}
use Rattle.ps_json.proofs.fields.Fields.take.Goals as goal

pub returns-clause-value : goal.returns-clause-value
returns-clause-value c =
    ap (option_map view) c.remove.ensures.value ∙ view-lookup c.args.name.now c.self.inside.members.entries ∙ ap (get_member c.args.name.now) c.self.view_is

pub returns-clause-rest : goal.returns-clause-rest
returns-clause-rest c =
    let named = is_named c.args.name.now in
    let gone : lookup named (remove_entry named c.self.inside.members.entries) ≡ None = rw c.remove.ensures.entries at c.remove.ensures.updates.1 in
    rw (← c.self.view_is, c.remove.ensures.entries) (members_view-remove_entry c.args.name.now c.self.inside.members.entries gone)
