use Rattle.serde_json.specs.View.{view}
use Rattle.limit_ident.specs.Plain.{IsFlat}
use Rattle.limit_apply.specs.Read.{parts_of}
use Rattle.limit_apply.proofs.FlatLemmas.{gives_parts, answer_told, answer_flat}
use Rattle.limit_apply.proofs.read.read_plain.Goals as goal

pub returns-clause-flat : goal.returns-clause-flat
returns-clause-flat c = answer_flat (IsFlat 64 (view c.args.value)) _ (parts_of (view c.args.value)) c.read_parts.ensures (gives_parts (view c.args.value) c.requires)

pub returns-clause-told : goal.returns-clause-told
returns-clause-told c = answer_told (IsFlat 64 (view c.args.value)) _ (parts_of (view c.args.value)) c.read_parts.ensures (gives_parts (view c.args.value) c.requires)
