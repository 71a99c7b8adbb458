use Rattle.std.proofs.Common.{◌≡◌, Ok}
use Rattle.serde_json.specs.View.{view}
use Rattle.serde_json.specs.Written.{compact_text}
use Rattle.ps_json.specs.Tree.{tree_of}
use Rattle.psconfig_mesh.specs.Body.{body_data}
use Rattle.psconfig_mesh.proofs.BodyLemmas.{body_flat, is_wanted}
use Rattle.psconfig_mesh.proofs.wanted.body_of.Goals as goal

pub returns-clause-reads : goal.returns-clause-reads
returns-clause-reads c =
    let body = body_data c.args.mesh.now.name c.args.task.now c.args.pair.now in
    let seen : view c.in_ok-body.body ≡ body = rw c.as_str.ensures at c.in_ok-body.ensures in
    let text = rw seen at c.in_ok-text.ensures.text in
    let reads = rw seen at c.in_ok-text.ensures.reads in
    let same : tree_of (compact_text body) ≡ Ok body = rw text at (reads (body_flat c.args.mesh.now.moment c.args.pair.now.first body c.requires)) in
    is_wanted c.args.mesh.now c.args.task.now c.args.pair.now c.requires same
