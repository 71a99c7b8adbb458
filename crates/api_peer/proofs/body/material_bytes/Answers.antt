use Rattle.std.proofs.Common.{◌≤◌, arith}
use Rattle.serde_json.specs.View.{view}
use Rattle.api_body.specs.Bodies.{material_of}
use Rattle.ps_time.specs.Numbers.{most_request_bytes}
use Rattle.std.specs.Prelude.{length}
use Rattle.api_peer.proofs.BodyLemmas.{material_back, read_if}
use Rattle.api_peer.specs.Ordered.{material_data}
use Rattle.api_peer.proofs.body.material_bytes.Goals as goal

pub returns-clause-reads : goal.returns-clause-reads
returns-clause-reads c =
    let text = c.args.text.now in
    read_if (length text ≤ most_request_bytes) material_of text (view c.in_ok-value.value) (material_data text) c.body_bytes.result c.in_ok-value.ensures (omega arith) c.body_bytes.ensures.text c.body_bytes.ensures.reads (material_back text)
