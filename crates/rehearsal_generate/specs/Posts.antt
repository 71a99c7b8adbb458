-- What the posts of generated work ask for.
use Rattle.std.specs.Prelude.{◌+◌, ◌%◌, ◌==◌, ◌++◌, ◌-ℤ◌, List, ℤ, codes, if◌then◌else◌, pos, ℕ}
use Rattle.std.specs.Fmt.{decimal, signed_decimal}
use Rattle.plugin_core.specs.Kind.{kind_text}
use Rattle.plugin_core.specs.declared.kind.TestKind.{TestKind}
use Rattle.plugin_core.specs.declared.kind.TestKind.TheVariants.{Idle, Idleex, Idlebgm, Idlemany, Simplestream}
use Rattle.rehearsal_generate.specs.Draws.{drawn, next_seed}
use Rattle.rehearsal_generate.specs.declared.post.Post.{Post}

-- ---- what is drawn for a post
abbrev pub kind_drawn : ℕ → TestKind
kind_drawn k = if k == 0 then Idle else if k == 1 then Idleex else if k == 2 then Idlemany else Simplestream

-- where the seed came to these, one after another
abbrev pub post_from : ℕ → ℕ → ℕ → ℕ → Post
post_from a k d p = record {
  place = drawn a % 8;
  kind = kind_drawn (drawn k % 4);
  seconds = 1 + drawn d % 60;
  priority = pos (drawn p % 21) -ℤ pos 10;
}

unfoldable pub seed_after_post : ℕ → ℕ
seed_after_post seed = next_seed (next_seed (next_seed (next_seed seed)))

unfoldable pub post_of : ℕ → Post
post_of seed = post_from (next_seed seed) (next_seed (next_seed seed)) (next_seed (next_seed (next_seed seed))) (next_seed (next_seed (next_seed (next_seed seed))))

-- ---- what is posted
-- the place of the next host, after the last the first
abbrev pub partner_of : ℕ → ℕ
partner_of place = (place + 1) % 8

-- ---- the spec of the test
abbrev pub alone_text : ℕ → List ℕ
alone_text seconds = codes "{\"duration\":\"PT" ++ (decimal seconds ++ codes "S\"}")

-- with the numbers of the two hosts, which are in their names
abbrev pub both_text : ℕ → ℕ → ℕ → List ℕ
both_text host partner seconds =
    codes "{\"duration\":\"PT" ++ (decimal seconds ++ (codes "S\",\"hosts\":[\"h" ++ (decimal host ++ (codes "\",\"h" ++ (decimal partner ++ codes "\"]}")))))

abbrev pub stream_text : ℕ → ℕ → List ℕ
stream_text partner seconds = codes "{\"dest\":\"h" ++ (decimal partner ++ (codes "\",\"timeout\":\"PT" ++ (decimal seconds ++ codes "S\"}")))

-- by the kind of test and the place of the host
abbrev pub spec_text : TestKind → ℕ → ℕ → List ℕ
spec_text Idlemany place seconds = both_text (place + 1) (partner_of place + 1) seconds
spec_text Simplestream place seconds = stream_text (partner_of place + 1) seconds
spec_text Idle place seconds = alone_text seconds
spec_text Idleex place seconds = alone_text seconds
spec_text Idlebgm place seconds = alone_text seconds

-- a task without a schedule, which has this spec
abbrev pub task_text : ℤ → List ℕ → TestKind → List ℕ
task_text priority spec kind = codes "{\"priority\":" ++ (signed_decimal priority ++ (codes ",\"test\":{\"spec\":" ++ (spec ++ (codes ",\"type\":\"" ++ (kind_text kind ++ codes "\"}}")))))

unfoldable pub body_of : Post → List ℕ
body_of q = task_text q.priority (spec_text q.kind q.place q.seconds) q.kind
