use Rattle.std.proofs.Common.{◌≡◌, Option, Some, None, option_map, refl}
use Rattle.std.specs.Prelude.{option_and_then}
use Rattle.std.specs.Int.{w128, from_be_bytes}
use Rattle.uuid.specs.Text.{parsed}
use Rattle.ps_time.specs.Id.{id_of}
use Rattle.ps_time.proofs.id.read_id.Goals as goal

none_of : {A B C : Type 0} (o : Option A) (f : A → B) (g : B → Option C) → ¬ ((u : A) × (o ≡ Some u)) → None ≡ option_and_then g (option_map f o)
none_of None f g h = refl
none_of (Some u) f g h = absurd (h (u, refl))

pub returns-in-Err : goal.returns-in-Err
returns-in-Err c = none_of (parsed c.args.text.now) (from_be_bytes w128) id_of (λ p. let bad = c.in-Err.ensures.ok.1 p in cc)
