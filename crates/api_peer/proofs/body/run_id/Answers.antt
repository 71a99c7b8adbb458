use Rattle.std.proofs.Common.{IfOk, List, Result, Ok, Err, Some, ◌≡◌, ℕ}
use Rattle.ps_time.specs.Id.{id_of_text}
use Rattle.ps_time.specs.declared.id.Id.TheVariants.{Run}
use Rattle.api_reply.specs.Shown.{run_text}
use Rattle.api_peer.proofs.body.run_id.Goals as goal

-- a text that is read as a key is the identifier of that key
of_text : {E : Type 0} (P : List ℕ → Type 0) (x : List ℕ) (r : Result (List ℕ) E) → IfOk r (λ t. t ≡ x) → IfOk r P → IfOk r (λ t. P x)
of_text P x (Ok t) same p = rw same at p
of_text P x (Err e) same p = tt

pub returns-clause-text : goal.returns-clause-text
unfolding run_text
returns-clause-text c = c.id_text.ensures.text

pub returns-clause-reads : goal.returns-clause-reads
unfolding run_text
returns-clause-reads c = of_text (λ t. id_of_text t ≡ Some (Run c.args.key)) (run_text c.args.key) c.id_text.result c.id_text.ensures.text c.id_text.ensures.read_back
