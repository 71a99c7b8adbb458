use Rattle.std.specs.Prelude.{codes}
use Rattle.std.proofs.Common.{◌≡◌, ◌∙◌, IfOk, List, subst, ℕ}
use Rattle.rehearsal_model.specs.Requests.{post as reading}
use Rattle.rehearsal_model.specs.Simulations.{config_of}
use Rattle.rehearsal_generate.proofs.moves.read_post.Goals as goal

pub returns-clause-value : goal.returns-clause-value
returns-clause-value c =
    subst (λ (bs : List ℕ). IfOk c.read_text.result (λ asked. asked ≡ reading (config_of c.args.now.now c.args.post.now.place) (codes "127.0.0.1") bs c.args.clock)) (c.as_str.ensures.value ∙ c.in_ok-body.ensures) c.read_text.ensures.value
