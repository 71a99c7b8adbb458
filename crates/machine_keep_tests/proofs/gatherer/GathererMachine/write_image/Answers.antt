use Rattle.std.proofs.Common.{◌++◌, ◌∷◌, ◌∙◌, [], ap, drop, subst, sym}
use Rattle.std.proofs.lemmas.List.{drop-append-le}
use Rattle.machine_keep_tests.specs.Gathered.{Holds}
use Rattle.machine_keep_tests.specs.JoinLemmas.{alone, apart}
use Rattle.machine_keep_tests.proofs.gatherer.GathererMachine.write_image.Goals as goal

-- what comes behind the front is behind the image
pub returns : goal.returns
returns c =
    let front = c.into_buffer-buffer.result.items in
    let bytes = c.args.self.now.bytes.items in
    let items = c.in_ok-extend_from_slice.ensures.items ∙ (ap (λ b. b ++ c.as_slice.result.now) c.in_ok-push.ensures.items ∙ (ap (λ b. (front ++ 2 ∷ []) ++ b) c.as_slice.ensures.value ∙ sym (apart front (2 ∷ []) bytes))) in
    let empty = c.into_buffer-buffer.ensures.bytes ∙ c.requires in
    let is = c.of_buffer.ensures.bytes ∙ (ap (drop 12) items ∙ (drop-append-le 12 front (2 ∷ bytes) c.into_buffer-buffer.ensures.front ∙ ap (λ b. b ++ 2 ∷ bytes) empty)) in
    subst (λ b. Holds 2 (b ∷ []) bytes) (sym is) (alone (record { bytes = bytes; most = c.args.self.now.most }))
