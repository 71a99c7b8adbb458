use Rattle.std.proofs.Common.{◌∙◌, map, subst, sym, ap}
use Rattle.std.proofs.lemmas.Result.{IfOk-weaker}
use Rattle.ps_disks.specs.History.{History, IsImage, image_bytes, left_by}
use Rattle.ps_disks.proofs.ImageLemmas.{image_is_image}
use Rattle.ps_disks.proofs.RecentLemmas.{left_image}
use Rattle.ps_disks.proofs.history.History.crashed.Goals as goal

pub returns-clause-bytes : goal.returns-clause-bytes
returns-clause-bytes c =
    let inside = c.self.inside in
    let seen : History = record { start = inside.start.value.items; log = map (λ s. s.value) inside.log.items } in
    let left = left_image c.args.image seen inside.recent.items inside.bytes.items c.self.invariant.2 c.self.invariant.0 in
    IfOk-weaker c.left_by_crash.result _ _ (λ bytes is. is ∙ ap (λ recent. left_by c.args.image recent inside.bytes.items) c.deref.ensures.value ∙ left ∙ ap (image_bytes c.args.image) c.self.view_is) c.left_by_crash.ensures

pub returns-clause-image : goal.returns-clause-image
returns-clause-image c = IfOk-weaker c.left_by_crash.result _ _ (λ bytes is. subst (IsImage c.args.self) (sym is) (image_is_image c.args.image c.args.self)) (returns-clause-bytes c)
