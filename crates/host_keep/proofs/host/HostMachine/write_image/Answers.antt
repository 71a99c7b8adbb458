use Rattle.std.specs.Prelude.{IfOk}
use Rattle.std.proofs.Common.{◌∷◌, [], subst}
use Rattle.host_model.specs.Lawful.{Lawful}
use Rattle.host_keep.specs.Standing.{Seen, StandsNow}
use Rattle.host_keep.proofs.HostLemmas.{image_stands}
use Rattle.host_keep.proofs.host.HostMachine.write_image.Goals as goal

pub returns : goal.returns
returns c =
    let b = c.self.inside.book.book in
    let lawful = subst (λ n. IfOk c.write_snapshot.result (λ made. Lawful n b)) c.self.invariant c.write_snapshot.ensures.lawful in
    subst (λ (x : Seen). IfOk c.write_snapshot.result (λ made. StandsNow (made.bytes ∷ []) x.standing)) c.self.view_is
    (image_stands c.write_snapshot.result c.self.inside.config.number b c.write_snapshot.ensures.code c.write_snapshot.ensures.fits lawful)
