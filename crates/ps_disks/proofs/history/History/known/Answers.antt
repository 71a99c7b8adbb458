use Rattle.std.proofs.Common.{◌<◌, ◌^◌, ℕ, length, map, Vec, Global, subst, arith}
use Rattle.ps_disks.specs.Disk.{AreBounded}
use Rattle.ps_disks.specs.History.{IsImage}
use Rattle.ps_disks.proofs.ImageLemmas.{images_size}
use Rattle.ps_disks.proofs.history.History.known.Goals as goal

vec_size : (v : Vec ℕ Global) → length v.items < 2 ^ 64
vec_size v = let ok = v.ok in let small = v.small in omega (arith, ok.0, ok.1, small)

pub returns : goal.returns
returns c =
    let inside = c.self.inside in
    subst (λ h. AreBounded (IsImage h)) c.self.view_is
    (images_size (record { start = inside.start.value.items; log = map (λ s. s.value) inside.log.items }) (vec_size inside.start.value) c.self.invariant.1)
