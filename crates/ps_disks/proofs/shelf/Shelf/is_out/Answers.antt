use Rattle.std.proofs.Common.{bytes_eq, [], is_some, ap, ◌∙◌}
use Rattle.ps_disks.specs.Rack.{first_by}
use Rattle.ps_disks.proofs.RackLemmas.{some_place}
use Rattle.ps_disks.proofs.shelf.Shelf.is_out.Goals as goal

pub returns : goal.returns
returns c =
    let place = c.place_of_folder in
    let folder = c.args.folder.now in
    c.is_some.ensures ∙ some_place (bytes_eq folder) c.deref.result.now place.result place.ensures.some place.ensures.none []
    ∙ ap (λ l. is_some (first_by (bytes_eq folder) l)) (c.deref.ensures.value ∙ ap (λ s. s.out) c.self.view_is)
