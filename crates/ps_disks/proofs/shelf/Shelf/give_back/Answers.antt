use Rattle.std.proofs.Common.{◌≡◌, ◌∷◌, bytes_eq, sym, ap, subst, ◌∙◌}
use Rattle.std.proofs.lemmas.Slice.Eq.{bytes_eq-Decides}
use Rattle.ps_disks.specs.Rack.{without_first, IsFirst, after_give}
use Rattle.ps_disks.proofs.shelf.Shelf.give_back.Goals as goal

pub returns-in-Some : goal.returns-in-Some
returns-in-Some c =
    let folder = c.args.folder.now in
    let inside = c.self.inside in
    let first : IsFirst (bytes_eq folder) inside.out.items c.in-Some.at = subst (λ out. IsFirst (bytes_eq folder) out c.in-Some.at) c.deref.ensures.value c.in-Some.ensures.some in
    let name : c.remove-name.result ≡ folder =
    sym ((bytes_eq-Decides folder c.remove-name.result).0 (ap (bytes_eq folder) c.remove-name.ensures.value ∙ first.holds c.remove-name.result)) in
    let pairs : c.put_first.new.pairs.items ≡ (folder, c.args.first, c.args.second) ∷ inside.pairs.items = c.put_first.ensures.items ∙ (λ i. (name i, c.args.first, c.args.second) ∷ inside.pairs.items) in
    let out : c.remove-name.new.self.items ≡ without_first (bytes_eq folder) inside.out.items = c.remove-name.ensures.items ∙ sym first.rest in
    let made : record { pairs = c.put_first.new.pairs.items; out = c.remove-name.new.self.items } ≡ after_give folder c.args.first c.args.second (record { pairs = inside.pairs.items; out = inside.out.items }) =
    λ i. record { pairs = pairs i; out = out i } in
    made ∙ ap (after_give folder c.args.first c.args.second) c.self.view_is
