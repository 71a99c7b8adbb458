use Rattle.std.proofs.Common.{◌≡◌, [], ◌∷◌, Some, refl, sym, ap, ◌∙◌}
use Rattle.atomic_table.specs.Table.{rest}
use Rattle.host_gate.proofs.turn.take.Goals as goal

pub count-front-requires-clause-left : goal.count-front-requires-clause-left
count-front-requires-clause-left g c = let h = c.requires.holds in
    (h.0, h.1, h.1.state, h.2, h.3, g.met.K.Kept.grown_refl h.1.state, λ _. refl)

pub exchange-requires : goal.exchange-requires
exchange-requires g c =
    let h = c.requires.holds in
    let counted = c.count-front.ensures.counted h.0 h.1 h.1.state h.2 h.3 in
    let carried : c.count-front.new.seat.me.1 ≡ (0, Some h.1.state) ∷ [] = ap (λ m. m.1) counted.1 ∙ h.3 in
    (c.count-front.ensures.table ∙ c.requires.table.0, (Some h.1.state, carried ∙ ap (λ l. (0, Some h.1.state) ∷ rest l) (sym carried)))
