use Rattle.std.proofs.Common.{◌≡◌, List, [], ◌∷◌, ◌++◌, map, Option, Some, refl, sym, ap, ◌∙◌, subst}
use mathlib.Core.Option.{some}
use Rattle.host_gate.specs.Stages.{first_view}
use Rattle.host_gate.specs.Line.{GateRule}
use Rattle.host_gate.specs.Plays.{mark}
use Rattle.host_gate.proofs.Moves.{starts}
use Rattle.host_gate.proofs.gate.Gate.starting_at.Goals as goal

pub new-requires : goal.new-requires
new-requires g c =
    let t = c.args.ticket in
    let items : c.push.new.self.items ≡ Some c.args.kept ∷ [] = c.in_default.ensures.items ∙ ap (λ l. l ++ Some c.args.kept ∷ []) c.new-slots.ensures.items in
    let about : c.of-about.result.value ≡ c.args.kept = c.of-about.ensures in
    subst (λ (p : List (Option g.row.K.Denot) × g.row.K.Denot). GateRule g.K.Kept.grown (t ∷ t ∷ 0 ∷ []) (map (λ (x : Option g.row.K.Denot). some x) p.0) (first_view p.1 ∷ [])) (λ i. (sym items i, sym about i))
    (starts g.K.Kept.grown g.met.K.Kept.grown_refl g.met.K.Kept.grown_trans t c.args.kept c.requires)

pub invariant_of-result-in-Ok : goal.invariant_of-result-in-Ok
invariant_of-result-in-Ok g c =
    let me = c.in-Ok.ensures.ok.4 in record {
      outside = ap (λ s. s.0.stage) me;
      alone = ap (λ s. s.0.met) me;
      empty = ap (λ s. s.1) me;
      seen = (mark c.of-about.result.value 0, ap (λ s. s.0.seen) me, refl);
    }
