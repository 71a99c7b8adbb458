use Rattle.std.proofs.Common.{◌≡◌, ◌≤◌, ◌+◌, Bool, true, false, refl, sym, ◌∙◌, arith}
use mir.Val.{bool_byte}
use Rattle.host_gate.specs.Marks.{added}
use Rattle.host_gate.proofs.Moves.{adds}
use Rattle.host_gate.proofs.turn.count.Goals as goal

byte_is : (b : Bool) → bool_byte b ≡ added b
byte_is true = refl
byte_is false = refl

small : (b : Bool) → bool_byte b ≤ 1
small true = omega arith
small false = omega arith

none_is_false : (b : Bool) → bool_byte b ≡ 0 → b ≡ false
none_is_false true e = absurd (omega arith)
none_is_false false e = refl

pub fetch_add-requires : goal.fetch_add-requires
fetch_add-requires g c =
    let r = c.requires in
    let l = r.left in
    let step : c.from-step.result ≡ bool_byte c.args.changed = c.from-step.ensures in (
      r.table.0,
      omega (arith, r.table.1),
      adds g.K.Kept.grown g.met.K.Kept.grown_refl g.met.K.Kept.grown_trans _ _ _ l.0 l.1 l.2 c.from-step.result l.3 l.4 l.5
          (λ none. l.6 (none_is_false c.args.changed (sym step ∙ none))) (omega (arith, step, small c.args.changed)),
    )

pub overflow_add-result : goal.overflow_add-result
overflow_add-result g c =
    let l = c.requires.left in
    let told = c.fetch_add.ensures.2 l.0 l.1 l.2 l.3 l.4 in
    let step : c.from-step.result ≡ bool_byte c.args.changed = c.from-step.ensures in
    omega (arith, told.1, step, small c.args.changed)

pub returns-clause-counted : goal.returns-clause-counted
returns-clause-counted g c = λ t m y holds carried.
    let told = c.fetch_add.ensures.2 t m y holds carried in
    let step : c.from-step.result ≡ added c.args.changed = c.from-step.ensures ∙ byte_is c.args.changed in
    ((λ i. told.0 i + step i), told.2)
