use Rattle.std.proofs.Common.{◌≡◌, ◌+◌, ◌-◌, ◌<◌, length, get_or, set, sym, ap, ◌∙◌, arith}
use Rattle.run_states.specs.Effect.{with_answer}
use Rattle.run_states.proofs.EffectLemmas.{other_beyond, other_lead, other_there}
use Rattle.run_states.proofs.row.RunRow.hear.Goals.{else-at-gt0-via-then-at-gt0+else-at-len, else-at-gt0-via-else-at-gt0}
use Rattle.run_states.proofs.row.RunRow.hear.Goals as goal

pub returns-then-at-len : goal.returns-then-at-len
returns-then-at-len c =
    let f = with_answer c.args.answer in
    let others = c.args.self.now.others in
    let i = c.from-at.result - 1 in
    let d = c.index_mut-other.result.now in
    let place : c.args.place ≡ i + 1 = omega (arith, c.from-at.ensures, c.if-at-gt0.true) in
    let within : i < length others = omega (arith, c.from-at.ensures, c.if-at-gt0.true, c.len.ensures, c.if-at-len.true) in
    let made : c.hear.new.self ≡ f (get_or others i d) = c.hear.ensures ∙ ap f c.index_mut-other.ensures.value in
    ap (λ x. record c.args.self.now { others = set others i x }) made ∙ sym (other_there f c.args.place i c.args.self.now d place within)

-- the lead's place, or none
pub returns-else-at-gt0 : goal.returns-else-at-gt0
returns-else-at-gt0 c = elim c.else-at-gt0.branch [
  | else-at-gt0-via-then-at-gt0+else-at-len w ↦ sym (other_beyond (with_answer c.args.answer) c.args.place c.args.self.now (omega (arith, c.from-at.ensures, w.len.ensures, w.if-at-len.false)))
  | else-at-gt0-via-else-at-gt0 w ↦ sym (other_lead (with_answer c.args.answer) c.args.place c.args.self.now (omega (arith, c.from-at.ensures, w.if-at-gt0.false)))
]
