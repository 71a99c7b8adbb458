use Rattle.std.proofs.Common.{◌≡◌, ◌∙◌, ◌∷◌, List, [], ap, arith, length, refl, sym}
use Rattle.std.specs.Vec.Iter.{into_iter_items}
use Rattle.world_law.specs.World.{Message as Sent}
use Rattle.rehearsal_state.specs.Moved.{with_messages}
use Rattle.rehearsal_state.proofs.MoveLemmas.{messages_more, messages_none}
use Rattle.rehearsal_state.proofs.rehearsal.Rehearsal.send_all.Goals as goal

-- one more is sent
pub loop-message-preserved : goal.loop-message-preserved
loop-message-preserved c =
    let rest : List Sent = into_iter_items c.next.new.self in
    record {
      can_next = tt;
      is_finite = tt;
      sent =
          c.loop-message.invariant.sent
          ∙ (ap (with_messages c.loop-message.self) c.in-Some.ensures.steps.0
          ∙ (messages_more c.loop-message.self c.in-Some.message rest
          ∙ ap (λ b. with_messages b rest) (sym c.in_ok-send.ensures)));
    }

none_left : (ls : List Sent) → length ls ≡ 0 → ls ≡ []
none_left [] is = refl
none_left (l ∷ ls) is = absurd (omega (arith, is))

-- none is left
pub returns : goal.returns
returns c =
    let left : into_iter_items c.loop-message.message-iterator ≡ [] =
    none_left (into_iter_items c.loop-message.message-iterator) (sym c.loop-message.message-iterator.rest.ok.0 ∙ c.in-None.ensures.steps.0) in
    sym (c.loop-message.invariant.sent ∙ (ap (with_messages c.loop-message.self) left ∙ messages_none c.loop-message.self))
