-- The body of an order's request is short, unless it tells texts for whose length there is no rule.
use Rattle.std.specs.Int.Signed.{◌≤ℤ◌}
use Rattle.std.proofs.Common.{◌≡◌, ◌≤◌, None, Option, Some, arith, codes, false, length, negsuc, pos, subst, true}
use Rattle.std.specs.Prelude.{option_map}
use Rattle.serde_json.specs.Data.{member, no_members, number, string}
use Rattle.serde_json.specs.Find.{of_integer}
use Rattle.serde_json.specs.Written.{compact_text}
use Rattle.ps_http.specs.declared.message.PeerMark.{PeerMark}
use Rattle.ps_http.specs.declared.message.Request.{Request}
use Rattle.ps_time.specs.Numbers.{most_request_bytes}
use Rattle.ps_time.specs.declared.key.RunKey.{RunKey}
use Rattle.plugin_core.proofs.LengthLemmas.{member_short, test_short}
use Rattle.plugin_core.specs.Bounds.{IsTest}
use Rattle.plugin_core.specs.WriteTest.{test_data}
use Rattle.run_states.specs.declared.proposal.Question.{Question}
use Rattle.host_model.specs.declared.config.Config.{Config}
use Rattle.host_model.specs.declared.config.Peer.{Peer}
use Rattle.host_model.specs.declared.order.Order.{Order}
use Rattle.host_model.specs.declared.order.OrderBody.{OrderBody}
use Rattle.host_model.specs.declared.order.OrderBody.TheVariants.{Cancel, Confirm, Free, Material, Propose, Result}
use Rattle.api_reply.specs.Shown.{run_text, second_data}
use Rattle.api_peer.specs.Ordered.{IsOrder, mark_for, order_request_of, peer_named, question_data, request_by}
use Rattle.api_peer.specs.Texts.{HasWidth, orders_texts}
use Rattle.api_peer.proofs.PartBounds.{priority_short, run_short, second_short}

question_short : (q : Question) → IsTest q.test → negsuc 32_767 ≤ℤ q.priority → q.priority ≤ℤ pos 32_767 → length (compact_text (question_data q)) ≤ most_request_bytes
question_short q is low high =
    let test = member (codes "test") (test_data q.test) no_members in
    let priority = member (codes "priority") (number (of_integer q.priority)) test in
    let last = member (codes "last") (second_data q.window.last) priority in
    let key = member (codes "key") (string (run_text q.key)) last in
    omega (
      arith,
      member_short (codes "first") (second_data q.window.first) key false,
      member_short (codes "key") (string (run_text q.key)) last true,
      member_short (codes "last") (second_data q.window.last) priority true,
      member_short (codes "priority") (number (of_integer q.priority)) test true,
      member_short (codes "test") (test_data q.test) no_members true,
      second_short q.window.first,
      run_short q.key,
      second_short q.window.last,
      priority_short q.priority low high,
      test_short q.test is,
    )

-- with whatever mark
body_short : (mark : PeerMark) (k : RunKey) (body : OrderBody) → IsOrder body → HasWidth body → orders_texts body ≡ false → length (request_by mark k body).body ≤ most_request_bytes
body_short mark k (Free q) is width known = question_short q is width.0 width.1
body_short mark k (Propose p) is width known = cc
body_short mark k Confirm is width known = omega arith
body_short mark k Cancel is width known = omega arith
body_short mark k (Material text) is width known = cc
body_short mark k Result is width known = omega arith

-- of whatever peer is found
module _ (c : Config) (o : Order) (r : Request) (is : IsOrder o.body) (width : HasWidth o.body) (known : orders_texts o.body ≡ false) where
  found_short : (peer : Option Peer) → option_map (λ p. request_by (mark_for c p) o.key o.body) peer ≡ Some r → length r.body ≤ most_request_bytes
  found_short None sent = cc
  found_short (Some p) sent =
      let same : request_by (mark_for c p) o.key o.body ≡ r = cc in
      subst (λ (x : Request). length x.body ≤ most_request_bytes) same (body_short (mark_for c p) o.key o.body is width known)

  pub order_short : order_request_of c o ≡ Some r → length r.body ≤ most_request_bytes
  order_short sent = found_short (peer_named c.peers o.to) sent
