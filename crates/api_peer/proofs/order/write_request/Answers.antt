use Rattle.std.proofs.Common.{◌≤◌, ◌∙◌, List, length, refl, subst, sym, ℕ}
use Rattle.ps_http.specs.Answer.{IsMessage, requests}
use Rattle.api_peer.specs.Carried.{message_limits}
use Rattle.api_peer.proofs.WriteLemmas.{has_room}
use Rattle.api_peer.proofs.order.write_request.Goals as goal

-- what is written is read again as the request
pub returns : goal.returns
returns c =
    let request = c.args.request.now in
    let authority = c.args.authority.now in
    let short : length request.body ≤ 1_048_576 = c.if-not-is_short.ensures.short refl in
    let sent = c.law_request.ensures message_limits c.args.config.now c.args.order.now request authority c.requires.keys c.requires.request (has_room request authority c.requires.authority short) in
    subst (λ (bytes : List ℕ). IsMessage requests message_limits bytes request) (sym (c.from_vec.ensures ∙ c.in_ok-request_bytes.ensures)) (c.law_requests_read_again.ensures message_limits request authority sent)
