use Rattle.std.proofs.Common.{◌≤◌, ◌∙◌, List, length, refl, subst, sym, ℕ}
use Rattle.ps_http.specs.Answer.{IsMessage, responses}
use Rattle.ps_http.specs.Sendable.{IsReplying}
use Rattle.ps_http.specs.declared.message.Response.{Response}
use Rattle.api_peer.specs.Carried.{message_limits}
use Rattle.api_peer.proofs.WriteLemmas.{replying}
use Rattle.api_peer.proofs.reply.write_response.Goals as goal

-- what is written is read again as the response
pub returns-clause-whole : goal.returns-clause-whole
returns-clause-whole c =
    let response = c.args.response.now in
    let short : length response.body ≤ 1_048_576 = c.if-not-is_short.ensures.short refl in
    let is : IsReplying message_limits response =
    subst (IsReplying message_limits) (sym c.requires.response) (replying c.args.config.now c.args.reply.now (subst (λ (r : Response). length r.body ≤ 1_048_576) c.requires.response short)) in
    subst (λ (bytes : List ℕ). IsMessage responses message_limits bytes response) (sym (c.from_vec.ensures ∙ c.in_ok-response_bytes.ensures)) (c.law_responses_read_again.ensures message_limits response is)
