-- What is written of an order and of a reply can be read again.
use Rattle.std.specs.Fmt.{decimal}
use Rattle.std.specs.List.{AllByRecursion, list_all}
use Rattle.std.specs.Prelude.{All, bytes_eq}
use Rattle.std.proofs.Common.{◌+◌, ◌++◌, ◌∷◌, ◌≡◌, ◌≤◌, [], Bool, Err, IfOk, List, Ok, Result, Some, arith, codes, cond, false, length, length-append, refl, subst, true, ℕ}
use Rattle.std.proofs.lemmas.Fmt.{length-decimal-le}
use Rattle.std.proofs.lemmas.List.Elements.{recursion_from_All}
use Rattle.std.proofs.lemmas.List.Sums.{AllPass-from_list_all}
use Rattle.httparse.specs.Grammar.{AllPass, is_value_byte}
use Rattle.ps_http.specs.Answer.{IsMessage, responses}
use Rattle.ps_http.specs.Sendable.{IsReplying}
use Rattle.ps_http.specs.Written.{field_text, length_text, line_end, phrase_text, response_fields_text, status_line, type_text}
use Rattle.ps_http.specs.declared.message.Request.{Request}
use Rattle.ps_http.specs.declared.message.Response.{Response}
use Rattle.ps_time.specs.Numbers.{most_request_bytes}
use Rattle.serde_json.specs.Data.{Data}
use Rattle.serde_json.specs.Written.{compact_text}
use Rattle.ps_time.specs.Name.{is_name}
use Rattle.run_states.specs.declared.why.Denial.{Denial}
use Rattle.run_states.specs.declared.why.Denial.TheVariants as denial
use Rattle.host_model.specs.declared.config.Config.{Config}
use Rattle.host_model.specs.declared.config.Peer.{Peer}
use Rattle.host_model.specs.declared.input.Input.TheVariants.{Heard}
use Rattle.host_model.specs.declared.order.Order.{Order}
use Rattle.host_model.specs.declared.reply.Reply.{Reply}
use Rattle.host_model.specs.declared.reply.Reply.TheVariants as reply
use Rattle.api_peer.specs.Sent.{HasRoom}
use Rattle.api_reply.specs.Denials.{denial_status}
use Rattle.api_reply.specs.Replies.{answered, reply_data, reply_status, response_of}
use Rattle.world_law.specs.World.{heard_as}
use Rattle.api_answer.specs.Heard.{heard_of}
use Rattle.api_peer.specs.Ordered.{peer_named}
use Rattle.api_peer.specs.Carried.{CarriesReply, message_limits}
use Rattle.api_peer.proofs.ValueLemmas.{name_near, name_value}

pub has_room : (r : Request) (authority : List ℕ) → is_name authority ≡ true → length r.body ≤ 1_048_576 → HasRoom message_limits authority r
has_room r authority named short = record {
  value = name_value authority named;
  near = name_near authority named;
  head = omega arith;
  body = short;
  digits = omega (arith, short);
}

-- ---- statuses
record IsStatus (s : ℕ) : Type 0 where
  least : 100 ≤ s
  most : s ≤ 999
  phrase : AllPass is_value_byte (phrase_text s)
  short : length (phrase_text s) ≤ 100

known_status : (s : ℕ) → 100 ≤ s → s ≤ 999 → list_all is_value_byte (phrase_text s) ≡ true → length (phrase_text s) ≤ 100 → IsStatus s
known_status s least most visible short = record { least = least; most = most; phrase = AllPass-from_list_all is_value_byte (phrase_text s) visible; short = short }

ok_200 : IsStatus 200
ok_200 = known_status 200 (omega arith) (omega arith) refl (omega arith)

bad_400 : IsStatus 400
bad_400 = known_status 400 (omega arith) (omega arith) refl (omega arith)

forbidden_403 : IsStatus 403
forbidden_403 = known_status 403 (omega arith) (omega arith) refl (omega arith)

missing_404 : IsStatus 404
missing_404 = known_status 404 (omega arith) (omega arith) refl (omega arith)

conflict_409 : IsStatus 409
conflict_409 = known_status 409 (omega arith) (omega arith) refl (omega arith)

full_507 : IsStatus 507
full_507 = known_status 507 (omega arith) (omega arith) refl (omega arith)

denied_status : (d : Denial) → IsStatus (denial_status d)
denied_status (denial.Limits verdict) = forbidden_403
denied_status (denial.Full what count) = full_507
denied_status _ = conflict_409

status_of : (r : Reply) → IsStatus (reply_status r)
status_of (reply.UnknownHost name) = bad_400
status_of (reply.NotAdmitted verdict) = forbidden_403
status_of reply.NotPoster = forbidden_403
status_of reply.NotLead = forbidden_403
status_of reply.NotFound = missing_404
status_of reply.Unknown = missing_404
status_of (reply.Closed why) = conflict_409
status_of reply.NotRunning = conflict_409
status_of (reply.TasksFull count) = full_507
status_of (reply.Denied denial) = denied_status denial
status_of _ = ok_200

-- ---- heads
field_long : (name value : List ℕ) → length (field_text name value) ≡ length name + length value + 4
field_long name value = omega (arith, length-append name (codes ": " ++ (value ++ line_end)), length-append value line_end)

body_long : (body : List ℕ) → length body ≤ 1_048_576 → length (length_text body) ≤ 27
unfolding length_text
body_long body small =
    let digits : length (decimal (length body)) ≤ 9 = length-decimal-le 9 (length body) (omega arith) (omega (arith, small)) (omega (arith, small)) in
    omega (arith, digits, field_long (codes "Content-Length") (decimal (length body)))

line_long : (s : ℕ) → IsStatus s → length (status_line s) ≤ 120
unfolding status_line
line_long s is =
    let digits : length (decimal s) ≤ 3 = length-decimal-le 3 s (omega arith) (omega (arith, is.most)) (omega (arith, is.most)) in
    omega (arith, digits, is.short, length-append (codes "HTTP/1.1 ") (decimal s ++ (codes " " ++ (phrase_text s ++ line_end))), length-append (decimal s) (codes " " ++ (phrase_text s ++ line_end)), length-append (phrase_text s) line_end)

fields_long : (s : ℕ) (d : Data) → length (compact_text d) ≤ 1_048_576 → length (response_fields_text (answered s d)) ≤ 100
unfolding response_fields_text type_text
fields_long s d small =
    let body : List ℕ = compact_text d in
    omega (
      arith,
      body_long body small,
      field_long (codes "Content-Type") (codes "application/json"),
      length-append (field_text (codes "Content-Type") (codes "application/json")) (length_text body ++ line_end),
      length-append (length_text body) line_end,
    )

pub replying : (c : Config) (r : Reply) → length (response_of c r).body ≤ 1_048_576 → IsReplying message_limits (response_of c r)
replying c r small =
    let s : ℕ = reply_status r in
    let is = status_of r in
    record {
      least = is.least;
      most = is.most;
      phrase = is.phrase;
      allow = tt;
      head_fits = omega (arith, line_long s is, fields_long s (reply_data c r) small, length-append (status_line s) (response_fields_text (response_of c r)));
      body_fits = small;
      digits_fit = omega (arith, small);
    }

-- ---- what is carried
pub reply_carried : {E : Type 0} (o : Order) (said : Reply) (response : Response) (result : Result (List ℕ) E) → IfOk result (λ bytes. IsMessage responses message_limits bytes response) → IfOk result (λ bytes. length response.body ≤ most_request_bytes)
    → (length response.body ≤ most_request_bytes → heard_of o response ≡ Some (Heard o (heard_as said))) → IfOk result (λ bytes. CarriesReply o said bytes)
reply_carried o said response (Ok bytes) is short hears = record { response = response; is = is; heard = hears short }
reply_carried o said response (Err fault) is short hears = tt

-- what holds of each peer holds of the one that is found
named_peer : (name : List ℕ) (peers : List Peer) (p : Peer) → AllByRecursion (λ q. is_name q.authority ≡ true) peers → peer_named peers name ≡ Some p → is_name p.authority ≡ true
named_peer name [] p all is = cc
named_peer name (q ∷ qs) p all is = go (bytes_eq q.name name) is (named_peer name qs p all.1)
  where
    go : (b : Bool) → cond b (Some q) (peer_named qs name) ≡ Some p → (peer_named qs name ≡ Some p → is_name p.authority ≡ true) → is_name p.authority ≡ true
    go true e rest = let same : q ≡ p = cc in subst (λ x. is_name x.authority ≡ true) same all.0
    go false e rest = rest e

pub named_authority : (name : List ℕ) (peers : List Peer) (p : Peer) → All (λ q. is_name q.authority ≡ true) peers → peer_named peers name ≡ Some p → is_name p.authority ≡ true
named_authority name peers p all is = named_peer name peers p (recursion_from_All (λ q. is_name q.authority ≡ true) peers all) is
