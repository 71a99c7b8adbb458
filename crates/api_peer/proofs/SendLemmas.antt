-- The request of an order can be sent, and its bytes are read again as it.
use Rattle.std.specs.Prelude.{IsUtf8, bytes_eq, slice_get, unwrap_or}
use Rattle.std.specs.Fmt.{decimal}
use Rattle.std.specs.List.{AllByRecursion, list_all}
use Rattle.std.proofs.Common.{◌+◌, ◌++◌, ◌∷◌, ◌≡◌, ◌≤◌, ◌<◌, ◌⊎◌, Bool, List, None, Option, Some, [], arith, codes, cond, false, inl, inr, length, length-append, nat_le, option_map, refl, subst, true, ℕ}
use Rattle.std.proofs.lemmas.Bool.Decides.{nat_tests}
use Rattle.std.proofs.lemmas.Fmt.{length-decimal-le}
use Rattle.std.proofs.lemmas.List.Elements.{All-append, All-weaker, recursion_from_All}
use Rattle.std.proofs.lemmas.List.Sums.{AllPass-from_list_all}
use Rattle.std.proofs.lemmas.Str.{IsUtf8-from_ascii}
use Rattle.std.proofs.lemmas.Str.Ascii.{IsAscii-from_all}
use Rattle.std.specs.List.{All}
use Rattle.httparse.specs.Grammar.{AllPass, is_token_byte}
use Rattle.ps_http.specs.Fields.{is_key}
use Rattle.ps_http.specs.Message.{wants_length}
use Rattle.ps_http.specs.Sendable.{IsMark, IsSendable, IsValue, is_path_byte}
use Rattle.ps_http.specs.Written.{field_text, length_text, line_end, mark_text, peer_text, request_fields_text, request_length_text, request_line}
use Rattle.ps_http.specs.declared.message.HttpLimits.{HttpLimits}
use Rattle.ps_http.specs.declared.message.PeerMark.{PeerMark}
use Rattle.ps_http.specs.declared.message.Request.{Request}
use Rattle.ps_time.specs.declared.key.RunKey.{RunKey}
use Rattle.ps_time.proofs.PictureLemmas.{and_true}
use Rattle.host_model.specs.declared.config.Config.{Config}
use Rattle.host_model.specs.declared.config.Peer.{Peer}
use Rattle.host_model.specs.declared.order.Order.{Order}
use Rattle.host_model.specs.declared.order.OrderBody.{OrderBody}
use Rattle.host_model.specs.declared.order.OrderBody.TheVariants.{Free, Propose, Confirm, Cancel, Material, Result}
use Rattle.api_input.specs.Places.{is_ascii_byte}
use Rattle.api_reply.specs.Shown.{run_text}
use Rattle.api_peer.proofs.PathLemmas.{IsPart, front, run_part}
use Rattle.api_peer.specs.Ordered.{asked, mark_for, order_request_of, peer_named, request_by, run_path}
use Rattle.api_peer.specs.Sent.{HasKeys, HasRoom}

-- ---- paths
record IsPath (path : List ℕ) : Type 0 where
  slash : unwrap_or (slice_get path 0) 0 ≡ 47
  bytes : AllPass is_path_byte path
  text : IsUtf8 path
  short : length path ≤ 100

ascii_text : (xs : List ℕ) → All (λ b. is_ascii_byte b ≡ true) xs → IsUtf8 xs
ascii_text xs all = IsUtf8-from_ascii xs (IsAscii-from_all xs (All-weaker (λ b. is_ascii_byte b ≡ true) (λ b. b < 128) (λ b e. grind (arith, nat_tests, e)) xs all))

known_path : (path : List ℕ) → unwrap_or (slice_get path 0) 0 ≡ 47 → list_all is_path_byte path ≡ true → list_all is_ascii_byte path ≡ true → length path ≤ 100 → IsPath path
known_path path slash visible ascii short = record {
  slash = slash;
  bytes = AllPass-from_list_all is_path_byte path visible;
  text = ascii_text path (AllPass-from_list_all is_ascii_byte path ascii);
  short = short;
}

-- of all bytes of a path below a run
below : (p : ℕ → Bool) (t end : List ℕ) → list_all p front ≡ true → All (λ b. p b ≡ true) t → list_all p end ≡ true → All (λ b. p b ≡ true) (front ++ (t ++ end))
below p t end before here behind =
    All-append (λ b. p b ≡ true) front (t ++ end) (AllPass-from_list_all p front before) (All-append (λ b. p b ≡ true) t end here (AllPass-from_list_all p end behind))

part_path : (t end : List ℕ) → IsPart t → list_all is_path_byte end ≡ true → list_all is_ascii_byte end ≡ true → length end ≤ 9 → IsPath (front ++ (t ++ end))
part_path t end part visible ascii short = record {
  slash = refl;
  bytes = below is_path_byte t end refl part.visible visible;
  text = ascii_text (front ++ (t ++ end)) (below is_ascii_byte t end refl part.ascii ascii);
  short = omega (arith, length-append t end, part.short, short);
}

run_sent : (k : RunKey) (end : List ℕ) → list_all is_path_byte end ≡ true → list_all is_ascii_byte end ≡ true → length end ≤ 9 → IsPath (run_path k end)
run_sent k end visible ascii short = part_path (run_text k) end (run_part k) visible ascii short

-- ---- heads
field_long : (name value : List ℕ) → length (field_text name value) ≡ length name + length value + 4
field_long name value = omega (arith, length-append name (codes ": " ++ (value ++ line_end)), length-append value line_end)

line_long : (mark : PeerMark) (method path body : List ℕ) → length (request_line (asked mark method path body)) ≡ length method + length path + 12
line_long mark method path body =
    omega (arith, length-append method (codes " " ++ (path ++ (codes " HTTP/1.1" ++ line_end))), length-append path (codes " HTTP/1.1" ++ line_end))

mark_long : (mark : PeerMark) → IsMark mark → length (mark_text mark) ≤ 70
mark_long mark is =
    let digits : length (decimal mark.number) ≤ 5 = length-decimal-le 5 mark.number (omega arith) (omega (arith, is.0)) (omega (arith, is.0)) in
    let few = (and_true (nat_le (length mark.key) 64) _ (and_true (nat_le 1 (length mark.key)) _ is.1).1).0 in
    let low : length mark.key ≤ 64 = grind (arith, nat_tests, few) in
    omega (arith, digits, low, length-append (decimal mark.number) (codes " " ++ mark.key))

body_long : (body : List ℕ) → length body < 1000000000 → length (length_text body) ≤ 27
unfolding length_text
body_long body small =
    let digits : length (decimal (length body)) ≤ 9 = length-decimal-le 9 (length body) (omega arith) (omega (arith, small)) (omega (arith, small)) in
    omega (arith, digits, field_long (codes "Content-Length") (decimal (length body)))

counted_long : (t : Bool) (body : List ℕ) → length body < 1000000000 → length (cond t (length_text body) []) ≤ 27
counted_long true body small = body_long body small
counted_long false body small = omega arith

-- ---- one request
module _ (limits : HttpLimits) (mark : PeerMark) (is : IsMark mark) (authority : List ℕ) (value : IsValue authority) (near : length authority ≤ 255) (head : 1_024 ≤ limits.head) where
  head_long : (method path body : List ℕ) → length method ≤ 6 → length path ≤ 100 → length body < 1000000000
      → length (request_line (asked mark method path body) ++ request_fields_text (asked mark method path body) authority) ≤ limits.head
  head_long method path body few short small =
      let rest : List ℕ = request_length_text (asked mark method path body) ++ (field_text (codes "Connection") (codes "close") ++ line_end) in
      omega (
        arith,
        head,
        few,
        short,
        near,
        line_long mark method path body,
        field_long (codes "Host") authority,
        field_long (codes "ps-peer") (mark_text mark),
        mark_long mark is,
        counted_long (wants_length method) body small,
        field_long (codes "Connection") (codes "close"),
        length-append (request_line (asked mark method path body)) (request_fields_text (asked mark method path body) authority),
        length-append (field_text (codes "Host") authority) (peer_text (Some mark) ++ rest),
        length-append (peer_text (Some mark)) rest,
        length-append (request_length_text (asked mark method path body)) (field_text (codes "Connection") (codes "close") ++ line_end),
        length-append (field_text (codes "Connection") (codes "close")) line_end,
      )

  asked_sent : (method path body : List ℕ) → list_all is_token_byte method ≡ true → 0 < length method → length method ≤ 6 → IsPath path → (wants_length method ≡ true) ⊎ (body ≡ [])
      → length body ≤ limits.body → length body < 1000000000 → IsSendable limits (asked mark method path body) authority
  asked_sent method path body token some few at counted room small = record {
    method = (some, AllPass-from_list_all is_token_byte method token);
    slash = at.slash;
    path = at.bytes;
    path_text = at.text;
    query = tt;
    peer = is;
    close = refl;
    no_body = counted;
    host = value;
    head_fits = head_long method path body few at.short small;
    body_fits = room;
    digits_fit = small;
  }

  -- ---- each order
  body_sent : (k : RunKey) (body : OrderBody) → length (request_by mark k body).body ≤ limits.body → length (request_by mark k body).body < 1000000000 → IsSendable limits (request_by mark k body) authority
  unfolding is_token_byte
  body_sent k (Free q) room small = asked_sent (codes "POST") (codes "/pscheduler/peer/free") (request_by mark k (Free q)).body refl (omega arith) (omega arith) (known_path (codes "/pscheduler/peer/free") refl refl refl (omega arith)) (inl refl) room small
  body_sent k (Propose p) room small = asked_sent (codes "POST") (codes "/pscheduler/peer/runs") (request_by mark k (Propose p)).body refl (omega arith) (omega arith) (known_path (codes "/pscheduler/peer/runs") refl refl refl (omega arith)) (inl refl) room small
  body_sent k Confirm room small = asked_sent (codes "PUT") (run_path k (codes "/confirm")) [] refl (omega arith) (omega arith) (run_sent k (codes "/confirm") refl refl (omega arith)) (inl refl) room small
  body_sent k Cancel room small = asked_sent (codes "DELETE") (run_path k []) [] refl (omega arith) (omega arith) (run_sent k [] refl refl (omega arith)) (inr refl) room small
  body_sent k (Material text) room small = asked_sent (codes "PUT") (run_path k (codes "/material")) (request_by mark k (Material text)).body refl (omega arith) (omega arith) (run_sent k (codes "/material") refl refl (omega arith)) (inl refl) room small
  body_sent k Result room small = asked_sent (codes "GET") (run_path k (codes "/result")) [] refl (omega arith) (omega arith) (run_sent k (codes "/result") refl refl (omega arith)) (inr refl) room small

-- ---- the peer
found_key : (name : List ℕ) (peers : List Peer) (p : Peer) → AllByRecursion (λ q. is_key q.key ≡ true) peers → peer_named peers name ≡ Some p → is_key p.key ≡ true
found_key name [] p all is = cc
found_key name (q ∷ qs) p all is = go (bytes_eq q.name name) is (found_key name qs p all.1)
  where
    go : (b : Bool) → cond b (Some q) (peer_named qs name) ≡ Some p → (peer_named qs name ≡ Some p → is_key p.key ≡ true) → is_key p.key ≡ true
    go true e rest = let same : q ≡ p = cc in subst (λ x. is_key x.key ≡ true) same all.0
    go false e rest = rest e

pub order_sent : (limits : HttpLimits) (c : Config) (order : Order) (r : Request) (authority : List ℕ) → HasKeys c → order_request_of c order ≡ Some r → HasRoom limits authority r → IsSendable limits r authority
order_sent limits c order r authority keys made room = go (peer_named c.peers order.to) refl made
  where
    go : (o : Option Peer) → peer_named c.peers order.to ≡ o → option_map (λ p. request_by (mark_for c p) order.key order.body) o ≡ Some r → IsSendable limits r authority
    go None at e = cc
    go (Some p) at e =
        let same : request_by (mark_for c p) order.key order.body ≡ r = cc in
        let key = found_key order.to c.peers p (recursion_from_All (λ q. is_key q.key ≡ true) c.peers keys.keys) at in
        subst (λ x. HasRoom limits authority x → IsSendable limits x authority) same
        (λ room. body_sent limits (mark_for c p) (keys.number, key) authority room.value room.near room.head order.key order.body room.body room.digits) room
