-- What a request asks of a host, or why it is refused: by the first of the tests of path, method, peer key, query and
-- body that it fails.
use Rattle.std.specs.List.{slice_split}
use Rattle.std.specs.Str.{bytes_eq}
use Rattle.std.specs.Prelude.{◌&&◌, ◌==◌, Bool, Err, List, None, Ok, Option, Result, Some, codes, false, if◌then◌else◌, is_some, not, true, ℕ}
use Rattle.ps_http.specs.declared.message.PeerMark.{PeerMark}
use Rattle.ps_http.specs.declared.message.Request.{Request}
use Rattle.ps_json.specs.Answer.{then_with}
use Rattle.ps_time.specs.Span.{Span}
use Rattle.task_spec.specs.ReadTask.{task_of}
use Rattle.host_model.specs.Propose.{find_peer}
use Rattle.host_model.specs.declared.config.Config.{Config}
use Rattle.host_model.specs.declared.config.Peer.{Peer as PeerHost}
use Rattle.host_model.specs.declared.input.Input.{Input}
use Rattle.host_model.specs.declared.input.Input.TheVariants as input
use Rattle.host_model.specs.declared.view.Page.TheVariants as page
use Rattle.api_body.specs.Bodies.{body_tree, material_of, proposal_of, question_of}
use Rattle.api_input.specs.Places.{target_of}
use Rattle.api_input.specs.Query.{window_of}
use Rattle.api_input.specs.Refused.{in_body}
use Rattle.api_input.specs.Routes.{allows, part}
use Rattle.api_input.specs.declared.place.PeerPlace.{PeerPlace}
use Rattle.api_input.specs.declared.place.PeerPlace.TheVariants as peer
use Rattle.api_input.specs.declared.place.Place.{Place}
use Rattle.api_input.specs.declared.place.Place.TheVariants.{Public, Peer}
use Rattle.api_input.specs.declared.place.PublicPlace.{PublicPlace}
use Rattle.api_input.specs.declared.place.PublicPlace.TheVariants as public
use Rattle.api_input.specs.declared.place.Target.{Target}
use Rattle.api_input.specs.declared.refusal.Refusal.{Refusal}
use Rattle.api_input.specs.declared.refusal.Refusal.TheVariants.{NotFound, Method, NoPeerKey, Query}

-- ---- from where it comes
-- the most bytes of the address of the other side of a connection
abbrev pub most_address_bytes : ℕ
most_address_bytes = 255

-- ---- who sends it
-- the peer shows the key that this host has for it
abbrev pub with_key : List ℕ → Option PeerHost → Option PeerHost
with_key key None = None
with_key key (Some p) = if bytes_eq p.key key then Some p else None

-- the peer of a mark
abbrev pub sender_of : List PeerHost → Option PeerMark → Option PeerHost
sender_of peers None = None
sender_of peers (Some mark) = with_key mark.key (find_peer peers mark.number)

-- ---- requests of everybody
abbrev pub schedule_input : Option Span → Result Input Refusal
schedule_input None = Err Query
schedule_input (Some window) = Ok (input.View (page.Schedule window.start window.end))

abbrev pub posted_input : List ℕ → List ℕ → List ℕ → ℕ → Result Input Refusal
posted_input lead body address m =
    then_with (in_body (body_tree body)) (λ d. then_with (in_body (task_of m lead d)) (λ task. Ok (input.Post task address)))

abbrev pub task_input : ℕ → List ℕ → List ℕ → Result Input Refusal
task_input serial method address =
    if bytes_eq method (codes "DELETE") then Ok (input.Cancel serial address) else Ok (input.View (page.Task serial))

-- at each place, by method
abbrev pub open_input : Config → PublicPlace → Request → List ℕ → ℕ → Result Input Refusal
open_input c public.Home r address m = Ok (input.View page.Home)
open_input c public.Clock r address m = Ok (input.View page.Clock)
open_input c public.Tests r address m = Ok (input.View page.Tests)
open_input c public.Tools r address m = Ok (input.View page.Tools)
open_input c public.Archivers r address m = Ok (input.View page.Archivers)
open_input c public.Test r address m = Ok (input.View (page.Test (part (slice_split (λ b. b == 47) r.path) 3)))
open_input c public.Tasks r address m =
    if bytes_eq r.method (codes "POST") then posted_input c.name r.body address m else Ok (input.View page.Tasks)
open_input c (public.Task serial) r address m = task_input serial r.method address
open_input c (public.Runs serial) r address m = Ok (input.View (page.Runs serial))
open_input c (public.Run k) r address m = Ok (input.View (page.Run k))
open_input c public.Schedule r address m = schedule_input (window_of m r.query)

-- only a schedule has a query
abbrev pub is_schedule : PublicPlace → Bool
is_schedule public.Schedule = true
is_schedule _ = false

abbrev pub public_input : Config → PublicPlace → Request → List ℕ → ℕ → Result Input Refusal
public_input c place r address m = if is_some r.query && not (is_schedule place) then Err Query else open_input c place r address m

-- ---- requests of peers
-- the most bytes of the texts of a proposal: no body has more, and the name of a peer has at most 63
abbrev pub most_texts : ℕ
most_texts = 1_114_112

abbrev pub asked_by : PeerPlace → List ℕ → PeerHost → Result Input Refusal
asked_by peer.Free body p =
    then_with (in_body (body_tree body)) (λ d. then_with (in_body (question_of d)) (λ question. Ok (input.Free p.number question)))
asked_by peer.Propose body p =
    then_with (in_body (body_tree body)) (λ d. then_with (in_body (proposal_of most_texts p.name d)) (λ proposal. Ok (input.Propose p.number proposal)))
asked_by (peer.Drop k) body p = Ok (input.Drop p.number k)
asked_by (peer.Confirm k) body p = Ok (input.Confirm p.number k)
asked_by (peer.Material k) body p =
    then_with (in_body (body_tree body)) (λ d. then_with (in_body (material_of d)) (λ text. Ok (input.Material p.number k text)))
asked_by (peer.Result k) body p = Ok (input.Collect p.number k)

abbrev pub from_peer : PeerPlace → Request → Option PeerHost → Result Input Refusal
from_peer place r None = Err NoPeerKey
from_peer place r (Some p) = if is_some r.query then Err Query else asked_by place r.body p

-- ---- every request
abbrev pub input_at : Config → Place → Request → List ℕ → ℕ → Result Input Refusal
input_at c (Public place) r address m = public_input c place r address m
input_at c (Peer place) r address m = from_peer place r (sender_of c.peers r.peer)

abbrev pub by_target : Config → Option Target → Request → List ℕ → ℕ → Result Input Refusal
by_target c None r address m = Err NotFound
by_target c (Some target) r address m =
    if allows target.methods r.method then input_at c target.place r address m else Err (Method target.methods)

-- what a request from an address asks at m
abbrev pub understood : Config → Request → List ℕ → ℕ → Result Input Refusal
understood c r address m = by_target c (target_of c.number r.path) r address m
