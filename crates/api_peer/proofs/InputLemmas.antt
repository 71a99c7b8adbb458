-- What a request asks for keeps a book orderly.
use Rattle.std.specs.Str.{bytes_eq}
use Rattle.std.proofs.Common.{◌&&◌, ◌≡◌, ◌≤◌, Bool, Err, List, None, Ok, Option, Result, Some, codes, cond, false, is_some, length, not, subst, true, ℕ}
use Rattle.ps_http.specs.declared.message.Request.{Request}
use Rattle.ps_json.specs.Answer.{then_with}
use Rattle.ps_time.specs.Span.{Span}
use Rattle.task_spec.specs.ReadTask.{task_of}
use Rattle.host_model.specs.declared.config.Config.{Config}
use Rattle.host_model.specs.declared.config.Peer.{Peer as PeerHost}
use Rattle.host_model.specs.declared.input.Input.{Input}
use Rattle.host_model.specs.declared.input.Input.TheVariants as input
use Rattle.host_model.specs.declared.view.Page.TheVariants as page
use Rattle.api_body.specs.Bodies.{body_tree, material_of, proposal_of, question_of}
use Rattle.api_input.specs.Places.{target_of}
use Rattle.api_input.specs.Query.{window_of}
use Rattle.api_input.specs.Refused.{in_body}
use Rattle.api_input.specs.Routes.{allows}
use Rattle.api_input.specs.Understood.{asked_by, by_target, from_peer, input_at, is_schedule, most_address_bytes, most_texts, open_input, posted_input, schedule_input, sender_of, understood}
use Rattle.api_input.specs.declared.place.PeerPlace.{PeerPlace}
use Rattle.api_input.specs.declared.place.PeerPlace.TheVariants as peer
use Rattle.api_input.specs.declared.place.Place.{Place}
use Rattle.api_input.specs.declared.place.Place.TheVariants.{Public, Peer}
use Rattle.api_input.specs.declared.place.PublicPlace.{PublicPlace}
use Rattle.api_input.specs.declared.place.PublicPlace.TheVariants as public
use Rattle.api_input.specs.declared.place.Target.{Target}
use Rattle.api_input.specs.declared.refusal.Refusal.{Refusal}
use Rattle.api_input.specs.declared.refusal.Refusal.TheVariants.{Method, Query}
use Rattle.api_peer.specs.Orderly.{IsSized}

-- what is asked for, if anything is, keeps it
abbrev Keeps : Result Input Refusal → Type 0
Keeps (Ok i) = IsSized i
Keeps (Err e) = Unit {0}

either_keeps : (t : Bool) (r s : Result Input Refusal) → Keeps r → Keeps s → Keeps (cond t r s)
either_keeps true r s one other = one
either_keeps false r s one other = other

after_keeps : {A : Type 0} (r : Result A Refusal) (next : A → Result Input Refusal) → ((a : A) → Keeps (next a)) → Keeps (then_with r next)
after_keeps (Ok a) next each = each a
after_keeps (Err e) next each = tt

module _ (c : Config) (r : Request) (address : List ℕ) (m : ℕ) (near : length address ≤ most_address_bytes) where
  -- ---- requests of everybody
  posted_keeps : Keeps (posted_input c.name r.body address m)
  posted_keeps = after_keeps (in_body (body_tree r.body)) _ (λ d. after_keeps (in_body (task_of m c.name d)) (λ task. Ok (input.Post task address)) (λ task. near))

  schedule_keeps : (o : Option Span) → Keeps (schedule_input o)
  schedule_keeps None = tt
  schedule_keeps (Some window) = tt

  open_keeps : (place : PublicPlace) → Keeps (open_input c place r address m)
  open_keeps public.Home = tt
  open_keeps public.Clock = tt
  open_keeps public.Tests = tt
  open_keeps public.Tools = tt
  open_keeps public.Archivers = tt
  open_keeps public.Test = tt
  open_keeps public.Tasks = either_keeps (bytes_eq r.method (codes "POST")) (posted_input c.name r.body address m) (Ok (input.View page.Tasks)) posted_keeps tt
  open_keeps (public.Task serial) = either_keeps (bytes_eq r.method (codes "DELETE")) (Ok (input.Cancel serial address)) (Ok (input.View (page.Task serial))) tt tt
  open_keeps (public.Runs serial) = tt
  open_keeps (public.Run k) = tt
  open_keeps public.Schedule = schedule_keeps (window_of m r.query)

  -- ---- requests of peers
  asked_keeps : (place : PeerPlace) (p : PeerHost) → Keeps (asked_by place r.body p)
  asked_keeps peer.Free p = after_keeps (in_body (body_tree r.body)) _ (λ d. after_keeps (in_body (question_of d)) (λ question. Ok (input.Free p.number question)) (λ question. tt))
  asked_keeps peer.Propose p = after_keeps (in_body (body_tree r.body)) _ (λ d. after_keeps (in_body (proposal_of most_texts p.name d)) (λ proposal. Ok (input.Propose p.number proposal)) (λ proposal. tt))
  asked_keeps (peer.Drop k) p = tt
  asked_keeps (peer.Confirm k) p = tt
  asked_keeps (peer.Material k) p = after_keeps (in_body (body_tree r.body)) _ (λ d. after_keeps (in_body (material_of d)) (λ text. Ok (input.Material p.number k text)) (λ text. tt))
  asked_keeps (peer.Result k) p = tt

  from_keeps : (place : PeerPlace) (o : Option PeerHost) → Keeps (from_peer place r o)
  from_keeps place None = tt
  from_keeps place (Some p) = either_keeps (is_some r.query) (Err Query) (asked_by place r.body p) tt (asked_keeps place p)

  -- ---- every request
  at_keeps : (place : Place) → Keeps (input_at c place r address m)
  at_keeps (Public place) = either_keeps (is_some r.query && not (is_schedule place)) (Err Query) (open_input c place r address m) tt (open_keeps place)
  at_keeps (Peer place) = from_keeps place (sender_of c.peers r.peer)

  target_keeps : (o : Option Target) → Keeps (by_target c o r address m)
  target_keeps None = tt
  target_keeps (Some target) = either_keeps (allows target.methods r.method) (input_at c target.place r address m) (Err (Method target.methods)) (at_keeps target.place) tt

pub understood_sized : (c : Config) (r : Request) (address : List ℕ) (m : ℕ) (i : Input) → length address ≤ most_address_bytes → understood c r address m ≡ Ok i → IsSized i
understood_sized c r address m i near is = subst Keeps is (target_keeps c r address m near (target_of c.number r.path))
