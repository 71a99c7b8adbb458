-- What somebody asks who is no peer is a client's, and keeps a book orderly.
use Rattle.std.specs.Prelude.{bytes_eq, codes}
use Rattle.std.proofs.Common.{◌≡◌, ◌≤◌, ◌&&◌, ℕ, Bool, true, false, cond, length, not, List, Option, Some, None, is_some, Result, Ok, Err, refl, subst}
use Rattle.ps_http.specs.declared.message.Request.{Request}
use Rattle.ps_http.specs.declared.message.Response.{Response}
use Rattle.ps_json.specs.Answer.{then_with}
use Rattle.ps_time.specs.Span.{Span}
use Rattle.task_spec.specs.ReadTask.{task_of}
use Rattle.host_model.specs.declared.config.Config.{Config}
use Rattle.host_model.specs.declared.input.Input.{Input}
use Rattle.host_model.specs.declared.input.Input.TheVariants as input
use Rattle.host_model.specs.declared.view.Page.{Page}
use Rattle.host_model.specs.declared.view.Page.TheVariants as page
use Rattle.api_body.specs.Bodies.{body_tree}
use Rattle.api_input.specs.Places.{target_of}
use Rattle.api_input.specs.Query.{window_of}
use Rattle.api_input.specs.Refused.{in_body}
use Rattle.api_input.specs.Routes.{allows}
use Rattle.api_input.specs.Understood.{most_address_bytes, by_target, from_peer, input_at, is_schedule, open_input, posted_input, schedule_input, sender_of, task_input, understood}
use Rattle.api_input.specs.declared.place.Place.{Place}
use Rattle.api_input.specs.declared.place.Place.TheVariants.{Public, Peer}
use Rattle.api_input.specs.declared.place.PublicPlace.{PublicPlace}
use Rattle.api_input.specs.declared.place.PublicPlace.TheVariants as public
use Rattle.api_input.specs.declared.place.Target.{Target}
use Rattle.api_input.specs.declared.refusal.Refusal.{Refusal}
use Rattle.api_input.specs.declared.refusal.Refusal.TheVariants.{Method, Query}
use Rattle.api_reply.specs.Replies.{answered}
use Rattle.api_reply.specs.Shown.{error}
use Rattle.world_law.specs.Events.{is_client}
use Rattle.api_peer.specs.Orderly.{IsSized}
use Rattle.api_peer.proofs.InputLemmas.{understood_sized}
use Rattle.rehearsal_model.specs.Requests.{asks, is_target, is_too_large, or_refused, request_to}

abbrev IsClient : Input → Type 0
IsClient i = is_client i ≡ true

abbrev Gives : Result Input Refusal → Input → Type 0
Gives r i = r ≡ Ok i

-- what is answered alone
given : (j i : Input) → Gives (Ok j) i → IsClient j → IsClient i
given j i e client = let same : j ≡ i = cc in subst IsClient same client

viewed : (p : Page) (i : Input) → Gives (Ok (input.View p)) i → IsClient i
viewed p i e = given (input.View p) i e refl

-- what comes after something that was read
read_first : {A : Type 0} (o : Result A Refusal) (next : A → Result Input Refusal) (i : Input) → ((x : A) → Gives (next x) i → IsClient i) → Gives (then_with o next) i → IsClient i
read_first (Err f) next i each e = cc
read_first (Ok x) next i each e = each x e

-- ---- requests of everybody
posted : (lead body address : List ℕ) (m : ℕ) (i : Input) → Gives (posted_input lead body address m) i → IsClient i
posted lead body address m i e =
    read_first (in_body (body_tree body)) (λ d. then_with (in_body (task_of m lead d)) (λ task. Ok (input.Post task address))) i
    (λ d f. read_first (in_body (task_of m lead d)) (λ task. Ok (input.Post task address)) i (λ task g. given (input.Post task address) i g refl) f) e

scheduled : (o : Option Span) (i : Input) → Gives (schedule_input o) i → IsClient i
scheduled None i e = cc
scheduled (Some window) i e = viewed (page.Schedule window.start window.end) i e

of_task : (serial : ℕ) (method address : List ℕ) (i : Input) → Gives (task_input serial method address) i → IsClient i
of_task serial method address i e = go (bytes_eq method (codes "DELETE")) e
  where
    go : (b : Bool) → Gives (cond b (Ok (input.Cancel serial address)) (Ok (input.View (page.Task serial)))) i → IsClient i
    go true f = given (input.Cancel serial address) i f refl
    go false f = viewed (page.Task serial) i f

of_tasks : (c : Config) (r : Request) (address : List ℕ) (m : ℕ) (i : Input) (b : Bool) → Gives (cond b (posted_input c.name r.body address m) (Ok (input.View page.Tasks))) i → IsClient i
of_tasks c r address m i true e = posted c.name r.body address m i e
of_tasks c r address m i false e = viewed page.Tasks i e

opened : (c : Config) (place : PublicPlace) (r : Request) (address : List ℕ) (m : ℕ) (i : Input) → Gives (open_input c place r address m) i → IsClient i
opened c public.Home r address m i e = viewed page.Home i e
opened c public.Clock r address m i e = viewed page.Clock i e
opened c public.Tests r address m i e = viewed page.Tests i e
opened c public.Tools r address m i e = viewed page.Tools i e
opened c public.Archivers r address m i e = viewed page.Archivers i e
opened c public.Test r address m i e = viewed (page.Test _) i e
opened c public.Tasks r address m i e = of_tasks c r address m i (bytes_eq r.method (codes "POST")) e
opened c (public.Task serial) r address m i e = of_task serial r.method address i e
opened c (public.Runs serial) r address m i e = viewed (page.Runs serial) i e
opened c (public.Run k) r address m i e = viewed (page.Run k) i e
opened c public.Schedule r address m i e = scheduled (window_of m r.query) i e

in_public : (c : Config) (place : PublicPlace) (r : Request) (address : List ℕ) (m : ℕ) (i : Input) (b : Bool) → Gives (cond b (Err Query) (open_input c place r address m)) i → IsClient i
in_public c place r address m i true e = cc
in_public c place r address m i false e = opened c place r address m i e

-- ---- every request without a peer's mark
at_place : (c : Config) (place : Place) (r : Request) → r.peer ≡ None → (address : List ℕ) (m : ℕ) (i : Input) → Gives (input_at c place r address m) i → IsClient i
at_place c (Public place) r none address m i e = in_public c place r address m i (is_some r.query && not (is_schedule place)) e
at_place c (Peer place) r none address m i e = let refused : Gives (from_peer place r (sender_of c.peers None)) i = subst (λ mark. Gives (from_peer place r (sender_of c.peers mark)) i) none e in cc

at_target : (c : Config) (o : Option Target) (r : Request) → r.peer ≡ None → (address : List ℕ) (m : ℕ) (i : Input) → Gives (by_target c o r address m) i → IsClient i
at_target c None r none address m i e = cc
at_target c (Some target) r none address m i e = go (allows target.methods r.method) e
  where
    go : (b : Bool) → Gives (cond b (input_at c target.place r address m) (Err (Method target.methods))) i → IsClient i
    go true f = at_place c target.place r none address m i f
    go false f = cc

abbrev Comes : Result Input Response → Input → Type 0
Comes r i = r ≡ Ok i

was_understood : (r : Result Input Refusal) (i : Input) → Comes (or_refused r) i → Gives r i
was_understood (Ok j) i e = cc
was_understood (Err refusal) i e = cc

pub asked_by_client : (c : Config) (method target body address : List ℕ) (clock : ℕ) (i : Input) → asks c method target body address clock ≡ Ok i → is_client i ≡ true
asked_by_client c method target body address clock i e = go (not (is_target target)) (is_too_large target body) e
  where
    go : (a b : Bool) → Comes (cond a (Err (answered 400 (error (codes "bad head")))) (cond b (Err (answered 413 (error (codes "too large")))) (or_refused (understood c (request_to method target body) address clock)))) i → IsClient i
    go true b f = cc
    go false true f = cc
    go false false f = at_target c (target_of c.number (request_to method target body).path) (request_to method target body) refl address clock i (was_understood (understood c (request_to method target body) address clock) i f)

pub asked_sized : (c : Config) (method target body address : List ℕ) (clock : ℕ) (i : Input) → length address ≤ most_address_bytes → asks c method target body address clock ≡ Ok i → IsSized i
asked_sized c method target body address clock i near e = go (not (is_target target)) (is_too_large target body) e
  where
    go : (a b : Bool) → Comes (cond a (Err (answered 400 (error (codes "bad head")))) (cond b (Err (answered 413 (error (codes "too large")))) (or_refused (understood c (request_to method target body) address clock)))) i → IsSized i
    go true b f = cc
    go false true f = cc
    go false false f = understood_sized c (request_to method target body) address clock i near (was_understood (understood c (request_to method target body) address clock) i f)
