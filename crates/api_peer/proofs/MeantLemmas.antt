-- What the requests of orders ask.
use Rattle.std.proofs.Common.{◌==◌, ◌≡◌, ◌∙◌, ◌∷◌, Bool, Err, IfOk, List, Ok, Result, Some, [], ap, arith, codes, false, if◌then◌else◌, refl, sym, true, ℕ}
use Rattle.std.proofs.lemmas.Bool.Decides.{nat_tests}
use Rattle.std.proofs.lemmas.Slice.Eq.{bytes_eq-Decides}
use Rattle.std.specs.Str.{bytes_eq}
use Rattle.serde_json.specs.Data.{Data}
use Rattle.serde_json.specs.Written.{compact_text}
use Rattle.ps_http.specs.declared.message.PeerMark.{PeerMark}
use Rattle.ps_json.specs.Answer.{then_with}
use Rattle.ps_time.specs.declared.key.RunKey.{RunKey}
use Rattle.run_states.specs.declared.proposal.Proposal.{Proposal}
use Rattle.run_states.specs.declared.proposal.Question.{Question}
use Rattle.host_model.specs.Propose.{find_peer}
use Rattle.host_model.specs.declared.config.Config.{Config}
use Rattle.host_model.specs.declared.config.Peer.{Peer}
use Rattle.host_model.specs.declared.input.Input.{Input}
use Rattle.host_model.specs.declared.input.Input.TheVariants as input
use Rattle.host_model.specs.declared.order.OrderBody.TheVariants as order
use Rattle.task_spec.specs.declared.fault.TaskFault.{TaskFault}
use Rattle.api_body.specs.Bodies.{body_tree, material_of, proposal_of, question_of}
use Rattle.api_input.specs.Places.{target_of}
use Rattle.api_input.specs.Refused.{in_body}
use Rattle.api_input.specs.Routes.{allows}
use Rattle.api_input.specs.Understood.{asked_by, most_texts, sender_of, understood}
use Rattle.api_input.specs.declared.place.PeerPlace.{PeerPlace}
use Rattle.api_input.specs.declared.place.PeerPlace.TheVariants as peer
use Rattle.api_input.specs.declared.refusal.Refusal.{Refusal}
use Rattle.api_input.specs.declared.route.Methods.{Methods}
use Rattle.api_input.specs.declared.route.Methods.TheVariants.{Delete, Get, Post, Put}
use Rattle.api_reply.specs.Denials.{proposal_data}
use Rattle.api_peer.proofs.PathLemmas.{confirm_named, drop_named, free_named, material_named, propose_named, result_named, target}
use Rattle.api_peer.specs.Meant.{IsMeant, IsReadKey, IsReadMaterial, IsReadProposal, IsReadQuestion, Knows}
use Rattle.api_peer.specs.Ordered.{asked, material_data, question_data, request_by, run_path}

-- ---- the sender
some_same : {A : Type 0} (x y : A) → Some x ≡ Some y → x ≡ y
some_same x y is = cc

-- a peer that was found by its number has it
number_found : (peers : List Peer) (n : ℕ) (p : Peer) → find_peer peers n ≡ Some p → p.number ≡ n
number_found [] n p is = cc
number_found (q ∷ peers) n p is = go (q.number == n) refl (number_found peers n p) is
  where
    go : (b : Bool) → (q.number == n) ≡ b → (find_peer peers n ≡ Some p → p.number ≡ n) → (if b then Some q else find_peer peers n) ≡ Some p → p.number ≡ n
    go true same behind is = ap (λ r. r.number) (sym (some_same q p is)) ∙ (grind (arith, nat_tests))
    go false other behind is = behind is

same_bytes : (xs ys : List ℕ) → xs ≡ ys → bytes_eq xs ys ≡ true
same_bytes xs ys same = (bytes_eq-Decides xs ys).1 same

module _ (d : Config) (mark : PeerMark) (name : List ℕ) (knows : Knows d mark name) where
  sender_known : sender_of d.peers (Some mark) ≡ Some knows.peer
  sender_known = rw (knows.found, same_bytes knows.peer.key mark.key knows.key) refl

  -- a request at a place for peers is read by the place, with what is known of the sender
  at_place : (method path body : List ℕ) (place : PeerPlace) (methods : Methods) → target_of d.number path ≡ Some (target place methods) → allows methods method ≡ true
      → (address : List ℕ) (m : ℕ) → understood d (asked mark method path body) address m ≡ asked_by place body knows.peer
  at_place method path body place methods named allowed address m = rw (named, allowed, sender_known) refl

  known_number : knows.peer.number ≡ mark.number
  known_number = number_found d.peers mark.number knows.peer knows.found

-- ---- bodies
-- what was read of a body is what its place asks
read_in : {A : Type 0} (bytes : List ℕ) (read : Data → Result A TaskFault) (ask : A → Result Input Refusal) (x : A) → then_with (body_tree bytes) read ≡ Ok x
    → then_with (in_body (body_tree bytes)) (λ d. then_with (in_body (read d)) ask) ≡ ask x
read_in bytes read ask x is = go (body_tree bytes) is
  where
    go : (r : Result Data TaskFault) → then_with r read ≡ Ok x → then_with (in_body r) (λ d. then_with (in_body (read d)) ask) ≡ ask x
    go (Err e) is = cc
    go (Ok d) is = rw is refl

-- ---- each order
module _ (mark : PeerMark) (k : RunKey) where
  pub free_meant : (q : Question) → IsReadQuestion q
      → IsMeant mark k (order.Free q) (request_by mark k (order.Free q))
  free_meant q reads d name knows bounds address m =
      at_place d mark name knows (codes "POST") (codes "/pscheduler/peer/free") (compact_text (question_data q)) peer.Free Post (free_named d.number) refl address m
      ∙ read_in (compact_text (question_data q)) question_of (λ q. Ok (input.Free knows.peer.number q)) q (reads bounds) ∙ ap (λ n. Ok (input.Free n q)) (known_number d mark name knows)

  pub propose_meant : (proposal : Proposal) → IsReadProposal proposal
      → IsMeant mark k (order.Propose proposal) (request_by mark k (order.Propose proposal))
  propose_meant proposal reads d name knows bounds address m =
      at_place d mark name knows (codes "POST") (codes "/pscheduler/peer/runs") (compact_text (proposal_data proposal)) peer.Propose Post (propose_named d.number) refl address m
      ∙ ap (λ lead. then_with (in_body (body_tree (compact_text (proposal_data proposal)))) (λ d. then_with (in_body (proposal_of most_texts lead d)) (λ p. Ok (input.Propose knows.peer.number p)))) knows.name
      ∙ read_in (compact_text (proposal_data proposal)) (proposal_of most_texts name) (λ p. Ok (input.Propose knows.peer.number p)) proposal (reads name bounds) ∙ ap (λ n. Ok (input.Propose n proposal)) (known_number d mark name knows)

module _ (mark : PeerMark) (k : RunKey) (names : IsReadKey k) where
  pub confirm_meant : IsMeant mark k order.Confirm (request_by mark k order.Confirm)
  confirm_meant d name knows bounds address m =
      at_place d mark name knows (codes "PUT") (run_path k (codes "/confirm")) [] (peer.Confirm k) Put (confirm_named d.number k names) refl address m
      ∙ ap (λ n. Ok (input.Confirm n k)) (known_number d mark name knows)

  pub cancel_meant : IsMeant mark k order.Cancel (request_by mark k order.Cancel)
  cancel_meant d name knows bounds address m =
      at_place d mark name knows (codes "DELETE") (run_path k []) [] (peer.Drop k) Delete (drop_named d.number k names) refl address m
      ∙ ap (λ n. Ok (input.Drop n k)) (known_number d mark name knows)

  pub result_meant : IsMeant mark k order.Result (request_by mark k order.Result)
  result_meant d name knows bounds address m =
      at_place d mark name knows (codes "GET") (run_path k (codes "/result")) [] (peer.Result k) Get (result_named d.number k names) refl address m
      ∙ ap (λ n. Ok (input.Collect n k)) (known_number d mark name knows)

  pub material_meant : (text : List ℕ) → IsReadMaterial text → IsMeant mark k (order.Material text) (request_by mark k (order.Material text))
  material_meant text reads d name knows bounds address m =
      at_place d mark name knows (codes "PUT") (run_path k (codes "/material")) (compact_text (material_data text)) (peer.Material k) Put (material_named d.number k names) refl address m
      ∙ read_in (compact_text (material_data text)) material_of (λ t. Ok (input.Material knows.peer.number k t)) text (reads bounds) ∙ ap (λ n. Ok (input.Material n k text)) (known_number d mark name knows)

-- what holds of a value holds of an answer that gives it
pub of_same : {A E : Type 0} (P : A → Type 0) (r : Result A E) (x : A) → IfOk r (λ t. t ≡ x) → P x → IfOk r P
of_same P (Ok t) x same p = rw same p
of_same P (Err e) x same p = tt
