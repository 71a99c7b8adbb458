-- Bytes that are one message are read as it.
use Rattle.std.specs.Prelude.{IsErrOf}
use Rattle.std.proofs.Common.{◌<◌, ◌≡◌, Err, List, None, Ok, Some, [], append-nil, arith, false, length, refl, sym, true, ℕ}
use Rattle.ps_ports.specs.Causes.{Rose}
use Rattle.ps_http.specs.Answer.{IsBegun, IsMessage, IsRequestAnswer, IsResponseAnswer, OneRequestAnswer, OneResponseAnswer, Refuses, TakesMessage, is_decided, requests, responses}
use Rattle.ps_http.specs.declared.fault.HttpFault.{HttpFault}
use Rattle.ps_http.specs.declared.fault.HttpFault.TheVariants.{AfterRefusal, BadHead, EndInside, Memory, NoLength, ReadFault, TooLarge}
use Rattle.ps_http.specs.declared.message.Request.{Request}
use Rattle.ps_http.specs.declared.message.Response.{Response}
use Rattle.api_peer.specs.Carried.{message_limits}

no_rise : Rose 0 0 → ⊥
no_rise rose = omega (arith, rose)

module _ (one : OneRequestAnswer) (bytes : List ℕ) (r : Request) (is : IsMessage requests message_limits bytes r) where
  this : IsRequestAnswer message_limits bytes (Ok (Some r))
  this = (bytes, [], sym (append-nil bytes), is)

  pub request_same : (x : Request) (rest : List ℕ) → TakesMessage requests message_limits x (Some bytes) (Some rest) → x ≡ r
  request_same x rest takes =
      let same : Ok (Some x) ≡ Ok (Some r) = one message_limits bytes (Ok (Some x)) (Ok (Some r)) (takes.0, rest, takes.1, takes.2) this in cc

  pub request_there : bytes ≡ [] → ⊥
  request_there none = let same : Ok None ≡ Ok (Some r) = one message_limits bytes (Ok None) (Ok (Some r)) none this in cc

  refused : (fault : HttpFault) → is_decided fault ≡ true → Refuses requests message_limits bytes fault → 0 < length bytes → ⊥
  refused fault decided refuses some = let same : Err fault ≡ Ok (Some r) = one message_limits bytes (Err fault) (Ok (Some r)) (decided, refuses, some) this in cc

  pub request_fault : {T : Type 0} (fault : HttpFault) → Refuses requests message_limits bytes fault → IsBegun bytes fault → (IsErrOf {T = T} (Err fault) ReadFault → Rose 0 0) → (IsErrOf {T = T} (Err fault) AfterRefusal → false ≡ true) → fault ≡ Memory
  request_fault BadHead refuses begun rose after = absurd (refused BadHead refl refuses begun)
  request_fault NoLength refuses begun rose after = absurd (refused NoLength refl refuses begun)
  request_fault TooLarge refuses begun rose after = absurd (refused TooLarge refl refuses begun)
  request_fault (EndInside n) refuses begun rose after = absurd (refused (EndInside n) refl refuses begun)
  request_fault ReadFault refuses begun rose after = absurd (no_rise (rose refl))
  request_fault AfterRefusal refuses begun rose after = let never : false ≡ true = after refl in cc
  request_fault Memory refuses begun rose after = refl

module _ (one : OneResponseAnswer) (bytes : List ℕ) (r : Response) (is : IsMessage responses message_limits bytes r) where
  that : IsResponseAnswer message_limits bytes (Ok r)
  that = (bytes, [], sym (append-nil bytes), is)

  pub response_same : (x : Response) (rest : List ℕ) → TakesMessage responses message_limits x (Some bytes) (Some rest) → x ≡ r
  response_same x rest takes =
      let same : Ok x ≡ Ok r = one message_limits bytes (Ok x) (Ok r) (takes.0, rest, takes.1, takes.2) that in cc

  denied : (fault : HttpFault) → is_decided fault ≡ true → Refuses responses message_limits bytes fault → ⊥
  denied fault decided refuses = let same : Err fault ≡ Ok r = one message_limits bytes (Err fault) (Ok r) (decided, refuses) that in cc

  pub response_fault : {T : Type 0} (fault : HttpFault) → Refuses responses message_limits bytes fault → (IsErrOf {T = T} (Err fault) ReadFault → Rose 0 0) → (IsErrOf {T = T} (Err fault) AfterRefusal → false ≡ true) → fault ≡ Memory
  response_fault BadHead refuses rose after = absurd (denied BadHead refl refuses)
  response_fault NoLength refuses rose after = absurd (denied NoLength refl refuses)
  response_fault TooLarge refuses rose after = absurd (denied TooLarge refl refuses)
  response_fault (EndInside n) refuses rose after = absurd (denied (EndInside n) refl refuses)
  response_fault ReadFault refuses rose after = absurd (no_rise (rose refl))
  response_fault AfterRefusal refuses rose after = let never : false ≡ true = after refl in cc
  response_fault Memory refuses rose after = refl
