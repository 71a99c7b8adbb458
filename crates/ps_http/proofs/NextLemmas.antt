-- From the head and the body that were read to what a call answers.
use Rattle.std.proofs.Common.{◌≡◌, ◌<◌, ◌∙◌, ℕ, List, length, take, min, ap, subst, Option, Some, None, Result, Ok, Err, arith, length-append}
use Rattle.std.specs.Prelude.{IfSome, IfErr, IsErrOf, ⊤}
use Rattle.std.specs.Io.KnownBytes.{prepend_known}
use Rattle.ps_http.specs.Answer.{Kind, Refuses, IsBegun, WasDue}
use Rattle.ps_http.specs.Body.{BodyFault}
use Rattle.ps_http.specs.Collected.{Added, Collected}
use Rattle.ps_http.specs.Head.{IsHeaded, HeadFault}
use Rattle.ps_http.specs.Next.{HasHead, FaultAt}
use Rattle.ps_http.specs.declared.fault.HttpFault.{HttpFault}
use Rattle.ps_http.specs.declared.fault.HttpFault.TheVariants.{BadHead, NoLength, TooLarge, EndInside, ReadFault, AfterRefusal, Memory}
use Rattle.ps_http.specs.declared.message.HttpLimits.{HttpLimits}
use Rattle.ps_http.proofs.AnswerLemmas.{input_is, head_refuses, head_due, head_ended, body_refusal, body_due, head_held}
use Rattle.ps_http.proofs.CollectLemmas.{take_upto}
use Rattle.ps_http.proofs.EnoughLemmas.{bad_enough, unsaid_enough, long_enough}
use Rattle.ps_http.proofs.KindLemmas.{Lawful}

module _ {H M : Type 0} (kind : Kind H M) (lawful : Lawful kind) (limits : HttpLimits) where
  -- the bytes that are looked at are the front of what is held
  pub looked_at : (held bytes : List ℕ) (count : ℕ) → bytes ≡ held → count ≡ min (length bytes) limits.head → take count bytes ≡ take limits.head held
  looked_at held bytes count same is = take_upto bytes limits.head count is ∙ ap (take limits.head) same

  pub has_head : (message : M) (size body : ℕ) (old held looked : List ℕ) (left rest : Option (List ℕ)) → Collected limits.head old held left rest
      → looked ≡ take limits.head held → IsHeaded kind limits looked message size body → HasHead kind limits message size body old held left rest
  has_head message size body old held looked left rest c same h =
      let at = subst (λ f. IsHeaded kind limits f message size body) same h in
      record { added = c.0; wanted = c.2; headed = at; fits = omega (arith, at.size_is, head_held kind lawful limits held at.head at.rest at.reads) }

  by_head : (fault : HttpFault) (old held : List ℕ) (left rest : Option (List ℕ)) → Collected limits.head old held left rest
      → HeadFault kind limits (take limits.head held) fault → FaultAt kind limits old held fault left rest
  by_head BadHead old held left rest c f = (head_refuses kind lawful limits held BadHead old left rest c.0 c.1 f, bad_enough kind lawful limits old held held left rest c f)
  by_head NoLength old held left rest c f = (head_refuses kind lawful limits held NoLength old left rest c.0 c.1 f, unsaid_enough kind lawful limits old held held left rest c f)
  by_head TooLarge old held left rest c f = (head_refuses kind lawful limits held TooLarge old left rest c.0 c.1 f, long_enough kind lawful limits old held held left rest c f)
  by_head (EndInside n) old held left rest c f =
      (head_refuses kind lawful limits held (EndInside n) old left rest c.0 c.1 f, head_due kind lawful limits held n old left rest c.0 f, head_ended kind lawful limits held n rest c.1 f)
  by_head ReadFault old held left rest c f = absurd f
  by_head AfterRefusal old held left rest c f = absurd f
  by_head Memory old held left rest c f = head_refuses kind lawful limits held Memory old left rest c.0 c.1 f

  pub fault_at_head : (fault : HttpFault) (old held looked : List ℕ) (left rest : Option (List ℕ)) → Collected limits.head old held left rest
      → looked ≡ take limits.head held → HeadFault kind limits looked fault → FaultAt kind limits old held fault left rest
  fault_at_head fault old held looked left rest c same f = by_head fault old held left rest c (subst (λ l. HeadFault kind limits l fault) same f)

  pub fault_at_body : (message : M) (size n : ℕ) (fault : HttpFault) (old held now : List ℕ) (left mid rest : Option (List ℕ)) → HasHead kind limits message size n old held left mid
      → BodyFault size n fault held mid rest → FaultAt kind limits old now fault left rest
  fault_at_body message size n BadHead old held now left mid rest h f = absurd f
  fault_at_body message size n NoLength old held now left mid rest h f = absurd f
  fault_at_body message size n TooLarge old held now left mid rest h f = absurd f
  fault_at_body message size n (EndInside k) old held now left mid rest h f = (
    body_refusal kind lawful limits held message size n (EndInside k) old left mid rest h.added h.headed f,
    body_due kind lawful limits held message size n old left mid rest h.added h.headed f.0,
    f.2,
  )
  fault_at_body message size n ReadFault old held now left mid rest h f = body_due kind lawful limits held message size n old left mid rest h.added h.headed f
  fault_at_body message size n AfterRefusal old held now left mid rest h f = absurd f
  fault_at_body message size n Memory old held now left mid rest h f =
      body_refusal kind lawful limits held message size n Memory old left mid rest h.added h.headed f

module _ {H M : Type 0} (kind : Kind H M) (limits : HttpLimits) where
  always : (o : Option (List ℕ)) → IfSome o (λ _. ⊤)
  always None = tt
  always (Some l) = tt

  refuses : (fault : HttpFault) (old now : List ℕ) (left rest : Option (List ℕ)) → FaultAt kind limits old now fault left rest
      → IfSome (prepend_known old left) (λ input. Refuses kind limits input fault)
  refuses BadHead old now left rest f = f.0
  refuses NoLength old now left rest f = f.0
  refuses TooLarge old now left rest f = f.0
  refuses (EndInside n) old now left rest f = f.0
  refuses ReadFault old now left rest f = always (prepend_known old left)
  refuses AfterRefusal old now left rest f = absurd f
  refuses Memory old now left rest f = f

  pub refusal_of : {A : Type 0} (r : Result A HttpFault) (old now : List ℕ) (left rest : Option (List ℕ)) → IfErr r (λ fault. FaultAt kind limits old now fault left rest)
      → IfErr r (λ fault. IfSome (prepend_known old left) (λ input. Refuses kind limits input fault))
  refusal_of (Ok x) old now left rest f = tt
  refusal_of (Err fault) old now left rest f = refuses fault old now left rest f

  pub due_of : {A : Type 0} (r : Result A HttpFault) (old now : List ℕ) (left rest : Option (List ℕ)) → IfErr r (λ fault. FaultAt kind limits old now fault left rest)
      → IsErrOf r ReadFault → WasDue kind limits old left rest
  due_of r old now left rest f is = subst (λ q. IfErr q (λ fault. FaultAt kind limits old now fault left rest)) is f

-- ---- an input that has a byte

pub has_byte : (old held : List ℕ) (left rest : Option (List ℕ)) → Added old held left rest → 0 < length held → IfSome (prepend_known old left) (λ input. 0 < length input)
has_byte old held left rest a some =
    input_is (λ input. 0 < length input) old held left rest a (λ more is. omega (arith, some, length-append held more))

pub begun : (fault : HttpFault) (o : Option (List ℕ)) → IfSome o (λ input. 0 < length input) → IfSome o (λ input. IsBegun input fault)
begun fault None some = tt
begun BadHead (Some input) some = some
begun NoLength (Some input) some = some
begun TooLarge (Some input) some = some
begun (EndInside n) (Some input) some = some
begun ReadFault (Some input) some = tt
begun AfterRefusal (Some input) some = tt
begun Memory (Some input) some = tt
