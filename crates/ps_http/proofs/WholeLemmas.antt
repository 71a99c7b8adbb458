-- What the bytes of a reply are, by the head at their front.
use Rattle.std.proofs.Common.{◌≡◌, ◌<◌, ◌+◌, ◌-◌, inr, ℕ, List, [], ◌++◌, length, take, drop, refl, sym, ap, subst, ◌∙◌, arith, append_assoc, append-nil, take-append-drop, length-take, length-drop, Some, Ok}
use Rattle.std.proofs.lemmas.List.{take_all}
use Rattle.ps_http.specs.Answer.{responses, EndsInBody, IsMessage, Refuses}
use Rattle.ps_http.specs.Head.{IsHeaded, HeadFault}
use Rattle.ps_http.specs.Reply.{IsReplyFault, refused_as}
use Rattle.ps_http.specs.declared.fault.HttpFault.{HttpFault}
use Rattle.ps_http.specs.declared.fault.HttpFault.TheVariants.{BadHead, NoLength, TooLarge, EndInside, ReadFault, AfterRefusal, Memory}
use Rattle.ps_http.specs.declared.message.HttpLimits.{HttpLimits}
use Rattle.ps_http.specs.declared.message.Response.{Response}
use Rattle.ps_http.specs.declared.reply.ReplyFault.TheVariants.{Follows}
use Rattle.ps_http.proofs.AnswerLemmas.{head_refuses, body_short, behind_head, head_fits}
use Rattle.ps_http.proofs.CollectLemmas.{added_none}
use Rattle.ps_http.proofs.KindLemmas.{lawful_responses}

-- what is behind so many bytes, put into an empty body
pub put_behind : (bytes : List ℕ) (size : ℕ) (empty body : List ℕ) → empty ≡ [] → body ≡ empty ++ take (length bytes - size) (drop size bytes) → body ≡ drop size bytes
put_behind bytes size empty body none is =
    is ∙ ap (λ l. l ++ take (length bytes - size) (drop size bytes)) none ∙ take_all (length bytes - size) (drop size bytes) (omega (arith, length-drop size bytes))

module _ (limits : HttpLimits) (bytes : List ℕ) where
  front_refuses : (fault : HttpFault) → HeadFault responses limits (take limits.head bytes) fault → Refuses responses limits bytes fault
  front_refuses fault f = subst (λ l. Refuses responses limits l fault) (append-nil bytes)
      (head_refuses responses lawful_responses limits bytes fault bytes (Some []) (Some []) (added_none bytes (Some [])) (inr (inr refl)) f)

  pub head_fault : (fault : HttpFault) → HeadFault responses limits (take limits.head bytes) fault → IsReplyFault limits bytes (refused_as fault)
  head_fault BadHead f = (refl, front_refuses BadHead f)
  head_fault NoLength f = (refl, front_refuses NoLength f)
  head_fault TooLarge f = (refl, front_refuses TooLarge f)
  head_fault (EndInside n) f = (refl, front_refuses (EndInside n) f)
  head_fault ReadFault f = absurd f
  head_fault AfterRefusal f = absurd f
  head_fault Memory f = tt

  module _ (message : Response) (size n : ℕ) (h : IsHeaded responses limits (take limits.head bytes) message size n) where
    -- so many bytes behind the head are its message
    message_of : (body : List ℕ) → length body ≡ n → IsMessage responses limits (responses.text h.head ++ body) (record message { body = body })
    message_of body len = record {
      head = h.head;
      body = body;
      reads = lawful_responses.before (take limits.head bytes) h.head h.rest body h.reads;
      fits = head_fits responses lawful_responses limits bytes h.head h.rest h.reads;
      length_is = h.length_is ∙ ap Ok (sym len);
      message_is = ap (λ (r : Response). record r { body = body }) h.message_is;
    }

    text_and : bytes ≡ responses.text h.head ++ drop size bytes
    text_and = behind_head responses lawful_responses limits bytes h.head h.rest h.reads ∙ ap (λ k. responses.text h.head ++ drop k bytes) (sym h.size_is)

    pub whole_reply : (body : List ℕ) → body ≡ drop size bytes → size + n ≡ length bytes → IsMessage responses limits bytes (record message { body = body })
    whole_reply body is all =
        let len : length body ≡ n = omega (arith, ap length is, length-drop size bytes, all) in
        subst (λ l. IsMessage responses limits l (record message { body = body })) (ap (λ l. responses.text h.head ++ l) is ∙ sym text_and) (message_of body len)

    pub short_reply : length bytes < size + n → Refuses responses limits bytes (EndInside (length bytes))
    short_reply short = (refl, inr (subst (EndsInBody responses limits) (append-nil bytes) (body_short responses lawful_responses limits bytes message size n [] h (omega (arith, short)))))

    pub followed_reply : (m : ℕ) → m ≡ length bytes - size - n → size + n < length bytes → IsReplyFault limits bytes (Follows m)
    followed_reply m count more =
        let tail = drop size bytes in
        let len : length (take n tail) ≡ n = omega (arith, length-take n tail, length-drop size bytes, more) in (
          record message { body = take n tail },
          responses.text h.head ++ take n tail,
          drop n tail,
          text_and ∙ ap (λ l. responses.text h.head ++ l) (sym (take-append-drop n tail)) ∙ sym (append_assoc (responses.text h.head) (take n tail) (drop n tail)),
          message_of (take n tail) len,
          omega (arith, length-drop n tail, length-drop size bytes, count, more),
          omega (arith, count, more),
        )
