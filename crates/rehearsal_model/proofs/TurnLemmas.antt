-- What a host tells after its turn: the messages that its orders are sent by.
use Rattle.std.specs.List.{AllByRecursion, cons_option}
use Rattle.std.specs.Prelude.{All, bytes_eq, filter, filter_map, find}
use Rattle.std.proofs.Common.{◌≡◌, ◌≤◌, ◌+◌, ℕ, Bool, true, false, cond, List, [], ◌∷◌, ◌++◌, length, reverse, Option, Some, None, option_map, slice_get, refl, sym, ap, ◌∙◌, subst}
use Rattle.std.proofs.lemmas.List.{append_assoc, length_push, reverse-append}
use Rattle.std.proofs.lemmas.List.Elements.{All-from_recursion, recursion_from_All}
use Rattle.ps_time.specs.Numbers.{greatest_moment}
use Rattle.host_model.specs.Orders.{orders}
use Rattle.host_model.specs.declared.config.Config.{Config}
use Rattle.host_model.specs.declared.config.Peer.{Peer}
use Rattle.host_model.specs.declared.order.Order.{Order}
use Rattle.world_law.specs.Events.{Event.Tell, MayRun, happens, run, sent, told, told_from}
use Rattle.world_law.specs.World.{Message, Stage, World, aged, number_of, stages}
use Rattle.rehearsal_model.specs.Moves.{is_untold, message_of, sent_by}
use Rattle.rehearsal_model.specs.Rehearsal.{tells_from}
use Rattle.rehearsal_model.specs.Seen.{Seen}

-- the world, where these messages were sent
abbrev pub with_messages : World → List Message → World
with_messages w ls = record w { messages = ls }

abbrev message_from : ℕ → Config → Order → Option Message
message_from n c o = option_map (λ asked. record { asker = n; asked = asked; order = o; reply = None }) (number_of c.peers o.to)

-- the item behind a front
behind : {X : Type 0} (front : List X) (x : X) (rest : List X) → slice_get (front ++ x ∷ rest) (length front) ≡ Some x
behind [] x rest = refl
behind (y ∷ front) x rest = behind front x rest

module _ (b : Seen) (w : World) (n stage clock : ℕ) (s : Stage) (there : aged (stages w n) stage ≡ Some s) where
  abbrev at_hand : List Order
  at_hand = orders s.book clock

  abbrev messages_of : List Order → List Message
  messages_of os = filter_map (message_from n s.config) (filter (is_untold b) os)

  -- one of them is told
  one_told : (front : List Order) (o : Order) (rest : List Order) → at_hand ≡ front ++ o ∷ rest → (ls : List Message) →
      happens (with_messages w ls) (Tell n stage clock (length front)) ≡ sent (with_messages w ls) n o (number_of s.config.peers o.to)
  one_told front o rest e ls =
      ap (told_from (with_messages w ls) n clock (length front)) there
      ∙ ap (told (with_messages w ls) n s.config) (ap (λ os. slice_get os (length front)) e ∙ behind front o rest)

  told_or : (o : Order) (rest : List Order) (place : ℕ) (ls : List Message) (m : Option ℕ) →
      ((more : List Message) → run (tells_from b n stage clock place rest) (with_messages w more) ≡ with_messages w (reverse (messages_of rest) ++ more)) →
      run (tells_from b n stage clock place rest) (sent (with_messages w ls) n o m) ≡ with_messages w (reverse (cons_option (option_map (λ asked. record { asker = n; asked = asked; order = o; reply = None }) m) (messages_of rest)) ++ ls)
  told_or o rest place ls None later = later ls
  told_or o rest place ls (Some asked) later =
      let l : Message = record { asker = n; asked = asked; order = o; reply = None } in
      let turned : reverse (l ∷ messages_of rest) ++ ls ≡ reverse (messages_of rest) ++ l ∷ ls = ap (λ xs. xs ++ ls) (reverse-append (l ∷ []) (messages_of rest)) ∙ append_assoc (reverse (messages_of rest)) (l ∷ []) ls in
      later (l ∷ ls) ∙ ap (with_messages w) (sym turned)

  told_all : (rest front : List Order) → at_hand ≡ front ++ rest → (place : ℕ) → length front ≡ place → (ls : List Message) →
      run (tells_from b n stage clock place rest) (with_messages w ls) ≡ with_messages w (reverse (messages_of rest) ++ ls)
  told_all [] front e place at ls = refl
  told_all (o ∷ rest) front e place at ls = go (is_untold b o) (λ more. told_all rest (front ++ o ∷ []) (e ∙ sym (append_assoc front (o ∷ []) rest)) (place + 1) (length_push front o ∙ ap (λ k. k + 1) at) more)
    where
      go : (t : Bool) → ((more : List Message) → run (tells_from b n stage clock (place + 1) rest) (with_messages w more) ≡ with_messages w (reverse (messages_of rest) ++ more)) →
          run (cond t (Tell n stage clock place ∷ tells_from b n stage clock (place + 1) rest) (tells_from b n stage clock (place + 1) rest)) (with_messages w ls)
          ≡ with_messages w (reverse (filter_map (message_from n s.config) (cond t (o ∷ filter (is_untold b) rest) (filter (is_untold b) rest))) ++ ls)
      go false later = later ls
      go true later =
          ap (run (tells_from b n stage clock (place + 1) rest)) (ap (λ k. happens (with_messages w ls) (Tell n stage clock k)) (sym at) ∙ one_told front o rest e ls)
          ∙ told_or o rest (place + 1) ls (number_of s.config.peers o.to) later

  -- all of a host's orders are told that weren't
  pub turn_told : s.config.number ≡ n → run (tells_from b n stage clock 0 (orders s.book clock)) w ≡ with_messages w (reverse (sent_by b s clock) ++ w.messages)
  turn_told number =
      told_all (orders s.book clock) [] refl 0 refl w.messages
      ∙ ap (λ m. with_messages w (reverse (filter_map (message_from m s.config) (filter (is_untold b) (orders s.book clock))) ++ w.messages)) (sym number)

-- each may be told
pub tells_may : (b : Seen) (n stage clock : ℕ) → clock ≤ greatest_moment → (rest : List Order) (place : ℕ) (v : World) → MayRun v (tells_from b n stage clock place rest)
tells_may b n stage clock low [] place v = tt
tells_may b n stage clock low (o ∷ rest) place v = go (is_untold b o) (λ u. tells_may b n stage clock low rest (place + 1) u)
  where
    go : (t : Bool) → ((u : World) → MayRun u (tells_from b n stage clock (place + 1) rest)) → MayRun v (cond t (Tell n stage clock place ∷ tells_from b n stage clock (place + 1) rest) (tells_from b n stage clock (place + 1) rest))
    go true later = (low, later (happens v (Tell n stage clock place)))
    go false later = later v

-- ---- to whom
-- what holds of the number of each peer holds of that to which an order goes
pub peer_number : (P : ℕ → Type 0) (peers : List Peer) (name : List ℕ) (n : ℕ) → AllByRecursion (λ (p : Peer). P p.number) peers → number_of peers name ≡ Some n → P n
peer_number P [] name n all e = cc
peer_number P (p ∷ ps) name n all e = go (bytes_eq p.name name) e (λ f. peer_number P ps name n all.1 f)
  where
    go : (b : Bool) → option_map (λ (x : Peer). x.number) (cond b (Some p) (find (λ (x : Peer). bytes_eq x.name name) ps)) ≡ Some n → (number_of ps name ≡ Some n → P n) → P n
    go true f later = let number : p.number ≡ n = cc in subst P number all.0
    go false f later = later f

pub sent_all : (P : Message → Type 0) (Q : Order → Type 0) (c : Config) → ((o : Order) (asked : ℕ) → Q o → number_of c.peers o.to ≡ Some asked → P (record { asker = c.number; asked = asked; order = o; reply = None })) → (os : List Order)
    → All Q os → All P (filter_map (message_of c) os)
sent_all P Q c each os all = All-from_recursion P (filter_map (message_of c) os) (from os (recursion_from_All Q os all))
  where
    from : (xs : List Order) → AllByRecursion Q xs → AllByRecursion P (filter_map (message_of c) xs)
    from [] all = tt
    from (o ∷ xs) all = one o all.0 (filter_map (message_of c) xs) (number_of c.peers o.to) refl (from xs all.1)
      where
        one : (o : Order) → Q o → (ls : List Message) (m : Option ℕ) → number_of c.peers o.to ≡ m → AllByRecursion P ls → AllByRecursion P (cons_option (option_map (λ asked. record { asker = c.number; asked = asked; order = o; reply = None }) m) ls)
        one o own ls None e rest = rest
        one o own ls (Some asked) e rest = (each o asked own e, rest)
