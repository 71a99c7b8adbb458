-- What is known of each world that a rehearsal comes to.
use Rattle.std.specs.Prelude.{All}
use Rattle.std.proofs.Common.{◌≡◌, ◌≢◌, ◌<◌, ◌≤◌, ◌-◌, ◌==◌, ◌∷◌, ℕ, Bool, true, false, cond, List, [], Option, Some, None, length, map, not, option_map, ap, refl, sym, ◌∙◌, subst}
use Rattle.std.proofs.lemmas.List.{length-map}
use Rattle.std.proofs.lemmas.List.Elements.{All-filter, All-map, All-same, All-weaker}
use Rattle.ps_time.specs.Numbers.{greatest_moment}
use Rattle.run_states.specs.declared.proposal.Proposal.{Proposal}
use Rattle.host_model.specs.Conditions.{IsConfig, IsInput, MayStep}
use Rattle.host_model.specs.Lawful.{Lawful}
use Rattle.host_model.specs.Propose.{find_peer}
use Rattle.host_model.specs.Step.{step_reply}
use Rattle.host_model.specs.declared.config.Config.{Config}
use Rattle.host_model.specs.declared.order.OrderBody.{OrderBody}
use Rattle.host_model.specs.declared.order.OrderBody.TheVariants as order
use Rattle.host_model.specs.declared.reply.Reply.{Reply}
use Rattle.host_model.proofs.StepFollows.{step_follows}
use Rattle.world_law.specs.Events.{brings, goes_to}
use Rattle.world_law.specs.Laws.{Once, Safe, SaysDiffers}
use Rattle.world_law.specs.World.{Message, Stage, aged, input_of}
use Rattle.world_law.proofs.Agreeing.{once_law, safe_law}
use Rattle.world_law.proofs.Invariant.{Inv, MessageOk}
use Rattle.world_law.proofs.Lawfulness.{lawful_now, right_now}
use Rattle.world_law.proofs.Messages.{order_in}
use Rattle.api_peer.specs.Replied.{IsReplyTo}
use Rattle.api_peer.specs.Told.{AreTold}
use Rattle.api_peer.specs.Widths.{HasWidths}
use Rattle.api_peer.proofs.AnswerLemmas.{replied}
use Rattle.rehearsal_script.specs.Lawful.{AreLawfulHosts, IsLawfulHost}
use Rattle.rehearsal_script.specs.declared.script.ScriptHost.{ScriptHost}
use Rattle.rehearsal_model.specs.Hosts.{config_numbered, host_numbered, name_numbered, others_of, peer_of}
use Rattle.rehearsal_model.specs.Moves.{place_numbered, receiver, reply_to}
use Rattle.rehearsal_model.specs.Reaching.{IsBetween, IsHost, IsKnown, IsScriptPeer, Reaches}
use Rattle.rehearsal_model.specs.Rehearsal.{Show, seen}
use Rattle.rehearsal_model.specs.Seen.{Seen, book_at, config_at, message, nobody, stage_at}
use Rattle.rehearsal_model.proofs.HostLemmas.{StandsAt, differ, first_right, found, host_at, is_number, name_known, stands}
use Rattle.rehearsal_model.proofs.KnownLemmas.{known_inv}
use Rattle.rehearsal_model.proofs.ListLemmas.{aged_is}
use Rattle.rehearsal_model.proofs.MoveLemmas.{goes_known, known}
use Rattle.rehearsal_model.proofs.SeenLemmas.{stage_is, stage_numbered}

-- among the peers of one host each other host is found
peer_found : (m n : ℕ) → n ≢ m → (hosts : List ScriptHost) → find_peer (map peer_of (others_of hosts m)) n ≡ option_map peer_of (host_numbered hosts n)
peer_found m n other [] = refl
peer_found m n other (g ∷ hs) = go (g.number == m) (g.number == n) refl refl (peer_found m n other hs)
  where
    go : (a b : Bool) → (g.number == m) ≡ a → (g.number == n) ≡ b → find_peer (map peer_of (others_of hs m)) n ≡ option_map peer_of (host_numbered hs n)
        → find_peer (map peer_of (cond (not a) (g ∷ others_of hs m) (others_of hs m))) n ≡ option_map peer_of (cond b (Some g) (host_numbered hs n))
    go true true is also rest = absurd (other (sym (is_number g.number n also) ∙ is_number g.number m is))
    go true false is also rest = rest
    go false true is also rest = rw also refl
    go false false is also rest = rw also rest

module _ (hosts : List ScriptHost) (lawful : AreLawfulHosts hosts) (s : Show) (reach : Reaches hosts s) where
  abbrev b : Seen
  b = seen hosts s

  inv : Inv s.world
  inv = known_inv hosts lawful s reach

  pub config_is : (place : ℕ) → place < length hosts → IsConfig (config_at b place)
  config_is place within =
      let x = host_at hosts place within in
      subst (λ (y : Stage). IsConfig y.config) (sym (stage_is hosts s.world place x.0 x.1)) (right_now step_follows s.world inv.orderly x.0.number).config

  pub safe : Safe s.world
  safe = subst Safe (sym reach.world) (safe_law step_follows (name_numbered hosts) (config_numbered hosts) (first_right hosts lawful) reach.events reach.may)

  pub book_lawful : (place : ℕ) → place < length hosts → Lawful (config_at b place).number (book_at b place)
  book_lawful place within =
      let x = host_at hosts place within in
      let here = (s.world.hosts x.0.number).now in
      subst (λ (y : Stage). Lawful y.config.number y.book) (sym (stage_is hosts s.world place x.0 x.1))
      (subst (λ k. Lawful k here.book) (sym (right_now step_follows s.world inv.orderly x.0.number).number) (lawful_now step_follows s.world inv.orderly x.0.number))

  pub told_at : (place : ℕ) → place < length hosts → AreTold (book_at b place)
  told_at place within = reach.told place nobody (subst (λ k. place < k) (sym (length-map hosts (λ (h : ScriptHost). (s.world.hosts h.number).now))) within)

  once : Once s.world
  once = subst Once (sym reach.world) (once_law step_follows (name_numbered hosts) (config_numbered hosts) (first_right hosts lawful) reach.events reach.may)

  -- of the host at a place
  pub peers_are : (place : ℕ) (h : ScriptHost) → StandsAt hosts place h → (config_at b place).peers ≡ map peer_of (others_of hosts h.number)
  peers_are place h at = ap (λ (c : Config). c.peers) (reach.configs place h at).1

  pub script_peers : (place : ℕ) → place < length hosts → All IsScriptPeer (config_at b place).peers
  script_peers place within =
      let x = host_at hosts place within in
      All-same IsScriptPeer (config_at b place).peers (map peer_of (others_of hosts x.0.number)) (peers_are place x.0 x.1)
      (All-map IsScriptPeer peer_of (others_of hosts x.0.number) (All-filter (λ g. not (g.number == x.0.number)) (λ g. IsScriptPeer (peer_of g)) hosts
      (All-weaker IsLawfulHost (λ g. IsScriptPeer (peer_of g)) (λ g ok. record { key = refl; authority = ok.name }) hosts lawful.hosts)))

  module _ (n : ℕ) (l : Message) (e : message b n ≡ Some l) where
    sent_as : aged s.world.messages (n - 1) ≡ Some l
    sent_as = sym (aged_is s.world.messages (n - 1)) ∙ e

    sent_message : MessageOk s.world l
    sent_message = inv.messages (n - 1) l sent_as

    between : IsBetween hosts l
    between = known hosts lawful s reach (n - 1) l sent_as

    goes : (r : Option Reply) → IsHost hosts (goes_to l r)
    goes r = goes_known hosts l between.asker between.asked r

    pub receiver_within : receiver hosts l < length hosts
    receiver_within = goes l.reply

    brought : (r : Option Reply) → l.reply ≡ r → IsInput (s.world.hosts (goes_to l r)).now.config (brings l r)
    brought None is = order_in s.world inv l.asker l.order.key l.order.body sent_message.bound (s.world.hosts l.asked).now.config l.asked (right_now step_follows s.world inv.orderly l.asked)
    brought (Some said) is = sent_message.heard said is

    pub brings_input : IsInput (config_at b (receiver hosts l)) (brings l l.reply)
    brings_input =
        let x = stands hosts (goes_to l l.reply) (goes l.reply) in
        subst (λ (y : Stage). IsInput y.config (brings l l.reply)) (sym (stage_numbered hosts (differ hosts lawful) s.world (place_numbered hosts (goes_to l l.reply)) x.0 x.1 (goes_to l l.reply) x.2)) (brought l.reply refl)

    -- the host to which an order comes knows the one whose order it is
    pub comes_known : l.reply ≡ None → IsKnown (config_at b (receiver hosts l)) l
    comes_known none =
        let place = place_numbered hosts l.asked in
        let x = stands hosts l.asked between.asked in
        let y = stands hosts l.asker between.asker in
        let other : l.asker ≢ x.0.number = λ same. between.apart (same ∙ x.2) in
        let asks : host_numbered hosts l.asker ≡ Some y.0 = ap (host_numbered hosts) (sym y.2) ∙ found hosts (differ hosts lawful) (place_numbered hosts l.asker) y.0 y.1 in
        let peer : find_peer (config_at b place).peers l.asker ≡ Some (peer_of y.0) =
        ap (λ ps. find_peer ps l.asker) (peers_are place x.0 x.1) ∙ (peer_found x.0.number l.asker other hosts ∙ ap (option_map peer_of) asks) in
        let named : y.0.name ≡ name_numbered hosts l.asker = sym (name_known hosts (differ hosts lawful) (place_numbered hosts l.asker) y.0 y.1) ∙ ap (name_numbered hosts) y.2 in
        subst (λ r. IsKnown (config_at b (place_numbered hosts (goes_to l r))) l) (sym none) (record {
          name = name_numbered hosts l.asker;
          knows = record { peer = peer_of y.0; found = peer; name = named; key = refl };
          bounds = between.bounds;
        })

    -- its host may be asked what it brings
    pub may_bring : (clock : ℕ) → clock ≤ greatest_moment → MayStep (config_at b (receiver hosts l)) (book_at b (receiver hosts l)) clock (brings l l.reply)
    may_bring clock low = record { config = config_is (receiver hosts l) receiver_within; book = book_lawful (receiver hosts l) receiver_within; moment = low; bounds = brings_input }

    pub receiver_told : AreTold (book_at b (receiver hosts l))
    receiver_told = told_at (receiver hosts l) receiver_within

    -- no proposal that comes differs from the row of its key
    never_differs : l.reply ≡ None → (clock : ℕ) (p : Proposal) → l.order.body ≡ order.Propose p → SaysDiffers (step_reply (config_at b (receiver hosts l)) (book_at b (receiver hosts l)) clock (input_of l.asker l.order.key l.order.body)) → ⊥
    never_differs none clock p is says =
        let x = stands hosts l.asked between.asked in
        let there : stage_at b (receiver hosts l) ≡ (s.world.hosts l.asked).now =
        ap (λ r. stage_at b (place_numbered hosts (goes_to l r))) none ∙ stage_numbered hosts (differ hosts lawful) s.world (place_numbered hosts l.asked) x.0 x.1 l.asked x.2 in
        let here = (s.world.hosts l.asked).now in
        (once (n - 1) l sent_as p is clock).alike
        (subst (λ (body : OrderBody). SaysDiffers (step_reply here.config here.book clock (input_of l.asker l.order.key body))) is
        (subst (λ (y : Stage). SaysDiffers (step_reply y.config y.book clock (input_of l.asker l.order.key l.order.body))) there says))

    pub replied_so : l.reply ≡ None → (clock : ℕ) → clock ≤ greatest_moment → HasWidths (reply_to hosts b clock l) → IsReplyTo l.order.body (reply_to hosts b clock l)
    replied_so none clock low widths =
        let c = config_at b (receiver hosts l) in
        let book = book_at b (receiver hosts l) in
        let asked = input_of l.asker l.order.key l.order.body in
        let same : brings l l.reply ≡ asked = ap (brings l) none in
        subst (λ i. HasWidths (step_reply c book clock i) → IsReplyTo l.order.body (step_reply c book clock i)) (sym same)
        (replied c book clock l.asker l.order.key l.order.body (subst (MayStep c book clock) same (may_bring clock low)) receiver_told (never_differs none clock)) widths
