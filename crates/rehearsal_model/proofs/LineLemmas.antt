-- A move leads on: what is seen after it, and that its world is one that a rehearsal comes to.
use Rattle.std.specs.List.{list_any}
use Rattle.std.specs.Prelude.{All, IsTrue, filter, max, nat_le, set}
use Rattle.std.proofs.Common.{◌≡◌, ◌≢◌, ◌≤◌, ◌<◌, ◌+◌, ◌-◌, ◌&&◌, ◌==◌, inl, inr, ℕ, Bool, true, false, not, List, [], ◌∷◌, ◌++◌, length, map, get_or, reverse, slice_get, Option, Some, None, refl, sym, ap, ◌∙◌, subst, arith}
use Rattle.std.proofs.lemmas.Bool.{and_from, and_parts, both_ways, cases_eq, not-true, or_parts}
use Rattle.std.proofs.lemmas.Bool.Decides.{nat_tests}
use Rattle.std.proofs.lemmas.Grind.{get_or-set_at}
use Rattle.std.proofs.lemmas.List.{get_or-set_other, length-append, length-map, reverse-append, reverse-reverse}
use Rattle.std.proofs.lemmas.List.Elements.{All-append, All-cons, All-filter, All-map, All-nil, All-same, All-set, All-weaker, recursion_from_All}
use Rattle.std.proofs.lemmas.Option.{slice_get-get_or, slice_get_within}
use Rattle.ps_time.specs.Numbers.{greatest_moment}
use Rattle.ps_time.specs.declared.key.RunKey.{RunKey}
use Rattle.host_model.specs.Conditions.{IsInput, MayStep, numbers_differ}
use Rattle.host_model.specs.Step.{step_book}
use Rattle.host_model.specs.declared.config.Config.{Config}
use Rattle.host_model.specs.declared.config.Peer.{Peer}
use Rattle.host_model.specs.declared.input.Input.{Input}
use Rattle.host_model.specs.declared.input.Input.TheVariants as input
use Rattle.host_model.specs.declared.order.Order.{Order}
use Rattle.host_model.specs.declared.order.OrderBody.{OrderBody}
use Rattle.host_model.specs.declared.order.OrderBody.TheVariants as order
use Rattle.host_model.specs.declared.reply.Reply.{Reply}
use Rattle.host_model.specs.Orders.{orders}
use Rattle.host_model.proofs.StepFollows.{step_lawful}
use Rattle.world_law.specs.Events.{Cause, Event, MayRun, brings, is_inner, run}
use Rattle.world_law.specs.World.{Message, Stage, World, input_of, start}
use Rattle.api_peer.specs.Meant.{KeepsBounds}
use Rattle.api_peer.specs.Orderly.{IsSized}
use Rattle.api_peer.proofs.OrderLemmas.{orders_bound}
use Rattle.api_peer.proofs.OrderlySteps.{step_orderly}
use Rattle.api_peer.proofs.ToldSteps.{step_told}
use Rattle.rehearsal_script.specs.Lawful.{AreLawfulHosts}
use Rattle.rehearsal_script.specs.declared.script.ScriptHost.{ScriptHost}
use Rattle.rehearsal_script.specs.declared.script.Stop.{Stop}
use Rattle.machine_keep.specs.Crash.{keeps_step}
use Rattle.rehearsal_model.specs.After.{arrived_at, crashed_stage, cut_stage, moved_seen, stages_after}
use Rattle.rehearsal_model.specs.Hosts.{config_numbered, name_numbered, others_of, peer_of}
use Rattle.rehearsal_model.specs.Moves.{Move, flying_after, is_untold, joining, landed_with, numbers_from, receiver, replied, replies, still_flying, stops_after}
use Rattle.rehearsal_model.specs.Reaching.{IsAsFirst, IsBetween, IsHost, IsOrderlyStage, IsToldStage, MayAsk, MayMove, Reaches}
use Rattle.rehearsal_model.specs.Rehearsal.{Show, events_of, moved, retooled, seen}
use Rattle.rehearsal_model.specs.Seen.{Seen, acted, book_at, config_at, is_sent, message, nobody, stage_at}
use Rattle.rehearsal_model.proofs.HostLemmas.{StandsAt, differ, host_at, is_host, name_known, same_number}
use Rattle.rehearsal_model.proofs.ListLemmas.{aged_is, all_reverse}
use Rattle.rehearsal_model.proofs.MoveLemmas.{HasCause, IsMove, cut_config, goes_known, known, messages_moved, may_moved, stages_moved}
use Rattle.rehearsal_model.proofs.ReachLemmas.{book_lawful, brings_input, config_is, receiver_within, told_at}
use Rattle.rehearsal_model.proofs.SeenLemmas.{present, stage_in}
use Rattle.rehearsal_model.proofs.TurnLemmas.{peer_number, sent_all}
use Rattle.rehearsal_model.proofs.WorldLemmas.{may_more, run_more}

-- ---- configurations
abbrev ConfigsOf : List ScriptHost → List Stage → Type 0
ConfigsOf hosts xs = (place : ℕ) (h : ScriptHost) → StandsAt hosts place h → IsAsFirst hosts h (stage_in xs place).config

set_configs : (hosts : List ScriptHost) (xs : List Stage) → length xs ≡ length hosts → ConfigsOf hosts xs → (place : ℕ) (new : Stage) → ((h : ScriptHost) → StandsAt hosts place h → IsAsFirst hosts h new.config) → ConfigsOf hosts (set xs place new)
set_configs hosts xs long each place new here k h at = elim (cases_eq k place) [
  | inl is ↦ (
      let within : place < length xs = omega (arith, slice_get_within hosts k h at, is, long) in
      subst (λ (x : Stage). IsAsFirst hosts h x.config) (sym (get_or-set_at xs place k new nobody is within)) (here h (subst (λ j. StandsAt hosts j h) is at)))
  | inr other ↦ subst (λ (x : Stage). IsAsFirst hosts h x.config) (sym (get_or-set_other xs place k new nobody other)) (each k h at)
]

-- ---- numbers of messages
numbers_all : (P : ℕ → Type 0) (n : ℕ) (ls : List Message) → ((k : ℕ) → n ≤ k → k < n + length ls → P k) → All P (numbers_from n ls)
numbers_all P n [] each = All-nil P
numbers_all P n (l ∷ ls) each = All-cons P n (numbers_from (n + 1) ls) (each n (omega arith) (omega arith)) (numbers_all P (n + 1) ls (λ k low high. each k (omega (arith, low)) (omega (arith, high))))

pub is_within : (n count more : ℕ) → count ≤ more → IsTrue (nat_le 1 n && nat_le n count) → IsTrue (nat_le 1 n && nat_le n more)
is_within n count more le e =
    let parts = and_parts (nat_le 1 n) (nat_le n count) e in
    let first : nat_le n count ≡ true = parts.1 in
    and_from (nat_le 1 n) (nat_le n more) parts.0 (grind (arith, nat_tests, first, le))

is_new : (n count more : ℕ) → count + 1 ≤ n → n ≤ more → IsTrue (nat_le 1 n && nat_le n more)
is_new n count more low high = grind (arith, nat_tests)

-- ---- what keeps a book orderly
inner_sized : (i : Input) → is_inner i ≡ true → IsSized i
inner_sized (input.Post task requester) e = cc
inner_sized _ e = tt

asked_sized : (n : ℕ) (k : RunKey) (body : OrderBody) → IsSized (input_of n k body)
asked_sized n k (order.Free q) = tt
asked_sized n k (order.Propose p) = tt
asked_sized n k order.Confirm = tt
asked_sized n k order.Cancel = tt
asked_sized n k (order.Material text) = tt
asked_sized n k order.Result = tt

brings_sized : (l : Message) (r : Option Reply) → IsSized (brings l r)
brings_sized l None = asked_sized l.asker l.order.key l.order.body
brings_sized l (Some said) = tt

-- a number that no peer has
apart_all : (m : ℕ) (peers : List Peer) → list_any (λ other. other == m) (map (λ (p : Peer). p.number) peers) ≡ false → All (λ (p : Peer). m ≢ p.number) peers
apart_all m [] none = All-nil (λ (p : Peer). m ≢ p.number)
apart_all m (p ∷ ps) none =
    let parts = or_parts (p.number == m) (list_any (λ other. other == m) (map (λ (q : Peer). q.number) ps)) none in
    All-cons (λ (q : Peer). m ≢ q.number) p ps (λ same. both_ways (p.number == m) parts.0 (same_number p.number m (sym same))) (apart_all m ps parts.1)

-- ---- a move
abbrev seen_with : List Stage → List Message → List ℕ → ℕ → List (ℕ × Stop) → Seen
seen_with stages messages flying last stops = record { stages = stages; messages = messages; flying = flying; last = last; stops = stops }

module _ (hosts : List ScriptHost) (lawful : AreLawfulHosts hosts) (s : Show) (reach : Reaches hosts s) where
  abbrev b : Seen
  b = seen hosts s

  abbrev Known : Message → Type 0
  Known l = IsBetween hosts l

  abbrev world_after : Move → World
  world_after move = run (events_of hosts s move) s.world

  messages_seen : (move : Move) → IsMove hosts b move → reverse (world_after move).messages ≡ b.messages ++ joining hosts b move
  messages_seen move is =
      ap reverse (messages_moved hosts lawful s reach move is) ∙ reverse-append (reverse (joining hosts b move)) s.world.messages ∙ ap (λ xs. reverse s.world.messages ++ xs) (reverse-reverse (joining hosts b move))

  pub seen_moved : (m : ℕ) (move : Move) → IsMove hosts b move → seen hosts (moved hosts s m move) ≡ moved_seen hosts b m move
  seen_moved m move is =
      ap (λ x. seen_with x (reverse (world_after move).messages) (flying_after hosts b move) (max s.last m) (stops_after b move)) (stages_moved hosts lawful s reach move is)
      ∙ ap (λ x. seen_with (stages_after hosts b move) x (flying_after hosts b move) (max s.last m) (stops_after b move)) (messages_seen move is)

  -- ---- configurations
  long : length b.stages ≡ length hosts
  long = length-map hosts (λ (h : ScriptHost). (s.world.hosts h.number).now)

  configs_at : (place : ℕ) (new : Stage) → new.config ≡ config_at b place → ConfigsOf hosts (set b.stages place new)
  configs_at place new same = set_configs hosts b.stages long reach.configs place new (λ h at. subst (IsAsFirst hosts h) (sym same) (reach.configs place h at))

  configs_arrived : (clock : ℕ) (o : Option Message) → ConfigsOf hosts (arrived_at hosts b clock o)
  configs_arrived clock None = reach.configs
  configs_arrived clock (Some l) = configs_at (receiver hosts l) (acted (stage_at b (receiver hosts l)) clock (brings l l.reply)) refl

  configs_moved : (move : Move) → ConfigsOf hosts (stages_after hosts b move)
  configs_moved Move.Rests = reach.configs
  configs_moved (Move.Asks place clock i) = configs_at place (acted (stage_at b place) clock i) refl
  configs_moved (Move.Tries place clock i) = configs_at place (acted (stage_at b place) clock i) refl
  configs_moved (Move.Turns place clock) = configs_at place (acted (stage_at b place) clock input.Turn) refl
  configs_moved (Move.Retools place tools) =
      set_configs hosts b.stages long reach.configs place (record { config = retooled tools (config_at b place); book = (stage_at b place).book }) (λ h at. (tools, ap (retooled tools) (reach.configs place h at).1))
  configs_moved (Move.Reopens place clock) = configs_at place (acted (stage_at b place) clock input.Open) refl
  configs_moved (Move.Arrives n clock) = configs_arrived clock (message b n)
  configs_moved (Move.Lost n) = reach.configs
  configs_moved (Move.Arms place stop) = reach.configs
  configs_moved (Move.Crashes c) = configs_at c.place (crashed_stage c.stop (stage_at b c.place) c.clock c.asked) (cut_config (keeps_step c.stop.call c.stop.image) (stage_at b c.place) c.clock c.asked)
  configs_moved (Move.Breaks c kept) = configs_at c.place (cut_stage kept (stage_at b c.place) c.clock c.asked) (cut_config kept (stage_at b c.place) c.clock c.asked)

  -- ---- orderly books
  stage_orderly : (place : ℕ) → place < length hosts → IsOrderlyStage (stage_at b place)
  stage_orderly place within = reach.orderly place nobody (subst (λ k. place < k) (sym long) within)

  acted_orderly : (x : Stage) (clock : ℕ) (i : Input) → IsSized i → IsOrderlyStage x → IsOrderlyStage (acted x clock i)
  acted_orderly x clock i sized own = step_orderly x.config x.book clock i sized own

  cut_orderly : (kept : Bool) (x : Stage) (clock : ℕ) (i : Input) → IsSized i → IsOrderlyStage x → IsOrderlyStage (cut_stage kept x clock i)
  cut_orderly true x clock i sized own = acted_orderly x clock i sized own
  cut_orderly false x clock i sized own = own

  orderly_at : (place : ℕ) (new : Stage) → IsOrderlyStage new → All IsOrderlyStage (set b.stages place new)
  orderly_at place new own = All-set IsOrderlyStage b.stages place new own reach.orderly

  stepped_orderly : (place clock : ℕ) (i : Input) → place < length hosts → IsSized i → All IsOrderlyStage (set b.stages place (acted (stage_at b place) clock i))
  stepped_orderly place clock i within sized = orderly_at place (acted (stage_at b place) clock i) (acted_orderly (stage_at b place) clock i sized (stage_orderly place within))

  arrived_orderly : (clock : ℕ) (o : Option Message) → ((l : Message) → o ≡ Some l → Known l) → All IsOrderlyStage (arrived_at hosts b clock o)
  arrived_orderly clock None each = reach.orderly
  arrived_orderly clock (Some l) each =
      stepped_orderly (receiver hosts l) clock (brings l l.reply) (goes_known hosts l (each l refl).asker (each l refl).asked l.reply) (brings_sized l l.reply)

  cause_sized : (place : ℕ) (cause : Cause) (i : Input) → HasCause hosts b place cause i → IsSized i
  cause_sized place (Cause.ByClient j) i has = subst IsSized (sym has.0) has.2
  cause_sized place (Cause.ByInner j) i has = subst IsSized (sym has.0) (inner_sized j has.1)
  cause_sized place (Cause.ByMessage j) i has = subst IsSized (sym has.3) (brings_sized has.0 has.0.reply)
  cause_sized place (Cause.ByOpening c) i has = absurd has

  orderly_moved : (move : Move) → IsMove hosts b move → All IsOrderlyStage (stages_after hosts b move)
  orderly_moved Move.Rests is = reach.orderly
  orderly_moved (Move.Asks place clock i) is = stepped_orderly place clock i is.0 is.3
  orderly_moved (Move.Tries place clock i) is = stepped_orderly place clock i is.0 (inner_sized i is.2)
  orderly_moved (Move.Turns place clock) is = stepped_orderly place clock input.Turn is.0 tt
  orderly_moved (Move.Retools place tools) is = orderly_at place (record { config = retooled tools (config_at b place); book = book_at b place }) (stage_orderly place is.0)
  orderly_moved (Move.Reopens place clock) is = stepped_orderly place clock input.Open is.0 tt
  orderly_moved (Move.Arrives n clock) is = arrived_orderly clock (message b n) (λ l e. known hosts lawful s reach (n - 1) l (sym (aged_is s.world.messages (n - 1)) ∙ e))
  orderly_moved (Move.Lost n) is = reach.orderly
  orderly_moved (Move.Arms place stop) is = reach.orderly
  orderly_moved (Move.Crashes c) is =
      let kept : Bool = keeps_step c.stop.call c.stop.image in
      let left : Stage = cut_stage kept (stage_at b c.place) c.clock c.asked in
      orderly_at c.place (acted left c.clock input.Open) (acted_orderly left c.clock input.Open tt (cut_orderly kept (stage_at b c.place) c.clock c.asked (cause_sized c.place c.cause c.asked is.2) (stage_orderly c.place is.0)))
  orderly_moved (Move.Breaks c kept) is =
      orderly_at c.place (cut_stage kept (stage_at b c.place) c.clock c.asked) (cut_orderly kept (stage_at b c.place) c.clock c.asked (cause_sized c.place c.cause c.asked is.2) (stage_orderly c.place is.0))

  -- ---- results that are told
  may_step : (place clock : ℕ) (i : Input) → place < length hosts → clock ≤ greatest_moment → IsInput (config_at b place) i → MayStep (config_at b place) (book_at b place) clock i
  may_step place clock i within low asked = record { config = config_is hosts lawful s reach place within; book = book_lawful hosts lawful s reach place within; moment = low; bounds = asked }

  told_set : (place : ℕ) (new : Stage) → IsToldStage new → All IsToldStage (set b.stages place new)
  told_set place new told = All-set IsToldStage b.stages place new told reach.told

  stepped_told : (place clock : ℕ) (i : Input) → place < length hosts → clock ≤ greatest_moment → IsInput (config_at b place) i → All IsToldStage (set b.stages place (acted (stage_at b place) clock i))
  stepped_told place clock i within low asked =
      told_set place (acted (stage_at b place) clock i) (step_told (config_at b place) (book_at b place) clock i (may_step place clock i within low asked) (told_at hosts lawful s reach place within))

  arrived_told : (n clock : ℕ) (o : Option Message) → clock ≤ greatest_moment → message b n ≡ o → All IsToldStage (arrived_at hosts b clock o)
  arrived_told n clock None low e = reach.told
  arrived_told n clock (Some l) low e = stepped_told (receiver hosts l) clock (brings l l.reply) (receiver_within hosts lawful s reach n l e) low (brings_input hosts lawful s reach n l e)

  cause_asked : (place : ℕ) (cause : Cause) (i : Input) → HasCause hosts b place cause i → MayAsk (config_at b place) cause → IsInput (config_at b place) i
  cause_asked place (Cause.ByClient j) i has may = subst (IsInput (config_at b place)) (sym has.0) may
  cause_asked place (Cause.ByInner j) i has may = subst (IsInput (config_at b place)) (sym has.0) may
  cause_asked place (Cause.ByMessage j) i has may =
      let l : Message = has.0 in
      let back : j + 1 - 1 ≡ j = omega arith in
      let sent : message b (j + 1) ≡ Some l = ap (slice_get b.messages) back ∙ has.1 in
      subst (λ p. IsInput (config_at b p) i) (sym has.2) (subst (IsInput (config_at b (receiver hosts l))) (sym has.3) (brings_input hosts lawful s reach (j + 1) l sent))
  cause_asked place (Cause.ByOpening c) i has may = absurd has

  -- what is left where the step stopped is opened
  cut_told : (kept : Bool) (place clock : ℕ) (i : Input) → place < length hosts → clock ≤ greatest_moment → IsInput (config_at b place) i → IsToldStage (acted (cut_stage kept (stage_at b place) clock i) clock input.Open)
  cut_told true place clock i within low asked =
      let c = config_at b place in
      let may = may_step place clock i within low asked in
      let book = step_book c (book_at b place) clock i in
      step_told c book clock input.Open (record { config = may.config; book = step_lawful c (book_at b place) clock i may; moment = low; bounds = tt })
      (step_told c (book_at b place) clock i may (told_at hosts lawful s reach place within))
  cut_told false place clock i within low asked =
      step_told (config_at b place) (book_at b place) clock input.Open (may_step place clock input.Open within low tt) (told_at hosts lawful s reach place within)

  broken_told : (kept : Bool) (place clock : ℕ) (i : Input) → place < length hosts → clock ≤ greatest_moment → IsInput (config_at b place) i → IsToldStage (cut_stage kept (stage_at b place) clock i)
  broken_told true place clock i within low asked = step_told (config_at b place) (book_at b place) clock i (may_step place clock i within low asked) (told_at hosts lawful s reach place within)
  broken_told false place clock i within low asked = told_at hosts lawful s reach place within

  told_moved : (move : Move) → IsMove hosts b move → MayMove b move → All IsToldStage (stages_after hosts b move)
  told_moved Move.Rests is may = reach.told
  told_moved (Move.Asks place clock i) is may = stepped_told place clock i is.0 is.1 may
  told_moved (Move.Tries place clock i) is may = stepped_told place clock i is.0 is.1 may
  told_moved (Move.Turns place clock) is may = stepped_told place clock input.Turn is.0 is.1 tt
  told_moved (Move.Retools place tools) is may = told_set place (record { config = retooled tools (config_at b place); book = book_at b place }) (told_at hosts lawful s reach place is.0)
  told_moved (Move.Reopens place clock) is may = stepped_told place clock input.Open is.0 is.1 tt
  told_moved (Move.Arrives n clock) is may = arrived_told n clock (message b n) is refl
  told_moved (Move.Lost n) is may = reach.told
  told_moved (Move.Arms place stop) is may = reach.told
  told_moved (Move.Crashes c) is may =
      let kept : Bool = keeps_step c.stop.call c.stop.image in
      told_set c.place (crashed_stage c.stop (stage_at b c.place) c.clock c.asked) (cut_told kept c.place c.clock c.asked is.0 is.1 (cause_asked c.place c.cause c.asked is.2 may))
  told_moved (Move.Breaks c kept) is may =
      told_set c.place (cut_stage kept (stage_at b c.place) c.clock c.asked) (broken_told kept c.place c.clock c.asked is.0 is.1 (cause_asked c.place c.cause c.asked is.2 may))

  -- ---- messages
  module _ (place : ℕ) (within : place < length hosts) where
    abbrev h : ScriptHost
    h = (host_at hosts place within).0

    asker_known : IsHost hosts (config_at b place).number
    asker_known = subst (IsHost hosts) (sym (ap (λ (c : Config). c.number) (reach.configs place h (host_at hosts place within).1).1)) (is_host hosts (differ hosts lawful) place h (host_at hosts place within).1)

    peers_known : All (λ (p : Peer). IsHost hosts p.number) (config_at b place).peers
    peers_known =
        All-same (λ (p : Peer). IsHost hosts p.number) (config_at b place).peers (map peer_of (others_of hosts h.number)) (ap (λ (c : Config). c.peers) (reach.configs place h (host_at hosts place within).1).1)
        (All-map (λ (p : Peer). IsHost hosts p.number) peer_of (others_of hosts h.number) (All-filter (λ g. not (g.number == h.number)) (λ (g : ScriptHost). IsHost hosts g.number) hosts
        (λ k d lt. is_host hosts (differ hosts lawful) k (get_or hosts k d) (slice_get-get_or hosts k d lt))))

    -- the other hosts
    peers_apart : All (λ (p : Peer). IsHost hosts p.number × ((config_at b place).number ≢ p.number)) (config_at b place).peers
    peers_apart = λ k d lt. (peers_known k d lt, apart_all (config_at b place).number (config_at b place).peers own_number k d lt)
      where
        own_number : list_any (λ other. other == (config_at b place).number) (map (λ (p : Peer). p.number) (config_at b place).peers) ≡ false
        own_number = not-true _ (and_parts (not (list_any (λ other. other == (config_at b place).number) (map (λ (p : Peer). p.number) (config_at b place).peers))) (numbers_differ (map (λ (p : Peer). p.number) (config_at b place).peers)) (config_is hosts lawful s reach place within).numbers).0

    name_is : (config_at b place).name ≡ name_numbered hosts (config_at b place).number
    name_is =
        let first = (reach.configs place h (host_at hosts place within).1).1 in
        ap (λ (c : Config). c.name) first ∙ (sym (name_known hosts (differ hosts lawful) place h (host_at hosts place within).1) ∙ ap (λ (c : Config). name_numbered hosts c.number) (sym first))

    turned_bounds : (clock : ℕ) → clock ≤ greatest_moment → All (λ (o : Order). KeepsBounds (name_numbered hosts (config_at b place).number) o.body) (orders (acted (stage_at b place) clock input.Turn).book clock)
    turned_bounds clock low =
        let c = config_at b place in
        let book = book_at b place in
        let config = config_is hosts lawful s reach place within in
        let may : MayStep c book clock input.Turn = record { config = config; book = book_lawful hosts lawful s reach place within; moment = low; bounds = tt } in
        subst (λ name. All (λ (o : Order). KeepsBounds name o.body) (orders (step_book c book clock input.Turn) clock)) name_is
        (orders_bound c (step_book c book clock input.Turn) clock config (step_lawful c book clock input.Turn may) (step_orderly c book clock input.Turn tt (stage_orderly place within)))

    sent_known : (clock : ℕ) → clock ≤ greatest_moment → All Known (joining hosts b (Move.Turns place clock))
    sent_known clock low =
        let c = config_at b place in
        let Bound : Order → Type 0 = λ o. KeepsBounds (name_numbered hosts c.number) o.body in
        let listed : List Order = orders (acted (stage_at b place) clock input.Turn).book clock in
        sent_all Known Bound c
        (λ o asked keeps e.
        let other = peer_number (λ k. IsHost hosts k × (c.number ≢ k)) c.peers o.to asked (recursion_from_All (λ (p : Peer). IsHost hosts p.number × (c.number ≢ p.number)) c.peers peers_apart) e in
        record { asker = asker_known; asked = other.0; apart = other.1; bounds = keeps })
        (filter (is_untold b) listed) (All-filter (is_untold b) Bound listed (turned_bounds clock low))

  replied_known : (clock : ℕ) (l : Message) → Known l → (r : Option Reply) → All Known (replied hosts b clock l r)
  replied_known clock l ok None = All-cons Known (record l { reply = Some _ }) [] (record { asker = ok.asker; asked = ok.asked; apart = ok.apart; bounds = ok.bounds }) (All-nil Known)
  replied_known clock l ok (Some said) = All-nil Known

  replies_known : (clock : ℕ) (o : Option Message) → ((l : Message) → o ≡ Some l → Known l) → All Known (replies hosts b clock o)
  replies_known clock None each = All-nil Known
  replies_known clock (Some l) each = replied_known clock l (each l refl) l.reply

  joined_known : (move : Move) → IsMove hosts b move → All Known (joining hosts b move)
  joined_known Move.Rests is = All-nil Known
  joined_known (Move.Asks place clock i) is = All-nil Known
  joined_known (Move.Tries place clock i) is = All-nil Known
  joined_known (Move.Turns place clock) is = sent_known place is.0 clock is.1
  joined_known (Move.Retools place tools) is = All-nil Known
  joined_known (Move.Reopens place clock) is = All-nil Known
  joined_known (Move.Arrives n clock) is = replies_known clock (message b n) (λ l e. known hosts lawful s reach (n - 1) l (sym (aged_is s.world.messages (n - 1)) ∙ e))
  joined_known (Move.Lost n) is = All-nil Known
  joined_known (Move.Arms place stop) is = All-nil Known
  joined_known (Move.Crashes c) is = All-nil Known
  joined_known (Move.Breaks c kept) is = All-nil Known

  messages_all : (move : Move) → IsMove hosts b move → All Known (world_after move).messages
  messages_all move is =
      All-same Known (world_after move).messages (reverse (joining hosts b move) ++ s.world.messages) (messages_moved hosts lawful s reach move is)
      (All-append Known (reverse (joining hosts b move)) s.world.messages (all_reverse Known (joining hosts b move) (joined_known move is)) reach.messages)

  -- ---- messages in flight
  counted : (move : Move) → IsMove hosts b move → length (reverse (world_after move).messages) ≡ length b.messages + length (joining hosts b move)
  counted move is = ap length (messages_seen move is) ∙ length-append b.messages (joining hosts b move)

  landed_all : (P : ℕ → Type 0) → All P s.flying → (o : Option ℕ) → All P (landed_with o s.flying)
  landed_all P all None = all
  landed_all P all (Some n) = All-filter (λ f. not (f == n)) P s.flying all

  flying_all : (P : ℕ → Type 0) → All P s.flying → (move : Move) → All P (still_flying b move)
  flying_all P all Move.Rests = all
  flying_all P all (Move.Asks place clock i) = all
  flying_all P all (Move.Tries place clock i) = all
  flying_all P all (Move.Turns place clock) = all
  flying_all P all (Move.Retools place tools) = all
  flying_all P all (Move.Reopens place clock) = all
  flying_all P all (Move.Arrives n clock) = All-filter (λ f. not (f == n)) P s.flying all
  flying_all P all (Move.Lost n) = All-filter (λ f. not (f == n)) P s.flying all
  flying_all P all (Move.Arms place stop) = all
  flying_all P all (Move.Crashes c) = landed_all P all c.landing
  flying_all P all (Move.Breaks c kept) = landed_all P all c.landing

  flying_moved : (m : ℕ) (move : Move) → IsMove hosts b move → All (λ n. IsTrue (is_sent (seen hosts (moved hosts s m move)) n)) (flying_after hosts b move)
  flying_moved m move is =
      let js : List Message = joining hosts b move in
      let count : ℕ = length b.messages in
      let more : ℕ = length (reverse (world_after move).messages) in
      let sum : more ≡ count + length js = counted move is in
      All-append (λ n. IsTrue (is_sent (seen hosts (moved hosts s m move)) n)) (still_flying b move) (numbers_from (count + 1) js)
      (All-weaker (λ n. IsTrue (is_sent b n)) (λ n. IsTrue (nat_le 1 n && nat_le n more)) (λ n sent. is_within n count more (omega (arith, sum)) sent) (still_flying b move) (flying_all (λ n. IsTrue (is_sent b n)) reach.flying move))
      (numbers_all (λ n. IsTrue (nat_le 1 n && nat_le n more)) (count + 1) js (λ k low high. is_new k count more low (omega (arith, sum, high))))

  -- ---- it leads on
  pub reaches_moved : (m : ℕ) (move : Move) → IsMove hosts b move → MayMove b move → m ≤ greatest_moment → Reaches hosts (moved hosts s m move)
  reaches_moved m move is may low =
      let first : World = start (name_numbered hosts) (config_numbered hosts) in
      let events : List Event = events_of hosts s move in
      let last : s.last ≤ greatest_moment = reach.last in
      record {
        events = reach.events ++ events;
        may = may_more reach.events events first reach.may (subst (λ v. MayRun v events) reach.world (may_moved hosts lawful s reach move is may));
        world = ap (run events) reach.world ∙ sym (run_more reach.events events first);
        configs = subst (ConfigsOf hosts) (sym (stages_moved hosts lawful s reach move is)) (configs_moved move);
        orderly = All-same IsOrderlyStage (present hosts (world_after move)) (stages_after hosts b move) (stages_moved hosts lawful s reach move is) (orderly_moved move is);
        told = All-same IsToldStage (present hosts (world_after move)) (stages_after hosts b move) (stages_moved hosts lawful s reach move is) (told_moved move is may);
        messages = messages_all move is;
        flying = flying_moved m move is;
        last = omega (arith, last, low);
      }
