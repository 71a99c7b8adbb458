-- The move of each line, and its events: what each of them leaves of what is seen.
use Rattle.std.specs.List.{list_all}
use Rattle.std.specs.Prelude.{set}
use Rattle.std.proofs.Common.{◌≡◌, ◌≤◌, ◌<◌, ◌-◌, ℕ, suc, Bool, true, false, cond, List, [], ◌∷◌, ◌++◌, length, reverse, slice_get, Option, Some, None, Result, Ok, Err, refl, sym, ap, ◌∙◌, subst, arith}
use Rattle.std.proofs.lemmas.List.{set-set}
use Rattle.ps_time.specs.Numbers.{greatest_moment}
use Rattle.ps_http.specs.declared.message.Response.{Response}
use Rattle.plugin_core.specs.ReadTest.{all_differ}
use Rattle.task_spec.specs.ReadTask.{is_tool}
use Rattle.host_model.specs.Conditions.{IsInput}
use Rattle.host_model.specs.Orders.{orders}
use Rattle.host_model.specs.Step.{step_book, step_reply}
use Rattle.host_model.specs.declared.config.Config.{Config}
use Rattle.host_model.specs.declared.input.Input.{Input}
use Rattle.host_model.specs.declared.input.Input.TheVariants as input
use Rattle.host_model.specs.declared.lead.Due.{Due}
use Rattle.host_model.specs.declared.reply.Reply.{Reply}
use Rattle.host_model.proofs.StepFollows.{step_follows}
use Rattle.world_law.specs.Events.{Cause, Event, MayHappen, MayRun, Right, answered, arrived, brings, brought_to, config_by, cut, delivered, goes_to, happens, idle_stage, input_by, is_client, is_inner, reply_now, run, step_stage, stepped}
use Rattle.world_law.specs.World.{Message, Stage, World, aged, push, stages, start}
use Rattle.api_peer.specs.Orderly.{IsSized}
use Rattle.world_law.proofs.Lawfulness.{right_now}
use Rattle.world_law.proofs.Stages.{aged_last}
use Rattle.world_law.proofs.Worlds.{now_same, stages_same}
use Rattle.rehearsal_script.specs.Lawful.{AreLawfulHosts, IsLawfulLine}
use Rattle.rehearsal_script.specs.declared.script.ScriptHost.{ScriptHost}
use Rattle.rehearsal_script.specs.declared.script.ScriptLine.{ScriptLine}
use Rattle.rehearsal_script.specs.declared.script.ScriptLine.TheVariants as line
use Rattle.machine_keep.specs.Crash.{keeps_step}
use Rattle.rehearsal_model.specs.After.{arrived_at, crashed_stage, cut_stage, stages_after, stepped_at}
use Rattle.rehearsal_model.specs.Hosts.{config_numbered, first_config, name_numbered}
use Rattle.rehearsal_model.specs.Moves.{Crash, Move, Outcomes, asking, joining, moment_of_line, place_numbered, receiver, replied, replies, reply_to, sent_at, trying}
use Rattle.rehearsal_model.specs.Reaching.{IsBetween, IsHost, MayAsk, MayMove, Reaches}
use Rattle.rehearsal_model.specs.Rehearsal.{Show, events_of, number_at, retooled, seen}
use Rattle.rehearsal_model.specs.Seen.{Seen, acted, config_at, reply_at, stage_at}
use Rattle.rehearsal_model.proofs.HostLemmas.{differ, host_at, number_is, right_with, same_number, stands}
use Rattle.rehearsal_model.proofs.KnownLemmas.{known_inv}
use Rattle.rehearsal_model.proofs.ListLemmas.{aged_is, all_aged}
use Rattle.rehearsal_model.proofs.SeenLemmas.{present, pushed_at, stage_numbered, step_seen}
use Rattle.rehearsal_model.proofs.TurnLemmas.{tells_may, turn_told, with_messages}
use Rattle.rehearsal_model.proofs.WorldLemmas.{run_named}

-- ---- moves of lines
-- a host is asked this by that
abbrev pub HasCause : List ScriptHost → Seen → ℕ → Cause → Input → Type 0
HasCause hosts b place (Cause.ByClient i) asked = (asked ≡ i) × (is_client i ≡ true) × IsSized i
HasCause hosts b place (Cause.ByInner i) asked = (asked ≡ i) × (is_inner i ≡ true)
HasCause hosts b place (Cause.ByMessage j) asked = (l : Message) × (slice_get b.messages j ≡ Some l) × (place ≡ receiver hosts l) × (asked ≡ brings l l.reply)
HasCause hosts b place (Cause.ByOpening c) asked = ⊥

-- a move is about a host of the script, at a moment, and asks what may be asked there
abbrev pub IsMove : List ScriptHost → Seen → Move → Type 0
IsMove hosts b Move.Rests = Unit {0}
IsMove hosts b (Move.Asks place clock i) = (place < length hosts) × (clock ≤ greatest_moment) × (is_client i ≡ true) × IsSized i
IsMove hosts b (Move.Tries place clock i) = (place < length hosts) × (clock ≤ greatest_moment) × (is_inner i ≡ true)
IsMove hosts b (Move.Turns place clock) = (place < length hosts) × (clock ≤ greatest_moment)
IsMove hosts b (Move.Retools place tools) = (place < length hosts) × (list_all is_tool tools ≡ true) × (all_differ tools ≡ true)
IsMove hosts b (Move.Reopens place clock) = (place < length hosts) × (clock ≤ greatest_moment)
IsMove hosts b (Move.Arrives n clock) = clock ≤ greatest_moment
IsMove hosts b (Move.Lost n) = Unit {0}
IsMove hosts b (Move.Arms place stop) = Unit {0}
IsMove hosts b (Move.Crashes c) = (c.place < length hosts) × (c.clock ≤ greatest_moment) × HasCause hosts b c.place c.cause c.asked
IsMove hosts b (Move.Breaks c kept) = (c.place < length hosts) × (c.clock ≤ greatest_moment) × HasCause hosts b c.place c.cause c.asked

pub asking_is : (hosts : List ScriptHost) (b : Seen) (place clock : ℕ) (r : Result Input Response) → place < length hosts → clock ≤ greatest_moment → ((i : Input) → r ≡ Ok i → is_client i ≡ true) → ((i : Input) → r ≡ Ok i → IsSized i)
    → IsMove hosts b (asking place clock r)
asking_is hosts b place clock (Ok i) within low client sized = (within, low, client i refl, sized i refl)
asking_is hosts b place clock (Err response) within low client sized = tt

pub trying_is : (comes : Outcomes) (hosts : List ScriptHost) (b : Seen) (place clock : ℕ) (o : Option Due) → place < length hosts → clock ≤ greatest_moment → IsMove hosts b (trying comes place clock o)
trying_is comes hosts b place clock None within low = tt
trying_is comes hosts b place clock (Some d) within low = (within, low, refl)

-- no line is later than the last moment
pub moment_within : (hosts : ℕ) (l : ScriptLine) → IsLawfulLine hosts l → moment_of_line l ≤ greatest_moment
moment_within hosts (line.Host place) is = omega arith
moment_within hosts (line.Tools host tools) is = omega arith
moment_within hosts (line.Limits host limits) is = omega arith
moment_within hosts (line.Book at host class priority start len) is = is.0
moment_within hosts (line.Post at host address body) is = is.0
moment_within hosts (line.Get at host path) is = is.0
moment_within hosts (line.Delete at host address path) is = is.0
moment_within hosts (line.Turn at host) is = is.0
moment_within hosts (line.Archive at host) is = is.0
moment_within hosts (line.Crash at host stop) is = is.0
moment_within hosts (line.Fail at host call) is = is.0
moment_within hosts (line.Deliver at n) is = is
moment_within hosts (line.Repeat at n) is = is
moment_within hosts (line.Lose n) is = omega arith

-- ---- what the events of a move leave
pub cut_config : (kept : Bool) (s : Stage) (clock : ℕ) (i : Input) → (cut_stage kept s clock i).config ≡ s.config
cut_config true s clock i = refl
cut_config false s clock i = refl

pub goes_known : (hosts : List ScriptHost) (l : Message) → IsHost hosts l.asker → IsHost hosts l.asked → (r : Option Reply) → IsHost hosts (goes_to l r)
goes_known hosts l asker asked None = asked
goes_known hosts l asker asked (Some said) = asker

module _ (hosts : List ScriptHost) (lawful : AreLawfulHosts hosts) (s : Show) (reach : Reaches hosts s) where
  abbrev w : World
  w = s.world

  abbrev b : Seen
  b = seen hosts s

  abbrev Known : Message → Type 0
  Known l = IsBetween hosts l

  pub known : (j : ℕ) (l : Message) → aged w.messages j ≡ Some l → Known l
  known j l e = all_aged (IsBetween hosts) w.messages j l reach.messages e

  -- ---- the host at a place
  module _ (place : ℕ) (within : place < length hosts) where
    abbrev h : ScriptHost
    h = (host_at hosts place within).0

    abbrev n : ℕ
    n = number_at hosts place

    number : h.number ≡ n
    number = sym (number_is hosts place h (host_at hosts place within).1)

    stage_here : stage_at b place ≡ (w.hosts n).now
    stage_here = stage_numbered hosts (differ hosts lawful) w place h (host_at hosts place within).1 n number

    step_here : (clock : ℕ) (i : Input) → present hosts (stepped w n clock i) ≡ stepped_at b place clock i
    step_here clock i = step_seen hosts (differ hosts lawful) w place h (host_at hosts place within).1 n number clock i

    asked_stages : (clock : ℕ) (i : Input) → is_client i ≡ true → present hosts (cond (is_client i) (answered w n clock i) w) ≡ stepped_at b place clock i
    asked_stages clock i client = ap (λ t. present hosts (cond t (answered w n clock i) w)) client ∙ step_here clock i

    asked_messages : (clock : ℕ) (i : Input) → is_client i ≡ true → (cond (is_client i) (answered w n clock i) w).messages ≡ w.messages
    asked_messages clock i client = ap (λ t. (cond t (answered w n clock i) w).messages) client

    tried_stages : (clock : ℕ) (i : Input) → is_inner i ≡ true → present hosts (cond (is_inner i) (stepped w n clock i) w) ≡ stepped_at b place clock i
    tried_stages clock i inner = ap (λ t. present hosts (cond t (stepped w n clock i) w)) inner ∙ step_here clock i

    tried_messages : (clock : ℕ) (i : Input) → is_inner i ≡ true → (cond (is_inner i) (stepped w n clock i) w).messages ≡ w.messages
    tried_messages clock i inner = ap (λ t. (cond t (stepped w n clock i) w).messages) inner

    pub bounds_here : (i : Input) → IsInput (config_at b place) i → IsInput (w.hosts n).now.config i
    bounds_here i is = subst (λ x. IsInput x.config i) stage_here is

    -- ---- a turn
    module _ (clock : ℕ) where
      abbrev turned_stage : Stage
      turned_stage = acted (stage_at b place) clock input.Turn

      turned_there : aged (stages (stepped w n clock input.Turn) n) (suc (length (w.hosts n).before)) ≡ Some turned_stage
      turned_there =
          let new : Stage = acted (w.hosts n).now clock input.Turn in
          subst (λ xs. aged xs (length (stages w n)) ≡ Some new) (sym (stages_same w n new)) (aged_last new (stages w n)) ∙ ap (λ x. Some (acted x clock input.Turn)) (sym stage_here)

      turned : run (events_of hosts s (Move.Turns place clock)) w ≡ with_messages (stepped w n clock input.Turn) (reverse (sent_at b place clock) ++ w.messages)
      turned = turn_told b (stepped w n clock input.Turn) n (suc (length (w.hosts n).before)) clock turned_stage turned_there (ap (λ c. c.number) (reach.configs place h (host_at hosts place within).1).1 ∙ number)

    -- ---- other tools
    retooled_stages : (tools : List (List ℕ)) → present hosts (run (events_of hosts s (Move.Retools place tools)) w) ≡ stages_after hosts b (Move.Retools place tools)
    retooled_stages tools =
        pushed_at hosts (differ hosts lawful) w place h (host_at hosts place within).1 n number (idle_stage w n (retooled tools (config_at b place)))
        ∙ ap (λ x. set b.stages place (record { config = retooled tools (config_at b place); book = x.book })) (sym stage_here)

    retooled_right : (tools : List (List ℕ)) → list_all is_tool tools ≡ true → all_differ tools ≡ true → Right w.names n (retooled tools (config_at b place))
    retooled_right tools known different =
        let names : w.names ≡ name_numbered hosts = ap (λ v. v.names) reach.world ∙ run_named reach.events (start (name_numbered hosts) (config_numbered hosts)) in
        let first : retooled tools (config_at b place) ≡ retooled tools (first_config hosts h) = ap (retooled tools) (reach.configs place h (host_at hosts place within).1).1 in
        subst (λ ns. Right ns n (retooled tools (config_at b place))) (sym names) (subst (λ k. Right (name_numbered hosts) k (retooled tools (config_at b place))) number (subst (λ c. Right (name_numbered hosts) h.number c) (sym first) (right_with hosts lawful place h (host_at hosts place within).1 tools known different)))

    -- ---- opened again, under the same configuration
    reopened_stages : (clock : ℕ) → present hosts (push w n (step_stage w n clock (config_at b place) input.Open)) ≡ stepped_at b place clock input.Open
    reopened_stages clock = ap (λ x. present hosts (push w n (step_stage w n clock x.config input.Open))) stage_here ∙ step_here clock input.Open

    config_right : Right w.names n (config_at b place)
    config_right = subst (λ x. Right w.names n x.config) (sym stage_here) (right_now step_follows w (known_inv hosts lawful s reach).orderly n)

  -- ---- a message that arrives
  module _ (clock : ℕ) (l : Message) where
    arrived_stages : (r : Option Reply) → IsHost hosts (goes_to l r) → present hosts (arrived w clock l r) ≡ stepped_at b (place_numbered hosts (goes_to l r)) clock (brings l r)
    arrived_stages None is = let x = stands hosts l.asked is in step_seen hosts (differ hosts lawful) w (place_numbered hosts l.asked) x.0 x.1 l.asked x.2 clock (brings l None)
    arrived_stages (Some said) is = let x = stands hosts l.asker is in step_seen hosts (differ hosts lawful) w (place_numbered hosts l.asker) x.0 x.1 l.asker x.2 clock (brings l (Some said))

    arrived_messages : (r : Option Reply) → l.reply ≡ r → IsHost hosts (goes_to l r) → (arrived w clock l r).messages ≡ reverse (replied hosts b clock l r) ++ w.messages
    arrived_messages None e is =
        let x = stands hosts l.asked is in
        let stage : stage_at b (place_numbered hosts l.asked) ≡ (w.hosts l.asked).now = stage_numbered hosts (differ hosts lawful) w (place_numbered hosts l.asked) x.0 x.1 l.asked x.2 in
        let same : reply_now w l.asked clock (brings l None) ≡ reply_to hosts b clock l =
        ap (λ y. step_reply y.config y.book clock (brings l None)) (sym stage) ∙ ap (λ y. reply_at b (place_numbered hosts (goes_to l y)) clock (brings l y)) (sym e) in
        ap (λ said. record l { reply = Some said } ∷ w.messages) same
    arrived_messages (Some said) e is = refl

  delivered_stages : (clock : ℕ) (o : Option Message) → ((l : Message) → o ≡ Some l → Known l) → present hosts (delivered w clock o) ≡ arrived_at hosts b clock o
  delivered_stages clock None each = refl
  delivered_stages clock (Some l) each = arrived_stages clock l l.reply (goes_known hosts l (each l refl).asker (each l refl).asked l.reply)

  delivered_messages : (clock : ℕ) (o : Option Message) → ((l : Message) → o ≡ Some l → Known l) → (delivered w clock o).messages ≡ reverse (replies hosts b clock o) ++ w.messages
  delivered_messages clock None each = refl
  delivered_messages clock (Some l) each = arrived_messages clock l l.reply refl (goes_known hosts l (each l refl).asker (each l refl).asked l.reply)

  -- ---- a step that stops
  -- what a cause has the host act on, and under which configuration
  cause_input : (place : ℕ) → place < length hosts → (cause : Cause) (i : Input) → HasCause hosts b place cause i → input_by w (number_at hosts place) cause ≡ Some i
  cause_input place within (Cause.ByClient j) i has = ap (λ t. cond t (Some j) None) has.1 ∙ ap Some (sym has.0)
  cause_input place within (Cause.ByInner j) i has = ap (λ t. cond t (Some j) None) has.1 ∙ ap Some (sym has.0)
  cause_input place within (Cause.ByMessage j) i has =
      let l : Message = has.0 in
      let sent : aged w.messages j ≡ Some l = sym (aged_is w.messages j) ∙ has.1 in
      let x = stands hosts (goes_to l l.reply) (subst (λ p. p < length hosts) has.2 within) in
      let number : goes_to l l.reply ≡ number_at hosts place = sym (ap (number_at hosts) has.2 ∙ (number_is hosts (receiver hosts l) x.0 x.1 ∙ x.2)) in
      ap (brought_to (number_at hosts place)) sent
      ∙ (ap (λ t. cond t (Some (brings l l.reply)) None) (same_number (goes_to l l.reply) (number_at hosts place) number)
      ∙ ap Some (sym has.3))
  cause_input place within (Cause.ByOpening c) i has = absurd has

  cause_config : (place : ℕ) (n : ℕ) (cause : Cause) (i : Input) → HasCause hosts b place cause i → config_by w n cause ≡ (w.hosts n).now.config
  cause_config place n (Cause.ByClient j) i has = refl
  cause_config place n (Cause.ByInner j) i has = refl
  cause_config place n (Cause.ByMessage j) i has = refl
  cause_config place n (Cause.ByOpening c) i has = absurd has

  -- the step is kept, or it isn't
  cut_is : (n clock : ℕ) (i : Input) (kept : Bool) → cut w n clock (w.hosts n).now.config (Some i) kept ≡ push w n (cut_stage kept (w.hosts n).now clock i)
  cut_is n clock i true = refl
  cut_is n clock i false = refl

  cut_messages : (n clock : ℕ) (c : Config) (o : Option Input) (kept : Bool) → (cut w n clock c o kept).messages ≡ w.messages
  cut_messages n clock c None kept = refl
  cut_messages n clock c (Some i) true = refl
  cut_messages n clock c (Some i) false = refl

  module _ (c : Crash) (is : IsMove hosts b (Move.Crashes c)) (kept : Bool) where
    abbrev m : ℕ
    m = number_at hosts c.place

    -- the stage in which the step leaves the host
    abbrev left : Stage
    left = cut_stage kept (w.hosts m).now c.clock c.asked

    cut_here : happens w (Event.Cut m c.clock c.cause kept) ≡ push w m left
    cut_here =
        ap (λ x. cut w m c.clock x (input_by w m c.cause) kept) (cause_config c.place m c.cause c.asked is.2)
        ∙ (ap (λ o. cut w m c.clock (w.hosts m).now.config o kept) (cause_input c.place is.0 c.cause c.asked is.2)
        ∙ cut_is m c.clock c.asked kept)

    broken_stages : present hosts (happens w (Event.Cut m c.clock c.cause kept)) ≡ set b.stages c.place (cut_stage kept (stage_at b c.place) c.clock c.asked)
    broken_stages =
        let x = host_at hosts c.place is.0 in
        ap (present hosts) cut_here
        ∙ (pushed_at hosts (differ hosts lawful) w c.place x.0 x.1 m (number c.place is.0) left
        ∙ ap (λ (y : Stage). set b.stages c.place (cut_stage kept y c.clock c.asked)) (sym (stage_here c.place is.0)))

    broken_messages : (happens w (Event.Cut m c.clock c.cause kept)).messages ≡ w.messages
    broken_messages = cut_messages m c.clock (config_by w m c.cause) (input_by w m c.cause) kept

    cut_may : (cause : Cause) → HasCause hosts b c.place cause c.asked → MayAsk (config_at b c.place) cause → MayHappen w (Event.Cut m c.clock cause kept)
    cut_may (Cause.ByClient i) has may = (is.1, bounds_here c.place is.0 i may)
    cut_may (Cause.ByInner i) has may = (is.1, bounds_here c.place is.0 i may)
    cut_may (Cause.ByMessage j) has may = is.1
    cut_may (Cause.ByOpening d) has may = absurd has

  -- and the host is opened again
  module _ (c : Crash) (is : IsMove hosts b (Move.Crashes c)) where
    abbrev kept : Bool
    kept = keeps_step c.stop.call c.stop.image

    abbrev own : ℕ
    own = number_at hosts c.place

    abbrev halted : Stage
    halted = cut_stage kept (w.hosts own).now c.clock c.asked

    abbrev opened : Stage
    opened = step_stage (push w own halted) own c.clock (config_at b c.place) input.Open

    opened_is : opened ≡ crashed_stage c.stop (stage_at b c.place) c.clock c.asked
    opened_is =
        let here : Stage = cut_stage kept (stage_at b c.place) c.clock c.asked in
        ap (λ x. record { config = config_at b c.place; book = step_book (config_at b c.place) x.book c.clock input.Open }) (now_same w own halted)
        ∙ (ap (λ (x : Stage). record { config = config_at b c.place; book = step_book (config_at b c.place) (cut_stage kept x c.clock c.asked).book c.clock input.Open }) (sym (stage_here c.place is.0))
        ∙ ap (λ x. record { config = x; book = step_book x here.book c.clock input.Open }) (sym (cut_config kept (stage_at b c.place) c.clock c.asked)))

    crashed_stages : present hosts (run (events_of hosts s (Move.Crashes c)) w) ≡ stages_after hosts b (Move.Crashes c)
    crashed_stages =
        let x = host_at hosts c.place is.0 in
        let at = pushed_at hosts (differ hosts lawful) in
        ap (λ v. present hosts (happens v (Event.Reopen own c.clock (config_at b c.place)))) (cut_here c is kept)
        ∙ (at (push w own halted) c.place x.0 x.1 own (number c.place is.0) opened
        ∙ (ap (λ xs. set xs c.place opened) (at w c.place x.0 x.1 own (number c.place is.0) halted)
        ∙ (set-set b.stages c.place halted opened
        ∙ ap (set b.stages c.place) opened_is)))

    crashed_messages : (run (events_of hosts s (Move.Crashes c)) w).messages ≡ w.messages
    crashed_messages = broken_messages c is kept

    crash_may : MayMove b (Move.Crashes c) → MayRun w (events_of hosts s (Move.Crashes c))
    crash_may may =
        let named = run_named (Event.Cut own c.clock c.cause kept ∷ []) w in
        (cut_may c is kept c.cause is.2 may, ((is.1, subst (λ ns. Right ns own (config_at b c.place)) (sym named) (config_right c.place is.0)), tt))

  -- ---- every move
  pub stages_moved : (move : Move) → IsMove hosts b move → present hosts (run (events_of hosts s move) w) ≡ stages_after hosts b move
  stages_moved Move.Rests is = refl
  stages_moved (Move.Asks place clock i) is = asked_stages place is.0 clock i is.2
  stages_moved (Move.Tries place clock i) is = tried_stages place is.0 clock i is.2
  stages_moved (Move.Turns place clock) is = ap (present hosts) (turned place is.0 clock) ∙ step_here place is.0 clock input.Turn
  stages_moved (Move.Retools place tools) is = retooled_stages place is.0 tools
  stages_moved (Move.Reopens place clock) is = reopened_stages place is.0 clock
  stages_moved (Move.Arrives n clock) is = delivered_stages clock (aged w.messages (n - 1)) (known (n - 1)) ∙ ap (arrived_at hosts b clock) (sym (aged_is w.messages (n - 1)))
  stages_moved (Move.Lost n) is = refl
  stages_moved (Move.Arms place stop) is = refl
  stages_moved (Move.Crashes c) is = crashed_stages c is
  stages_moved (Move.Breaks c kept) is = broken_stages c is kept

  pub messages_moved : (move : Move) → IsMove hosts b move → (run (events_of hosts s move) w).messages ≡ reverse (joining hosts b move) ++ w.messages
  messages_moved Move.Rests is = refl
  messages_moved (Move.Asks place clock i) is = asked_messages place is.0 clock i is.2
  messages_moved (Move.Tries place clock i) is = tried_messages place is.0 clock i is.2
  messages_moved (Move.Turns place clock) is = ap (λ v. v.messages) (turned place is.0 clock)
  messages_moved (Move.Retools place tools) is = refl
  messages_moved (Move.Reopens place clock) is = refl
  messages_moved (Move.Arrives n clock) is = delivered_messages clock (aged w.messages (n - 1)) (known (n - 1)) ∙ ap (λ o. reverse (replies hosts b clock o) ++ w.messages) (sym (aged_is w.messages (n - 1)))
  messages_moved (Move.Lost n) is = refl
  messages_moved (Move.Arms place stop) is = refl
  messages_moved (Move.Crashes c) is = crashed_messages c is
  messages_moved (Move.Breaks c kept) is = broken_messages c is kept

  -- its events may happen
  pub may_moved : (move : Move) → IsMove hosts b move → MayMove b move → MayRun w (events_of hosts s move)
  may_moved Move.Rests is may = tt
  may_moved (Move.Asks place clock i) is may = ((is.1, bounds_here place is.0 i may), tt)
  may_moved (Move.Tries place clock i) is may = ((is.1, bounds_here place is.0 i may), tt)
  may_moved (Move.Turns place clock) is may =
      ((is.1, tt), tells_may b (number_at hosts place) (suc (length (w.hosts (number_at hosts place)).before)) clock is.1 (orders (acted (stage_at b place) clock input.Turn).book clock) 0 (stepped w (number_at hosts place) clock input.Turn))
  may_moved (Move.Retools place tools) is may = (retooled_right place is.0 tools is.1 is.2, tt)
  may_moved (Move.Reopens place clock) is may = ((is.1, config_right place is.0), tt)
  may_moved (Move.Arrives n clock) is may = (is, tt)
  may_moved (Move.Lost n) is may = (tt, tt)
  may_moved (Move.Arms place stop) is may = tt
  may_moved (Move.Crashes c) is may = crash_may c is may
  may_moved (Move.Breaks c kept) is may = (cut_may c is kept c.cause is.2 may, tt)
  -- ---- a move whose step may be to stop
