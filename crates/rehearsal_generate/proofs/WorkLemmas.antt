-- The work over the play and over what is seen of it go alike.
use Rattle.std.specs.Prelude.{All, codes}
use Rattle.std.proofs.Common.{◌≡◌, ◌≤◌, ◌<◌, ◌+◌, ◌∙◌, Err, Ok, OnOk, Result, ℕ, zero, suc, Bool, true, false, List, [], ◌∷◌, ap, arith, length, refl, subst, sym}
use Rattle.std.proofs.lemmas.Nat.{mod_below}
use Rattle.ps_time.specs.Numbers.{greatest_moment}
use Rattle.ps_doors.specs.declared.archiver.Tried.TheVariants.{Succeeded}
use Rattle.rehearsal_script.specs.Lawful.{AreLawfulHosts}
use Rattle.rehearsal_script.specs.declared.script.ScriptHost.{ScriptHost}
use Rattle.rehearsal_script.specs.declared.script.ScriptLine.TheVariants as line
use Rattle.rehearsal_model.specs.Moves.{Move, Outcomes}
use Rattle.rehearsal_model.specs.Plays.{IsUnarmed, MayAct, MayMake}
use Rattle.rehearsal_model.specs.Simulations.{Action, Play, Simulation, first_play, first_simulation, kept_all, played, simulation_played}
use Rattle.rehearsal_model.proofs.UnarmedLemmas.{ArmsNone, action_unarmed, first_unarmed}
use Rattle.rehearsal_model.proofs.ActionLemmas.{IsAction, action_on, first_on, line_on}
use Rattle.rehearsal_generate.specs.Draws.{drawn, is_crash, is_loss, next_seed}
use Rattle.rehearsal_generate.specs.Posts.{body_of, partner_of, post_of, seed_after_post}
use Rattle.rehearsal_generate.specs.Shown.{Alike, IsSimulationOf}
use Rattle.rehearsal_generate.specs.Summary.{summary_of, summary_text}
use Rattle.rehearsal_generate.specs.Work.{crashed, first_tally, flown, handled, job, met, moment_of_post, plays, posted, posting, second, seconds, shows, tallied, turned, walked, work, work_hosts, worked}
use Rattle.rehearsal_generate.specs.declared.post.Post.{Post}
use Rattle.rehearsal_generate.specs.declared.tally.Tally.{Tally}

pub partner_within : (place : ℕ) → partner_of place < 8
partner_within place = mod_below (place + 1) 8 (omega arith)

pub place_within : (seed : ℕ) → (post_of seed).place < 8
unfolding post_of
place_within seed = mod_below (drawn (next_seed seed)) 8 (omega arith)

-- the work tries no archive
comes : Outcomes
comes archiver settings tried = Succeeded

module _ (hosts : List ScriptHost) (lawful : AreLawfulHosts hosts) (eight : length hosts ≡ 8) where
  there : (place : ℕ) → place < 8 → place < length hosts
  there place within = omega (arith, within, eight)

  made : (p : Play) (b : Simulation) → IsSimulationOf hosts p b → (m : ℕ) (action : Action) → IsAction hosts b action → MayAct b action → ArmsNone action → m ≤ greatest_moment → IsSimulationOf hosts (played hosts p m action) (simulation_played hosts b m action)
  made p b x m action is may none low = record {
    is = action_on hosts lawful p x.is m low action (subst (λ (y : Simulation). IsAction hosts y action) (sym x.simulation_so) is) (subst (λ (y : Simulation). MayAct y action) (sym x.simulation_so) may);
    simulation_so = ap (λ (y : Simulation). simulation_played hosts y m action) x.simulation_so;
    unarmed = action_unarmed hosts b x.unarmed action none;
  }

  -- ---- a message
  pub crash_seen : (test : Bool) (place clock : ℕ) → place < 8 → clock ≤ greatest_moment → (p : Play) (b : Simulation) → IsSimulationOf hosts p b → IsSimulationOf hosts (crashed (plays hosts) test place clock p) (crashed (shows hosts) test place clock b)
  crash_seen false place clock within low p b x = x
  crash_seen true place clock within low p b x = made p b x clock (Action.Reopens place clock) (there place within, low) tt tt low

  pub meet_seen : (test : Bool) (number clock : ℕ) → clock ≤ greatest_moment → (p : Play) (b : Simulation) → IsSimulationOf hosts p b → IsSimulationOf hosts (met (plays hosts) test number clock p) (met (shows hosts) test number clock b)
  meet_seen false number clock low p b x = made p b x clock (Action.Does (Move.Arrives number clock)) (tt, low) tt tt low
  meet_seen true number clock low p b x = made p b x clock (Action.Does (Move.Lost number)) (tt, tt) tt tt low

  same : (p : Play) (b : Simulation) → IsSimulationOf hosts p b → (t : Tally) → Alike hosts (p, t) (b, t)
  same p b x t = record { seen = x; tally = refl }

  -- it is enough to look at one tally
  lift : (f : Play × Tally → Play × Tally) (g : Simulation × Tally → Simulation × Tally) → ((p : Play) (b : Simulation) (t : Tally) → IsSimulationOf hosts p b → Alike hosts (f (p, t)) (g (b, t))) →
      (st : Play × Tally) (bt : Simulation × Tally) → Alike hosts st bt → Alike hosts (f st) (g bt)
  lift f g each st bt alike = subst (λ (t : Tally). Alike hosts (f st) (g (bt.0, t))) alike.tally (each st.0 bt.0 st.1 alike.seen)

  pub handle_same : (place clock number : ℕ) → place < 8 → clock ≤ greatest_moment → (p : Play) (b : Simulation) (t : Tally) → IsSimulationOf hosts p b → Alike hosts (handled (plays hosts) place clock number (p, t)) (handled (shows hosts) place clock number (b, t))
  unfolding handled
  handle_same place clock number within low p b t x =
      let seed : ℕ = next_seed t.seed in
      let p' : Play = crashed (plays hosts) (is_crash (drawn seed)) place clock p in
      let b' : Simulation = crashed (shows hosts) (is_crash (drawn seed)) place clock b in
      same (met (plays hosts) (is_loss (drawn seed)) number clock p') (met (shows hosts) (is_loss (drawn seed)) number clock b')
      (meet_seen (is_loss (drawn seed)) number clock low p' b' (crash_seen (is_crash (drawn seed)) place clock within low p b x)) (tallied seed number clock t)

  walk_alike : (place clock : ℕ) → place < 8 → clock ≤ greatest_moment → (ns : List ℕ) (st : Play × Tally) (bt : Simulation × Tally) → Alike hosts st bt → Alike hosts (walked (plays hosts) place clock ns st) (walked (shows hosts) place clock ns bt)
  walk_alike place clock within low [] st bt alike = alike
  walk_alike place clock within low (n ∷ ns) st bt alike =
      walk_alike place clock within low ns (handled (plays hosts) place clock n st) (handled (shows hosts) place clock n bt)
      (lift (handled (plays hosts) place clock n) (handled (shows hosts) place clock n) (handle_same place clock n within low) st bt alike)

  pub fly_same : (place clock : ℕ) → place < 8 → clock ≤ greatest_moment → (p : Play) (b : Simulation) (t : Tally) → IsSimulationOf hosts p b → Alike hosts (flown (plays hosts) place clock (p, t)) (flown (shows hosts) place clock (b, t))
  unfolding flown
  fly_same place clock within low p b t x =
      subst (λ (ns : List ℕ). Alike hosts (walked (plays hosts) place clock p.simulation.flying (p, t)) (walked (shows hosts) place clock ns (b, t))) (ap (λ (y : Simulation). y.flying) x.simulation_so)
      (walk_alike place clock within low p.simulation.flying (p, t) (b, t) (same p b x t))

  -- ---- a second
  pub one_turn : (place clock : ℕ) → place < 8 → clock ≤ greatest_moment → (p : Play) (b : Simulation) → IsSimulationOf hosts p b
      → IsSimulationOf hosts (played hosts p clock (Action.Does (Move.Turns place clock))) (simulation_played hosts b clock (Action.Does (Move.Turns place clock)))
  one_turn place clock within low p b x = made p b x clock (Action.Does (Move.Turns place clock)) (tt, (there place within, low)) tt tt low

  pub turn_seen : (place clock : ℕ) → place < 8 → clock ≤ greatest_moment → (p : Play) (b : Simulation) → IsSimulationOf hosts p b → IsSimulationOf hosts (turned (plays hosts) place clock p) (turned (shows hosts) place clock b)
  turn_seen place clock within low p b x =
      let turn : Action = Action.Does (Move.Turns place clock) in
      one_turn (partner_of place) clock (partner_within place) low (played hosts p clock turn) (simulation_played hosts b clock turn) (one_turn place clock within low p b x)

  pub second_same : (place clock : ℕ) → place < 8 → clock ≤ greatest_moment → (p : Play) (b : Simulation) (t : Tally) → IsSimulationOf hosts p b → Alike hosts (second (plays hosts) place clock (p, t)) (second (shows hosts) place clock (b, t))
  unfolding second
  second_same place clock within low p b t x =
      let p' : Play = turned (plays hosts) place clock p in
      let b' : Simulation = turned (shows hosts) place clock b in
      lift (flown (plays hosts) place clock) (flown (shows hosts) place clock) (fly_same place clock within low) (flown (plays hosts) place clock (p', t)) (flown (shows hosts) place clock (b', t))
      (fly_same place clock within low p' b' t (turn_seen place clock within low p b x))

  pub seconds_alike : (place start : ℕ) → place < 8 → (n : ℕ) → start + n ≤ greatest_moment → (st : Play × Tally) (bt : Simulation × Tally) → Alike hosts st bt → Alike hosts (seconds (plays hosts) place start n st) (seconds (shows hosts) place start n bt)
  seconds_alike place start within zero low st bt alike = alike
  seconds_alike place start within (suc n) low st bt alike =
      lift (second (plays hosts) place (start + n + 1)) (second (shows hosts) place (start + n + 1)) (second_same place (start + n + 1) within (omega (arith, low))) (seconds (plays hosts) place start n st) (seconds (shows hosts) place start n bt)
      (seconds_alike place start within n (omega (arith, low)) st bt alike)

  -- ---- a post
  -- it is one as a line of a script makes it
  pub post_seen : (clock : ℕ) (q : Post) → clock ≤ greatest_moment → q.place < 8 → (p : Play) (b : Simulation) → IsSimulationOf hosts p b → MayMake b (posting b clock q) → IsSimulationOf hosts (posted (plays hosts) clock q p) (posted (shows hosts) clock q b)
  unfolding posted
  post_seen clock q low within p b x may = record {
    is = line_on comes hosts lawful p x.is (line.Post clock q.place (codes "127.0.0.1") (body_of q)) (low, there q.place within, omega arith) (subst (λ (y : Simulation). MayMake y (posting y clock q)) (sym x.simulation_so) may);
    simulation_so = ap (λ (y : Simulation). simulation_played hosts y clock (Action.Does (posting y clock q))) x.simulation_so;
    unarmed = action_unarmed hosts b x.unarmed (Action.Does (posting b clock q)) tt;
  }

  in_time : (i : ℕ) → i < 2000 → moment_of_post i + 6 ≤ greatest_moment
  in_time i few = omega (arith, few)

  job_same : (i : ℕ) → i < 2000 → (p : Play) (b : Simulation) (t : Tally) → IsSimulationOf hosts p b → MayMake b (posting b (moment_of_post i) (post_of t.seed)) → Alike hosts (job (plays hosts) i (p, t)) (job (shows hosts) i (b, t))
  unfolding job
  job_same i few p b t x may =
      let clock : ℕ = moment_of_post i in
      let q : Post = post_of t.seed in
      let u : Tally = record t { seed = seed_after_post t.seed } in
      let within : q.place < 8 = place_within t.seed in
      let late : clock + 6 ≤ greatest_moment = in_time i few in
      let p' : Play = posted (plays hosts) clock q p in
      let b' : Simulation = posted (shows hosts) clock q b in
      seconds_alike q.place clock within 6 late (p', u) (b', u) (same p' b' (post_seen clock q (omega (arith, late)) within p b x may) u)

  pub job_alike : (i : ℕ) → i < 2000 → (st : Play × Tally) (bt : Simulation × Tally) → Alike hosts st bt → MayMake bt.0 (posting bt.0 (moment_of_post i) (post_of bt.1.seed)) → Alike hosts (job (plays hosts) i st) (job (shows hosts) i bt)
  job_alike i few st bt alike may =
      subst (λ (t : Tally). Alike hosts (job (plays hosts) i st) (job (shows hosts) i (bt.0, t))) alike.tally
      (job_same i few st.0 bt.0 st.1 alike.seen (subst (λ (t : Tally). MayMake bt.0 (posting bt.0 (moment_of_post i) (post_of t.seed))) (sym alike.tally) may))

  -- ---- all of it
  pub begun : (b : Simulation) (t : Tally) → b ≡ first_simulation hosts → t ≡ first_tally → Alike hosts (worked (plays hosts) 0 (first_play hosts)) (b, t)
  begun b t is none = record {
    seen = record { is = first_on hosts lawful; simulation_so = sym is; unarmed = subst (λ (x : Simulation). All IsUnarmed x.held_hosts) (sym is) (first_unarmed hosts) };
    tally = sym none;
  }

  -- one post more
  pub one_more : (i n : ℕ) → n ≡ i + 1 → i < 2000 → (b : Simulation) (t : Tally) (b' : Simulation) (t' : Tally) → Alike hosts (worked (plays hosts) i (first_play hosts)) (b, t)
      → MayMake b (posting b (moment_of_post i) (post_of t.seed)) → (b', t') ≡ job (shows hosts) i (b, t) → Alike hosts (worked (plays hosts) n (first_play hosts)) (b', t')
  one_more i n next few b t b' t' alike may is =
      let more : suc i ≡ n = omega (arith, next) in
      subst (λ (k : ℕ). Alike hosts (worked (plays hosts) k (first_play hosts)) (b', t')) more
      (subst (λ (x : Simulation × Tally). Alike hosts (job (plays hosts) i (worked (plays hosts) i (first_play hosts))) x) (sym is) (job_alike i few (worked (plays hosts) i (first_play hosts)) (b, t) alike may))

-- ---- steps that are made one after another
pub both_turned : (hosts : List ScriptHost) (place partner clock : ℕ) (b b1 b2 : Simulation) → b1 ≡ simulation_played hosts b clock (Action.Does (Move.Turns place clock)) → partner ≡ partner_of place → b2 ≡ simulation_played hosts b1 clock (Action.Does (Move.Turns partner clock))
    → b2 ≡ turned (shows hosts) place clock b
both_turned hosts place partner clock b b1 b2 one other two =
    two
    ∙ (ap (λ (k : ℕ). simulation_played hosts b1 clock (Action.Does (Move.Turns k clock))) other
    ∙ ap (λ (x : Simulation). simulation_played hosts x clock (Action.Does (Move.Turns (partner_of place) clock))) one)

pub second_is : (hosts : List ScriptHost) (place clock : ℕ) (b b1 : Simulation) (t : Tally) (x y : Simulation × Tally) → b1 ≡ turned (shows hosts) place clock b → x ≡ flown (shows hosts) place clock (b1, t) → y ≡ flown (shows hosts) place clock x
    → y ≡ second (shows hosts) place clock (b, t)
unfolding second
second_is hosts place clock b b1 t x y one two three =
    three ∙ ap (flown (shows hosts) place clock) (two ∙ ap (λ (s : Simulation). flown (shows hosts) place clock (s, t)) one)

-- ---- what is known once a call ended well
pub ok_then : {T E : Type 0} (P Q : Type 0) (r : Result T E) → OnOk r P → (P → Q) → OnOk r Q
ok_then P Q (Ok x) known more = more known
ok_then P Q (Err e) known more = tt

pub ok_always : {T E : Type 0} (P : Type 0) (r : Result T E) → P → OnOk r P
ok_always P (Ok x) known = known
ok_always P (Err e) known = tt

-- what so many posts come to
pub work_alike : (hosts : List ScriptHost) → hosts ≡ work_hosts → (count : ℕ) (bt : Simulation × Tally) → Alike hosts (worked (plays hosts) count (first_play hosts)) bt → Alike work_hosts (work count) bt
unfolding work
work_alike hosts is count bt alike = subst (λ (hs : List ScriptHost). Alike hs (worked (plays hs) count (first_play hs)) bt) is alike

-- no moment of it is later than the last one
pub last_low : (hosts : List ScriptHost) (p : Play) (b : Simulation) → IsSimulationOf hosts p b → b.last ≤ greatest_moment
last_low hosts p b x = subst (λ (y : Simulation). y.last ≤ greatest_moment) x.simulation_so (x.is.reaches kept_all).last

pub summary_is : (count : ℕ) (bt : Simulation × Tally) → Alike work_hosts (work count) bt → summary_text count bt.0 bt.1 ≡ summary_of count
unfolding summary_of
summary_is count bt alike =
    ap (λ (b : Simulation). summary_text count b bt.1) (sym alike.seen.simulation_so) ∙ ap (λ (t : Tally). summary_text count (work count).0.simulation t) (sym alike.tally)
