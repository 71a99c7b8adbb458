-- What is known of the hosts stays known, action by action.
use Rattle.std.specs.Prelude.{All}
use Rattle.std.proofs.Common.{◌≡◌, ◌≤◌, ◌<◌, ℕ, Bool, List, arith, length, subst, sym}
use Rattle.ps_time.specs.Numbers.{greatest_moment}
use Rattle.rehearsal_script.specs.Lawful.{AreLawfulHosts}
use Rattle.rehearsal_script.specs.declared.script.ScriptHost.{ScriptHost}
use Rattle.rehearsal_model.specs.Moves.{Move}
use Rattle.rehearsal_model.specs.Plays.{MayMake}
use Rattle.rehearsal_model.specs.Reaching.{IsScriptPeer}
use Rattle.rehearsal_model.specs.Simulations.{Action, Play, Simulation, config_of, first_play, played, simulation_played}
use Rattle.psched_rehearse.specs.Ready.{IsReady}
use Rattle.psched_rehearse.specs.Playing.{IsPlaying}
use Rattle.psched_rehearse.proofs.PlayLemmas.{playing}
use Rattle.rehearsal_generate.specs.Shown.{Alike, IsSimulationOf, IsShown}
use Rattle.rehearsal_generate.specs.Work.{crashed, flown, handled, plays, posted, posting, second, shows, turned, work_hosts, worked}
use Rattle.rehearsal_generate.specs.declared.post.Post.{Post}
use Rattle.rehearsal_generate.specs.declared.tally.Tally.{Tally}
use Rattle.rehearsal_generate.proofs.HostLemmas.{eight_work, lawful_work}
use Rattle.rehearsal_generate.proofs.WorkLemmas.{crash_seen, fly_same, handle_same, one_turn, post_seen, second_same, turn_seen}

module _ (hosts : List ScriptHost) (b : Simulation) (shown : IsShown hosts b) where
  still : (p : Play) (after : Simulation) → IsSimulationOf hosts p after → IsShown hosts after
  still p after x = record { lawful = shown.lawful; eight = shown.eight; play = p; seen = x }

  -- ---- what a step asks
  pub is_playing : IsPlaying hosts b
  is_playing = subst (IsPlaying hosts) shown.seen.simulation_so (playing hosts shown.lawful shown.play shown.seen.is)

  pub peers : (place : ℕ) → place < 8 → All IsScriptPeer (config_of b place).peers
  peers place within = is_playing.peers place (omega (arith, within, is_playing.places, shown.eight))

  pub ready : (place clock : ℕ) → place < 8 → clock ≤ greatest_moment → IsReady b place clock
  ready place clock within low =
      let there : place < length b.held_hosts = omega (arith, within, is_playing.places, shown.eight) in
      let host = is_playing.hosts_are place there in
      record { there = there; config = host.0; book = host.1; in_time = low }

  -- ---- what it leaves
  pub shown_crashed : (test : Bool) (place clock : ℕ) → place < 8 → clock ≤ greatest_moment → IsShown hosts (crashed (shows hosts) test place clock b)
  shown_crashed test place clock within low =
      still (crashed (plays hosts) test place clock shown.play) (crashed (shows hosts) test place clock b) (crash_seen hosts shown.lawful shown.eight test place clock within low shown.play b shown.seen)

  pub shown_handled : (place clock number : ℕ) → place < 8 → clock ≤ greatest_moment → (t : Tally) → IsShown hosts (handled (shows hosts) place clock number (b, t)).0
  shown_handled place clock number within low t =
      still (handled (plays hosts) place clock number (shown.play, t)).0 (handled (shows hosts) place clock number (b, t)).0 (handle_same hosts shown.lawful shown.eight place clock number within low shown.play b t shown.seen).seen

  pub shown_flown : (place clock : ℕ) → place < 8 → clock ≤ greatest_moment → (t : Tally) → IsShown hosts (flown (shows hosts) place clock (b, t)).0
  shown_flown place clock within low t =
      still (flown (plays hosts) place clock (shown.play, t)).0 (flown (shows hosts) place clock (b, t)).0 (fly_same hosts shown.lawful shown.eight place clock within low shown.play b t shown.seen).seen

  pub shown_turned : (place clock : ℕ) → place < 8 → clock ≤ greatest_moment → IsShown hosts (simulation_played hosts b clock (Action.Does (Move.Turns place clock)))
  shown_turned place clock within low =
      let turn : Action = Action.Does (Move.Turns place clock) in
      still (played hosts shown.play clock turn) (simulation_played hosts b clock turn) (one_turn hosts shown.lawful shown.eight place clock within low shown.play b shown.seen)

  pub shown_turns : (place clock : ℕ) → place < 8 → clock ≤ greatest_moment → IsShown hosts (turned (shows hosts) place clock b)
  shown_turns place clock within low =
      still (turned (plays hosts) place clock shown.play) (turned (shows hosts) place clock b) (turn_seen hosts shown.lawful shown.eight place clock within low shown.play b shown.seen)

  pub shown_second : (place clock : ℕ) → place < 8 → clock ≤ greatest_moment → (t : Tally) → IsShown hosts (second (shows hosts) place clock (b, t)).0
  shown_second place clock within low t =
      still (second (plays hosts) place clock (shown.play, t)).0 (second (shows hosts) place clock (b, t)).0 (second_same hosts shown.lawful shown.eight place clock within low shown.play b t shown.seen).seen

  pub shown_posted : (clock : ℕ) (q : Post) → clock ≤ greatest_moment → q.place < 8 → MayMake b (posting b clock q) → IsShown hosts (posted (shows hosts) clock q b)
  shown_posted clock q low within may =
      still (posted (plays hosts) clock q shown.play) (posted (shows hosts) clock q b) (post_seen hosts shown.lawful shown.eight clock q low within shown.play b shown.seen may)

-- before each post
pub shown_worked : (hosts : List ScriptHost) → hosts ≡ work_hosts → (i : ℕ) (b : Simulation) (t : Tally) → Alike hosts (worked (plays hosts) i (first_play hosts)) (b, t) → IsShown hosts b
shown_worked hosts is i b t x = record {
  lawful = subst AreLawfulHosts (sym is) lawful_work;
  eight = subst (λ (hs : List ScriptHost). length hs ≡ 8) (sym is) eight_work;
  play = (worked (plays hosts) i (first_play hosts)).0;
  seen = x.seen;
}
