-- A rehearsal, line by line: what is known of it before each line, and what was reported so far.
use Rattle.std.proofs.Common.{◌≡◌, ◌≤◌, ◌<◌, ◌++◌, ◌∙◌, ◌∷◌, [], ℕ, List, All, Some, ap, append_assoc, get_or, length, subst, sym}
use Rattle.std.proofs.lemmas.List.{append-nil}
use Rattle.std.proofs.lemmas.List.Elements.{All-from_get_or}
use Rattle.std.proofs.lemmas.Option.{slice_get-get_or}
use Rattle.ps_time.specs.Numbers.{greatest_moment}
use Rattle.host_model.specs.Conditions.{IsConfig, IsInput}
use Rattle.host_model.specs.Lawful.{Lawful}
use Rattle.api_peer.specs.Replied.{IsReplyTo}
use Rattle.api_peer.specs.Widths.{HasWidths}
use Rattle.rehearsal_script.specs.Lawful.{AreLawfulHosts, IsLawfulLine}
use Rattle.rehearsal_script.specs.declared.script.Numbered.{Numbered}
use Rattle.rehearsal_script.specs.declared.script.ScriptHost.{ScriptHost}
use Rattle.simulated_machine.specs.Held.{Held}
use Rattle.world_law.specs.Events.{brings}
use Rattle.world_law.specs.Laws.{Safe}
use Rattle.world_law.specs.World.{Message, Stage}
use Rattle.rehearsal_report.specs.Line.{line_text}
use Rattle.rehearsal_model.specs.Hosts.{first_config}
use Rattle.rehearsal_model.specs.Moves.{Outcomes, receiver, reply_to}
use Rattle.rehearsal_model.specs.Plays.{IsPlay, MayLine}
use Rattle.rehearsal_model.specs.Reaching.{IsKnown, IsScriptPeer, Reaches}
use Rattle.rehearsal_model.specs.Rehearsal.{Show, seen}
use Rattle.rehearsal_model.specs.Simulations.{Play, Simulation, as_read, first_play, first_simulation, UnsyncedKept, kept_all, nobody_held, play_line, play_lines, simulation_line, simulation_lines, held_at, show_by}
use Rattle.rehearsal_model.specs.Seen.{Seen, message, stage_at}
use Rattle.rehearsal_model.specs.Telling.{line_said, lines_said}
use Rattle.rehearsal_model.proofs.ActionLemmas.{line_on}
use Rattle.rehearsal_model.proofs.HostLemmas.{right_first}
use Rattle.rehearsal_model.proofs.ReachLemmas.{book_lawful, brings_input, comes_known, config_is, receiver_within, replied_so, script_peers}
use Rattle.rehearsal_model.proofs.SimulationLemmas.{stage_chosen}
use Rattle.rehearsal_lines.specs.Playing.{IsPlaying}

pub playing : (hosts : List ScriptHost) → AreLawfulHosts hosts → (p : Play) → IsPlay hosts p → IsPlaying hosts p.simulation
playing hosts lawful p is =
    let b : Simulation = p.simulation in
    let s : Show = show_by kept_all p in
    let reach : Reaches hosts s = is.reaches kept_all in
    let sees : seen hosts s ≡ as_read b = is.sees kept_all in
    let stage : (place : ℕ) → stage_at (seen hosts s) place ≡ (held_at b place).state = λ place. ap (λ (x : Seen). stage_at x place) sees ∙ stage_chosen kept_all b place in
    let sent : (n : ℕ) (l : Message) → message (as_read b) n ≡ Some l → message (seen hosts s) n ≡ Some l = λ n l e. ap (λ (x : Seen). message x n) sees ∙ e in
    record {
      places = is.long;
      hosts_are = λ place within. (
        subst (λ (x : Stage). IsConfig x.config) (stage place) (config_is hosts lawful s reach place (subst (λ n. place < n) is.long within)),
        subst (λ (x : Stage). Lawful x.config.number x.book) (stage place) (book_lawful hosts lawful s reach place (subst (λ n. place < n) is.long within)),
      );
      receivers = λ n l e. receiver_within hosts lawful s reach n l (sent n l e);
      asks = λ n l e. subst (λ (x : Stage). IsInput x.config (brings l l.reply)) (stage (receiver hosts l)) (brings_input hosts lawful s reach n l (sent n l e));
      known = λ n l e none. subst (λ (x : Stage). IsKnown x.config l) (stage (receiver hosts l)) (comes_known hosts lawful s reach n l (sent n l e) none);
      replies = λ n l clock e none low widths.
          subst (λ (x : Seen). IsReplyTo l.order.body (reply_to hosts x clock l)) sees
          (replied_so hosts lawful s reach n l (sent n l e) none clock low (subst (λ (x : Seen). HasWidths (reply_to hosts x clock l)) (sym sees) widths));
      peers = λ place within. subst (λ (x : Stage). All IsScriptPeer x.config.peers) (stage place) (script_peers hosts lawful s reach place (subst (λ n. place < n) is.long within));
      last = reach.last;
    }

-- the configuration of a host at first is one that a host may have
pub right_config : (hosts : List ScriptHost) → AreLawfulHosts hosts → (place : ℕ) (h : ScriptHost) → place < length hosts → h ≡ get_or hosts place h → IsConfig (first_config hosts h)
right_config hosts lawful place h within is = (right_first hosts lawful place h (slice_get-get_or hosts place h within ∙ ap Some (sym is))).config

-- how far a rehearsal has come: worlds are seen so, and with what is left to run all is reported
pub record HasCome (comes : Outcomes) (hosts : List ScriptHost) (lines left : List Numbered) (old report : List ℕ) (b : Simulation) : Type 0 where
  pub play : Play
  pub is : IsPlay hosts play
  pub simulation_so : play.simulation ≡ b
  pub reported : old ++ lines_said comes hosts (first_simulation hosts) lines ≡ report ++ lines_said comes hosts b left
  pub ends : play_lines comes hosts (first_play hosts) lines ≡ play_lines comes hosts play left
  pub simulations : simulation_lines comes hosts (first_simulation hosts) lines ≡ simulation_lines comes hosts b left

-- one line more
module _ (comes : Outcomes) (hosts : List ScriptHost) (lawful : AreLawfulHosts hosts) (lines left : List Numbered) (old report : List ℕ) (b : Simulation) (l : Numbered) where
  pub one_more : HasCome comes hosts lines (l ∷ left) old report b → IsLawfulLine (length hosts) l.line → MayLine comes hosts b l.line
      → (report_after : List ℕ) → report_after ≡ report ++ line_text l.number (line_said comes hosts b l.line)
      → (b_after : Simulation) → b_after ≡ simulation_line comes hosts b l.line
      → HasCome comes hosts lines left old report_after b_after
  one_more come law may report_after says b_after sees =
      let p : Play = come.play in
      record {
        play = play_line comes hosts p l.line;
        is = line_on comes hosts lawful p come.is l.line law (subst (λ (x : Simulation). MayLine comes hosts x l.line) (sym come.simulation_so) may);
        simulation_so = ap (λ (x : Simulation). simulation_line comes hosts x l.line) come.simulation_so ∙ sym sees;
        reported =
            come.reported
            ∙ (sym (append_assoc report (line_text l.number (line_said comes hosts b l.line)) (lines_said comes hosts (simulation_line comes hosts b l.line) left))
            ∙ (ap (λ x. x ++ lines_said comes hosts (simulation_line comes hosts b l.line) left) (sym says)
            ∙ ap (λ x. report_after ++ lines_said comes hosts x left) (sym sees)));
        ends = come.ends;
        simulations = come.simulations ∙ ap (λ x. simulation_lines comes hosts x left) (sym sees);
      }

-- where none is left
abbrev HasConfig : Held Stage → Type 0
HasConfig h = IsConfig h.state.config

module _ (comes : Outcomes) (hosts : List ScriptHost) (lawful : AreLawfulHosts hosts) (lines : List Numbered) (old report : List ℕ) (b : Simulation) (come : HasCome comes hosts lines [] old report b) where
  pub all_told : report ≡ old ++ lines_said comes hosts (first_simulation hosts) lines
  all_told = sym (come.reported ∙ append-nil report)

  pub worlds_safe : ((p : Play) (turns : UnsyncedKept) → AreLawfulHosts hosts → IsPlay hosts p → Safe (p.worlds turns)) → (turns : UnsyncedKept) → Safe ((play_lines comes hosts (first_play hosts) lines).worlds turns)
  worlds_safe law turns = subst (λ (p : Play). Safe (p.worlds turns)) (sym come.ends) (law come.play turns lawful come.is)

  is_playing : IsPlaying hosts b
  is_playing = subst (IsPlaying hosts) come.simulation_so (playing hosts lawful come.play come.is)

  pub all_configs : All (λ (h : Held Stage). IsConfig h.state.config) b.held_hosts
  all_configs = All-from_get_or HasConfig b.held_hosts nobody_held (λ place within. (is_playing.hosts_are place within).0)

  pub last_low : b.last ≤ greatest_moment
  last_low = is_playing.last
