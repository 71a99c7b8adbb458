-- The world of a script before its first line: each of its hosts was opened once.
use Rattle.std.specs.List.{AllByRecursion}
use Rattle.std.specs.Prelude.{IsTrue}
use Rattle.std.proofs.Common.{◌≡◌, ◌≢◌, ℕ, List, [], ◌∷◌, map, get_or, reverse, option_map, refl, sym, ap, ◌∙◌, arith}
use Rattle.std.proofs.lemmas.List.Elements.{All-map, All-nil, All-same, recursion_from_All}
use Rattle.std.proofs.lemmas.Option.{get_or_from_slice_get, slice_get-get_or, slice_get-map}
use Rattle.host_model.specs.Book.{empty_book}
use Rattle.host_model.proofs.LawfulBook.{empty_lawful}
use Rattle.host_model.specs.declared.input.Input.TheVariants as input
use Rattle.world_law.specs.Events.{Event, Event.Reopen, MayRun, Right, run, step_stage}
use Rattle.world_law.specs.World.{Message, Stage, World, push, start}
use Rattle.world_law.proofs.Worlds.{now_same}
use Rattle.api_peer.proofs.OrderlyChanges.{empty_orderly}
use Rattle.api_peer.proofs.OrderlySteps.{step_orderly}
use Rattle.api_peer.proofs.ToldChanges.{empty_told}
use Rattle.api_peer.proofs.ToldSteps.{step_told}
use Rattle.rehearsal_script.specs.Lawful.{AreLawfulHosts}
use Rattle.rehearsal_script.specs.declared.script.ScriptHost.{ScriptHost}
use Rattle.rehearsal_model.specs.After.{first_seen, opened_stage}
use Rattle.rehearsal_model.specs.Hosts.{config_numbered, every_tool, first_config, name_numbered}
use Rattle.rehearsal_model.specs.Reaching.{IsAsFirst, IsBetween, IsOrderlyStage, IsToldStage, Reaches}
use Rattle.rehearsal_model.specs.Rehearsal.{first_show, first_world, openings, seen}
use Rattle.rehearsal_model.specs.Seen.{acted, is_sent, nobody}
use Rattle.rehearsal_model.proofs.HostLemmas.{Differ, StandsAt, differ, right_first}
use Rattle.rehearsal_model.proofs.SeenLemmas.{other_now, present, stage_in}

module _ (hosts : List ScriptHost) where
  abbrev opens : List ScriptHost → List Event
  opens hs = map (λ (h : ScriptHost). Reopen h.number 0 (first_config hosts h)) hs

  -- the stage to which a host comes
  abbrev opened : World → ScriptHost → Stage
  opened w h = step_stage w h.number 0 (first_config hosts h) input.Open

  -- hosts that aren't opened stay
  still : (hs : List ScriptHost) (w : World) (n : ℕ) → AllByRecursion (λ (h : ScriptHost). n ≢ h.number) hs → ((run (opens hs) w).hosts n).now ≡ (w.hosts n).now
  still [] w n apart = refl
  still (h ∷ hs) w n apart = still hs (push w h.number (opened w h)) n apart.1 ∙ other_now w h.number (opened w h) n apart.0

  abbrev IsFresh : World → ScriptHost → Type 0
  IsFresh w h = (w.hosts h.number).now.book ≡ empty_book

  opened_all : (hs : List ScriptHost) → Differ hs → (w : World) → AllByRecursion (IsFresh w) hs → present hs (run (opens hs) w) ≡ map (opened_stage hosts) hs
  opened_all [] apart w fresh = refl
  opened_all (h ∷ hs) apart w fresh =
      let v : World = push w h.number (opened w h) in
      let head : ((run (opens hs) v).hosts h.number).now ≡ opened_stage hosts h =
      still hs v h.number apart.0 ∙ now_same w h.number (opened w h) ∙ ap (λ book. acted (record { config = first_config hosts h; book = book }) 0 input.Open) fresh.0 in
      let rest : AllByRecursion (IsFresh v) hs = both hs apart.0 fresh.1 in
      ap (λ x. x ∷ present hs (run (opens hs) v)) head ∙ ap (λ xs. opened_stage hosts h ∷ xs) (opened_all hs apart.1 v rest)
    where
      both : (gs : List ScriptHost) → AllByRecursion (λ (g : ScriptHost). h.number ≢ g.number) gs → AllByRecursion (IsFresh w) gs → AllByRecursion (IsFresh (push w h.number (opened w h))) gs
      both [] other ok = tt
      both (g ∷ gs) other ok = (ap (λ (x : Stage). x.book) (other_now w h.number (opened w h) g.number (λ same. other.0 (sym same))) ∙ ok.0, both gs other.1 ok.1)

  no_messages : (hs : List ScriptHost) (w : World) → (run (opens hs) w).messages ≡ w.messages
  no_messages [] w = refl
  no_messages (h ∷ hs) w = no_messages hs (push w h.number (opened w h))

  may_open : (hs : List ScriptHost) (w : World) → AllByRecursion (λ (h : ScriptHost). Right w.names h.number (first_config hosts h)) hs → MayRun w (opens hs)
  may_open [] w right = tt
  may_open (h ∷ hs) w right = ((omega arith, right.0), may_open hs (push w h.number (opened w h)) right.1)

  module _ (lawful : AreLawfulHosts hosts) where
    abbrev empty : World
    empty = start (name_numbered hosts) (config_numbered hosts)

    fresh : (hs : List ScriptHost) → AllByRecursion (IsFresh empty) hs
    fresh [] = tt
    fresh (h ∷ hs) = (refl, fresh hs)

    stages_first : present hosts (first_world hosts) ≡ map (opened_stage hosts) hosts
    stages_first = opened_all hosts (differ hosts lawful) empty (fresh hosts)

    messages_first : (first_world hosts).messages ≡ []
    messages_first = no_messages hosts empty

    pub first_is : seen hosts (first_show hosts) ≡ first_seen hosts
    first_is =
        ap (λ x. record { stages = x; messages = reverse (first_world hosts).messages; flying = []; last = 0; stops = [] }) stages_first
        ∙ ap (λ (x : List Message). record { stages = map (opened_stage hosts) hosts; messages = reverse x; flying = []; last = 0; stops = [] }) messages_first

    configs_first : (place : ℕ) (h : ScriptHost) → StandsAt hosts place h → IsAsFirst hosts h (stage_in (present hosts (first_world hosts)) place).config
    configs_first place h at =
        let stage : stage_in (present hosts (first_world hosts)) place ≡ opened_stage hosts h =
        ap (λ xs. stage_in xs place) stages_first ∙ get_or_from_slice_get (map (opened_stage hosts) hosts) place (opened_stage hosts h) nobody (slice_get-map (opened_stage hosts) hosts place ∙ ap (option_map (opened_stage hosts)) at) in
        (every_tool, ap (λ (x : Stage). x.config) stage)

    opened_orderly : (h : ScriptHost) → IsOrderlyStage (opened_stage hosts h)
    opened_orderly h = step_orderly (first_config hosts h) empty_book 0 input.Open tt (empty_orderly (first_config hosts h).name)

    opened_told : (place : ℕ) (h : ScriptHost) → StandsAt hosts place h → IsToldStage (opened_stage hosts h)
    opened_told place h at =
        step_told (first_config hosts h) empty_book 0 input.Open (record { config = (right_first hosts lawful place h at).config; book = empty_lawful h.number; moment = omega arith; bounds = tt }) empty_told

    pub first_reaches : Reaches hosts (first_show hosts)
    first_reaches = record {
      events = openings hosts;
      may = may_open hosts empty (recursion_from_All (λ (h : ScriptHost). Right (name_numbered hosts) h.number (first_config hosts h)) hosts (λ k d lt. right_first hosts lawful k (get_or hosts k d) (slice_get-get_or hosts k d lt)));
      world = refl;
      configs = configs_first;
      orderly = All-same IsOrderlyStage (present hosts (first_world hosts)) (map (opened_stage hosts) hosts) stages_first (All-map IsOrderlyStage (opened_stage hosts) hosts (λ k d lt. opened_orderly (get_or hosts k d)));
      told = All-same IsToldStage (present hosts (first_world hosts)) (map (opened_stage hosts) hosts) stages_first
          (All-map IsToldStage (opened_stage hosts) hosts (λ k d lt. opened_told k (get_or hosts k d) (slice_get-get_or hosts k d lt)));
      messages = All-same (IsBetween hosts) (first_world hosts).messages [] messages_first (All-nil (IsBetween hosts));
      flying = All-nil (λ n. IsTrue (is_sent (seen hosts (first_show hosts)) n));
      last = omega arith;
    }
