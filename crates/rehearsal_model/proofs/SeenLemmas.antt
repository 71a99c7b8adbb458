-- The present stages of a script's hosts, as the stages of one of them come.
use Rattle.std.specs.List.{AllByRecursion}
use Rattle.std.specs.Prelude.{set, slice_index_or}
use Rattle.std.proofs.Common.{◌≡◌, ◌≢◌, ◌==◌, ℕ, zero, suc, false, cond, List, [], ◌∷◌, map, option_map, refl, sym, ap, ◌∙◌, subst, arith}
use Rattle.std.proofs.lemmas.Bool.Decides.{nat_tests}
use Rattle.std.proofs.lemmas.Option.{get_or_from_slice_get, slice_get-map}
use Rattle.host_model.specs.declared.input.Input.{Input}
use Rattle.world_law.specs.Events.{stepped}
use Rattle.world_law.specs.World.{Stage, World, push, stages}
use Rattle.world_law.proofs.Worlds.{now_same}
use Rattle.rehearsal_script.specs.declared.script.ScriptHost.{ScriptHost}
use Rattle.rehearsal_model.specs.Seen.{acted, nobody}
use Rattle.rehearsal_model.proofs.HostLemmas.{Differ, StandsAt}
use Rattle.rehearsal_model.proofs.ListLemmas.{each_at}

abbrev pub now_of : World → ScriptHost → Stage
now_of w h = (w.hosts h.number).now

abbrev pub present : List ScriptHost → World → List Stage
present hosts w = map (λ (h : ScriptHost). (w.hosts h.number).now) hosts

abbrev pub stage_in : List Stage → ℕ → Stage
stage_in stages place = slice_index_or stages place nobody

pub stage_is : (hosts : List ScriptHost) (w : World) (place : ℕ) (h : ScriptHost) → StandsAt hosts place h → stage_in (present hosts w) place ≡ now_of w h
stage_is hosts w place h at = get_or_from_slice_get (present hosts w) place (now_of w h) nobody (slice_get-map (now_of w) hosts place ∙ ap (option_map (now_of w)) at)

-- ---- a new stage of one host
apart_test : (g n : ℕ) → g ≢ n → (g == n) ≡ false
apart_test g n apart = grind (arith, nat_tests)

pub other_now : (w : World) (n : ℕ) (s : Stage) (g : ℕ) → g ≢ n → ((push w n s).hosts g).now ≡ (w.hosts g).now
other_now w n s g apart = ap (λ b. (cond b (record { now = s; before = stages w n }) (w.hosts g)).now) (apart_test g n apart)

others_kept : (w : World) (n : ℕ) (s : Stage) (hs : List ScriptHost) → AllByRecursion (λ (g : ScriptHost). n ≢ g.number) hs → present hs (push w n s) ≡ present hs w
others_kept w n s [] apart = refl
others_kept w n s (g ∷ hs) apart =
    ap (λ x. x ∷ present hs (push w n s)) (other_now w n s g.number (λ same. apart.0 (sym same))) ∙ ap (λ xs. now_of w g ∷ xs) (others_kept w n s hs apart.1)

pushed : (w : World) (s : Stage) (hosts : List ScriptHost) → Differ hosts → (place : ℕ) (h : ScriptHost) → StandsAt hosts place h → present hosts (push w h.number s) ≡ set (present hosts w) place s
pushed w s [] apart place h e = cc
pushed w s (g ∷ hs) apart zero h e =
    let same : g ≡ h = cc in
    let number : g.number ≡ h.number = ap (λ x. x.number) same in
    ap (λ x. x ∷ present hs (push w h.number s)) (ap (λ n. ((push w h.number s).hosts n).now) number ∙ now_same w h.number s)
    ∙ ap (λ xs. s ∷ xs) (others_kept w h.number s hs (subst (λ n. AllByRecursion (λ (x : ScriptHost). n ≢ x.number) hs) number apart.0))
pushed w s (g ∷ hs) apart (suc place) h e =
    let other : g.number ≢ h.number = each_at (λ (x : ScriptHost). g.number ≢ x.number) hs place h apart.0 e in
    ap (λ x. x ∷ present hs (push w h.number s)) (other_now w h.number s g.number other) ∙ ap (λ xs. now_of w g ∷ xs) (pushed w s hs apart.1 place h e)

-- ---- by the number of the host at a place
module _ (hosts : List ScriptHost) (apart : Differ hosts) (w : World) (place : ℕ) (h : ScriptHost) (at : StandsAt hosts place h) (n : ℕ) (number : h.number ≡ n) where
  pub stage_numbered : stage_in (present hosts w) place ≡ (w.hosts n).now
  stage_numbered = stage_is hosts w place h at ∙ ap (λ k. (w.hosts k).now) number

  pub pushed_at : (s : Stage) → present hosts (push w n s) ≡ set (present hosts w) place s
  pushed_at s = subst (λ k. present hosts (push w k s) ≡ set (present hosts w) place s) number (pushed w s hosts apart place h at)

  -- a step
  pub step_seen : (clock : ℕ) (i : Input) → present hosts (stepped w n clock i) ≡ set (present hosts w) place (acted (stage_in (present hosts w) place) clock i)
  step_seen clock i = pushed_at (acted (w.hosts n).now clock i) ∙ ap (λ s. set (present hosts w) place (acted s clock i)) (sym stage_numbered)
