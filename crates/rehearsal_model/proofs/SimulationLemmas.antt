-- What is seen of hosts, as what is unsynced of them turns out.
use Rattle.std.specs.Prelude.{◌&&◌, ◌==◌, if◌then◌else◌, nat_lt, not, option_map, set}
use Rattle.std.proofs.Common.{◌≡◌, ◌≢◌, ◌≤◌, ◌+◌, ◌-◌, ◌∙◌, ◌∷◌, ℕ, zero, suc, Bool, true, false, List, [], length, None, Option, Some, ap, arith, refl, sym}
use Rattle.std.proofs.lemmas.Bool.Decides.{nat_tests}
use Rattle.ps_disks.specs.declared.image.Image.{Image}
use Rattle.host_journal.specs.Crash.{is_new}
use Rattle.host_model.specs.declared.config.Config.{Config}
use Rattle.host_model.specs.declared.input.Input.{Input}
use Rattle.host_model.specs.declared.input.Input.TheVariants as input
use Rattle.host_model.specs.declared.reply.Reply.{Reply}
use Rattle.simulated_machine.specs.Crashed.{unsynced_in, state_unsynced}
use Rattle.simulated_machine.specs.Held.{Held, Unsynced, configured, syncs, with_record}
use Rattle.simulated_machine.specs.AfterStep.{unsynced_still}
use Rattle.world_law.specs.World.{Stage}
use Rattle.rehearsal_model.specs.After.{cut_stage}
use Rattle.rehearsal_model.specs.Plays.{IsSimulated}
use Rattle.rehearsal_model.specs.Simulations.{Simulation, UnsyncedKept, except_at, chosen_from, chosen_stage, is_kept_in, is_synced, keeps_broken, unsynced_stage, nobody_held, held_at, held_in, seen_by}
use Rattle.rehearsal_model.specs.Simulated.{Left, Written, broken_with, bytes_of, done, fault_in, opened_on, reply_unless, stage_with, stepped, stepped_by, sync_failed, written_at}
use Rattle.rehearsal_model.specs.Seen.{acted, nobody, stage_at}
use Rattle.rehearsal_model.proofs.HostLemmas.{same_number}
use Rattle.rehearsal_model.proofs.SeenLemmas.{stage_in}

-- ---- how it turns out
pub except_here : (t : UnsyncedKept) (place : ℕ) (kept : Bool) → except_at t place kept place ≡ kept
except_here t place kept = ap (λ (b : Bool). if b then kept else t place) (same_number place place refl)

pub except_other : (t : UnsyncedKept) (place : ℕ) (kept : Bool) (p : ℕ) → p ≢ place → t p ≡ except_at t place kept p
except_other t place kept p apart = sym (ap (λ (b : Bool). if b then kept else t p) other)
  where
    other : (p == place) ≡ false
    other = grind (arith, nat_tests, apart)

-- ---- stages
chosen_agree : (t u : UnsyncedKept) (at : ℕ) (held_hosts : List (Held Stage)) → ((p : ℕ) → at ≤ p → t p ≡ u p) → chosen_from t at held_hosts ≡ chosen_from u at held_hosts
chosen_agree t u at [] same = refl
chosen_agree t u at (h ∷ hs) same =
    ap (λ (b : Bool). chosen_stage b h ∷ chosen_from t (at + 1) hs) (same at (omega arith))
    ∙ ap (λ xs. chosen_stage (u at) h ∷ xs) (chosen_agree t u (at + 1) hs (λ p low. same p (omega (arith, low))))

nobody_chosen : (b : Bool) → nobody ≡ chosen_stage b nobody_held
nobody_chosen true = refl
nobody_chosen false = refl

chosen_at : (t : UnsyncedKept) (at place : ℕ) (held_hosts : List (Held Stage)) → stage_in (chosen_from t at held_hosts) place ≡ chosen_stage (t (at + place)) (held_in held_hosts place)
chosen_at t at place [] = nobody_chosen (t (at + place))
chosen_at t at zero (h ∷ hs) = let here : at ≡ at + zero = omega arith in ap (λ (n : ℕ). chosen_stage (t n) h) here
chosen_at t at (suc place) (h ∷ hs) =
    let there : at + 1 + place ≡ at + suc place = omega arith in
    chosen_at t (at + 1) place hs ∙ ap (λ (n : ℕ). chosen_stage (t n) (held_in hs place)) there

pub stage_chosen : (t : UnsyncedKept) (b : Simulation) (place : ℕ) → stage_at (seen_by t b) place ≡ chosen_stage (t place) (held_at b place)
stage_chosen t b place = let here : 0 + place ≡ place = omega arith in chosen_at t 0 place b.held_hosts ∙ ap (λ (n : ℕ). chosen_stage (t n) (held_at b place)) here

chosen_set_from : (t u : UnsyncedKept) (at place : ℕ) (held_hosts : List (Held Stage)) (h : Held Stage) → ((p : ℕ) → p ≢ at + place → t p ≡ u p) → chosen_from t at (set held_hosts place h) ≡ set (chosen_from u at held_hosts) place (chosen_stage (t (at + place)) h)
chosen_set_from t u at place [] h same = refl
chosen_set_from t u at zero (g ∷ gs) h same =
    let here : at ≡ at + zero = omega arith in
    ap (λ (n : ℕ). chosen_stage (t n) h ∷ chosen_from t (at + 1) gs) here
    ∙ ap (λ xs. chosen_stage (t (at + zero)) h ∷ xs) (chosen_agree t u (at + 1) gs (λ p low. same p (λ e. omega (arith, low, e))))
chosen_set_from t u at (suc place) (g ∷ gs) h same =
    let there : at + 1 + place ≡ at + suc place = omega arith in
    ap (λ (b : Bool). chosen_stage b g ∷ chosen_from t (at + 1) (set gs place h)) (same at (λ e. omega (arith, e)))
    ∙ (ap (λ xs. chosen_stage (u at) g ∷ xs) (chosen_set_from t u (at + 1) place gs h (λ p apart. same p (λ e. apart (e ∙ sym there))))
    ∙ ap (λ (n : ℕ). chosen_stage (u at) g ∷ set (chosen_from u (at + 1) gs) place (chosen_stage (t n) h)) there)

-- a host is another one, and what was unsynced of it turned out so
pub chosen_set : (t : UnsyncedKept) (place : ℕ) (kept : Bool) (held_hosts : List (Held Stage)) (h : Held Stage) → chosen_from t 0 (set held_hosts place h) ≡ set (chosen_from (except_at t place kept) 0 held_hosts) place (chosen_stage (t place) h)
chosen_set t place kept held_hosts h =
    let here : 0 + place ≡ place = omega arith in
    chosen_set_from t (except_at t place kept) 0 place held_hosts h (λ p apart. except_other t place kept p (λ e. apart (e ∙ sym here)))
    ∙ ap (λ (n : ℕ). set (chosen_from (except_at t place kept) 0 held_hosts) place (chosen_stage (t n) h)) here

pub chosen_still : (t : UnsyncedKept) (place : ℕ) (held_hosts : List (Held Stage)) (h : Held Stage) → chosen_from t 0 (set held_hosts place h) ≡ set (chosen_from t 0 held_hosts) place (chosen_stage (t place) h)
chosen_still t place held_hosts h =
    let here : 0 + place ≡ place = omega arith in
    chosen_set_from t t 0 place held_hosts h (λ p apart. refl) ∙ ap (λ (n : ℕ). set (chosen_from t 0 held_hosts) place (chosen_stage (t n) h)) here

-- ---- configurations
pub config_chosen : (h : Held Stage) → IsSimulated h → (kept : Bool) → (chosen_stage kept h).config ≡ h.state.config
config_chosen h is true = refl
config_chosen h is false = by h.unsynced refl
  where
    by : (o : Option (Unsynced Stage)) → h.unsynced ≡ o → (unsynced_stage h.state o).config ≡ h.state.config
    by None e = refl
    by (Some l) e = is l e

-- ---- a host of which nothing is unsynced
pub unarmed_held_host : (h : Held Stage) → h.unsynced ≡ None → IsSimulated h
unarmed_held_host h none l e = let both : None ≡ Some l = sym none ∙ e in cc

either_same : (b : Bool) (s : Stage) → (if b then s else s) ≡ s
either_same true s = refl
either_same false s = refl

pub done_chosen : (b : Bool) (h : Held Stage) (clock : ℕ) (i : Input) → chosen_stage b (done h clock i) ≡ acted h.state clock i
done_chosen b h clock i = either_same b (acted h.state clock i)

pub opened_chosen : (b : Bool) (left : Left) (clock : ℕ) → chosen_stage b (opened_on left clock) ≡ acted left.state clock input.Open
opened_chosen b left clock = either_same b (acted left.state clock input.Open)

-- ---- a fault in a sync
pub synced_chosen : (b : Bool) (h : Held Stage) (number : ℕ) → chosen_stage (if is_synced number h.unsynced then true else b) h ≡ chosen_stage b (sync_failed h number)
synced_chosen b h number = by h.unsynced
  where
    by : (o : Option (Unsynced Stage)) → (if (if is_synced number o then true else b) then h.state else unsynced_stage h.state o) ≡ (if b then h.state else unsynced_stage h.state (unsynced_still number o))
    by None = either_same b h.state ∙ sym (either_same b h.state)
    by (Some l) = go (nat_lt 1 number) l.second b
      where
        go : (late second kept : Bool) → (if (if late && not second then true else kept) then h.state else l.state) ≡ (if kept then h.state else unsynced_stage h.state (if late then (if second then Some l else None) else Some l))
        go true true kept = refl
        go true false true = refl
        go true false false = refl
        go false second kept = refl

pub sync_failed_host : (h : Held Stage) (number : ℕ) → IsSimulated h → IsSimulated (sync_failed h number)
sync_failed_host h number is = by h.unsynced is
  where
    by : (o : Option (Unsynced Stage)) → ((l : Unsynced Stage) → o ≡ Some l → l.state.config ≡ h.state.config) → (l : Unsynced Stage) → unsynced_still number o ≡ Some l → l.state.config ≡ h.state.config
    by None each l e = cc
    by (Some k) each l e = go (nat_lt 1 number) k.second e
      where
        go : (late second : Bool) → (if late then (if second then Some k else None) else Some k) ≡ Some l → l.state.config ≡ h.state.config
        go true true f = each l f
        go true false f = cc
        go false second f = each l f

-- ---- behind the syncs
module _ (h : Held Stage) (clock : ℕ) (i : Input) (number : ℕ) (w : Written) where
  abbrev later : Stage
  later = acted h.state clock i

  abbrev broken : Held Stage
  broken = broken_with h number later w

  pub broken_chosen : (b : Bool) → chosen_stage b broken ≡ cut_stage (keeps_broken number b) h.state clock i
  broken_chosen b = by (number == 4) (number == 11) (nat_lt 3 number) refl refl refl
    where
      by : (fourth last late : Bool) → (number == 4) ≡ fourth → (number == 11) ≡ last → nat_lt 3 number ≡ late
          → (if b then (if late then later else h.state) else unsynced_stage (if late then later else h.state)
          (if fourth then Some (record { second = h.place.second; state = h.state; place = h.place }) else (if last then Some (record { second = not h.place.second; state = later; place = with_record h.place (bytes_of w.record_bytes) }) else None)))
          ≡ cut_stage (if fourth then b else late) h.state clock i
      by true last true f l t = go b
        where
          go : (kept : Bool) → (if kept then later else h.state) ≡ cut_stage kept h.state clock i
          go true = refl
          go false = refl
      by true last false f l t = let no : nat_lt 3 number ≡ true = grind (arith, nat_tests, f) in cc (no, t)
      by false true true f l t = either_same b later
      by false true false f l t = let no : nat_lt 3 number ≡ true = grind (arith, nat_tests, l) in cc (no, t)
      by false false true f l t = either_same b later
      by false false false f l t = either_same b h.state

  pub broken_held_host : IsSimulated broken
  broken_held_host l e = by (number == 4) (number == 11) (nat_lt 3 number) e
    where
      by : (fourth last late : Bool)
          → (if fourth then Some (record { second = h.place.second; state = h.state; place = h.place }) else (if last then Some (record { second = not h.place.second; state = later; place = with_record h.place (bytes_of w.record_bytes) }) else None)) ≡ Some l
          → l.state.config ≡ (if late then later else h.state).config
      by true last true f = let same : record { second = h.place.second; state = h.state; place = h.place } ≡ l = cc in sym (ap (λ (k : Unsynced Stage). k.state.config) same)
      by true last false f = let same : record { second = h.place.second; state = h.state; place = h.place } ≡ l = cc in sym (ap (λ (k : Unsynced Stage). k.state.config) same)
      by false true true f = let same : record { second = not h.place.second; state = later; place = with_record h.place (bytes_of w.record_bytes) } ≡ l = cc in sym (ap (λ (k : Unsynced Stage). k.state.config) same)
      by false true false f = let same : record { second = not h.place.second; state = later; place = with_record h.place (bytes_of w.record_bytes) } ≡ l = cc in sym (ap (λ (k : Unsynced Stage). k.state.config) same)
      by false false late f = cc

-- ---- crashes
pub unsynced_left_is : (h : Held Stage) (stop : ℕ) (image : Image) → state_unsynced h.state h.unsynced stop image ≡ chosen_stage (is_kept_in stop image h.unsynced) h
unsynced_left_is h stop image = by h.unsynced
  where
    by : (o : Option (Unsynced Stage)) → state_unsynced h.state o stop image ≡ (if is_kept_in stop image o then h.state else unsynced_stage h.state o)
    by None = refl
    by (Some l) = go (is_new (unsynced_in stop l.second image))
      where
        go : (b : Bool) → (if b then h.state else l.state) ≡ (if b then h.state else l.state)
        go b = refl

-- ---- other configurations
pub configured_chosen : (c : Config) (h : Held Stage) (b : Bool) → chosen_stage b (configured stage_with c h) ≡ stage_with c (chosen_stage b h)
configured_chosen c h true = refl
configured_chosen c h false = by h.unsynced
  where
    by : (o : Option (Unsynced Stage)) → unsynced_stage (stage_with c h.state) (option_map {T = Unsynced Stage} (λ l. record l { state = stage_with c l.state }) o) ≡ stage_with c (unsynced_stage h.state o)
    by None = refl
    by (Some l) = refl

pub configured_held_host : (c : Config) (h : Held Stage) → IsSimulated (configured stage_with c h)
configured_held_host c h l e = by h.unsynced e
  where
    by : (o : Option (Unsynced Stage)) → option_map {T = Unsynced Stage} (λ k. record k { state = stage_with c k.state }) o ≡ Some l → l.state.config ≡ c
    by None f = cc
    by (Some k) f = let same : record k { state = stage_with c k.state } ≡ l = cc in sym (ap (λ (x : Unsynced Stage). x.state.config) same)

-- a step leaves the configuration
pub config_stepped : (h : Held Stage) (clock : ℕ) (i : Input) → (stepped h clock i).state.config ≡ h.state.config
config_stepped h clock i = by (fault_in h clock i)
  where
    by : (o : Option ℕ) → (stepped_by h clock i o).state.config ≡ h.state.config
    by None = refl
    by (Some number) = go (nat_lt (length (syncs h.ready)) number) (nat_lt 3 (number - length (syncs h.ready)))
      where
        go : (late kept : Bool) → (if late then record (broken_with h (number - length (syncs h.ready)) (acted h.state clock i) (written_at h clock i)) { state = if kept then acted h.state clock i else h.state } else sync_failed h number).state.config ≡ h.state.config
        go true true = refl
        go true false = refl
        go false kept = refl

-- ---- whether a call failed, by what was answered
pub failed : (f : Option ℕ) (said : Reply) → reply_unless f said ≡ None → (number : ℕ) × (f ≡ Some number)
failed None said e = absurd cc
failed (Some number) said e = (number, refl)

pub unfailed : (f : Option ℕ) (said r : Reply) → reply_unless f said ≡ Some r → (f ≡ None) × (said ≡ r)
unfailed None said r e = let same : said ≡ r = cc in (refl, same)
unfailed (Some number) said r e = absurd cc
