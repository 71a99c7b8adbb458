-- Each row that isn't purged stands on after a change.
use Rattle.std.specs.Ordering.{is_eq}
use Rattle.std.proofs.Common.{◌≡◌, ℕ, Bool, true, false, cond, List, [], ◌∷◌, map, Option, Some, None, option_map, slice_get, refl, ap, subst, ◌∙◌}
use Rattle.ps_time.specs.Key.{key_cmp}
use Rattle.ps_time.specs.declared.key.RunKey.{RunKey}
use Rattle.run_states.specs.declared.row.RunRow.{RunRow}
use Rattle.run_states.specs.Conflict.{in_conflict}
use Rattle.run_states.specs.Rows.{find_row}
use Rattle.run_states.specs.Preemption.{Incoming, give_way}
use Rattle.host_model.specs.declared.change.Change.{Change}
use Rattle.host_model.specs.declared.change.Change.TheVariants.{Tried}
use Rattle.host_model.specs.declared.task_row.TaskRow.{TaskRow}
use Rattle.host_model.specs.Apply.{put_new, purged_key, without_row, rows_after}
use Rattle.host_model.specs.Effect.{effect, own_effect, change_key, has_key}
use Rattle.host_model.specs.Grown.{Evolves}
use Rattle.host_model.specs.NewRow.{new_row}
use Rattle.host_model.specs.Preemption.{incoming}
use Rattle.host_model.proofs.EffectEvolves.{GoesOn, effect_evolves, close_evolves}
use Rattle.host_model.proofs.Evolve.{Evolves-refl, Evolves-trans}
use Rattle.host_model.proofs.Placed.{lift_keeps, put_keeps}

-- ---- one row
either_evolves : (b : Bool) (r s t : RunRow) → Evolves r s → Evolves r t → Evolves r (cond b s t)
either_evolves true r s t f g = f
either_evolves false r s t f g = g

pub way_evolves : (m : ℕ) (o : Option Incoming) (r : RunRow) → Evolves r (give_way m o r)
way_evolves m None r = Evolves-refl r
way_evolves m (Some i) r = either_evolves (in_conflict i.key i.class i.interval r) r _ r (close_evolves _ r) (Evolves-refl r)

either_archives : (b : Bool) (r s t : RunRow) → s.archives ≡ r.archives → t.archives ≡ r.archives → (cond b s t).archives ≡ r.archives
either_archives true r s t f g = f
either_archives false r s t f g = g

way_archives : (m : ℕ) (o : Option Incoming) (r : RunRow) → (give_way m o r).archives ≡ r.archives
way_archives m None r = refl
way_archives m (Some i) r = either_archives (in_conflict i.key i.class i.interval r) r _ r refl refl

pub way_goes_on : (m : ℕ) (o : Option Incoming) (c : Change) (r : RunRow) → GoesOn c r → GoesOn c (give_way m o r)
way_goes_on m o (Tried k index state) r on = λ old e. on old (subst (λ xs. slice_get xs index ≡ Some old) (way_archives m o r) e)
way_goes_on m o c r on = tt

-- only the row of the change's key has to go on
pub own_evolves : (m : ℕ) (tasks : List TaskRow) (c : Change) (r : RunRow) → (has_key r.key (change_key c) ≡ true → GoesOn c r) → Evolves r (own_effect m tasks c r)
own_evolves m tasks c r on = go (has_key r.key (change_key c)) refl
  where
    go : (b : Bool) → has_key r.key (change_key c) ≡ b → Evolves r (cond b (effect m tasks c r) r)
    go true same = effect_evolves m tasks c r (on same)
    go false same = Evolves-refl r

-- what becomes of a row by a change of these rows
abbrev pub changed_row : ℕ → List TaskRow → Change → List RunRow → RunRow → RunRow
changed_row m tasks c rows r = own_effect m tasks c (give_way m (incoming rows c) r)

pub changed_evolves : (m : ℕ) (tasks : List TaskRow) (c : Change) (rows : List RunRow) (r : RunRow) → (has_key r.key (change_key c) ≡ true → GoesOn c r) → Evolves r (changed_row m tasks c rows r)
changed_evolves m tasks c rows r on =
    let way : RunRow = give_way m (incoming rows c) r in
    let up : Evolves r way = way_evolves m (incoming rows c) r in
    Evolves-trans r way (own_effect m tasks c way) up (own_evolves m tasks c way (λ same. way_goes_on m (incoming rows c) c r (on (subst (λ k. has_key k (change_key c) ≡ true) up.key same))))

-- ---- keys stay
pub effect_key : (m : ℕ) (tasks : List TaskRow) (c : Change) (r : RunRow) → (effect m tasks c r).key ≡ r.key
effect_key m tasks (Tried k index state) r = refl
effect_key m tasks c r = (effect_evolves m tasks c r tt).key

pub either_key : (b : Bool) (r s t : RunRow) → s.key ≡ r.key → t.key ≡ r.key → (cond b s t).key ≡ r.key
either_key true r s t f g = f
either_key false r s t f g = g

pub changed_key : (m : ℕ) (tasks : List TaskRow) (c : Change) (rows : List RunRow) (r : RunRow) → (changed_row m tasks c rows r).key ≡ r.key
changed_key m tasks c rows r =
    let way : RunRow = give_way m (incoming rows c) r in
    either_key (has_key way.key (change_key c)) way (effect m tasks c way) way (effect_key m tasks c way) refl ∙ (way_evolves m (incoming rows c) r).key

-- ---- all rows
pub find_row-map : (f : RunRow → RunRow) → ((r : RunRow) → (f r).key ≡ r.key) → (rows : List RunRow) (k : RunKey) → find_row (map f rows) k ≡ option_map f (find_row rows k)
find_row-map f same [] k = refl
find_row-map f same (r ∷ rs) k =
    let here : is_eq (key_cmp (f r).key k) ≡ is_eq (key_cmp r.key k) = ap (λ j. is_eq (key_cmp j k)) (same r) in
    rw here (elim (is_eq (key_cmp r.key k)) as (λ b. cond b (Some (f r)) (find_row (map f rs) k) ≡ option_map f (cond b (Some r) (find_row rs k))) [
      | true ↦ refl
      | false ↦ find_row-map f same rs k
    ])

-- the key isn't the one that goes
abbrev pub IsOther : RunKey → Option RunKey → Type 0
IsOther k None = Unit {0}
IsOther k (Some j) = is_eq (key_cmp k j) ≡ false

without_keeps : (o : Option RunKey) (rows : List RunRow) (k : RunKey) (r : RunRow) → IsOther k o → find_row rows k ≡ Some r → find_row (without_row o rows) k ≡ Some r
without_keeps None rows k r stays e = e
without_keeps (Some j) rows k r stays e = lift_keeps j k stays rows r e

-- a row that isn't purged stands on, and has evolved
pub row_stands : (m : ℕ) (tasks : List TaskRow) (c : Change) (rows : List RunRow) (k : RunKey) (r : RunRow) → find_row rows k ≡ Some r → (has_key r.key (change_key c) ≡ true → GoesOn c r) → IsOther k (purged_key c) → (s : RunRow) × (find_row (rows_after m tasks c rows) k ≡ Some s) × Evolves r s
row_stands m tasks c rows k r e on stays =
    let f : RunRow → RunRow = changed_row m tasks c rows in
    let mapped : find_row (map f rows) k ≡ Some (f r) = find_row-map f (changed_key m tasks c rows) rows k ∙ ap (option_map f) e in
    let put : find_row (put_new (new_row m c) (map f rows)) k ≡ Some (f r) = put_keeps (new_row m c) (map f rows) k (f r) mapped in
    (f r, without_keeps (purged_key c) (put_new (new_row m c) (map f rows)) k (f r) stays put, changed_evolves m tasks c rows r on)
