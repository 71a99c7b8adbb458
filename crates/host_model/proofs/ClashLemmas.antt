-- No two booked rows conflict after any change of the rows, where none did before: no change needs a guard for it.
use Rattle.std.proofs.Common.{◌≡◌, ◌≢◌, ◌⊎◌, inl, inr, ℕ, zero, suc, Bool, true, false, List, map, Option, Some, None, refl, ap, sym, subst, ◌∙◌}
use Rattle.ps_time.specs.Span.{span_of}
use Rattle.ps_time.specs.declared.asker.Asker.{Asker}
use Rattle.ps_time.specs.declared.key.RunKey.{RunKey}
use Rattle.plugin_core.specs.TestSpec.{test_class, test_length}
use Rattle.run_states.specs.declared.answer.Other.{Other}
use Rattle.run_states.specs.declared.proposal.Proposal.{Proposal}
use Rattle.run_states.specs.declared.proposal.Question.{Question}
use Rattle.run_states.specs.declared.row.RunRow.{RunRow}
use Rattle.run_states.specs.Conflict.{blocks}
use Rattle.run_states.specs.Life.{is_booked}
use Rattle.run_states.specs.Rows.{find_row}
use Rattle.run_states.specs.Preemption.{Incoming, give_way}
use Rattle.run_states.specs.Effect.{change_other, confirmed_if, with_acceptance}
use Rattle.host_model.specs.Apply.{put_new, purged_key, without_row, rows_after}
use Rattle.host_model.specs.Effect.{effect, own_effect, change_key, has_key}
use Rattle.host_model.specs.Lawful.{NoClash}
use Rattle.host_model.specs.NewRow.{accepted_row, asked_row, new_row}
use Rattle.host_model.specs.Preemption.{incoming}
use Rattle.host_model.specs.declared.change.Change.{Change}
use Rattle.host_model.specs.declared.change.Change.TheVariants.{Accepted, Asked, Planned, Confirmed, Closed, Started, Ended, FreeHeard, AcceptHeard, Told as told_there, MaterialHeard, ResultHeard, Merged, Tried, Purged}
use Rattle.host_model.specs.declared.task_row.TaskRow.{TaskRow}
use Rattle.host_model.proofs.Clashes.{Free, free_from, none_from, Calm, Calm-refl, Calm-trans, close_calm, either_calm, way_calm, calm_free, found_map, map_free, put_free, gave_way, planned_free}
use Rattle.host_model.proofs.Placed.{find_row-key, lift_from, put_from}
use Rattle.host_model.proofs.Standing.{changed_row, changed_key}

-- ---- each change but planning leaves what is booked as it was
other_calm : (f : Other → Other) (place : ℕ) (r : RunRow) → Calm r (change_other f place r)
other_calm f zero r = Calm-refl r
other_calm f (suc i) r = record { class = refl; interval = refl; booked = λ e. e }

confirmed_calm : (b : Bool) (m : ℕ) (r : RunRow) → Calm r (confirmed_if b m r)
confirmed_calm true m r = record { class = refl; interval = refl; booked = λ e. e }
confirmed_calm false m r = Calm-refl r

abbrev pub IsCalm : Change → Type 0
IsCalm (Planned k start tool epoch) = ⊥
IsCalm c = Unit {0}

effect_calm : (m : ℕ) (tasks : List TaskRow) (c : Change) (r : RunRow) → IsCalm c → Calm r (effect m tasks c r)
effect_calm m tasks (Planned k start tool epoch) r calm = absurd calm
effect_calm m tasks (Confirmed k) r calm = record { class = refl; interval = refl; booked = λ e. e }
effect_calm m tasks (Closed k why) r calm = close_calm _ r
effect_calm m tasks (Started k) r calm = record { class = refl; interval = refl; booked = λ e. e }
effect_calm m tasks (Ended k good body) r calm = record { class = refl; interval = refl; booked = λ e. e }
effect_calm m tasks (FreeHeard k place answer) r calm = other_calm _ place r
effect_calm m tasks (AcceptHeard k place) r calm = Calm-trans r (change_other with_acceptance place r) _ (other_calm with_acceptance place r) (confirmed_calm _ m (change_other with_acceptance place r))
effect_calm m tasks (told_there k place told) r calm = other_calm _ place r
effect_calm m tasks (MaterialHeard k) r calm = record { class = refl; interval = refl; booked = λ e. e }
effect_calm m tasks (ResultHeard k place result) r calm = other_calm _ place r
effect_calm m tasks (Merged k body) r calm = record { class = refl; interval = refl; booked = λ e. e }
effect_calm m tasks (Tried k index state) r calm = record { class = refl; interval = refl; booked = λ e. e }
effect_calm m tasks c r calm = Calm-refl r

own_calm : (m : ℕ) (tasks : List TaskRow) (c : Change) (r : RunRow) → IsCalm c → Calm r (own_effect m tasks c r)
own_calm m tasks c r calm = either_calm (has_key r.key (change_key c)) r (effect m tasks c r) r (effect_calm m tasks c r calm) (Calm-refl r)

changed_calm : (m : ℕ) (tasks : List TaskRow) (c : Change) (rows : List RunRow) (r : RunRow) → IsCalm c → Calm r (changed_row m tasks c rows r)
changed_calm m tasks c rows r calm = Calm-trans r (give_way m (incoming rows c) r) _ (way_calm m (incoming rows c) r) (own_calm m tasks c (give_way m (incoming rows c) r) calm)

calm_map : (m : ℕ) (tasks : List TaskRow) (c : Change) (rows : List RunRow) → IsCalm c → Free rows → Free (map (changed_row m tasks c rows) rows)
calm_map m tasks c rows calm free = map_free (changed_row m tasks c rows) (changed_key m tasks c rows) (λ r. changed_calm m tasks c rows r calm) rows free

-- ---- a proposal is accepted: all others have given way
cleared : (m : ℕ) (tasks : List TaskRow) (c : Change) (i : Incoming) (rows : List RunRow) → incoming rows c ≡ Some i → IsCalm c → (k : RunKey) (s : RunRow) → i.key ≢ k → find_row (map (changed_row m tasks c rows) rows) k ≡ Some s → blocks i.class i.interval s ≡ false
cleared m tasks c i rows comes calm k s apart e =
    let x = found_map (changed_row m tasks c rows) (changed_key m tasks c rows) rows k s e in
    let other : i.key ≢ x.0.key = λ same. apart (same ∙ find_row-key rows k x.0 x.1) in
    let gone : blocks i.class i.interval (give_way m (incoming rows c) x.0) ≡ false = subst (λ o. blocks i.class i.interval (give_way m o x.0) ≡ false) (sym comes) (gave_way m i x.0 other) in
    let after : blocks i.class i.interval (changed_row m tasks c rows x.0) ≡ false = calm_free i.class i.interval (give_way m (incoming rows c) x.0) _ (own_calm m tasks c (give_way m (incoming rows c) x.0) calm) gone in
    subst (λ z. blocks i.class i.interval z ≡ false) x.2 after

accepted_free : (m : ℕ) (tasks : List TaskRow) (p : Proposal) (participants : List (List ℕ)) (epoch : ℕ) (rows : List RunRow) → Free rows → Free (rows_after m tasks (Accepted p participants epoch) rows)
accepted_free m tasks p participants epoch rows free =
    let c : Change = Accepted p participants epoch in
    let i : Incoming = record { key = p.key; class = test_class p.test; interval = span_of p.start (test_length p.test) } in
    put_free (accepted_row m p participants) i.interval refl (map (changed_row m tasks c rows) rows) (cleared m tasks c i rows refl tt) (calm_map m tasks c rows tt free)

-- ---- a row that is asked reserves nothing
asked_free : (m : ℕ) (q : Question) (participants : List (List ℕ)) (asker : Asker) (rows : List RunRow) → Free rows → Free (put_new (Some (asked_row m q participants asker)) rows)
asked_free m q participants asker rows free j k r s i apart e g booked at =
    go (put_from (asked_row m q participants asker) rows j r e) (put_from (asked_row m q participants asker) rows k s g)
  where
    n : RunRow
    n = asked_row m q participants asker

    go : (find_row rows j ≡ Some r) ⊎ ((n.key ≡ j) × (n ≡ r)) → (find_row rows k ≡ Some s) ⊎ ((n.key ≡ k) × (n ≡ s)) → blocks (test_class r.test) i s ≡ false
    go (inl x) (inl y) = free j k r s i apart x y booked at
    go (inl x) (inr y) = subst (λ z. blocks (test_class r.test) i z ≡ false) y.1 refl
    go (inr x) y = let never : false ≡ true = ap is_booked x.1 ∙ booked in cc

-- ---- every change
pub rows_free : (m : ℕ) (tasks : List TaskRow) (c : Change) (rows : List RunRow) → Free rows → Free (put_new (new_row m c) (map (changed_row m tasks c rows) rows))
rows_free m tasks (Planned k start tool epoch) rows free = planned_free m tasks k start tool epoch rows free
rows_free m tasks (Accepted p participants epoch) rows free = accepted_free m tasks p participants epoch rows free
rows_free m tasks (Asked q participants asker) rows free = asked_free m q participants asker (map (changed_row m tasks (Asked q participants asker) rows) rows) (calm_map m tasks (Asked q participants asker) rows tt free)
rows_free m tasks (Purged k) rows free = calm_map m tasks (Purged k) rows tt free
rows_free m tasks c rows free = calm_map m tasks c rows tt free

-- ---- a row goes
without_free : (o : Option RunKey) (rows : List RunRow) → Free rows → Free (without_row o rows)
without_free None rows free j k r s i apart e g booked at = free j k r s i apart e g booked at
without_free (Some x) rows free j k r s i apart e g booked at = free j k r s i apart (lift_from x j rows r e) (lift_from x k rows s g) booked at

-- no two booked rows of a book conflict after a change, where none did
pub rows_clash : (m : ℕ) (tasks : List TaskRow) (c : Change) (rows : List RunRow) → NoClash rows → NoClash (rows_after m tasks c rows)
rows_clash m tasks c rows none = none_from (rows_after m tasks c rows) (without_free (purged_key c) (put_new (new_row m c) (map (changed_row m tasks c rows) rows)) (rows_free m tasks c rows (free_from rows none)))
