use Rattle.std.proofs.Common.{◌≡◌, ◌∙◌, ap}
use Rattle.ps_time.specs.Key.{key_cmp}
use Rattle.ps_time.proofs.KeyLemmas.{same_key}
use Rattle.run_states.specs.Effect.{noted_row}
use Rattle.run_states.specs.Rows.{Rows, IsPlaceOf}
use Rattle.run_states.specs.declared.row.RunRow.{RunRow}
use Rattle.run_states.proofs.Place.{ascending_change, change_place, noted_key, own_place, place_set}
use Rattle.run_states.proofs.rows.Rows.note_at.Goals as goal

-- the row at the place is changed, and keeps its key
pub invariant_of-self : goal.invariant_of-self
invariant_of-self c =
    let rows = c.self.inside.rows.list in
    let seen : rows ≡ c.args.self.now.list = ap (λ (t : Rows). t.list) c.self.view_is in
    let r = c.index_mut-row.result.now in
    let place : IsPlaceOf rows r.key c.args.place = own_place rows c.args.place r (rw seen c.requires.place) c.index_mut-row.ensures.value in
    rw (c.note.ensures, c.index_mut-row.ensures.value, change_place (noted_row c.args.fact c.args.moment) _ _ c.self.invariant _ r place)
    (ascending_change (noted_row c.args.fact c.args.moment) _ _ (λ x. noted_key c.args.fact c.args.moment x) c.self.invariant)

pub returns-clause-rows : goal.returns-clause-rows
returns-clause-rows c = λ k at.
    let seen : c.self.inside.rows.list ≡ c.args.self.now.list = ap (λ (t : Rows). t.list) c.self.view_is in
    let place : IsPlaceOf c.self.inside.rows.list k c.args.place = rw seen at in
    rw (← seen, c.note.ensures, c.index_mut-row.ensures.value) (change_place (noted_row c.args.fact c.args.moment) _ _ c.self.invariant _ c.index_mut-row.result.now place)

-- and so its place
pub returns-clause-place : goal.returns-clause-place
returns-clause-place c = λ k at.
    let rows = c.self.inside.rows.list in
    let seen : rows ≡ c.args.self.now.list = ap (λ (t : Rows). t.list) c.self.view_is in
    let place : IsPlaceOf rows k c.args.place = rw seen at in
    let r = c.index_mut-row.result.now in
    let same : r.key ≡ k = same_key r.key k (ap (λ (x : RunRow). key_cmp x.key k) c.index_mut-row.ensures.value ∙ place.same r) in
    rw c.note.ensures (place_set rows k c.args.place (noted_row c.args.fact c.args.moment r) (noted_key c.args.fact c.args.moment r ∙ same) place)
