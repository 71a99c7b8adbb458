-- What waiting says of a row, and when it lapses.
use Rattle.std.specs.List.{list_all}
use Rattle.std.proofs.Common.{◌≡◌, ℕ, Bool, true, false, not, ◌&&◌, Option, Some, None, is_some, refl}
use Rattle.run_states.specs.Life.{lapse_at, lapse_missed, lapse_of}
use Rattle.run_states.specs.Purging.{is_settled_archive}
use Rattle.run_states.specs.declared.row.RunRow.{RunRow}
use Rattle.run_states.specs.declared.why.Closing.{Closing}
use Rattle.host_rows.specs.Still.{is_ahead, is_quiet, is_waiting}

pub both : (a b : Bool) → (a && b) ≡ true → (a ≡ true) × (b ≡ true)
both true b e = (refl, e)
both false b e = cc

pub is_not : (a : Bool) → not a ≡ true → a ≡ false
is_not false e = refl
is_not true e = cc

pub record Waiting (r : RunRow) : Type 0 where
  pub accepted : is_some r.accepted ≡ true
  pub confirmed : is_some r.confirmed ≡ true
  pub unstarted : is_some r.started ≡ false
  pub unended : is_some r.ended ≡ false
  pub unclosed : is_some r.closed ≡ false
  pub quiet : is_quiet r ≡ true
  pub archived : list_all is_settled_archive r.archives ≡ true

pub waiting_parts : (r : RunRow) → is_waiting r ≡ true → Waiting r
waiting_parts r waits =
    let a = both (is_ahead r) (is_quiet r && list_all is_settled_archive r.archives) waits in
    let b = both (is_some r.accepted) (is_some r.confirmed && (not (is_some r.started) && (not (is_some r.ended) && not (is_some r.closed)))) a.0 in
    let c = both (is_some r.confirmed) (not (is_some r.started) && (not (is_some r.ended) && not (is_some r.closed))) b.1 in
    let d = both (not (is_some r.started)) (not (is_some r.ended) && not (is_some r.closed)) c.1 in
    let e = both (not (is_some r.ended)) (not (is_some r.closed)) d.1 in
    let f = both (is_quiet r) (list_all is_settled_archive r.archives) a.1 in
    record { accepted = b.0; confirmed = c.0; unstarted = is_not (is_some r.started) d.0; unended = is_not (is_some r.ended) e.0; unclosed = is_not (is_some r.closed) e.1; quiet = f.0; archived = f.1 }

-- it lapses where its start is missed
pub waiting_lapse : (m : ℕ) (r : RunRow) → Waiting r → lapse_of m r ≡ lapse_missed m r.interval
waiting_lapse m r waits = go r.closed r.accepted r.confirmed r.started waits.unclosed waits.accepted waits.confirmed waits.unstarted
  where
    go : (closed : Option Closing) (accepted confirmed started : Option ℕ) → is_some closed ≡ false → is_some accepted ≡ true → is_some confirmed ≡ true → is_some started ≡ false → lapse_at m r closed accepted confirmed started ≡ lapse_missed m r.interval
    go None (Some a) (Some f) None open_ has sure new = refl
    go (Some c) accepted confirmed started open_ has sure new = cc
    go None None confirmed started open_ has sure new = cc
    go None (Some a) None started open_ has sure new = cc
    go None (Some a) (Some f) (Some s) open_ has sure new = cc
