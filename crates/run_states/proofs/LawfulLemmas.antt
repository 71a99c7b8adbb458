-- What keeps the rules of a row: time that passes, settling, each step of its life, and each fact.
use Rattle.std.proofs.Common.{◌≡◌, ℕ, zero, suc, ◌+◌, ◌≤◌, Bool, true, false, not, cond, ◌&&◌, nat_le, nat_lt, min, IsTrue, List, [], ◌∷◌, Option, Some, None, is_some, option_map, option_and_then, IfSome, IsSome, IsNone, All, get_or, refl, ap, subst, ◌∙◌, arith}
use Rattle.std.proofs.lemmas.Bool.Decides.{nat_tests}
use Rattle.std.proofs.lemmas.List.Elements.{All-map}
use Rattle.ps_time.specs.Numbers.{grace, greatest_moment, hold}
use Rattle.ps_time.specs.Span.{Span, span_of}
use Rattle.ps_time.specs.declared.key.RunKey.{RunKey}
use Rattle.plugin_tool.specs.Choice.{tool_of_text}
use Rattle.plugin_core.specs.TestSpec.{test_length}
use Rattle.archive_retry.specs.Merge.{IsResult, IsResultText, IsTreeText}
use Rattle.archive_retry.specs.declared.state.ArchiveState.{ArchiveState}
use Rattle.run_states.specs.declared.answer.Answer.{Answer}
use Rattle.run_states.specs.declared.answer.Answer.TheVariants.{Free, Accepted, Acknowledged, Result}
use Rattle.run_states.specs.declared.answer.Told.TheVariants.{Confirm as told_confirm, Cancel as told_cancel, Material as told_material}
use Rattle.run_states.specs.declared.answer.Other.{Other}
use Rattle.run_states.specs.declared.fact.Fact.{Fact}
use Rattle.run_states.specs.declared.fact.Fact.TheVariants.{Planned, Answered, MaterialHeard, Merged, Tried}
use Rattle.run_states.specs.declared.life.LifeStep.{LifeStep}
use Rattle.run_states.specs.declared.life.LifeStep.TheVariants.{Confirm, Start, End, Close}
use Rattle.run_states.specs.declared.row.Ending.{Ending}
use Rattle.run_states.specs.declared.row.RunRow.{RunRow}
use Rattle.run_states.specs.declared.why.Cause.TheVariants.{Silent, HoldEnded}
use Rattle.run_states.specs.declared.why.Closing.{Closing}
use Rattle.run_states.specs.declared.why.Why.{Why}
use Rattle.run_states.specs.declared.why.Why.TheVariants.{Missed, Nonstart}
use Rattle.run_states.specs.Effect.{accept_row, change_at, change_other, confirmed_complete, confirmed_if, is_acceptance, is_alone, is_complete, material_row, merge_row, noted_row, or_else, tried_row, with_answer}
use Rattle.run_states.specs.LawfulRow.{BringsAnswer, BringsHeard, BringsResults, CanNote, CanTake, HasArchives, HasOrigin, IsDueInTime, IsFreeAnswer, IsLawfulRow, IsOther, IsUpTo, IsWhy, Needs, Reserves}
use Rattle.run_states.specs.Life.{first_there, close_row, closed_by, confirm_row, end_row, start_row, is_booked, lapse_asked, lapse_at, lapse_held, lapse_missed, lapse_of, marked_row, settled_row, settled_rows}
use Rattle.run_states.specs.Rows.{change_row, find_row, IsAscendingRows}
use Rattle.run_states.proofs.EffectLemmas.{change_all, change_length}
use Rattle.run_states.proofs.Place.{changed_all}

-- ---- time passes
module _ (m n : ℕ) (later : m ≤ n) where
  moment_later : (o : Option ℕ) → IsUpTo m o → IsUpTo n o
  moment_later None low = tt
  moment_later (Some x) low = omega arith

  end_later : (o : Option Ending) → IfSome o (λ e. e.moment ≤ m) → IfSome o (λ e. e.moment ≤ n)
  end_later None low = tt
  end_later (Some e) low = omega arith

  closing_later : (o : Option Closing) → IfSome o (λ c. c.moment ≤ m) → IfSome o (λ c. c.moment ≤ n)
  closing_later None low = tt
  closing_later (Some c) low = omega arith

  pub lawful_later : (r : RunRow) → IsLawfulRow m r → IsLawfulRow n r
  lawful_later r l = record {
    moments = record {
      asked = moment_later r.asked l.moments.asked;
      accepted = moment_later r.accepted l.moments.accepted;
      confirmed = moment_later r.confirmed l.moments.confirmed;
      started = moment_later r.started l.moments.started;
      material = moment_later r.material l.moments.material;
      ended = end_later r.ended l.moments.ended;
      closed = closing_later r.closed l.moments.closed;
    };
    test = l.test;
    reserves = l.reserves;
    participants = l.participants;
    origin = l.origin;
    question = l.question;
    life = record { confirmed = l.life.confirmed; started = l.life.started; ended = l.life.ended; material = l.life.material };
    closed = l.closed;
    result = l.result;
    others = l.others;
    merged = l.merged;
    archives = l.archives;
  }

-- ---- what is set by `first_there`
-- what holds of what stands, and of what comes, holds after
first_if : {A : Type 0} (P : A → Type 0) (o : Option A) (a : A) → IfSome o P → P a → IfSome (first_there o (Some a)) P
first_if P None a stands comes = comes
first_if P (Some b) a stands comes = stands

first_some : {A : Type 0} (o : Option A) (a : A) → IsSome (first_there o (Some a))
first_some None a = refl
first_some (Some b) a = refl

needs_first : {A B : Type 0} (o : Option A) (p : Option B) (b : B) → Needs o (first_there p (Some b))
needs_first None p b = tt
needs_first (Some a) p b = first_some p b

-- ---- moments, where one comes at m
module _ (m : ℕ) (r : RunRow) (l : IsLawfulRow m r) where
  -- confirmed, where it was accepted
  pub confirmed_lawful : IsSome r.accepted → IsLawfulRow m (confirm_row m r)
  confirmed_lawful accepted = record {
    moments = record {
      asked = l.moments.asked;
      accepted = l.moments.accepted;
      confirmed = first_if (λ x. x ≤ m) r.confirmed m l.moments.confirmed (omega arith);
      started = l.moments.started;
      material = l.moments.material;
      ended = l.moments.ended;
      closed = l.moments.closed;
    };
    test = l.test;
    reserves = l.reserves;
    participants = l.participants;
    origin = l.origin;
    question = l.question;
    life = record {
      confirmed = first_if (λ x. IsSome r.accepted) r.confirmed m l.life.confirmed accepted;
      started = still r.started l.life.started;
      ended = l.life.ended;
      material = l.life.material;
    };
    closed = l.closed;
    result = l.result;
    others = l.others;
    merged = l.merged;
    archives = l.archives;
  }
    where
      still : (o : Option ℕ) → IfSome o (λ x. IsSome r.confirmed × IsNone r.closed) → IfSome o (λ x. IsSome (first_there r.confirmed (Some m)) × IsNone r.closed)
      still None started = tt
      still (Some s) started = (first_some r.confirmed m, started.1)

  -- started, where it was confirmed and isn't closed
  pub started_lawful : IsSome r.confirmed → IsNone r.closed → IsLawfulRow m (start_row m r)
  started_lawful confirmed unclosed = record {
    moments = record {
      asked = l.moments.asked;
      accepted = l.moments.accepted;
      confirmed = l.moments.confirmed;
      started = first_if (λ x. x ≤ m) r.started m l.moments.started (omega arith);
      material = l.moments.material;
      ended = l.moments.ended;
      closed = l.moments.closed;
    };
    test = l.test;
    reserves = l.reserves;
    participants = l.participants;
    origin = l.origin;
    question = l.question;
    life = record {
      confirmed = l.life.confirmed;
      started = first_if (λ x. IsSome r.confirmed × IsNone r.closed) r.started m l.life.started (confirmed, unclosed);
      ended = needs_first r.ended r.started m;
      material = needs_first r.material r.started m;
    };
    closed = l.closed;
    result = l.result;
    others = l.others;
    merged = l.merged;
    archives = l.archives;
  }

  -- ended with a result, where it was started
  pub ended_lawful : (e : Ending) → e.moment ≤ m → IsResultText e.body → IsSome r.started → IsLawfulRow m (end_row e r)
  ended_lawful e low text started = record {
    moments = record {
      asked = l.moments.asked;
      accepted = l.moments.accepted;
      confirmed = l.moments.confirmed;
      started = l.moments.started;
      material = l.moments.material;
      ended = first_if (λ x. x.moment ≤ m) r.ended e l.moments.ended low;
      closed = l.moments.closed;
    };
    test = l.test;
    reserves = l.reserves;
    participants = l.participants;
    origin = l.origin;
    question = l.question;
    life = record {
      confirmed = l.life.confirmed;
      started = l.life.started;
      ended = first_if (λ x. IsSome r.started) r.ended e l.life.ended started;
      material = l.life.material;
    };
    closed = l.closed;
    result = result_after r.ended l.result;
    others = l.others;
    merged = merged_after r.merged l.merged;
    archives = l.archives;
  }
    where
      result_after : (o : Option Ending) → IsResult (option_map (λ x. x.body) o) → IsResult (option_map (λ x. x.body) (first_there o (Some e)))
      result_after None result = text
      result_after (Some x) result = result

      merged_after : (o : Option (List ℕ)) → HasArchives r o → HasArchives (end_row e r) o
      merged_after None has = has
      merged_after (Some body) has = (has.0, first_some r.ended e)

  -- closed for a reason, where it isn't started
  pub closed_lawful : (c : Closing) → c.moment ≤ m → IsWhy c.why → IsNone r.started → IsLawfulRow m (close_row c r)
  closed_lawful c low why unclosed = record {
    moments = record {
      asked = l.moments.asked;
      accepted = l.moments.accepted;
      confirmed = l.moments.confirmed;
      started = l.moments.started;
      material = l.moments.material;
      ended = l.moments.ended;
      closed = first_if (λ x. x.moment ≤ m) r.closed c l.moments.closed low;
    };
    test = l.test;
    reserves = l.reserves;
    participants = l.participants;
    origin = l.origin;
    question = l.question;
    life = record {
      confirmed = l.life.confirmed;
      started = still r.started unclosed;
      ended = l.life.ended;
      material = l.life.material;
    };
    closed = first_if (λ x. IsWhy x.why) r.closed c l.closed why;
    result = l.result;
    others = l.others;
    merged = l.merged;
    archives = l.archives;
  }
    where
      still : (o : Option ℕ) → IsNone o → IfSome o (λ x. IsSome r.confirmed × IsNone (first_there r.closed (Some c)))
      still None none = tt
      still (Some s) none = cc

  -- ---- facts
  -- material came, where it was started
  pub material_lawful : IsSome r.started → IsLawfulRow m (material_row m r)
  material_lawful started = record {
    moments = record {
      asked = l.moments.asked;
      accepted = l.moments.accepted;
      confirmed = l.moments.confirmed;
      started = l.moments.started;
      material = first_if (λ x. x ≤ m) r.material m l.moments.material (omega arith);
      ended = l.moments.ended;
      closed = l.moments.closed;
    };
    test = l.test;
    reserves = l.reserves;
    participants = l.participants;
    origin = l.origin;
    question = l.question;
    life = record {
      confirmed = l.life.confirmed;
      started = l.life.started;
      ended = l.life.ended;
      material = first_if (λ x. IsSome r.started) r.material m l.life.material started;
    };
    closed = l.closed;
    result = l.result;
    others = l.others;
    merged = l.merged;
    archives = l.archives;
  }

  -- accepted with a known tool, for the length of its test
  pub accepted_lawful : (tool : List ℕ) (s : Span) → IsSome (tool_of_text tool) → s.start ≤ greatest_moment → s ≡ span_of s.start (test_length r.test) → IsLawfulRow m (accept_row m s tool r)
  accepted_lawful tool s known low exact = record {
    moments = record {
      asked = l.moments.asked;
      accepted = first_if (λ x. x ≤ m) r.accepted m l.moments.accepted (omega arith);
      confirmed = l.moments.confirmed;
      started = l.moments.started;
      material = l.moments.material;
      ended = l.moments.ended;
      closed = l.moments.closed;
    };
    test = l.test;
    reserves = reserves_after r.accepted r.tool r.interval l.reserves;
    participants = l.participants;
    origin = origin_after r.asked l.origin;
    question = l.question;
    life = record {
      confirmed = needs_first r.confirmed r.accepted m;
      started = l.life.started;
      ended = l.life.ended;
      material = l.life.material;
    };
    closed = l.closed;
    result = l.result;
    others = l.others;
    merged = l.merged;
    archives = l.archives;
  }
    where
      reserves_after : (a : Option ℕ) (t : Option (List ℕ)) (i : Option Span) → Reserves r.test a t i → Reserves r.test (first_there a (Some m)) (first_there t (Some tool)) (first_there i (Some s))
      reserves_after None None None all = (known, low, exact)
      reserves_after (Some a) (Some t) (Some i) all = all
      reserves_after None None (Some i) all = absurd all
      reserves_after None (Some t) i all = absurd all
      reserves_after (Some a) None i all = absurd all
      reserves_after (Some a) (Some t) None all = absurd all

      origin_after : (o : Option ℕ) → HasOrigin r o → HasOrigin (accept_row m s tool r) o
      origin_after None has = (first_some r.accepted m, has.1, has.2)
      origin_after (Some asked) has = has

  -- more is known of another participant
  pub other_lawful : (f : Other → Other) → ((o : Other) → IsOther o → IsOther (f o)) → (place : ℕ) → IsLawfulRow m (change_other f place r)
  other_lawful f keeps zero = l
  other_lawful f keeps (suc i) = record {
    moments = record {
      asked = l.moments.asked;
      accepted = l.moments.accepted;
      confirmed = l.moments.confirmed;
      started = l.moments.started;
      material = l.moments.material;
      ended = l.moments.ended;
      closed = l.moments.closed;
    };
    test = l.test;
    reserves = l.reserves;
    participants = l.participants;
    origin = origin_after r.asked l.origin;
    question = l.question;
    life = record { confirmed = l.life.confirmed; started = l.life.started; ended = l.life.ended; material = l.life.material };
    closed = l.closed;
    result = l.result;
    others = change_all f IsOther keeps i r.others l.others;
    merged = l.merged;
    archives = l.archives;
  }
    where
      origin_after : (o : Option ℕ) → HasOrigin r o → HasOrigin (change_other f (suc i) r) o
      origin_after None has = (has.0, has.1, ap (change_at f i) has.2)
      origin_after (Some asked) has = (has.0, ap (λ n. n + 1) (change_length f i r.others) ∙ has.1)

  -- merged, where it ended
  pub merged_lawful : (body : List ℕ) (states : List ArchiveState) → IsTreeText body → IsSome r.ended → All IsDueInTime states → IsLawfulRow m (merge_row states body r)
  merged_lawful body states text ended due = record {
    moments = record {
      asked = l.moments.asked;
      accepted = l.moments.accepted;
      confirmed = l.moments.confirmed;
      started = l.moments.started;
      material = l.moments.material;
      ended = l.moments.ended;
      closed = l.moments.closed;
    };
    test = l.test;
    reserves = l.reserves;
    participants = l.participants;
    origin = l.origin;
    question = l.question;
    life = record { confirmed = l.life.confirmed; started = l.life.started; ended = l.life.ended; material = l.life.material };
    closed = l.closed;
    result = l.result;
    others = l.others;
    merged = merged_after r.merged l.merged;
    archives = archives_after r.archives l.archives;
  }
    where
      merged_after : (o : Option (List ℕ)) → HasArchives r o → HasArchives (merge_row states body r) (first_there o (Some body))
      merged_after None has = (text, ended)
      merged_after (Some old) has = has

      archives_after : (xs : List ArchiveState) → All IsDueInTime xs → All IsDueInTime (or_else xs states)
      archives_after [] all = due
      archives_after (x ∷ xs) all = all

  -- an archiver was tried
  pub tried_lawful : (index : ℕ) (state : ArchiveState) → IsDueInTime state → IsLawfulRow m (tried_row index state r)
  tried_lawful index state due = record {
    moments = record {
      asked = l.moments.asked;
      accepted = l.moments.accepted;
      confirmed = l.moments.confirmed;
      started = l.moments.started;
      material = l.moments.material;
      ended = l.moments.ended;
      closed = l.moments.closed;
    };
    test = l.test;
    reserves = l.reserves;
    participants = l.participants;
    origin = l.origin;
    question = l.question;
    life = record { confirmed = l.life.confirmed; started = l.life.started; ended = l.life.ended; material = l.life.material };
    closed = l.closed;
    result = l.result;
    others = l.others;
    merged = merged_after r.merged l.merged;
    archives = change_all (λ before. state) IsDueInTime (λ before all. due) index r.archives l.archives;
  }
    where
      merged_after : (o : Option (List ℕ)) → HasArchives r o → HasArchives (tried_row index state r) o
      merged_after None has = ap (change_at (λ before. state) index) has
      merged_after (Some old) has = has

-- ---- a step of its life
booked_accepted : (r : RunRow) → IsTrue (is_booked r) → IsSome r.accepted
booked_accepted r booked = both (is_some r.accepted) (not (is_some r.closed)) booked
  where
    both : (a b : Bool) → IsTrue (a && b) → a ≡ true
    both true b holds = refl
    both false b fails = cc

pub step_lawful : (step : LifeStep) (m : ℕ) (r : RunRow) → CanTake step r → IsLawfulRow m r → IsLawfulRow m (marked_row step m r)
step_lawful Confirm m r can l = confirmed_lawful m r l (booked_accepted r can.may)
step_lawful Start m r can l = let parts = three (is_some r.closed) (is_some r.confirmed) (is_some r.started) can.may in started_lawful m r l parts.1 parts.0
  where
    three : (c k s : Bool) → IsTrue (not c && (k && not s)) → (c ≡ false) × (k ≡ true)
    three false true s holds = (refl, refl)
    three true k s fails = cc
    three false false s fails = cc
step_lawful (End good body) m r can l = ended_lawful m r l (record { moment = m; good = good; body = body }) (omega arith) can.result (started (is_some r.started) (not (is_some r.ended)) can.may)
  where
    started : (a b : Bool) → IsTrue (a && b) → a ≡ true
    started true b holds = refl
    started false b fails = cc
step_lawful (Close why) m r can l = closed_lawful m r l (record { moment = m; why = why }) (omega arith) can.why (unclosed (is_some r.closed) (is_some r.started) can.may)
  where
    unclosed : (a b : Bool) → IsTrue (not a && not b) → b ≡ false
    unclosed false false holds = refl
    unclosed false true fails = cc
    unclosed true b fails = cc

-- ---- settling
abbrev closing : ℕ → Why → Closing
closing m why = record { moment = m; why = why }

module _ (m : ℕ) where
  -- not above m, for a reason within bounds
  abbrev Timely : Closing → Type 0
  Timely c = (c.moment ≤ m) × IsWhy c.why

  timely_if : (b : Bool) (d c : Closing) → (b ≡ true → Timely d) → cond b (Some d) None ≡ Some c → Timely c
  timely_if true d c is e = let same : d ≡ c = cc in subst Timely same (is refl)
  timely_if false d c is e = cc

  asked_timely : (o : Option ℕ) (c : Closing) → lapse_asked m o ≡ Some c → Timely c
  asked_timely None c e = cc
  asked_timely (Some a) c e = timely_if (nat_le (a + hold) m) (closing (a + hold) (Nonstart Silent)) c (λ low. (grind (arith, nat_tests), tt)) e

  held_timely : (a : ℕ) (o : Option Span) (c : Closing) → lapse_held m a o ≡ Some c → Timely c
  held_timely a None c e = cc
  held_timely a (Some i) c e = timely_if (nat_le (min (a + hold) i.start) m) (closing (min (a + hold) i.start) (Nonstart HoldEnded)) c (λ low. (grind (arith, nat_tests), tt)) e

  missed_timely : (o : Option Span) (c : Closing) → lapse_missed m o ≡ Some c → Timely c
  missed_timely None c e = cc
  missed_timely (Some i) c e = timely_if (nat_lt (i.start + grace) m) (closing (i.start + (grace + 1)) Missed) c (λ low. (grind (arith, nat_tests), tt)) e

  -- what lapses wasn't started
  lapsed_timely : (r : RunRow) (c : Closing) (o : Option Closing) (a k s : Option ℕ) → lapse_at m r o a k s ≡ Some c → Needs k a → Needs s k → Timely c × IsNone s
  lapsed_timely r c (Some d) a k s e f g = cc
  lapsed_timely r c None None None None e f g = (asked_timely r.asked c e, refl)
  lapsed_timely r c None None None (Some s) e f g = cc
  lapsed_timely r c None None (Some k) s e f g = cc
  lapsed_timely r c None (Some a) None None e f g = (held_timely a r.interval c e, refl)
  lapsed_timely r c None (Some a) None (Some s) e f g = cc
  lapsed_timely r c None (Some a) (Some k) None e f g = (missed_timely r.interval c e, refl)
  lapsed_timely r c None (Some a) (Some k) (Some s) e f g = cc

  pub settled_lawful : (r : RunRow) → IsLawfulRow m r → IsLawfulRow m (settled_row m r)
  settled_lawful r l = go (lapse_of m r) refl
    where
      started : (o : Option ℕ) → IfSome o (λ x. IsSome r.confirmed × IsNone r.closed) → Needs o r.confirmed
      started None has = tt
      started (Some s) has = has.0

      go : (o : Option Closing) → lapse_of m r ≡ o → IsLawfulRow m (closed_by o r)
      go None e = l
      go (Some c) e =
          let timely = lapsed_timely r c r.closed r.accepted r.confirmed r.started e l.life.confirmed (started r.started l.life.started) in
          closed_lawful m r l c timely.0.0 timely.0.1 timely.1

-- ---- a fact
confirmed_if_lawful : (b : Bool) (m : ℕ) (r : RunRow) → IsLawfulRow m r → (b ≡ true → IsSome r.accepted) → IsLawfulRow m (confirmed_if b m r)
confirmed_if_lawful true m r l accepted = confirmed_lawful m r l (accepted refl)
confirmed_if_lawful false m r l accepted = l

complete_lawful : (b : Bool) (m : ℕ) (r : RunRow) → IsLawfulRow m r → IsLawfulRow m (cond b (confirmed_complete m r) r)
complete_lawful true m r l = confirmed_if_lawful (is_booked r && is_complete r) m r l (λ holds. booked_accepted r (both (is_booked r) (is_complete r) holds))
  where
    both : (a b : Bool) → (a && b) ≡ true → IsTrue a
    both true b holds = refl
    both false b fails = cc
complete_lawful false m r l = l

heard_keeps : (result : Option (List ℕ)) → IsResult result → (o : Option (Option (List ℕ))) → IsResult (option_and_then (λ told. told) o) → IsResult (option_and_then (λ told. told) (first_there o (Some result)))
heard_keeps result brings None is = brings
heard_keeps result brings (Some old) is = is

answer_keeps : (answer : Answer) → BringsAnswer answer → BringsHeard answer → (o : Other) → IsOther o → IsOther (with_answer answer o)
answer_keeps (Free answer) free heard o is = record { free = first_if IsFreeAnswer o.free answer is.free free; heard = is.heard }
answer_keeps Accepted free heard o is = record { free = is.free; heard = is.heard }
answer_keeps (Acknowledged told_confirm) free heard o is = record { free = is.free; heard = is.heard }
answer_keeps (Acknowledged told_cancel) free heard o is = record { free = is.free; heard = is.heard }
answer_keeps (Acknowledged told_material) free heard o is = record { free = is.free; heard = is.heard }
answer_keeps (Result result) free heard o is = record { free = is.free; heard = heard_keeps result heard o.heard is.heard }

pub fact_lawful : (fact : Fact) (m : ℕ) (r : RunRow) → BringsResults fact → CanNote fact r → IsLawfulRow m r → IsLawfulRow m (noted_row fact m r)
fact_lawful (Planned tool s) m r brings can l =
    let accepted = accept_row m s tool r in
    confirmed_if_lawful (is_booked accepted && is_alone accepted) m accepted (accepted_lawful m r l tool s can.2 can.3 can.4) (λ holds. first_some r.accepted m)
fact_lawful (Answered place answer) m r brings can l =
    complete_lawful (is_acceptance answer) m (change_other (with_answer answer) place r) (other_lawful m r l (with_answer answer) (answer_keeps answer can brings) place)
fact_lawful MaterialHeard m r brings can l = material_lawful m r l can
fact_lawful (Merged body states) m r brings can l = merged_lawful m r l body states brings can.0 can.1
fact_lawful (Tried index state) m r brings can l = tried_lawful m r l index state can

-- ---- all rows
module _ (m n : ℕ) (earlier : m ≤ n) (rows : List RunRow) (lawful : All (IsLawfulRow m) rows) where
  pub later_all : All (IsLawfulRow n) rows
  later_all = λ i d lt. lawful_later m n earlier (get_or rows i d) (lawful i d lt)

  pub settled_all : All (IsLawfulRow n) (settled_rows n rows)
  settled_all = All-map (IsLawfulRow n) (settled_row n) rows (λ i d lt. settled_lawful n (get_or rows i d) (later_all i d lt))

  module _ (k : RunKey) (up : IsAscendingRows rows) where
    pub marked_all : (step : LifeStep) → IfSome (find_row rows k) (CanTake step) → All (IsLawfulRow n) (change_row (marked_row step n) rows k)
    marked_all step can =
        changed_all (IsLawfulRow m) (IsLawfulRow n) (λ r l. lawful_later m n earlier r l) (marked_row step n) k (CanTake step) (λ r here l. step_lawful step n r here (lawful_later m n earlier r l)) rows up can lawful

    pub noted_all : (fact : Fact) → BringsResults fact → IfSome (find_row rows k) (CanNote fact) → All (IsLawfulRow n) (change_row (noted_row fact n) rows k)
    noted_all fact brings can =
        changed_all (IsLawfulRow m) (IsLawfulRow n) (λ r l. lawful_later m n earlier r l) (noted_row fact n) k (CanNote fact) (λ r here l. fact_lawful fact n r brings here (lawful_later m n earlier r l)) rows up can lawful
