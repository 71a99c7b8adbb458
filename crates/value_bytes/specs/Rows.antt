-- Rows of runs as bytes.
use Rattle.std.specs.Prelude.{Bool, List, Option, refl, ℕ, ℤ}
use Rattle.ps_time.specs.Span.{Range, Span}
use Rattle.ps_time.specs.declared.asker.Asker.{Asker}
use Rattle.ps_time.specs.declared.key.RunKey.{RunKey}
use Rattle.ps_time.specs.declared.tiers.Tiers.{Tiers}
use Rattle.archive_retry.specs.declared.state.ArchiveState.{ArchiveState}
use Rattle.plugin_core.specs.declared.test_spec.TestSpec.{TestSpec}
use Rattle.run_states.specs.declared.answer.FreeAnswer.{FreeAnswer}
use Rattle.run_states.specs.declared.answer.Other.{Other}
use Rattle.run_states.specs.declared.row.Ending.{Ending}
use Rattle.run_states.specs.declared.row.RunRow.{RunRow}
use Rattle.run_states.specs.declared.why.Closing.{Closing}
use Rattle.value_bytes.specs.Keys.{asker, asker_is, interval, interval_is, key, key_is, tiers, tiers_is, window, window_is}
use Rattle.value_bytes.specs.Reasons.{closing, closing_is}
use Rattle.value_bytes.specs.States.{archive_state, archive_state_is}
use Rattle.value_bytes.specs.Tests.{test, test_is}
use Rattle.value_bytes.specs.Codec.{◌&◌, Codec, built, list, mark, number_64, option, signed_16, text}
use Rattle.value_bytes.specs.Laws.{IsCodec}
use Rattle.value_bytes.specs.ListLaws.{list_is, option_is}
use Rattle.value_bytes.specs.NumberLaws.{mark_is, number_64_is, signed_16_is}
use Rattle.value_bytes.specs.PairLaws.{built_is, pair_is}
use Rattle.value_bytes.specs.TextLaws.{text_is}

-- ---- a free answer: tools, tiers
abbrev pub FreeAnswerParts : Type 0
FreeAnswerParts = List (List ℕ) × Tiers

abbrev pub answer_of : FreeAnswerParts → FreeAnswer
answer_of p = record { tools = p.0; tiers = p.1 }

abbrev pub parts_of_answer : FreeAnswer → FreeAnswerParts
parts_of_answer x = (x.tools, x.tiers)

abbrev pub answer : Codec FreeAnswer
answer = built answer_of parts_of_answer (list text & tiers)

pub answer_is : IsCodec answer
answer_is = built_is answer_of parts_of_answer (λ x. refl) (λ p. refl) (pair_is (list_is text text_is) tiers_is)

-- ---- what is known of another participant
abbrev pub OtherParts : Type 0
OtherParts = Option FreeAnswer × (Bool × (Bool × (Bool × (Bool × Option (Option (List ℕ))))))

abbrev pub other_of : OtherParts → Other
other_of p = record { free = p.0; accepted = p.1.0; confirm_told = p.1.1.0; cancel_told = p.1.1.1.0; material_told = p.1.1.1.1.0; heard = p.1.1.1.1.1 }

abbrev pub parts_of_other : Other → OtherParts
parts_of_other x = (x.free, (x.accepted, (x.confirm_told, (x.cancel_told, (x.material_told, x.heard)))))

abbrev pub other : Codec Other
other = built other_of parts_of_other (option answer & (mark & (mark & (mark & (mark & option (option text))))))

pub other_is : IsCodec other
other_is = built_is other_of parts_of_other (λ x. refl) (λ p. refl) (pair_is (option_is answer answer_is) (pair_is mark_is (pair_is mark_is (pair_is mark_is (pair_is mark_is ((option_is (option text) (option_is text text_is))))))))

-- ---- an ending: when, whether well, the result
abbrev pub EndingParts : Type 0
EndingParts = ℕ × (Bool × List ℕ)

abbrev pub ending_of : EndingParts → Ending
ending_of p = record { moment = p.0; good = p.1.0; body = p.1.1 }

abbrev pub parts_of_ending : Ending → EndingParts
parts_of_ending x = (x.moment, (x.good, x.body))

abbrev pub ending : Codec Ending
ending = built ending_of parts_of_ending (number_64 & (mark & text))

pub ending_is : IsCodec ending
ending_is = built_is ending_of parts_of_ending (λ x. refl) (λ p. refl) (pair_is number_64_is (pair_is mark_is text_is))

-- ---- a row: the fields of its type, in their order
-- what it measures, and where and when
abbrev pub WorkParts : Type 0
WorkParts = RunKey × (TestSpec × (Option (List ℕ) × (Option Span × ℤ)))

abbrev pub work : Codec WorkParts
work = key & (test & ((option text) & ((option interval) & signed_16)))

work_is : IsCodec work
work_is = pair_is key_is (pair_is test_is (pair_is (option_is text text_is) (pair_is (option_is interval interval_is) signed_16_is)))

abbrev pub work_of_row : RunRow → WorkParts
work_of_row r = (r.key, (r.test, (r.tool, (r.interval, r.priority))))

-- who takes part, who asked, and its first steps
abbrev pub StepsParts : Type 0
StepsParts = List (List ℕ) × (Asker × (Option ℕ × (Option ℕ × Option ℕ)))

abbrev pub steps : Codec StepsParts
steps = (list text) & (asker & ((option number_64) & ((option number_64) & (option number_64))))

steps_is : IsCodec steps
steps_is = pair_is (list_is text text_is) (pair_is asker_is (pair_is (option_is number_64 number_64_is) (pair_is (option_is number_64 number_64_is) ((option_is number_64 number_64_is)))))

abbrev pub steps_of_row : RunRow → StepsParts
steps_of_row r = (r.participants, (r.asker, (r.accepted, (r.confirmed, r.started))))

-- how it ended or was closed, and what was asked
abbrev pub EndsParts : Type 0
EndsParts = Option Ending × (Option ℕ × (Option Closing × (Option Range × Option ℕ)))

abbrev pub ends : Codec EndsParts
ends = (option ending) & ((option number_64) & ((option closing) & ((option window) & (option number_64))))

ends_is : IsCodec ends
ends_is = pair_is (option_is ending ending_is) (pair_is (option_is number_64 number_64_is) (pair_is (option_is closing closing_is) (pair_is (option_is window window_is) ((option_is number_64 number_64_is)))))

abbrev pub ends_of_row : RunRow → EndsParts
ends_of_row r = (r.ended, (r.material, (r.closed, (r.question, r.asked))))

-- what its lead knows
abbrev pub LeadParts : Type 0
LeadParts = List Other × (Option (List ℕ) × List ArchiveState)

abbrev pub lead : Codec LeadParts
lead = (list other) & ((option text) & (list archive_state))

lead_is : IsCodec lead
lead_is = pair_is (list_is other other_is) (pair_is (option_is text text_is) ((list_is archive_state archive_state_is)))

abbrev pub lead_of_row : RunRow → LeadParts
lead_of_row r = (r.others, (r.merged, r.archives))

abbrev pub RowParts : Type 0
RowParts = WorkParts × (StepsParts × (EndsParts × LeadParts))

abbrev pub row_of : RowParts → RunRow
row_of p = record {
  key = p.0.0;
  test = p.0.1.0;
  tool = p.0.1.1.0;
  interval = p.0.1.1.1.0;
  priority = p.0.1.1.1.1;
  participants = p.1.0.0;
  asker = p.1.0.1.0;
  accepted = p.1.0.1.1.0;
  confirmed = p.1.0.1.1.1.0;
  started = p.1.0.1.1.1.1;
  ended = p.1.1.0.0;
  material = p.1.1.0.1.0;
  closed = p.1.1.0.1.1.0;
  question = p.1.1.0.1.1.1.0;
  asked = p.1.1.0.1.1.1.1;
  others = p.1.1.1.0;
  merged = p.1.1.1.1.0;
  archives = p.1.1.1.1.1;
}

abbrev pub parts_of_row : RunRow → RowParts
parts_of_row r = (work_of_row r, (steps_of_row r, (ends_of_row r, lead_of_row r)))

abbrev pub row : Codec RunRow
row = built row_of parts_of_row (work & (steps & (ends & lead)))

pub row_is : IsCodec row
row_is = built_is row_of parts_of_row (λ r. refl) (λ p. refl) (pair_is work_is (pair_is steps_is (pair_is ends_is lead_is)))
