-- Limits that are read have whole numbers alone and are flat, and a refusal hides no running out of memory.
use Rattle.std.proofs.Common.{◌≡◌, ℕ, suc, pos, nat_lt, if◌then◌else◌, false, List, [], Option, Some, None, Result, Ok, Err, refl, sym, ap, ◌∙◌, subst, unsigned_abs, codes}
use Rattle.serde_json.specs.Data.{Data, null, boolean, number, string, array, object, Members}
use Rattle.ps_json.specs.Answer.{then_with}
use Rattle.ps_json.specs.Each.{read_each}
use Rattle.ps_json.specs.Fields.{without_member}
use Rattle.ps_json.specs.Member.{required, optional, member_then}
use Rattle.ps_time.specs.Length.{length_of}
use Rattle.ps_time.specs.Moment.{moment_of}
use Rattle.ps_time.specs.declared.moment.Round.{Round}
use Rattle.ps_time.specs.declared.moment.Round.TheVariants.{Up, Down}
use Rattle.ps_time.specs.declared.moment.TimeFault.{TimeFault}
use Rattle.plugin_core.specs.Kind.{kind_of_text}
use Rattle.plugin_core.specs.declared.kind.TestKind.{TestKind}
use Rattle.limit_ident.specs.Fault.{wrapped}
use Rattle.limit_ident.specs.Member.{whole_in, ended, described, flag_in}
use Rattle.limit_ident.specs.Plain.{IsPlain, ArePlain, IsFlat, AreFlat, Gives}
use Rattle.limit_ident.specs.declared.fault.LimitFault.{LimitFault}
use Rattle.limit_ident.specs.declared.fault.LimitFault.TheVariants.{BadRange}
use Rattle.limit_ident.proofs.PlainLemmas.{gives_then, gives_more, gives_to, gives_unless, gives_object, gives_required, gives_optional, gives_flag, gives_each, gives_some, ends, ends_described, by_text, all_of, plain_without}
use Rattle.limit_ident.proofs.FlatLemmas.{gives_whole, gives_entries}
use Rattle.limit_rule.specs.ReadLimits.{kind_of, kind_in, length_in, moment_in, test_name_in, test_names_in, range_in, bounds_in, some_bounds_in, lengths_in, pass_of, test_type_in, test_in, dates_of, dates_in, times_in, rule_of, told_of, after_told, rest_of, limit_of, limits_in}
use Rattle.limit_rule.specs.ReadSchedule as schedules
use Rattle.limit_rule.specs.ReadSchedule.{number_in, item_of, numbers_in, schedule_of, after_schedule, schedule_in}
use Rattle.limit_rule.specs.declared.bounds.Bounds.{Bounds}
use Rattle.limit_rule.specs.declared.limit.DateRange.{DateRange}
use Rattle.limit_rule.specs.declared.limit.Lengths.{Lengths}
use Rattle.limit_rule.specs.declared.limit.Limit.{Limit}
use Rattle.limit_rule.specs.declared.limit.Rule.{Rule}
use Rattle.limit_rule.specs.declared.limit.Rule.TheVariants.{PassFail as pass_fail, TestType as test_type, Test as of_test, RunDateRange as run_date_range, RunSchedule as run_schedule}
use Rattle.limit_rule.specs.declared.read_limits.Kind.{Kind}
use Rattle.limit_rule.specs.declared.read_limits.Kind.TheVariants.{PassFail, TestType, Test, RunDateRange, RunSchedule}
use Rattle.limit_rule.specs.declared.schedule.Schedule.{Schedule}

-- ---- schedules

module _ (least most : ℕ) (place : List ℕ) (n : ℕ) where
  gives_number : (name : List ℕ) (d : Data) → Gives (IsFlat n d) (number_in place least most name d)
  gives_number name d = gives_more (IsFlat n d) (whole_in place (pos least) (pos most) name d) (λ z. Ok (unsigned_abs z)) (gives_whole n place (pos least) (pos most) name d) (λ _. tt)

module _ (least most : ℕ) (place : List ℕ) (n : ℕ) where
  upper_then : ℕ → ℕ → Members → Result Bounds LimitFault
  upper_then lower upper ms = if nat_lt upper lower then Err (BadRange place) else then_with (ended ms) (λ _. Ok (record { lower = lower; upper = upper }))

  gives_number_range : (d : Data) → IsPlain d → Gives (IsFlat (suc n) d) (schedules.range_in least most place d)
  unfolding upper_then
  gives_number_range d plain =
      gives_object n place d _ plain (λ ms plain. all_of _ _
      (gives_required n (Unit {0}) (codes "lower") (number_in place least most) ms (λ lower ms. member_then (codes "upper") (required wrapped (number_in place least most)) ms (upper_then lower)) plain (λ d _. gives_number least most place n (codes "lower") d)
      (λ lower ms _ plain. gives_required n (Unit {0}) (codes "upper") (number_in place least most) ms (upper_then lower) plain (λ d _. gives_number least most place n (codes "upper") d)
      (λ upper ms _ plain. gives_unless _ (nat_lt upper lower) (BadRange place) _ (λ is. cc) (ends n (Unit {0}) ms (record { lower = lower; upper = upper }) plain)))))

  single : ℕ → Result Bounds LimitFault
  single m = Ok (record { lower = m; upper = m })

  gives_single : (d : Data) → Gives (IsFlat (suc n) d) (then_with (number_in place least most place d) single)
  unfolding single
  gives_single d = gives_more (IsFlat (suc n) d) (number_in place least most place d) single (gives_number least most place (suc n) place d) (λ _. tt)

  gives_item : (d : Data) → IsPlain d → Gives (IsFlat (suc n) d) (item_of least most place d)
  unfolding single
  gives_item null plain = gives_single null
  gives_item (boolean b) plain = gives_single (boolean b)
  gives_item (number x) plain = gives_single (number x)
  gives_item (string s) plain = gives_single (string s)
  gives_item (array ds) plain = gives_single (array ds)
  gives_item (object ms) plain = gives_number_range (object ms) plain

gives_numbers : (least most n : ℕ) (name : List ℕ) (d : Data) → IsPlain d → Gives (IsFlat (suc (suc n)) d) (numbers_in least most name d)
gives_numbers least most n name d plain = gives_some (suc n) name d (read_each (item_of least most name)) plain (gives_each (suc n) (item_of least most name) (gives_item least most name n))

module _ (n : ℕ) where
  behind_minute : List Bounds → List Bounds → List Bounds → List Bounds → List Bounds → Members → Result Schedule LimitFault
  behind_minute month monthday weekday hour minute ms = member_then (codes "overlap") (optional false flag_in) ms (λ overlap ms. Ok (record { month = month; monthday = monthday; weekday = weekday; hour = hour; minute = minute; overlap = overlap }))

  behind_hour : List Bounds → List Bounds → List Bounds → List Bounds → Members → Result Schedule LimitFault
  behind_hour month monthday weekday hour ms = member_then (codes "minute") (optional [] (numbers_in 0 59)) ms (behind_minute month monthday weekday hour)

  behind_weekday : List Bounds → List Bounds → List Bounds → Members → Result Schedule LimitFault
  behind_weekday month monthday weekday ms = member_then (codes "hour") (optional [] (numbers_in 0 23)) ms (behind_hour month monthday weekday)

  behind_monthday : List Bounds → List Bounds → Members → Result Schedule LimitFault
  behind_monthday month monthday ms = member_then (codes "weekday") (optional [] (numbers_in 1 7)) ms (behind_weekday month monthday)

  behind_month : List Bounds → Members → Result Schedule LimitFault
  behind_month month ms = member_then (codes "monthday") (optional [] (numbers_in 1 31)) ms (behind_monthday month)

  gives_schedule_of : (ms : Members) → ArePlain ms → Gives (AreFlat (suc (suc n)) (after_schedule ms) → AreFlat (suc (suc n)) ms) (schedule_of ms)
  unfolding behind_month behind_monthday behind_weekday behind_hour behind_minute
  gives_schedule_of ms plain =
      let X = AreFlat (suc (suc n)) (after_schedule ms) in
      (gives_optional (suc (suc n)) X (codes "month") [] (numbers_in 1 12) ms behind_month plain (gives_numbers 1 12 n (codes "month"))
      (λ month m1 e1 p1.
      (gives_optional (suc (suc n)) X (codes "monthday") [] (numbers_in 1 31) m1 (behind_monthday month) p1 (gives_numbers 1 31 n (codes "monthday"))
      (λ monthday m2 e2 p2.
      (gives_optional (suc (suc n)) X (codes "weekday") [] (numbers_in 1 7) m2 (behind_weekday month monthday) p2 (gives_numbers 1 7 n (codes "weekday"))
      (λ weekday m3 e3 p3.
      (gives_optional (suc (suc n)) X (codes "hour") [] (numbers_in 0 23) m3 (behind_hour month monthday weekday) p3 (gives_numbers 0 23 n (codes "hour"))
      (λ hour m4 e4 p4.
      (gives_optional (suc (suc n)) X (codes "minute") [] (numbers_in 0 59) m4 (behind_minute month monthday weekday hour) p4 (gives_numbers 0 59 n (codes "minute"))
      (λ minute m5 e5 p5.
      gives_optional (suc (suc n)) X (codes "overlap") false flag_in m5 (λ overlap ms. Ok (record { month = month; monthday = monthday; weekday = weekday; hour = hour; minute = minute; overlap = overlap })) p5 (λ d _. gives_flag (suc (suc n)) (codes "overlap") d)
      (λ overlap m6 e6 p6 flat. subst (AreFlat (suc (suc n))) (sym (e6 ∙ ap (without_member (codes "overlap")) (e5 ∙ ap (without_member (codes "minute")) (e4 ∙ ap (without_member (codes "hour")) (e3 ∙ ap (without_member (codes "weekday")) (e2 ∙ ap (without_member (codes "monthday")) e1)))))) flat)))))))))))

  plain_after : (ms : Members) → ArePlain ms → ArePlain (after_schedule ms)
  plain_after ms plain =
      plain_without (codes "overlap") _ (plain_without (codes "minute") _ (plain_without (codes "hour") _
      (plain_without (codes "weekday") _ (plain_without (codes "monthday") _ (plain_without (codes "month") ms plain)))))

  gives_schedule : (name : List ℕ) (d : Data) → IsPlain d → Gives (IsFlat (suc (suc (suc n))) d) (schedule_in name d)
  gives_schedule name d plain =
      gives_object (suc (suc n)) name d _ plain (λ ms plain.
      gives_then (AreFlat (suc (suc n)) (after_schedule ms)) (AreFlat (suc (suc n)) ms) (schedule_of ms) (λ schedule. then_with (ended (after_schedule ms)) (λ _. Ok schedule)) (gives_schedule_of ms plain)
      (λ schedule. all_of _ _ (ends (suc (suc n)) (Unit {0}) (after_schedule ms) schedule (plain_after ms plain))))

-- ---- words, lengths, moments

module _ (n : ℕ) where
  gives_kind : (name : List ℕ) (d : Data) → Gives (IsFlat n d) (kind_in name d)
  gives_kind name d = by_text (λ d. Gives (IsFlat n d) (kind_in name d)) (λ s. by s (kind_of s) refl) (λ d none. rw none (λ is. cc)) d
    where
      by : (s : List ℕ) (o : Option Kind) → kind_of s ≡ o → Gives (IsFlat n (string s)) (kind_in name (string s))
      by s None is = rw is (λ same. cc)
      by s (Some kind) is = rw is tt

  gives_test_name : (name : List ℕ) (d : Data) → Gives (IsFlat n d) (test_name_in name d)
  gives_test_name name d = by_text (λ d. Gives (IsFlat n d) (test_name_in name d)) (λ s. by s (kind_of_text s) refl) (λ d none. rw none (λ is. cc)) d
    where
      by : (s : List ℕ) (o : Option TestKind) → kind_of_text s ≡ o → Gives (IsFlat n (string s)) (test_name_in name (string s))
      by s None is = rw is (λ same. cc)
      by s (Some kind) is = rw is tt

  gives_length : (name : List ℕ) (d : Data) → Gives (IsFlat n d) (length_in name d)
  gives_length name d = by_text (λ d. Gives (IsFlat n d) (length_in name d)) (λ s. by s (length_of s) refl) (λ d none. rw none (λ is. cc)) d
    where
      by : (s : List ℕ) (r : Result ℕ TimeFault) → length_of s ≡ r → Gives (IsFlat n (string s)) (length_in name (string s))
      by s (Err fault) is = rw is (λ same. cc)
      by s (Ok len) is = rw is tt

  gives_moment : (round : Round) (name : List ℕ) (d : Data) → Gives (IsFlat n d) (moment_in round name d)
  gives_moment round name d = by_text (λ d. Gives (IsFlat n d) (moment_in round name d)) (λ s. by s (moment_of round s) refl) (λ d none. rw none (λ is. cc)) d
    where
      by : (s : List ℕ) (r : Result ℕ TimeFault) → moment_of round s ≡ r → Gives (IsFlat n (string s)) (moment_in round name (string s))
      by s (Err fault) is = rw is (λ same. cc)
      by s (Ok moment) is = rw is tt

  gives_test_names : (name : List ℕ) (d : Data) → IsPlain d → Gives (IsFlat (suc n) d) (test_names_in name d)
  gives_test_names name d plain = gives_some n name d (read_each (test_name_in name)) plain (gives_each n (test_name_in name) (λ d _. gives_test_name name d))

-- ---- data by type

module _ (n : ℕ) where
  range_then : List ℕ → ℕ → ℕ → Members → Result Bounds LimitFault
  range_then len lower upper ms = if nat_lt upper lower then Err (BadRange len) else then_with (ended ms) (λ _. Ok (record { lower = lower; upper = upper }))

  gives_range : (len name : List ℕ) (d : Data) → IsPlain d → Gives (IsFlat (suc n) d) (range_in len name d)
  unfolding range_then
  gives_range len name d plain =
      gives_object n name d _ plain (λ ms plain. all_of _ _
      (gives_required n (Unit {0}) (codes "lower") length_in ms (λ lower ms. member_then (codes "upper") (required wrapped length_in) ms (range_then len lower)) plain (λ d _. gives_length n (codes "lower") d)
      (λ lower ms _ plain. gives_required n (Unit {0}) (codes "upper") length_in ms (range_then len lower) plain (λ d _. gives_length n (codes "upper") d)
      (λ upper ms _ plain. gives_unless _ (nat_lt upper lower) (BadRange len) _ (λ is. cc) (ends n (Unit {0}) ms (record { lower = lower; upper = upper }) plain)))))

  gives_bounds : (name : List ℕ) (d : Data) → IsPlain d → Gives (IsFlat (suc (suc n)) d) (bounds_in name d)
  gives_bounds name d plain =
      gives_object (suc n) name d _ plain (λ ms plain. all_of _ _
      (gives_required (suc n) (Unit {0}) (codes "range") (range_in name) ms (λ bounds ms. then_with (ended ms) (λ _. Ok bounds)) plain (gives_range name (codes "range"))
      (λ bounds ms _ plain. ends (suc n) (Unit {0}) ms bounds plain)))

  gives_some_bounds : (name : List ℕ) (d : Data) → IsPlain d → Gives (IsFlat (suc (suc n)) d) (some_bounds_in name d)
  gives_some_bounds name d plain = gives_more _ (bounds_in name d) (λ bounds. Ok (Some bounds)) (gives_bounds name d plain) (λ _. tt)

  behind_dawdle : Option Bounds → Option Bounds → Option Bounds → Members → Result Lengths LimitFault
  behind_dawdle duration interval dawdle ms =
      member_then (codes "timeout") (optional None some_bounds_in) ms (λ timeout ms. then_with (ended ms) (λ _. Ok (record { duration = duration; interval = interval; dawdle = dawdle; timeout = timeout })))

  behind_interval : Option Bounds → Option Bounds → Members → Result Lengths LimitFault
  behind_interval duration interval ms = member_then (codes "dawdle") (optional None some_bounds_in) ms (behind_dawdle duration interval)

  behind_duration : Option Bounds → Members → Result Lengths LimitFault
  behind_duration duration ms = member_then (codes "interval") (optional None some_bounds_in) ms (behind_interval duration)

  gives_lengths : (name : List ℕ) (d : Data) → IsPlain d → Gives (IsFlat (suc (suc (suc n))) d) (lengths_in name d)
  unfolding behind_dawdle behind_interval behind_duration
  gives_lengths name d plain =
      gives_object (suc (suc n)) name d _ plain (λ ms plain. all_of _ _
      (gives_optional (suc (suc n)) (Unit {0}) (codes "duration") None some_bounds_in ms behind_duration plain (gives_some_bounds (codes "duration"))
      (λ duration ms _ plain. gives_optional (suc (suc n)) (Unit {0}) (codes "interval") None some_bounds_in ms (behind_interval duration) plain (gives_some_bounds (codes "interval"))
      (λ interval ms _ plain. gives_optional (suc (suc n)) (Unit {0}) (codes "dawdle") None some_bounds_in ms (behind_dawdle duration interval) plain (gives_some_bounds (codes "dawdle"))
      (λ dawdle ms _ plain. gives_optional (suc (suc n)) (Unit {0}) (codes "timeout") None some_bounds_in ms
      (λ timeout ms. then_with (ended ms) (λ _. Ok (record { duration = duration; interval = interval; dawdle = dawdle; timeout = timeout }))) plain (gives_some_bounds (codes "timeout"))
      (λ timeout ms _ plain. ends (suc (suc n)) (Unit {0}) ms (record { duration = duration; interval = interval; dawdle = dawdle; timeout = timeout }) plain))))))

  pass_in : List ℕ → Data → Result Rule LimitFault
  pass_in name d = pass_of (Some d)

  gives_pass : (name : List ℕ) (d : Data) → IsPlain d → Gives (IsFlat (suc n) d) (pass_in name d)
  unfolding pass_in
  gives_pass name d plain =
      gives_object n (codes "data") d _ plain (λ ms plain. all_of _ _
      (gives_optional n (Unit {0}) (codes "pass") false flag_in ms (λ pass ms. then_with (ended ms) (λ _. Ok (pass_fail pass))) plain (λ d _. gives_flag n (codes "pass") d)
      (λ pass ms _ plain. ends n (Unit {0}) ms (pass_fail pass) plain)))

  gives_test_type : (name : List ℕ) (d : Data) → IsPlain d → Gives (IsFlat (suc (suc n)) d) (test_type_in name d)
  gives_test_type name d plain =
      gives_object (suc n) name d _ plain (λ ms plain. all_of _ _
      (gives_required (suc n) (Unit {0}) (codes "types") test_names_in ms (λ types ms. then_with (ended ms) (λ _. Ok (test_type types))) plain (gives_test_names n (codes "types"))
      (λ types ms _ plain. ends (suc n) (Unit {0}) ms (test_type types) plain)))

  test_then : TestKind → Members → Result Rule LimitFault
  test_then test ms = member_then (codes "limit") (required wrapped lengths_in) ms (λ lengths ms. then_with (ended ms) (λ _. Ok (of_test test lengths)))

  gives_test : (name : List ℕ) (d : Data) → IsPlain d → Gives (IsFlat (suc (suc (suc (suc n)))) d) (test_in name d)
  unfolding test_then
  gives_test name d plain =
      gives_object (suc (suc (suc n))) name d _ plain (λ ms plain. all_of _ _
      (gives_required (suc (suc (suc n))) (Unit {0}) (codes "test") test_name_in ms test_then plain (λ d _. gives_test_name (suc (suc (suc n))) (codes "test") d)
      (λ test ms _ plain. gives_required (suc (suc (suc n))) (Unit {0}) (codes "limit") lengths_in ms (λ lengths ms. then_with (ended ms) (λ _. Ok (of_test test lengths))) plain (gives_lengths (codes "limit"))
      (λ lengths ms _ plain. ends (suc (suc (suc n))) (Unit {0}) ms (of_test test lengths) plain))))

  -- the members that tell dates, and what is left behind them
  after_dates : Members → Members
  after_dates ms = without_member (codes "overlap") (without_member (codes "end") (without_member (codes "start") ms))

  end_then : ℕ → ℕ → Members → Result DateRange LimitFault
  end_then start end ms =
      if nat_lt end start then Err (BadRange (codes "end"))
      else member_then (codes "overlap") (optional false flag_in) ms (λ overlap ms. Ok (record { start = start; end = end; overlap = overlap }))

  gives_dates_of : (ms : Members) → ArePlain ms → Gives (AreFlat n (after_dates ms) → AreFlat n ms) (dates_of ms)
  unfolding after_dates end_then
  gives_dates_of ms plain =
      let X = AreFlat n (after_dates ms) in
      gives_required n X (codes "start") (moment_in Up) ms (λ start ms. member_then (codes "end") (required wrapped (moment_in Down)) ms (end_then start)) plain (λ d _. gives_moment n Up (codes "start") d)
      (λ start m1 e1 p1. gives_required n X (codes "end") (moment_in Down) m1 (end_then start) p1 (λ d _. gives_moment n Down (codes "end") d)
      (λ end m2 e2 p2. gives_unless _ (nat_lt end start) (BadRange (codes "end")) _ (λ is. cc)
      (gives_optional n X (codes "overlap") false flag_in m2 (λ overlap ms. Ok (record { start = start; end = end; overlap = overlap })) p2 (λ d _. gives_flag n (codes "overlap") d)
      (λ overlap m3 e3 p3 flat. subst (AreFlat n) (sym (e3 ∙ ap (without_member (codes "overlap")) (e2 ∙ ap (without_member (codes "end")) e1))) flat))))

  gives_dates : (name : List ℕ) (d : Data) → IsPlain d → Gives (IsFlat (suc n) d) (dates_in name d)
  unfolding after_dates
  gives_dates name d plain =
      gives_object n name d _ plain (λ ms plain.
      gives_then (AreFlat n (after_dates ms)) (AreFlat n ms) (dates_of ms) (λ range. then_with (ended (after_dates ms)) (λ _. Ok (run_date_range range))) (gives_dates_of ms plain)
      (λ range. all_of _ _ (ends n (Unit {0}) (after_dates ms) (run_date_range range) (plain_without (codes "overlap") _ (plain_without (codes "end") _ (plain_without (codes "start") ms plain))))))

  gives_times : (name : List ℕ) (d : Data) → IsPlain d → Gives (IsFlat (suc (suc (suc n))) d) (times_in name d)
  gives_times name d plain = gives_more _ (schedule_in name d) (λ schedule. Ok (run_schedule schedule)) (gives_schedule n name d plain) (λ _. tt)

-- ---- entries

module _ (n : ℕ) where
  -- the members of an entry nest so deep
  m : ℕ
  m = suc (suc (suc (suc n)))

  gives_rule : (X : Type 0) (kind : Kind) (ms : Members) (next : Rule → Members → Result Limit LimitFault) → ArePlain ms
      → ((r : Rule) (rest : Members) → rest ≡ without_member (codes "data") ms → ArePlain rest → Gives (X → AreFlat m rest) (next r rest))
      → Gives (X → AreFlat m ms) (member_then (codes "data") (rule_of kind) ms next)
  unfolding rule_of pass_in m
  gives_rule X PassFail ms next plain later = gives_optional m X (codes "data") (pass_fail false) (pass_in (suc (suc (suc n)))) ms next plain (gives_pass (suc (suc (suc n))) (codes "data")) later
  gives_rule X TestType ms next plain later = gives_required m X (codes "data") test_type_in ms next plain (gives_test_type (suc (suc n)) (codes "data")) later
  gives_rule X Test ms next plain later = gives_required m X (codes "data") test_in ms next plain (gives_test n (codes "data")) later
  gives_rule X RunDateRange ms next plain later = gives_required m X (codes "data") dates_in ms next plain (gives_dates (suc (suc (suc n))) (codes "data")) later
  gives_rule X RunSchedule ms next plain later = gives_required m X (codes "data") times_in ms next plain (gives_times (suc n) (codes "data")) later

  gives_told : (kind : Kind) (ms : Members) → ArePlain ms → Gives (AreFlat m (after_told ms) → AreFlat m ms) (told_of kind ms)
  gives_told kind ms plain =
      let X = AreFlat m (after_told ms) in
      gives_rule X kind ms (λ rule ms. member_then (codes "invert") (optional false flag_in) ms (λ invert ms. Ok (record { rule = rule; invert = invert }))) plain
      (λ rule behind is plain. gives_optional m X (codes "invert") false flag_in behind (λ invert ms. Ok (record { rule = rule; invert = invert })) plain (λ d _. gives_flag m (codes "invert") d)
      (λ invert last after plain flat. subst (AreFlat m) (sym (after ∙ ap (without_member (codes "invert")) is)) flat))

  gives_rest : (kind : Kind) (ms : Members) → ArePlain ms → Gives (AreFlat m ms) (rest_of kind ms)
  gives_rest kind ms plain =
      gives_then (AreFlat m (after_told ms)) (AreFlat m ms) (told_of kind ms) (λ limit. then_with (described (after_told ms)) (λ _. Ok limit)) (gives_told kind ms plain)
      (λ limit. all_of _ _ (ends_described m (Unit {0}) (after_told ms) limit (plain_without (codes "invert") _ (plain_without (codes "data") ms plain))))

  gives_limit : (ms : Members) → ArePlain ms → Gives (AreFlat m ms) (limit_of ms)
  gives_limit ms plain =
      all_of _ (limit_of ms)
      (gives_required m (Unit {0}) (codes "type") kind_in ms rest_of plain (λ d _. gives_kind m (codes "type") d)
      (λ kind ms _ plain. gives_to _ _ (rest_of kind ms) (λ flat _. flat) (gives_rest kind ms plain)))

  pub gives_limits : (name : List ℕ) (d : Data) → IsPlain d → Gives (IsFlat (suc (suc (suc (suc (suc (suc n)))))) d) (limits_in name d)
  unfolding m
  gives_limits name d plain = gives_entries m name limit_of gives_limit d plain
