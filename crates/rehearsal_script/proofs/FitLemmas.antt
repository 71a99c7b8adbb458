-- What a line of each kind says where some hosts are declared: it is lawful there.
use Rattle.std.proofs.Common.{◌≡◌, ℕ, ◌+◌, ◌<◌, ◌≤◌, ℤ, pos, negsuc, ◌-ℤ◌, ◌≤ℤ◌, Bool, true, false, not, ◌&&◌, ◌==◌, refl, List, [], ◌∷◌, length, IfOk, Option, Some, None, Result, Ok, Err, arith}
use Rattle.std.specs.List.{list_all, position_from, slice_split}
use Rattle.std.specs.Option.{option_and_then, option_map, ok_or}
use Rattle.std.specs.Prelude.{nat_lt, if◌then◌else◌}
use Rattle.std.specs.Str.{bytes_eq, is_utf8}
use Rattle.std.proofs.lemmas.Bool.Decides.{nat_tests}
use Rattle.std.proofs.lemmas.Int.{ints}
use Rattle.ps_json.specs.Answer.{then_with}
use Rattle.ps_time.specs.Class.{class_of_text}
use Rattle.ps_time.specs.Name.{is_name}
use Rattle.ps_time.specs.Number.{decimal_of}
use Rattle.ps_time.specs.Numbers.{greatest_moment, greatest_length, most_script_hosts}
use Rattle.plugin_core.specs.ReadTest.{all_differ}
use Rattle.task_spec.specs.ReadTask.{is_tool}
use Rattle.rehearsal_script.specs.Kind.{kind_of}
use Rattle.rehearsal_script.specs.Lawful.{IsLawfulHost, IsLawfulLine, FollowsHosts, hosts_after, HasKeptLimits}
use Rattle.rehearsal_script.specs.Line.{need, check, place_of, is_repeated, host_named, host_at, host_asked, rest, limits_of, host_line, tools_line, limits_line, book_line, post_line, get_line, delete_line, turn_line, archive_line, crash_line, fail_line, deliver_line, repeat_line, lose_line, line_by_kind}
use Rattle.rehearsal_script.specs.Script.{is_skipped, fields_of, line_of}
use Rattle.rehearsal_script.specs.Words.{within, number_of, moment_of, numeral_of, image_of, priority_of, is_address, tools_of}
use Rattle.rehearsal_script.specs.declared.kind.Kind.{Kind}
use Rattle.rehearsal_script.specs.declared.kind.Kind.TheVariants as kind
use Rattle.rehearsal_script.specs.declared.lines.Content.{Content}
use Rattle.rehearsal_script.specs.declared.lines.Content.TheVariants.{Nothing, NewHost, Event}
use Rattle.rehearsal_script.specs.declared.script.Reason.{Reason}
use Rattle.rehearsal_script.specs.declared.script.Reason.TheVariants.{NotUtf8, UnknownWord, BadNumber, BadName, NoSuchHost, RepeatedHost, TooManyHosts, BadClass, BadTool, BadLimits, BadImage}
use Rattle.rehearsal_script.specs.declared.script.ScriptHost.{ScriptHost}
use Rattle.rehearsal_script.specs.declared.script.ScriptLine.{ScriptLine}
use Rattle.rehearsal_script.specs.declared.script.ScriptLine.TheVariants.{Tools, Limits, Book, Post, Get, Delete, Turn, Archive, Crash, Fail, Deliver, Repeat, Lose}

-- ---- what holds of each value that a step goes on with holds of the whole
need_keeps : {A B : Type 0} (P : B → Type 0) (o : Option A) (reason : Reason) (next : A → Result B Reason) → ((a : A) → o ≡ Some a → IfOk (next a) P) → IfOk (need o reason next) P
need_keeps P None reason next keeps = tt
need_keeps P (Some a) reason next keeps = keeps a refl

check_keeps : {B : Type 0} (P : B → Type 0) (test : Bool) (reason : Reason) (next : Result B Reason) → (test ≡ true → IfOk next P) → IfOk (check test reason next) P
check_keeps P true reason next keeps = keeps refl
check_keeps P false reason next keeps = tt

then_keeps : {A B : Type 0} (Q : A → Type 0) (P : B → Type 0) (r : Result A Reason) (next : A → Result B Reason) → IfOk r Q → ((a : A) → Q a → IfOk (next a) P) → IfOk (then_with r next) P
then_keeps Q P (Ok a) next holds keeps = keeps a holds
then_keeps Q P (Err e) next holds keeps = tt

ok_or_keeps : {A : Type 0} (P : A → Type 0) (o : Option A) (reason : Reason) → ((a : A) → o ≡ Some a → P a) → IfOk (ok_or o reason) P
ok_or_keeps P None reason keeps = tt
ok_or_keeps P (Some a) reason keeps = keeps a refl

-- what holds of both sides of a choice
if_keeps : {B : Type 0} (P : B → Type 0) (test : Bool) (one other : Result B Reason) → IfOk one P → IfOk other P → IfOk (if test then one else other) P
if_keeps P true one other first second = first
if_keeps P false one other first second = second

-- ---- numbers and tools
number_within : (low high : ℕ) (o : Option ℕ) (n : ℕ) → option_and_then (within low high) o ≡ Some n → (low ≤ n) × (n ≤ high)
number_within low high None n is = cc
number_within low high (Some m) n is = grind (arith, nat_tests)

number_bounds : (low high : ℕ) (field : List ℕ) (n : ℕ) → number_of low high field ≡ Some n → (low ≤ n) × (n ≤ high)
unfolding number_of
number_bounds low high field n is = number_within low high (decimal_of 1 10 field) n is

moment_bound : (field : List ℕ) (n : ℕ) → moment_of field ≡ Some n → n ≤ greatest_moment
moment_bound field n is = (number_bounds 0 greatest_moment field n is).1

-- a size with its sign lies within the bounds of a priority
sign_within : (f : ℕ → ℤ) → ((n : ℕ) → n ≤ 1000 → (negsuc 999 ≤ℤ f n) × (f n ≤ℤ pos 1000)) → (size : Option ℕ) (z : ℤ) → ((n : ℕ) → size ≡ Some n → n ≤ 1000) → option_map f size ≡ Some z → (negsuc 999 ≤ℤ z) × (z ≤ℤ pos 1000)
sign_within f fits None z small is = cc
sign_within f fits (Some n) z small is =
    let same : f n ≡ z = cc in
    rw (← same) (fits n (small n refl))

priority_within : (field : List ℕ) (z : ℤ) → priority_of field ≡ Some z → (negsuc 999 ≤ℤ z) × (z ≤ℤ pos 1000)
unfolding priority_of number_of
priority_within [] z is = cc
priority_within (c ∷ cs) z is =
    let size = λ (bs : List ℕ) (n : ℕ) (is : number_of 0 1000 bs ≡ Some n). (number_bounds 0 1000 bs n is).1 in
    let minus = sign_within (λ n. pos 0 -ℤ pos n) (λ n small. (omega (arith, ints), omega (arith, ints))) (number_of 0 1000 cs) z (size cs) in
    let plain = sign_within (λ n. pos n) (λ n small. (omega (arith, ints), omega (arith, ints))) (number_of 0 1000 (c ∷ cs)) z (size (c ∷ cs)) in
    let cases = elim (c == 45) as (λ b. (if b then option_map (λ n. pos 0 -ℤ pos n) (number_of 0 1000 cs) else option_map (λ n. pos n) (number_of 0 1000 (c ∷ cs))) ≡ Some z → (negsuc 999 ≤ℤ z) × (z ≤ℤ pos 1000)) [ true ↦ minus | false ↦ plain ] in
    cases is

-- names that pass both tests are known and differ
passed : (names tools : List (List ℕ)) (known different : Bool) → list_all is_tool names ≡ known → all_differ names ≡ different → (if known && different then Some names else None) ≡ Some tools → (list_all is_tool tools ≡ true) × (all_differ tools ≡ true)
passed names tools true true known different is =
    let same : names ≡ tools = cc in
    rw (← same) (known, different)
passed names tools true false known different is = cc
passed names tools false different known other is = cc

tools_may_be : (field : List ℕ) (tools : List (List ℕ)) → tools_of field ≡ Some tools → (list_all is_tool tools ≡ true) × (all_differ tools ≡ true)
unfolding tools_of
tools_may_be field tools is =
    let names = slice_split (λ b. b == 44) field in
    passed names tools (list_all is_tool names) (all_differ names) refl refl is

address_short : (address : List ℕ) → is_address address ≡ true → length address ≤ 255
address_short address short = grind (arith, nat_tests)

-- ---- hosts
-- a place that is found is one of the list's
place_found : {A : Type 0} (test : A → Bool) (i : ℕ) (xs : List A) (k : ℕ) → position_from test i xs ≡ Some k → k < i + length xs
place_found test i [] k is = cc
place_found test i (x ∷ xs) k is =
    let more = place_found test (i + 1) xs k in
    grind (arith, more)

module _ (hosts : List ScriptHost) where
  -- the place of one of the hosts
  abbrev IsHost : ℕ → Type 0
  IsHost h = h < length hosts

  -- a moment, and the place of one of the hosts
  abbrev IsAtHost : ℕ × ℕ → Type 0
  IsAtHost p = (p.0 ≤ greatest_moment) × (p.1 < length hosts)

  named_fits : (name : List ℕ) → IfOk (host_named hosts name) IsHost
  unfolding host_named
  named_fits name =
      check_keeps IsHost (is_name name) BadName (ok_or (place_of hosts name) NoSuchHost) (λ good.
      ok_or_keeps IsHost (place_of hosts name) NoSuchHost (λ h is. omega (arith, place_found (λ h. bytes_eq h.name name) 0 hosts h is)))

  at_fits : (at name : List ℕ) → IfOk (host_at hosts at name) IsAtHost
  unfolding host_at
  at_fits at name =
      need_keeps IsAtHost (moment_of at) BadNumber _ (λ t t_is.
      then_keeps IsHost IsAtHost (host_named hosts name) (λ h. Ok (t, h)) (named_fits name) (λ h h_is. (moment_bound at t t_is, h_is)))

  -- the same, and an address that isn't long
  abbrev IsAsked : List ℕ → ℕ × ℕ → Type 0
  IsAsked address p = (p.0 ≤ greatest_moment) × (p.1 < length hosts) × (length address ≤ 255)

  asked_fits : (address at name : List ℕ) → IfOk (host_asked hosts at name address) (IsAsked address)
  unfolding host_asked
  asked_fits address at name =
      need_keeps (IsAsked address) (moment_of at) BadNumber _ (λ t t_is.
      check_keeps (IsAsked address) (is_address address) BadName _ (λ short.
      then_keeps IsHost (IsAsked address) (host_named hosts name) (λ h. Ok (t, h)) (named_fits name) (λ h h_is. (moment_bound at t t_is, h_is, address_short address short))))

-- ---- lines
-- a line that is lawful where so many hosts are declared, and declares none
pub record AddsLine (count : ℕ) (line : ScriptLine) : Type 0 where
  pub law : IsLawfulLine count line
  pub follows : FollowsHosts count line
  pub stays : hosts_after count line ≡ count

-- what a line may say where these hosts are declared
abbrev pub FitsHosts : List ScriptHost → Content → Type 0
FitsHosts hosts Nothing = Unit {0}
FitsHosts hosts (NewHost host) = IsLawfulHost host × (is_repeated hosts host.name host.number ≡ false) × (length hosts < 16)
FitsHosts hosts (Event line) = AddsLine (length hosts) line

not_true : (b : Bool) → not b ≡ true → b ≡ false
not_true true is = cc
not_true false is = refl

module _ (hosts : List ScriptHost) where
  -- the same of a line whose limits are kept ones
  abbrev pub Fits : Content → Type 0
  Fits content = HasKeptLimits content → FitsHosts hosts content

  host_fits : (fields : List (List ℕ)) → IfOk (host_line hosts fields) Fits
  host_fits (word ∷ name ∷ number ∷ []) =
      need_keeps Fits (number_of 1 65535 number) BadNumber _ (λ n is.
      check_keeps Fits (is_name name) BadName _ (λ good.
      check_keeps Fits (not (is_repeated hosts name n)) RepeatedHost _ (λ new.
      check_keeps Fits (nat_lt (length hosts) most_script_hosts) TooManyHosts (Ok (NewHost (record { name = name; number = n }))) (λ room _.
      let bounds = number_bounds 1 65535 number n is in
      (record { name = good; least = bounds.0; most = bounds.1 }, not_true (is_repeated hosts name n) new, grind (arith, nat_tests))))))
  host_fits _ = tt

  tools_fits : (fields : List (List ℕ)) → IfOk (tools_line hosts fields) Fits
  tools_fits (word ∷ name ∷ tools ∷ []) =
      then_keeps (IsHost hosts) Fits (host_named hosts name) _ (named_fits hosts name) (λ h h_is.
      need_keeps Fits (tools_of tools) BadTool (λ ts. Ok (Event (Tools h ts))) (λ ts ts_is _.
      let tests = tools_may_be tools ts ts_is in
      record { law = (h_is, tests.0, tests.1); follows = h_is; stays = refl }))
  tools_fits _ = tt

  limits_fits : (fields : List (List ℕ)) → IfOk (limits_line hosts fields) Fits
  limits_fits (word ∷ name ∷ json ∷ more) =
      then_keeps (IsHost hosts) Fits (host_named hosts name) _ (named_fits hosts name) (λ h h_is.
      need_keeps Fits (limits_of (json ∷ more)) BadLimits (λ l. Ok (Event (Limits h l))) (λ l l_is kept.
      record { law = (h_is, kept); follows = h_is; stays = refl }))
  limits_fits _ = tt

  book_fits : (fields : List (List ℕ)) → IfOk (book_line hosts fields) Fits
  book_fits (at ∷ name ∷ word ∷ class ∷ priority ∷ start ∷ len ∷ []) =
      need_keeps Fits (moment_of at) BadNumber _ (λ t t_is.
      need_keeps Fits (priority_of priority) BadNumber _ (λ p p_is.
      need_keeps Fits (moment_of start) BadNumber _ (λ s s_is.
      need_keeps Fits (number_of 1 greatest_length len) BadNumber _ (λ l l_is.
      then_keeps (IsHost hosts) Fits (host_named hosts name) _ (named_fits hosts name) (λ h h_is.
      need_keeps Fits (class_of_text class) BadClass (λ c. Ok (Event (Book t h c p s l))) (λ c c_is _.
      let sizes = priority_within priority p p_is in
      let lengths = number_bounds 1 greatest_length len l l_is in
      record { law = (moment_bound at t t_is, h_is, sizes.0, sizes.1, moment_bound start s s_is, lengths.0, lengths.1); follows = h_is; stays = refl }))))))
  book_fits _ = tt

  post_fits : (fields : List (List ℕ)) → IfOk (post_line hosts fields) Fits
  post_fits (at ∷ name ∷ word ∷ address ∷ json ∷ more) =
      then_keeps (IsAsked hosts address) Fits (host_asked hosts at name address) (λ p. Ok (Event (Post p.0 p.1 address (rest (json ∷ more))))) (asked_fits hosts address at name) (λ p p_is _.
      record { law = (p_is.0, p_is.1, p_is.2); follows = p_is.1; stays = refl })
  post_fits _ = tt

  get_fits : (fields : List (List ℕ)) → IfOk (get_line hosts fields) Fits
  get_fits (at ∷ name ∷ word ∷ path ∷ []) =
      then_keeps (IsAtHost hosts) Fits (host_at hosts at name) (λ p. Ok (Event (Get p.0 p.1 path))) (at_fits hosts at name) (λ p p_is _.
      record { law = (p_is.0, p_is.1); follows = p_is.1; stays = refl })
  get_fits _ = tt

  delete_fits : (fields : List (List ℕ)) → IfOk (delete_line hosts fields) Fits
  delete_fits (at ∷ name ∷ word ∷ address ∷ path ∷ []) =
      then_keeps (IsAsked hosts address) Fits (host_asked hosts at name address) (λ p. Ok (Event (Delete p.0 p.1 address path))) (asked_fits hosts address at name) (λ p p_is _.
      record { law = (p_is.0, p_is.1, p_is.2); follows = p_is.1; stays = refl })
  delete_fits _ = tt

  turn_fits : (fields : List (List ℕ)) → IfOk (turn_line hosts fields) Fits
  turn_fits (at ∷ name ∷ word ∷ []) =
      then_keeps (IsAtHost hosts) Fits (host_at hosts at name) (λ p. Ok (Event (Turn p.0 p.1))) (at_fits hosts at name) (λ p p_is _.
      record { law = (p_is.0, p_is.1); follows = p_is.1; stays = refl })
  turn_fits _ = tt

  archive_fits : (fields : List (List ℕ)) → IfOk (archive_line hosts fields) Fits
  archive_fits (at ∷ name ∷ word ∷ []) =
      then_keeps (IsAtHost hosts) Fits (host_at hosts at name) (λ p. Ok (Event (Archive p.0 p.1))) (at_fits hosts at name) (λ p p_is _.
      record { law = (p_is.0, p_is.1); follows = p_is.1; stays = refl })
  archive_fits _ = tt

  crash_fits : (fields : List (List ℕ)) → IfOk (crash_line hosts fields) Fits
  crash_fits (at ∷ name ∷ word ∷ call ∷ image ∷ []) =
      need_keeps Fits (moment_of at) BadNumber _ (λ t t_is.
      need_keeps Fits (numeral_of call) BadNumber _ (λ k k_is.
      then_keeps (IsHost hosts) Fits (host_named hosts name) _ (named_fits hosts name) (λ h h_is.
      need_keeps Fits (image_of image) BadImage (λ i. Ok (Event (Crash t h (record { call = k; image = i })))) (λ i i_is _.
      record { law = (moment_bound at t t_is, h_is); follows = h_is; stays = refl }))))
  crash_fits _ = tt

  fail_fits : (fields : List (List ℕ)) → IfOk (fail_line hosts fields) Fits
  fail_fits (at ∷ name ∷ word ∷ call ∷ []) =
      need_keeps Fits (moment_of at) BadNumber _ (λ t t_is.
      need_keeps Fits (numeral_of call) BadNumber _ (λ k k_is.
      then_keeps (IsHost hosts) Fits (host_named hosts name) (λ h. Ok (Event (Fail t h k))) (named_fits hosts name) (λ h h_is _.
      record { law = (moment_bound at t t_is, h_is); follows = h_is; stays = refl })))
  fail_fits _ = tt

  deliver_fits : (fields : List (List ℕ)) → IfOk (deliver_line fields) Fits
  deliver_fits (at ∷ word ∷ message ∷ []) =
      need_keeps Fits (moment_of at) BadNumber _ (λ t t_is.
      need_keeps Fits (numeral_of message) BadNumber (λ n. Ok (Event (Deliver t n))) (λ n n_is _.
      record { law = moment_bound at t t_is; follows = tt; stays = refl }))
  deliver_fits _ = tt

  repeat_fits : (fields : List (List ℕ)) → IfOk (repeat_line fields) Fits
  repeat_fits (at ∷ word ∷ message ∷ []) =
      need_keeps Fits (moment_of at) BadNumber _ (λ t t_is.
      need_keeps Fits (numeral_of message) BadNumber (λ n. Ok (Event (Repeat t n))) (λ n n_is _.
      record { law = moment_bound at t t_is; follows = tt; stays = refl }))
  repeat_fits _ = tt

  lose_fits : (fields : List (List ℕ)) → IfOk (lose_line fields) Fits
  lose_fits (word ∷ message ∷ []) =
      need_keeps Fits (numeral_of message) BadNumber (λ n. Ok (Event (Lose n))) (λ n n_is _.
      record { law = tt; follows = tt; stays = refl })
  lose_fits _ = tt

  kind_fits : (k : Kind) (fields : List (List ℕ)) → IfOk (line_by_kind hosts k fields) Fits
  unfolding line_by_kind
  kind_fits kind.Host fields = host_fits fields
  kind_fits kind.Tools fields = tools_fits fields
  kind_fits kind.Limits fields = limits_fits fields
  kind_fits kind.Book fields = book_fits fields
  kind_fits kind.Post fields = post_fits fields
  kind_fits kind.Get fields = get_fits fields
  kind_fits kind.Delete fields = delete_fits fields
  kind_fits kind.Turn fields = turn_fits fields
  kind_fits kind.Archive fields = archive_fits fields
  kind_fits kind.Crash fields = crash_fits fields
  kind_fits kind.Fail fields = fail_fits fields
  kind_fits kind.Deliver fields = deliver_fits fields
  kind_fits kind.Repeat fields = repeat_fits fields
  kind_fits kind.Lose fields = lose_fits fields

  pub line_fits : (bytes : List ℕ) → IfOk (line_of hosts bytes) Fits
  unfolding line_of
  line_fits bytes =
      check_keeps Fits (is_utf8 bytes) NotUtf8 _ (λ _.
      if_keeps Fits (is_skipped bytes) (Ok Nothing) _ (λ _. tt) (
      need_keeps Fits (kind_of (fields_of bytes)) UnknownWord (λ k. line_by_kind hosts k (fields_of bytes)) (λ k _. kind_fits k (fields_of bytes))))
