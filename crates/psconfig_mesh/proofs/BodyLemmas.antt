-- The body of a task for a pair of hosts is a task with the mark as its reference.
use Rattle.std.proofs.Common.{◌≡◌, ◌≤◌, ℕ, List, [], ◌&&◌, nat_le, Bool, true, false, cond, Option, Some, None, is_some, is_ok, if◌then◌else◌, Result, Ok, Err, length, codes, refl, sym, ap, ◌∙◌, ℤ, pos, arith}
use Rattle.std.proofs.lemmas.Bool.Decides.{nat_tests}
use Rattle.serde_json.specs.Data.{Data, object, Members, put, depth}
use Rattle.serde_json.specs.Find.{get_member, as_null}
use Rattle.serde_json.specs.Written.{has_float, compact_text}
use Rattle.serde_json.proofs.Views.{get_member-put}
use Rattle.ps_json.specs.Answer.{then_with}
use Rattle.ps_json.specs.Fields.{without_member, end_of}
use Rattle.ps_json.specs.Member.{required, optional}
use Rattle.ps_json.specs.Tree.{tree_of}
use Rattle.ps_json.proofs.TakenLemmas.{get_member-without_other}
use Rattle.task_spec.specs.Fault.{in_json, wrapped}
use Rattle.task_spec.specs.ReadArchive.{archives_in}
use Rattle.task_spec.specs.ReadSchedule.{schedule_in}
use Rattle.task_spec.specs.ReadTask.{schema, test_in, tool_in, tools_in, from_now, reference_in, priority_in, rest_of, with_test, task_of}
use Rattle.task_spec.specs.WriteTask.{members_in}
use Rattle.task_spec.specs.declared.fault.TaskFault.{TaskFault}
use Rattle.task_spec.specs.declared.fault.TaskFault.TheVariants.{BadSpec}
use Rattle.task_spec.specs.declared.read_task.Rest.{Rest}
use Rattle.task_spec.specs.declared.task.Archive.{Archive}
use Rattle.task_spec.specs.declared.task.Task.{Task}
use Rattle.schedule_rule.specs.Rule.{Schedule}
use Rattle.mesh_parts.specs.declared.group.Pair.{Pair}
use Rattle.psconfig_mesh.specs.declared.mesh.Mesh.{Mesh}
use Rattle.psconfig_mesh.specs.declared.mesh.MeshTask.{MeshTask}
use Rattle.psconfig_mesh.specs.Body.{mark_data, body_data, fits}
use Rattle.mesh_parts.specs.Fill.{filled}
use Rattle.psconfig_mesh.specs.Mesh.{IsWanted, wanted}

-- ---- the mark

pub mark_whole : (mesh task : List ℕ) (pair : Pair) → has_float (mark_data mesh task pair) ≡ false
mark_whole mesh task pair = by_second pair.second
  where
    by_second : (second : Option (List ℕ)) → has_float (mark_data mesh task (record { first = pair.first; second = second })) ≡ false
    by_second None = refl
    by_second (Some second) = refl

pub mark_flat : (mesh task : List ℕ) (pair : Pair) → depth (mark_data mesh task pair) ≤ 127
mark_flat mesh task pair = by_second pair.second
  where
    by_second : (second : Option (List ℕ)) → depth (mark_data mesh task (record { first = pair.first; second = second })) ≤ 127
    by_second None = omega arith
    by_second (Some second) = omega arith

-- ---- a body that fits

pub record Fits (now : ℕ) (lead : List ℕ) (d : Data) : Type 0 where
  pub whole : has_float d ≡ false
  pub flat : depth d ≤ 64
  pub task : Task
  pub is : task_of now lead d ≡ Ok task

with_task : (now : ℕ) (lead : List ℕ) (d : Data) → has_float d ≡ false → depth d ≤ 64 → (r : Result Task TaskFault) → task_of now lead d ≡ r → is_ok r ≡ true → Fits now lead d
with_task now lead d whole flat (Ok task) is fits = record { whole = whole; flat = flat; task = task; is = is }
with_task now lead d whole flat (Err fault) is fits = absurd cc

pub fits_as : (now : ℕ) (lead : List ℕ) (d : Data) → fits now lead d ≡ true → Fits now lead d
unfolding fits
fits_as now lead d is = by_float (has_float d) refl is
  where
    by_depth : has_float d ≡ false → (b : Bool) → nat_le (depth d) 64 ≡ b → (b && is_ok (task_of now lead d)) ≡ true → Fits now lead d
    by_depth whole true flat is = with_task now lead d whole (grind (arith, nat_tests)) (task_of now lead d) refl is
    by_depth whole false deep is = absurd cc

    by_float : (b : Bool) → has_float d ≡ b → cond b false (nat_le (depth d) 64 && is_ok (task_of now lead d)) ≡ true → Fits now lead d
    by_float true float is = absurd cc
    by_float false whole is = by_depth whole (nat_le (depth d) 64) refl is

pub body_whole : (now : ℕ) (lead : List ℕ) (d : Data) → fits now lead d ≡ true → has_float d ≡ false
body_whole now lead d fit = (fits_as now lead d fit).whole

pub body_flat : (now : ℕ) (lead : List ℕ) (d : Data) → fits now lead d ≡ true → depth d ≤ 64
body_flat now lead d fit = (fits_as now lead d fit).flat

-- ---- its reference

value_or : {A E : Type 0} → A → Result A E → A
value_or d (Ok a) = a
value_or d (Err e) = d

abbrev good : {A E : Type 0} → A → Result A E
good a = Ok a

same_ok : {A E : Type 0} (a b : A) → good {A = A} {E = E} a ≡ good b → a ≡ b
unfolding value_or
same_ok a b is = ap (value_or b) is

-- a chain of answers that ends well had the fourth of them, and went on with it
module _ {A B C D F E T : Type 0} (make : A → B → C → D → F → T) where
  fourth : (a : Result A E) (b : Result B E) (c : Result C E) (d : Result D E) (f : Result F E) (u : Result (Unit {0}) E) (t : T)
      → then_with a (λ a. then_with b (λ b. then_with c (λ c. then_with d (λ d. then_with f (λ f. then_with u (λ _. Ok (make a b c d f))))))) ≡ Ok t
      → (a : A) × (b : B) × (c : C) × (x : D) × (f : F) × (d ≡ Ok x) × (make a b c x f ≡ t)
  fourth (Ok a) (Ok b) (Ok c) (Ok d) (Ok f) (Ok u) t is = (a, b, c, d, f, refl, same_ok _ _ is)
  fourth (Err e) b c d f u t is = absurd cc
  fourth (Ok a) (Err e) c d f u t is = absurd cc
  fourth (Ok a) (Ok b) (Err e) d f u t is = absurd cc
  fourth (Ok a) (Ok b) (Ok c) (Err e) f u t is = absurd cc
  fourth (Ok a) (Ok b) (Ok c) (Ok d) (Err e) u t is = absurd cc
  fourth (Ok a) (Ok b) (Ok c) (Ok d) (Ok f) (Err e) t is = absurd cc

-- a reference that is read and isn't null is kept as its compact text
kept_text : (d : Data) (x : Option (List ℕ)) → is_some (as_null d) ≡ false → reference_in (codes "reference") d ≡ Ok x → x ≡ Some (compact_text d)
kept_text d x some is = by_fit fit (rw some at is)
  where
    fit : Bool
    fit = if has_float d then false else nat_le (depth d) 63 && nat_le (length (compact_text d)) 65_536

    by_fit : (b : Bool) → cond b (Ok (Some (compact_text d))) (Err (BadSpec (codes "reference"))) ≡ Ok x → x ≡ Some (compact_text d)
    by_fit true is = sym (same_ok _ _ is)
    by_fit false is = absurd cc

abbrev record_of : List (List ℕ) → Schedule → List Archive → Option (List ℕ) → ℤ → Rest
record_of tools rule archives reference priority = record { tools = tools; rule = rule; archives = archives; reference = reference; priority = priority }

-- the members of a task behind `tool`, where it gave these
abbrev after_tool : ℕ → Members → List (List ℕ) → Result Rest TaskFault
after_tool now ms tool =
    let m1 = without_member (codes "tools") ms in
    let m2 = without_member (codes "schedule") m1 in
    let m3 = without_member (codes "archives") m2 in
    let m4 = without_member (codes "reference") m3 in
    let m5 = without_member (codes "priority") m4 in
    then_with (optional tool (tools_in tool) (codes "tools") ms) (λ tools.
    then_with (optional (from_now now) (schedule_in now) (codes "schedule") m1) (λ rule.
    then_with (optional [] archives_in (codes "archives") m2) (λ archives.
    then_with (optional None reference_in (codes "reference") m3) (λ reference.
    then_with (optional (pos 0) priority_in (codes "priority") m4) (λ priority.
    then_with (in_json (end_of m5)) (λ _. Ok (record_of tools rule archives reference priority)))))))

others_kept : (ms : Members) → get_member (codes "reference") (without_member (codes "archives") (without_member (codes "schedule") (without_member (codes "tools") ms))) ≡ get_member (codes "reference") ms
others_kept ms =
    get_member-without_other (codes "archives") (codes "reference") (without_member (codes "schedule") (without_member (codes "tools") ms)) (λ e. cc)
    ∙ get_member-without_other (codes "schedule") (codes "reference") (without_member (codes "tools") ms) (λ e. cc)
    ∙ get_member-without_other (codes "tools") (codes "reference") ms (λ e. cc)

optional_read : (ms : Members) (mark : Data) (x : Option (List ℕ)) → get_member (codes "reference") ms ≡ Some mark → optional None reference_in (codes "reference") ms ≡ Ok x → reference_in (codes "reference") mark ≡ Ok x
optional_read ms mark x found is = rw found at is

-- what is read of a body behind `tool` has the mark as its reference
after_kept : (now : ℕ) (ms : Members) (tool : List (List ℕ)) (rest : Rest) (mark : Data) → get_member (codes "reference") ms ≡ Some mark → is_some (as_null mark) ≡ false → after_tool now ms tool ≡ Ok rest
    → rest.reference ≡ Some (compact_text mark)
after_kept now ms tool rest mark there some is =
    let m1 = without_member (codes "tools") ms in
    let m2 = without_member (codes "schedule") m1 in
    let m3 = without_member (codes "archives") m2 in
    let m4 = without_member (codes "reference") m3 in
    let m5 = without_member (codes "priority") m4 in
    let had =
    fourth record_of (optional tool (tools_in tool) (codes "tools") ms) (optional (from_now now) (schedule_in now) (codes "schedule") m1) (optional [] archives_in (codes "archives") m2)
    (optional None reference_in (codes "reference") m3) (optional (pos 0) priority_in (codes "priority") m4) (in_json (end_of m5)) rest is
    in
    let found : get_member (codes "reference") m3 ≡ Some mark = others_kept ms ∙ there in
    let read = optional_read m3 mark had.3 found had.5 in
    ap (λ r. r.reference) (sym had.6) ∙ kept_text mark had.3 some read

rest_kept : (now : ℕ) (ms : Members) (rest : Rest) (mark : Data) → get_member (codes "reference") ms ≡ Some mark → is_some (as_null mark) ≡ false → rest_of now ms ≡ Ok rest → rest.reference ≡ Some (compact_text mark)
rest_kept now ms rest mark there some is = by_tool (optional [] tool_in (codes "tool") ms) is
  where
    by_tool : (r : Result (List (List ℕ)) TaskFault) → then_with r (after_tool now (without_member (codes "tool") ms)) ≡ Ok rest → rest.reference ≡ Some (compact_text mark)
    by_tool (Ok tool) is =
        after_kept now (without_member (codes "tool") ms) tool rest mark (get_member-without_other (codes "tool") (codes "reference") ms (λ e. cc) ∙ there) some is
    by_tool (Err fault) is = absurd cc

third : {A B C E T : Type 0} (make : B → C → T) (a : Result A E) (b : Result B E) (c : Result C E) (t : T) → then_with a (λ _. then_with b (λ b. then_with c (λ c. Ok (make b c)))) ≡ Ok t
    → (y : B) × (x : C) × (c ≡ Ok x) × (make y x ≡ t)
third make (Ok a) (Ok b) (Ok c) t is = (b, c, refl, same_ok _ _ is)
third make (Err e) b c t is = absurd cc
third make (Ok a) (Err e) c t is = absurd cc
third make (Ok a) (Ok b) (Err e) t is = absurd cc

-- a task that was read has the text of what stood at `reference`
task_kept : (now : ℕ) (lead : List ℕ) (ms : Members) (task : Task) (mark : Data) → get_member (codes "reference") ms ≡ Some mark → is_some (as_null mark) ≡ false → task_of now lead (object ms) ≡ Ok task
    → task.reference ≡ Some (compact_text mark)
task_kept now lead ms task mark there some is =
    let m1 = without_member (codes "schema") ms in
    let m2 = without_member (codes "test") m1 in
    let had = third with_test (optional 1 schema (codes "schema") ms) (required wrapped (test_in lead) (codes "test") m1) (rest_of now m2) task is in
    let here : get_member (codes "reference") m2 ≡ Some mark =
    get_member-without_other (codes "test") (codes "reference") m1 (λ e. cc) ∙ get_member-without_other (codes "schema") (codes "reference") ms (λ e. cc) ∙ there in
    ap (λ t. t.reference) (sym had.3) ∙ rest_kept now m2 had.1 mark here some had.2

-- so a body that fits is wanted, once its text reads as its tree
pub is_wanted : (mesh : Mesh) (task : MeshTask) (pair : Pair) → fits mesh.moment pair.first (body_data mesh.name task pair) ≡ true
    → tree_of (compact_text (body_data mesh.name task pair)) ≡ Ok (body_data mesh.name task pair)
    → IsWanted mesh.moment (wanted mesh task pair)
is_wanted mesh task pair fit reads =
    let it = fits_as mesh.moment pair.first (body_data mesh.name task pair) fit in
    let mark = mark_data mesh.name task.name pair in
    let before = put (codes "test") (filled (Some pair) task.test) (members_in task.rest) in
    record {
      tree = body_data mesh.name task pair;
      reads = reads;
      task = it.task;
      is = it.is;
      marked = task_kept mesh.moment pair.first (put (codes "reference") mark before) it.task mark (get_member-put (codes "reference") mark before) refl it.is;
    }
