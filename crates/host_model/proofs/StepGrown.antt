-- A book grows by every step.
use Rattle.std.proofs.Common.{◌≡◌, ◌≤◌, ◌+◌, ◌*◌, ℕ, zero, suc, Bool, true, false, cond, nat_le, List, [], ◌∷◌, length, All, Option, Some, None, is_some, slice_get, refl, sym, subst, arith}
use Rattle.std.specs.Prelude.{◌==◌, ◌||◌, sum_by, IfSome}
use Rattle.std.specs.List.{AllByRecursion}
use Rattle.std.proofs.lemmas.Bool.Decides.{nat_tests}
use Rattle.std.proofs.lemmas.List.Elements.{recursion_from_All}
use Rattle.std.proofs.lemmas.List.Sums.{sum_by-le}
use Rattle.ps_time.specs.Numbers.{greatest_length, greatest_moment, keeping}
use Rattle.ps_time.specs.declared.key.RunKey.{RunKey}
use Rattle.ps_time.proofs.PictureLemmas.{and_true}
use Rattle.run_states.specs.Purging.{is_long_past, is_purgeable, rest_of}
use Rattle.run_states.specs.Rows.{find_row}
use Rattle.run_states.specs.declared.answer.Answer.{Answer}
use Rattle.run_states.specs.declared.answer.Answer.TheVariants as answer
use Rattle.run_states.specs.declared.proposal.Proposal.{Proposal}
use Rattle.run_states.specs.declared.row.RunRow.{RunRow}
use Rattle.run_states.specs.declared.why.Denial.{Denial}
use Rattle.archive_retry.specs.Bounds.{IsPolicy, IsStateOf}
use Rattle.archive_retry.specs.Retry.{attempts_of, is_due, state_after}
use Rattle.archive_retry.specs.declared.policy.Entry.{Entry}
use Rattle.archive_retry.specs.declared.policy.Policy.{Policy}
use Rattle.archive_retry.specs.declared.state.ArchiveState.{ArchiveState}
use Rattle.task_spec.specs.Bounds.{IsArchive}
use Rattle.task_spec.specs.declared.task.Archive.{Archive}
use Rattle.host_model.specs.Apply.{settled}
use Rattle.host_model.specs.Archives.{state_at_index}
use Rattle.host_model.specs.Book.{Book, find_task, limits_in, moment_at}
use Rattle.host_model.specs.Conditions.{MayStep}
use Rattle.host_model.specs.Effect.{archives_of}
use Rattle.host_model.specs.Grown.{ArchiveEvolves, Grown}
use Rattle.host_model.specs.Lawful.{IsLawfulTask}
use Rattle.host_model.specs.LawfulRow.{IsHostRow}
use Rattle.host_model.specs.Step.{outcome_of, step, step_book}
use Rattle.host_model.specs.declared.input.Input.{Input}
use Rattle.host_model.specs.declared.input.Input.TheVariants as input
use Rattle.host_model.specs.declared.task_row.TaskRow.{TaskRow}
use Rattle.host_model.specs.Fits.{objection}
use Rattle.host_model.specs.Heard.{fact_of}
use Rattle.host_model.specs.Plan.{change_of_plan, plan_asked, planned_proposal, unless_objected}
use Rattle.host_model.specs.Turn.{turn_changes}
use Rattle.host_model.specs.declared.change.Change.{Change}
use Rattle.host_model.specs.declared.change.Change.TheVariants.{Tried, Purged}
use Rattle.host_model.specs.declared.config.Config.{Config}
use Rattle.host_model.specs.declared.lead.Planned.{Planned}
use Rattle.host_model.specs.declared.lead.Planned.TheVariants.{At, NoTool, NoSlot}
use Rattle.host_model.proofs.ChangesGrow.{GrowsBy, after_grown}
use Rattle.host_model.proofs.Keyed.{key_is}
use Rattle.host_model.proofs.Placed.{find_row-key}
use Rattle.host_model.proofs.RowLemmas.{found_of_all}
use Rattle.host_model.proofs.SettledRows.{settled_hosts}
use Rattle.host_model.proofs.StepAlong.{book_along, cancel_along, collect_along, confirm_along, drop_along, free_along, hear_along, limits_along, material_along, open_along, post_along, propose_along, tried_along, view_along}
use Rattle.host_model.proofs.WalkLemmas.{AllAlong, kept_along, turn_along}
use Rattle.host_model.proofs.Wishes.{ask_granted, cancel_granted, end_granted, given_if, merge_granted, plan_granted, purge_granted, restart_granted, start_granted}

-- neither an attempt at an archive nor a purge
abbrev IsPlain : Change → Type 0
IsPlain (Tried k index state) = ⊥
IsPlain (Purged k) = ⊥
IsPlain c = Unit {0}

plain_grows : (b : Book) (c : Change) → IsPlain c → GrowsBy b c
plain_grows b (Tried k index state) plain = absurd plain
plain_grows b (Purged k) plain = absurd plain
plain_grows b c plain = record { goes_on = λ r at own. tt; in_time = λ k r e f. cc }

-- ---- what a turn wishes for
objected_plain : (c : Config) (b : Book) (p : Proposal) (o : Option Denial) → IsPlain (unless_objected c b p o)
objected_plain c b p None = tt
objected_plain c b p (Some denial) = tt

plan_plain : (c : Config) (b : Book) (m : ℕ) (r : RunRow) (v : Planned) → IsPlain (change_of_plan c b m r v)
plan_plain c b m r (At start tool) = let p : Proposal = planned_proposal r start tool in objected_plain c b p (objection c.installed (limits_in c b) b.rows m p)
plan_plain c b m r NoTool = tt
plan_plain c b m r NoSlot = tt

asked_plain : (c : Config) (b : Book) (m : ℕ) (r : RunRow) (o : Option _) → IsPlain (plan_asked c b m r o)
asked_plain c b m r None = tt
asked_plain c b m r (Some w) = plan_plain c b m r _

-- a row that is purged is long at rest
purge_grows : (self m : ℕ) (b : Book) (r : RunRow) → find_row b.rows r.key ≡ Some r → is_purgeable self m b.rows r ≡ true → b.moment ≡ m → GrowsBy b (Purged r.key)
purge_grows self m b r at may now = record {
  goes_on = λ s found own. tt;
  in_time = λ k s e found.
      let is : r.key ≡ k = cc in
      let same : s ≡ r = cc in
      let past = and_true (is_long_past m r) _ may in
      let old = and_true (is_some r.closed || is_some r.ended) (nat_le (rest_of r + keeping) m) past.0 in
      let low : rest_of r + keeping ≤ m = grind (arith, nat_tests) in
      subst (λ t. rest_of t + keeping ≤ b.moment) (sym same) (subst (λ n. rest_of r + keeping ≤ n) (sym now) low);
}

-- a change of a turn at the book's moment
abbrev GrowsNow : ℕ → Book → Change → Type 0
GrowsNow m b c = b.moment ≡ m → GrowsBy b c × (b.moment ≡ m)

turn_grows : (c : Config) (m : ℕ) (b : Book) → b.moment ≡ m → AllAlong GrowsBy m b (turn_changes c b m)
turn_grows c m b now = kept_along (λ a. a.moment ≡ m) GrowsBy m (turn_changes c b m) b now (turn_along (GrowsNow m) m c
    (λ a r d at e now. let g = end_granted c m a r d e in (subst (GrowsBy a) g.is (plain_grows a _ tt), now))
    (λ a r d at e now. let g = merge_granted c m a r d e in (subst (GrowsBy a) g.is (plain_grows a _ tt), now))
    (λ a r d at e now. let g = start_granted m a r d e in (subst (GrowsBy a) g.is (plain_grows a _ tt), now))
    (λ a r d at e now. let g = plan_granted c m a r d e in (subst (GrowsBy a) g.1 (plain_grows a _ (asked_plain c a m r r.question)), now))
    (λ a t d at e now. let g = ask_granted c m a t d e in (subst (GrowsBy a) g.is (plain_grows a _ tt), now))
    (λ a r d at e now. let g = purge_granted c m a r d e in (subst (GrowsBy a) g.1 (purge_grows c.number m a r at g.0 now), now))
    b)

-- ---- an attempt at an archive
pub task_of_all : (P : TaskRow → Type 0) (serial : ℕ) (t : TaskRow) (tasks : List TaskRow) → AllByRecursion P tasks → find_task tasks serial ≡ Some t → P t
task_of_all P serial t [] all found = cc
task_of_all P serial t (x ∷ xs) all found = go (x.serial == serial) found (task_of_all P serial t xs all.1)
  where
    go : (b : Bool) → cond b (Some x) (find_task xs serial) ≡ Some t → (find_task xs serial ≡ Some t → P t) → P t
    go true e later = let is : x ≡ t = cc in subst P is all.0
    go false e later = later e

-- what is due isn't done, and was tried at most as often as its policy says
due_state : (policy : Policy) (s : ArchiveState) (m : ℕ) → is_due s m ≡ true → IsStateOf policy s → (s.done ≡ false) × (s.tried ≤ attempts_of policy)
due_state policy s m due is = go s.done s.next due is
  where
    go : (d : Bool) (o : Option ℕ) → is_due (record { tried = s.tried; next = o; done = d }) m ≡ true → IfSome o (λ next. (next ≤ greatest_moment + greatest_length) × (s.tried ≤ attempts_of policy)) → (d ≡ false) × (s.tried ≤ attempts_of policy)
    go true o due is = cc
    go false None due is = cc
    go false (Some next) due is = (refl, is.1)

few_attempts : (policy : Policy) → IsPolicy policy → attempts_of policy ≤ 16_000
few_attempts policy is =
    let each : sum_by (λ e. e.attempts) policy.entries ≤ length policy.entries * 1_000 = sum_by-le (λ (e : Entry). e.attempts) 1_000 policy.entries (λ i d lt. (is.entries i d lt).few) in
    omega (arith, each, is.few)

state_evolves : (policy : Policy) (s : ArchiveState) (m : ℕ) (retry : Option ℕ) (good : Bool) → s.done ≡ false → s.tried ≤ 16_000 → ArchiveEvolves s (state_after policy s m retry good)
state_evolves policy s m retry true open_state few = record { tried = omega (arith, few); done = λ e. refl }
state_evolves policy s m retry false open_state few = record { tried = omega (arith, few); done = λ e. cc }

-- the policy of a task's archive
pub task_policy : (m : ℕ) (tasks : List TaskRow) (k : RunKey) (index : ℕ) (a : Archive) → All (IsLawfulTask m) tasks → slice_get (archives_of tasks k) index ≡ Some a → IsPolicy a.policy
task_policy m tasks k index a all at = go (find_task tasks k.task) refl at
  where
    inside : (xs : List Archive) (i : ℕ) → AllByRecursion IsArchive xs → slice_get xs i ≡ Some a → IsPolicy a.policy
    inside [] i all e = cc
    inside (x ∷ xs) zero all e = let is : x ≡ a = cc in subst (λ y. IsPolicy y.policy) is all.0.policy
    inside (x ∷ xs) (suc i) all e = inside xs i all.1 e

    go : (o : Option TaskRow) → find_task tasks k.task ≡ o → slice_get (elim o as (λ o. List Archive) [ None ↦ [] | Some t ↦ t.task.archives ]) index ≡ Some a → IsPolicy a.policy
    go None found e = cc
    go (Some t) found e =
        let lawful : IsLawfulTask m t = task_of_all (IsLawfulTask m) k.task t tasks (recursion_from_All (IsLawfulTask m) tasks all) found in
        inside t.task.archives index (recursion_from_All IsArchive t.task.archives lawful.task.rest.archives) e

state_there : (r : RunRow) (index : ℕ) (s : ArchiveState) → state_at_index r index ≡ Some s → slice_get r.archives index ≡ Some s
state_there r index s e = (given_if (is_some r.merged) (slice_get r.archives index) s e).1

module _ (c : Config) (m : ℕ) (b : Book) (now : b.moment ≡ m) (rows : All (IsHostRow c.number b.tasks m) b.rows) (n : ℕ) (tasks : All (IsLawfulTask n) b.tasks) where
  tried_grows : (k : RunKey) (index : ℕ) (good : Bool) (retry : Option ℕ) (r : RunRow) (s : ArchiveState) (a : Archive) → find_row b.rows k ≡ Some r → state_at_index r index ≡ Some s → slice_get (archives_of b.tasks k) index ≡ Some a → is_due s m ≡ true →
      GrowsBy b (Tried k index (state_after a.policy s m retry good))
  tried_grows k index good retry r s a found state archive due = record {
    goes_on = λ q at own old e.
        let is : q.key ≡ k = key_is q.key k own in
        let there : find_row b.rows k ≡ Some q = subst (λ j. find_row b.rows j ≡ Some q) is at in
        let same : r ≡ q = cc in
        let here : slice_get r.archives index ≡ Some old = subst (λ x. slice_get x.archives index ≡ Some old) (sym same) e in
        let was : slice_get r.archives index ≡ Some s = state_there r index s state in
        let kept : s ≡ old = cc in
        subst (λ x. ArchiveEvolves x (state_after a.policy s m retry good)) kept (state_evolves a.policy s m retry good low.0 (omega (arith, low.1, few_attempts a.policy policy)));
    in_time = λ j q e f. cc;
  }
    where
      row : IsHostRow c.number b.tasks m r
      row = found_of_all (IsHostRow c.number b.tasks m) k r b.rows rows found

      policy : IsPolicy a.policy
      policy = task_policy n b.tasks k index a tasks archive

      low : (s.done ≡ false) × (s.tried ≤ attempts_of a.policy)
      low = due_state a.policy s m due (row.archives index a s (subst (λ j. slice_get (archives_of b.tasks j) index ≡ Some a) (sym (find_row-key b.rows k r found)) archive) (state_there r index s state))

  fact_grows : (k : RunKey) (place : ℕ) (told : Answer) → GrowsBy b (fact_of k place told)
  fact_grows k place (answer.Free free) = plain_grows b _ tt
  fact_grows k place answer.Accepted = plain_grows b _ tt
  fact_grows k place (answer.Acknowledged what) = plain_grows b _ tt
  fact_grows k place (answer.Result result) = plain_grows b _ tt

  -- of a book that is settled at m
  input_grows : (i : Input) → AllAlong GrowsBy m b (outcome_of c m b i).list
  input_grows (input.Book class priority start len) = book_along GrowsBy m c b class priority start len (λ p is fits. (plain_grows b _ tt, (plain_grows _ _ tt, tt)))
  input_grows (input.Post task requester) = post_along GrowsBy m c b task requester (λ room. plain_grows b _ tt)
  input_grows (input.Cancel serial requester) =
      cancel_along GrowsBy m c b serial requester (λ t found fresh. plain_grows b _ tt) (λ number a r d at e. let g = cancel_granted c.number number a r d e in subst (GrowsBy a) g.2 (plain_grows a _ tt))
  input_grows (input.View page) = view_along GrowsBy m c b page
  input_grows (input.Free sender question) = free_along GrowsBy m c b sender question
  input_grows (input.Propose sender proposal) = propose_along GrowsBy m c b sender proposal (λ lead at new. plain_grows b _ tt)
  input_grows (input.Confirm sender key) = confirm_along GrowsBy m c b sender key (λ lead r at found fresh. plain_grows b _ tt)
  input_grows (input.Drop sender key) = drop_along GrowsBy m c b sender key (λ r found booked fresh. plain_grows b _ tt)
  input_grows (input.Collect sender key) = collect_along GrowsBy m c b sender key
  input_grows (input.Material sender key text) = material_along GrowsBy m c b sender key (λ r found active. plain_grows b _ tt)
  input_grows (input.Heard order said) = hear_along GrowsBy m c b order said (λ r o told found asked at is. fact_grows r.key order.place told) (λ r o why found asked at is. plain_grows b _ tt)
  input_grows (input.Tried key index good retry) = tried_along GrowsBy m c b key index good retry (tried_grows key index good retry)
  input_grows input.Turn = turn_grows c m b now
  input_grows input.Open = open_along GrowsBy m c b (λ first. plain_grows b _ tt) (λ a r d at e. let g = restart_granted c a r d e in subst (GrowsBy a) g.1 (plain_grows a _ tt))
  input_grows (input.Limits limits) = limits_along GrowsBy m c b limits (λ short room. plain_grows b _ tt)

-- ---- every step
pub step_grown : (c : Config) (b : Book) (clock : ℕ) (i : Input) → MayStep c b clock i → Grown b (step_book c b clock i)
step_grown c b clock i may =
    let m : ℕ = moment_at b clock in
    let later : b.moment ≤ m = omega arith in
    after_grown b m (step c b clock i).list later (input_grows c m (settled m b) refl (settled_hosts c.number b.tasks b.moment m later b.rows may.book.rows) b.moment may.book.tasks i)
