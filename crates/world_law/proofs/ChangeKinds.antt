-- Which kinds of changes each input's step makes.
use Rattle.std.specs.List.{AllByRecursion}
use Rattle.std.specs.Prelude.{◌-◌}
use Rattle.std.proofs.Common.{◌⊎◌, inl, inr, ℕ, zero, suc, Bool, true, false, cond, List, [], ◌∷◌, ◌++◌, Option, Some, None, nat_le, take, subst}
use Rattle.ps_time.specs.Numbers.{most_changes}
use Rattle.ps_time.specs.Span.{Range}
use Rattle.ps_time.specs.declared.key.RunKey.{RunKey}
use Rattle.run_states.specs.declared.answer.Answer.{Answer}
use Rattle.run_states.specs.declared.proposal.Proposal.{Proposal}
use Rattle.run_states.specs.declared.row.RunRow.{RunRow}
use Rattle.run_states.specs.declared.why.Denial.{Denial}
use Rattle.host_model.specs.Apply.{apply, apply_all}
use Rattle.host_model.specs.Book.{Book, limits_in}
use Rattle.host_model.specs.Ending.{end_run}
use Rattle.host_model.specs.Fits.{objection}
use Rattle.host_model.specs.Heard.{fact_of}
use Rattle.host_model.specs.Merging.{merge_run}
use Rattle.host_model.specs.NextAttempt.{ask}
use Rattle.host_model.specs.Plan.{change_of_plan, plan_asked, plan_run, planned_proposal, unless_objected}
use Rattle.host_model.specs.Purging.{purge_run}
use Rattle.host_model.specs.RecordLength.{change_bytes, record_bytes}
use Rattle.host_model.specs.Starting.{start_run}
use Rattle.host_model.specs.Step.{outcome_of}
use Rattle.host_model.specs.Turn.{due_changes, most_record_bytes, turn_changes, within_bytes}
use Rattle.host_model.specs.Walk.{each_row, each_task, in_turn}
use Rattle.host_model.specs.declared.change.Change.{Change}
use Rattle.host_model.specs.declared.change.Change.TheVariants.{Posted, TaskClosed, Accepted, Asked, Planned, Closed, Ended, LimitsSet, Purged}
use Rattle.host_model.specs.declared.config.Config.{Config}
use Rattle.host_model.specs.declared.input.Input.{Input}
use Rattle.host_model.specs.declared.lead.Planned.{Planned as Plan}
use Rattle.host_model.specs.declared.lead.Planned.TheVariants.{At, NoTool, NoSlot}
use Rattle.host_model.proofs.StepAlong.{book_along, cancel_along, collect_along, confirm_along, drop_along, free_along, hear_along, limits_along, material_along, open_along, post_along, propose_along, tried_along, view_along}
use Rattle.host_model.proofs.WalkLemmas.{AllAlong, GrantsRow, rows_along, tasks_along, turn_along}
use Rattle.host_model.proofs.Wishes.{ask_granted, cancel_granted, end_granted, merge_granted, plan_granted, purge_granted, restart_granted, start_granted}
use Rattle.host_model.specs.declared.input.Input.TheVariants as input
use Rattle.run_states.specs.declared.answer.Answer.TheVariants as answer
use Rattle.world_law.proofs.Changed.{IsIdle, IsStaying, IsSteady}
use Rattle.world_law.proofs.Walked.{IsPurge, PurgesLast}

-- ---- kinds
-- of runs, and no purge
abbrev IsPlain : Change → Type 0
IsPlain (Posted t) = ⊥
IsPlain (TaskClosed serial) = ⊥
IsPlain (LimitsSet l) = ⊥
IsPlain (Purged k) = ⊥
IsPlain c = Unit {0}

-- of tasks, limits, or the end of a run
abbrev IsOffice : Change → Type 0
IsOffice (Posted t) = Unit {0}
IsOffice (TaskClosed serial) = Unit {0}
IsOffice (LimitsSet l) = Unit {0}
IsOffice (Closed k why) = Unit {0}
IsOffice (Ended k good body) = Unit {0}
IsOffice c = ⊥

plain_stays : (ch : Change) → IsPlain ch → IsStaying ch
plain_stays (Purged k) p = p
plain_stays ch p = tt

plain_steady : (ch : Change) → IsPlain ch → IsSteady ch
plain_steady (Posted t) p = p
plain_steady (TaskClosed serial) p = p
plain_steady (LimitsSet l) p = p
plain_steady ch p = tt

office_stays : (ch : Change) → IsOffice ch → IsStaying ch
office_stays (Purged k) p = p
office_stays ch p = tt

office_idle : (ch : Change) → IsOffice ch → IsIdle ch
office_idle (Accepted p hosts epoch) q = q
office_idle (Asked v hosts asker) q = q
office_idle (Planned k start tool epoch) q = q
office_idle ch p = tt

-- ---- lists
abbrev Along : (Change → Type 0) → ℕ → Book → List Change → Type 0
Along Q m b cs = AllAlong (λ a ch. Q ch) m b cs

all_of : (Q R : Change → Type 0) → ((ch : Change) → Q ch → R ch) → (m : ℕ) (cs : List Change) (b : Book) → Along Q m b cs → AllByRecursion R cs
all_of Q R to m [] b all = tt
all_of Q R to m (ch ∷ cs) b all = (to ch all.0, all_of Q R to m cs (apply m ch b) all.1)

staying_last : (cs : List Change) → AllByRecursion IsStaying cs → PurgesLast cs
staying_last [] all = tt
staying_last (ch ∷ cs) all = inr (all.0, staying_last cs all.1)

then_last : (xs ys : List Change) → AllByRecursion IsStaying xs → PurgesLast ys → PurgesLast (xs ++ ys)
then_last [] ys all last = last
then_last (x ∷ xs) ys all last = inr (all.0, then_last xs ys all.1 last)

take_all : (Q : Change → Type 0) (n : ℕ) (cs : List Change) → AllByRecursion Q cs → AllByRecursion Q (take n cs)
take_all Q zero cs all = tt
take_all Q (suc n) [] all = tt
take_all Q (suc n) (ch ∷ cs) all = (all.0, take_all Q n cs all.1)

take_last : (n : ℕ) (cs : List Change) → PurgesLast cs → PurgesLast (take n cs)
take_last zero cs last = tt
take_last (suc n) [] last = tt
take_last (suc n) (ch ∷ cs) (inl p) = inl (p.0, take_all IsPurge n cs p.1)
take_last (suc n) (ch ∷ cs) (inr p) = inr (p.0, take_last n cs p.1)

within_all : (Q : Change → Type 0) (left : ℕ) (cs : List Change) → AllByRecursion Q cs → AllByRecursion Q (within_bytes left cs)
within_all Q left [] all = tt
within_all Q left (ch ∷ cs) all = go (nat_le (change_bytes ch) left) (within_all Q (left - change_bytes ch) cs all.1)
  where
    go : (b : Bool) → AllByRecursion Q (within_bytes (left - change_bytes ch) cs) → AllByRecursion Q (cond b (ch ∷ within_bytes (left - change_bytes ch) cs) [])
    go true rest = (all.0, rest)
    go false rest = tt

within_last : (left : ℕ) (cs : List Change) → PurgesLast cs → PurgesLast (within_bytes left cs)
within_last left [] last = tt
within_last left (ch ∷ cs) (inl p) = go (nat_le (change_bytes ch) left)
  where
    go : (b : Bool) → PurgesLast (cond b (ch ∷ within_bytes (left - change_bytes ch) cs) [])
    go true = inl (p.0, within_all IsPurge (left - change_bytes ch) cs p.1)
    go false = tt
within_last left (ch ∷ cs) (inr p) = go (nat_le (change_bytes ch) left) (within_last (left - change_bytes ch) cs p.1)
  where
    go : (b : Bool) → PurgesLast (within_bytes (left - change_bytes ch) cs) → PurgesLast (cond b (ch ∷ within_bytes (left - change_bytes ch) cs) [])
    go true rest = inr (p.0, rest)
    go false rest = tt

-- ---- a turn
objected_plain : (c : Config) (b : Book) (p : Proposal) (o : Option Denial) → IsPlain (unless_objected c b p o)
objected_plain c b p None = tt
objected_plain c b p (Some denial) = tt

plan_plain : (c : Config) (b : Book) (m : ℕ) (r : RunRow) (v : Plan) → IsPlain (change_of_plan c b m r v)
plan_plain c b m r (At start tool) = let p : Proposal = planned_proposal r start tool in objected_plain c b p (objection c.installed (limits_in c b) b.rows m p)
plan_plain c b m r NoTool = tt
plan_plain c b m r NoSlot = tt

asked_plain : (c : Config) (b : Book) (m : ℕ) (r : RunRow) (o : Option Range) → IsPlain (plan_asked c b m r o)
asked_plain c b m r None = tt
asked_plain c b m r (Some w) = plan_plain c b m r _

module _ (c : Config) (m : ℕ) where
  abbrev P : Book → Change → Type 0
  P a ch = IsPlain ch

  ends : GrantsRow P m (end_run c m)
  ends a r ch at e = let g = end_granted c m a r ch e in subst IsPlain g.is tt

  merges : GrantsRow P m (merge_run c m)
  merges a r ch at e = let g = merge_granted c m a r ch e in subst IsPlain g.is tt

  starts : GrantsRow P m (start_run m)
  starts a r ch at e = let g = start_granted m a r ch e in subst IsPlain g.is tt

  plans : GrantsRow P m (plan_run c m)
  plans a r ch at e = let g = plan_granted c m a r ch e in subst IsPlain g.1 (asked_plain c a m r r.question)

  -- the groups behind each one
  abbrev behind_asks : List (Book → List Change)
  behind_asks = each_row (purge_run c m) m ∷ []

  abbrev behind_plans : List (Book → List Change)
  behind_plans = each_task (ask c m) m ∷ behind_asks

  abbrev behind_starts : List (Book → List Change)
  behind_starts = each_row (plan_run c m) m ∷ behind_plans

  abbrev behind_merges : List (Book → List Change)
  behind_merges = each_row (start_run m) m ∷ behind_starts

  abbrev behind_ends : List (Book → List Change)
  behind_ends = each_row (merge_run c m) m ∷ behind_merges

  due_last : (b : Book) → PurgesLast (due_changes c m b)
  due_last b =
      step (each_row (end_run c m) m) (rows_along P m (end_run c m) ends) behind_ends
      (step (each_row (merge_run c m) m) (rows_along P m (merge_run c m) merges) behind_merges
      (step (each_row (start_run m) m) (rows_along P m (start_run m) starts) behind_starts
      (step (each_row (plan_run c m) m) (rows_along P m (plan_run c m) plans) behind_plans
      (step (each_task (ask c m) m) (tasks_along P m (ask c m) (λ a t ch at e. let g = ask_granted c m a t ch e in subst IsPlain g.is tt)) behind_asks goes)))) b
    where
      step : (group : Book → List Change) → ((a : Book) → Along IsPlain m a (group a)) → (groups : List (Book → List Change)) → ((a : Book) → PurgesLast (in_turn m groups a)) → (a : Book) → PurgesLast (in_turn m (group ∷ groups) a)
      step group plain groups last a = then_last (group a) (in_turn m groups (apply_all m (group a) a)) (all_of IsPlain IsStaying plain_stays m (group a) a (plain a)) (last (apply_all m (group a) a))

      append_purges : (xs : List Change) → AllByRecursion IsPurge xs → PurgesLast (xs ++ [])
      append_purges [] all = tt
      append_purges (x ∷ xs) all = inl (all.0, more xs all.1)
        where
          more : (xs : List Change) → AllByRecursion IsPurge xs → AllByRecursion IsPurge (xs ++ [])
          more [] all = tt
          more (x ∷ xs) all = (all.0, more xs all.1)

      goes : (a : Book) → PurgesLast (in_turn m (each_row (purge_run c m) m ∷ []) a)
      goes a = append_purges (each_row (purge_run c m) m a)
          (all_of IsPurge IsPurge (λ ch p. p) m (each_row (purge_run c m) m a) a (rows_along (λ x ch. IsPurge ch) m (purge_run c m) (λ x r ch at e. let g = purge_granted c m x r ch e in subst IsPurge g.1 tt) a))

  turn_last : (b : Book) → PurgesLast (turn_changes c b m)
  turn_last b = within_last (most_record_bytes - record_bytes []) (take most_changes (due_changes c m b)) (take_last most_changes (due_changes c m b) (due_last b))

  turn_steady : (b : Book) → AllByRecursion IsSteady (turn_changes c b m)
  turn_steady b = all_of IsSteady IsSteady (λ ch p. p) m (turn_changes c b m) b (turn_along (λ a ch. IsSteady ch) m c
      (λ a r ch at e. plain_steady ch (ends a r ch at e)) (λ a r ch at e. plain_steady ch (merges a r ch at e)) (λ a r ch at e. plain_steady ch (starts a r ch at e)) (λ a r ch at e. plain_steady ch (plans a r ch at e))
      (λ a t ch at e. let g = ask_granted c m a t ch e in subst IsSteady g.is tt) (λ a r ch at e. let g = purge_granted c m a r ch e in subst IsSteady g.1 tt) b)

-- ---- every input, of a settled book
fact_plain : (k : RunKey) (place : ℕ) (told : Answer) → IsPlain (fact_of k place told)
fact_plain k place (answer.Free free) = tt
fact_plain k place answer.Accepted = tt
fact_plain k place (answer.Acknowledged what) = tt
fact_plain k place (answer.Result result) = tt

-- what a step's changes are, taken together
pub record Kind (cs : List Change) : Type 0 where
  pub last : PurgesLast cs
  pub steady : (AllByRecursion IsSteady cs) ⊎ (AllByRecursion IsIdle cs)

of_plain : (m : ℕ) (b : Book) (cs : List Change) → Along IsPlain m b cs → Kind cs
of_plain m b cs all = record { last = staying_last cs (all_of IsPlain IsStaying plain_stays m cs b all); steady = inl (all_of IsPlain IsSteady plain_steady m cs b all) }

of_office : (m : ℕ) (b : Book) (cs : List Change) → Along IsOffice m b cs → Kind cs
of_office m b cs all = record { last = staying_last cs (all_of IsOffice IsStaying office_stays m cs b all); steady = inr (all_of IsOffice IsIdle office_idle m cs b all) }

pub kind_of : (c : Config) (m : ℕ) (b : Book) (i : Input) → Kind (outcome_of c m b i).list
kind_of c m b (input.Book class priority start len) = of_plain m b _ (book_along (λ a ch. IsPlain ch) m c b class priority start len (λ p is fits. (tt, (tt, tt))))
kind_of c m b (input.Post task requester) = of_office m b _ (post_along (λ a ch. IsOffice ch) m c b task requester (λ room. tt))
kind_of c m b (input.Cancel serial requester) =
    of_office m b _ (cancel_along (λ a ch. IsOffice ch) m c b serial requester (λ t found fresh. tt) (λ number a r ch at e. let g = cancel_granted c.number number a r ch e in subst IsOffice g.2 tt))
kind_of c m b (input.View page) = of_plain m b _ (view_along (λ a ch. IsPlain ch) m c b page)
kind_of c m b (input.Free sender question) = of_plain m b _ (free_along (λ a ch. IsPlain ch) m c b sender question)
kind_of c m b (input.Propose sender proposal) = of_plain m b _ (propose_along (λ a ch. IsPlain ch) m c b sender proposal (λ lead at new. tt))
kind_of c m b (input.Confirm sender key) = of_plain m b _ (confirm_along (λ a ch. IsPlain ch) m c b sender key (λ lead r at found fresh. tt))
kind_of c m b (input.Drop sender key) = of_plain m b _ (drop_along (λ a ch. IsPlain ch) m c b sender key (λ r found booked fresh. tt))
kind_of c m b (input.Collect sender key) = of_plain m b _ (collect_along (λ a ch. IsPlain ch) m c b sender key)
kind_of c m b (input.Material sender key text) = of_plain m b _ (material_along (λ a ch. IsPlain ch) m c b sender key (λ r found active. tt))
kind_of c m b (input.Heard order said) = of_plain m b _ (hear_along (λ a ch. IsPlain ch) m c b order said (λ r o told found asked at is. fact_plain r.key order.place told) (λ r o why found asked at is. tt))
kind_of c m b (input.Tried key index good retry) = of_plain m b _ (tried_along (λ a ch. IsPlain ch) m c b key index good retry (λ r s a found state archive due. tt))
kind_of c m b input.Turn = record { last = turn_last c m b; steady = inl (turn_steady c m b) }
kind_of c m b input.Open = of_office m b _ (open_along (λ a ch. IsOffice ch) m c b (λ first. tt) (λ a r ch at e. let g = restart_granted c a r ch e in subst IsOffice g.1 tt))
kind_of c m b (input.Limits limits) = of_office m b _ (limits_along (λ a ch. IsOffice ch) m c b limits (λ short room. tt))
