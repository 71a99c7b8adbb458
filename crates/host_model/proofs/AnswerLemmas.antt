-- Which proposals and bookings a step accepts, and that it accepts none without a grant of the limits in force.
use Rattle.std.specs.List.{AllByRecursion}
use Rattle.std.specs.Ordering.{is_eq}
use Rattle.std.proofs.Common.{◌≡◌, ◌≢◌, ◌≤◌, ◌↔◌, ◌==◌, ◌+◌, ℕ, ℤ, Bool, true, false, cond, max, length, List, [], ◌∷◌, Option, Some, None, slice_get, refl, sym, ap, subst, ◌∙◌, arith}
use Rattle.std.proofs.lemmas.Bool.{and_from, eqb-false, eqb-true}
use Rattle.std.proofs.lemmas.Bool.Decides.{Decides-eqb}
use Rattle.ps_time.specs.Key.{key_cmp}
use Rattle.ps_time.specs.Span.{Range}
use Rattle.ps_time.specs.declared.class.Class.{Class}
use Rattle.ps_time.specs.declared.key.RunKey.{RunKey}
use Rattle.plugin_core.specs.Participants.{participants}
use Rattle.limit_apply.specs.Limits.{LimitsConfig as Limits}
use Rattle.run_states.specs.Content.{kept_proposal, same_content}
use Rattle.run_states.specs.Rows.{IsAscendingRows, find_row}
use Rattle.run_states.specs.TaskRows.{greatest_number, is_of_task}
use Rattle.run_states.specs.declared.proposal.Proposal.{Proposal}
use Rattle.run_states.specs.declared.row.RunRow.{RunRow}
use Rattle.run_states.specs.declared.why.Closing.{Closing}
use Rattle.run_states.specs.declared.why.Denial.{Denial}
use Rattle.run_states.specs.declared.why.Denial.TheVariants.{Differs, Full}
use Rattle.run_states.specs.declared.why.What.TheVariants.{Numbers}
use Rattle.host_model.specs.Book.{Book, find_task, last_limits, latest_epoch, limits_in}
use Rattle.host_model.specs.Booking.{book_run, booked_as, booking, booking_key, booking_outcome, last_booking}
use Rattle.host_model.specs.Fits.{Place, denial_of, objection, place_of}
use Rattle.host_model.specs.Fitting.{AcceptsRun, Fits, IsAcceptance, MayAccept}
use Rattle.host_model.specs.Granting.{AcceptsGranted, limits_of_epoch}
use Rattle.host_model.specs.Plan.{change_of_plan, is_answered, own_answer, plan, plan_asked, plan_run, planned_proposal, unless_objected, wanted_tools}
use Rattle.host_model.specs.Propose.{answered, decide, decided_at, decided_known, decided_new, decided_outcome, for_lead, lead_name, propose}
use Rattle.host_model.specs.declared.change.Change.{Change}
use Rattle.host_model.specs.declared.config.Config.{Config}
use Rattle.host_model.specs.declared.lead.Planned.{Planned as Plan}
use Rattle.host_model.specs.declared.lead.Planned.TheVariants.{At, NoTool, NoSlot}
use Rattle.host_model.specs.declared.part.Decision.{Decision}
use Rattle.host_model.specs.declared.part.Decision.TheVariants.{New, Known, Denied}
use Rattle.host_model.specs.declared.reply.Outcome.{Outcome}
use Rattle.host_model.specs.declared.reply.Reply.TheVariants.{Denied as denied_reply}
use Rattle.host_model.proofs.FitLemmas.{accepts_exactly, fits_exactly, unobjected_granted}
use Rattle.host_model.proofs.Keyed.{key_is}

-- ---- proposals
reply_is : (b : Book) (m : ℕ) (lead : List ℕ) (p : Proposal) (d : Decision) → AcceptsRun (decided_outcome b m lead p d).reply ↔ IsAcceptance d
reply_is b m lead p New = ((λ x. tt), (λ x. tt))
reply_is b m lead p (Known accepted) = ((λ x. tt), (λ x. tt))
reply_is b m lead p (Denied denial) = ((λ x. absurd x), (λ x. absurd x))

-- a proposal of the key's lead is accepted exactly where it may be
pub proposal_accepted : (c : Config) (b : Book) (m sender : ℕ) (p : Proposal) (lead : List ℕ) → lead_name c sender p.key ≡ Some lead → IsAscendingRows b.rows → AcceptsRun (propose c b m sender p).reply ↔ MayAccept (place_of c b lead) b.rows m p
proposal_accepted c b m sender p lead known up =
    let outcome : List ℕ → Outcome = λ name. decided_outcome b m name p (decide (place_of c b name) b.rows m p) in
    let is : propose c b m sender p ≡ outcome lead = ap (λ o. for_lead o outcome) known in
    let answer = reply_is b m lead p (decide (place_of c b lead) b.rows m p) in
    let exact = accepts_exactly (place_of c b lead) b.rows m p up in
    ((λ x. exact.0 (answer.0 (subst (λ o. AcceptsRun o.reply) is x))), (λ may. subst (λ o. AcceptsRun o.reply) (sym is) (answer.1 (exact.1 may))))

-- a proposal of anybody else isn't
pub stranger_denied : (c : Config) (b : Book) (m sender : ℕ) (p : Proposal) → lead_name c sender p.key ≡ None → ¬ (AcceptsRun (propose c b m sender p).reply)
stranger_denied c b m sender p unknown x =
    let outcome : List ℕ → Outcome = λ name. decided_outcome b m name p (decide (place_of c b name) b.rows m p) in
    let is : propose c b m sender p ≡ for_lead None outcome = ap (λ o. for_lead o outcome) unknown in
    subst (λ o. AcceptsRun o.reply) is x

-- ---- bookings
booked_is : (c : Config) (b : Book) (p : Proposal) (o : Option Denial) → AcceptsRun (booking_outcome c b p o).reply ↔ (o ≡ None)
booked_is c b p None = ((λ x. refl), (λ e. tt))
booked_is c b p (Some denial) = ((λ x. absurd x), (λ e. cc))

module _ (c : Config) (b : Book) (m : ℕ) (class : Class) (priority : ℤ) (start len : ℕ) where
  abbrev last : ℕ
  last = greatest_number c.number 0 b.rows

  -- the proposal of a booking, with the next number
  abbrev pub next_booking : Proposal
  next_booking = booking c (last + 1) class priority start len

  fits_at : (t : Bool) → (last == last_booking) ≡ t → IsAscendingRows b.rows →
      AcceptsRun (cond t (answered (denied_reply (Full Numbers last))) (booked_as c b m next_booking)).reply ↔ ((last ≢ last_booking) × Fits (place_of c b c.name) b.rows m next_booking)
  fits_at true e up = ((λ x. absurd x), (λ x. absurd (x.0 (eqb-true last last_booking e))))
  fits_at false e up =
      let answer = booked_is c b next_booking (denial_of (place_of c b c.name) b.rows m next_booking) in
      let exact = fits_exactly (place_of c b c.name) b.rows m next_booking up in
      ((λ x. (eqb-false last last_booking e, exact.0 (answer.0 x))), (λ x. answer.1 (exact.1 x.1)))

  -- a booking is accepted exactly where there is a number for it and it fits
  pub booking_accepted : IsAscendingRows b.rows → AcceptsRun (book_run c b m class priority start len).reply ↔ ((greatest_number c.number 0 b.rows ≢ last_booking) × Fits (place_of c b c.name) b.rows m next_booking)
  booking_accepted up = fits_at (last == last_booking) refl up

-- no number of a host's bookings is above the greatest
below_greatest : (self : ℕ) (rows : List RunRow) (k : RunKey) (r : RunRow) → find_row rows k ≡ Some r → k.lead ≡ self → k.task ≡ 0 → k.number ≤ greatest_number self 0 rows
below_greatest self [] k r e lead task = cc
below_greatest self (x ∷ xs) k r e lead task = go (is_eq (key_cmp x.key k)) (is_of_task self 0 x) refl refl e (below_greatest self xs k r)
  where
    rest : ℕ
    rest = greatest_number self 0 xs

    own : x.key ≡ k → is_of_task self 0 x ≡ true
    own same = and_from (x.key.lead == self) (x.key.task == 0) ((Decides-eqb x.key.lead self).1 (ap (λ j. j.lead) same ∙ lead)) ((Decides-eqb x.key.task 0).1 (ap (λ j. j.task) same ∙ task))

    go : (same mine : Bool) → is_eq (key_cmp x.key k) ≡ same → is_of_task self 0 x ≡ mine → cond same (Some x) (find_row xs k) ≡ Some r → (find_row xs k ≡ Some r → k.lead ≡ self → k.task ≡ 0 → k.number ≤ rest) → k.number ≤ cond mine (max x.key.number rest) rest
    go true true f g h later = let number : x.key.number ≡ k.number = ap (λ j. j.number) (key_is x.key k f) in omega (arith, number)
    go true false f g h later = let never : true ≡ false = sym (own (key_is x.key k f)) ∙ g in cc
    go false true f g h later = let le = later h lead task in omega (arith, le)
    go false false f g h later = later h lead task

-- the key of the next booking is new
pub booking_new : (c : Config) (b : Book) (class : Class) (priority : ℤ) (start len : ℕ) → find_row b.rows (booking c (greatest_number c.number 0 b.rows + 1) class priority start len).key ≡ None
booking_new c b class priority start len = go (find_row b.rows key) refl
  where
    key : RunKey
    key = booking_key c.number (greatest_number c.number 0 b.rows + 1)

    go : (o : Option RunRow) → find_row b.rows key ≡ o → o ≡ None
    go None e = refl
    go (Some r) e = let le = below_greatest c.number b.rows key r e refl refl in absurd (omega (arith, le))

-- ---- what is accepted now is granted
last_at : (l : Limits) (ls : List Limits) → slice_get (l ∷ ls) (length ls) ≡ Some (last_limits l ls)
last_at l [] = refl
last_at l (x ∷ xs) = last_at x xs

epoch_limits : (c : Config) (b : Book) (es : List Limits) → b.epochs ≡ es → limits_of_epoch c b (length es) ≡ Some (last_limits c.limits es)
epoch_limits c b [] e = refl
epoch_limits c b (x ∷ xs) e = ap (λ l. slice_get l (length xs)) e ∙ last_at x xs

-- the limits in force are those of the latest epoch
pub latest_limits : (c : Config) (b : Book) → limits_of_epoch c b (latest_epoch b) ≡ Some (limits_in c b)
latest_limits c b = epoch_limits c b b.epochs refl

new_none : (o : Option Denial) → decided_new o ≡ New → o ≡ None
new_none None e = refl
new_none (Some d) e = cc

known_not_new : (r : RunRow) (o : Option Closing) → ¬ (decided_known r o ≡ New)
known_not_new r None e = cc
known_not_new r (Some c) e = cc

module _ (place : Place) (rows : List RunRow) (m : ℕ) (p : Proposal) where
  new_at : (o : Option RunRow) → decided_at place rows m p o ≡ New → denial_of place rows m p ≡ None
  new_at None e = new_none (denial_of place rows m p) e
  new_at (Some r) e = go (same_content r p (participants p.test place.lead)) e
    where
      go : (b : Bool) → cond b (decided_known r r.closed) (Denied (Differs (kept_proposal r) p)) ≡ New → denial_of place rows m p ≡ None
      go true f = absurd (known_not_new r r.closed f)
      go false f = cc

module _ (c : Config) (b : Book) (m : ℕ) (up : IsAscendingRows b.rows) where
  decision_granted : (lead : List ℕ) (p : Proposal) (d : Decision) → decide (place_of c b lead) b.rows m p ≡ d → AllByRecursion (AcceptsGranted c b) (decided_outcome b m lead p d).list
  decision_granted lead p New e =
      let fit = (fits_exactly (place_of c b lead) b.rows m p up).0 (new_at (place_of c b lead) b.rows m p (find_row b.rows p.key) e) in
      ((refl, (limits_in c b, latest_limits c b, fit.granted)), tt)
  decision_granted lead p (Known accepted) e = tt
  decision_granted lead p (Denied denial) e = tt

  led_granted : (p : Proposal) (o : Option (List ℕ)) → AllByRecursion (AcceptsGranted c b) (for_lead o (λ lead. decided_outcome b m lead p (decide (place_of c b lead) b.rows m p))).list
  led_granted p None = tt
  led_granted p (Some lead) = decision_granted lead p (decide (place_of c b lead) b.rows m p) refl

  -- a proposal is accepted under the latest epoch, whose limits grant it
  pub proposal_granted : (sender : ℕ) (p : Proposal) → AllByRecursion (AcceptsGranted c b) (propose c b m sender p).list
  proposal_granted sender p = led_granted p (lead_name c sender p.key)

  outcome_granted : (p : Proposal) (o : Option Denial) → denial_of (place_of c b c.name) b.rows m p ≡ o → AllByRecursion (AcceptsGranted c b) (booking_outcome c b p o).list
  outcome_granted p None e = let fit = (fits_exactly (place_of c b c.name) b.rows m p up).0 e in ((refl, (limits_in c b, latest_limits c b, fit.granted)), (tt, tt))
  outcome_granted p (Some denial) e = tt

  numbered_granted : (p : Proposal) (full : Denial) (t : Bool) → AllByRecursion (AcceptsGranted c b) (cond t (answered (denied_reply full)) (booked_as c b m p)).list
  numbered_granted p full true = tt
  numbered_granted p full false = outcome_granted p (denial_of (place_of c b c.name) b.rows m p) refl

  -- and so is a booking
  pub booking_granted : (class : Class) (priority : ℤ) (start len : ℕ) → AllByRecursion (AcceptsGranted c b) (book_run c b m class priority start len).list
  booking_granted class priority start len =
      let last = greatest_number c.number 0 b.rows in numbered_granted (booking c (last + 1) class priority start len) (Full Numbers last) (last == last_booking)

  -- and a run that its lead plans
  module _ (r : RunRow) (found : find_row b.rows r.key ≡ Some r) where
    objected_granted : (start : ℕ) (tool : List ℕ) (o : Option Denial) → objection c.installed (limits_in c b) b.rows m (planned_proposal r start tool) ≡ o → AcceptsGranted c b (unless_objected c b (planned_proposal r start tool) o)
    objected_granted start tool None e =
        let p = planned_proposal r start tool in
        (refl, record { row = r; found = found; granted = (limits_in c b, latest_limits c b, unobjected_granted (place_of c b c.name) b.rows m p up e) })
    objected_granted start tool (Some denial) e = tt

    of_plan_granted : (planned : Plan) → AcceptsGranted c b (change_of_plan c b m r planned)
    of_plan_granted (At start tool) = objected_granted start tool (objection c.installed (limits_in c b) b.rows m (planned_proposal r start tool)) refl
    of_plan_granted NoTool = tt
    of_plan_granted NoSlot = tt

    asked_granted : (o : Option Range) → AcceptsGranted c b (plan_asked c b m r o)
    asked_granted None = tt
    asked_granted (Some w) = of_plan_granted (plan m (wanted_tools (find_task b.tasks r.key.task)) r (own_answer c b m r w))

    pub plan_granted : (x : Change) → plan_run c m b r ≡ Some x → AcceptsGranted c b x
    plan_granted x e = go (is_answered r) e
      where
        go : (t : Bool) → cond t (Some (plan_asked c b m r r.question)) None ≡ Some x → AcceptsGranted c b x
        go true f = let same : plan_asked c b m r r.question ≡ x = cc in subst (AcceptsGranted c b) same (asked_granted r.question)
        go false f = cc
