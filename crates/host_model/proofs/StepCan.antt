-- The changes of each step can be applied: what they name is there, what they add isn't, and the life of a row has its step.
use Rattle.std.specs.Cmp.Derive.{both_true}
use Rattle.std.specs.List.{list_any}
use Rattle.std.specs.Prelude.{◌==◌, ◌||◌, IsNone, IsSome, ℤ}
use Rattle.std.proofs.Common.{◌≡◌, ◌+◌, ℕ, Bool, true, false, cond, not, List, [], ◌∷◌, map, Option, Some, None, is_some, option_map, slice_get, refl, sym, subst, ap, ◌∙◌, arith}
use Rattle.std.proofs.lemmas.Bool.Decides.{nat_tests}
use Rattle.ps_time.specs.declared.class.Class.{Class}
use Rattle.ps_time.specs.declared.key.RunKey.{RunKey}
use Rattle.ps_time.proofs.PictureLemmas.{and_true}
use Rattle.plugin_core.specs.Participants.{participants}
use Rattle.run_states.specs.Rows.{find_row, put_row}
use Rattle.run_states.specs.TaskRows.{greatest_number}
use Rattle.run_states.specs.declared.answer.Answer.{Answer}
use Rattle.run_states.specs.declared.answer.Other.{Other}
use Rattle.run_states.specs.declared.proposal.Proposal.{Proposal}
use Rattle.run_states.specs.declared.row.RunRow.{RunRow}
use Rattle.run_states.specs.declared.why.Closing.{Closing}
use Rattle.run_states.specs.declared.why.Denial.{Denial}
use Rattle.run_states.specs.declared.why.Why.{Why}
use Rattle.run_states.specs.declared.why.Why.TheVariants.{Canceled}
use Rattle.host_model.specs.Confirm.{confirm, drop_run}
use Rattle.host_model.specs.Collect.{hear_material}
use Rattle.host_model.specs.LawfulRow.{IsHostRow}
use Rattle.host_model.specs.declared.order.Order.{Order}
use Rattle.host_model.specs.declared.order.PeerAnswer.{PeerAnswer}
use Rattle.limit_apply.specs.Limits.{LimitsConfig as Limits}
use Rattle.host_model.specs.Epochs.{open_host, set_limits}
use Rattle.task_spec.specs.declared.task.Task.{Task}
use Rattle.host_model.specs.Post.{cancel, post}
use Rattle.host_model.specs.Archives.{try_archive}
use Rattle.host_model.specs.Apply.{apply}
use Rattle.host_model.specs.Book.{Book, latest_epoch}
use Rattle.host_model.specs.Booking.{book_run, booking_key}
use Rattle.host_model.specs.Conditions.{IsConfig}
use Rattle.host_model.specs.Fits.{Place, place_of}
use Rattle.host_model.specs.Heard.{close_if, completes, fact_of, has_told, hear, keep_unless, move_of, other_at, told_move}
use Rattle.host_model.specs.Lawful.{Lawful}
use Rattle.host_model.specs.MayFollow.{CanApply}
use Rattle.host_model.specs.NewRow.{accepted_row}
use Rattle.host_model.specs.Propose.{decide, decided_at, decided_known, find_peer, lead_name, propose}
use Rattle.host_model.specs.declared.change.Change.{Change}
use Rattle.host_model.specs.declared.change.Change.TheVariants.{Accepted}
use Rattle.host_model.specs.declared.config.Config.{Config}
use Rattle.host_model.specs.declared.config.Peer.{Peer}
use Rattle.host_model.specs.declared.lead.LeadMove.TheVariants.{Keep, KeepAndConfirm, Close as close_move, Nothing}
use Rattle.host_model.specs.declared.lead.Meaning.{Meaning}
use Rattle.host_model.specs.declared.part.Decision.TheVariants.{New, Denied as denied_decision}
use Rattle.host_model.specs.declared.task_row.TaskRow.{TaskRow}
use Rattle.host_model.proofs.Keyed.{at-put, key_same}
use Rattle.host_model.proofs.NewNumbers.{above_new}
use Rattle.host_model.proofs.Placed.{find_row-key, find_row-own}
use Rattle.host_model.proofs.RowFacts.{accepted_there, booked_row, lawful_at, may_close, unstarted, with_row}
use Rattle.host_model.proofs.Standing.{changed_key, changed_row, find_row-map}
use Rattle.host_model.proofs.StepAlong.{book_along, cancel_along, confirm_along, drop_along, hear_along, limits_along, material_along, open_along, post_along, propose_along, tried_along}
use Rattle.host_model.proofs.WalkLemmas.{AllAlong, find_task-own}
use Rattle.host_model.proofs.Wishes.{cancel_granted, given_if, mapped, none_of, restart_granted}
use Rattle.host_model.specs.declared.lead.Meaning.TheVariants as meaning
use Rattle.run_states.specs.declared.answer.Answer.TheVariants as answer

-- where the book is lawful and stands at m
abbrev pub CanNow : ℕ → ℕ → Book → Change → Type 0
CanNow self m b c = b.moment ≡ m → Lawful self b → CanApply b c

-- ---- a participant
-- no peer has the host's own number
peer_there : (number : ℕ) (peers : List Peer) (p : Peer) → find_peer peers number ≡ Some p → list_any (λ other. other == number) (map (λ q. q.number) peers) ≡ true
peer_there number [] p e = cc
peer_there number (q ∷ qs) p e = go (q.number == number) e (peer_there number qs p)
  where
    go : (b : Bool) → cond b (Some q) (find_peer qs number) ≡ Some p → (find_peer qs number ≡ Some p → list_any (λ other. other == number) (map (λ q. q.number) qs) ≡ true) → (b || list_any (λ other. other == number) (map (λ q. q.number) qs)) ≡ true
    go true e ih = refl
    go false e ih = ih e

pub is_false : (t : Bool) → not t ≡ true → t ≡ false
is_false true e = cc
is_false false e = refl

-- who leads a run here and sends is another host
pub other_lead : (c : Config) (sender : ℕ) (k : RunKey) (lead : List ℕ) → IsConfig c → lead_name c sender k ≡ Some lead → k.lead ≡ c.number → ⊥
other_lead c sender k lead config named own =
    let g = given_if (k.lead == sender) (option_map (λ p. p.name) (find_peer c.peers sender)) lead named in
    let p = mapped (λ p. p.name) (find_peer c.peers sender) lead g.1 in
    let sent : sender ≡ c.number = grind (arith, nat_tests) in
    let there : list_any (λ other. other == c.number) (map (λ q. q.number) c.peers) ≡ true = peer_there c.number c.peers p.0 (subst (λ n. find_peer c.peers n ≡ Some p.0) sent p.1) in
    let none = and_true (not (list_any (λ other. other == c.number) (map (λ q. q.number) c.peers))) _ config.numbers in
    let gone : list_any (λ other. other == c.number) (map (λ q. q.number) c.peers) ≡ false = is_false _ none.0 in
    cc

new_key : (place : Place) (rows : List RunRow) (m : ℕ) (p : Proposal) → decide place rows m p ≡ New → IsNone (find_row rows p.key)
new_key place rows m p new = go (find_row rows p.key) new
  where
    known : (r : RunRow) (o : Option Closing) → decided_known r o ≡ New → ⊥
    known r None e = cc
    known r (Some c) e = cc

    same : (t : Bool) (r : RunRow) (d : Denial) → cond t (decided_known r r.closed) (denied_decision d) ≡ New → ⊥
    same true r d e = known r r.closed e
    same false r d e = cc

    go : (o : Option RunRow) → decided_at place rows m p o ≡ New → IsNone o
    go None e = refl
    go (Some r) e = absurd (same _ r _ e)

module _ (c : Config) (m : ℕ) (b : Book) where
  abbrev P : Book → Change → Type 0
  P = CanNow c.number m

  pub propose_can : (sender : ℕ) (p : Proposal) → AllAlong P m b (propose c b m sender p).list
  propose_can sender p = propose_along P m c b sender p (λ lead at new now lawful. new_key (place_of c b lead) b.rows m p new)

  pub confirm_can : (sender : ℕ) (k : RunKey) → IsConfig c → AllAlong P m b (confirm c b m sender k).list
  confirm_can sender k config = confirm_along P m c b sender k (λ lead r at found unclosed now lawful.
      let is : r.key ≡ k = find_row-key b.rows k r found in
      let accepted : IsSome r.accepted = accepted_there c.number b.tasks b.moment r (lawful_at c.number b lawful k r found) (λ own. other_lead c sender k lead config at (ap (λ j. j.lead) (sym is) ∙ own)) in
      with_row b r.key _ r (find_row-own b.rows k r found) (both_true accepted (ap (λ o. not (is_some o)) unclosed)))

  pub drop_can : (sender : ℕ) (k : RunKey) → AllAlong P m b (drop_run c b sender k).list
  drop_can sender k = drop_along P m c b sender k (λ r found booked fresh now lawful.
      with_row b r.key _ r (find_row-own b.rows k r found) (may_close Canceled r fresh (booked_row r booked).1))

  pub material_can : (sender : ℕ) (k : RunKey) → AllAlong P m b (hear_material c b sender k).list
  material_can sender k = material_along P m c b sender k (λ r found active now lawful. ap is_some (find_row-own b.rows k r found))

-- ---- a lead
closes_if : (t : Bool) (why is : Why) → close_if t is ≡ close_move why → t ≡ true
closes_if true why is e = refl
closes_if false why is e = cc

-- what a participant told closes no row
pub told_keeps : (r : RunRow) (place : ℕ) (o : Other) (told : Answer) (why : Why) → told_move r place o told ≡ close_move why → ⊥
told_keeps r place o told why e = go told e
  where
    kept : (t : Bool) → keep_unless t ≡ close_move why → ⊥
    kept true e = cc
    kept false e = cc

    heard : (t u : Bool) → cond t Nothing (cond u KeepAndConfirm Keep) ≡ close_move why → ⊥
    heard true u e = cc
    heard false true e = cc
    heard false false e = cc

    go : (told : Answer) → told_move r place o told ≡ close_move why → ⊥
    go (answer.Free free) e = kept (is_some o.free) e
    go answer.Accepted e = heard o.accepted (completes r place) e
    go (answer.Acknowledged what) e = kept (has_told what o) e
    go (answer.Result result) e = kept (is_some o.heard) e

-- what closes a row of a lead finds it open
closes_open : (self : ℕ) (tasks : List TaskRow) (m : ℕ) (r : RunRow) (place : ℕ) (o : Other) (said : Meaning) (why : Why) → IsHostRow self tasks m r → move_of r place o said ≡ close_move why → (r.started ≡ None) × (r.closed ≡ None)
closes_open self tasks m r place o (meaning.Told told) why row e = absurd (told_keeps r place o told why e)
closes_open self tasks m r place o (meaning.Denied denial) why row e =
    let both = and_true (not (is_some r.confirmed)) (not (is_some r.closed)) (closes_if _ why _ e) in
    (unstarted r row.row.life (is_false _ both.0), none_of r.closed both.1)
closes_open self tasks m r place o meaning.Lost why row e =
    let both = and_true (not (is_some r.started)) (not (is_some r.closed)) (closes_if _ why _ e) in
    (none_of r.started both.0, none_of r.closed both.1)
closes_open self tasks m r place o meaning.Nothing why row e = cc

fact_can : (b : Book) (r : RunRow) (place : ℕ) (o : Other) (told : Answer) → find_row b.rows r.key ≡ Some r → other_at r place ≡ Some o → CanApply b (fact_of r.key place told)
fact_can b r place o (answer.Free free) found at = with_row b r.key _ r found (ap is_some at)
fact_can b r place o answer.Accepted found at = with_row b r.key _ r found (ap is_some at)
fact_can b r place o (answer.Acknowledged what) found at = with_row b r.key _ r found (ap is_some at)
fact_can b r place o (answer.Result result) found at = with_row b r.key _ r found (ap is_some at)

module _ (c : Config) (m : ℕ) (b : Book) where
  abbrev Q : Book → Change → Type 0
  Q = CanNow c.number m

  pub hear_can : (order : Order) (said : PeerAnswer) → AllAlong Q m b (hear b order said).list
  hear_can order said = hear_along Q m c b order said
      (λ r o told found asked at is now lawful. fact_can b r order.place o told (find_row-own b.rows order.key r found) at)
      (λ r o why found asked at is now lawful.
      let fresh = closes_open c.number b.tasks b.moment r order.place o _ why (lawful_at c.number b lawful order.key r found) is in
      with_row b r.key _ r (find_row-own b.rows order.key r found) (may_close why r fresh.0 fresh.1))

  pub tried_can : (k : RunKey) (index : ℕ) (good : Bool) (retry : Option ℕ) → AllAlong Q m b (try_archive b m k index good retry).list
  tried_can k index good retry = tried_along Q m c b k index good retry (λ r s a found state archive due now lawful.
      with_row b k _ r found (ap is_some (given_if (is_some r.merged) (slice_get r.archives index) s state).1))

  -- ---- an operator
  pub limits_can : (l : Limits) → AllAlong Q m b (set_limits b l).list
  limits_can l = limits_along Q m c b l (λ short room now lawful. tt)

  pub open_can : AllAlong Q m b (open_host c b m).list
  open_can = open_along Q m c b (λ first now lawful. tt) (λ a r d at e now lawful.
      let g = restart_granted c a r d e in subst (CanApply a) g.1 (with_row a r.key _ r at g.0))

  -- ---- clients
  pub post_can : (task : Task) (requester : List ℕ) → AllAlong Q m b (post c b m task requester).list
  post_can task requester = post_along Q m c b task requester (λ room now lawful. refl)

  pub cancel_can : (serial : ℕ) (requester : List ℕ) → AllAlong Q m b (cancel c b m serial requester).list
  cancel_can serial requester = cancel_along Q m c b serial requester (λ t found fresh now lawful. ap is_some (find_task-own b.tasks serial t found)) (λ number a r d at e now lawful.
      let g = cancel_granted c.number number a r d e in subst (CanApply a) g.2 (with_row a r.key _ r at (may_close Canceled r g.0 g.1)))

-- ---- a booking
-- the row of a run that was accepted just now
accepted_now : (m : ℕ) (b : Book) (p : Proposal) (hosts : List (List ℕ)) (epoch : ℕ) → IsNone (find_row b.rows p.key) → find_row (apply m (Accepted p hosts epoch) b).rows p.key ≡ Some (accepted_row m p hosts)
accepted_now m b p hosts epoch new = go (find_row rows p.key) refl none
  where
    rows : List RunRow
    rows = map (changed_row m b.tasks (Accepted p hosts epoch) b.rows) b.rows

    none : find_row rows p.key ≡ None
    none = find_row-map (changed_row m b.tasks (Accepted p hosts epoch) b.rows) (changed_key m b.tasks (Accepted p hosts epoch) b.rows) b.rows p.key ∙ ap (option_map (changed_row m b.tasks (Accepted p hosts epoch) b.rows)) (nothing (find_row b.rows p.key) new)
      where
        nothing : (o : Option RunRow) → IsNone o → o ≡ None
        nothing None e = refl
        nothing (Some r) e = cc

    go : (o : Option RunRow) → find_row rows p.key ≡ o → o ≡ None → find_row (cond (is_some o) rows (put_row rows (accepted_row m p hosts))) p.key ≡ Some (accepted_row m p hosts)
    go None at e = at-put (λ r. r.key) (accepted_row m p hosts) rows p.key at ∙ ap (λ t. cond t (Some (accepted_row m p hosts)) (find_row rows p.key)) (key_same p.key)
    go (Some r) at e = cc

module _ (c : Config) (m : ℕ) (b : Book) where
  abbrev R : Book → Change → Type 0
  R = CanNow c.number m

  pub book_can : (class : Class) (priority : ℤ) (start len : ℕ) → AllAlong R m b (book_run c b m class priority start len).list
  book_can class priority start len = book_along R m c b class priority start len (λ p is fits.
      let own : p.key ≡ booking_key c.number (greatest_number c.number 0 b.rows + 1) = ap (λ q. q.key) is in
      let new : IsNone (find_row b.rows p.key) = subst (λ k. IsNone (find_row b.rows k)) (sym own) (above_new b.rows (booking_key c.number (greatest_number c.number 0 b.rows + 1)) (omega arith)) in
      let after : Book = apply m (Accepted p (participants p.test c.name) (latest_epoch b)) b in
      let at : find_row after.rows p.key ≡ Some (accepted_row m p (participants p.test c.name)) = accepted_now m b p (participants p.test c.name) (latest_epoch b) new in
      ((λ now lawful. new), ((λ now lawful. with_row after p.key _ (accepted_row m p (participants p.test c.name)) at refl), tt)))
