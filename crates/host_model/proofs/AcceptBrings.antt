-- What an acceptance brings is lawful: of a proposal that nothing speaks against, and so of a booking.
use Rattle.std.specs.List.{AllByRecursion}
use Rattle.std.specs.Prelude.{◌&&◌, ◌==◌, IsNone, IsSome, bytes_eq, find, nat_le, nat_lt}
use Rattle.std.proofs.Common.{◌≡◌, ℕ, Bool, true, false, cond, not, List, [], ◌∷◌, length, Option, Some, None, is_some, option_map, refl, subst, arith}
use Rattle.std.proofs.lemmas.Bool.Decides.{nat_tests}
use Rattle.std.proofs.lemmas.List.Elements.{recursion_from_All}
use Rattle.ps_time.specs.Name.{is_name}
use Rattle.ps_time.specs.Numbers.{most_participants, most_rows}
use Rattle.ps_time.specs.declared.key.RunKey.{RunKey}
use Rattle.ps_time.proofs.PictureLemmas.{and_true}
use Rattle.plugin_core.specs.Bounds.{IsTest}
use Rattle.plugin_tool.specs.Choice.{is_tool_for, tool_of_text}
use Rattle.plugin_core.specs.Kind.{test_kind}
use Rattle.plugin_core.specs.Participants.{HasParticipants, is_named, participants}
use Rattle.plugin_core.specs.TestSpec.{test_class}
use Rattle.plugin_core.specs.declared.kind.TestKind.{TestKind}
use Rattle.plugin_core.specs.declared.test_spec.TestSpec.{TestSpec}
use Rattle.plugin_core.specs.declared.test_spec.TestSpec.TheVariants.{Idle, Idleex, Idlebgm, Idlemany, Simplestream}
use Rattle.run_states.specs.Conflict.{in_conflict}
use Rattle.run_states.specs.LawfulRow.{IsProposal}
use Rattle.run_states.specs.Life.{first_there}
use Rattle.run_states.specs.Preemption.{conflicts, firm_conflict, yields}
use Rattle.run_states.specs.ResultBytes.{result_bytes}
use Rattle.run_states.specs.Rows.{find_row}
use Rattle.run_states.specs.declared.proposal.Proposal.{Proposal}
use Rattle.run_states.specs.declared.row.RunRow.{RunRow}
use Rattle.run_states.specs.declared.why.Closing.{Closing}
use Rattle.run_states.specs.declared.why.Denial.{Denial}
use Rattle.host_model.specs.Book.{Book, latest_epoch, limits_in}
use Rattle.host_model.specs.Conditions.{IsConfig, IsPeer}
use Rattle.host_model.specs.Fits.{conflict_denial, denial_of, full_denial, has_tool, limits_denial, objection, place_of, unless, verdict_of, wanted_span}
use Rattle.host_model.specs.Propose.{decide, decided_at, decided_known, decided_new, find_peer, lead_name, propose}
use Rattle.host_model.specs.declared.change.Change.TheVariants.{Accepted}
use Rattle.host_model.specs.declared.config.Config.{Config}
use Rattle.host_model.specs.declared.config.Peer.{Peer}
use Rattle.host_model.specs.declared.part.Decision.TheVariants.{New, Denied as denied_decision}
use Rattle.host_model.proofs.Brings.{Brings, BringsLawful, HasRoom}
use Rattle.host_model.proofs.NextKeys.{found_kept}
use Rattle.host_model.proofs.StepAlong.{propose_along}
use Rattle.host_model.proofs.StepCan.{is_false, other_lead}
use Rattle.host_model.proofs.WalkLemmas.{AllAlong}
use Rattle.host_model.proofs.Wishes.{given_if, mapped}

-- ---- participants of a lawful test
list_and : (t : Bool) → t ≡ true → (t && true) ≡ true
list_and true e = refl
list_and false e = cc

pub has_participants : (test : TestSpec) (lead : List ℕ) → IsTest test → is_name lead ≡ true → HasParticipants (participants test lead)
has_participants (Idle sleep) lead is named = record { some = omega arith; few = omega arith; named = list_and (is_name lead) named }
has_participants (Idleex sleep) lead is named = record { some = omega arith; few = omega arith; named = list_and (is_name lead) named }
has_participants (Idlebgm sleep interval) lead is named = record { some = omega arith; few = omega arith; named = list_and (is_name lead) named }
has_participants (Idlemany sleep hosts) lead is named =
    let low = and_true (nat_le 2 (length hosts)) _ is.1.differ in
    let high = and_true (nat_le (length hosts) most_participants) _ low.1 in
    record { some = grind (arith, nat_tests); few = grind (arith, nat_tests); named = is.1.names }
has_participants (Simplestream dest material dawdle timeout) lead is named = go (bytes_eq dest lead)
  where
    both : (s t : Bool) → s ≡ true → t ≡ true → (s && (t && true)) ≡ true
    both true true e f = refl
    both true false e f = cc
    both false t e f = cc

    go : (b : Bool) → HasParticipants (cond b (lead ∷ []) (lead ∷ dest ∷ []))
    go true = record { some = omega arith; few = omega arith; named = list_and (is_name lead) named }
    go false = record { some = omega arith; few = omega arith; named = both (is_name lead) (is_name dest) named is.dest }

-- ---- nothing speaks against a proposal
pub neither : (o p : Option Denial) → first_there o p ≡ None → (o ≡ None) × (p ≡ None)
neither None p e = (refl, e)
neither (Some a) p e = cc

pub held : (t : Bool) (denial : Denial) → unless t denial ≡ None → t ≡ true
held true denial e = refl
held false denial e = cc

pub no_conflict : (o : Option RunRow) → conflict_denial o ≡ None → o ≡ None
no_conflict None e = refl
no_conflict (Some r) e = cc

pub tool_there : (kind : TestKind) (name : List ℕ) → is_tool_for kind name ≡ true → IsSome (tool_of_text name)
tool_there kind name holds =
    let cases = elim (tool_of_text name) as (λ o. tool_of_text name ≡ o → IsSome o) [
      | None ↦ λ is. let bad = rw is at holds in cc
      | Some t ↦ λ is. refl
    ] in
    cases refl

none_found : (p : RunRow → Bool) (rows : List RunRow) → find p rows ≡ None → AllByRecursion (λ r. p r ≡ false) rows
none_found p [] e = tt
none_found p (x ∷ xs) e = go (p x) refl e (none_found p xs)
  where
    go : (b : Bool) → p x ≡ b → cond b (Some x) (find p xs) ≡ None → (find p xs ≡ None → AllByRecursion (λ r. p r ≡ false) xs) → (p x ≡ false) × AllByRecursion (λ r. p r ≡ false) xs
    go true is e ih = cc
    go false is e ih = (is, ih e)

-- what is in conflict can be preempted, and so isn't started
pub way_free : (rows : List RunRow) (m : ℕ) (p : Proposal) → firm_conflict p.key (test_class p.test) (wanted_span p) p.priority m rows ≡ None → (r : RunRow) → find_row rows r.key ≡ Some r → in_conflict p.key (test_class p.test) (wanted_span p) r ≡ true → IsNone r.started
way_free rows m p none r at conflict =
    let firm : not (yields p.priority m r) ≡ false = found_kept (λ s. not (yields p.priority m s) ≡ false) (in_conflict p.key (test_class p.test) (wanted_span p)) r.key r rows (none_found (λ s. not (yields p.priority m s)) (conflicts p.key (test_class p.test) (wanted_span p) rows) none) at conflict in
    let both = and_true _ _ (gives (yields p.priority m r) firm) in
    is_false (is_some r.started) (and_true (not (is_some r.started)) _ both.1).0
  where
    gives : (t : Bool) → not t ≡ false → t ≡ true
    gives true e = refl
    gives false e = cc

pub room_of : (b : Book) → full_denial b.rows (result_bytes b.rows) ≡ None → HasRoom b
room_of b e = let room = held (nat_lt (length b.rows) most_rows) _ (neither _ _ e).0 in grind (arith, nat_tests)

-- an acceptance of what fits
pub accepted_brings : (c : Config) (m : ℕ) (b : Book) (lead : List ℕ) (p : Proposal) → denial_of (place_of c b lead) b.rows m p ≡ None → IsProposal p → is_name lead ≡ true →
    (p.key.lead ≡ c.number → (p.key.task ≡ 0) × (length (participants p.test lead) ≡ 1)) → Brings c.number m b (Accepted p (participants p.test lead) (latest_epoch b))
accepted_brings c m b lead p fits is named own =
    let taken = neither (unless (is_named c.name (participants p.test lead)) _) _ fits in
    let full = neither (objection c.installed (limits_in c b) b.rows m p) (full_denial b.rows (result_bytes b.rows)) taken.1 in
    let tool = neither (unless (has_tool c.installed p) _) _ full.0 in
    let start = neither (unless (nat_le m p.start) _) _ tool.1 in
    let limits = neither (limits_denial (verdict_of (limits_in c b) p)) _ start.1 in
    let firm = no_conflict (firm_conflict p.key (test_class p.test) (wanted_span p) p.priority m b.rows) limits.1 in
    let runs = and_true (is_named p.tool c.installed) (is_tool_for (test_kind p.test) p.tool) (held (has_tool c.installed p) _ tool.0) in (
      record { proposal = is; tool = tool_there (test_kind p.test) p.tool runs.1; participants = has_participants p.test lead is.test named; lead = own },
      room_of b full.1,
      record { known = omega arith; way = way_free b.rows m p firm },
    )

-- ---- a proposal
new_fits : (c : Config) (m : ℕ) (b : Book) (lead : List ℕ) (p : Proposal) → decide (place_of c b lead) b.rows m p ≡ New → denial_of (place_of c b lead) b.rows m p ≡ None
new_fits c m b lead p new = go (find_row b.rows p.key) new
  where
    known : (r : RunRow) (o : Option Closing) → decided_known r o ≡ New → ⊥
    known r None e = cc
    known r (Some d) e = cc

    same : (t : Bool) (r : RunRow) (d : Denial) → cond t (decided_known r r.closed) (denied_decision d) ≡ New → ⊥
    same true r d e = known r r.closed e
    same false r d e = cc

    fresh : (o : Option Denial) → decided_new o ≡ New → o ≡ None
    fresh None e = refl
    fresh (Some d) e = cc

    go : (o : Option RunRow) → decided_at (place_of c b lead) b.rows m p o ≡ New → denial_of (place_of c b lead) b.rows m p ≡ None
    go None e = fresh (denial_of (place_of c b lead) b.rows m p) e
    go (Some r) e = absurd (same _ r _ e)

peer_named : (number : ℕ) (peers : List Peer) (p : Peer) → AllByRecursion IsPeer peers → find_peer peers number ≡ Some p → is_name p.name ≡ true
peer_named number [] p all e = cc
peer_named number (q ∷ qs) p all e = go (q.number == number) e (peer_named number qs p all.1)
  where
    go : (b : Bool) → cond b (Some q) (find_peer qs number) ≡ Some p → (find_peer qs number ≡ Some p → is_name p.name ≡ true) → is_name p.name ≡ true
    go true e ih = let is : q ≡ p = cc in subst (λ x. is_name x.name ≡ true) is all.0.name
    go false e ih = ih e

pub lead_named : (c : Config) (sender : ℕ) (k : RunKey) (lead : List ℕ) → IsConfig c → lead_name c sender k ≡ Some lead → is_name lead ≡ true
lead_named c sender k lead config named =
    let g = given_if (k.lead == sender) (option_map (λ p. p.name) (find_peer c.peers sender)) lead named in
    let p = mapped (λ p. p.name) (find_peer c.peers sender) lead g.1 in
    subst (λ n. is_name n ≡ true) p.2 (peer_named sender c.peers p.0 (recursion_from_All IsPeer c.peers config.peers) p.1)

pub propose_brings : (c : Config) (m : ℕ) (b : Book) (sender : ℕ) (p : Proposal) → IsConfig c → IsProposal p → AllAlong (BringsLawful c.number m) m b (propose c b m sender p).list
propose_brings c m b sender p config is = propose_along (BringsLawful c.number m) m c b sender p (λ lead at new now lawful.
    accepted_brings c m b lead p (new_fits c m b lead p new) is (lead_named c sender p.key lead config at) (λ own. absurd (other_lead c sender p.key lead config at own)))
