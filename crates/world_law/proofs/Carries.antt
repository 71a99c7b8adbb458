-- What a row carries on through every change, whatever becomes of its archives.
use Rattle.std.proofs.Common.{◌≡◌, ℕ, Bool, true, false, cond, List, [], Option, Some, None, option_map, refl, subst}
use Rattle.ps_time.specs.declared.key.RunKey.{RunKey}
use Rattle.run_states.specs.Conflict.{in_conflict}
use Rattle.run_states.specs.Life.{closed_by, lapse_of, settled_row, settled_rows}
use Rattle.run_states.specs.Preemption.{Incoming, give_way}
use Rattle.run_states.specs.Rows.{find_row}
use Rattle.run_states.specs.declared.row.RunRow.{RunRow}
use Rattle.run_states.specs.declared.why.Closing.{Closing}
use Rattle.host_model.specs.Effect.{effect, has_key}
use Rattle.host_model.specs.Grown.{Evolves}
use Rattle.host_model.specs.declared.change.Change.{Change}
use Rattle.host_model.specs.declared.change.Change.TheVariants.{Tried}
use Rattle.host_model.specs.declared.task_row.TaskRow.{TaskRow}
use Rattle.host_model.proofs.Evolve.{AllEvolve-refl, ArchiveEvolves-refl, Evolves-refl, Evolves-trans}
use Rattle.host_model.proofs.GrownLemmas.{settled_evolves}
use Rattle.host_model.proofs.Standing.{changed_evolves, changed_row, find_row-map}

-- the row without its archives
abbrev pub plain : RunRow → RunRow
plain r = record r { archives = [] }

-- all but the archives evolved
abbrev pub Carries : RunRow → RunRow → Type 0
Carries r s = Evolves (plain r) (plain s)

pub carries_refl : (r : RunRow) → Carries r r
carries_refl r = Evolves-refl (plain r)

pub carries_trans : (r s t : RunRow) → Carries r s → Carries s t → Carries r t
carries_trans r s t f g = Evolves-trans (plain r) (plain s) (plain t) f g

pub of_evolves : (r s : RunRow) → Evolves r s → Carries r s
of_evolves r s e = record {
  key = e.key;
  test = e.test;
  priority = e.priority;
  participants = e.participants;
  asker = e.asker;
  tool = e.tool;
  interval = e.interval;
  accepted = e.accepted;
  confirmed = e.confirmed;
  started = e.started;
  ended = e.ended;
  material = e.material;
  closed = e.closed;
  question = e.question;
  asked = e.asked;
  others = e.others;
  merged = e.merged;
  archives = AllEvolve-refl _ ArchiveEvolves-refl [];
}

-- ---- one change of one row
tried_carries : (m : ℕ) (tasks : List TaskRow) (k : RunKey) (index : ℕ) (state : _) (r : RunRow) (b : Bool) → Carries r (cond b (effect m tasks (Tried k index state) r) r)
tried_carries m tasks k index state r true = carries_refl r
tried_carries m tasks k index state r false = carries_refl r

pub changed_carries : (m : ℕ) (tasks : List TaskRow) (c : Change) (rows : List RunRow) (r : RunRow) → Carries r (changed_row m tasks c rows r)
changed_carries m tasks (Tried k index state) rows r = tried_carries m tasks k index state r (has_key r.key (Some k))
changed_carries m tasks c rows r = of_evolves r (changed_row m tasks c rows r) (changed_evolves m tasks c rows r (λ same. tt))

-- ---- rows that differ in their closing alone
pub record Alike (q r : RunRow) : Type 0 where
  pub key : r.key ≡ q.key
  pub test : r.test ≡ q.test
  pub priority : r.priority ≡ q.priority
  pub participants : r.participants ≡ q.participants
  pub asker : r.asker ≡ q.asker
  pub tool : r.tool ≡ q.tool
  pub interval : r.interval ≡ q.interval
  pub accepted : r.accepted ≡ q.accepted
  pub confirmed : r.confirmed ≡ q.confirmed
  pub started : r.started ≡ q.started
  pub ended : r.ended ≡ q.ended
  pub question : r.question ≡ q.question
  pub asked : r.asked ≡ q.asked
  pub others : r.others ≡ q.others

pub alike_refl : (q : RunRow) → Alike q q
alike_refl q = record {
  key = refl;
  test = refl;
  priority = refl;
  participants = refl;
  asker = refl;
  tool = refl;
  interval = refl;
  accepted = refl;
  confirmed = refl;
  started = refl;
  ended = refl;
  question = refl;
  asked = refl;
  others = refl;
}

either_alike : (b : Bool) (q r s : RunRow) → Alike q r → Alike q s → Alike q (cond b r s)
either_alike true q r s f g = f
either_alike false q r s f g = g

closed_alike : (o : Option Closing) (r : RunRow) → Alike r (closed_by o r)
closed_alike None r = alike_refl r
closed_alike (Some c) r = record {
  key = refl;
  test = refl;
  priority = refl;
  participants = refl;
  asker = refl;
  tool = refl;
  interval = refl;
  accepted = refl;
  confirmed = refl;
  started = refl;
  ended = refl;
  question = refl;
  asked = refl;
  others = refl;
}

pub settled_alike : (m : ℕ) (r : RunRow) → Alike r (settled_row m r)
settled_alike m r = closed_alike (lapse_of m r) r

pub way_alike : (m : ℕ) (o : Option Incoming) (r : RunRow) → Alike r (give_way m o r)
way_alike m None r = alike_refl r
way_alike m (Some i) r = either_alike (in_conflict i.key i.class i.interval r) r _ r (closed_alike (Some _) r) (alike_refl r)

pub settled_carries : (m : ℕ) (r : RunRow) → Carries r (settled_row m r)
settled_carries m r = of_evolves r (settled_row m r) (settled_evolves m r)

-- ---- rows that a key finds
abbrev pub RowGrown : Option RunRow → Option RunRow → Type 0
RowGrown o p = (r : RunRow) → o ≡ Some r → (s : RunRow) × (p ≡ Some s) × Carries r s

pub grown_refl : (o : Option RunRow) → RowGrown o o
grown_refl o r e = (r, e, carries_refl r)

pub grown_trans : (o p q : Option RunRow) → RowGrown o p → RowGrown p q → RowGrown o q
grown_trans o p q f g r e = let s = f r e in let t = g s.0 s.1 in (t.0, t.1, carries_trans r s.0 t.0 s.2 t.2)

-- the two rows of a growth
pub grown_to : (o p : Option RunRow) (r s : RunRow) → RowGrown o p → o ≡ Some r → p ≡ Some s → Carries r s
grown_to o p r s f e g = let t = f r e in let same : t.0 ≡ s = cc (t.1, g) in subst (λ x. Carries r x) same t.2

-- what a row has that was settled, the row had before
pub settled_find : (m : ℕ) (rows : List RunRow) (k : RunKey) → find_row (settled_rows m rows) k ≡ option_map (settled_row m) (find_row rows k)
settled_find m rows k = find_row-map (settled_row m) (λ r. (settled_evolves m r).key) rows k
