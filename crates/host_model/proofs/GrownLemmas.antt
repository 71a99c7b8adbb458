-- A book grows from itself, by steps in a row, and as it settles.
use Rattle.std.proofs.Common.{◌≤◌, ℕ, Option, Some, None, option_map, slice_get, refl, ap, ◌∙◌, arith}
use Rattle.run_states.specs.Life.{closed_by, lapse_of, settled_row}
use Rattle.run_states.specs.declared.row.RunRow.{RunRow}
use Rattle.run_states.specs.declared.why.Closing.{Closing}
use Rattle.host_model.specs.Apply.{settled}
use Rattle.host_model.specs.Book.{Book, epoch_of}
use Rattle.host_model.specs.Grown.{Evolves, Grown, TaskEvolves}
use Rattle.host_model.specs.declared.task_row.TaskRow.{TaskRow}
use Rattle.host_model.proofs.EffectEvolves.{close_evolves}
use Rattle.host_model.proofs.Evolve.{Evolves-refl, Evolves-trans, Remains-refl, Remains-trans, rest_up}
use Rattle.host_model.proofs.Standing.{find_row-map}

pub TaskEvolves-refl : (t : TaskRow) → TaskEvolves t t
TaskEvolves-refl t = record { serial = refl; task = refl; asker = refl; posted = refl; closed = Remains-refl t.closed }

pub TaskEvolves-trans : (t u v : TaskRow) → TaskEvolves t u → TaskEvolves u v → TaskEvolves t v
TaskEvolves-trans t u v f g =
    record { serial = g.serial ∙ f.serial; task = g.task ∙ f.task; asker = g.asker ∙ f.asker; posted = g.posted ∙ f.posted; closed = Remains-trans t.closed u.closed v.closed f.closed g.closed }

pub Grown-refl : (b : Book) → Grown b b
Grown-refl b = record {
  moment = omega arith;
  epochs = λ i. Remains-refl (slice_get b.epochs i);
  tasks = λ serial t e. (t, e, TaskEvolves-refl t);
  rows = λ k r e young. record { row = r; found = e; evolves = Evolves-refl r; epoch = Remains-refl (epoch_of b k) };
}

-- a row that stands young in the last book stood young in the one before, since its rest never falls
pub Grown-trans : (a b c : Book) → Grown a b → Grown b c → Grown a c
Grown-trans a b c f g = record {
  moment = omega (arith, f.moment, g.moment);
  epochs = λ i. Remains-trans (slice_get a.epochs i) (slice_get b.epochs i) (slice_get c.epochs i) (f.epochs i) (g.epochs i);
  tasks = λ serial t e. let u = f.tasks serial t e in let v = g.tasks serial u.0 u.1 in (v.0, v.1, TaskEvolves-trans t u.0 v.0 u.2 v.2);
  rows = λ k r e young.
      let s = f.rows k r e (omega (arith, g.moment, young)) in
      let t = g.rows k s.row s.found (omega (arith, young, rest_up r s.row s.evolves)) in
      record { row = t.row; found = t.found; evolves = Evolves-trans r s.row t.row s.evolves t.evolves; epoch = Remains-trans (epoch_of a k) (epoch_of b k) (epoch_of c k) s.epoch t.epoch };
}

-- ---- settling
closed_evolves : (o : Option Closing) (r : RunRow) → Evolves r (closed_by o r)
closed_evolves None r = Evolves-refl r
closed_evolves (Some c) r = close_evolves c r

pub settled_evolves : (m : ℕ) (r : RunRow) → Evolves r (settled_row m r)
settled_evolves m r = closed_evolves (lapse_of m r) r

pub settled_grown : (m : ℕ) (b : Book) → b.moment ≤ m → Grown b (settled m b)
settled_grown m b later = record {
  moment = later;
  epochs = λ i. Remains-refl (slice_get b.epochs i);
  tasks = λ serial t e. (t, e, TaskEvolves-refl t);
  rows = λ k r e young. record {
    row = settled_row m r;
    found = find_row-map (settled_row m) (λ r. (settled_evolves m r).key) b.rows k ∙ ap (option_map (settled_row m)) e;
    evolves = settled_evolves m r;
    epoch = Remains-refl (epoch_of b k);
  };
}
