-- What a row keeps: evolving is reflexive and transitive, and a rest never falls.
use Rattle.std.proofs.Common.{◌≡◌, ◌≤◌, ℕ, List, Option, Some, None, option_map, refl, ap, ◌∙◌, arith}
use Rattle.archive_retry.specs.declared.state.ArchiveState.{ArchiveState}
use Rattle.run_states.specs.declared.answer.Other.{Other}
use Rattle.run_states.specs.declared.row.RunRow.{RunRow}
use Rattle.run_states.specs.Life.{first_there}
use Rattle.run_states.specs.Purging.{later_of, rest_of}
use Rattle.host_model.specs.Grown.{Remains, AllEvolve, OtherEvolves, ArchiveEvolves, Evolves}

pub Remains-refl : {A : Type 0} (o : Option A) → Remains o o
Remains-refl o a e = e

pub Remains-trans : {A : Type 0} (o p q : Option A) → Remains o p → Remains p q → Remains o q
Remains-trans o p q f g a e = g a (f a e)

pub first_keeps : {A : Type 0} (o p : Option A) → Remains o (first_there o p)
first_keeps None p a e = cc
first_keeps (Some b) p a e = e

pub AllEvolve-refl : {A : Type 0} (E : A → A → Type 0) → ((x : A) → E x x) → (xs : List A) → AllEvolve E xs xs
AllEvolve-refl E same xs i x e = (x, e, same x)

pub AllEvolve-trans : {A : Type 0} (E : A → A → Type 0) → ((x y z : A) → E x y → E y z → E x z) → (xs ys zs : List A) → AllEvolve E xs ys → AllEvolve E ys zs → AllEvolve E xs zs
AllEvolve-trans E both xs ys zs f g i x e =
    let a = f i x e in
    let b = g i a.0 a.1 in
    (b.0, b.1, both x a.0 b.0 a.2 b.2)

pub OtherEvolves-refl : (o : Other) → OtherEvolves o o
OtherEvolves-refl o = record { free = Remains-refl o.free; accepted = λ e. e; confirm_told = λ e. e; cancel_told = λ e. e; material_told = λ e. e; heard = Remains-refl o.heard }

pub OtherEvolves-trans : (o p q : Other) → OtherEvolves o p → OtherEvolves p q → OtherEvolves o q
OtherEvolves-trans o p q f g = record {
  free = Remains-trans o.free p.free q.free f.free g.free;
  accepted = λ e. g.accepted (f.accepted e);
  confirm_told = λ e. g.confirm_told (f.confirm_told e);
  cancel_told = λ e. g.cancel_told (f.cancel_told e);
  material_told = λ e. g.material_told (f.material_told e);
  heard = Remains-trans o.heard p.heard q.heard f.heard g.heard;
}

pub ArchiveEvolves-refl : (a : ArchiveState) → ArchiveEvolves a a
ArchiveEvolves-refl a = record { tried = omega arith; done = λ e. e }

pub ArchiveEvolves-trans : (a b c : ArchiveState) → ArchiveEvolves a b → ArchiveEvolves b c → ArchiveEvolves a c
ArchiveEvolves-trans a b c f g = record { tried = omega (arith, f.tried, g.tried); done = λ e. g.done (f.done e) }

pub Evolves-refl : (r : RunRow) → Evolves r r
Evolves-refl r = record {
  key = refl;
  test = refl;
  priority = refl;
  participants = refl;
  asker = refl;
  tool = Remains-refl r.tool;
  interval = Remains-refl r.interval;
  accepted = Remains-refl r.accepted;
  confirmed = Remains-refl r.confirmed;
  started = Remains-refl r.started;
  ended = Remains-refl r.ended;
  material = Remains-refl r.material;
  closed = Remains-refl r.closed;
  question = Remains-refl r.question;
  asked = Remains-refl r.asked;
  others = AllEvolve-refl OtherEvolves OtherEvolves-refl r.others;
  merged = Remains-refl r.merged;
  archives = AllEvolve-refl ArchiveEvolves ArchiveEvolves-refl r.archives;
}

pub Evolves-trans : (r s t : RunRow) → Evolves r s → Evolves s t → Evolves r t
Evolves-trans r s t f g = record {
  key = g.key ∙ f.key;
  test = g.test ∙ f.test;
  priority = g.priority ∙ f.priority;
  participants = g.participants ∙ f.participants;
  asker = g.asker ∙ f.asker;
  tool = Remains-trans r.tool s.tool t.tool f.tool g.tool;
  interval = Remains-trans r.interval s.interval t.interval f.interval g.interval;
  accepted = Remains-trans r.accepted s.accepted t.accepted f.accepted g.accepted;
  confirmed = Remains-trans r.confirmed s.confirmed t.confirmed f.confirmed g.confirmed;
  started = Remains-trans r.started s.started t.started f.started g.started;
  ended = Remains-trans r.ended s.ended t.ended f.ended g.ended;
  material = Remains-trans r.material s.material t.material f.material g.material;
  closed = Remains-trans r.closed s.closed t.closed f.closed g.closed;
  question = Remains-trans r.question s.question t.question f.question g.question;
  asked = Remains-trans r.asked s.asked t.asked f.asked g.asked;
  others = AllEvolve-trans OtherEvolves OtherEvolves-trans r.others s.others t.others f.others g.others;
  merged = Remains-trans r.merged s.merged t.merged f.merged g.merged;
  archives = AllEvolve-trans ArchiveEvolves ArchiveEvolves-trans r.archives s.archives t.archives f.archives g.archives;
}

-- ---- the rest never falls ----
kept_map : {A B : Type 0} (f : A → B) (o p : Option A) → Remains o p → Remains (option_map f o) (option_map f p)
kept_map f None p kept b e = cc
kept_map f (Some a) p kept b e = ap (option_map f) (kept a refl) ∙ e

later_up : (o p : Option ℕ) (m n : ℕ) → Remains o p → m ≤ n → later_of o m ≤ later_of p n
later_up None None m n kept le = le
later_up None (Some b) m n kept le = omega arith
later_up (Some a) None m n kept le = let e : None ≡ Some a = kept a refl in cc
later_up (Some a) (Some b) m n kept le = let e : Some b ≡ Some a = kept a refl in let i : b ≡ a = cc in omega arith

pub rest_up : (r s : RunRow) → Evolves r s → rest_of r ≤ rest_of s
rest_up r s f =
    later_up _ _ _ _ (kept_map (λ i. i.end) r.interval s.interval f.interval) (later_up _ _ _ _ f.asked (later_up _ _ _ _ f.accepted (later_up _ _ _ _ f.confirmed (later_up _ _ _ _ f.started
    (later_up _ _ _ _ f.material (later_up _ _ _ _ (kept_map (λ e. e.moment) r.ended s.ended f.ended) (later_up _ _ _ _ (kept_map (λ c. c.moment) r.closed s.closed f.closed) (omega arith))))))))
