use Rattle.std.proofs.Common.{◌≡◌, ◌∙◌, OnOk, Some, ap, ap₂, sym, subst}
use Rattle.run_states.specs.Rows.{find_row}
use Rattle.run_states.specs.declared.row.RunRow.{RunRow}
use Rattle.host_model.specs.Book.{Book}
use Rattle.host_model.specs.declared.change.Change.TheVariants.{Planned}
use Rattle.host_model.proofs.Placed.{find_row-key}
use Rattle.host_draft.specs.Draft.{Seen, book_now}
use Rattle.host_draft.specs.Making.{IsAdmitted, made_in}
use Rattle.draft_parts.specs.Overlay.{over}
use Rattle.draft_parts.specs.Way.{IsPlannedWay}
use Rattle.draft_parts.specs.declared.giving_way.Incoming.{Incoming}
use Rattle.host_draft.proofs.KindLemmas.{plan_length, plan_start}
use Rattle.host_draft.proofs.MakeLemmas.{can, spoken}
use Rattle.host_draft.proofs.PlanLemmas.{way_is}
use Rattle.host_draft.proofs.draft.Draft.make_planned.Goals as goal

pub planned_way-run-requires-clause-start : goal.planned_way-run-requires-clause-start
planned_way-run-requires-clause-start c =
    let d = c.self.inside in
    let now : Book = book_now d.moment d.log.changes d.book.now.book in
    let r : RunRow = c.in-Some.row.now in
    let found : find_row now.rows c.args.key ≡ Some r = c.self.invariant.found c.args.key ∙ (sym (ap₂ (λ g l. over d.touched.list g l c.args.key) c.as_slice-gone.ensures.value c.rows.ensures.list) ∙ sym c.in-Some.ensures) in
    plan_start d.book.now.number d.moment now c.self.invariant.at c.self.invariant.lawful c.args.key c.args.start c.args.tool c.args.epoch (can d.book.now.number d.moment d.limits.now d.book.now.book d.log.changes d.touched.list d.gone.items d.epoch d.count d.bytes d.log.places d.log.left c.self.invariant c.args.self.now c.self.view_is c.args.length (Planned c.args.key c.args.start c.args.tool c.args.epoch) c.requires) (spoken d.book.now.number d.moment d.limits.now d.book.now.book d.log.changes d.touched.list d.gone.items d.epoch d.count d.bytes d.log.places d.log.left c.self.invariant c.args.self.now c.self.view_is c.args.length (Planned c.args.key c.args.start c.args.tool c.args.epoch) c.requires) r found

pub planned_way-run-requires-clause-length : goal.planned_way-run-requires-clause-length
planned_way-run-requires-clause-length c =
    let d = c.self.inside in
    let now : Book = book_now d.moment d.log.changes d.book.now.book in
    let r : RunRow = c.in-Some.row.now in
    let found : find_row now.rows c.args.key ≡ Some r = c.self.invariant.found c.args.key ∙ (sym (ap₂ (λ g l. over d.touched.list g l c.args.key) c.as_slice-gone.ensures.value c.rows.ensures.list) ∙ sym c.in-Some.ensures) in
    plan_length d.book.now.number d.moment now c.self.invariant.at c.self.invariant.lawful c.args.key c.args.start c.args.tool c.args.epoch (can d.book.now.number d.moment d.limits.now d.book.now.book d.log.changes d.touched.list d.gone.items d.epoch d.count d.bytes d.log.places d.log.left c.self.invariant c.args.self.now c.self.view_is c.args.length (Planned c.args.key c.args.start c.args.tool c.args.epoch) c.requires) (spoken d.book.now.number d.moment d.limits.now d.book.now.book d.log.changes d.touched.list d.gone.items d.epoch d.count d.bytes d.log.places d.log.left c.self.invariant c.args.self.now c.self.view_is c.args.length (Planned c.args.key c.args.start c.args.tool c.args.epoch) c.requires) r found

-- the row has the key
pub plan-requires-clause-admitted : goal.plan-requires-clause-admitted
plan-requires-clause-admitted c =
    let d = c.self.inside in
    let now : Book = book_now d.moment d.log.changes d.book.now.book in
    let r : RunRow = c.in-Some.row.now in
    let found : find_row now.rows c.args.key ≡ Some r = c.self.invariant.found c.args.key ∙ (sym (ap₂ (λ g l. over d.touched.list g l c.args.key) c.as_slice-gone.ensures.value c.rows.ensures.list) ∙ sym c.in-Some.ensures) in
    let own : c.planned_way-run.result.key ≡ c.args.key = ap (λ (x : Incoming). x.key) c.planned_way-run.ensures ∙ find_row-key now.rows c.args.key r found in
    subst (λ k. IsAdmitted c.args.length (Planned k c.args.start c.args.tool c.args.epoch) c.args.self.now) (sym own) c.requires

pub plan-requires-clause-run : goal.plan-requires-clause-run
plan-requires-clause-run c =
    let d = c.self.inside in
    let now : Book = book_now d.moment d.log.changes d.book.now.book in
    let r : RunRow = c.in-Some.row.now in
    let found : find_row now.rows c.args.key ≡ Some r = c.self.invariant.found c.args.key ∙ (sym (ap₂ (λ g l. over d.touched.list g l c.args.key) c.as_slice-gone.ensures.value c.rows.ensures.list) ∙ sym c.in-Some.ensures) in
    let own : c.planned_way-run.result.key ≡ c.args.key = ap (λ (x : Incoming). x.key) c.planned_way-run.ensures ∙ find_row-key now.rows c.args.key r found in
    subst (λ (x : Seen). IsPlannedWay c.args.start c.planned_way-run.result x.draft.book.rows) c.self.view_is (way_is now.rows c.args.key r c.args.start c.planned_way-run.result found own c.planned_way-run.ensures)

pub returns-clause-made : goal.returns-clause-made
returns-clause-made c =
    let d = c.self.inside in
    let now : Book = book_now d.moment d.log.changes d.book.now.book in
    let r : RunRow = c.in-Some.row.now in
    let found : find_row now.rows c.args.key ≡ Some r = c.self.invariant.found c.args.key ∙ (sym (ap₂ (λ g l. over d.touched.list g l c.args.key) c.as_slice-gone.ensures.value c.rows.ensures.list) ∙ sym c.in-Some.ensures) in
    let own : c.planned_way-run.result.key ≡ c.args.key = ap (λ (x : Incoming). x.key) c.planned_way-run.ensures ∙ find_row-key now.rows c.args.key r found in
    subst (λ k. OnOk c.plan.result (c.plan.new.self ≡ made_in (Planned k c.args.start c.args.tool c.args.epoch) c.args.self.now)) own c.plan.ensures.made
