use Rattle.std.proofs.Common.{◌≡◌, ◌++◌, ◌∷◌, [], ◌∙◌, List, ap, append_assoc, map, sym}
use Rattle.std.proofs.lemmas.List.Elements.{All-rest}
use Rattle.run_states.specs.Life.{settled_row, settled_rows, HasMoments}
use Rattle.run_states.specs.declared.row.RunRow.{RunRow}
use Rattle.rehearsal_report.specs.Table.{entry_of}
use Rattle.rehearsal_report.specs.declared.table.Entry.{Entry}
use Rattle.rehearsal_report.proofs.table.entries_of.Goals as goal

-- the entry of the first row that is left is the next one
pub loop-row-preserved : goal.loop-row-preserved
loop-row-preserved c =
    let m = c.args.moment in
    let row : RunRow = c.in-Some.row.now in
    let rest : List RunRow = c.next.new.self in
    let done : List Entry = c.loop-row.entries.items in
    let told : List RunRow → List Entry = λ rows. map (entry_of m) (settled_rows m rows) in
    let entry : Entry = entry_of m (settled_row m row) in
    let pushed : c.push.new.self.items ≡ done ++ entry ∷ [] = c.in_ok-push.ensures.items ∙ ap (λ e. done ++ e ∷ []) c.entry_of.ensures in (
      All-rest HasMoments row rest c.loop-row.row-iterator c.in-Some.ensures.steps c.loop-row.invariant.0,
      c.loop-row.invariant.1 ∙ (ap (λ rows. done ++ told rows) c.in-Some.ensures.steps
          ∙ (sym (append_assoc done (entry ∷ []) (told rest)) ∙ ap (λ l. l ++ told rest) (sym pushed))),
    )
