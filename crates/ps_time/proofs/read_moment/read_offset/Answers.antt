use Rattle.std.proofs.Common.{◌∙◌, sym, refl, codes}
use Rattle.ps_time.proofs.PictureLemmas.{digits_shown_whole}
use Rattle.ps_time.proofs.read_moment.read_offset.Goals as goal
use Rattle.ps_time.proofs.read_moment.read_offset.Goals.{then-matches-3, else-matches-3+then-matches-4, else-matches-3+else-matches-4+then-matches-5}

pub number-requires-clause-digits : goal.number-requires-clause-digits
number-requires-clause-digits c = digits_shown_whole (codes "+0000") c.args.text.now 3 2 (sym c.matches-else-matches-3.ensures ∙ c.if-matches-4.true) refl

pub number-requires-then-matches-5-clause-digits : goal.number-requires-then-matches-5-clause-digits
number-requires-then-matches-5-clause-digits c =
    digits_shown_whole (codes "+00:00") c.args.text.now 4 2 (sym c.matches-else-matches-4.ensures ∙ c.if-matches-5.true) refl

pub number-requires-2-clause-digits : goal.number-requires-2-clause-digits
number-requires-2-clause-digits c =
    elim c.if-matches-3.branch [
      | then-matches-3 w ↦ digits_shown_whole (codes "+00") c.args.text.now 1 2 (sym c.matches-2.ensures ∙ w.if-matches-3.true) refl
      | else-matches-3+then-matches-4 w ↦ digits_shown_whole (codes "+0000") c.args.text.now 1 2 (sym w.matches-else-matches-3.ensures ∙ w.if-matches-4.true) refl
      | else-matches-3+else-matches-4+then-matches-5 w ↦ digits_shown_whole (codes "+00:00") c.args.text.now 1 2 (sym w.matches-else-matches-4.ensures ∙ w.if-matches-5.true) refl
    ]
