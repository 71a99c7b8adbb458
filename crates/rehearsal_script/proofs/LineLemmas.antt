-- How the lines that are left go on.
use Rattle.std.proofs.Common.{◌≡◌, ℕ, ◌+◌, ◌<◌, ◌≤◌, ◌==◌, List, ◌∷◌, length, get_or, drop, Ok, Err, refl, add-one, arith}
use Rattle.std.proofs.lemmas.List.{drop_all}
use Rattle.std.proofs.lemmas.List.Splits.{length-slice_split}
use Rattle.std.proofs.lemmas.List.Sums.{count_by-le-length}
use Rattle.std.proofs.Math.Seq.{drop-cons}
use Rattle.rehearsal_script.specs.Script.{line_of, lines_from, lines_of, with_line}
use Rattle.rehearsal_script.specs.declared.lines.Content.{Content}
use Rattle.rehearsal_script.specs.declared.script.Reason.{Reason}
use Rattle.rehearsal_script.specs.declared.script.Script.{Script}
use Rattle.rehearsal_script.specs.declared.script.ScriptFault.TheVariants.{Refused}

module _ (script : Script) (all : List (List ℕ)) (n : ℕ) where
  -- a line after n others, cut from those that are left
  cut : (line : List ℕ) → n < length all → line ≡ get_or all n line → drop n all ≡ line ∷ drop (n + 1) all
  cut line within is = rw is (rw (add-one, drop-cons all n line within) refl)

  -- a line that is read is followed by those after it
  pub lines_from-read : (line : List ℕ) (content : Content) (more : Script) → n < length all → line ≡ get_or all n line → line_of script.hosts line ≡ Ok content → more ≡ with_line script (n + 1) content → lines_from script (n + 1) (drop n all) ≡ lines_from more (n + 1 + 1) (drop (n + 1) all)
  lines_from-read line content more within is reads goes = rw (cut line within is, reads, goes) refl

  -- a line that is refused ends the reading
  pub lines_from-refused : (line : List ℕ) (reason : Reason) → n < length all → line ≡ get_or all n line → line_of script.hosts line ≡ Err reason → lines_from script (n + 1) (drop n all) ≡ Err (Refused (n + 1) reason)
  lines_from-refused line reason within is refuses = rw (cut line within is, refuses) refl

  -- after all lines the script stands
  pub lines_from-end : length all ≤ n → lines_from script (n + 1) (drop n all) ≡ Ok script
  lines_from-end over = rw (drop_all n all over) refl

-- there is at most one more line than bytes
pub length-lines_of : (bytes : List ℕ) → length (lines_of bytes) ≤ length bytes + 1
length-lines_of bytes = rw (length-slice_split (λ b. b == 10) bytes) (omega (arith, count_by-le-length (λ b. b == 10) bytes))
