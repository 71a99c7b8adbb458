-- Tasks and limits as bytes: the compact JSON text of the tree of each.
use Rattle.std.specs.Prelude.{◌≡◌, Bool, List, None, Ok, Option, Result, Some, bytes_eq, cond, false, if◌then◌else◌, option_and_then, option_map, refl, true, Err, ℕ}
use Rattle.std.proofs.Common.{◌∙◌, ap, sym}
use Rattle.std.proofs.lemmas.Slice.Eq.{bytes_eq-Decides}
use Rattle.serde_json.specs.Data.{Data}
use Rattle.serde_json.specs.Written.{compact_text}
use Rattle.ps_json.specs.Tree.{tree_of}
use Rattle.ps_time.specs.declared.asker.Asker.{Asker}
use Rattle.ps_time.proofs.LengthTextLemmas.{length_text_read}
use Rattle.ps_time.proofs.MomentTextLemmas.{moment_text_read}
use Rattle.plugin_core.proofs.WrittenLemmas.{test_back}
use Rattle.limit_apply.specs.Limits.{LimitsConfig}
use Rattle.limit_apply.specs.Read.{config_in, of_own, own_config}
use Rattle.task_spec.specs.Bounds.{IsTask}
use Rattle.task_spec.specs.ReadTask.{task_of}
use Rattle.task_spec.specs.WriteTask.{task_data}
use Rattle.task_spec.specs.declared.task.Task.{Task}
use Rattle.task_spec.proofs.TaskLemmas.{task_back}
use Rattle.host_model.specs.declared.task_row.TaskRow.{TaskRow}
use Rattle.value_bytes.specs.Codec.{◌&◌, Codec, IsText, number_32, number_64, option, partly, text}
use Rattle.value_bytes.specs.Keys.{asker, asker_is}
use Rattle.value_bytes.specs.Laws.{IsCodec}
use Rattle.value_bytes.specs.ListLaws.{option_is}
use Rattle.value_bytes.specs.NumberLaws.{number_32_is, number_64_is}
use Rattle.value_bytes.specs.PairLaws.{pair_is, partly_is, some_is}
use Rattle.value_bytes.specs.Tests.{ok_of, same_text}
use Rattle.value_bytes.specs.TextLaws.{text_is}

-- ---- a task's row: serial, task, who asked, when, when it was canceled
-- the text of a task
abbrev pub task_text : Task → List ℕ
task_text t = compact_text (task_data t)

-- the task, where this is its text
abbrev pub own_task : List ℕ → Task → Option Task
own_task bytes t = if bytes_eq (task_text t) bytes then Some t else None

-- the task that has exactly this text, led by the host of this name
abbrev pub task_in : List ℕ → List ℕ → Option Task
task_in host bytes = option_and_then (λ d. option_and_then (own_task bytes) (ok_of (task_of 0 host d))) (ok_of (tree_of bytes))

abbrev pub TaskParts : Type 0
TaskParts = ℕ × (List ℕ × (Asker × (ℕ × Option ℕ)))

abbrev pub with_task : TaskParts → Task → TaskRow
with_task p t = record { serial = p.0; task = t; asker = p.1.1.0; posted = p.1.1.1.0; closed = p.1.1.1.1 }

-- the lead is the server of who asks
abbrev pub task_row_of : TaskParts → Option TaskRow
task_row_of p = option_map (with_task p) (task_in p.1.1.0.server p.1.0)

abbrev pub parts_of_task_row : TaskRow → TaskParts
parts_of_task_row t = (t.serial, (task_text t.task, (t.asker, (t.posted, t.closed))))

abbrev pub task_parts : Codec TaskParts
task_parts = number_32 & (text & (asker & (number_64 & option number_64)))

-- a task in its bounds with this text, which is read again as its tree
pub record IsOwnTask (host bytes : List ℕ) (t : Task) : Type 0 where
  pub task : IsTask host t
  pub text : task_text t ≡ bytes
  pub tree : tree_of (task_text t) ≡ Ok (task_data t)

-- a task in its bounds, whose text is read again as its tree
pub record FitsTaskRow (t : TaskRow) : Type 0 where
  pub task : IsTask t.asker.server t.task
  pub tree : tree_of (task_text t.task) ≡ Ok (task_data t.task)
  pub parts : task_parts.Fits (parts_of_task_row t)

-- a task in its bounds may be written
abbrev pub WritableTaskRow : TaskRow → Type 0
WritableTaskRow t = IsTask t.asker.server t.task

abbrev pub task_row : Codec TaskRow
task_row = partly task_row_of parts_of_task_row WritableTaskRow FitsTaskRow task_parts

task_again : (t : TaskRow) → FitsTaskRow t → task_row_of (parts_of_task_row t) ≡ Some t
task_again t fits = rw (fits.tree, task_back length_text_read moment_text_read (test_back length_text_read) 0 t.asker.server t.task fits.task, same_text (task_text t.task)) refl

task_read : (host bytes : List ℕ) (t : Task) → task_in host bytes ≡ Some t → task_text t ≡ bytes
task_read host bytes t e = by_tree (ok_of (tree_of bytes)) e
  where
    by_same : (u : Task) (b : Bool) → bytes_eq (task_text u) bytes ≡ b → cond b (Some u) None ≡ Some t → task_text t ≡ bytes
    by_same u true same e = ap task_text (sym (some_is u t e)) ∙ (bytes_eq-Decides (task_text u) bytes).0 same
    by_same u false same e = absurd cc

    by_task : (o : Option Task) → option_and_then (own_task bytes) o ≡ Some t → task_text t ≡ bytes
    by_task (Some u) e = by_same u (bytes_eq (task_text u) bytes) refl e
    by_task None e = absurd cc

    by_tree : (o : Option Data) → option_and_then (λ d. option_and_then (own_task bytes) (ok_of (task_of 0 host d))) o ≡ Some t → task_text t ≡ bytes
    by_tree (Some d) e = by_task (ok_of (task_of 0 host d)) e
    by_tree None e = absurd cc

task_row_read : (p : TaskParts) (t : TaskRow) → task_row_of p ≡ Some t → parts_of_task_row t ≡ p
task_row_read p t e = by (task_in p.1.1.0.server p.1.0) refl e
  where
    by : (o : Option Task) → task_in p.1.1.0.server p.1.0 ≡ o → option_map (with_task p) o ≡ Some t → parts_of_task_row t ≡ p
    by (Some u) is e =
        let same = some_is (with_task p u) t e in
        let words = task_read p.1.1.0.server p.1.0 u is in
        ap parts_of_task_row (sym same) ∙ ap (λ (b : List ℕ). (p.0, (b, p.1.1))) words
    by None is e = absurd cc

pub task_row_is : IsCodec task_row
task_row_is =
    partly_is task_row_of parts_of_task_row WritableTaskRow FitsTaskRow task_again (λ t fits. fits.parts) task_row_read (
    pair_is number_32_is (pair_is text_is (pair_is asker_is (pair_is number_64_is (option_is number_64 number_64_is)))))

-- ---- limits: their text
pub record FitsLimits (l : LimitsConfig) : Type 0 where
  pub again : config_in l.text ≡ Ok l
  pub text : IsText l.text

abbrev pub text_of_limits : LimitsConfig → List ℕ
text_of_limits l = l.text

abbrev pub AnyLimits : LimitsConfig → Type 0
AnyLimits l = Unit {0}

abbrev pub limits : Codec LimitsConfig
limits = partly own_config text_of_limits AnyLimits FitsLimits text

limits_again : (l : LimitsConfig) → FitsLimits l → own_config l.text ≡ Some l
limits_again l fits = rw (fits.again, same_text l.text) refl

limits_read : (bytes : List ℕ) (l : LimitsConfig) → own_config bytes ≡ Some l → l.text ≡ bytes
limits_read bytes l e = by_config (config_in bytes) e
  where
    by_same : (c : LimitsConfig) (b : Bool) → bytes_eq c.text bytes ≡ b → cond b (Some c) None ≡ Some l → l.text ≡ bytes
    by_same c true same e = ap text_of_limits (sym (some_is c l e)) ∙ (bytes_eq-Decides c.text bytes).0 same
    by_same c false same e = absurd cc

    by_config : (r : Result LimitsConfig _) → of_own bytes r ≡ Some l → l.text ≡ bytes
    by_config (Ok c) e = by_same c (bytes_eq c.text bytes) refl e
    by_config (Err fault) e = absurd cc

pub limits_is : IsCodec limits
limits_is = partly_is own_config text_of_limits AnyLimits FitsLimits limits_again (λ l fits. fits.text) limits_read text_is
