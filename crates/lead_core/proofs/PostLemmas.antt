-- Posting reads no more of a book than its limits and the number of its tasks.
use Rattle.std.proofs.Common.{◌≡◌, ℕ, List, length, sym, ap₂}
use Rattle.limit_apply.specs.Limits.{LimitsConfig as Limits}
use Rattle.run_states.specs.declared.row.RunRow.{RunRow}
use Rattle.task_spec.specs.declared.task.Task.{Task}
use Rattle.host_model.specs.Book.{Book}
use Rattle.host_model.specs.Post.{post}
use Rattle.host_model.specs.declared.config.Config.{Config}
use Rattle.lead_core.specs.Books.{IsBookOf}
use Rattle.lead_core.specs.Posting.{post_at}

pub posting_in : (c : Config) (rows : List RunRow) (limits : Limits) (epoch : ℕ) (b : Book) (count m : ℕ) (task : Task) (requester : List ℕ) →
    IsBookOf c rows limits epoch b → length b.tasks ≡ count → post_at c limits count m task requester ≡ post c b m task requester
posting_in c rows limits epoch b count m task requester is counted = ap₂ (λ l n. post_at c l n m task requester) (sym is.limits) (sym counted)
