use Rattle.std.proofs.Common.{◌≡◌, List, subst, sym, ℕ}
use Rattle.std.specs.Prelude.{IfOk}
use Rattle.host_model.specs.Post.{post}
use Rattle.host_inputs.specs.Kept.{book_of}
use Rattle.host_inputs.proofs.input.post_task.Goals as goal

pub returns : goal.returns
returns g c =
    let m = g.R.Reading.at c.args.book.now in
    let book = book_of m (g.R.Reading.seen c.args.book.now) (g.R.Hosting.kept c.args.book.now) in
    subst (λ (name : List ℕ). IfOk c.post.result (λ o. o ≡ post c.args.config.now book m c.args.task name)) c.as_str.ensures (c.post.ensures book c.requires (sym c.task_count.ensures))
