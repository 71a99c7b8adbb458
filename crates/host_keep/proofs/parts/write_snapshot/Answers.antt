use Rattle.std.proofs.Common.{◌≡◌, ◌++◌, ◌∙◌, ap, drop, refl}
use Rattle.std.proofs.lemmas.List.{drop-append-le}
use Rattle.host_codec.specs.Books.{book}
use Rattle.host_model.specs.Book.{Book}
use Rattle.host_keep.proofs.parts.write_snapshot.Goals as goal

-- what comes behind the front is the snapshot
pub returns-in-Ok-clause-code : goal.returns-in-Ok-clause-code
returns-in-Ok-clause-code c =
    let b : Book = c.args.book.now.book in
    let parts : Book = record { moment = c.moment.result; epochs = c.epochs.result.now; pairs = c.pairs.result; tasks = c.tasks.result.now; rows = c.in_order.result } in
    let same : parts ≡ b = rw (c.moment.ensures.value, c.epochs.ensures, c.pairs.ensures, c.tasks.ensures, c.in_order.ensures.rows, c.rows.ensures.list) refl in
    let front = c.into_buffer-buffer.result.items in
    let items = c.in-Ok.ensures.code ∙ ap (λ (x : Book). front ++ book.code x) same in
    let empty = c.into_buffer-buffer.ensures.bytes ∙ c.requires in
    c.of_buffer.ensures.bytes ∙ (ap (drop 12) items ∙ (drop-append-le 12 front (book.code b) c.into_buffer-buffer.ensures.front ∙ ap (λ l. l ++ book.code b) empty))
