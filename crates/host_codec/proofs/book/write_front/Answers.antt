use Rattle.std.proofs.Common.{◌++◌, ◌∙◌, List, ap, append_assoc, ℕ}
use Rattle.std.proofs.lemmas.Result.{on_ok_weaker}
use Rattle.value_bytes.specs.Codec.{number_64}
use Rattle.host_codec.specs.Books.{epochs}
use Rattle.host_codec.proofs.book.write_front.Goals as goal

-- the epochs and their pairs behind the moment
pub returns-clause-code : goal.returns-clause-code
returns-clause-code c =
    let old : List ℕ = c.args.out.now.items in
    let last : List ℕ = epochs.code (c.args.limits.now, c.args.pairs) in
    on_ok_weaker c.write_epochs.result
    (λ wrote. wrote ∙ (ap (λ l. l ++ last) c.in_ok-write.ensures.code ∙ append_assoc old (number_64.code c.args.moment) last))
    c.write_epochs.ensures.code
