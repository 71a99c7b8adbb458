use Rattle.std.proofs.Common.{◌≡◌, ◌++◌, ◌∙◌, List, ap, append_assoc, subst, sym, ℕ}
use Rattle.std.proofs.lemmas.Result.{on_ok_weaker}
use Rattle.host_model.specs.Book.{Book}
use Rattle.host_codec.specs.Books.{back, back_of, book, front, front_of, second}
use Rattle.host_codec.proofs.book.KeptBookCoded.write.Goals as goal

-- its tasks and rows may be written
pub write_two-requires : goal.write_two-requires
write_two-requires c =
    let own : Book = record { moment = c.self.inside.moment; epochs = c.self.inside.epochs; pairs = c.self.inside.pairs; tasks = c.self.inside.tasks; rows = c.self.inside.rows } in
    let all : book.Writable own = subst book.Writable (sym c.self.view_is) c.requires in
    (all.1.1.0, all.1.1.1)

-- three parts behind what was there
behind : (old mid last new a b c : List ℕ) → mid ≡ old ++ a → last ≡ mid ++ b → new ≡ last ++ c → new ≡ old ++ (a ++ (b ++ c))
behind old mid last new a b c one two three =
    three ∙ (ap (λ l. l ++ c) (two ∙ ap (λ l. l ++ b) one) ∙ (append_assoc (old ++ a) b c ∙ append_assoc old a (b ++ c)))

pub returns-clause-code : goal.returns-clause-code
returns-clause-code c =
    let old : List ℕ = c.args.out.now.items in
    let own : Book = record { moment = c.self.inside.moment; epochs = c.self.inside.epochs; pairs = c.self.inside.pairs; tasks = c.self.inside.tasks; rows = c.self.inside.rows } in
    on_ok_weaker c.write_two.result
    (λ wrote. behind old c.write_mark.new.out.items c.write_three.new.out.items c.write_two.new.out.items (second.code tt) (front.code (front_of own)) (back.code (back_of own))
    c.in_ok-write_mark.ensures c.in_ok-write_three.ensures.code wrote
    ∙ ap (λ b. old ++ book.code b) c.self.view_is)
    c.write_two.ensures.code

pub returns-clause-fits : goal.returns-clause-fits
returns-clause-fits c =
    on_ok_weaker c.write_two.result (λ fit. subst book.Fits c.self.view_is (tt, (c.in_ok-write_three.ensures.fits, fit))) c.write_two.ensures.fits
