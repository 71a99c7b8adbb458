use Rattle.std.proofs.Common.{◌≤◌, ◌-◌, subst, sym}
use Rattle.host_rows.proofs.RowLemmas.{bytes_settled}
use Rattle.host_rows.specs.Ledger.{most_counted}
use Rattle.host_model.proofs.SettledBook.{book_settled}
use Rattle.host_model.specs.Apply.{settled}
use Rattle.host_book.proofs.BytesLemmas.{all_fit}
use Rattle.host_book.specs.Ready.{CanMakeAll, all_brought}
use Rattle.host_book.proofs.book.HostBook.absorb_all.Goals as goal

-- as the book settles, the results stay
pub absorb_each-requires-clause-fit : goal.absorb_each-requires-clause-fit
absorb_each-requires-clause-fit c =
    let b = c.args.self.now.book in
    let lawful = book_settled c.args.self.now.number b c.args.moment c.requires.later c.requires.bound c.rows-known.ensures.lawful in
    let bytes = subst (λ n. all_brought c.args.list ≤ most_counted - n) (sym (bytes_settled c.args.moment b.rows)) c.requires.bytes in
    let fit = all_fit c.args.self.now.number c.args.moment c.args.list (settled c.args.moment b) lawful.ascending c.requires.ready c.requires.can bytes in
    subst (λ n. CanMakeAll n c.args.moment c.args.list c.settle.new.self.book) (sym c.settle.ensures.number)
    (subst (λ x. CanMakeAll c.args.self.now.number c.args.moment c.args.list x) (sym c.settle.ensures.book) fit)
