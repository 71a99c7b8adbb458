use Rattle.rehearsal_state.proofs.TurnLemmas.{all_sent}
use Rattle.host_model.specs.Orders.{orders}
use Rattle.rehearsal_state.proofs.turn.orders_at.Goals as goal

-- the book is lawful
pub returns-clause-sent : goal.returns-clause-sent
returns-clause-sent c =
    let book = c.book-book.result.now in
    all_sent c.orders.result (orders book.book c.args.clock) c.orders.ensures (c.law_orders.ensures.sent book.number book.book c.args.clock c.rows-known.ensures.lawful)
