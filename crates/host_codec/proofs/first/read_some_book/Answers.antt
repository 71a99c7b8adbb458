use Rattle.std.proofs.Common.{arith}
use Rattle.value_bytes.proofs.WholeLemmas.{is_found, is_only}
use Rattle.host_codec.specs.FirstFormat.{first_book}
use Rattle.host_codec.proofs.FirstLemmas.{first_book_is, snapshot_exact, snapshot_found, snapshot_only}
use Rattle.host_codec.proofs.first.read_some_book.Goals as goal

pub returns-clause-found : goal.returns-clause-found
returns-clause-found c = snapshot_found c.whole_book.result c.args.bytes.now c.requires (is_found first_book first_book_is c.whole_book.result c.args.bytes.now (λ i. omega (arith, c.type_inv.bytes i)) c.whole_book.ensures.exact c.whole_book.ensures.fits)

pub returns-clause-only : goal.returns-clause-only
returns-clause-only c = snapshot_only c.whole_book.result c.args.bytes.now c.requires (is_only first_book first_book_is c.whole_book.result c.args.bytes.now c.whole_book.ensures.exact)

pub returns-clause-exact : goal.returns-clause-exact
returns-clause-exact c = snapshot_exact c.whole_book.result c.args.bytes.now c.requires c.whole_book.ensures.exact
