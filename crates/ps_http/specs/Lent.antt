-- The source that a reader lends.
use Rattle.std.specs.Borrow.{Lends, MutBor, Fml}
use denote.RattleType.{RattleType}
use Rattle.ps_http.specs.Reader.{ReaderState}
use Rattle.ps_http.specs.contracts.reader.Reader.{the_row}

abbrev pub with_source : {S : Type 0} → ReaderState S → S → ReaderState S
with_source r s = record r { source = s }

abbrev pub LendsSource : (S : RattleType) → MutBor (ReaderState S.Denot) → MutBor S.Denot → Fml
LendsSource S r s = Lends (the_row S) S r s (with_source r.now)
