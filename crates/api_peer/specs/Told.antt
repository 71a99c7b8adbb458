-- What a book keeps of results, so that each is heard as it is told.
use Rattle.std.specs.Prelude.{All, IfSome}
use Rattle.run_states.specs.declared.row.RunRow.{RunRow}
use Rattle.host_model.specs.Book.{Book}
use Rattle.api_peer.specs.Replied.{IsResultTold}

-- its result, where it has one, is kept as its compact text
abbrev pub IsTold : RunRow → Type 0
IsTold r = IfSome r.ended (λ e. IsResultTold e.body)

abbrev pub AreTold : Book → Type 0
AreTold b = All IsTold b.rows
