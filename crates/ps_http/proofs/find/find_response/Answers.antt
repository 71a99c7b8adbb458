use Rattle.std.proofs.Common.{Err, ap}
use Rattle.ps_http.proofs.RoomLemmas.{response_has_room}
use Rattle.ps_http.proofs.find.find_response.Goals as goal

pub unreachable-requires : goal.unreachable-requires
unreachable-requires c =
    response_has_room c.args.bytes.now _ c.requires (c.in-Err-TooManyHeaders.ensures.too_many (ap Err c.in-Err-TooManyHeaders.field-0-is))
