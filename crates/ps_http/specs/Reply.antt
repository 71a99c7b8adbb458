-- A response that is whole in memory.
use Rattle.std.specs.Prelude.{◌≡◌, ◌<◌, ⊤, ℕ, List, ◌++◌, length, Err}
use Rattle.ps_http.specs.Answer.{responses, IsMessage, IsResponseAnswer}
use Rattle.ps_http.specs.declared.fault.HttpFault.{HttpFault}
use Rattle.ps_http.specs.declared.fault.HttpFault.TheVariants.{Memory}
use Rattle.ps_http.specs.declared.message.HttpLimits.{HttpLimits}
use Rattle.ps_http.specs.declared.message.Response.{Response}
use Rattle.ps_http.specs.declared.reply.ReplyFault.{ReplyFault}
use Rattle.ps_http.specs.declared.reply.ReplyFault.TheVariants.{Refused, Follows, Memory as no_room}

abbrev pub refused_as : HttpFault → ReplyFault
refused_as Memory = no_room
refused_as fault = Refused fault

-- no response is at the front of the bytes, or so many follow it
abbrev pub IsReplyFault : HttpLimits → List ℕ → ReplyFault → Type 0
IsReplyFault limits bytes (Refused fault) = IsResponseAnswer limits bytes (Err fault)
IsReplyFault limits bytes (Follows n) =
    (message : Response) × (front : List ℕ) × (rest : List ℕ) × (bytes ≡ front ++ rest) × IsMessage responses limits front message × (length rest ≡ n) × (0 < n)
IsReplyFault limits bytes no_room = ⊤
