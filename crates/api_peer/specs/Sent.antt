-- What the request of an order needs to be sent.
use Rattle.std.specs.Prelude.{◌<◌, ◌≡◌, ◌≤◌, All, List, length, true, ℕ}
use Rattle.ps_http.specs.Fields.{is_key}
use Rattle.ps_http.specs.Sendable.{IsValue}
use Rattle.ps_http.specs.declared.message.HttpLimits.{HttpLimits}
use Rattle.ps_http.specs.declared.message.Request.{Request}
use Rattle.host_model.specs.declared.config.Config.{Config}

-- its number has 16 bits, and each key that it shares with a peer may stand in a field
pub record HasKeys (c : Config) : Type 0 where
  pub number : c.number ≤ 65_535
  pub keys : All (λ p. is_key p.key ≡ true) c.peers

-- the authority may stand in a field; the head has at least 1,024 bytes, and the body isn't too long
pub record HasRoom (limits : HttpLimits) (authority : List ℕ) (r : Request) : Type 0 where
  pub value : IsValue authority
  pub near : length authority ≤ 255
  pub head : 1_024 ≤ limits.head
  pub body : length r.body ≤ limits.body
  pub digits : length r.body < 1000000000
