-- The text of the open configuration is read as it.
use Rattle.std.proofs.Common.{◌≡◌, Result, Ok, Err, IfOk, refl}
use Rattle.std.specs.Str.{is_utf8, chars}
use Rattle.std.specs.Fmt.{digits}
use lib.Utf8.{encode}
use Rattle.serde_json.proofs.OnLiterals.{serde_json_on_literals}
use Rattle.limit_ident.specs.ReadIdentifiers.{condition_of}
use Rattle.limit_apply.specs.Open.{open_config, open_text}
use Rattle.limit_ident.specs.declared.fault.LimitFault.{LimitFault}
use Rattle.limit_apply.specs.Limits.{LimitsConfig}
use Rattle.limit_apply.specs.Read.{parts_of, config_in, IsLimitsText}
use Rattle.limit_rule.specs.ReadLimits.{rule_of}

pub open_again : config_in open_text ≡ Ok open_config
unfolding config_in parts_of is_utf8 chars encode serde_json_on_literals digits condition_of rule_of
open_again = refl

pub open_own : IsLimitsText open_text
open_own = record { config = open_config; reads = open_again; same = refl }

-- so what is read from it is that configuration
pub open_made : {E : Type 0} (r : Result LimitsConfig E) → IfOk r (λ c. config_in open_text ≡ Ok c) → IfOk r (λ c. c ≡ open_config)
open_made (Err e) read = tt
open_made (Ok c) read = same (config_in open_text) open_again read
  where
    same : (r : Result LimitsConfig LimitFault) → r ≡ Ok open_config → r ≡ Ok c → c ≡ open_config
    same r is at = cc (is, at)
