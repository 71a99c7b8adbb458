use Rattle.std.proofs.Common.{◌≡◌, ◌++◌, ◌∷◌, [], ◌-◌, drop, take, length, rules, ◌∙◌, ap}
use Rattle.ps_disks.specs.History.{effect, taken_from, taken_until, undone}
use Rattle.ps_disks.specs.declared.history.RecentCall.{RecentCall}
use Rattle.ps_disks.proofs.RecentLemmas.{undone_more}
use Rattle.ps_disks.proofs.history.log_call.Goals as goal

pub returns-clause-undone : goal.returns-clause-undone
returns-clause-undone c =
    let before = c.args.bytes.now.items in
    let after = c.if-logged.bytes.items in
    let call : RecentCall = record { logged = c.args.logged; at = c.taken-at.result.0; piece = c.in_ok-piece.piece; len = c.len-len.result } in
    let at : call.at ≡ taken_from call.logged (length before) = search rules in
    let len : call.len ≡ length before = search rules in
    let piece : call.piece.items ≡ take (taken_until call.logged (length before) - call.at) (drop call.at before) = search rules in
    let made : after ≡ effect call.logged before = search rules in
    let pushed : c.push.new.self.items ≡ c.args.recent.now.items ++ call ∷ [] = search rules in
    ap (λ l. undone l after) pushed ∙ undone_more c.args.recent.now.items call before after at len piece made
