use Rattle.std.proofs.Common.{◌≡◌, rules, sym, subst, false, true}
use Rattle.ps_disks.specs.History.{IsStanding, fixes, with_call}
use Rattle.ps_disks.proofs.RecentLemmas.{fixed_effect, stands_fixed, stands_logged}
use Rattle.ps_disks.proofs.history.make_call.Goals as goal

pub returns-then-is_fixing-clause-bytes : goal.returns-then-is_fixing-clause-bytes
returns-then-is_fixing-clause-bytes c = sym (fixed_effect c.args.logged.done c.args.logged.call c.args.bytes.now.items (search rules))

pub returns-then-is_fixing-clause-stands : goal.returns-then-is_fixing-clause-stands
returns-then-is_fixing-clause-stands c h stands now =
    let fix : fixes c.args.logged ≡ true = search rules in
    subst (λ recent. IsStanding (with_call h c.args.logged.call c.args.logged.done) recent c.args.bytes.now.items) (sym c.clear.ensures.items)
    (stands_fixed h c.args.logged.call c.args.logged.done c.args.bytes.now.items fix now)

pub returns-clause-stands : goal.returns-clause-stands
returns-clause-stands c h stands now =
    let plain : fixes c.args.logged ≡ false = search rules in
    stands_logged h c.args.logged.call c.args.logged.done c.args.recent.now.items c.log_call.new.recent.items c.args.bytes.now.items c.log_call.new.bytes.items plain stands c.in_ok-log_call.ensures.since c.in_ok-log_call.ensures.undone
