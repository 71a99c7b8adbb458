use Rattle.std.proofs.Common.{◌≡◌, ◌∙◌, List, subst, sym, ℕ}
use Rattle.std.proofs.lemmas.Result.{IfOk-weaker}
use Rattle.host_journal.specs.Pair.{pair_of}
use Rattle.ps_disks.specs.History.{bytes_now}
use Rattle.rehearsal_model.specs.Simulated.{Left, opened_on}
use Rattle.simulated_host.specs.Staged.{IsLeft}
use Rattle.simulated_host.proofs.simulated.reopen_on.Goals as goal

pub returns-clause-left : goal.returns-clause-left
returns-clause-left c =
    let one : bytes_now c.in_ok-first.first.history ≡ bytes_now c.args.disks.0.history = c.in_ok-first.ensures.seen ∙ c.bytes.ensures in
    let two : bytes_now c.in_ok-second.second.history ≡ bytes_now c.args.disks.1.history = c.in_ok-second.ensures.seen ∙ c.bytes-2.ensures in
    IfOk-weaker c.open_on.result _ (λ simulated. (left : Left) → left.state.config ≡ c.args.config → IsLeft left (pair_of (bytes_now c.args.disks.0.history) (bytes_now c.args.disks.1.history)) → simulated ≡ opened_on left c.args.clock)
    (λ simulated opened left same stands. opened left same
    (subst (λ (x : List ℕ). IsLeft left (pair_of x (bytes_now c.in_ok-second.second.history))) (sym one)
    (subst (λ (x : List ℕ). IsLeft left (pair_of (bytes_now c.args.disks.0.history) x)) (sym two) stands)))
    c.open_on.ensures.left
