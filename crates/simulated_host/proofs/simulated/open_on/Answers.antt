use Rattle.std.proofs.Common.{◌≡◌, ◌∙◌, List, ap, ℕ}
use Rattle.std.proofs.lemmas.Result.{IfOk-weaker}
use Rattle.host_journal.specs.Pair.{pair_of}
use Rattle.ps_disks.specs.History.{bytes_now}
use Rattle.ps_disks.specs.declared.rack.TheConstants.{FRESH_FIRST, FRESH_SECOND}
use Rattle.rehearsal_model.specs.Simulated.{Left, new_left, opened_on}
use Rattle.simulated_host.specs.Staged.{IsLeft}
use Rattle.simulated_host.proofs.OpenLemmas.{opened_left, opened_new}
use Rattle.simulated_host.proofs.simulated.open_on.Goals as goal

pub returns-in-Ok-clause-left : goal.returns-in-Ok-clause-left
returns-in-Ok-clause-left c =
    let pair = pair_of (bytes_now c.args.first.history) (bytes_now c.args.second.history) in
    let place = c.in-Ok.ensures.place in
    IfOk-weaker c.begin.result _ (λ simulated. (left : Left) → left.state.config ≡ c.args.config → IsLeft left pair → simulated ≡ opened_on left c.args.clock)
    (λ simulated opened left same stands. opened left (opened_left c.law_one_book.ensures c.args.config pair _ c.in-Ok.ensures.fixed c.in-Ok.ensures.stands c.in-Ok.ensures.ready place.0 place.1 place.2 left same stands))
    c.begin.ensures.opened

pub returns-in-Ok-clause-anew : goal.returns-in-Ok-clause-anew
returns-in-Ok-clause-anew c =
    let pair = pair_of (bytes_now c.args.first.history) (bytes_now c.args.second.history) in
    let place = c.in-Ok.ensures.place in
    IfOk-weaker c.begin.result _ (λ simulated. bytes_now c.args.first.history ≡ FRESH_FIRST → bytes_now c.args.second.history ≡ FRESH_SECOND → simulated ≡ opened_on (new_left c.args.config) c.args.clock)
    (λ simulated opened one two. opened (new_left c.args.config) (opened_new c.law_one_book.ensures c.args.config pair _ c.in-Ok.ensures.fixed c.in-Ok.ensures.stands c.in-Ok.ensures.ready place.0 place.1 place.2
    (ap (λ (x : List ℕ). pair_of x (bytes_now c.args.second.history)) one ∙ ap (λ (x : List ℕ). pair_of FRESH_FIRST x) two)))
    c.begin.ensures.opened
