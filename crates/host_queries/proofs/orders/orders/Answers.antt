use Rattle.std.specs.Prelude.{IfOk, max}
use Rattle.std.proofs.Common.{◌≡◌, ◌≤◌, ◌∙◌, ap, subst, arith}
use Rattle.ps_time.specs.Numbers.{greatest_moment}
use Rattle.host_queries.proofs.OrderLemmas.{draft_listed, opened_orders}
use Rattle.host_queries.proofs.orders.orders.Goals as goal

pub orders-requires : goal.orders-requires
orders-requires c =
    let b = c.args.book.now.book in
    let later : b.moment ≤ c.max-moment.result = omega (arith, c.max-moment.ensures, c.moment.ensures.value) in
    let bound : c.max-moment.result ≤ greatest_moment = omega (arith, c.max-moment.ensures, c.moment.ensures.bound, c.requires) in
    let listed = draft_listed c.args.book.now.number c.max-moment.result b c.rows-known.ensures.lawful later bound c.args.config.now.limits c.in_ok-draft.draft c.as_slice.result.now c.in_ok-draft.ensures (c.as_slice.ensures ∙ c.in_ok-live.ensures) in
    record { rows = listed.rows_up; ascending = listed.keys_up; named = listed.named; few = listed.few }

pub returns : goal.returns
returns c =
    let at = c.max-moment.ensures ∙ ap (λ n. max n c.args.clock) c.moment.ensures.value in
    let same = opened_orders c.args.book.now.number c.args.clock c.max-moment.result c.args.config.now.limits c.args.book.now.book c.in_ok-draft.draft c.in_ok-draft.ensures at in
    subst (λ wanted. IfOk c.orders.result (λ list. list ≡ wanted)) same c.orders.ensures
