use Rattle.std.proofs.Common.{◌≡◌, ◌&&◌, ◌||◌, Bool, true, false, not, refl, sym, ap, ◌∙◌, nat_eq, arith}
use Rattle.std.proofs.lemmas.Bool.Decides.{nat_tests}
use Rattle.std.specs.List.{list_any}
use Rattle.run_states.specs.Purging.{is_archived, is_later, is_led_out, is_long_past, is_purgeable_row}
use Rattle.run_states.proofs.rows.Rows.is_purgeable_at.Goals as goal

-- what the tests come to: long past, another's, archived, and not the newest
not_past : (x p rest : Bool) → x ≡ p → x ≡ false → x ≡ (p && rest)
not_past x true rest is fails = let wrong = sym is ∙ fails in cc
not_past x false rest is fails = is

other : (p o rest : Bool) → p ≡ true → o ≡ true → o ≡ (p && (o || rest))
other true true rest past holds = refl
other true false rest past fails = cc
other false o rest fails holds = cc

own : (x p o rest : Bool) → p ≡ true → o ≡ false → x ≡ rest → x ≡ (p && (o || rest))
own x true false rest past mine is = is
own x true true rest past fails is = cc
own x false o rest fails mine is = cc

kept : (x a later : Bool) → x ≡ a → x ≡ false → x ≡ (a && later)
kept x true later is fails = let wrong = sym is ∙ fails in cc
kept x false later is fails = is

led : (x a later : Bool) → a ≡ true → x ≡ later → x ≡ (a && later)
led x true later archived is = is
led x false later fails is = cc

pub returns-then-row-host : goal.returns-then-row-host
returns-then-row-host c = λ k place.
    let r = c.at-row.result.now in
    let past = sym c.is_long_past.ensures ∙ c.if-is_long_past.true in
    let apart : not (nat_eq r.key.lead c.args.host) ≡ true = grind (arith, nat_tests) in
    other (is_long_past c.args.moment r) (not (nat_eq r.key.lead c.args.host)) (is_led_out c.args.self.now.list r) past apart
    ∙ ap (is_purgeable_row c.args.host c.args.moment c.args.self.now.list) (sym (c.at-row.ensures.found k place))

pub returns-then-is_archived : goal.returns-then-is_archived
returns-then-is_archived c = λ k place.
    let r = c.at-row.result.now in
    let past = sym c.is_long_past.ensures ∙ c.if-is_long_past.true in
    let mine : not (nat_eq r.key.lead c.args.host) ≡ false = grind (arith, nat_tests) in
    let archived = sym c.is_archived.ensures ∙ c.if-is_archived.true in
    own c.has_later.result (is_long_past c.args.moment r) (not (nat_eq r.key.lead c.args.host)) (is_led_out c.args.self.now.list r) past mine (led c.has_later.result (is_archived r) (list_any (λ s. is_later r.key s.key) c.args.self.now.list) archived c.has_later.ensures)
    ∙ ap (is_purgeable_row c.args.host c.args.moment c.args.self.now.list) (sym (c.at-row.ensures.found k place))

pub returns-else-is_archived : goal.returns-else-is_archived
returns-else-is_archived c = λ k place.
    let r = c.at-row.result.now in
    let past = sym c.is_long_past.ensures ∙ c.if-is_long_past.true in
    let mine : not (nat_eq r.key.lead c.args.host) ≡ false = grind (arith, nat_tests) in
    own c.is_archived.result (is_long_past c.args.moment r) (not (nat_eq r.key.lead c.args.host)) (is_led_out c.args.self.now.list r) past mine
    (kept c.is_archived.result (is_archived r) (list_any (λ s. is_later r.key s.key) c.args.self.now.list) c.is_archived.ensures c.if-is_archived.false)
    ∙ ap (is_purgeable_row c.args.host c.args.moment c.args.self.now.list) (sym (c.at-row.ensures.found k place))

pub returns-else-is_long_past : goal.returns-else-is_long_past
returns-else-is_long_past c = λ k place.
    let r = c.at-row.result.now in
    not_past c.is_long_past.result (is_long_past c.args.moment r) (not (nat_eq r.key.lead c.args.host) || is_led_out c.args.self.now.list r) c.is_long_past.ensures c.if-is_long_past.false
    ∙ ap (is_purgeable_row c.args.host c.args.moment c.args.self.now.list) (sym (c.at-row.ensures.found k place))
