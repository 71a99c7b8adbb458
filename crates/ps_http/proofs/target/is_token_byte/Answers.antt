use Rattle.std.proofs.Common.{◌≡◌, Bool, true, false, ◌||◌, ap, sym, ◌∙◌}
use Rattle.httparse.specs.Grammar.{is_token_byte}
use Rattle.ps_http.proofs.target.is_token_byte.Goals as goal

by_first : (r x y : Bool) → r ≡ x → r ≡ true → r ≡ (x || y)
by_first r x y is passes = passes ∙ sym (ap (λ b. b || y) (sym is ∙ passes))

by_rest : (a r x y : Bool) → a ≡ x → a ≡ false → r ≡ y → r ≡ (x || y)
by_rest a r x y is fails rest = rest ∙ sym (ap (λ b. b || y) (sym is ∙ fails))

pub returns-then-is_ascii_alphanumeric : goal.returns-then-is_ascii_alphanumeric
unfolding is_token_byte
returns-then-is_ascii_alphanumeric c =
    by_first c.is_ascii_alphanumeric.result _ _ c.is_ascii_alphanumeric.ensures.value c.if-is_ascii_alphanumeric.true

pub returns-else-is_ascii_alphanumeric : goal.returns-else-is_ascii_alphanumeric
unfolding is_token_byte
returns-else-is_ascii_alphanumeric c =
    by_rest c.is_ascii_alphanumeric.result c.contains.result _ _ c.is_ascii_alphanumeric.ensures.value c.if-is_ascii_alphanumeric.false c.contains.ensures.value
