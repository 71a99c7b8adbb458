use Rattle.std.proofs.Common.{◌∙◌, sym, refl, codes, ◌≡◌, ◌-◌, take, drop, length, take_all, length-drop, arith, rules}
use Rattle.ps_time.proofs.MomentLemmas.{stamp_from}
use Rattle.ps_time.proofs.PictureLemmas.{digits_shown}
use Rattle.ps_time.proofs.read_moment.read_stamp.Goals as goal

pub number-requires-clause-digits : goal.number-requires-clause-digits
number-requires-clause-digits c = digits_shown (codes "0000-00-00T00:00") c.args.text.now 0 4 (sym c.starts_as.ensures.value ∙ c.if-not-starts_as.false) refl

pub number-requires-2-clause-digits : goal.number-requires-2-clause-digits
number-requires-2-clause-digits c = digits_shown (codes "0000-00-00T00:00") c.args.text.now 5 2 (sym c.starts_as.ensures.value ∙ c.if-not-starts_as.false) refl

pub number-requires-3-clause-digits : goal.number-requires-3-clause-digits
number-requires-3-clause-digits c = digits_shown (codes "0000-00-00T00:00") c.args.text.now 8 2 (sym c.starts_as.ensures.value ∙ c.if-not-starts_as.false) refl

pub number-requires-4-clause-digits : goal.number-requires-4-clause-digits
number-requires-4-clause-digits c = digits_shown (codes "0000-00-00T00:00") c.args.text.now 11 2 (sym c.starts_as.ensures.value ∙ c.if-not-starts_as.false) refl

pub number-requires-5-clause-digits : goal.number-requires-5-clause-digits
number-requires-5-clause-digits c = digits_shown (codes "0000-00-00T00:00") c.args.text.now 14 2 (sym c.starts_as.ensures.value ∙ c.if-not-starts_as.false) refl

pub returns : goal.returns
returns c =
    let tail : take (length c.args.text.now - 16) (drop 16 c.args.text.now) ≡ drop 16 c.args.text.now = take_all (length c.args.text.now - 16) (drop 16 c.args.text.now) (omega (arith, length-drop 16 c.args.text.now)) in
    let after = rw tail at c.split_seconds-second.ensures in
    let shown = stamp_from c.args.text.now _ c.in_ok-offset.offset (sym c.starts_as.ensures.value ∙ c.if-not-starts_as.false) after (search rules) in
    rw (c.number.ensures.value, c.number-2.ensures.value, c.number-3.ensures.value, c.number-4.ensures.value, c.number-5.ensures.value) shown
