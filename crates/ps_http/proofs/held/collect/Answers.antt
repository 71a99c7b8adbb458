use Rattle.std.proofs.Common.{◌≡◌, ◌≤◌, ◌<◌, ◌∙◌, inl, sym, ap, arith, take, min, length, length-append, rules}
use Rattle.std.proofs.lemmas.List.{take_all, take-append-le}
use Rattle.ps_http.specs.Lines.{has_head_end}
use Rattle.ps_http.specs.Scan.{positions_after}
use Rattle.ps_http.specs.declared.lines.LinePosition.TheVariants.{Before}
use Rattle.ps_http.proofs.CollectLemmas.{added_more, added_kept, scanned_upto, ended_upto, wanted_more}
use Rattle.ps_http.proofs.held.collect.Goals as goal

pub returns-then-is_ended-clause-ok : goal.returns-then-is_ended-clause-ok
returns-then-is_ended-clause-ok g c =
    let held = c.loop-place.held in
    let upto : c.min-upto.result ≡ min (length held) c.args.most = c.min-upto.ensures ∙ ap (λ n. min n c.args.most) c.len.ensures.value in
    let placed = scanned_upto held c.as_slice.result.now c.loop-place.place c.after_all-place.result c.loop-place.seen c.min-upto.result c.args.most c.as_slice.ensures
    (omega (arith, upto, c.loop-place.invariant.within, c.loop-place.invariant.fits)) c.loop-place.invariant.placed c.after_all-place.ensures in
    (c.loop-place.invariant.came, inl (sym (ended_upto held c.after_all-place.result c.args.most c.min-upto.result upto placed) ∙ sym c.is_ended.ensures ∙ c.if-is_ended.true), c.loop-place.invariant.wanted)

pub returns-in_default-clause-err : goal.returns-in_default-clause-err
returns-in_default-clause-err g c =
    let held = c.loop-place.held in
    let upto : c.min-upto.result ≡ min (length held) c.args.most = c.min-upto.ensures ∙ ap (λ n. min n c.args.most) c.len.ensures.value in
    let placed = scanned_upto held c.as_slice.result.now c.loop-place.place c.after_all-place.result c.loop-place.seen c.min-upto.result c.args.most c.as_slice.ensures
    (omega (arith, upto, c.loop-place.invariant.within, c.loop-place.invariant.fits)) c.loop-place.invariant.placed c.after_all-place.ensures in
    let short : length held < c.args.most = omega (arith, upto, c.if-most-upto.false) in
    let same = c.in_default.ensures.err.0 in
    let unended = ap has_head_end (sym (take_all c.args.most held (omega (arith, short))))
    ∙ sym (ended_upto held c.after_all-place.result c.args.most c.min-upto.result upto placed) ∙ sym c.is_ended.ensures ∙ c.if-is_ended.false in (
      added_kept _ held _ _ _ _ c.loop-place.invariant.came same c.in_default.ensures.err.1,
      omega (arith, short, ap length same),
      ap has_head_end same ∙ unended,
    )

pub loop-place-preserved : goal.loop-place-preserved
loop-place-preserved g c =
    let held = c.loop-place.held in
    let came = c.in-Ok.ensures.ok in
    let upto : c.min-upto.result ≡ min (length held) c.args.most = c.min-upto.ensures ∙ ap (λ n. min n c.args.most) c.len.ensures.value in
    let placed = scanned_upto held c.as_slice.result.now c.loop-place.place c.after_all-place.result c.loop-place.seen c.min-upto.result c.args.most c.as_slice.ensures
    (omega (arith, upto, c.loop-place.invariant.within, c.loop-place.invariant.fits)) c.loop-place.invariant.placed c.after_all-place.ensures in
    let within : c.min-upto.result ≤ length held = omega (arith, upto) in
    let short : length held < c.args.most = omega (arith, upto, c.if-most-upto.false) in
    let unended = ap has_head_end (sym (take_all c.args.most held (omega (arith, short))))
    ∙ sym (ended_upto held c.after_all-place.result c.args.most c.min-upto.result upto placed) ∙ sym c.is_ended.ensures ∙ c.if-is_ended.false in
    record {
      wanted = wanted_more c.args.most c.in-Ok.count _ held _ _ _ c.loop-place.invariant.wanted came short unended c.in-Ok.ensures.within;
      came = added_more c.in-Ok.count _ held _ _ _ _ c.loop-place.invariant.came came;
      later = omega (arith, c.loop-place.invariant.later, c.in-Ok.ensures.cause.later);
      kept = search (rules, c.loop-place.invariant.kept, c.in-Ok.ensures.kept);
      within = omega (arith, within, ap length came.added, length-append held came.bytes);
      fits = omega (arith, upto);
      placed = placed ∙ ap (positions_after Before) (sym (ap (take c.min-upto.result) came.added ∙ take-append-le c.min-upto.result held came.bytes within));
    }
