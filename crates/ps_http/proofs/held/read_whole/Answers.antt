use Rattle.std.proofs.Common.{◌∙◌, ◌-◌, ap, sym, subst, length, min, refl}
use Rattle.std.specs.Prelude.{IfErr, OnOk}
use Rattle.ps_http.specs.Body.{HasBody, BodyFault}
use Rattle.ps_http.proofs.BodyLemmas.{unfilled_result, filled_result}
use Rattle.ps_http.proofs.held.read_whole.Goals as goal

pub returns-clause-ok : goal.returns-clause-ok
returns-clause-ok g c =
    let t = c.take_ready-ready.ensures in
    let held = c.args.held.now in
    let ready = t.count ∙ ap (λ w. min w (length held - c.args.size)) (sym t.len) in
    subst (λ w. OnOk c.fill.result (HasBody c.args.size w c.fill.new.body held c.take_ready-ready.new.held (g.S.Source.left c.args.source.now) (g.S.Source.left c.fill.new.source))) t.len
    (filled_result c.args.size _ c.take_ready-ready.result c.fill.result held c.take_ready-ready.new.held c.take_ready-ready.new.body c.fill.new.body _ _
    c.requires.within ready refl c.fill.ensures.len t.front t.rest c.fill.ensures.ok)

pub returns-clause-err : goal.returns-clause-err
returns-clause-err g c =
    let t = c.take_ready-ready.ensures in
    let held = c.args.held.now in
    let ready = t.count ∙ ap (λ w. min w (length held - c.args.size)) (sym t.len) in
    subst (λ w. IfErr c.fill.result (λ fault. BodyFault c.args.size w fault held (g.S.Source.left c.args.source.now) (g.S.Source.left c.fill.new.source))) t.len
    (unfilled_result c.args.size _ c.take_ready-ready.result c.fill.result held _ _ c.requires.within ready c.fill.ensures.err)
