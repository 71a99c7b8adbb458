use Rattle.std.proofs.Common.{sym, ◌∙◌, subst}
use Rattle.std.specs.Str.{IsUtf8}
use Rattle.ps_http.proofs.AsciiLemmas.{token_text}
use Rattle.ps_http.proofs.head.request_without_body.Goals as goal

pub text-requires : goal.text-requires
text-requires c =
    let at = c.requires.whole.1 in
    subst IsUtf8 (sym (c.of.ensures ∙ at.method)) (token_text _ at.reads.0.method.1)
