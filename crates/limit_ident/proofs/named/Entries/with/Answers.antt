use Rattle.std.specs.BTreeMap.{get_by_text}
use Rattle.limit_ident.proofs.NamedLemmas.{found_push}
use Rattle.limit_ident.proofs.named.Entries.with.Goals as goal

pub invariant_of-result : goal.invariant_of-result
invariant_of-result g c =
    found_push (get_by_text c.self.inside.places) (get_by_text c.in_ok-places.places) c.self.inside.list c.push.new.self c.args.entry c.len.result c.self.invariant
    (λ name. rw (← c.as_str.ensures) (c.in_ok-places.ensures name)) c.len.ensures c.in_ok-push.ensures.ok
