use Rattle.std.proofs.Common.{Some, string_bytes, sym, ◌∙◌}
use Rattle.std.specs.BTreeMap.{get_by_text}
use Rattle.std.proofs.lemmas.Map.Text.{btree_map_updates_text}
use Rattle.limit_ident.proofs.NamedLemmas.{place_stays, place_comes}
use Rattle.limit_ident.proofs.named.with_place.Goals as goal

pub returns-then-contains_key : goal.returns-then-contains_key
returns-then-contains_key c = place_stays (get_by_text c.args.places) c.args.name.now c.args.place (sym c.contains_key.ensures ∙ c.if-contains_key.true)

pub returns : goal.returns
returns c =
    place_comes (get_by_text c.args.places) c.args.name.now c.args.place (get_by_text c.insert.new.self) (sym c.contains_key.ensures ∙ c.if-contains_key.false)
    (λ other. rw (← c.in_ok-from_str.ensures.ok) (btree_map_updates_text (string_bytes c.in_ok-from_str.field-0) c.args.places c.insert.new.self (Some c.args.place) c.in_ok-insert.ensures.updates other))
