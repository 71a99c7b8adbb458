use Rattle.std.proofs.Common.{◌≡◌, ◌++◌, ◌∷◌, [], map, rules, sym, ◌∙◌, ap, subst}
use Rattle.std.proofs.lemmas.List.{map-append}
use Rattle.ps_disks.specs.declared.history.LoggedCall.{LoggedCall}
use Rattle.ps_disks.specs.History.{History, AllEndInReach, IsStanding, bytes_now, effect}
use Rattle.ps_disks.proofs.ImageLemmas.{bytes_now-push, in_reach-more}
use Rattle.ps_disks.proofs.history.History.add.Goals as goal

pub invariant_of-self-2 : goal.invariant_of-self-2
invariant_of-self-2 c =
    let inside = c.self.inside in
    let old : History = record { start = inside.start.value.items; log = map (λ s. s.value) inside.log.items } in
    let logged : LoggedCall = record { call = c.args.call; done = c.args.done } in
    let pushed : c.push.new.self.items ≡ inside.log.items ++ c.of-noted.result ∷ [] = search rules in
    let noted : map (λ s. s.value) c.push.new.self.items ≡ old.log ++ logged ∷ [] = ap (map (λ s. s.value)) pushed ∙ map-append (λ s. s.value) inside.log.items (c.of-noted.result ∷ []) ∙ ap (λ l. old.log ++ l ∷ []) (search rules) in
    let made = c.in_ok-make_call.ensures in (
      ap (λ log. bytes_now (record { start = old.start; log = log })) noted ∙ bytes_now-push old c.args.call c.args.done ∙ ap (effect logged) c.self.invariant.0 ∙ sym made.bytes,
      subst AllEndInReach (sym noted) (in_reach-more old c.args.call c.args.done c.self.invariant.1 c.requires),
      subst (λ log. IsStanding (record { start = old.start; log = log }) c.make_call.new.recent.items c.make_call.new.bytes.items) (sym noted) (made.stands old c.self.invariant.2 c.self.invariant.0),
    )
