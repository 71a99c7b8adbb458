use Rattle.std.proofs.Common.{◌∷◌, ◌∙◌, ◌++◌, [], All, List, ap, append_assoc, subst, sym}
use Rattle.std.proofs.lemmas.List.{map-append}
use Rattle.std.proofs.lemmas.List.Elements.{All-push}
use Rattle.std.specs.Vec.Iter.{into_iter_items}
use Rattle.host_book.specs.Ready.{IsReady, changes_of}
use Rattle.host_book.specs.declared.ready.Ready.{Ready}
use Rattle.host_book.proofs.preparing.each_ready.Goals as goal

-- one more is made
pub loop-change-preserved : goal.loop-change-preserved
loop-change-preserved c =
    let made : List Ready = c.loop-change.made.items in
    let rest = into_iter_items c.next.new.self in
    let one : Ready = c.in_ok-new.field-0 in
    record {
      can_next = tt;
      is_finite = tt;
      changes =
          c.loop-change.invariant.changes
          ∙ (ap (λ l. changes_of made ++ l) c.in-Some.ensures.steps.0
          ∙ (ap (λ x. changes_of made ++ x ∷ rest) (sym c.in_ok-new.ensures.change)
          ∙ (sym (append_assoc (changes_of made) (one.change ∷ []) rest)
          ∙ (ap (λ l. l ++ rest) (sym (map-append (λ (r : Ready). r.change) made (one ∷ [])))
          ∙ ap (λ (l : List Ready). changes_of l ++ rest) (sym c.in_ok-push.ensures.items)))));
      ready = subst (λ (l : List Ready). All IsReady l) (sym c.in_ok-push.ensures.items) (All-push IsReady made one c.loop-change.invariant.ready c.in_ok-new.ensures.ready);
    }
