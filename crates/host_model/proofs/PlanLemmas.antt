-- A run is planned for a start of the window that its row asked about.
use Rattle.std.specs.List.{find, range_with_len}
use Rattle.std.specs.Option.{option_or}
use Rattle.std.proofs.Common.{◌≡◌, ◌+◌, ◌-◌, ◌<◌, ◌≤◌, ℕ, zero, suc, Bool, true, false, cond, List, ◌∷◌, map, Option, Some, None, option_map, refl, subst, arith}
use Rattle.ps_time.specs.Numbers.{plan_lead}
use Rattle.ps_time.specs.Span.{Range}
use Rattle.ps_time.specs.Starts.{least_start}
use Rattle.ps_time.specs.declared.tiers.Tiers.{Tiers}
use Rattle.plugin_tool.specs.Choice.{chosen}
use Rattle.plugin_tool.specs.declared.tool.Tool.{Tool}
use Rattle.run_states.specs.declared.answer.FreeAnswer.{FreeAnswer}
use Rattle.run_states.specs.declared.row.RunRow.{RunRow}
use Rattle.slot_search.specs.CommonStart.{choice_of, earliest, in_all_first, in_all_second}
use Rattle.slot_search.specs.declared.search.Choice.{Choice}
use Rattle.host_model.specs.FreeTier.{IsIn}
use Rattle.host_model.specs.Plan.{answers_of, common_start, startable_window, plan, planned_at, planned_with}
use Rattle.host_model.specs.declared.lead.Planned.TheVariants.{At}

-- what is found among moments in a row is one of them
found_within : (test : ℕ → Bool) (n a s : ℕ) → find test (range_with_len a n) ≡ Some s → (a ≤ s) × (s < a + n)
found_within test zero a s e = cc
found_within test (suc n) a s e = go (test a) e (found_within test n (a + 1) s)
  where
    go : (b : Bool) → cond b (Some a) (find test (range_with_len (a + 1) n)) ≡ Some s → (find test (range_with_len (a + 1) n) ≡ Some s → (a + 1 ≤ s) × (s < a + 1 + n)) → (a ≤ s) × (s < a + suc n)
    go true f ih = let same : a ≡ s = cc in (omega (arith, same), omega (arith, same))
    go false f ih = let x = ih f in (omega (arith, x.0), omega (arith, x.1))

least_within : (test : ℕ → Bool) (w : Range) (s : ℕ) → least_start test w ≡ Some s → IsIn w s
least_within test w s e = let x = found_within test (w.last + 1 - w.first) w.first s e in (x.0, omega (arith, x.0, x.1))

chosen_within : (w : Range) (second : Bool) (test : ℕ → Bool) (choice : Choice) → option_map (choice_of second) (least_start test w) ≡ Some choice → IsIn w choice.start
chosen_within w second test choice e = go (least_start test w) refl e
  where
    go : (o : Option ℕ) → least_start test w ≡ o → option_map (choice_of second) o ≡ Some choice → IsIn w choice.start
    go None f g = cc
    go (Some s) f g = let same : choice_of second s ≡ choice = cc in subst (λ c. IsIn w c.start) same (least_within test w s f)

earliest_within : (w : Range) (lists : List Tiers) (choice : Choice) → earliest w lists ≡ Some choice → IsIn w choice.start
earliest_within w lists choice e = go (option_map (choice_of false) (least_start (in_all_first lists) w)) refl e
  where
    go : (o : Option Choice) → option_map (choice_of false) (least_start (in_all_first lists) w) ≡ o → option_or o (option_map (choice_of true) (least_start (in_all_second lists) w)) ≡ Some choice → IsIn w choice.start
    go (Some x) f g = let same : x ≡ choice = cc in subst (λ c. IsIn w c.start) same (chosen_within w false (in_all_first lists) x f)
    go None f g = chosen_within w true (in_all_second lists) choice g

module _ (wanted : List (List ℕ)) (r : RunRow) (own : FreeAnswer) (m : ℕ) (start : ℕ) (tool : List ℕ) where
  abbrev pub StartsInside : Type 0
  StartsInside = (w : Range) × (r.question ≡ Some w) × IsIn w start × (m + plan_lead ≤ start)

  at_start : (o : Option Choice) (t : Tool) → planned_at o t ≡ At start tool → (c : Choice) × (o ≡ Some c) × (c.start ≡ start)
  at_start None t e = cc
  at_start (Some c) t e = let same : c.start ≡ start = cc in (c, refl, same)

  common_inside : (answers : List FreeAnswer) (o : Option Range) → r.question ≡ o → (c : Choice) → common_start m o answers ≡ Some c → c.start ≡ start → StartsInside
  common_inside answers None e c f same = cc
  common_inside answers (Some w) e c f same =
      let x = earliest_within (startable_window m w) (map (λ a. a.tiers) answers) c f in
      (w, e, (omega (arith, x.0, same), omega (arith, x.1, same)), omega (arith, x.0, same))

  with_start : (answers : List FreeAnswer) (o : Option Tool) → planned_with m r.question answers o ≡ At start tool → StartsInside
  with_start answers None e = cc
  with_start answers (Some t) e = let x = at_start (common_start m r.question answers) t e in common_inside answers r.question refl x.0 x.1 x.2

  -- the start lies in the window of the row's question, at least five seconds ahead
  pub planned_inside : plan m wanted r own ≡ At start tool → StartsInside
  planned_inside e = with_start (own ∷ answers_of r) (chosen (map (λ a. a.tools) (own ∷ answers_of r)) wanted) e
