-- After each change that can be applied the pairs are those of the accepted rows.
use Rattle.std.specs.Prelude.{IfSome, IsNone, MatchOption}
use Rattle.std.proofs.Common.{◌≡◌, ◌≤◌, ℕ, Bool, true, false, not, cond, List, [], ◌∷◌, map, All, length, Option, Some, None, is_some, option_map, refl, sym, ap, subst, ◌∙◌, arith, length-append}
use Rattle.std.proofs.lemmas.List.Elements.{All-filter, All-weaker}
use Rattle.std.specs.Ordering.{is_eq}
use Rattle.ps_time.specs.Key.{key_cmp}
use Rattle.ps_time.specs.Sorted.{insert_key}
use Rattle.ps_time.specs.declared.asker.Asker.{Asker}
use Rattle.ps_time.specs.declared.key.RunKey.{RunKey}
use Rattle.ps_time.proofs.KeyLemmas.{key_cmp_total}
use Rattle.ps_time.proofs.SortedLemmas.{ascending-map}
use Rattle.limit_apply.specs.Limits.{LimitsConfig as Limits}
use Rattle.run_states.specs.Rows.{find_row, put_row, IsAscendingRows}
use Rattle.run_states.specs.declared.proposal.Proposal.{Proposal}
use Rattle.run_states.specs.declared.proposal.Question.{Question}
use Rattle.run_states.specs.declared.row.RunRow.{RunRow}
use Rattle.host_model.specs.Apply.{apply, epochs_after, new_pair, pairs_after, purged_key, put_pair, rows_after, without_pair}
use Rattle.host_model.specs.Book.{Book, find_pair}
use Rattle.host_model.specs.Lawful.{ArePairs}
use Rattle.host_model.specs.MayFollow.{CanApply}
use Rattle.host_model.specs.NewRow.{accepted_row, asked_row}
use Rattle.host_model.specs.declared.change.Change.{Change}
use Rattle.host_model.specs.declared.change.Change.TheVariants.{Accepted, Asked, LimitsSet, Planned, Purged}
use Rattle.host_model.specs.declared.task_row.TaskRow.{TaskRow}
use Rattle.host_model.proofs.AcceptedKeys.{accepted_drop, accepted_keys, accepted_one, accepted_put, calm_accepted, is_accepted, kept_accepted, none_accepted, planned_accepted, unaccepted_put}
use Rattle.host_model.proofs.ClashLemmas.{IsCalm}
use Rattle.host_model.proofs.KeyedLists.{All-put, drop_key, has, keys_come, keys_drop, put_key}
use Rattle.host_model.proofs.Standing.{changed_key, changed_row, find_row-map}

-- the keys of pairs
abbrev pub pair_keys : List (RunKey × ℕ) → List RunKey
pair_keys pairs = map (λ p. p.0) pairs

-- ---- the keys
module _ (m : ℕ) (tasks : List TaskRow) (rows : List RunRow) (up : IsAscendingRows rows) (pairs : List (RunKey × ℕ)) (keys : pair_keys pairs ≡ accepted_keys rows) where
  calm_keys : (c : Change) → IsCalm c → accepted_keys (map (changed_row m tasks c rows) rows) ≡ accepted_keys rows
  calm_keys c calm = kept_accepted (changed_row m tasks c rows) (changed_key m tasks c rows) (calm_accepted m tasks c rows calm) rows

  -- a pair comes to a run that wasn't accepted
  pair_comes : (k : RunKey) (epoch : ℕ) → ((r : RunRow) → find_row rows k ≡ Some r → is_accepted r ≡ false) → pair_keys (put_pair (Some (k, epoch)) pairs) ≡ put_key (accepted_keys rows) k
  pair_comes k epoch none =
      let new : has (pair_keys pairs) k ≡ false = ap (λ ks. has ks k) keys ∙ none_accepted k rows up none in
      keys_come (λ p. p.0) pairs (k, epoch) new ∙ ap (λ ks. put_key ks k) keys

  accepted_pairs : (p : Proposal) (hosts : List (List ℕ)) (epoch : ℕ) → IsNone (find_row rows p.key) → pair_keys (pairs_after (Accepted p hosts epoch) pairs) ≡ accepted_keys (rows_after m tasks (Accepted p hosts epoch) rows)
  accepted_pairs p hosts epoch new = sym (go (find_row rows p.key) refl new)
    where
      c : Change
      c = Accepted p hosts epoch

      mapped : List RunRow
      mapped = map (changed_row m tasks c rows) rows

      go : (o : Option RunRow) → find_row rows p.key ≡ o → IsNone o → accepted_keys (rows_after m tasks c rows) ≡ pair_keys (put_pair (Some (p.key, epoch)) pairs)
      go (Some r) at none = cc
      go None at none =
          let free : find_row mapped p.key ≡ None = find_row-map (changed_row m tasks c rows) (changed_key m tasks c rows) rows p.key ∙ ap (option_map (changed_row m tasks c rows)) at in
          ap (λ o. accepted_keys (cond (is_some o) mapped (put_row mapped (accepted_row m p hosts)))) free
          ∙ accepted_put mapped (accepted_row m p hosts) (ascending-map key_cmp_total (λ r. r.key) (changed_row m tasks c rows) (changed_key m tasks c rows) rows up) refl
          ∙ ap (λ ks. put_key ks p.key) (calm_keys c tt)
          ∙ sym (pair_comes p.key epoch (λ r found. cc))

  asked_pairs : (q : Question) (hosts : List (List ℕ)) (asker : Asker) → pair_keys pairs ≡ accepted_keys (rows_after m tasks (Asked q hosts asker) rows)
  asked_pairs q hosts asker =
      let c : Change = Asked q hosts asker in
      let mapped : List RunRow = map (changed_row m tasks c rows) rows in
      let n : RunRow = asked_row m q hosts asker in
      keys ∙ sym (calm_keys c tt) ∙ elim (is_some (find_row mapped n.key)) as (λ b. accepted_keys mapped ≡ accepted_keys (cond b mapped (put_row mapped n))) [
        | true ↦ refl
        | false ↦ sym (unaccepted_put mapped n refl)
      ]

  planned_pairs : (k : RunKey) (start : ℕ) (tool : List ℕ) (epoch : ℕ) → MatchOption (find_row rows k) ⊥ (λ r. IsNone r.accepted × IsNone r.closed) →
      pair_keys (pairs_after (Planned k start tool epoch) pairs) ≡ accepted_keys (rows_after m tasks (Planned k start tool epoch) rows)
  planned_pairs k start tool epoch can = go (find_row rows k) refl can
    where
      go : (o : Option RunRow) → find_row rows k ≡ o → MatchOption o ⊥ (λ r. IsNone r.accepted × IsNone r.closed) →
          pair_keys (put_pair (Some (k, epoch)) pairs) ≡ accepted_keys (map (changed_row m tasks (Planned k start tool epoch) rows) rows)
      go None at can = absurd can
      go (Some q) at can =
          let c : Change = Planned k start tool epoch in
          pair_comes k epoch (λ r found. let same : q ≡ r = cc in subst (λ z. is_accepted z ≡ false) same can.0)
          ∙ sym (accepted_one (changed_row m tasks c rows) (changed_key m tasks c rows) k (planned_accepted m tasks k start tool epoch rows) rows q up at can.0)

  purged_pairs : (k : RunKey) → pair_keys (pairs_after (Purged k) pairs) ≡ accepted_keys (rows_after m tasks (Purged k) rows)
  purged_pairs k =
      keys_drop (λ p. p.0) pairs k ∙ ap (λ ks. drop_key ks k) (keys ∙ sym (calm_keys (Purged k) tt)) ∙ sym (accepted_drop (map (changed_row m tasks (Purged k) rows) rows) k)

keys_after : (m : ℕ) (c : Change) (b : Book) → IsAscendingRows b.rows → pair_keys b.pairs ≡ accepted_keys b.rows → CanApply b c → pair_keys (pairs_after c b.pairs) ≡ accepted_keys (rows_after m b.tasks c b.rows)
keys_after m (Accepted p participants epoch) b up keys can = accepted_pairs m b.tasks b.rows up b.pairs keys p participants epoch can
keys_after m (Asked q participants asker) b up keys can = asked_pairs m b.tasks b.rows up b.pairs keys q participants asker
keys_after m (Planned k start tool epoch) b up keys can = planned_pairs m b.tasks b.rows up b.pairs keys k start tool epoch can
keys_after m (Purged k) b up keys can = purged_pairs m b.tasks b.rows up b.pairs keys k
keys_after m c b up keys can = keys ∙ sym (calm_keys m b.tasks b.rows up b.pairs keys c tt)

-- ---- the epochs
abbrev IsKnown : ℕ → (RunKey × ℕ) → Type 0
IsKnown n p = p.1 ≤ n

put_known : (n : ℕ) (o : Option (RunKey × ℕ)) (pairs : List (RunKey × ℕ)) → IfSome o (IsKnown n) → All (IsKnown n) pairs → All (IsKnown n) (put_pair o pairs)
put_known n None pairs new all = all
put_known n (Some p) pairs new all = go (is_some (find_pair pairs p.0))
  where
    go : (b : Bool) → All (IsKnown n) (cond b pairs (insert_key key_cmp (λ q. q.0) pairs p))
    go true = all
    go false = All-put (λ q. q.0) (IsKnown n) p pairs new all

without_known : (n : ℕ) (o : Option RunKey) (pairs : List (RunKey × ℕ)) → All (IsKnown n) pairs → All (IsKnown n) (without_pair o pairs)
without_known n None pairs all = all
without_known n (Some k) pairs all = All-filter (λ p. not (is_eq (key_cmp p.0 k))) (IsKnown n) pairs all

more_epochs : (c : Change) (epochs : List Limits) → length epochs ≤ length (epochs_after c epochs)
more_epochs (LimitsSet l) epochs = omega (arith, length-append epochs (l ∷ []))
more_epochs c epochs = omega arith

-- the pairs are those of the accepted rows
pub pairs_lawful : (m : ℕ) (c : Change) (b : Book) → IsAscendingRows b.rows → CanApply b c → IfSome (new_pair c) (λ p. p.1 ≤ length b.epochs) → ArePairs b → ArePairs (apply m c b)
pairs_lawful m c b up can known pairs = record {
  keys = keys_after m c b up pairs.keys can;
  known =
      let n : ℕ = length b.epochs in
      let more : n ≤ length (epochs_after c b.epochs) = more_epochs c b.epochs in
      All-weaker (IsKnown n) (IsKnown (length (epochs_after c b.epochs))) (λ p low. omega (arith, low, more)) (pairs_after c b.pairs)
      (without_known n (purged_key c) (put_pair (new_pair c) b.pairs) (put_known n (new_pair c) b.pairs known pairs.known));
}
