-- One step of a host: what became of the row of each key, from the book before it to the book after.
use Rattle.std.proofs.Common.{◌≡◌, ◌≤◌, ◌+◌, ℕ, List, [], ◌∷◌, Option, Some, None, option_map, refl, sym, ap, ◌∙◌, subst, arith}
use Rattle.ps_time.specs.Numbers.{greatest_moment, keeping}
use Rattle.ps_time.specs.declared.key.RunKey.{RunKey}
use Rattle.run_states.specs.Life.{settled_row}
use Rattle.run_states.specs.Purging.{rest_of}
use Rattle.run_states.specs.Rows.{find_row}
use Rattle.run_states.specs.declared.row.RunRow.{RunRow}
use Rattle.host_model.specs.Apply.{apply, apply_all, book_after, settled}
use Rattle.host_model.specs.Book.{Book, epoch_of, moment_at}
use Rattle.host_model.specs.Conditions.{MayStep}
use Rattle.host_model.specs.Lawful.{Lawful}
use Rattle.host_model.specs.MayFollow.{MayFollow}
use Rattle.host_model.specs.Step.{step, step_book, step_changes}
use Rattle.host_model.specs.declared.change.Change.{Change}
use Rattle.host_model.specs.declared.config.Config.{Config}
use Rattle.host_model.specs.declared.input.Input.{Input}
use Rattle.host_model.proofs.Evolve.{Remains-refl}
use Rattle.host_model.proofs.SettledBook.{book_settled}
use Rattle.host_model.proofs.WalkLemmas.{AllAlong}
use Rattle.world_law.specs.Events.{Right}
use Rattle.world_law.proofs.Allowed.{Newer, OwnTasks}
use Rattle.world_law.proofs.Carries.{Carries, RowGrown, carries_trans, settled_alike, settled_carries, settled_find}
use Rattle.world_law.proofs.Guards.{input_guarded}
use Rattle.world_law.proofs.ChangeKinds.{Kind, kind_of}
use Rattle.world_law.proofs.Moves.{Moved, moved_alike, moved_refl, moved_trans}
use Rattle.world_law.proofs.Owned.{own_after}
use Rattle.world_law.proofs.Walked.{Guarded, Walked, walked}

-- a row that is gone
pub record Gone (self : ℕ) (d : Book) (k : RunKey) (r : RunRow) : Type 0 where
  pub row : RunRow
  pub carries : Carries r row
  pub past : rest_of row + keeping ≤ d.moment
  pub newer : k.lead ≡ self → Newer k d.rows

-- what a step at m does
pub record StepOk (names : ℕ → List ℕ) (self m : ℕ) (i : Input) (c : Config) (b d : Book) : Type 0 where
  pub late : b.moment ≤ m
  pub stands : (k : RunKey) (r : RunRow) → find_row d.rows k ≡ Some r → Moved names self m i c d b k (Some r) (epoch_of d k)
  pub gone : (k : RunKey) (r : RunRow) → find_row b.rows k ≡ Some r → find_row d.rows k ≡ None → Gone self d k r
  pub own : OwnTasks (names self) d.tasks

-- ---- the settling
settled_grows : (m : ℕ) (b : Book) (k : RunKey) → RowGrown (find_row b.rows k) (find_row (settled m b).rows k)
settled_grows m b k r e = (settled_row m r, settled_find m b.rows k ∙ ap (option_map (settled_row m)) e, settled_carries m r)

module _ (names : ℕ → List ℕ) (self m : ℕ) (i : Input) (c : Config) where
  settled_moved : (d b : Book) (k : RunKey) → Moved names self m i c d b k (find_row (settled m b).rows k) (epoch_of (settled m b) k)
  settled_moved d b k = go (find_row b.rows k) refl
    where
      go : (o : Option RunRow) → find_row b.rows k ≡ o → Moved names self m i c d b k (find_row (settled m b).rows k) (epoch_of b k)
      go None e =
          let none : find_row (settled m b).rows k ≡ find_row b.rows k = settled_find m b.rows k ∙ ap (option_map (settled_row m)) e ∙ sym e in
          subst (λ o. Moved names self m i c d b k o (epoch_of b k)) (sym none) (moved_refl names self m i c d b k)
      go (Some q) e =
          let at : find_row (settled m b).rows k ≡ Some (settled_row m q) = settled_find m b.rows k ∙ ap (option_map (settled_row m)) e in
          subst (λ o. Moved names self m i c d b k o (epoch_of b k)) (sym at) (moved_alike names self m i c d b k q (settled_row m q) (epoch_of b k) e (settled_alike m q) (settled_carries m q) (Remains-refl (epoch_of b k)))

  moment_stays : (cs : List Change) (a : Book) → (apply_all m cs a).moment ≡ a.moment
  moment_stays [] a = refl
  moment_stays (ch ∷ cs) a = moment_stays cs (apply m ch a)

  pub idle_ok : (b : Book) → b.moment ≤ m → OwnTasks (names self) b.tasks → StepOk names self m i c b b
  idle_ok b late own = record {
    late = late;
    stands = λ k r e. subst (λ o. Moved names self m i c b b k o (epoch_of b k)) e (moved_refl names self m i c b b k);
    gone = λ k r e n. cc;
    own = own;
  }

  own_end : (cs : List Change) (a : Book) → OwnTasks (names self) a.tasks → AllAlong (Guarded names self m i c) m a cs → OwnTasks (names self) (apply_all m cs a).tasks
  own_end [] a own guarded = own
  own_end (ch ∷ cs) a own guarded = own_end cs (apply m ch a) (own_after names self m i ch a own guarded.0.2) guarded.1

  after_ok : (b : Book) → b.moment ≤ m → OwnTasks (names self) b.tasks → (cs : List Change) → Kind cs → AllAlong (Guarded names self m i c) m (settled m b) cs → StepOk names self m i c b (book_after b (record { moment = m; list = cs }))
  after_ok b late own [] kind guarded = idle_ok b late own
  after_ok b late own (ch ∷ cs) kind guarded = joined (walked names self m i c (ch ∷ cs) (settled m b) kind.last guarded kind.steady)
    where
      d : Book
      d = apply_all m (ch ∷ cs) (settled m b)

      joined : Walked names self m i c (settled m b) d → StepOk names self m i c b d
      joined w = record {
        late = late;
        stands = λ k r e. moved_trans names self m i c d b (settled m b) (settled_grows m b) k (Some r) (epoch_of d k) (settled_moved d b k) (w.stands k r e);
        gone = λ k r e n. left k r n (settled_grows m b k r e);
        own = own_end (ch ∷ cs) (settled m b) own guarded;
      }
        where
          left : (k : RunKey) (r : RunRow) → find_row d.rows k ≡ None → (s : RunRow) × (find_row (settled m b).rows k ≡ Some s) × Carries r s → Gone self d k r
          left k r n (s, at, on) =
              let x = w.gone k s at n in
              record { row = x.row; carries = carries_trans r s x.row on x.carries; past = subst (λ t. rest_of x.row + keeping ≤ t) (sym (moment_stays (ch ∷ cs) (settled m b))) x.past; newer = x.newer }

-- ---- every step
module _ (names : ℕ → List ℕ) (h : ℕ) (c : Config) (right : Right names h c) (b : Book) (clock : ℕ) (i : Input) (may : MayStep c b clock i) (follow : MayFollow c.number b (step_changes c b clock i)) (own : OwnTasks (names h) b.tasks) where
  own_step : StepOk names c.number (moment_at b clock) i c b (step_book c b clock i)
  own_step =
      let late : b.moment ≤ moment_at b clock = omega arith in
      let within : moment_at b clock ≤ greatest_moment = omega (arith, may.book.moment, may.moment) in
      let s : Book = settled (moment_at b clock) b in
      let lawful : Lawful c.number s = book_settled c.number b (moment_at b clock) late within may.book in
      let named : c.name ≡ names c.number = right.name ∙ ap names (sym right.number) in
      let mine : OwnTasks (names c.number) b.tasks = subst (λ n. OwnTasks (names n) b.tasks) (sym right.number) own in
      after_ok names c.number (moment_at b clock) i c b late mine (step c b clock i).list (kind_of c (moment_at b clock) s i)
      (input_guarded names c may.config named right.peers (moment_at b clock) s i lawful (subst (λ n. OwnTasks n b.tasks) (sym named) mine) follow.each)

  pub step_ok : StepOk names h (moment_at b clock) i c b (step_book c b clock i)
  step_ok = subst (λ n. StepOk names n (moment_at b clock) i c b (step_book c b clock i)) right.number own_step
