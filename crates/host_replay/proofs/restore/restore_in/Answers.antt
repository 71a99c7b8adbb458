use Rattle.std.specs.Prelude.{IfErr, IfSome}
use Rattle.std.proofs.Common.{◌≡◌, ◌<◌, ◌+◌, ℕ, List, Option, Result, length, subst, take}
use Rattle.host_model.specs.Book.{Book}
use Rattle.host_model.specs.Lawful.{Lawful}
use Rattle.host_book.specs.Host.{Host}
use Rattle.host_replay.specs.Stands.{IsSnapshot, Leads}
use Rattle.host_replay.proofs.ListLemmas.{first_behind}
use Rattle.host_replay.proofs.restore.restore_in.Goals as goal

pub returns-in-Err-clause-first : goal.returns-in-Err-clause-first
returns-in-Err-clause-first c =
    let second = c.args.second in
    let number = c.args.number in
    let snapshot : List ℕ = c.args.snapshot.now in
    let records : List (List ℕ) = c.args.records.now in
    let from : Book = c.in-Some.book.book in
    let found = subst (λ (o : Option Host). IfSome o (λ h. IsSnapshot second snapshot h.book × Lawful number h.book)) c.in-Some.is c.in_ok-book.ensures.found in
    let within = subst (λ (r : Result Host ℕ). IfErr r (λ index. index < length records)) c.in-Err.is c.in_ok-book-2.ensures.within in
    let front = subst (λ (r : Result Host ℕ). IfErr r (λ index. (b : Book) × Leads second number from (take index records) b)) c.in-Err.is c.in_ok-book-2.ensures.front in
    let first = subst (λ (r : Result Host ℕ). IfErr r (λ index. (b : Book) → Leads second number from (take (index + 1) records) b → ⊥)) c.in-Err.is c.in_ok-book-2.ensures.first in
    first_behind second number snapshot records from found (λ b is lawful. (subst (λ (o : Option Host). IfSome o (λ h. h.book ≡ b)) c.in-Some.is (c.in_ok-book.ensures.only b is lawful).0)) c.in-Err.index within front first
