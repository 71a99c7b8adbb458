use Rattle.std.proofs.Common.{◌≡◌, ℕ, List, get_or, subst, sym, arith}
use Rattle.host_replay.proofs.ListLemmas.{goes_on, one_more, stops}
use Rattle.host_replay.proofs.restore.follow.Goals as goal

pub returns-then-not-branch-clause-first : goal.returns-then-not-branch-clause-first
returns-then-not-branch-clause-first c =
    let records : List (List ℕ) = c.args.records.now in
    let bytes : List ℕ = c.as_slice.result.now in
    let i : ℕ = c.loop-index.index in
    let is : bytes ≡ get_or records i bytes = subst (λ (x : List ℕ). x ≡ get_or records i x) (sym c.as_slice.ensures) c.index-records-index.is in
    stops c.args.second c.args.number records i bytes (omega (arith, c.loop-index-test.true)) is c.args.from.book c.loop-index.book.book c.loop-index.invariant.on (c.in_ok-take_bytes.ensures.refused c.if-not-branch.true)

pub loop-index-preserved : goal.loop-index-preserved
loop-index-preserved c =
    let second = c.args.second in
    let number = c.args.number in
    let records : List (List ℕ) = c.args.records.now in
    let bytes : List ℕ = c.as_slice.result.now in
    let i : ℕ = c.loop-index.index in
    let is : bytes ≡ get_or records i bytes = subst (λ (x : List ℕ). x ≡ get_or records i x) (sym c.as_slice.ensures) c.index-records-index.is in
    let taken = c.in_ok-take_bytes.ensures.taken c.if-not-branch.false in
    record {
      number = c.take_bytes.ensures.number;
      front = one_more second number records i bytes (omega (arith, c.loop-index-test.true)) is c.args.from.book c.loop-index.book.book c.take_bytes.new.book.book taken c.loop-index.invariant.front;
      on = goes_on second number records i bytes (omega (arith, c.loop-index-test.true)) is c.args.from.book c.loop-index.book.book c.take_bytes.new.book.book taken c.loop-index.invariant.on;
    }
