use Rattle.std.proofs.Common.{◌≡◌, take}
use Rattle.host_replay.specs.Stands.{Leads}
use Rattle.host_replay.proofs.ListLemmas.{LeadOn}
use Rattle.host_replay.proofs.restore.follow.Given as goal

-- the records so far lead to the book, and what follows them leads on from it
abbrev pub invariant-loop-index : goal.invariant-loop-index
invariant-loop-index l = record {
  number : l.book.number ≡ l.number;
  front : Leads l.second l.number l.fn.from.book (take l.index l.records) l.book.book;
  on : LeadOn l.second l.number l.fn.from.book (take l.index l.records) l.book.book;
}
