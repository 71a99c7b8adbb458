mod AgainLemmas
mod KeeperLemmas
mod OpenLemmas
mod RowLemmas
