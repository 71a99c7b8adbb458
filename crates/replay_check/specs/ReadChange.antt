-- What is known of a change that was read from bytes.
use Rattle.plugin_core.specs.Bounds.{IsTest}
use Rattle.row_check.specs.HasTests.{WhyTests}
use Rattle.book_check.specs.Known.{IsReadTask}
use Rattle.host_model.specs.declared.change.Change.{Change}
use Rattle.host_model.specs.declared.change.Change.TheVariants.{Accepted, Asked, Closed, Posted}

-- its task, its test and those in its reason keep their bounds
abbrev pub IsReadChange : Change → Type 0
IsReadChange (Posted t) = IsReadTask t
IsReadChange (Accepted p participants epoch) = IsTest p.test
IsReadChange (Asked q participants asker) = IsTest q.test
IsReadChange (Closed k why) = WhyTests why
IsReadChange _ = Unit {0}
