-- Which orders and replies tell texts for whose length there is no rule; the bodies of all others are short.
use Rattle.std.specs.Int.Signed.{◌≤ℤ◌}
use Rattle.std.specs.Prelude.{Bool, false, negsuc, pos, true}
use Rattle.run_states.specs.declared.why.Denial.TheVariants as denial
use Rattle.host_model.specs.declared.order.OrderBody.{OrderBody}
use Rattle.host_model.specs.declared.order.OrderBody.TheVariants.{Free, Material, Propose}
use Rattle.host_model.specs.declared.reply.Reply.{Reply}
use Rattle.host_model.specs.declared.reply.Reply.TheVariants as reply

-- the tool and the asker of a proposal, and the material of a run
abbrev pub orders_texts : OrderBody → Bool
orders_texts (Propose p) = true
orders_texts (Material text) = true
orders_texts _ = false

-- the name of a host that takes no part, the tool that it lacks, and the texts of two proposals that differ
abbrev pub tells_texts : Reply → Bool
tells_texts (reply.Denied denial.NotParticipant) = true
tells_texts (reply.Denied (denial.NoTool tool)) = true
tells_texts (reply.Denied (denial.Differs kept sent)) = true
tells_texts _ = false

-- the priority of a question has 16 bits, as that of every question in memory has
abbrev pub HasWidth : OrderBody → Type 0
HasWidth (Free q) = (negsuc 32_767 ≤ℤ q.priority) × (q.priority ≤ℤ pos 32_767)
HasWidth _ = Unit {0}
