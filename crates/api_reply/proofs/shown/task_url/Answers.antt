use Rattle.api_reply.proofs.shown.task_url.Goals as goal

pub returns : goal.returns
returns c = rw c.in_ok-id.ensures at c.in_ok-format.ensures.ok
