use Rattle.host_timeline.proofs.lane.start_by.Goals as goal

pub returns-in-Some-clause-others : goal.returns-in-Some-clause-others
returns-in-Some-clause-others c = λ k d low high. rw c.in-Some.is (c.first_from.ensures.others k d low high)
