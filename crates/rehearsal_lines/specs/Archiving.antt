-- What a host is told of an attempt.
use Rattle.std.specs.Prelude.{Option, option_map}
use Rattle.host_model.specs.declared.input.Input.{Input}
use Rattle.host_model.specs.declared.lead.Due.{Due}
use Rattle.rehearsal_model.specs.Moves.{Outcomes, tried_as}

-- once it was made
abbrev pub told_of : Outcomes → Due → Input
told_of comes d = tried_as d (comes d.archiver d.settings d.tried)

-- of the attempt that is due, if one is
abbrev pub tried_by : Outcomes → Option Due → Option Input
tried_by comes due = option_map (told_of comes) due
