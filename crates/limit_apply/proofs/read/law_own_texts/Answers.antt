use Rattle.limit_apply.proofs.ReadLemmas.{own_sound, own_complete, own_kept}
use Rattle.limit_apply.proofs.read.law_own_texts.Goals as goal

pub returns-clause-sound : goal.returns-clause-sound
returns-clause-sound c = own_sound

pub returns-clause-complete : goal.returns-clause-complete
returns-clause-complete c = own_complete

pub returns-clause-kept : goal.returns-clause-kept
returns-clause-kept c = own_kept
