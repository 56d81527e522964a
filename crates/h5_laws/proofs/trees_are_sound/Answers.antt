use Rattle.h5_laws.proofs.SoundLaws.Applied.{sound_applied}
use Rattle.h5_laws.proofs.SoundLaws.Read.{reads_sound}
use Rattle.h5_laws.proofs.trees_are_sound.Goals as goal

pub returns-clause-read : goal.returns-clause-read
returns-clause-read c = reads_sound

pub returns-clause-edited : goal.returns-clause-edited
returns-clause-edited c = sound_applied
