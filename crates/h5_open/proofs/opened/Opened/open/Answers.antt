use Rattle.h5_open.proofs.OpenedLaws.Numbers.{len_dense}
use Rattle.h5_open.proofs.OpenedLaws.Sounds.{sound}
use Rattle.h5_open.proofs.opened.Opened.open.Goals as goal

pub returns-in-Ok-clause-sound : goal.returns-in-Ok-clause-sound
returns-in-Ok-clause-sound c = sound c.args.image c.in-Ok.index.objects.items c.in-Ok.index.numbers c.in-Ok.ensures.kept

pub returns-in-Ok-clause-numbers : goal.returns-in-Ok-clause-numbers
returns-in-Ok-clause-numbers c = len_dense c.args.image.bytes c.in-Ok.index.objects.items c.in-Ok.ensures.all
