use Rattle.std.proofs.lemmas.Option.{slice_get-get_or}
use Rattle.h5_repack.proofs.write.image_of.Goals as goal

pub push_front-requires : goal.push_front-requires
push_front-requires c = c.requires.layout.low 0 _ (slice_get-get_or c.args.layout.now.sizes.now 0 _ c.requires.some)
