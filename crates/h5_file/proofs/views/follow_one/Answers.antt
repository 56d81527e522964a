use Rattle.h5_file.proofs.ViewLaws.{found_place}
use Rattle.h5_file.proofs.views.follow_one.Goals as goal

pub unwrap-at-requires : goal.unwrap-at-requires
unwrap-at-requires c = found_place c.args.views.now c.requires.rise.0 c.args.number c.requires.there.0 c.requires.rise.1 c.requires.there.1 c.place_near.result c.place_near.ensures
