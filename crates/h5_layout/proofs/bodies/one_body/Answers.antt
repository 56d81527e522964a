use Rattle.h5_header.proofs.FoundLaws.{one_stands}
use Rattle.h5_layout.proofs.bodies.one_body.Goals as goal

pub unwrap-requires : goal.unwrap-requires
unwrap-requires c = one_stands c.args.kind c.args.header.now.messages c.find_body.result c.find_body.ensures c.requires
