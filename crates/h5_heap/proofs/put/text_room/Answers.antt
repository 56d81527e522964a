use Rattle.h5_heap.proofs.EditedLaws.{standing_chain}
use Rattle.h5_heap.proofs.put.text_room.Goals as goal

pub find_free-requires : goal.find_free-requires
find_free-requires c = rw (c.segment_at.ensures, c.segment_and_list-first.ensures.first) (standing_chain c.args.image.now.bytes c.args.heap c.requires.standing)
