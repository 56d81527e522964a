use Rattle.h5_repack.proofs.Pushed.{array_pushed}
use Rattle.h5_repack.proofs.Sizes.{array_writable, array_few}
use Rattle.h5_repack.proofs.object.push_array.Goals as goal

pub push_array_header-requires-clause-array : goal.push_array_header-requires-clause-array
push_array_header-requires-clause-array c = array_writable c.args.array.now c.args.cells.now c.args.others.now c.requires.held.0 c.requires.held.1

pub push_array_header-requires-clause-few : goal.push_array_header-requires-clause-few
push_array_header-requires-clause-few c = array_few c.args.array.now c.args.cells.now c.args.others.now c.requires.held.0 c.requires.held.1

pub returns : goal.returns
returns c o is =
    array_pushed c.args.chunk_k c.args.array.now c.args.cells.now c.args.others.now c.args.count c.args.at c.cells_address-address.result c.args.out.now.items c.push_array_header.new.out.items
    c.push_data.new.out.items c.cells_address-address.ensures c.in_ok-push_array_header.ensures c.in_ok-push_data.ensures o is

pub push_data-requires-clause-array : goal.push_data-requires-clause-array
push_data-requires-clause-array c = array_writable c.args.array.now c.args.cells.now c.args.others.now c.requires.held.0 c.requires.held.1
