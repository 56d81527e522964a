use Rattle.std.proofs.Common.{◌≤◌, ◌<◌, arith, length, None}
use Rattle.h5_model.specs.Format.Limits.{highest_level}
use Rattle.h5_model.proofs.EditLaws.{length-are_maxima}
use Rattle.std.proofs.lemmas.Bool.Decides.{nat_tests}
use Rattle.h5_btree.specs.Writing.Written.{root_level}
use Rattle.h5_repack.specs.Blocks.Written.{chunks_of}
use Rattle.h5_repack.proofs.Sizes.{array_bounded, array_deep, array_few, array_fits, array_header_size, array_long, array_room, array_size, array_writable, chunks_few}
use Rattle.h5_repack.proofs.size.measure_array.Goals as goal

pub array_header_length-header-requires-clause-same : goal.array_header_length-header-requires-clause-same
array_header_length-header-requires-clause-same c =
    let a = c.args.array.now in
    length-are_maxima a.sizes a.maxima (array_bounded a c.args.cells.now c.args.others.now c.requires.held.0 c.requires.held.1)

pub array_header_length-header-requires-clause-few : goal.array_header_length-header-requires-clause-few
array_header_length-header-requires-clause-few c = array_few c.args.array.now c.args.cells.now c.args.others.now c.requires.held.0 c.requires.held.1

pub array_header_length-header-requires-clause-fits : goal.array_header_length-header-requires-clause-fits
array_header_length-header-requires-clause-fits c = array_fits c.args.array.now c.args.cells.now c.args.others.now c.requires.held.0 c.requires.held.1

pub data_length-requires-clause-array : goal.data_length-requires-clause-array
data_length-requires-clause-array c = array_writable c.args.array.now c.args.cells.now c.args.others.now c.requires.held.0 c.requires.held.1

pub returns-then-header-gt-MAXIMUM_IMAGE-clause-refused : goal.returns-then-header-gt-MAXIMUM_IMAGE-clause-refused
returns-then-header-gt-MAXIMUM_IMAGE-clause-refused c o is =
    omega (
      arith,
      c.array_header_length-header.ensures.exact c.args.cells.now 0 None
          (array_room c.args.array.now c.args.cells.now c.args.others.now c.requires.held.0 c.requires.held.1),
      array_header_size c.args.array.now c.args.cells.now c.args.others.now o is 0 None,
      c.if-header-gt-MAXIMUM_IMAGE.true,
    )

pub has_low_tree-requires-clause-few : goal.has_low_tree-requires-clause-few
has_low_tree-requires-clause-few c =
    let low = c.in-Some.ensures 0 in
    omega (
      arith,
      chunks_few c.args.array.now c.args.cells.now c.args.others.now c.requires.held.0 c.requires.held.1 c.chunk_k-chunk_k.result
          (rw c.chunk_k-chunk_k.ensures c.requires.k.chunk_low) low.1,
    )

pub returns-in_default-clause-refused : goal.returns-in_default-clause-refused
returns-in_default-clause-refused c o is =
    array_long c.args.array.now c.args.cells.now c.args.others.now o is c.args.k.now c.chunk_k-chunk_k.result c.chunk_k-chunk_k.ensures
    (rw c.chunk_k-chunk_k.ensures c.requires.k.chunk_low) c.in_default.ensures

pub returns-then-not-has_low_tree-clause-refused : goal.returns-then-not-has_low_tree-clause-refused
returns-then-not-has_low_tree-clause-refused c o is =
    let deep : highest_level < root_level c.chunk_k-chunk_k.result (length (chunks_of c.args.cells.now)) = grind (arith, nat_tests, c.has_low_tree.ensures, c.if-not-has_low_tree.true) in
    array_deep c.args.array.now c.args.cells.now c.args.others.now o is c.args.k.now c.chunk_k-chunk_k.result c.chunk_k-chunk_k.ensures
    (rw c.chunk_k-chunk_k.ensures c.requires.k.chunk_low) deep

pub returns-clause-size : goal.returns-clause-size
returns-clause-size c o is =
    let level : root_level c.chunk_k-chunk_k.result (length (chunks_of c.args.cells.now)) ≤ highest_level = grind (arith, nat_tests, c.has_low_tree.ensures, c.if-not-has_low_tree.false) in
    array_size c.args.array.now c.args.cells.now c.args.others.now o is c.args.k.now c.chunk_k-chunk_k.result c.chunk_k-chunk_k.ensures
    (rw c.chunk_k-chunk_k.ensures c.requires.k.chunk_low) c.array_header_length-header.result c.in-Some.length
    (c.array_header_length-header.ensures.exact c.args.cells.now 0 None (array_room c.args.array.now c.args.cells.now c.args.others.now c.requires.held.0 c.requires.held.1))
    c.if-header-gt-MAXIMUM_IMAGE.false c.in-Some.ensures level
