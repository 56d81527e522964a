use Rattle.std.proofs.Common.{◌*◌, ◌≤◌, arith}
use Rattle.std.proofs.Math.Nat.{mul-le-mul_left}
use Rattle.h5_model.specs.Tree.Places.{cells}
use Rattle.h5_layout.proofs.FoundRows.{kept_new}
use Rattle.h5_layout.proofs.grid.ChunkGrid.new.Goals as goal

pub invariant_of-result : goal.invariant_of-result
invariant_of-result c =
    let chunk = c.args.chunk_sizes.now in
    let some : cells chunk * 1 ≤ cells chunk * c.args.size = mul-le-mul_left (cells chunk) c.requires.cell in
    let made = kept_new c.args.image.now.bytes c.args.dims.now chunk (cells chunk * c.args.size) c.args.root (record {
      rank = c.requires.rank;
      sizes = c.chunk_bytes-chunk_bytes.ensures.sound;
      few = c.requires.few;
      small = omega (arith, c.requires.small, some);
      stored = c.requires.stored;
    }) in
    rw (c.new.ensures, c.new-2.ensures, c.none.ensures, c.sizes.ensures.numbers, c.chunk_bytes-chunk_bytes.ensures.exact) made
