use Rattle.std.proofs.Common.{arith}
use Rattle.h5_layout.proofs.KeptLaws.{some_bytes}
use Rattle.h5_layout.proofs.held.HeldChunks.chunk_length.Goals as goal

pub returns-clause-some : goal.returns-clause-some
returns-clause-some c =
    let f = c.self.inside in
    omega (arith, some_bytes f.array.fixed f.array.chunk c.self.invariant.sound c.self.invariant.sizes, c.chunk_length.ensures.exact)
