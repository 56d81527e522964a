use Rattle.std.proofs.Common.{take}
use Rattle.h5_layout.proofs.TrimmedChunks.{AreTrimmedSo}
use Rattle.h5_layout.proofs.trimmed.trim.Given as goal

-- the chunks so far were trimmed
abbrev pub invariant-loop-k : goal.invariant-loop-k
invariant-loop-k l = AreTrimmedSo l.array l.sizes l.root l.initial.image l.image (take l.k l.outside.edge.offsets)
