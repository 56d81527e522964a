use Rattle.std.proofs.Common.{◌≡◌, ◌≤◌, ℕ, ap, length, true, arith}
use Rattle.std.proofs.lemmas.Bool.Decides.{nat_tests}
use Rattle.std.specs.Prelude.{nat_le}
use Rattle.h5_model.specs.Format.Limits.{highest_level}
use Rattle.h5_btree.specs.Writing.Written.{root_level}
use Rattle.h5_repack.specs.Blocks.Written.{chunks_of}
use Rattle.h5_repack.specs.declared.blocks.cells.Cells.{Cells}
use Rattle.h5_repack.proofs.ChunkLaws.ChunkLevels.{none_level}
use Rattle.h5_repack.proofs.blocks.cells.has_low_tree.Goals as goal

-- where no chunk is handed over
none_low : (k : ℕ) (c : Cells) → length (chunks_of c) ≡ 0 → true ≡ nat_le (root_level k (length (chunks_of c))) highest_level
none_low k c none =
    let low : root_level k (length (chunks_of c)) ≤ highest_level = rw none (none_level k) in
    grind (arith, nat_tests, low)

pub returns-in-Unset : goal.returns-in-Unset
returns-in-Unset c = none_low c.args.chunk_k c.args.cells.now (ap (λ (x : Cells). length (chunks_of x)) c.in-Unset.is)

pub returns-in-Filled : goal.returns-in-Filled
returns-in-Filled c = none_low c.args.chunk_k c.args.cells.now (ap (λ (x : Cells). length (chunks_of x)) c.in-Filled.is)

pub returns-in-Stored : goal.returns-in-Stored
returns-in-Stored c = none_low c.args.chunk_k c.args.cells.now (ap (λ (x : Cells). length (chunks_of x)) c.in-Stored.is)
