-- A tree of no chunk has one level, whatever the K of its nodes (File Format Specification 3.0, section III.A.1).
use Rattle.std.proofs.Common.{◌≡◌, ℕ, zero, suc, ◌*◌, ◌≤◌, arith, true}
use Rattle.std.proofs.lemmas.Bool.Decides.{nat_tests}
use Rattle.std.specs.Prelude.{nat_le}
use Rattle.h5_model.specs.Format.Limits.{highest_level}
use Rattle.h5_btree.specs.Writing.Written.{level_over, root_level}
use Rattle.h5_btree.proofs.WriteLaws.Counts.{root_level_is}

over_none : (levels m : ℕ) → level_over levels m 0 ≡ 0
over_none zero m = omega arith
over_none (suc levels) m = let few : nat_le 0 m ≡ true = grind (arith, nat_tests) in rw few (omega arith)

pub none_level : (k : ℕ) → root_level k 0 ≤ highest_level
none_level k = omega (arith, root_level_is k 0, over_none 64 (2 * k))
