use Rattle.std.proofs.Common.{◌≡◌, ◌+◌, ◌++◌, ℕ, List, length}
use Rattle.h5_file.specs.Patched.{AreCorners, ArePatched}
use Rattle.h5_file.proofs.kept.Kept.patch_boxes.Given as goal

-- the boxes so far are patched, and the others are left
abbrev pub invariant-loop-corner : goal.invariant-loop-corner
invariant-loop-corner l = record {
  done : List (List ℕ);
  parts : l.initial.corner-iterator ≡ done ++ l.corner-iterator;
  corners : AreCorners l.slab l.grid l.corner-iterator;
  count : l.count ≡ length done;
  bytes : ArePatched l.array l.slab done l.grid l.initial.self.bytes l.self.bytes;
  patches : l.self.patches ≡ l.initial.self.patches + length done;
}
