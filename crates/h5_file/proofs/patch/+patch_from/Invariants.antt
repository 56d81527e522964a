use Rattle.std.proofs.Common.{length, ◌≡◌, ◌+◌, ◌*◌, ◌++◌, ◌≤◌, ◌-◌, [], ◌∷◌, take}
use Rattle.std.specs.List.{flat_map, range_with_len}
use Rattle.h5_shape.specs.InBox.{number_along}
use Rattle.h5_file.specs.Patched.{writes_in, with_writes}
use Rattle.h5_file.proofs.patch.+patch_from.Given as goal

abbrev pub decreases-patch_from : goal.decreases-patch_from
decreases-patch_from l = length l.axes.now

-- the cells at the positions so far are written
abbrev pub invariant-loop-t : goal.invariant-loop-t
invariant-loop-t l = record {
  from : l.initial.t ≤ l.t;
  index : take l.k l.index ≡ take l.k l.initial.index;
  bytes : l.bytes ≡ with_writes l.array.fixed (flat_map (λ u. writes_in l.array l.inner l.spans (l.place * l.cells + u) (take l.k l.initial.index ++ number_along l.axis u ∷ []))
      (range_with_len l.initial.t (l.t - l.initial.t))) l.initial.bytes;
}
