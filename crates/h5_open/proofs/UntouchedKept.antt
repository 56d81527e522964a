-- A change in place leaves each object that it does not touch: its number, its header, all that is in it, its blocks and their bytes.
use Rattle.std.proofs.Common.{◌≡◌, inl, inr, ℕ, ◌+◌, ◌≤◌, false, List, [], ◌∷◌, length, sym, ap, subst, arith}
use Rattle.std.specs.List.{flat_map}
use Rattle.h5_bytes.specs.Blocks.{cover, holds, IsKept, Keeps}
use Rattle.h5_bytes.specs.declared.Block.{Block}
use Rattle.h5_bytes.proofs.BlockLaws.{cover-append, holds_in}
use Rattle.h5_model.specs.Format.Reads.{Placed, ReadsAs}
use Rattle.h5_model.specs.Tree.Objects.{Tree}
use Rattle.h5_space.proofs.MovesLaws.{part-same}
use Rattle.h5_laws.proofs.Lists.{In, in_all, all_in, in_flat}
use Rattle.h5_layout.proofs.StandingWritten.{among_blocks}
use Rattle.h5_open.specs.ChangedInPlace.{IsChangedInPlace, is_among}
use Rattle.h5_open.specs.InPlace.{other_objects}
use Rattle.h5_open.specs.Opened.State.{FileState}
use Rattle.h5_open.proofs.InPlaceLaws.{cover-split, in_others, others_in}
use Rattle.h5_open.proofs.SuperblockKept.{end_inside}

cover_object : (p : ℕ) (x : Placed) (xs : List Placed) → In x xs → cover p x.blocks ≤ cover p (flat_map (λ (y : Placed). y.blocks) xs)
cover_object p x [] at = absurd at
cover_object p x (y ∷ xs) (inl e) =
    let same = ap (λ (z : Placed). cover p z.blocks) e in
    omega (arith, same, cover-append p y.blocks (flat_map (λ (z : Placed). z.blocks) xs))
cover_object p x (y ∷ xs) (inr at) = omega (arith, cover_object p x xs at, cover-append p y.blocks (flat_map (λ (z : Placed). z.blocks) xs))

module _ (f g : FileState) (t : Tree) (n : ℕ) (touched : List ℕ) (k : ℕ) (is : IsChangedInPlace f g t n touched k) (placed : List Placed) (reads : ReadsAs f.image f.table f.tree placed)
    (x : Placed) (at : In x placed) (out : is_among touched x.number ≡ false) where
  is_other : In x (other_objects (is_among touched) placed)
  is_other = in_others (is_among touched) x placed at out

  -- its blocks keep their bytes
  pub untouched_kept : Keeps f.image g.image x.blocks
  untouched_kept = all_in (IsKept f.image g.image) x.blocks (λ b there.
      let inside = in_all (λ (c : Block). c.at + c.len ≤ length f.image) b (flat_map (λ (y : Placed). y.blocks) placed) reads.holds.within.1 (in_flat (λ (y : Placed). y.blocks) x b placed at there) in
      part-same b.at b.len f.image g.image inside is.grown.0 (λ p low high.
      let here = holds_in p b.at b.len low high in
      let mine = among_blocks p x.blocks b there in
      let other = cover_object p x (other_objects (is_among touched) placed) is_other in
      let once = reads.holds.apart p in
      let split = cover-split (is_among touched) p placed in
      let field = end_inside f.image p in
      is.local placed reads p (omega (arith, high, inside)) (omega (arith, here, mine, other, once, split, field)) (omega (arith, here, mine, other, split))))

  -- and it is one of the objects that there are now
  pub untouched_there : In x is.sound.placed
  untouched_there =
      others_in (is_among touched) x is.sound.placed
      (subst (In x) (sym (is.others placed is.sound.placed reads is.sound.reads)) is_other)
