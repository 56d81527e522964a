-- Chunks of the shape that a Data Layout message tells can be stored.
use Rattle.std.proofs.Common.{◌≡◌, ℕ, ◌*◌, ◌^◌, ◌<◌, ◌≤◌, List, length, Option, Some, ap, ◌∙◌, subst, arith}
use Rattle.std.specs.List.{AllByRecursion}
use Rattle.std.proofs.Math.Nat.{mul-le-mul_right}
use Rattle.h5_model.specs.Format.Datatype.{fixed_of}
use Rattle.h5_model.specs.Format.Fixed.{IsFixed}
use Rattle.h5_model.specs.Format.Layout.{InChunks, Layout, layout_of}
use Rattle.h5_model.specs.Format.Limits.{most_chunk_bytes}
use Rattle.h5_model.specs.Format.Messages.{Message}
use Rattle.h5_model.specs.Format.Described.{IsChunkSmall, Described, HasArray}
use Rattle.h5_model.specs.Tree.Places.{cells}
use Rattle.h5_model.proofs.PlainValues.{size-low}
use Rattle.h5_header.proofs.FoundLaws.{among_some}
use Rattle.h5_chunks.specs.Shapes.{AreChunkSizes}
use Rattle.h5_chunks.specs.Edited.{CanBeStored}
use Rattle.h5_layout.specs.Data.{chunk_shape}
use Rattle.h5_layout.proofs.FillLaws.{type_sound}
use Rattle.h5_layout.proofs.KeptValues.{chunk_rank}
use Rattle.h5_layout.proofs.LayoutBodies.{some_rank}
use Rattle.h5_layout.proofs.LocateLaws.{some_cells}
use Rattle.h5_layout.proofs.RoomLaws.{is_array}

module _ (ms : List Message) (a : Described) (has : HasArray ms a) where
  pub fixed_told : IsFixed a.fixed
  fixed_told = let body = among_some fixed_of 3 ms a.fixed has.type in type_sound (body.0).body a.fixed body.3

  module _ (chunk : List ℕ) (root : Option ℕ) (is : a.layout ≡ InChunks chunk root) where
    pub small_told : cells chunk * a.fixed.size ≤ most_chunk_bytes
    small_told = subst (IsChunkSmall a.fixed) is has.chunk_small

    pub storable_told : AreChunkSizes chunk → AllByRecursion (λ (n : ℕ). n < 2 ^ 32) chunk → CanBeStored (chunk_shape a.fixed chunk)
    storable_told sizes short =
        let layout = among_some (layout_of a.sizes a.fixed.size) 8 ms a.layout has.laid_out in
        let rank : length chunk ≡ length a.sizes = chunk_rank a chunk root is (is_array ms a has) in
        let ranked = some_rank a.sizes a.fixed.size (layout.0).body chunk root (layout.3 ∙ ap (λ (l : Layout). Some l) is) in
        let some = some_cells chunk sizes.some in
        let low = size-low a.fixed fixed_told in
        let one : 1 * a.fixed.size ≤ cells chunk * a.fixed.size = mul-le-mul_right a.fixed.size some in
        record { ranked = omega (arith, ranked, rank); short = short; some = omega (arith, one, low); small = omega (arith, small_told) }
