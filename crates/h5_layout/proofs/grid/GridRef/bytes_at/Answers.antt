use Rattle.std.proofs.Common.{◌≡◌, ◌+◌, ◌≤◌, ℕ, IfSome, List, Option, Some, length, refl, sym, ap, ◌∙◌, subst, arith}
use Rattle.h5_bytes.specs.Bytes.{part}
use Rattle.h5_bytes.proofs.PartLaws.{length-part}
use Rattle.h5_layout.specs.ChunkCells.{Grid}
use Rattle.h5_layout.proofs.GridLaws.{slice_part}
use Rattle.h5_layout.proofs.grid.GridRef.bytes_at.Goals as goal

-- the chunk lies in the image
end : (image : List ℕ) (len at : ℕ) (g h : Grid) (found : Option ℕ) → found ≡ Some at → IfSome found (λ at. at + h.shape.bytes ≤ length h.image) → g ≡ h → g.image ≡ image → len ≡ g.shape.bytes
    → at + len ≤ length image
end image len at g h found is there same here long =
    let low : at + h.shape.bytes ≤ length h.image = subst (λ (o : Option ℕ). IfSome o (λ at. at + h.shape.bytes ≤ length h.image)) is there in
    let low : at + g.shape.bytes ≤ length g.image = subst (λ (x : Grid). at + x.shape.bytes ≤ length x.image) (sym same) low in
    omega (arith, low, long, ap length here)

pub overflow_add-end : goal.overflow_add-end
overflow_add-end c =
    let f = c.self.inside in
    let low = end f.image.now.bytes f.chunk_bytes c.in-Some.at _ c.args.self.now c.args.at c.in-Some.is c.requires c.self.view_is refl refl in
    let held = ap length c.bytes-bytes.ensures in
    grind (arith, low, held)

pub slice_bounds-result-end : goal.slice_bounds-result-end
slice_bounds-result-end c =
    let f = c.self.inside in
    let low = end f.image.now.bytes f.chunk_bytes c.in-Some.at _ c.args.self.now c.args.at c.in-Some.is c.requires c.self.view_is refl refl in
    let held = ap length c.bytes-bytes.ensures in
    omega (arith, low, held)

pub returns : goal.returns
returns c =
    let f = c.self.inside in
    let len = f.chunk_bytes in
    let inside = end f.image.now.bytes len c.in-Some.at _ c.args.self.now c.args.at c.in-Some.is c.requires c.self.view_is refl refl in
    let is = slice_part c.in-Some.at len c.bytes-bytes.result.now ∙ ap (part c.in-Some.at len) c.bytes-bytes.ensures in (
      c.in-Some.at,
      c.in-Some.is,
      is ∙ ap (λ (g : Grid). part c.in-Some.at g.shape.bytes g.image) c.self.view_is,
      ap length is ∙ length-part c.in-Some.at len f.image.now.bytes inside ∙ ap (λ (g : Grid). g.shape.bytes) c.self.view_is,
    )
