-- The bytes of cells are read back.
use Rattle.std.proofs.Common.{◌≡◌, ℕ, zero, suc, ◌+◌, ◌*◌, ◌<◌, ◌≤◌, inl, inr, List, [], ◌∷◌, ◌++◌, length, get_or, sym, ap, ◌∙◌, arith, Some, ℤ}
use Rattle.std.proofs.lemmas.List.{length-append}
use Rattle.std.proofs.lemmas.List.FromFn.{fill_by_all}
use Rattle.h5_bytes.specs.Bytes.{part}
use Rattle.h5_bytes.specs.declared.Block.{Block}
use Rattle.h5_model.specs.Format.Fixed.{Fixed, IsFixed, value_at, bytes_of}
use Rattle.h5_model.specs.Tree.Places.{cells, place_of, index_of}
use Rattle.h5_model.specs.Format.Layout.{InBlock}
use Rattle.h5_model.specs.Format.Chunks.{Chunks}
use Rattle.h5_model.specs.Format.Cells.{cells_of}
use Rattle.h5_model.specs.Tree.Sound.{AreOf}
use Rattle.h5_model.specs.Format.Plain.{cells_bytes}
use Rattle.h5_model.proofs.ValueLaws.{value_at-moved, moved-behind}
use Rattle.h5_model.proofs.FixedLaws.{sizes_of, length-bytes_of, value_back}
use Rattle.h5_model.proofs.PlaceLaws.{place-index}

-- a value has a byte, and at most 8
pub size-low : (t : Fixed) → IsFixed t → 1 ≤ t.size
size-low t is = elim (sizes_of t.size is.size) [
  | inl low ↦ elim low [ inl e ↦ omega arith | inr e ↦ omega arith ]
  | inr high ↦ elim high [ inl e ↦ omega arith | inr e ↦ omega arith ]
]

pub size-high : (t : Fixed) → IsFixed t → t.size ≤ 8
size-high t is = elim (sizes_of t.size is.size) [
  | inl low ↦ elim low [ inl e ↦ omega arith | inr e ↦ omega arith ]
  | inr high ↦ elim high [ inl e ↦ omega arith | inr e ↦ omega arith ]
]

-- a value behind other bytes
pub value_at-behind : (t : Fixed) (front rest : List ℕ) (k : ℕ) → value_at t (front ++ rest) (length front + k) ≡ value_at t rest k
value_at-behind t front rest k = value_at-moved t rest (front ++ rest) k (length front + k) (moved-behind front rest k t.size)

-- a cell is one of the values that were written
pub value_at-cells_bytes : (t : Fixed) (cs : List ℤ) (k : ℕ) (d : ℤ) → 1 ≤ t.size → AreOf t cs → k < length cs
    → value_at t (cells_bytes t cs) (k * t.size) ≡ get_or cs k d
value_at-cells_bytes t [] k d some of low = absurd (omega arith)
value_at-cells_bytes t (c ∷ cs) zero d some of low =
    let none : 0 * t.size ≡ 0 = omega arith in
    ap (λ i. value_at t (cells_bytes t (c ∷ cs)) i) none ∙ value_back t c (cells_bytes t cs) some of.0
value_at-cells_bytes t (c ∷ cs) (suc k) d some of low =
    let on : suc k * t.size ≡ length (bytes_of t c) + k * t.size = omega (arith, length-bytes_of t c) in
    ap (λ i. value_at t (cells_bytes t (c ∷ cs)) i) on
    ∙ value_at-behind t (bytes_of t c) (cells_bytes t cs) (k * t.size)
    ∙ value_at-cells_bytes t cs k d some of.1 (omega arith)

-- the bytes of cells are as many as they need
pub length-cells_bytes : (t : Fixed) (cs : List ℤ) → length (cells_bytes t cs) ≡ length cs * t.size
length-cells_bytes t [] = omega arith
length-cells_bytes t (c ∷ cs) = simp (length-append, length-bytes_of) (omega (arith, length-cells_bytes t cs))

-- the cells of an array whose block of data has their bytes
pub cells_of-cells_bytes : (image : List ℕ) (t : Fixed) (fill : ℤ) (sizes : List ℕ) (b : Block) (chunks : Chunks) (cs : List ℤ)
    → 1 ≤ t.size → AreOf t cs → length cs ≡ cells sizes → part b.at b.len image ≡ cells_bytes t cs
    → cs ≡ cells_of image t fill sizes (InBlock (Some b)) chunks
cells_of-cells_bytes image t fill sizes b chunks cs some of counted there =
    fill_by_all (λ place. value_at t (part b.at b.len image) (place_of sizes (index_of sizes place) * t.size)) cs (cells sizes) fill counted
    (λ k low. sym ((λ i. value_at t (there i) (place-index sizes k low i * t.size)) ∙ value_at-cells_bytes t cs k fill some of (omega arith)))
