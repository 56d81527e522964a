-- Cells of a block stand one behind another; those of chunks stand nowhere where there is no tree.
use Rattle.std.proofs.Common.{◌≡◌, ℕ, ◌+◌, ◌*◌, ◌≤◌, List, Option, Some, sym, ap, ◌∙◌, arith}
use Rattle.h5_bytes.specs.declared.Block.{Block}
use Rattle.h5_model.specs.Format.Layout.{Layout, InBlock}
use Rattle.h5_model.specs.Format.Limits.{most_cells}
use Rattle.h5_model.specs.Format.Messages.{Message}
use Rattle.h5_model.specs.Format.Described.{Described, HasArray}
use Rattle.h5_model.specs.Tree.Places.{cells, index_of}
use Rattle.h5_model.proofs.PlaceLaws.{place-index}
use Rattle.h5_shape.proofs.Products.{cells_le}
use Rattle.h5_layout.specs.Data.{stored_chunks}
use Rattle.h5_layout.specs.Standing.{IsStandingAt, address_of}

module _ (image : List ℕ) (a : Described) where
  -- the address, by the layout
  abbrev address_by : ℕ → Layout → Option ℕ
  address_by place l = address_of a.fixed a.sizes l (stored_chunks image a.fixed l) (index_of a.sizes place)

  -- ---- a block

  module _ (o : Option Block) (laid : InBlock o ≡ a.layout) where
    module _ (b : Block) (is : o ≡ Some b) (place : ℕ) where
      block_is : a.layout ≡ InBlock (Some b)
      block_is = sym laid ∙ ap InBlock is

      pub block_stands : (size n : ℕ) → size ≡ a.fixed.size → place + n ≤ cells a.sizes → IsStandingAt image a place n (b.at + place * size)
      block_stands size n same room k low =
          let here : (place + k) * a.fixed.size ≡ place * a.fixed.size + k * a.fixed.size = omega arith in
          let sum : b.at + (place + k) * a.fixed.size ≡ (b.at + place * a.fixed.size) + k * a.fixed.size = omega (arith, here) in
          ap (address_by (place + k)) block_is
          ∙ ap (λ (p : ℕ). Some (b.at + p * a.fixed.size)) (place-index a.sizes (place + k) (omega (arith, room, low)))
          ∙ ap (λ (p : ℕ). Some p) sum ∙ ap (λ (s : ℕ). Some ((b.at + place * s) + k * a.fixed.size)) (sym same)

-- ---- how many cells there are

pub cells_low : (ms : List Message) (a : Described) → HasArray ms a → cells a.sizes ≤ most_cells
cells_low ms a has = omega (arith, cells_le a.sizes, has.small)
