-- Where the stored cells of an array stand, as they are kept while cells are read and written (File Format Specification 3.0, sections
-- III.A.1 and IV.A.2.i).
use Rattle.std.specs.Prelude.{◌≡◌, ℕ, ◌+◌, ◌*◌, ◌<◌, ◌≤◌, true, None, Some, List, length}
use Rattle.h5_header.specs.declared.message.Message.{Message as Placed}
use Rattle.h5_model.specs.Format.Fixed.{Fixed}
use Rattle.h5_model.specs.Format.Layout.{Layout, InMessage, InBlock, InChunks}
use Rattle.h5_model.specs.Format.Described.{Described}
use Rattle.h5_model.specs.Tree.Places.{cells}
use Rattle.h5_layout.specs.Compact.{compact_at}
use Rattle.h5_layout.specs.Data.{chunk_shape}
use Rattle.h5_layout.specs.GridKept.{GridKept, IsGridKept}
use Rattle.h5_layout.specs.Standing.{is_stored_cell}
use Rattle.h5_layout.specs.declared.places.CellStand.{CellStand}
use Rattle.h5_layout.specs.declared.places.CellStand.TheVariants.{Nowhere, InLine, InIndex}

-- the type of the cells, and where they stand
pub record KeptPlaces : Type 0 where
  pub fixed : Fixed
  pub stand : CellStand

-- no cell is stored
abbrev pub IsUnstored : Layout → Type 0
IsUnstored (InMessage bytes) = ⊥
IsUnstored (InBlock None) = Unit {0}
IsUnstored (InBlock (Some b)) = ⊥
IsUnstored (InChunks chunk None) = Unit {0}
IsUnstored (InChunks chunk (Some root)) = ⊥

-- all cells stand one behind another, the first at this address: in the message or in the block
abbrev pub IsLineAt : List Placed → Layout → ℕ → Type 0
IsLineAt list (InMessage bytes) at = compact_at list ≡ Some at
IsLineAt list (InBlock None) at = ⊥
IsLineAt list (InBlock (Some b)) at = b.at ≡ at
IsLineAt list (InChunks chunk root) at = ⊥

-- the array is in these chunks, which stand in the image
pub record IsIndexOf (image : List ℕ) (a : Described) (g : GridKept) : Type 0 where
  pub sizes : g.sizes ≡ a.sizes
  pub shape : g.shape ≡ chunk_shape a.fixed g.shape.sizes
  pub layout : a.layout ≡ InChunks g.shape.sizes (Some g.root)
  pub kept : IsGridKept image g

abbrev pub DoStandAs : List ℕ → List Placed → Described → CellStand → Type 0
DoStandAs image list a Nowhere = IsUnstored a.layout
DoStandAs image list a (InLine at) = IsLineAt list a.layout at × (at + cells a.sizes * a.fixed.size ≤ length image)
DoStandAs image list a (InIndex index) = IsIndexOf image a index

-- the cells of the array whose header has these messages, and is described so, stand in the image as these say
pub record ArePlacesOf (image : List ℕ) (list : List Placed) (a : Described) (places : KeptPlaces) : Type 0 where
  pub fixed : places.fixed ≡ a.fixed
  pub stand : DoStandAs image list a places.stand

-- so it is, and so many cells from this place on are cells of the array, of which the first is stored
pub record IsStoredAmong (image : List ℕ) (list : List Placed) (a : Described) (places : KeptPlaces) (place most : ℕ) : Type 0 where
  pub places_of : ArePlacesOf image list a places
  pub some : 0 < most
  pub room : place + most ≤ cells a.sizes
  pub stored : is_stored_cell image a place ≡ true
