-- Which tree objects make that are handed to the writer, each in the slot of its number; the slot of a number without an object is empty.
use Rattle.std.specs.Prelude.{◌≡◌, ℕ, Option, Some, None, IsSome, List, [], map, slice_get}
use Rattle.std.specs.List.{AllZip}
use Rattle.std.specs.FinMap.{get, entries}
use Rattle.std.specs.Option.{option_flatten}
use Rattle.h5_model.specs.Tree.Objects.{Tree, Object, Content, Group, Array, Dataset}
use Rattle.h5_model.specs.Tree.Links.{tree_link}
use Rattle.h5_repack.specs.Bodies.Bodies.{others_of}
use Rattle.h5_model.specs.Format.Described.{Described}
use Rattle.h5_repack.specs.Blocks.ArrayHeader.{storage_written}
use Rattle.h5_repack.specs.Bodies.Headers.{AreStoredFor}
use Rattle.h5_repack.specs.Blocks.Written.{AreCellsToWrite, AreOthers, chunks_of}
use Rattle.h5_repack.specs.Image.Written.{StoredIn}
use Rattle.h5_repack.specs.declared.blocks.cells.Cells.{Cells}
use Rattle.h5_repack.specs.declared.objects.object.NewContent.{NewContent}
use Rattle.h5_repack.specs.declared.objects.object.NewContent.TheVariants as content
use Rattle.h5_repack.specs.declared.objects.object.NewObject.{NewObject}

-- the array with these cells, which are stored as its layout says
pub record IsNewArray (a : Described) (c : Cells) (d : Dataset) : Type 0 where
  pub fixed_is : a.fixed ≡ d.fixed
  pub sizes_are : a.sizes ≡ d.sizes
  pub maxima_are : a.maxima ≡ d.maxima
  pub fill_is : a.fill ≡ d.fill
  pub storage_is : storage_written a c ≡ d.storage
  pub cells_are : AreCellsToWrite c d
  pub stored_are : AreStoredFor (chunks_of c) d

-- a group of these links, in the order of their names; or this array
abbrev pub IsNewContent : NewContent → Content → Type 0
IsNewContent (content.Group links) (Group tree_links) = map tree_link links.items ≡ entries tree_links
IsNewContent (content.Array a c) (Array d) = IsNewArray a c d
IsNewContent _ _ = ⊥

pub record IsNewObject (x : NewObject) (o : Object) : Type 0 where
  pub content : IsNewContent x.content o.content
  pub others : AreOthers (others_of o) x.others

-- ---- the stored chunks of what is handed over

abbrev pub content_chunks : NewContent → List (List ℕ)
content_chunks (content.Group links) = []
content_chunks (content.Array a c) = chunks_of c

abbrev pub slot_chunks : Option NewObject → List (List ℕ)
slot_chunks None = []
slot_chunks (Some x) = content_chunks x.content

-- by the numbers of the objects
abbrev pub stored_in : List (Option NewObject) → StoredIn
stored_in objects number = slot_chunks (option_flatten (slice_get objects number))

-- ---- slots

-- the slot of this number is not empty
abbrev pub IsFilled : {X : Type 0} → List (Option X) → ℕ → Type 0
IsFilled slots number = IsSome (option_flatten (slice_get slots number))

-- both are empty, or this holds of what they have
abbrev pub SlotsHold : {X Y : Type 0} → (X → Y → Type 0) → Option X → Option Y → Type 0
SlotsHold Holds None None = Unit {0}
SlotsHold Holds (Some x) (Some y) = Holds x y
SlotsHold Holds _ _ = ⊥

-- the objects of the tree by their numbers
pub record AreObjects (objects : List (Option NewObject)) (tree : Tree) : Type 0 where
  pub listed : List (Option Object)
  pub numbered : (number : ℕ) → get tree number ≡ option_flatten (slice_get listed number)
  pub each : AllZip (SlotsHold IsNewObject) objects listed
