-- What the writer makes of a tree's objects: its plain image, with the headers by the objects' numbers.
use Rattle.std.specs.Prelude.{◌≡◌, ℕ, ◌<◌, ◌≤◌, Option, Some, List, length, slice_get}
use Rattle.std.specs.FinMap.{get}
use Rattle.std.specs.Option.{option_flatten}
use Rattle.h5_model.specs.Format.Limits.{most_bytes}
use Rattle.h5_model.specs.Format.PlainLength.{plain_length}
use Rattle.h5_model.specs.Tree.Objects.{Tree, Object}
use Rattle.h5_laws.specs.Trees.Sound.{IsSoundTree}
use Rattle.h5_repack.specs.Image.Plain.{ArePlain, AreLow, AreStoredIn, IsLowContent}
use Rattle.h5_repack.specs.Image.Written.{IsOrder, StoredIn, counts_of, image_end, plain_image, table_of}
use Rattle.h5_repack.specs.Objects.Objects.{AreObjects}
use Rattle.h5_repack.specs.declared.objects.object.NewObject.{NewObject}
use Rattle.h5_repack.specs.declared.write.Written.{Written}
use Rattle.h5_repack.specs.declared.write.WriteFault.{WriteFault}
use Rattle.h5_repack.specs.declared.write.WriteFault.TheVariants.{TooLong, TooDeep, NoMemory}
use Rattle.h5_model.specs.declared.k_values.KValues.{KValues}

-- a sound tree of these objects, which the plain layout can hold
pub record IsTreeToWrite (objects : List (Option NewObject)) (tree : Tree) : Type 0 where
  pub objects_are : AreObjects objects tree
  pub sound : IsSoundTree tree
  pub plain : ArePlain tree

-- the image with just these stored chunks
pub record IsWritten (k : KValues) (stored : StoredIn) (tree : Tree) (w : Written) : Type 0 where
  pub chunks : AreStoredIn stored tree
  pub low : AreLow k stored tree
  pub order : List (ℕ × Object)
  pub ordered : IsOrder tree order
  pub image_is : w.image.items ≡ plain_image k stored tree order
  pub few : image_end k (counts_of stored) order ≤ most_bytes
  pub headers_are : (number : ℕ) → option_flatten (slice_get w.headers.items number) ≡ get (table_of k (counts_of stored) order) number

-- the image would be too long; or the tree of a group or of chunks too deep; or memory was refused
abbrev pub IsUnwritten : KValues → StoredIn → Tree → WriteFault → Type 0
IsUnwritten k stored tree TooLong = most_bytes < plain_length k (counts_of stored) tree
IsUnwritten k stored tree TooDeep = (number : ℕ) × (o : Object) × (get tree number ≡ Some o) × (IsLowContent k (length (stored number)) o.content → ⊥)
IsUnwritten k stored tree NoMemory = Unit {0}
