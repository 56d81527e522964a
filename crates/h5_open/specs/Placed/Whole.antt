-- Objects that were read from an image, and make up all of it, their reference counts aside (File Format Specification 3.0,
-- sections II.A and IV.A).
use Rattle.std.specs.Prelude.{◌≡◌, ℕ, zero, suc, ◌+◌, ◌⊎◌, List, [], ◌∷◌, ◌++◌, length}
use Rattle.std.specs.List.{AllByRecursion, Contains, IsDistinct}
use Rattle.std.specs.Ordering.{nat_cmp, eq_by_cmp}
use Rattle.std.specs.FinMap.{FinMap}
use Rattle.h5_bytes.specs.Blocks.{Separate, Inside}
use Rattle.h5_model.specs.Format.Limits.{most_names}
use Rattle.h5_model.specs.Format.Superblock.{IsSuperblock, end_of_file, root_header}
use Rattle.h5_model.specs.Format.Symbols.{Target, Header, Text}
use Rattle.h5_model.specs.Format.Reads.{Placed}
use Rattle.h5_open.specs.declared.opened.object.OpenedObject.{OpenedObject}
use Rattle.h5_open.specs.declared.opened.object.OpenedContent.{OpenedContent}
use Rattle.h5_open.specs.declared.opened.object.OpenedContent.TheVariants as content
use Rattle.h5_open.specs.Opened.Kept.{IsObjectKept}
use Rattle.h5_open.specs.Opened.Objects.{slots_of, headers, table_of, content_links, object_in, object_blocks, opened_blocks}

abbrev pub IsGroupContent : OpenedContent → Type 0
IsGroupContent (content.Group table) = Unit {0}
IsGroupContent content.Array = ⊥

-- a hard link leads to one of these objects, and this holds of it
abbrev pub IsLedTo : List OpenedObject → (OpenedObject → Type 0) → (List ℕ × Target) → Type 0
IsLedTo objects Holds (name, Header header) = (o : OpenedObject) × Contains objects o × (o.messages.header ≡ header) × Holds o
IsLedTo objects Holds (name, Text text) = Unit {0}

-- The object's links, and those of the objects to which they lead, lead to these objects; no path through them has more names than this.
abbrev pub HasHeight : List ℕ → List OpenedObject → ℕ → OpenedObject → Type 0
HasHeight image objects zero o = content_links image o.content ≡ []
HasHeight image objects (suc height) o = AllByRecursion (IsLedTo objects (HasHeight image objects height)) (content_links image o.content)

-- a link leads to an object of this height
abbrev pub IsLed : List ℕ → List OpenedObject → ℕ → (List ℕ × Target) → Type 0
IsLed image objects height link = IsLedTo objects (HasHeight image objects height) link

abbrev pub AreLed : List ℕ → List OpenedObject → OpenedObject → Type 0
AreLed image objects o = (height : ℕ) × HasHeight image objects height o

-- one of the objects before has a link to the header
abbrev pub HasParent : List ℕ → List OpenedObject → ℕ → Type 0
HasParent image before header = (p : OpenedObject) × Contains before p × ((name : List ℕ) × Contains (content_links image p.content) (name, Header header))

-- each object but the first is named by one before it
abbrev pub AreNamed : List ℕ → List OpenedObject → List OpenedObject → Type 0
AreNamed image before [] = Unit {0}
AreNamed image before (o ∷ objects) = ((before ≡ []) ⊎ HasParent image before o.messages.header) × AreNamed image (before ++ o ∷ []) objects

-- the root comes first
pub record BeginsAtRoot (image : List ℕ) (objects : List OpenedObject) : Type 0 where
  pub root : OpenedObject
  pub others : List OpenedObject
  pub is : objects ≡ root ∷ others
  pub at_root : root.messages.header ≡ root_header image
  pub group : IsGroupContent root.content

-- each link leads to one of the objects, and no path from the root has more than 64 names
pub record IsWholeImage (image : List ℕ) (objects : List OpenedObject) : Type 0 where
  pub superblock : IsSuperblock image
  pub whole : end_of_file image ≡ length image
  pub begins : BeginsAtRoot image objects
  pub each : AllByRecursion (IsObjectKept image) objects
  pub distinct : IsDistinct (eq_by_cmp nat_cmp) (headers objects)
  pub led : AllByRecursion (AreLed image objects) objects
  pub shallow : HasHeight image objects most_names begins.root
  pub parents : AreNamed image [] objects
  pub apart : Separate (opened_blocks image objects)
  pub within : Inside (length image) (opened_blocks image objects)

-- the objects with their numbers, from n on, as a reading of the image with a table of headers places them
abbrev pub placed_from : List ℕ → FinMap nat_cmp ℕ → ℕ → List OpenedObject → List Placed
placed_from image table n [] = []
placed_from image table n (o ∷ objects) =
    record { number = n; header = o.messages.header; object = object_in image table o; blocks = object_blocks image o }
    ∷ placed_from image table (n + 1) objects

abbrev pub placed_of : List ℕ → List OpenedObject → List Placed
placed_of image objects = placed_from image (table_of (slots_of objects)) 0 objects
