-- What a repack of an opened image makes: the image of the same tree, written anew, how long it is and which chunks are stored in it; and when
-- it is refused (File Format Specification 3.0, sections II.A, III and IV.A).
use Rattle.std.specs.Prelude.{◌≡◌, ℕ, ◌<◌, ◌≤◌, Option, Some, List, length}
use Rattle.std.specs.FinMap.{get}
use Rattle.h5_layout.specs.HeldChunks.{held_chunks}
use Rattle.h5_layout.specs.StoredAt.{HasStoredChunks}
use Rattle.h5_model.specs.Format.Chunks.{Chunks}
use Rattle.h5_model.specs.Format.Limits.{most_bytes, most_numbers}
use Rattle.h5_model.specs.Format.PlainLength.{plain_length}
use Rattle.h5_model.specs.Format.Superblock.{k_values}
use Rattle.h5_model.specs.Tree.Objects.{Dataset, Chunked, dataset_of}
use Rattle.h5_model.specs.declared.edit_fault.EditFault.{EditFault}
use Rattle.h5_model.specs.declared.edit_fault.EditFault.TheVariants as fault
use Rattle.h5_query.specs.Opened.State.{FileState}
use Rattle.h5_query.specs.Renumbered.Headers.{table_with}
use Rattle.h5_repack.specs.Bodies.Laws.{IsPlainReading}
use Rattle.h5_repack.specs.Image.Written.{StoredIn, counts_of}
use Rattle.h5_edit.specs.declared.made.Made.{Made}

-- ---- the length

-- If the object of this number is an array in chunks, it has a header, and these are the offsets of the chunks that are stored there and hold a
-- cell of its extent, ascending.
abbrev pub AreStoredAt : FileState → ℕ → List (List ℕ) → Type 0
AreStoredAt f number offsets =
    (d : Dataset) → dataset_of f.tree number ≡ Some d → (chunk : List ℕ) → d.storage ≡ Chunked chunk → (header : ℕ) × (chunks : Chunks)
    × (get f.table number ≡ Some header) × HasStoredChunks f.image header chunks × (offsets ≡ held_chunks d.sizes chunks)

-- the image of the file's tree, written anew with these chunks, has so many bytes
pub record HasLengthAnew (f : FileState) (bytes : ℕ) : Type 0 where
  pub stored : StoredIn
  pub chunks : (number : ℕ) → AreStoredAt f number (stored number)
  pub counted : bytes ≡ plain_length (k_values f.image) (counts_of stored) f.tree

-- ---- a repack

-- The image reads as the file's tree, without gaps, and keeps the version of the superblock and all K values. These are the headers of its
-- objects by their numbers, with a place for each number that was given out.
pub record IsAnew (f : FileState) (image : List ℕ) (headers : List (Option ℕ)) : Type 0 where
  pub reads : IsPlainReading image (k_values f.image) (table_with headers) f.tree
  pub numbered : length headers ≡ f.next
  pub few : f.next ≤ most_numbers

-- the same tree is written anew, with the numbers of its objects as before, in at most 2^31 bytes
pub record IsRepackMade (f : FileState) (made : Made) : Type 0 where
  pub anew : IsAnew f made.image.items made.headers.items
  pub long : HasLengthAnew f (length made.image.items)
  pub few : length made.image.items ≤ most_bytes

-- the image would pass 2^31 bytes, or memory was refused
abbrev pub IsRepackRefused : FileState → EditFault → Type 0
IsRepackRefused f fault.ImageFull = (bytes : ℕ) × HasLengthAnew f bytes × (most_bytes < bytes)
IsRepackRefused f fault.NoMemory = Unit {0}
IsRepackRefused f _ = ⊥
