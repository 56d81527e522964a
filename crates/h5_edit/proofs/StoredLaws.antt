-- Which chunks are stored in an image that is written anew of an opened one, and how long it is (File Format Specification 3.0, sections
-- III.A.1 and IV.A.2.i).
use Rattle.std.proofs.Common.{◌≡◌, ℕ, List, [], Option, Some, None, refl, sym, ap, ◌∙◌}
use Rattle.std.proofs.lemmas.Option.{same_Some}
use Rattle.std.specs.Prelude.{option_and_then}
use Rattle.std.specs.FinMap.{get}
use Rattle.h5_layout.specs.HeldChunks.{held_chunks}
use Rattle.h5_layout.specs.StoredAt.{HasStoredChunks}
use Rattle.h5_model.specs.Format.PlainLength.{plain_length}
use Rattle.h5_model.specs.Format.Reads.{HasContent}
use Rattle.h5_model.specs.Format.Superblock.{k_values}
use Rattle.h5_model.specs.Tree.Objects.{Tree, Object, Content, Group, Array, Dataset, dataset_in, dataset_of}
use Rattle.h5_query.specs.Opened.Sound.{IsSound}
use Rattle.h5_query.specs.Opened.State.{FileState}
use Rattle.h5_repack.specs.Image.Written.{StoredIn, counts_of}
use Rattle.h5_edit.specs.Repacked.{AreStoredAt, HasLengthAnew}
use Rattle.h5_edit.proofs.ChangedLaws.StoredSlots.{none_at}
use Rattle.h5_edit.proofs.FitLaws.OpenedTrees.{IsRead, object_read}

-- the dataset of a number, by the object's content
pub dataset_is : (tree : Tree) (number : ℕ) (o : Object) (c : Content) → get tree number ≡ Some o → o.content ≡ c → dataset_of tree number ≡ dataset_in c
dataset_is tree number o c there is = ap (option_and_then (λ (x : Object). dataset_in x.content)) there ∙ ap dataset_in is

module _ (f : FileState) (sound : IsSound f) where
  -- ---- what is stored of an array, by its number

  abbrev CanStore : ℕ → Type 0
  CanStore number = (offsets : List (List ℕ)) × AreStoredAt f number offsets

  read_stored : (number : ℕ) (o : Object) (there : get f.tree number ≡ Some o) (r : IsRead f sound number o there) (c : Content) → o.content ≡ c
      → HasContent f.image f.table r.has.messages c r.has.content_blocks → CanStore number
  read_stored number o there r (Group links) is has = (
    [],
    λ d array. absurd (let never : None ≡ Some d = sym (dataset_is f.tree number o (Group links) there is) ∙ array in cc),
  )
  read_stored number o there r (Array e) is has =
      let chunks : HasStoredChunks f.image r.header has.chunks = record {
        messages = r.has.messages;
        header_blocks = r.has.header_blocks;
        listed = r.has.listed;
        dataset = e;
        data_blocks = r.has.content_blocks;
        array = has;
        chunks_are = refl;
      } in (
        held_chunks e.sizes has.chunks,
        λ d array chunk chunked.
            let same : e ≡ d = same_Some e d (sym (dataset_is f.tree number o (Array e) there is) ∙ array) in
            (r.header, has.chunks, r.listed, chunks, ap (λ (x : Dataset). held_chunks x.sizes has.chunks) same),
      )

  stored_by : (number : ℕ) (found : Option Object) → get f.tree number ≡ found → CanStore number
  stored_by number None none = ([], none_at f number [] none)
  stored_by number (Some o) there = let r = object_read f sound number o there in read_stored number o there r o.content refl r.has.content

  -- ---- of all

  stored_there : (stored : StoredIn) × ((number : ℕ) → AreStoredAt f number (stored number))
  stored_there = (λ number. (stored_by number (get f.tree number) refl).0, λ number. (stored_by number (get f.tree number) refl).1)

-- the image that is written anew has a length
pub length_there : (f : FileState) → IsSound f → (bytes : ℕ) × HasLengthAnew f bytes
length_there f sound =
    let there = stored_there f sound in (
      plain_length (k_values f.image) (counts_of there.0) f.tree,
      record { stored = there.0; chunks = there.1; counted = refl },
    )
