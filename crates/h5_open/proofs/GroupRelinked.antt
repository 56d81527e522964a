-- A group of an opened image whose links were changed where it stands: what is kept of it stands in the image, and its object is as it was
-- but for its links.
use Rattle.std.proofs.Common.{◌≡◌, ℕ, ◌+◌, ◌≤◌, List, [], ◌∷◌, ◌++◌, length, Option, Some}
use Rattle.std.specs.Prelude.{slice_get}
use Rattle.std.specs.BTreeMap.{BTreeMap}
use Rattle.std.specs.List.{Contains, flat_map}
use Rattle.h5_bytes.specs.Blocks.{cover}
use Rattle.h5_bytes.specs.declared.Block.{Block}
use Rattle.h5_model.specs.Edits.Applied.{with_links}
use Rattle.h5_model.specs.Format.Addresses.{SymbolTable}
use Rattle.h5_model.specs.Format.Limits.{most_bytes}
use Rattle.h5_model.specs.Format.Messages.{prefix_at, reference_count}
use Rattle.h5_model.specs.Format.Superblock.{k_values, end_of_file, end_field}
use Rattle.h5_model.specs.Format.Symbols.{Header}
use Rattle.h5_model.specs.Tree.Objects.{Links}
use Rattle.h5_space.specs.Moves.{Moves}
use Rattle.h5_space.specs.Space.{Space}
use Rattle.h5_group.specs.Exact.{HasExactKeys}
use Rattle.h5_group.specs.Links.{IsGroupRead}
use Rattle.h5_group.specs.Told.{blocks_told, links_told}
use Rattle.h5_open.specs.declared.opened.object.OpenedObject.{OpenedObject}
use Rattle.h5_open.specs.declared.opened.object.OpenedContent.TheVariants as content
use Rattle.h5_open.specs.Opened.Kept.{IsOpened}
use Rattle.h5_open.specs.Opened.Objects.{header_of, links_by, object_blocks, object_in, objects_of, table_of}
use Rattle.h5_open.specs.Opened.Sound.{IsHeaderIn}
use Rattle.h5_open.proofs.GroupWritten.{IsGroupWritten, written_both, written_count, written_grown, written_k, written_moves, written_object}

-- The links of a group were changed, then the bytes of these other blocks were written, and the end of file address.
pub record IsGroupRelinked (old mid new : Space) (slots : List (Option OpenedObject)) (parent : ℕ) (p : OpenedObject) (t : SymbolTable) (written : List Block)
    (change : Links → Links) : Type 0 where
  pub group : slice_get slots parent ≡ Some (Some p)
  pub kind : p.content ≡ content.Group t
  pub links : links_by (table_of slots) (links_told mid.bytes t) ≡ change (links_by (table_of slots) (links_told old.bytes t))
  pub read : IsGroupRead mid.bytes t
  pub exact : HasExactKeys old.bytes t → HasExactKeys mid.bytes t
  pub k : k_values mid.bytes ≡ k_values old.bytes
  pub moves : Moves old mid (blocks_told old.bytes t) (blocks_told mid.bytes t)
  pub later : Moves mid new (end_field mid.bytes ∷ written) (end_field new.bytes ∷ written)
  pub beside : (q : ℕ) → cover q written + cover q (object_blocks old.bytes p) ≤ cover q (flat_map (object_blocks old.bytes) (objects_of slots))
  pub led : (name : List ℕ) (h : ℕ) → Contains (links_told mid.bytes t) (name, Header h) → IsHeaderIn (table_of slots) h
  pub end : end_of_file new.bytes ≡ length new.bytes
  pub small : length new.bytes ≤ most_bytes

module _ (old mid new : Space) (slots : List (Option OpenedObject)) (numbers : BTreeMap ℕ ℕ) (opened : IsOpened old slots numbers) (parent : ℕ) (p : OpenedObject) (t : SymbolTable)
    (written : List Block) (change : Links → Links) (is : IsGroupRelinked old mid new slots parent p t written change) where
  -- no block was taken beside
  abbrev pub relinked_written : IsGroupWritten old mid new slots parent p t [] written
  relinked_written = record {
    group = is.group;
    kind = is.kind;
    read = is.read;
    exact = is.exact;
    k = is.k;
    moves = is.moves;
    later = is.later;
    beside = is.beside;
  }

  abbrev pub rest : List Block
  rest = end_field old.bytes ∷ written

  pub both_moves : Moves old new (blocks_told old.bytes t ++ rest) (blocks_told mid.bytes t ++ (end_field new.bytes ∷ written))
  both_moves = written_both old mid new slots numbers opened parent p t [] written relinked_written

  pub linked_grown : length old.bytes ≤ length new.bytes
  linked_grown = written_grown old mid new slots numbers opened parent p t [] written relinked_written

  pub linked_k : k_values new.bytes ≡ k_values old.bytes
  linked_k = written_k old mid new slots numbers opened parent p t [] written relinked_written

  pub count_stays : reference_count (prefix_at new.bytes (header_of p)) ≡ reference_count (prefix_at old.bytes (header_of p))
  count_stays = written_count old mid new slots numbers opened parent p t [] written relinked_written

  -- with the blocks beside it
  pub linked_moves : Moves old new (end_field old.bytes ∷ (object_blocks old.bytes p ++ written)) (end_field new.bytes ∷ (object_blocks new.bytes p ++ written))
  linked_moves = written_moves old mid new slots numbers opened parent p t [] written relinked_written

  pub linked_object : object_in new.bytes (table_of slots) p ≡ with_links change (object_in old.bytes (table_of slots) p)
  linked_object = written_object old mid new slots numbers opened parent p t [] written relinked_written (table_of slots) (table_of slots) change is.links
