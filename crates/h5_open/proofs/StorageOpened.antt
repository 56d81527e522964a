-- An opened image in which storage was made for the cells of an array, where the array stands: it is opened as it is now, and in the tree
-- that array alone is another.
use Rattle.std.proofs.Common.{◌≡◌, ℕ, ◌+◌, ◌≤◌, true, false, List, [], ◌∷◌, length, refl, sym, ap, ◌∙◌, subst, Option, Some, arith}
use Rattle.std.specs.FinMap.{get}
use Rattle.std.specs.Prelude.{not, slice_get, slice_index_or}
use Rattle.std.specs.BTreeMap.{BTreeMap}
use Rattle.std.specs.List.{Contains}
use Rattle.std.proofs.lemmas.Bool.{not-false}
use Rattle.h5_model.specs.Edits.Applied.{with_dataset}
use Rattle.h5_model.specs.Edits.Refusal.{is_chunked}
use Rattle.h5_model.specs.Format.Chunks.{Chunks}
use Rattle.h5_model.specs.Format.Limits.{most_bytes}
use Rattle.h5_model.specs.Format.Messages.{Message}
use Rattle.h5_model.specs.Format.Superblock.{end_of_file, end_field}
use Rattle.h5_model.specs.Format.Described.{storage_of, Described}
use Rattle.h5_model.specs.Tree.Objects.{Chunked, Compact, Contiguous, Dataset, Storage, with_object}
use Rattle.h5_model.specs.Tree.Places.{index_of}
use Rattle.h5_model.specs.Views.Selection.{Slab, selection_of}
use Rattle.h5_model.proofs.KLaws.{same_chunk}
use Rattle.h5_space.specs.Moves.{Moves}
use Rattle.h5_space.specs.Space.{Space}
use Rattle.h5_header.specs.Listed.{messages_in}
use Rattle.h5_laws.proofs.Lists.{in_contains}
use Rattle.h5_laws.proofs.SoundLaws.NewPaths.{none_any}
use Rattle.h5_layout.specs.Data.{stored_chunks}
use Rattle.h5_layout.specs.Standing.{is_stored_cell, is_stored_in}
use Rattle.h5_layout.specs.Told.{array_told, layout_told, type_told}
use Rattle.h5_layout.specs.declared.lacking.Missing.{Missing}
use Rattle.h5_layout.specs.declared.lacking.Missing.TheVariants as missed
use Rattle.h5_open.specs.declared.opened.object.OpenedObject.{OpenedObject}
use Rattle.h5_open.specs.declared.opened.object.OpenedContent.TheVariants as content
use Rattle.h5_layout.specs.Lacking.{lacks_cells, stored_all, stored_storage}
use Rattle.h5_layout.specs.RunStorage.{IsMadeAt}
use Rattle.h5_layout.specs.Storage.{IsStorageMade}
use Rattle.h5_layout.proofs.RunStorageLaws.{made_inside}
use Rattle.h5_open.specs.ChangedInPlace.{IsChangedInPlace}
use Rattle.h5_open.specs.Opened.Kept.{IsContentTidy, IsOpened}
use Rattle.h5_open.specs.Opened.Objects.{tree_of}
use Rattle.h5_open.specs.Opened.State.{opened_state}
use Rattle.h5_open.specs.Written.{IsArrayThere, IsCellStored}
use Rattle.h5_open.proofs.ArrayEdited.{IsArrayEdited, edited_changed, edited_data_stays, edited_k_stays, edited_list_stays, edited_opened}
use Rattle.h5_open.proofs.DataLaws.{stored_chunks-same}
use Rattle.h5_open.proofs.OpenedLaws.Sounds.{object_of}
use Rattle.h5_open.proofs.StandingOpened.{array_is}

-- ---- cells that are stored

-- where no selected cell lacks storage, each is stored
all_stored : (image : List ℕ) (a : Described) (slab : Slab) → lacks_cells image a slab ≡ false
    → (place : ℕ) → Contains (selection_of a.sizes slab) place → is_stored_cell image a place ≡ true
all_stored image a slab none place at =
    not-false (is_stored_cell image a place)
    (none_any (λ (q : ℕ). not (is_stored_cell image a q)) (selection_of a.sizes slab) place none (in_contains place (selection_of a.sizes slab) at))

-- storage that is made leaves an array in chunks, or out of them
stored_chunked : (sizes : List ℕ) (s : Storage) → is_chunked (stored_storage sizes s) ≡ is_chunked s
stored_chunked sizes Compact = refl
stored_chunked sizes (Contiguous stored) = refl
stored_chunked sizes (Chunked chunk) = refl

-- ---- the array

module _ (old : Space) (slots : List (Option OpenedObject)) (numbers : BTreeMap ℕ ℕ) (opened : IsOpened old slots numbers) (number : ℕ) (p : OpenedObject)
    (at : slice_get slots number ≡ Some (Some p)) (kind : p.content ≡ content.Array) where
  abbrev ms : List Message
  ms = messages_in old.bytes p.messages.list

  -- storage was made, and then the end of file address was written
  module _ (mid new : Space) (slab : Slab) (missing : Missing) (made : IsStorageMade old mid p.messages slab missing)
      (ended : Moves mid new (end_field mid.bytes ∷ []) (end_field new.bytes ∷ [])) (end : end_of_file new.bytes ≡ length new.bytes)
      (long : length new.bytes ≡ length mid.bytes) (small : length mid.bytes ≤ most_bytes) where
    abbrev mid_ms : List Message
    mid_ms = messages_in mid.bytes p.messages.list

    -- it was in chunks, if it is now
    chunked_before : is_chunked (storage_of (array_told mid_ms).sizes (array_told mid_ms).layout) ≡ true
        → is_chunked (storage_of (array_told ms).sizes (array_told ms).layout) ≡ true
    chunked_before chunked =
        sym (stored_chunked (array_told ms).sizes (storage_of (array_told ms).sizes (array_told ms).layout))
        ∙ sym (ap (λ (d : Dataset). is_chunked d.storage) made.dataset) ∙ chunked

    edited : IsArrayEdited old mid new slots slots number p p stored_all
    edited = record {
      before = at;
      after = at;
      others = λ n out. refl;
      as_many = refl;
      kind = kind;
      content = kind;
      room = p.messages.room;
      moved = made.moved;
      dataset = made.dataset;
      trimmed = λ known chunked.
          let before = chunked_before chunked in
          let was : IsContentTidy old.bytes ms content.Array
          = subst (IsContentTidy old.bytes ms) kind ((object_of old slots numbers opened number p at).kept.tidy known) in
          made.trimmed before (was before);
      ended = ended;
      end = end;
      long = long;
      small = small;
    }

    pub storage_opened : IsOpened new slots numbers
    storage_opened = edited_opened old slots numbers opened number p at kind mid new slots p stored_all edited

    pub storage_changed : (bytes : ℕ) → length new.bytes ≤ length old.bytes + bytes
        → IsChangedInPlace (opened_state old slots) (opened_state new slots) (with_object (tree_of old.bytes slots) number (with_dataset stored_all))
        (length slots) (number ∷ []) bytes
    storage_changed = edited_changed old slots numbers opened number p at kind mid new slots p stored_all edited

    chunks_are : stored_chunks new.bytes (type_told mid_ms) (layout_told mid_ms) ≡ stored_chunks mid.bytes (type_told mid_ms) (layout_told mid_ms)
    chunks_are =
        let data_stays = edited_data_stays old slots numbers opened number p at kind mid new slots p stored_all edited in
        let k_stays = edited_k_stays old slots numbers opened number p at kind mid new slots p stored_all edited in
        stored_chunks-same mid.bytes new.bytes ended.grown (same_chunk new.bytes mid.bytes k_stays) (type_told mid_ms) (layout_told mid_ms) made.moved.stand.read data_stays

    array_again : (b : Described) → IsArrayThere (opened_state new slots) number b → b ≡ array_told mid_ms
    array_again b there =
        array_is new slots numbers storage_opened number p at b there
        ∙ ap array_told (edited_list_stays old slots numbers opened number p at kind mid new slots p stored_all edited)

    -- each selected cell is stored
    pub storage_stored : (place : ℕ) → Contains (selection_of (array_told ms).sizes slab) place → IsCellStored (opened_state new slots) number place
    storage_stored place chosen b there =
        let sizes_are : (array_told mid_ms).sizes ≡ (array_told ms).sizes = ap (λ (a : Described). a.sizes) made.told in
        let stored_mid = all_stored mid.bytes (array_told mid_ms) slab made.stored place
        (subst (λ (sizes : List ℕ). Contains (selection_of sizes slab) place) (sym sizes_are) chosen) in
        ap (λ (a : Described). is_stored_cell new.bytes a place) (array_again b there)
        ∙ ap (λ (c : Chunks). is_stored_in (layout_told mid_ms) c (index_of (array_told mid_ms).sizes place)) chunks_are
        ∙ stored_mid

    -- and the first block or chunk that was made is where it was
    pub storage_placed : (place : ℕ) → IsMadeAt mid.bytes (array_told mid_ms) missing place
        → (b : Described) → IsArrayThere (opened_state new slots) number b → IsMadeAt new.bytes b missing place × (place ≤ length new.bytes)
    storage_placed place placed b there =
        let inside = made_inside mid.bytes (array_told mid_ms) missing place made.moved.stand.read placed in (
          subst (λ (a : Described). IsMadeAt new.bytes a missing place) (sym (array_again b there)) (same_place missing placed),
          omega (arith, inside, long),
        ) where
          same_place : (m : Missing) → IsMadeAt mid.bytes (array_told mid_ms) m place → IsMadeAt new.bytes (array_told mid_ms) m place
          same_place missed.Block is = is
          same_place (missed.Chunks array chunks) is = ap (λ (c : Chunks). get c (slice_index_or chunks.offsets 0 [])) chunks_are ∙ is
