-- Cells of a compact array that are written all at once: what that makes of an opened image.
use Rattle.std.proofs.Common.{◌≡◌, ℕ, ◌+◌, ◌*◌, ◌≤◌, ◌==◌, List, length, sym, ap, ◌∙◌, subst, arith, Option, Some, ℤ, true}
use Rattle.std.specs.Prelude.{slice_get}
use Rattle.std.specs.BTreeMap.{BTreeMap}
use Rattle.std.specs.List.{find}
use Rattle.h5_model.specs.Format.MessageTypes.{data_layout_kind}
use Rattle.h5_bytes.specs.declared.Block.{Block}
use Rattle.h5_model.specs.Format.Fixed.{IsFixed}
use Rattle.h5_model.specs.Format.Layout.{Layout, InMessage}
use Rattle.h5_model.specs.Format.Plain.{cells_bytes}
use Rattle.h5_model.specs.Format.Described.{Described}
use Rattle.h5_model.specs.Tree.Objects.{Dataset}
use Rattle.h5_space.specs.Lending.{with_bytes_at}
use Rattle.h5_space.specs.Space.{Space}
use Rattle.h5_header.specs.declared.message.Message.{Message as Listed}
use Rattle.h5_header.specs.Listed.{messages_in}
use Rattle.h5_layout.specs.CellPlaces.{ArePlacesOf, KeptPlaces}
use Rattle.h5_layout.specs.Compact.{compact_at}
use Rattle.h5_layout.specs.Told.{array_told}
use Rattle.h5_layout.proofs.PlacesWritten.{compact_places}
use Rattle.h5_layout.specs.Data.{stored_chunks}
use Rattle.h5_layout.proofs.CompactWritten.{compact_message}
use Rattle.h5_layout.specs.Standing.{blocks_with_cells, cell_blocks, is_stored_cell}
use Rattle.h5_open.specs.declared.opened.object.OpenedObject.{OpenedObject}
use Rattle.h5_open.specs.declared.opened.object.OpenedContent.TheVariants as content
use Rattle.h5_open.specs.Opened.Kept.{IsOpened}
use Rattle.h5_open.specs.Opened.State.{opened_state}
use Rattle.h5_open.specs.Written.{AreCellsWritten, IsKeptOutside, IsStoredRun}
use Rattle.h5_open.proofs.CompactOpened.{IsCompactWritten, compact_within, compact_written}
use Rattle.h5_open.proofs.StandingOpened.{all_of_type, array_is, array_there, blocks_are, it, kind, room, told}

module _ (old : Space) (slots : List (Option OpenedObject)) (numbers : BTreeMap ℕ ℕ) (opened : IsOpened old slots numbers) (number : ℕ) (p : OpenedObject)
    (stands : slice_get slots number ≡ Some (Some p)) (d : Dataset) (place : ℕ) (values : List ℤ) (run : IsStoredRun (opened_state old slots) number place values d)
    (bytes : List ℕ) (laid : (it old slots numbers opened number p stands d place values run).layout ≡ InMessage bytes)
    (base : ℕ) (there : compact_at p.messages.list ≡ Some base) where
  abbrev a : Described
  a = it old slots numbers opened number p stands d place values run

  x : (x : Listed) × (find (λ (m : Listed). m.kind == data_layout_kind) p.messages.list ≡ Some x) × (x.at + 4 ≡ base)
  x = compact_message p.messages.list base there

  array : p.content ≡ content.Array
  array = kind old slots numbers opened number p stands d place values run

  -- the cells lie in the image
  pub run_inside : base + place * (it old slots numbers opened number p stands d place values run).fixed.size
      + length values * (it old slots numbers opened number p stands d place values run).fixed.size ≤ length old.bytes
  run_inside =
      let low = compact_within old slots numbers opened number p stands array bytes laid x.0 x.1 place values (room old slots numbers opened number p stands d place values run) in
      omega (arith, low, x.2)

  module _ (fixed : IsFixed a.fixed) (new : Space) (wrote : new ≡ with_bytes_at old (base + place * a.fixed.size) (cells_bytes a.fixed values)) where
    all_written : IsCompactWritten old new slots numbers number place values p
    all_written = subst (λ (s : Space). IsCompactWritten old s slots numbers number place values p)
        (ap (λ (at : ℕ). with_bytes_at old (at + place * a.fixed.size) (cells_bytes a.fixed values)) x.2 ∙ sym wrote)
        (compact_written old slots numbers opened number p stands array bytes laid x.0 x.1 place values (room old slots numbers opened number p stands d place values run) fixed
        (all_of_type old slots numbers opened number p stands d place values run))

    pub run_opened : IsOpened new slots numbers
    run_opened = all_written.opened

    abbrev b : Described
    b = told new slots numbers run_opened number p stands

    blocks_old : (header : List Block) → cell_blocks old.bytes a header ≡ header
    blocks_old header = ap (λ (l : Layout). blocks_with_cells a.fixed l (stored_chunks old.bytes a.fixed l) header) laid

    blocks_new : (header : List Block) → cell_blocks new.bytes b header ≡ header
    blocks_new header = ap (λ (l : Layout). blocks_with_cells b.fixed l (stored_chunks new.bytes b.fixed l) header) all_written.laid

    -- what was written
    pub run_written : AreCellsWritten (opened_state old slots) number place values (opened_state new slots)
    run_written = record {
      changed = all_written.state;
      k = all_written.k;
      whole = all_written.whole;
      in_place = all_written.in_place;
      stored = λ q was c its.
          subst (λ (e : Described). is_stored_cell new.bytes e q ≡ true) (sym (array_is new slots numbers run_opened number p stands c its))
          (ap (λ (l : Layout). is_stored_cell new.bytes (record b { layout = l }) q) all_written.laid);
      local = λ c its.
          let own = blocks_are old slots numbers opened number p stands c its in
          let same : cell_blocks old.bytes c its.blocks ≡ p.messages.blocks
          = ap (λ (e : Described). cell_blocks old.bytes e its.blocks) (array_is old slots numbers opened number p stands c its) ∙ blocks_old its.blocks ∙ own in
          subst (IsKeptOutside old.bytes new.bytes) (sym same) all_written.local;
      again = λ c its.
          let own = blocks_are old slots numbers opened number p stands c its in
          let same : cell_blocks old.bytes c its.blocks ≡ p.messages.blocks
          = ap (λ (e : Described). cell_blocks old.bytes e its.blocks) (array_is old slots numbers opened number p stands c its) ∙ blocks_old its.blocks ∙ own in
          let now = array_there new slots numbers run_opened number p stands array in
          (b, now, blocks_new now.blocks ∙ blocks_are new slots numbers run_opened number p stands b now ∙ sym same);
    }

    -- the cells stand where they stood
    pub run_places : (places : KeptPlaces) → ArePlacesOf old.bytes p.messages.list a places
        → ArePlacesOf new.bytes p.messages.list (array_told (messages_in new.bytes p.messages.list)) places
    run_places places was =
        compact_places old.bytes new.bytes p.messages.list a b places bytes all_written.bytes all_written.local.long laid all_written.laid all_written.fixed all_written.sizes was
