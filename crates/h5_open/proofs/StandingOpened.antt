-- An opened image in which cells of an array were written where they stand, in a block or in a chunk.
use Rattle.std.proofs.Common.{◌≡◌, ℕ, ◌+◌, ◌*◌, ◌<◌, ◌≤◌, List, ◌∷◌, length, take, drop, sym, ap, ◌∙◌, subst, arith, inl, inr, Option, Some, ℤ, true}
use Rattle.std.specs.Prelude.{slice_get}
use Rattle.std.specs.BTreeMap.{BTreeMap}
use Rattle.std.specs.List.{list_all}
use Rattle.std.specs.Option.{option_and_then}
use Rattle.std.proofs.lemmas.Bool.{cases_lt}
use Rattle.std.proofs.lemmas.List.{places, take-append-drop}
use Rattle.std.proofs.lemmas.Option.{same_Some}
use Rattle.h5_bytes.specs.Blocks.{block, cover, holds, Keeps}
use Rattle.h5_bytes.specs.Bytes.{byte_at, with_part}
use Rattle.h5_bytes.specs.declared.Block.{Block}
use Rattle.h5_bytes.proofs.BlockLaws.{holds_in}
use Rattle.h5_bytes.proofs.PartLaws.{length-with_part}
use Rattle.h5_model.specs.Format.Chunks.{Chunks}
use Rattle.h5_model.specs.Format.Fixed.{IsFixed, fits}
use Rattle.h5_model.specs.Format.Limits.{most_cells}
use Rattle.h5_model.specs.Format.Messages.{Message, HasMessages, continuations, first_size, prefix_at}
use Rattle.h5_model.specs.Format.Plain.{cells_bytes}
use Rattle.h5_model.specs.Format.Described.{Described, HasArray}
use Rattle.h5_model.specs.Tree.Objects.{Dataset, Object, dataset_in}
use Rattle.h5_model.specs.Tree.Places.{cells, index_of}
use Rattle.h5_model.proofs.Frames.{messages-same}
use Rattle.h5_model.proofs.OneReading.{one_messages}
use Rattle.h5_model.proofs.DescribedLaws.{one_array}
use Rattle.h5_space.specs.Lending.{with_bytes_at}
use Rattle.h5_space.specs.Moves.{Moves}
use Rattle.h5_space.specs.Space.{Space}
use Rattle.h5_space.proofs.MovesLaws.{byte-with_part}
use Rattle.h5_header.specs.Listed.{messages_in}
use Rattle.h5_header.proofs.BesideLaws.{moves_covered}
use Rattle.h5_layout.specs.CellPlaces.{ArePlacesOf, KeptPlaces}
use Rattle.h5_layout.specs.Data.{dataset_told, stored_chunks}
use Rattle.h5_layout.specs.Standing.{IsStandingAt, blocks_with_cells, cell_blocks, is_stored_cell, is_stored_in}
use Rattle.h5_layout.specs.Told.{array_told}
use Rattle.h5_layout.proofs.PlacesWritten.{stored_places}
use Rattle.h5_layout.proofs.StandingWritten.{parts_of_type, stored_among, stored_blocks_stay, stored_chunks_stay, stored_covered, stored_fit, stored_inside, stored_long, stored_read, stored_told}
use Rattle.h5_layout.proofs.StandsAt.{cells_low}
use Rattle.h5_open.specs.declared.opened.object.OpenedObject.{OpenedObject}
use Rattle.h5_open.specs.declared.opened.object.OpenedContent.{OpenedContent}
use Rattle.h5_open.specs.declared.opened.object.OpenedContent.TheVariants as content
use Rattle.h5_open.specs.Opened.Kept.{IsOpened}
use Rattle.h5_open.specs.Opened.Objects.{content_in, table_of}
use Rattle.h5_open.specs.Opened.State.{FileState, opened_state}
use Rattle.h5_open.specs.Written.{with_run, AreCellsWritten, IsArrayThere, IsKeptOutside, IsStoredRun}
use Rattle.h5_open.proofs.TrimmedWritten.{written_trimmed}
use Rattle.h5_open.proofs.ArrayOpened.{array_changed, array_content, data_once, header_kept, its_blocks, kept_array, ms, of, same_messages, slot_there, still_opened}
use Rattle.h5_open.proofs.OpenedLaws.Sounds.{superblock_whole}

module _ (image : Space) (slots : List (Option OpenedObject)) (numbers : BTreeMap ℕ ℕ) (opened : IsOpened image slots numbers) (number : ℕ) (p : OpenedObject)
    (stands : slice_get slots number ≡ Some (Some p)) where
  abbrev list : List Message
  list = ms image slots numbers opened number p stands

  abbrev pub told : Described
  told = array_told list

  listed : HasMessages image.bytes p.messages.header list p.messages.blocks
  listed = (of image slots numbers opened number p stands).kept.header.has

  -- an array of the tree is the one that is told
  module _ (a : Described) (there : IsArrayThere (opened_state image slots) number a) where
    pub is_array : p.content ≡ content.Array
    is_array = (kept_array image slots numbers opened number p stands _ there.told).0

    header_is : there.header ≡ p.messages.header
    header_is = same_Some there.header p.messages.header (sym there.at ∙ (of image slots numbers opened number p stands).header)

    messages_are : there.messages ≡ list
    messages_are = one_messages image.bytes there.header there.messages list there.blocks p.messages.blocks there.listed
        (subst (λ (h : ℕ). HasMessages image.bytes h list p.messages.blocks) (sym header_is) listed)

    pub blocks_are : there.blocks ≡ p.messages.blocks
    blocks_are =
        there.listed.laid
        ∙ (λ i. block (header_is i) (16 + first_size (prefix_at image.bytes (header_is i))) ∷ continuations (messages_are i))
        ∙ sym listed.laid

    pub array_is : a ≡ told
    array_is = one_array list a told (subst (λ (ms : List Message). HasArray ms a) messages_are there.described)
        (array_content image slots numbers opened number p stands is_array).0.array

  -- and that one is there
  module _ (kind : p.content ≡ content.Array) where
    pub array_there : IsArrayThere (opened_state image slots) number told
    array_there = record {
      header = p.messages.header;
      at = (of image slots numbers opened number p stands).header;
      messages = list;
      blocks = p.messages.blocks;
      listed = listed;
      described = (array_content image slots numbers opened number p stands kind).0.array;
      told = ap (option_and_then (λ (o : Object). dataset_in o.content)) (of image slots numbers opened number p stands).there
          ∙ ap (λ (c : OpenedContent). dataset_in (content_in image.bytes (table_of slots) list c)) kind;
    }

-- an array whose cells are written, by what is kept of the image
module _ (image : Space) (slots : List (Option OpenedObject)) (f : FileState) (view : opened_state image slots ≡ f) (number place : ℕ) (values : List ℤ)
    (run : (d : Dataset) × IsStoredRun f number place values d) where
  pub run_in : (d : Dataset) × IsStoredRun (opened_state image slots) number place values d
  run_in = subst (λ (g : FileState). (d : Dataset) × IsStoredRun g number place values d) (sym view) run

  -- its slot
  pub slot : (p : OpenedObject) × (slice_get slots number ≡ Some (Some p))
  slot = slot_there image.bytes slots number run_in.0 run_in.1.array

-- bytes outside of some blocks, where bytes in them are written
pub kept_outside : (old new : List ℕ) (at : ℕ) (w : List ℕ) (bs : List Block) → at + length w ≤ length old → new ≡ with_part at w old
    → ((p : ℕ) → holds p at (length w) ≤ cover p bs) → IsKeptOutside old new bs
kept_outside old new at w bs fit is among = record {
  long = ap length is ∙ length-with_part at w old fit;
  kept = λ p none. ap (λ (b : List ℕ). byte_at b p) is ∙ byte-with_part at w old p fit (elim (cases_lt p at) [
    | inl below ↦ inl below
    | inr above ↦ inr (elim (cases_lt p (at + length w)) [
      | inl within ↦ absurd (let one = holds_in p at (length w) above within in let all = among p in omega (arith, one, all, none))
      | inr past ↦ past
    ])
  ]);
}

module _ (old : Space) (slots : List (Option OpenedObject)) (numbers : BTreeMap ℕ ℕ) (opened : IsOpened old slots numbers) (number : ℕ) (p : OpenedObject)
    (stands : slice_get slots number ≡ Some (Some p)) (d : Dataset) (place : ℕ) (values : List ℤ) (run : IsStoredRun (opened_state old slots) number place values d) where
  abbrev pub it : Described
  it = told old slots numbers opened number p stands

  pub kind : p.content ≡ content.Array
  kind = (kept_array old slots numbers opened number p stands d run.array).0

  d_is : d ≡ dataset_told old.bytes it
  d_is = (kept_array old slots numbers opened number p stands d run.array).1

  pub room : place + length values ≤ cells it.sizes
  room = subst (λ (e : Dataset). place + length values ≤ cells e.sizes) d_is run.room

  pub run_low : place + length values ≤ most_cells
  run_low = omega (arith, room, cells_low (list old slots numbers opened number p stands) it (array_content old slots numbers opened number p stands kind).0.array)

  pub all_of_type : list_all (fits it.fixed) values ≡ true
  all_of_type = subst (λ (e : Dataset). list_all (fits e.fixed) values ≡ true) d_is run.of_type

  module _ (n at : ℕ) (some : 0 < n) (few : n ≤ length values) (stand : IsStandingAt old.bytes it place n at) (fixed : IsFixed it.fixed) where
    abbrev first : List ℤ
    first = take n values

    counted : length first ≡ n
    counted = grind (arith, places, few)

    first_some : 0 < length first
    first_some = omega (arith, counted, some)

    first_room : place + length first ≤ cells it.sizes
    first_room = omega (arith, counted, few, room)

    first_stand : IsStandingAt old.bytes it place (length first) at
    first_stand = subst (λ (m : ℕ). IsStandingAt old.bytes it place m at) (sym counted) stand

    -- what writing asks for
    pub first_of_type : list_all (fits it.fixed) first ≡ true
    first_of_type = (parts_of_type it.fixed first (drop n values) (ap (list_all (fits it.fixed)) (take-append-drop n values) ∙ all_of_type)).0

    pub first_inside : at + length first * it.fixed.size ≤ length old.bytes
    first_inside = stored_inside old.bytes it (list old slots numbers opened number p stands) (array_content old slots numbers opened number p stands kind).0.array fixed
        (array_content old slots numbers opened number p stands kind).1 (data_once old slots numbers opened number p stands kind) (superblock_whole old slots numbers opened) place at first first_some first_stand first_room

    -- what it gives
    module _ (new : Space) (wrote : new ≡ with_bytes_at old at (cells_bytes it.fixed first)) where
      bytes_are : new.bytes ≡ with_part at (cells_bytes it.fixed first) old.bytes
      bytes_are = ap (λ (s : Space). s.bytes) wrote

      free_is : new.free ≡ old.free
      free_is = ap (λ (s : Space). s.free) wrote

      pub record IsFirstWritten : Type 0 where
        pub opened_now : IsOpened new slots numbers
        pub written : AreCellsWritten (opened_state old slots) number place first (opened_state new slots)
        pub described : array_told (messages_in new.bytes p.messages.list) ≡ it

      pub first_written : IsFirstWritten
      first_written =
          let messages = list old slots numbers opened number p stands in
          let has = (array_content old slots numbers opened number p stands kind).0.array in
          let read = (array_content old slots numbers opened number p stands kind).1 in
          let once = data_once old slots numbers opened number p stands kind in
          let whole = superblock_whole old slots numbers opened in
          let long = stored_long old.bytes it messages has fixed read once whole place at first first_some first_stand first_room first_of_type new.bytes bytes_are in
          let now = stored_read old.bytes it messages has fixed read once whole place at first first_some first_stand first_room first_of_type new.bytes bytes_are in
          let blocks = stored_blocks_stay old.bytes it messages has fixed read once whole place at first first_some first_stand first_room first_of_type new.bytes bytes_are in
          let chunks = stored_chunks_stay old.bytes it messages has fixed read once whole place at first first_some first_stand first_room first_of_type new.bytes bytes_are in
          let changed = stored_told old.bytes it messages has fixed read once whole place at first first_some first_stand first_room first_of_type new.bytes bytes_are in
          let fit = stored_fit old.bytes it messages has fixed read once whole place at first first_some first_stand first_room in
          let trimmed = written_trimmed old.bytes it messages has fixed read (λ q. omega (arith, once q)) place at first first_stand first_room fit new.bytes bytes_are chunks in
          let covered = stored_covered old.bytes it messages has fixed read once whole place at first first_some first_stand first_room in
          let moves : Moves old new (its_blocks old slots numbers opened number p stands kind) (its_blocks old slots numbers opened number p stands kind)
          = moves_covered old new (cells_bytes it.fixed first) at (its_blocks old slots numbers opened number p stands kind) covered fit bytes_are free_is in
          let still = still_opened old slots numbers opened number p stands kind new moves long now blocks trimmed (with_run place first) changed in
          let all = array_changed old slots numbers opened number p stands kind new moves long now blocks trimmed (with_run place first) changed in
          let same = same_messages old slots numbers opened number p stands kind new moves long in
          let told_again : told new slots numbers still number p stands ≡ it = ap array_told same in
          let header : Keeps old.bytes new.bytes p.messages.blocks = header_kept old slots numbers opened number p stands kind new moves long in
          record {
            opened_now = still;
            written = record {
              changed = λ i. record (opened_state old slots) { image = new.bytes; free = free_is i; tree = all.state.0 i };
              k = all.k;
              whole = all.whole;
              in_place = all;
              stored = λ q was b its.
                  let there = was it (array_there old slots numbers opened number p stands kind) in
                  subst (λ (x : Described). is_stored_cell new.bytes x q ≡ true) (sym (array_is new slots numbers still number p stands b its ∙ told_again))
                  (ap (λ (c : Chunks). is_stored_in it.layout c (index_of it.sizes q)) chunks ∙ there);
              local = λ a there.
                  subst (λ (x : Described). IsKeptOutside old.bytes new.bytes (cell_blocks old.bytes x there.blocks)) (sym (array_is old slots numbers opened number p stands a there))
                  (kept_outside old.bytes new.bytes at (cells_bytes it.fixed first) (cell_blocks old.bytes it there.blocks) fit bytes_are
                  (stored_among old.bytes it messages has fixed read once whole place at first first_some first_stand first_room there.blocks));
              again = λ a there.
                  let is = array_is old slots numbers opened number p stands a there in
                  let header_there : Keeps old.bytes new.bytes there.blocks = subst (Keeps old.bytes new.bytes) (sym (blocks_are old slots numbers opened number p stands a there)) header in
                  let chunks_there = subst (λ (x : Described). stored_chunks new.bytes x.fixed x.layout ≡ stored_chunks old.bytes x.fixed x.layout) (sym is) chunks in (
                    a,
                    record {
                      header = there.header;
                      at = there.at;
                      messages = there.messages;
                      blocks = there.blocks;
                      listed = messages-same old.bytes new.bytes there.header there.messages there.blocks there.listed header_there;
                      described = there.described;
                      told = (array_there new slots numbers still number p stands kind).told ∙ ap (λ (x : Described). Some (dataset_told new.bytes x)) (told_again ∙ sym is);
                    },
                    ap (λ (c : Chunks). blocks_with_cells a.fixed a.layout c there.blocks) chunks_there,
                  );
            };
            described = told_again;
          }

      -- and where the cells stand
      pub first_places : (places : KeptPlaces) → ArePlacesOf old.bytes p.messages.list it places
          → ArePlacesOf new.bytes p.messages.list (array_told (messages_in new.bytes p.messages.list)) places
      first_places places was =
          let messages = list old slots numbers opened number p stands in
          let has = (array_content old slots numbers opened number p stands kind).0.array in
          let read = (array_content old slots numbers opened number p stands kind).1 in
          let once = data_once old slots numbers opened number p stands kind in
          let whole = superblock_whole old slots numbers opened in
          subst (λ (a : Described). ArePlacesOf new.bytes p.messages.list a places) (sym first_written.described)
          (stored_places old.bytes it messages has fixed read once whole place at first first_some first_stand first_room first_of_type new.bytes bytes_are p.messages.list places was)
