-- Other sizes of an array of an opened image, as callers see the image: what is asked for, and what is given.
use Rattle.std.proofs.Common.{◌≡◌, ◌↔◌, ℕ, ◌+◌, ◌*◌, ◌<◌, ◌≤◌, ◌&&◌, Bool, IsFalse, IsTrue, true, List, [], ◌∷◌, length, sym, ap, ◌∙◌, subst, arith, Option, Some, nat_lt}
use Rattle.std.specs.Prelude.{if◌then◌else◌, slice_get, slice_set}
use Rattle.std.specs.BTreeMap.{BTreeMap}
use Rattle.std.specs.FinMap.{get}
use Rattle.std.specs.Option.{option_flatten}
use Rattle.std.proofs.lemmas.Option.{slice_get_within}
use Rattle.h5_model.specs.Edits.Applied.{with_sizes, with_dataset}
use Rattle.h5_model.specs.Edits.Refusal.{is_chunked}
use Rattle.h5_model.specs.Format.Layout.{Layout, InMessage, InBlock, InChunks}
use Rattle.h5_model.specs.Format.Limits.{most_bytes}
use Rattle.h5_model.specs.Format.Messages.{Message, most_messages}
use Rattle.h5_model.specs.Format.Superblock.{end_of_file, end_field}
use Rattle.h5_model.specs.Format.Described.{storage_of, Described}
use Rattle.h5_model.specs.Tree.Objects.{with_object}
use Rattle.h5_model.proofs.OneReading.{one_messages}
use Rattle.h5_space.specs.Moves.{Moves}
use Rattle.h5_space.specs.Space.{Space}
use Rattle.h5_header.specs.Listed.{messages_in}
use Rattle.h5_layout.specs.Data.{dataset_told}
use Rattle.h5_layout.specs.Told.{array_told}
use Rattle.h5_open.specs.declared.opened.object.OpenedObject.{OpenedObject}
use Rattle.h5_open.specs.declared.opened.object.OpenedContent.TheVariants as content
use Rattle.h5_open.specs.Attributed.{has_full_header}
use Rattle.h5_layout.specs.ArrayEdits.{IsArrayApart, described_in}
use Rattle.h5_layout.specs.Extents.{CanHaveSizes, extent_room, lacks_maxima}
use Rattle.h5_layout.specs.Trimmed.{IsTrimmed}
use Rattle.h5_open.specs.ChangedInPlace.{IsChangedInPlace}
use Rattle.h5_open.specs.Opened.Kept.{AreChunksTrimmed, IsContentTidy, IsOpened}
use Rattle.h5_open.specs.Opened.Objects.{table_of}
use Rattle.h5_open.specs.Opened.State.{FileState, opened_state}
use Rattle.h5_open.specs.Resized.{IsArrayTrimmed, IsObjectResized, LacksMaxima, extent_bytes, has_no_place}
use Rattle.h5_open.specs.Written.{IsArrayThere}
use Rattle.h5_open.proofs.ArrayEdited.{IsArrayEdited, array_apart, edited_changed, edited_list_stays, edited_opened}
use Rattle.h5_open.proofs.ArrayOpened.{slot_there}
use Rattle.h5_open.proofs.AttributeEdits.{room_opened, slot_beside, slot_length, slot_same, slot_there as slot_set}
use Rattle.h5_open.proofs.HeaderInPlace.{header_full}
use Rattle.h5_open.proofs.OpenedLaws.Sounds.{object_of}
use Rattle.h5_open.proofs.StandingOpened.{array_is, is_array}

-- whether it is in chunks, its sizes do not say
chunked_so : (layout : Layout) (sizes others : List ℕ) → is_chunked (storage_of sizes layout) ≡ true → is_chunked (storage_of others layout) ≡ true
chunked_so (InMessage bytes) sizes others is = is
chunked_so (InBlock b) sizes others is = is
chunked_so (InChunks chunk root) sizes others is = is

-- the object of this number is an array that can have these sizes
abbrev pub IsAsked : FileState → ℕ → List ℕ → Type 0
IsAsked f number sizes = (a : Described) × IsArrayThere f number a × CanHaveSizes a sizes

module _ (image : Space) (slots : List (Option OpenedObject)) (numbers : BTreeMap ℕ ℕ) (opened : IsOpened image slots numbers) (f : FileState)
    (view : opened_state image slots ≡ f)
    (number : ℕ) (sizes : List ℕ) (asked : IsAsked f number sizes) where
  here : IsAsked (opened_state image slots) number sizes
  here = subst (λ (g : FileState). IsAsked g number sizes) (sym view) asked

  pub slot : (p : OpenedObject) × (slice_get slots number ≡ Some (Some p))
  slot = slot_there image.bytes slots number (dataset_told image.bytes here.0) (here.1).told

  module _ (p : OpenedObject) (at : slice_get slots number ≡ Some (Some p)) where
    abbrev ms : List Message
    ms = messages_in image.bytes p.messages.list

    kind : p.content ≡ content.Array
    kind = is_array image slots numbers opened number p at here.0 here.1

    -- ---- what it asks for

    pub apart_here : IsArrayApart image p.messages
    apart_here = array_apart image slots numbers opened number p at kind

    pub sizes_here : CanHaveSizes (described_in image.bytes p.messages) sizes
    sizes_here = subst (λ (a : Described). CanHaveSizes a sizes) (array_is image slots numbers opened number p at here.0 here.1) here.2

    pub trimmed_here : p.tidy ≡ true → IsTrimmed image.bytes (described_in image.bytes p.messages) (described_in image.bytes p.messages).sizes
    trimmed_here known =
        let kept : IsContentTidy image.bytes ms content.Array
        = subst (IsContentTidy image.bytes ms) kind ((object_of image slots numbers opened number p at).kept.tidy known) in
        kept sizes_here.chunked

    -- ---- why it is refused

    lacks_is : (lacks : Bool) → LacksMaxima f.image (get f.table number) lacks → lacks ≡ lacks_maxima ms
    lacks_is lacks says =
        let of = object_of image slots numbers opened number p at in
        let said : LacksMaxima image.bytes (get (table_of slots) number) lacks =
        subst (λ (g : FileState). LacksMaxima g.image (get g.table number) lacks) (sym view) says in
        let its : LacksMaxima image.bytes (Some p.messages.header) lacks = subst (λ (h : Option ℕ). LacksMaxima image.bytes h lacks) of.header said in
        its.3 ∙ ap lacks_maxima (one_messages image.bytes p.messages.header its.0 ms its.1 p.messages.blocks its.2 of.kept.header.has)

    place_is : (lacks : Bool) → LacksMaxima f.image (get f.table number) lacks → has_no_place image.bytes p.messages ≡ (lacks && has_full_header f number)
    place_is lacks says =
        let full : has_full_header f number ≡ nat_lt most_messages (length p.messages.list + 2)
        = ap (λ (g : FileState). has_full_header g number) (sym view) ∙ header_full image slots numbers opened number p at in
        ap (λ (b : Bool). lacks_maxima ms && b) (sym full) ∙ ap (λ (b : Bool). b && has_full_header f number) (sym (lacks_is lacks says))

    bytes_are : (lacks : Bool) → LacksMaxima f.image (get f.table number) lacks → extent_room ms sizes ≡ extent_bytes lacks sizes
    bytes_are lacks says = ap (λ (b : Bool). if b then 40 + 16 * length sizes else 0) (sym (lacks_is lacks says))

    pub header_said : (Full : Type 0) → Full ↔ IsTrue (has_no_place image.bytes p.messages) → (lacks : Bool) → LacksMaxima f.image (get f.table number) lacks
        → Full ↔ IsTrue (lacks && has_full_header f number)
    header_said Full told lacks says = subst (λ (b : Bool). Full ↔ IsTrue b) (place_is lacks says) told

    pub image_said : (Full : Type 0)
        → Full ↔ (IsFalse (has_no_place image.bytes p.messages) × (most_bytes < length image.bytes + extent_room (messages_in image.bytes p.messages.list) sizes))
        → (lacks : Bool) → LacksMaxima f.image (get f.table number) lacks
        → Full ↔ (IsFalse (lacks && has_full_header f number) × (most_bytes < length f.image + extent_bytes lacks sizes))
    image_said Full told lacks says =
        subst (λ (g : FileState). Full ↔ (IsFalse (lacks && has_full_header f number) × (most_bytes < length g.image + extent_bytes lacks sizes))) view
        (subst (λ (n : ℕ). Full ↔ (IsFalse (lacks && has_full_header f number) × (most_bytes < length image.bytes + n))) (bytes_are lacks says)
        (subst (λ (b : Bool). Full ↔ (IsFalse b × (most_bytes < length image.bytes + extent_room ms sizes))) (place_is lacks says) told))

    -- nothing changed but what room there is
    module _ (r : Space) (was : r ≡ record image { room_bytes = r.room_bytes; room_blocks = r.room_blocks }) (p' : OpenedObject) (same : p' ≡ p) where
      slots_stay : slice_set slots number (Some p') ≡ slots
      slots_stay = ap (λ (o : OpenedObject). slice_set slots number (Some o)) same ∙ slot_same slots number (Some p) at

      pub refused_opened : IsOpened r (slice_set slots number (Some p')) numbers
      refused_opened = subst (λ (xs : List (Option OpenedObject)). IsOpened r xs numbers) (sym slots_stay)
          (room_opened image r slots numbers (ap (λ (s : Space). s.bytes) was) (ap (λ (s : Space). s.free) was) opened)

      pub refused_view : opened_state r (slice_set slots number (Some p')) ≡ f
      refused_view = ap (opened_state r) slots_stay ∙ ap (λ (s : Space). opened_state s slots) was ∙ view

    -- ---- what it gives

    module _ (mid new : Space) (p' : OpenedObject) (done : IsObjectResized image mid p p' sizes)
        (grown : length mid.bytes ≤ length image.bytes + extent_room (messages_in image.bytes p.messages.list) sizes) (small : length mid.bytes ≤ most_bytes)
        (ended : Moves mid new (end_field mid.bytes ∷ []) (end_field new.bytes ∷ [])) (end : end_of_file new.bytes ≡ length new.bytes)
        (long : length new.bytes ≡ length mid.bytes) where
      abbrev slots' : List (Option OpenedObject)
      slots' = slice_set slots number (Some p')

      after : slice_get slots' number ≡ Some (Some p')
      after = slot_set slots number (Some p') (slice_get_within slots number (Some p) at)

      bytes_stay : done.ready.bytes ≡ image.bytes
      bytes_stay = ap (λ (s : Space). s.bytes) done.image

      ready_opened : IsOpened done.ready slots numbers
      ready_opened = room_opened image done.ready slots numbers bytes_stay (ap (λ (s : Space). s.free) done.image) opened

      ready_view : opened_state done.ready slots ≡ f
      ready_view = ap (λ (s : Space). opened_state s slots) done.image ∙ view

      array_now : p'.content ≡ content.Array
      array_now = done.content ∙ kind

      sizes_now : (described_in mid.bytes p'.messages).sizes ≡ sizes
      sizes_now = ap (λ (a : Described). a.sizes) done.resized.told

      edited : IsArrayEdited done.ready mid new slots slots' number p p' (with_sizes sizes)
      edited = record {
        before = at;
        after = after;
        others = λ n out. ap option_flatten (slot_beside slots number n (Some p') out);
        as_many = slot_length slots number (Some p');
        kind = kind;
        content = array_now;
        room = done.room;
        moved = done.resized.moved;
        dataset = done.resized.dataset;
        trimmed = λ known chunked. subst (IsTrimmed mid.bytes (described_in mid.bytes p'.messages)) (sym sizes_now) done.resized.trimmed;
        ended = ended;
        end = end;
        long = long;
        small = small;
      }

      pub resized_opened : IsOpened new (slice_set slots number (Some p')) numbers
      resized_opened = edited_opened done.ready slots numbers ready_opened number p at kind mid new slots' p' (with_sizes sizes) edited

      pub resized_changed : (lacks : Bool) → LacksMaxima f.image (get f.table number) lacks
          → IsChangedInPlace f (opened_state new (slice_set slots number (Some p'))) (with_object f.tree number (with_dataset (with_sizes sizes))) f.next (number ∷ [])
          (extent_bytes lacks sizes)
      resized_changed lacks says =
          let same = ap (λ (b : List ℕ). length b) bytes_stay in
          subst (λ (n : ℕ). IsChangedInPlace f (opened_state new slots') (with_object f.tree number (with_dataset (with_sizes sizes))) f.next (number ∷ []) n)
          (bytes_are lacks says)
          (subst (λ (g : FileState). IsChangedInPlace g (opened_state new slots') (with_object g.tree number (with_dataset (with_sizes sizes))) g.next (number ∷ [])
          (extent_room ms sizes)) ready_view
          (edited_changed done.ready slots numbers ready_opened number p at kind mid new slots' p' (with_sizes sizes) edited (extent_room ms sizes)
          (omega (arith, long, grown, same))))

      -- it is in chunks still
      chunked_now : is_chunked (storage_of (described_in new.bytes p'.messages).sizes (described_in new.bytes p'.messages).layout) ≡ true
      chunked_now =
          let ready : is_chunked (storage_of (described_in done.ready.bytes p.messages).sizes (described_in done.ready.bytes p.messages).layout) ≡ true
          = subst (λ (b : List ℕ). is_chunked (storage_of (described_in b p.messages).sizes (described_in b p.messages).layout) ≡ true) (sym bytes_stay) sizes_here.chunked in
          subst (λ (l : List Message). is_chunked (storage_of (array_told l).sizes (array_told l).layout) ≡ true)
          (sym (edited_list_stays done.ready slots numbers ready_opened number p at kind mid new slots' p' (with_sizes sizes) edited))
          (subst (λ (a : Described). is_chunked (storage_of a.sizes a.layout) ≡ true) (sym done.resized.told)
          (chunked_so (described_in done.ready.bytes p.messages).layout (described_in done.ready.bytes p.messages).sizes sizes ready))

      pub resized_trimmed : IsArrayTrimmed (opened_state new (slice_set slots number (Some p'))) number
      resized_trimmed a there =
          let kept : AreChunksTrimmed new.bytes (described_in new.bytes p'.messages)
          = subst (IsContentTidy new.bytes (messages_in new.bytes p'.messages.list)) array_now
          ((object_of new slots' numbers resized_opened number p' after).kept.tidy done.known) in
          subst (λ (b : Described). IsTrimmed new.bytes b b.sizes) (sym (array_is new slots' numbers resized_opened number p' after a there)) (kept chunked_now)
