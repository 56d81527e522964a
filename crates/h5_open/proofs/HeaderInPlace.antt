-- The header of an object of an opened image: it stands there, beside the free blocks and the end of file address; and what is opened when
-- its attributes were changed.
use Rattle.std.proofs.Common.{◌≡◌, ℕ, ◌+◌, ◌≤◌, false, List, [], ◌∷◌, length, refl, sym, ap, ◌∙◌, subst, arith, Option, Some, None}
use Rattle.std.specs.Prelude.{nat_lt, option_map, slice_get, slice_set}
use Rattle.std.specs.Option.{option_flatten, option_map_or}
use Rattle.std.specs.BTreeMap.{BTreeMap}
use Rattle.std.specs.FinMap.{get}
use Rattle.std.proofs.lemmas.List.{length-map}
use Rattle.std.proofs.lemmas.Option.{slice_get_within}
use Rattle.std.specs.List.{flat_map}
use Rattle.h5_bytes.specs.Blocks.{cover}
use Rattle.h5_bytes.specs.declared.Block.{Block}
use Rattle.h5_bytes.proofs.BlockLaws.{cover-append, holds-le}
use Rattle.h5_model.specs.Format.Limits.{most_bytes}
use Rattle.h5_model.specs.Format.Messages.{Message, prefix_at, reference_count, total_in, most_messages}
use Rattle.h5_model.specs.Format.Reads.{HasAttributes}
use Rattle.h5_model.specs.Format.Superblock.{end_of_file, end_field, superblock_length}
use Rattle.h5_model.specs.Tree.Objects.{Attributes, Object}
use Rattle.h5_space.specs.Moves.{Moves}
use Rattle.h5_space.specs.Space.{Space}
use Rattle.h5_space.specs.Whole.{IsApart}
use Rattle.h5_header.specs.Added.{HasMovable}
use Rattle.h5_header.specs.Listed.{Listed, message_in, messages_in}
use Rattle.h5_header.specs.Standing.{IsStanding}
use Rattle.h5_header.proofs.MovableLaws.{movable_table, movable_type, standing_padded}
use Rattle.h5_attr.specs.Still.{IsSaidStill}
use Rattle.h5_layout.specs.Told.{array_told}
use Rattle.h5_open.specs.declared.opened.object.OpenedObject.{OpenedObject}
use Rattle.h5_open.specs.declared.opened.object.OpenedContent.{OpenedContent}
use Rattle.h5_open.specs.declared.opened.object.OpenedContent.TheVariants as content
use Rattle.h5_open.specs.Attributed.{has_full_header}
use Rattle.h5_open.specs.Opened.Kept.{IsContentKept, IsObjectKept, IsOpened}
use Rattle.h5_open.specs.Opened.Objects.{content_blocks, object_blocks, object_in, objects_of, table_of, tree_of}
use Rattle.h5_open.specs.Opened.State.{opened_state}
use Rattle.h5_open.proofs.AttributeEdits.{slot_beside, slot_length, slot_there}
use Rattle.h5_open.proofs.AttributeOpened.{IsHeaderEdited}
use Rattle.h5_open.proofs.EndKept.{end_kept, superblock_kept}
use Rattle.h5_open.proofs.OneRemade.{one_cover}
use Rattle.h5_open.proofs.OpenedLaws.Entries.{get_tree}
use Rattle.h5_open.proofs.OpenedLaws.Sounds.{object_of}

-- an object of the tree has a slot
pub slot_in_tree : (image : List ℕ) (slots : List (Option OpenedObject)) (number : ℕ) (o : Object) → get (tree_of image slots) number ≡ Some o
    → (p : OpenedObject) × (slice_get slots number ≡ Some (Some p))
slot_in_tree image slots number o is = go (slice_get slots number) refl (sym (get_tree image slots number) ∙ is) where
  go : (slot : Option (Option OpenedObject)) → slice_get slots number ≡ slot → option_map (object_in image (table_of slots)) (option_flatten slot) ≡ Some o
      → (p : OpenedObject) × (slice_get slots number ≡ Some (Some p))
  go None here is = absurd (cc)
  go (Some None) here is = absurd (cc)
  go (Some (Some p)) here is = (p, here)

module _ (image : Space) (slots : List (Option OpenedObject)) (numbers : BTreeMap ℕ ℕ) (opened : IsOpened image slots numbers) (number : ℕ) (p : OpenedObject)
    (at : slice_get slots number ≡ Some (Some p)) where
  abbrev ms : List Message
  ms = messages_in image.bytes p.messages.list

  kept : IsObjectKept image.bytes p
  kept = (object_of image slots numbers opened number p at).kept

  -- ---- it stands there

  pub header_apart : IsApart p.messages.blocks image.free (length image.bytes)
  header_apart q = omega (
    arith,
    opened.apart q,
    one_cover q (object_blocks image.bytes) slots number p at,
    cover-append q p.messages.blocks (content_blocks image.bytes ms p.content),
  )

  pub header_standing : IsStanding image.bytes p.messages
  header_standing = record {
    has = kept.header.has;
    inside = kept.header.inside;
    within = kept.header.within;
    separate = λ q. omega (arith, header_apart q, holds-le q 0 (length image.bytes));
  }

  pub header_movable : HasMovable ms
  header_movable = go p.content kept.content where
    go : (c : OpenedContent) → IsContentKept image.bytes ms c → HasMovable ms
    go (content.Group table) held = movable_table ms table held.1
    go content.Array held = movable_type ms (array_told ms).fixed (standing_padded image.bytes p.messages header_standing) (held.0).array.type

  -- whether it is full goes by how many messages are kept of it
  pub header_full : has_full_header (opened_state image slots) number ≡ nat_lt most_messages (length p.messages.list + 2)
  header_full =
      ap (λ (found : Option ℕ). option_map_or (λ (h : ℕ). nat_lt most_messages (total_in (prefix_at image.bytes h) + 2)) found false)
      (object_of image slots numbers opened number p at).header
      ∙ ap (λ (n : ℕ). nat_lt most_messages (n + 2)) (kept.header.has.total ∙ length-map p.messages.list (message_in image.bytes))

  -- ---- the superblock is no part of it

  among : (q : ℕ) → cover q p.messages.blocks ≤ cover q (flat_map (object_blocks image.bytes) (objects_of slots))
  among q = omega (arith, one_cover q (object_blocks image.bytes) slots number p at, cover-append q p.messages.blocks (content_blocks image.bytes ms p.content))

  pub end_as_it_was : (new : Space) (after : List Block) → Moves image new p.messages.blocks after → length new.bytes ≡ length image.bytes → end_of_file new.bytes ≡ length new.bytes
  end_as_it_was new after moves = end_kept image slots numbers opened new p.messages.blocks after moves among

  pub superblock_as_it_was : (new : Space) (after : List Block) → Moves image new p.messages.blocks after → superblock_length new.bytes ≤ length new.bytes
  superblock_as_it_was new after moves = superblock_kept image slots numbers opened new p.messages.blocks after moves among

  -- ---- edited

  abbrev pub with_messages : Listed → OpenedObject
  with_messages m = record p { messages = m }

  abbrev pub slots_with : Listed → List (Option OpenedObject)
  slots_with m = slice_set slots number (Some (with_messages m))

  -- an edit of the header as it is kept in the first record, and then of the end of file address
  abbrev pub IsEditedFrom : Listed → Type 0
  IsEditedFrom from = (mid new : Space) (m : Listed) (change : Attributes → Attributes) → IsStanding mid.bytes m → m.header ≡ from.header
      → IsSaidStill (messages_in image.bytes from.list) (messages_in mid.bytes m.list)
      → ((before : Attributes) → HasAttributes (messages_in image.bytes from.list) before → HasAttributes (messages_in mid.bytes m.list) (change before))
      → reference_count (prefix_at mid.bytes m.header) ≡ reference_count (prefix_at image.bytes from.header)
      → Moves image mid from.blocks m.blocks → Moves mid new (end_field mid.bytes ∷ []) (end_field new.bytes ∷ [])
      → end_of_file new.bytes ≡ length new.bytes → length new.bytes ≤ most_bytes
      → IsHeaderEdited image mid new slots (slots_with m) number p (with_messages m) change

  pub header_edited : IsEditedFrom p.messages
  header_edited mid new m change standing header still attributes counted moves ended end small = record {
    before = at;
    after = slot_there slots number (Some (with_messages m)) (slice_get_within slots number (Some p) at);
    others = λ n out. ap option_flatten (slot_beside slots number n (Some (with_messages m)) out);
    as_many = slot_length slots number (Some (with_messages m));
    header = header;
    content = refl;
    tidy = refl;
    standing = standing;
    still = still;
    attributes = attributes;
    counted = ap (λ (h : ℕ). reference_count (prefix_at mid.bytes h)) (sym header) ∙ counted;
    moves = moves;
    ended = ended;
    end = end;
    small = small;
  }

  -- ---- the same where room was made for a message more

  module _ (room : ℕ) (roomy : Listed) (is : roomy ≡ record p.messages { room = room }) where
    pub room_standing : IsStanding image.bytes roomy
    room_standing = subst (IsStanding image.bytes) (sym is) (record {
      has = header_standing.has;
      inside = header_standing.inside;
      within = header_standing.within;
      separate = header_standing.separate;
    })

    pub room_movable : HasMovable (messages_in image.bytes roomy.list)
    room_movable = subst (λ (x : Listed). HasMovable (messages_in image.bytes x.list)) (sym is) header_movable

    pub room_apart : IsApart roomy.blocks image.free (length image.bytes)
    room_apart = subst (λ (x : Listed). IsApart x.blocks image.free (length image.bytes)) (sym is) header_apart

    pub room_superblock : (new : Space) (after : List Block) → Moves image new roomy.blocks after → superblock_length new.bytes ≤ length new.bytes
    room_superblock = subst (λ (x : Listed). (new : Space) (after : List Block) → Moves image new x.blocks after → superblock_length new.bytes ≤ length new.bytes)
        (sym is) superblock_as_it_was

    pub room_edited : IsEditedFrom roomy
    room_edited = subst IsEditedFrom (sym is) header_edited
