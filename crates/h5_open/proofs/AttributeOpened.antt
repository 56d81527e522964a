-- An opened image in which the attributes of one object were changed in its header: it is opened as it is now, and in the tree that object
-- alone is another.
use Rattle.std.proofs.Common.{◌≡◌, ℕ, ◌+◌, ◌≤◌, ◌==◌, false, List, [], ◌∷◌, ◌++◌, length, sym, ap, ◌∙◌, subst, arith, Option, Some}
use Rattle.std.specs.Prelude.{slice_get}
use Rattle.std.specs.Option.{option_flatten}
use Rattle.std.specs.Ordering.{nat_cmp}
use Rattle.std.specs.BTreeMap.{BTreeMap}
use Rattle.std.specs.FinMap.{FinMap}
use Rattle.h5_bytes.specs.Blocks.{block, cover, Inside, Keeps}
use Rattle.h5_bytes.specs.declared.Block.{Block}
use Rattle.h5_bytes.proofs.BlockLaws.{all_so, cover-append}
use Rattle.h5_model.specs.Edits.Applied.{with_attributes}
use Rattle.h5_model.specs.Format.Limits.{most_bytes}
use Rattle.h5_model.specs.Format.Messages.{Message, first_size, prefix_at, reference_count}
use Rattle.h5_model.specs.Format.Reads.{HasAttributes}
use Rattle.h5_model.specs.Format.Superblock.{leaf_k, internal_k, k_values, end_of_file, end_field}
use Rattle.h5_model.specs.Format.Symbols.{Target}
use Rattle.h5_model.specs.Format.Described.{Described}
use Rattle.h5_model.specs.Tree.Objects.{Attributes, Tree, Group, Array, with_object}
use Rattle.h5_model.proofs.Frames.{front-same}
use Rattle.h5_model.proofs.KLaws.{k_values_stay, same_chunk, same_internal, same_leaf}
use Rattle.h5_space.specs.Moves.{Moves}
use Rattle.h5_space.specs.Space.{Space}
use Rattle.h5_space.specs.Whole.{IsApart}
use Rattle.h5_space.proofs.MovesLaws.{moves_apart, moves_beside, moves_kept, moves_same, moves_then}
use Rattle.h5_header.specs.Listed.{messages_in}
use Rattle.h5_header.specs.Standing.{IsStanding}
use Rattle.h5_header.proofs.KeptLaws.{header-same, listed-same}
use Rattle.h5_attr.specs.Attributes.{attributes_of}
use Rattle.h5_attr.specs.Still.{IsSaidStill}
use Rattle.h5_attr.proofs.EntryLaws.{attributes-is, names_once}
use Rattle.h5_group.specs.Told.{blocks_told}
use Rattle.h5_group.proofs.ExactTrees.{exact-same}
use Rattle.h5_group.proofs.ToldLaws.{blocks_told-same, links_told-same, told-same}
use Rattle.h5_layout.specs.Data.{AreDataRead, data_blocks, dataset_told}
use Rattle.h5_layout.specs.Told.{array_told, layout_told, type_told}
use Rattle.h5_open.specs.declared.opened.object.OpenedObject.{OpenedObject}
use Rattle.h5_open.specs.declared.opened.object.OpenedContent.{OpenedContent}
use Rattle.h5_open.specs.declared.opened.object.OpenedContent.TheVariants as content
use Rattle.h5_open.specs.ChangedInPlace.{IsChangedInPlace}
use Rattle.h5_open.specs.Opened.Kept.{IsContentKept, IsObjectKept, IsOpened, AreChunksTrimmed, IsContentTidy}
use Rattle.h5_open.specs.Opened.Objects.{content_blocks, content_in, header_of, links_by, object_blocks, object_in, table_of, tree_of}
use Rattle.h5_open.specs.Opened.State.{opened_state}
use Rattle.h5_open.specs.SlotsInPlace.{AreLinksKept, IsOneRemade}
use Rattle.h5_open.proofs.DataLaws.{data_blocks-same, data_inside, data_read-same, dataset_told-same}
use Rattle.h5_open.proofs.EndKept.{field_kept}
use Rattle.h5_open.proofs.OneRemade.{one_changed, one_cover, one_opened, one_table, one_tree}
use Rattle.h5_open.proofs.OpenedLaws.Sounds.{object_of}
use Rattle.h5_open.proofs.StillTold.{attributes_now, group_still, kept_still, known_still, list_still, table_still, told_still}
use Rattle.h5_open.proofs.SuperblockKept.{end_split}
use Rattle.h5_open.proofs.TrimmedKept.{trimmed-same}

-- The header of one object was edited, and then the end of file address was written: its messages say what they said, its attributes are
-- changed, and its count of links is as it was. All other slots stay.
pub record IsHeaderEdited (old mid new : Space) (slots slots' : List (Option OpenedObject)) (number : ℕ) (p p' : OpenedObject) (change : Attributes → Attributes) : Type 0 where
  pub before : slice_get slots number ≡ Some (Some p)
  pub after : slice_get slots' number ≡ Some (Some p')
  pub others : (n : ℕ) → (number == n) ≡ false → option_flatten (slice_get slots' n) ≡ option_flatten (slice_get slots n)
  pub as_many : length slots' ≡ length slots
  pub header : header_of p' ≡ header_of p
  pub content : p'.content ≡ p.content
  pub tidy : p'.tidy ≡ p.tidy
  pub standing : IsStanding mid.bytes p'.messages
  pub still : IsSaidStill (messages_in old.bytes p.messages.list) (messages_in mid.bytes p'.messages.list)
  pub attributes : (before : Attributes) → HasAttributes (messages_in old.bytes p.messages.list) before → HasAttributes (messages_in mid.bytes p'.messages.list) (change before)
  pub counted : reference_count (prefix_at mid.bytes (header_of p)) ≡ reference_count (prefix_at old.bytes (header_of p))
  pub moves : Moves old mid p.messages.blocks p'.messages.blocks
  pub ended : Moves mid new (end_field mid.bytes ∷ []) (end_field new.bytes ∷ [])
  pub end : end_of_file new.bytes ≡ length new.bytes
  pub small : length new.bytes ≤ most_bytes

module _ (old mid new : Space) (slots slots' : List (Option OpenedObject)) (numbers : BTreeMap ℕ ℕ) (opened : IsOpened old slots numbers) (number : ℕ) (p p' : OpenedObject)
    (change : Attributes → Attributes) (is : IsHeaderEdited old mid new slots slots' number p p' change) where
  abbrev ms : List Message
  ms = messages_in old.bytes p.messages.list

  abbrev ms' : List Message
  ms' = messages_in new.bytes p'.messages.list

  abbrev rest : List Block
  rest = content_blocks old.bytes ms p.content

  kept : IsObjectKept old.bytes p
  kept = (object_of old slots numbers opened number p is.before).kept

  -- ---- what moves, and what stays beside it

  abbrev own : List Block
  own = p.messages.blocks ++ end_field old.bytes ∷ []

  abbrev own' : List Block
  own' = p'.messages.blocks ++ end_field new.bytes ∷ []

  -- the field stands where it stood when the header was edited
  field_mid : end_field mid.bytes ≡ end_field old.bytes
  field_mid = field_kept old slots numbers opened mid p.messages.blocks p'.messages.blocks is.moves
      (λ q. omega (arith, one_cover q (object_blocks old.bytes) slots number p is.before, cover-append q p.messages.blocks rest))

  ended : Moves mid new (end_field old.bytes ∷ []) (end_field new.bytes ∷ [])
  ended = subst (λ (b : Block). Moves mid new (b ∷ []) (end_field new.bytes ∷ [])) field_mid is.ended

  first : Moves old mid own (p'.messages.blocks ++ end_field old.bytes ∷ [])
  first = moves_beside old mid p.messages.blocks p'.messages.blocks (end_field old.bytes ∷ []) is.moves

  second : Moves mid new (p'.messages.blocks ++ end_field old.bytes ∷ []) own'
  second =
      let turned : (field : Block) (q : ℕ) → cover q (p'.messages.blocks ++ field ∷ []) ≡ cover q (field ∷ p'.messages.blocks)
      = λ field q. omega (arith, cover-append q p'.messages.blocks (field ∷ [])) in
      moves_same mid new (end_field old.bytes ∷ p'.messages.blocks) (end_field new.bytes ∷ p'.messages.blocks) (p'.messages.blocks ++ end_field old.bytes ∷ []) own'
      (turned (end_field old.bytes)) (turned (end_field new.bytes)) (moves_beside mid new (end_field old.bytes ∷ []) (end_field new.bytes ∷ []) p'.messages.blocks ended)

  both : Moves old new own own'
  both = moves_then old mid new own (p'.messages.blocks ++ end_field old.bytes ∷ []) own' first second

  -- the superblock before the field
  abbrev front : Block
  front = block 0 (end_field old.bytes).at

  apart : IsApart (own ++ (front ∷ rest)) old.free (length old.bytes)
  apart q = omega (
    arith,
    opened.apart q,
    one_cover q (object_blocks old.bytes) slots number p is.before,
    cover-append q p.messages.blocks rest,
    cover-append q own (front ∷ rest),
    cover-append q p.messages.blocks (end_field old.bytes ∷ []),
    end_split old.bytes q,
  )

  data_in : (c : OpenedContent) → IsContentKept old.bytes ms c → Inside (length old.bytes) (content_blocks old.bytes ms c)
  data_in (content.Group table) held = held.2.inside
  data_in content.Array held = data_inside old.bytes (type_told ms) (layout_told ms) held.1

  stays : Keeps old.bytes new.bytes (front ∷ rest)
  stays = moves_kept old new own own' (front ∷ rest) both apart (omega (arith, opened.reads.1.holds.superblock.whole), data_in p.content kept.content)

  k : k_values new.bytes ≡ k_values old.bytes
  k = k_values_stay old.bytes new.bytes (end_field old.bytes).at (omega arith) stays.0

  leaf : leaf_k new.bytes ≡ leaf_k old.bytes
  leaf = same_leaf new.bytes old.bytes k

  internal : internal_k new.bytes ≡ internal_k old.bytes
  internal = same_internal new.bytes old.bytes k

  grown : length old.bytes ≤ length new.bytes
  grown = both.grown

  -- ---- the header, when the end of file address is written

  apart_mid : IsApart ((end_field old.bytes ∷ []) ++ p'.messages.blocks) mid.free (length mid.bytes)
  apart_mid q =
      let was : IsApart (p.messages.blocks ++ end_field old.bytes ∷ []) old.free (length old.bytes) = λ r. omega (arith, apart r, cover-append r own (front ∷ rest)) in
      omega (arith, moves_apart old mid p.messages.blocks p'.messages.blocks (end_field old.bytes ∷ []) is.moves was q, cover-append q p'.messages.blocks (end_field old.bytes ∷ []))

  header_stays : Keeps mid.bytes new.bytes p'.messages.blocks
  header_stays = moves_kept mid new (end_field old.bytes ∷ []) (end_field new.bytes ∷ []) p'.messages.blocks ended apart_mid is.standing.inside

  list_stays : ms' ≡ messages_in mid.bytes p'.messages.list
  list_stays = listed-same mid.bytes new.bytes p'.messages is.standing.has is.standing.within header_stays

  still : IsSaidStill ms ms'
  still = subst (IsSaidStill ms) (sym list_stays) is.still

  has_changed : HasAttributes ms' (change (attributes_of ms))
  has_changed = subst (λ (l : List Message). HasAttributes l (change (attributes_of ms))) (sym list_stays) (is.attributes (attributes_of ms) kept.header.attributes)

  count_stays : reference_count (prefix_at new.bytes (header_of p)) ≡ reference_count (prefix_at mid.bytes (header_of p))
  count_stays =
      let laid : Keeps mid.bytes new.bytes (block (header_of p') (16 + first_size (prefix_at mid.bytes (header_of p'))) ∷ []) = (
        (subst (Keeps mid.bytes new.bytes) is.standing.has.laid header_stays).0,
        tt,
      ) in
      let prefix : prefix_at new.bytes (header_of p') ≡ prefix_at mid.bytes (header_of p')
      = front-same mid.bytes new.bytes (header_of p') (16 + first_size (prefix_at mid.bytes (header_of p'))) 16 (omega arith) laid.0 in
      subst (λ (h : ℕ). reference_count (prefix_at new.bytes h) ≡ reference_count (prefix_at mid.bytes h)) is.header (ap reference_count prefix)

  -- ---- the content

  inside_still : (blocks : List Block) → Inside (length old.bytes) blocks → Inside (length new.bytes) blocks
  inside_still blocks inside =
      all_so (λ (b : Block). b.at + b.len ≤ length old.bytes) (λ (b : Block). b.at + b.len ≤ length new.bytes) blocks (λ b low. omega (arith, low, grown)) inside

  content_now : (c : OpenedContent) → IsContentKept old.bytes ms c → Keeps old.bytes new.bytes (content_blocks old.bytes ms c) → IsContentKept new.bytes ms' c
  content_now (content.Group table) held keeps = (
    group_still ms ms' still held.0,
    table_still ms ms' still table held.0 held.1,
    record {
      linked = told-same old.bytes new.bytes leaf internal table held.2.linked keeps;
      inside = subst (Inside (length new.bytes)) (sym (blocks_told-same old.bytes new.bytes leaf internal table held.2.linked keeps)) (inside_still (blocks_told old.bytes table) held.2.inside);
      few = rw internal held.2.few;
    },
  )
  content_now content.Array held keeps = (
    list_still ms ms' still (change (attributes_of ms)) has_changed held.0,
    subst (λ (a : Described). AreDataRead new.bytes a.fixed a.layout) (sym (told_still ms ms' still (held.0).array)) (data_read-same old.bytes new.bytes grown (same_chunk new.bytes old.bytes k) (type_told ms) (layout_told ms) held.1 keeps),
  )

  tidy_now : (c : OpenedContent) → IsContentKept old.bytes ms c → Keeps old.bytes new.bytes (content_blocks old.bytes ms c) → IsContentTidy old.bytes ms c
      → IsContentTidy new.bytes ms' c
  tidy_now (content.Group table) held keeps was = exact-same old.bytes new.bytes leaf internal table held.2.linked keeps was
  tidy_now content.Array held keeps was = subst (AreChunksTrimmed new.bytes) (sym (told_still ms ms' still (held.0).array))
      (λ chunked. trimmed-same old.bytes new.bytes grown (same_chunk new.bytes old.bytes k) (array_told ms) held.1 keeps (array_told ms).sizes (was chunked))

  blocks_now : (c : OpenedContent) → IsContentKept old.bytes ms c → Keeps old.bytes new.bytes (content_blocks old.bytes ms c) → content_blocks new.bytes ms' c ≡ content_blocks old.bytes ms c
  blocks_now (content.Group table) held keeps = blocks_told-same old.bytes new.bytes leaf internal table held.2.linked keeps
  blocks_now content.Array held keeps =
      ap (λ (a : Described). data_blocks new.bytes a.fixed a.layout) (told_still ms ms' still (held.0).array)
      ∙ data_blocks-same old.bytes new.bytes grown (same_chunk new.bytes old.bytes k) (type_told ms) (layout_told ms) held.1 keeps

  told_now : (table : FinMap nat_cmp ℕ) (c : OpenedContent) → IsContentKept old.bytes ms c → Keeps old.bytes new.bytes (content_blocks old.bytes ms c)
      → content_in new.bytes table ms' c ≡ content_in old.bytes table ms c
  told_now table (content.Group t) held keeps =
      ap (λ (ls : List (List ℕ × Target)). Group (links_by table ls)) (links_told-same old.bytes new.bytes leaf internal t held.2.linked keeps)
  told_now table content.Array held keeps =
      ap (λ (a : Described). Array (dataset_told new.bytes a)) (told_still ms ms' still (held.0).array)
      ∙ ap Array (dataset_told-same old.bytes new.bytes grown (same_chunk new.bytes old.bytes k) (array_told ms) held.1 keeps)

  links_now : (c : OpenedContent) → IsContentKept old.bytes ms c → Keeps old.bytes new.bytes (content_blocks old.bytes ms c) → AreLinksKept old.bytes new.bytes c c
  links_now (content.Group t) held keeps = links_told-same old.bytes new.bytes leaf internal t held.2.linked keeps
  links_now content.Array held keeps = tt

  -- ---- the object

  kept_now : IsObjectKept new.bytes p'
  kept_now = record {
    header = record {
      has = header-same mid.bytes new.bytes p'.messages is.standing.has is.standing.within header_stays;
      inside = all_so (λ (b : Block). b.at + b.len ≤ length mid.bytes) (λ (b : Block). b.at + b.len ≤ length new.bytes) p'.messages.blocks (λ b low. omega (arith, low, second.grown)) is.standing.inside;
      within = all_so (λ m. m.at + m.size ≤ length mid.bytes) (λ m. m.at + m.size ≤ length new.bytes) p'.messages.list (λ m low. omega (arith, low, second.grown)) is.standing.within;
      names = names_once ms' (change (attributes_of ms)) has_changed;
      attributes = attributes_now ms' (change (attributes_of ms)) has_changed;
    };
    known = known_still old.bytes new.bytes p.messages.list p'.messages.list still kept.known;
    content = subst (IsContentKept new.bytes ms') (sym is.content) (content_now p.content kept.content stays.1);
    tidy = λ known. subst (IsContentTidy new.bytes ms') (sym is.content) (tidy_now p.content kept.content stays.1 (kept.tidy (sym is.tidy ∙ known)));
  }

  blocks_are : object_blocks new.bytes p' ≡ p'.messages.blocks ++ rest
  blocks_are = ap (λ (c : OpenedContent). p'.messages.blocks ++ content_blocks new.bytes ms' c) is.content
      ∙ ap (λ (bs : List Block). p'.messages.blocks ++ bs) (blocks_now p.content kept.content stays.1)

  remade : IsOneRemade old new slots slots' number p p'
  remade = record {
    before = is.before;
    after = is.after;
    others = is.others;
    as_many = is.as_many;
    header = is.header;
    kept = kept_now;
    links = subst (AreLinksKept old.bytes new.bytes p.content) (sym is.content) (links_now p.content kept.content stays.1);
    counted = count_stays ∙ is.counted;
    moves = moves_same old new (own ++ rest) (own' ++ rest) (end_field old.bytes ∷ object_blocks old.bytes p) (end_field new.bytes ∷ object_blocks new.bytes p')
        (λ q. omega (arith, cover-append q own rest, cover-append q p.messages.blocks (end_field old.bytes ∷ []), cover-append q p.messages.blocks rest))
        (λ q. let are = ap (cover q) blocks_are in omega (arith, are, cover-append q own' rest, cover-append q p'.messages.blocks (end_field new.bytes ∷ []), cover-append q p'.messages.blocks rest))
        (moves_beside old new own own' rest both);
    end = is.end;
    small = is.small;
  }

  changed : object_in new.bytes (table_of slots') p' ≡ with_attributes change (object_in old.bytes (table_of slots) p)
  changed =
      let table_is : table_of slots' ≡ table_of slots = one_table old new slots slots' numbers opened number p p' remade in
      let content_is : content_in new.bytes (table_of slots') ms' p'.content ≡ content_in old.bytes (table_of slots) ms p.content
      = ap (λ (t : FinMap nat_cmp ℕ). content_in new.bytes t ms' p'.content) table_is
      ∙ ap (content_in new.bytes (table_of slots) ms') is.content
      ∙ told_now (table_of slots) p.content kept.content stays.1 in
      let attributes_are : attributes_of ms' ≡ change (attributes_of ms) = sym (attributes-is ms' (change (attributes_of ms)) has_changed) in
      let kept_are = kept_still ms ms' still in
      λ i. record { content = content_is i; attributes = attributes_are i; kept = kept_are i }

  -- ---- so

  pub attributes_opened : IsOpened new slots' numbers
  attributes_opened = one_opened old new slots slots' numbers opened number p p' remade

  pub attributes_changed : (bytes : ℕ) → length new.bytes ≤ length old.bytes + bytes
      → IsChangedInPlace (opened_state old slots) (opened_state new slots') (with_object (tree_of old.bytes slots) number (with_attributes change)) (length slots) (number ∷ []) bytes
  attributes_changed bytes room =
      subst (λ (n : ℕ). IsChangedInPlace (opened_state old slots) (opened_state new slots') (with_object (tree_of old.bytes slots) number (with_attributes change)) n (number ∷ []) bytes) is.as_many
      (subst (λ (t : Tree). IsChangedInPlace (opened_state old slots) (opened_state new slots') t (length slots') (number ∷ []) bytes)
      (one_tree old new slots slots' numbers opened number p p' remade (with_attributes change) changed)
      (one_changed old new slots slots' numbers opened number p p' remade bytes room))
