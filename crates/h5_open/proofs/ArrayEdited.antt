-- An opened image in which one array was edited where it stands: it is opened as it is now, and in the tree that array alone is another.
use Rattle.std.proofs.Common.{◌≡◌, ℕ, ◌+◌, ◌≤◌, true, false, List, [], ◌∷◌, ◌++◌, length, sym, ap, ◌∙◌, subst, arith, Option, Some}
use Rattle.std.specs.Prelude.{slice_get, ◌==◌}
use Rattle.std.specs.BTreeMap.{BTreeMap}
use Rattle.std.specs.Option.{option_flatten}
use Rattle.h5_bytes.specs.Blocks.{block, cover, Inside, IsKept, Keeps}
use Rattle.h5_bytes.specs.declared.Block.{Block}
use Rattle.h5_bytes.proofs.BlockLaws.{all_append, all_left, all_right, cover-append}
use Rattle.h5_model.specs.Edits.Applied.{with_dataset}
use Rattle.h5_model.specs.Format.Limits.{most_bytes}
use Rattle.h5_model.specs.Format.Messages.{Message, prefix_at, reference_count}
use Rattle.h5_model.specs.Format.Superblock.{end_of_file, end_field, k_values}
use Rattle.h5_model.specs.Format.Described.{HasArray}
use Rattle.h5_model.specs.Tree.Objects.{Array, Dataset, Tree, with_object}
use Rattle.h5_model.proofs.Frames.{prefix-same}
use Rattle.h5_model.proofs.KLaws.{k_values_stay, same_chunk}
use Rattle.h5_space.specs.Moves.{Moves}
use Rattle.h5_space.specs.Space.{Space}
use Rattle.h5_space.proofs.MovesLaws.{moves_beside, moves_kept, moves_same, moves_then}
use Rattle.h5_header.specs.Kinds.{IsOfDataset}
use Rattle.h5_header.specs.Listed.{IsWithin, Listed, messages_in}
use Rattle.h5_header.proofs.KeptLaws.{header-same, listed-same}
use Rattle.h5_layout.specs.Data.{AreDataRead, data_blocks, dataset_told}
use Rattle.h5_layout.specs.Told.{array_told, layout_told, type_told}
use Rattle.h5_open.specs.declared.opened.object.OpenedObject.{OpenedObject}
use Rattle.h5_open.specs.declared.opened.object.OpenedContent.{OpenedContent}
use Rattle.h5_open.specs.declared.opened.object.OpenedContent.TheVariants as content
use Rattle.h5_layout.specs.ArrayEdits.{AreOthersKept, IsArrayApart, IsArrayMoved, array_blocks, described_in}
use Rattle.h5_open.specs.ChangedInPlace.{IsChangedInPlace}
use Rattle.h5_open.specs.Opened.Headers.{object_with}
use Rattle.h5_open.specs.Opened.Judged.{IsArrayList}
use Rattle.h5_open.specs.Opened.Kept.{AreChunksTrimmed, IsContentKept, IsContentTidy, IsObjectKept, IsOpened}
use Rattle.h5_open.specs.Opened.Objects.{content_blocks, content_in, object_blocks, object_in, table_of, tree_of}
use Rattle.h5_open.specs.Opened.State.{opened_state}
use Rattle.h5_open.specs.SlotsInPlace.{IsOneRemade}
use Rattle.h5_open.proofs.ArrayOpened.{array_content}
use Rattle.h5_open.proofs.DataLaws.{data_blocks-same, data_inside, data_read-same, dataset_told-same}
use Rattle.h5_open.proofs.EndKept.{field_kept}
use Rattle.h5_open.proofs.HeaderInPlace.{header_standing}
use Rattle.h5_open.proofs.OneRemade.{one_changed, one_cover, one_opened, one_tree}
use Rattle.h5_open.proofs.OpenedLaws.Sounds.{object_of}
use Rattle.h5_open.proofs.OthersKept.{attributes_kept, has_kept, names_kept}
use Rattle.h5_open.proofs.SuperblockKept.{end_split}
use Rattle.h5_open.proofs.TrimmedKept.{trimmed-same}

-- The array of one object was edited where it stands, its header with room for any number of messages more, and then the end of file
-- address was written. All other slots stay.
pub record IsArrayEdited (old mid new : Space) (slots slots' : List (Option OpenedObject)) (number : ℕ) (p p' : OpenedObject) (change : Dataset → Dataset) : Type 0 where
  pub before : slice_get slots number ≡ Some (Some p)
  pub after : slice_get slots' number ≡ Some (Some p')
  pub others : (n : ℕ) → (number == n) ≡ false → option_flatten (slice_get slots' n) ≡ option_flatten (slice_get slots n)
  pub as_many : length slots' ≡ length slots
  pub kind : p.content ≡ content.Array
  pub content : p'.content ≡ content.Array
  pub room : ℕ
  pub moved : IsArrayMoved old mid (record p.messages { room = room }) p'.messages
  pub dataset : dataset_told mid.bytes (described_in mid.bytes p'.messages) ≡ change (dataset_told old.bytes (described_in old.bytes p.messages))
  pub trimmed : p'.tidy ≡ true → AreChunksTrimmed mid.bytes (described_in mid.bytes p'.messages)
  pub ended : Moves mid new (end_field mid.bytes ∷ []) (end_field new.bytes ∷ [])
  pub end : end_of_file new.bytes ≡ length new.bytes
  pub long : length new.bytes ≡ length mid.bytes
  pub small : length mid.bytes ≤ most_bytes

-- ---- the array

module _ (old : Space) (slots : List (Option OpenedObject)) (numbers : BTreeMap ℕ ℕ) (opened : IsOpened old slots numbers) (number : ℕ) (p : OpenedObject)
    (at : slice_get slots number ≡ Some (Some p)) (kind : p.content ≡ content.Array) where
  abbrev m : Listed
  m = p.messages

  abbrev ms : List Message
  ms = messages_in old.bytes p.messages.list

  kept : IsObjectKept old.bytes p
  kept = (object_of old slots numbers opened number p at).kept

  held : IsContentKept old.bytes ms content.Array
  held = array_content old slots numbers opened number p at kind

  blocks_were : object_blocks old.bytes p ≡ array_blocks old.bytes m
  blocks_were = ap (λ (c : OpenedContent). p.messages.blocks ++ content_blocks old.bytes ms c) kind

  -- it stands apart, as edits of it ask for
  pub array_apart : IsArrayApart old p.messages
  array_apart = record {
    standing = header_standing old slots numbers opened number p at;
    kinds = (held.0).kinds;
    array = (held.0).array;
    read = held.1;
    apart = λ q. let same = ap (cover q) blocks_were in omega (arith, opened.apart q, one_cover q (object_blocks old.bytes) slots number p at, same);
    long = opened.reads.1.holds.superblock.whole;
    k_some = opened.reads.1.holds.superblock.chunk_low;
    k_few = opened.reads.1.holds.superblock.chunk_high;
  }

  -- ---- edited, and then the end of file address was written

  module _ (mid new : Space) (slots' : List (Option OpenedObject)) (p' : OpenedObject) (change : Dataset → Dataset)
      (is : IsArrayEdited old mid new slots slots' number p p' change) where
    abbrev m' : Listed
    m' = p'.messages

    abbrev mid_ms : List Message
    mid_ms = messages_in mid.bytes p'.messages.list

    abbrev new_ms : List Message
    new_ms = messages_in new.bytes p'.messages.list

    abbrev data_now : List Block
    data_now = data_blocks mid.bytes (type_told mid_ms) (layout_told mid_ms)

    stand : IsArrayApart mid p'.messages
    stand = is.moved.stand

    -- ---- what stays

    -- the superblock before the field
    abbrev front : Block
    front = block 0 (end_field mid.bytes).at

    stays : Keeps mid.bytes new.bytes (front ∷ array_blocks mid.bytes m')
    stays = moves_kept mid new (end_field mid.bytes ∷ []) (end_field new.bytes ∷ []) (front ∷ array_blocks mid.bytes m') is.ended
        (λ q. omega (arith, stand.apart q, cover-append q (end_field mid.bytes ∷ []) (front ∷ array_blocks mid.bytes m'), end_split mid.bytes q)) (
          omega (arith, stand.long),
          all_append (λ (b : Block). b.at + b.len ≤ length mid.bytes) p'.messages.blocks data_now stand.standing.inside
              (data_inside mid.bytes (type_told mid_ms) (layout_told mid_ms) stand.read),
        )

    pub edited_k_stays : k_values new.bytes ≡ k_values mid.bytes
    edited_k_stays = k_values_stay mid.bytes new.bytes (end_field mid.bytes).at (omega arith) stays.0

    header_stays : Keeps mid.bytes new.bytes p'.messages.blocks
    header_stays = all_left (IsKept mid.bytes new.bytes) p'.messages.blocks data_now stays.1

    pub edited_data_stays : Keeps mid.bytes new.bytes data_now
    edited_data_stays = all_right (IsKept mid.bytes new.bytes) p'.messages.blocks data_now stays.1

    pub edited_list_stays : new_ms ≡ mid_ms
    edited_list_stays = listed-same mid.bytes new.bytes m' stand.standing.has stand.standing.within header_stays

    grown : length mid.bytes ≤ length new.bytes
    grown = is.ended.grown

    others : AreOthersKept ms new_ms
    others = subst (AreOthersKept ms) (sym edited_list_stays) is.moved.others

    -- ---- the object

    list_now : IsArrayList new_ms
    list_now = record {
      kinds = subst IsOfDataset (sym edited_list_stays) stand.kinds;
      attributes = has_kept ms new_ms others (held.0).attributes;
      array = subst (λ (l : List Message). HasArray l (array_told l)) (sym edited_list_stays) stand.array;
    }

    read_now : AreDataRead new.bytes (type_told new_ms) (layout_told new_ms)
    read_now = subst (λ (l : List Message). AreDataRead new.bytes (type_told l) (layout_told l)) (sym edited_list_stays)
        (data_read-same mid.bytes new.bytes grown (same_chunk new.bytes mid.bytes edited_k_stays) (type_told mid_ms) (layout_told mid_ms) stand.read edited_data_stays)

    trimmed_now : AreChunksTrimmed mid.bytes (array_told mid_ms) → AreChunksTrimmed new.bytes (array_told new_ms)
    trimmed_now was = subst (λ (l : List Message). AreChunksTrimmed new.bytes (array_told l)) (sym edited_list_stays)
        (λ chunked. trimmed-same mid.bytes new.bytes grown (same_chunk new.bytes mid.bytes edited_k_stays) (array_told mid_ms) stand.read edited_data_stays (array_told mid_ms).sizes (was chunked))

    kept_now : IsObjectKept new.bytes p'
    kept_now = record {
      header = record {
        has = header-same mid.bytes new.bytes m' stand.standing.has stand.standing.within header_stays;
        inside = subst (λ (n : ℕ). Inside n p'.messages.blocks) (sym is.long) stand.standing.inside;
        within = subst (λ (n : ℕ). IsWithin n p'.messages.list) (sym is.long) stand.standing.within;
        names = names_kept ms new_ms others kept.header.names;
        attributes = has_kept ms new_ms others kept.header.attributes;
      };
      known = is.moved.known kept.known;
      content = subst (IsContentKept new.bytes new_ms) (sym is.content) (list_now, read_now);
      tidy = λ known. subst (IsContentTidy new.bytes new_ms) (sym is.content) (trimmed_now (is.trimmed known));
    }

    blocks_now : object_blocks new.bytes p' ≡ array_blocks mid.bytes m'
    blocks_now =
        ap (λ (c : OpenedContent). p'.messages.blocks ++ content_blocks new.bytes new_ms c) is.content
        ∙ ap (λ (l : List Message). p'.messages.blocks ++ data_blocks new.bytes (type_told l) (layout_told l)) edited_list_stays
        ∙ ap (λ (bs : List Block). p'.messages.blocks ++ bs)
        (data_blocks-same mid.bytes new.bytes grown (same_chunk new.bytes mid.bytes edited_k_stays) (type_told mid_ms) (layout_told mid_ms) stand.read edited_data_stays)

    count_stays : reference_count (prefix_at new.bytes p.messages.header) ≡ reference_count (prefix_at old.bytes p.messages.header)
    count_stays =
        ap (λ (h : ℕ). reference_count (prefix_at new.bytes h)) (sym is.moved.header)
        ∙ ap reference_count (prefix-same mid.bytes new.bytes p'.messages.header mid_ms p'.messages.blocks stand.standing.has header_stays)
        ∙ ap (λ (h : ℕ). reference_count (prefix_at mid.bytes h)) is.moved.header
        ∙ is.moved.count

    -- ---- what moves

    abbrev own : List Block
    own = array_blocks old.bytes m ++ end_field old.bytes ∷ []

    abbrev own' : List Block
    own' = array_blocks mid.bytes m' ++ end_field new.bytes ∷ []

    -- the field stands where it stood when the array was edited
    field_mid : end_field mid.bytes ≡ end_field old.bytes
    field_mid = field_kept old slots numbers opened mid (array_blocks old.bytes m) (array_blocks mid.bytes m') is.moved.moves
        (λ q. let same = ap (cover q) blocks_were in omega (arith, one_cover q (object_blocks old.bytes) slots number p at, same))

    both : Moves old new own own'
    both =
        let between : List Block = array_blocks mid.bytes m' ++ end_field mid.bytes ∷ [] in
        let first : Moves old mid own between
        = subst (λ (b : Block). Moves old mid own (array_blocks mid.bytes m' ++ b ∷ [])) (sym field_mid)
        (moves_beside old mid (array_blocks old.bytes m) (array_blocks mid.bytes m') (end_field old.bytes ∷ []) is.moved.moves) in
        let turned : (field : Block) (q : ℕ) → cover q (array_blocks mid.bytes m' ++ field ∷ []) ≡ cover q (field ∷ array_blocks mid.bytes m')
        = λ field q. omega (arith, cover-append q (array_blocks mid.bytes m') (field ∷ [])) in
        let second : Moves mid new between own'
        = moves_same mid new (end_field mid.bytes ∷ array_blocks mid.bytes m') (end_field new.bytes ∷ array_blocks mid.bytes m') between own'
        (turned (end_field mid.bytes)) (turned (end_field new.bytes))
        (moves_beside mid new (end_field mid.bytes ∷ []) (end_field new.bytes ∷ []) (array_blocks mid.bytes m') is.ended) in
        moves_then old mid new own between own' first second

    remade : IsOneRemade old new slots slots' number p p'
    remade = record {
      before = at;
      after = is.after;
      others = is.others;
      as_many = is.as_many;
      header = is.moved.header;
      kept = kept_now;
      links = rw (kind, is.content) tt;
      counted = count_stays;
      moves = moves_same old new own own' (end_field old.bytes ∷ object_blocks old.bytes p) (end_field new.bytes ∷ object_blocks new.bytes p')
          (λ q. let are = ap (cover q) blocks_were in omega (arith, are, cover-append q (array_blocks old.bytes m) (end_field old.bytes ∷ [])))
          (λ q. let are = ap (cover q) blocks_now in omega (arith, are, cover-append q (array_blocks mid.bytes m') (end_field new.bytes ∷ [])))
          both;
      end = is.end;
      small = let low = is.small in let same = is.long in omega (arith, low, same);
    }

    -- ---- the tree

    dataset_now : dataset_told new.bytes (array_told new_ms) ≡ change (dataset_told old.bytes (array_told ms))
    dataset_now =
        ap (λ (l : List Message). dataset_told new.bytes (array_told l)) edited_list_stays
        ∙ dataset_told-same mid.bytes new.bytes grown (same_chunk new.bytes mid.bytes edited_k_stays) (array_told mid_ms) stand.read edited_data_stays
        ∙ is.dataset

    object_now : object_in new.bytes (table_of slots') p' ≡ with_dataset change (object_in old.bytes (table_of slots) p)
    object_now =
        let content_is : content_in new.bytes (table_of slots') new_ms p'.content ≡ Array (change (dataset_told old.bytes (array_told ms)))
        = ap (content_in new.bytes (table_of slots') new_ms) is.content ∙ ap Array dataset_now in
        let attributes_are = attributes_kept ms new_ms others in
        let kept_are = others.kept in
        (λ i. record { content = content_is i; attributes = attributes_are i; kept = kept_are i })
        ∙ sym (ap (λ (c : OpenedContent). with_dataset change (object_with (content_in old.bytes (table_of slots) ms c) ms)) kind)

    -- ---- so

    pub edited_opened : IsOpened new slots' numbers
    edited_opened = one_opened old new slots slots' numbers opened number p p' remade

    pub edited_changed : (bytes : ℕ) → length new.bytes ≤ length old.bytes + bytes
        → IsChangedInPlace (opened_state old slots) (opened_state new slots') (with_object (tree_of old.bytes slots) number (with_dataset change)) (length slots)
        (number ∷ []) bytes
    edited_changed bytes room =
        subst (λ (n : ℕ). IsChangedInPlace (opened_state old slots) (opened_state new slots') (with_object (tree_of old.bytes slots) number (with_dataset change)) n
        (number ∷ []) bytes) is.as_many
        (subst (λ (t : Tree). IsChangedInPlace (opened_state old slots) (opened_state new slots') t (length slots') (number ∷ []) bytes)
        (one_tree old new slots slots' numbers opened number p p' remade (with_dataset change) object_now)
        (one_changed old new slots slots' numbers opened number p p' remade bytes room))
