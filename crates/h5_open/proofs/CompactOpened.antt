-- An opened image in which cells of a compact array were written in its header: what is kept of its objects is kept still.
use Rattle.std.proofs.Common.{◌≡◌, ℕ, ◌+◌, ◌*◌, ◌≤◌, true, ◌==◌, List, [], ◌∷◌, ◌++◌, map, length, refl, sym, ap, ◌∙◌, subst, arith, Option, Some, ℤ, false}
use Rattle.std.specs.Prelude.{slice_get, ◌||◌}
use Rattle.std.specs.BTreeMap.{BTreeMap}
use Rattle.std.specs.Cmp.Lexicographic.{slice_cmp}
use Rattle.std.specs.FinMap.{FinMap, from_entries}
use Rattle.std.specs.List.{AllZip, IsDistinct, filter, filter_map, find, list_all}
use Rattle.std.specs.Ordering.{nat_cmp, eq_by_cmp}
use Rattle.h5_bytes.specs.Bytes.{part}
use Rattle.h5_bytes.specs.Blocks.{cover, holds}
use Rattle.h5_bytes.proofs.BlockLaws.{cover-append, holds-le}
use Rattle.h5_bytes.proofs.PartLaws.{length-with_part}
use Rattle.h5_model.specs.Edits.Applied.{with_dataset}
use Rattle.h5_model.specs.Format.AttributeBody.{attribute_of}
use Rattle.h5_model.specs.Format.Fixed.{IsFixed, fits}
use Rattle.h5_model.specs.Format.Layout.{Layout, InMessage}
use Rattle.h5_model.specs.Format.MessageTypes.{data_layout_kind, comment_kind, old_modification_time_kind, modification_time_kind, attribute_kind}
use Rattle.h5_model.specs.Format.Messages.{Message, count_of, reference_count}
use Rattle.h5_model.specs.Format.Plain.{cells_bytes}
use Rattle.h5_model.specs.Format.Reads.{HasAttributes, is_attribute_message, is_kept, kept_of}
use Rattle.h5_model.specs.Format.Superblock.{k_values}
use Rattle.h5_model.specs.Format.Described.{Described, HasArray}
use Rattle.h5_model.specs.Tree.Objects.{Tree, Array, Attribute, Attributes, with_object}
use Rattle.h5_model.specs.Tree.Places.{cells}
use Rattle.h5_space.specs.Space.{Space}
use Rattle.h5_space.specs.Lending.{with_bytes_at}
use Rattle.h5_space.specs.Moves.{Moves}
use Rattle.h5_header.specs.Kinds.{IsOfDataset}
use Rattle.h5_header.specs.Listed.{messages_in}
use Rattle.h5_header.specs.declared.message.Message.{Message as Listed}
use Rattle.h5_header.specs.Standing.{IsStanding}
use Rattle.h5_header.proofs.FoundLaws.{within_at}
use Rattle.h5_header.proofs.FirstWritten.{IsBodyWritten, body_written, same_count, same_filter, written_covered}
use Rattle.h5_header.proofs.BesideLaws.{moves_covered}
use Rattle.h5_attr.specs.Attributes.{attributes_of, HasNamesOnce}
use Rattle.h5_layout.specs.Data.{AreDataRead, data_blocks, dataset_told}
use Rattle.h5_layout.specs.Told.{array_told, layout_told, type_told}
use Rattle.h5_layout.proofs.CompactWritten.{array_with, compact_array, compact_high, compact_inside, compact_low, compact_told}
use Rattle.h5_layout.proofs.ToldLaws.{told}
use Rattle.h5_open.specs.declared.opened.object.OpenedObject.{OpenedObject}
use Rattle.h5_open.specs.declared.opened.object.OpenedContent.{OpenedContent}
use Rattle.h5_open.specs.declared.opened.object.OpenedContent.TheVariants as content
use Rattle.h5_open.specs.Opened.Kept.{IsOpened, IsObjectKept, IsContentKept, AreChunksTrimmed, IsContentTidy}
use Rattle.h5_open.specs.Opened.Objects.{content_blocks, object_blocks, object_in, table_of, tree_of}
use Rattle.h5_open.specs.Opened.Sound.{IsObjectOf, IsWholeFile}
use Rattle.h5_open.specs.Opened.State.{opened_state}
use Rattle.h5_open.specs.Written.{with_run, IsKeptOutside}
use Rattle.h5_open.proofs.ArrayOpened.{array_content, ms, of}
use Rattle.h5_open.specs.ChangedInPlace.{IsChangedInPlace}
use Rattle.h5_open.specs.SlotsInPlace.{IsOneRemade}
use Rattle.h5_open.proofs.OneRemade.{one_changed, one_cover, one_opened, one_tree, written_remade}
use Rattle.h5_open.proofs.StandingOpened.{kept_outside}

-- ---- what the messages say of attributes, by those that are an attribute's

module _ (ms ms' : List Message) (same : filter is_attribute_message ms' ≡ filter is_attribute_message ms) where
  same_attributes : attributes_of ms' ≡ attributes_of ms
  same_attributes = ap (λ (xs : List Message). from_entries (filter_map (λ (m : Message). attribute_of m.body) xs)) same

  same_names : HasNamesOnce ms → HasNamesOnce ms'
  same_names = subst (λ (xs : List Message). IsDistinct (eq_by_cmp (slice_cmp nat_cmp)) (map (λ (a : List ℕ × Attribute). a.0) (filter_map (λ (m : Message). attribute_of m.body) xs))) (sym same)

  has_still : (attributes : Attributes) → HasAttributes ms attributes → HasAttributes ms' attributes
  has_still attributes has = record {
    listed = has.listed;
    each = subst (λ (xs : List Message). AllZip (λ (m : Message) (a : List ℕ × Attribute). attribute_of m.body ≡ Some a) xs has.listed) (sym same) has.each;
    distinct = has.distinct;
    small = has.small;
    all = has.all;
  }

same_kinds : (ms ms' : List Message) → ((k : ℕ) → count_of k ms' ≡ count_of k ms) → IsOfDataset ms → IsOfDataset ms'
same_kinds ms ms' same is = record {
  no_table = same 17 ∙ is.no_table;
  once = (same 1 ∙ (is.once).0, (same 3 ∙ ((is.once).1).0, (same 8 ∙ (((is.once).1).1).0, tt)));
  fills = (omega (arith, same 4, (is.fills).0), (omega (arith, same 5, ((is.fills).1).0), tt));
}

-- ---- the array

-- what writing cells of a compact array has made of an opened image
pub record IsCompactWritten (old new : Space) (slots : List (Option OpenedObject)) (numbers : BTreeMap ℕ ℕ) (number place : ℕ) (values : List ℤ) (p : OpenedObject) : Type 0 where
  pub opened : IsOpened new slots numbers
  pub state : opened_state new slots
      ≡ record (opened_state old slots) { image = new.bytes; tree = with_object (tree_of old.bytes slots) number (with_dataset (with_run place values)) }
  pub k : k_values new.bytes ≡ k_values old.bytes
  pub whole : IsWholeFile (opened_state old slots) → IsWholeFile (opened_state new slots)
  pub in_place : IsChangedInPlace (opened_state old slots) (opened_state new slots) (with_object (tree_of old.bytes slots) number (with_dataset (with_run place values))) (length slots)
      (number ∷ []) 0
  pub local : IsKeptOutside old.bytes new.bytes p.messages.blocks
  pub bytes : List ℕ
  pub laid : layout_told (messages_in new.bytes p.messages.list) ≡ InMessage bytes
  pub fixed : (array_told (messages_in new.bytes p.messages.list)).fixed ≡ (array_told (messages_in old.bytes p.messages.list)).fixed
  pub sizes : (array_told (messages_in new.bytes p.messages.list)).sizes ≡ (array_told (messages_in old.bytes p.messages.list)).sizes

module _ (old : Space) (slots : List (Option OpenedObject)) (numbers : BTreeMap ℕ ℕ) (opened : IsOpened old slots numbers) (number : ℕ) (p : OpenedObject) (at : slice_get slots number ≡ Some (Some p))
    (is_array : p.content ≡ content.Array) (bytes : List ℕ) (laid : layout_told (messages_in old.bytes p.messages.list) ≡ InMessage bytes)
    (x : Listed) (found : find (λ (m : Listed). m.kind == data_layout_kind) p.messages.list ≡ Some x) where
  abbrev table : FinMap nat_cmp ℕ
  table = table_of slots

  abbrev tree : Tree
  tree = tree_of old.bytes slots

  abbrev list : List Message
  list = ms old slots numbers opened number p at

  abbrev a : Described
  a = array_told list

  abbrev it : IsObjectOf (opened_state old slots) number p
  it = of old slots numbers opened number p at

  kept : IsContentKept old.bytes list content.Array
  kept = array_content old slots numbers opened number p at is_array

  blocks_are : object_blocks old.bytes p ≡ p.messages.blocks ++ []
  blocks_are = ap (λ (c : OpenedContent). p.messages.blocks ++ content_blocks old.bytes list c) is_array
      ∙ ap (λ (l : Layout). p.messages.blocks ++ data_blocks old.bytes (type_told list) l) laid

  parts : (q : ℕ) → cover q (object_blocks old.bytes p) ≡ cover q p.messages.blocks
  parts q = let all = ap (cover q) blocks_are in omega (arith, all, cover-append q p.messages.blocks [])

  standing : IsStanding old.bytes p.messages
  standing = record {
    has = it.kept.header.has;
    inside = it.kept.header.inside;
    within = it.kept.header.within;
    separate = λ q. omega (arith, opened.apart q, one_cover q (object_blocks old.bytes) slots number p at, parts q, holds-le q 0 (length old.bytes));
  }

  module _ (place : ℕ) (values : List ℤ) (room : place + length values ≤ cells a.sizes) where
    abbrev w : List ℕ
    w = cells_bytes a.fixed values

    abbrev start : ℕ
    start = x.at + 4 + place * a.fixed.size

    -- the cells lie in the image
    pub compact_within : x.at + 4 + place * (array_told (messages_in old.bytes p.messages.list)).fixed.size
        + length values * (array_told (messages_in old.bytes p.messages.list)).fixed.size ≤ length old.bytes
    compact_within = compact_inside old.bytes p.messages.list it.kept.header.within a (kept.0).array bytes laid x found place values room

    module _ (fixed : IsFixed a.fixed) (of_type : list_all (fits a.fixed) values ≡ true) where
      abbrev new : Space
      new = with_bytes_at old start w

      abbrev list' : List Message
      list' = messages_in new.bytes p.messages.list

      low : x.at ≤ start
      low = compact_low old.bytes p.messages.list it.kept.header.within a (kept.0).array bytes laid x found place values room

      high : start + length w ≤ x.at + x.size
      high = compact_high old.bytes p.messages.list it.kept.header.within a (kept.0).array bytes laid x found place values room

      body : IsBodyWritten old.bytes new.bytes p.messages data_layout_kind x
      body = body_written old.bytes p.messages standing data_layout_kind (λ e. omega (arith, e)) x found w start low high

      covered : (q : ℕ) → holds q start (length w) ≤ cover q p.messages.blocks
      covered = written_covered old.bytes p.messages standing 8 (λ e. omega (arith, e)) x found w start low high

      fit : start + length w ≤ length old.bytes
      fit = omega (arith, high, within_at (length old.bytes) 8 p.messages.list x it.kept.header.within found)

      long : length new.bytes ≡ length old.bytes
      long = length-with_part start w old.bytes fit

      moves : Moves old new p.messages.blocks p.messages.blocks
      moves = moves_covered old new w start p.messages.blocks covered fit refl refl

      -- ---- what the messages tell now

      abbrev now : Described
      now = array_with old.bytes p.messages.list it.kept.header.within a (kept.0).array bytes laid x found place values room

      has_now : HasArray list' now
      has_now = compact_array old.bytes p.messages.list it.kept.header.within a (kept.0).array bytes laid x found place values room list' body.messages

      told_is : array_told list' ≡ now
      told_is = told list' now has_now

      changed : dataset_told new.bytes now ≡ with_run place values (dataset_told old.bytes a)
      changed = compact_told old.bytes p.messages.list it.kept.header.within a (kept.0).array bytes laid x found place values room of_type fixed

      counts : (k : ℕ) → count_of k list' ≡ count_of k list
      counts = same_count data_layout_kind list list' (part x.at x.size new.bytes) body.messages

      attributes_same : filter is_attribute_message list' ≡ filter is_attribute_message list
      attributes_same = same_filter data_layout_kind list list' (part x.at x.size new.bytes) body.messages (λ (k : ℕ). k == attribute_kind) refl

      kept_same : filter is_kept list' ≡ filter is_kept list
      kept_same = same_filter data_layout_kind list list' (part x.at x.size new.bytes) body.messages (λ (k : ℕ). (k == comment_kind || k == old_modification_time_kind) || k == modification_time_kind) refl

      has_attributes : HasAttributes list' (attributes_of list')
      has_attributes = subst (HasAttributes list') (sym (same_attributes list list' attributes_same)) (has_still list list' attributes_same (attributes_of list) it.kept.header.attributes)

      kinds_now : IsOfDataset list'
      kinds_now = same_kinds list list' counts (kept.0).kinds

      content_now : IsContentKept new.bytes list' content.Array
      content_now = (
        record { kinds = kinds_now; attributes = has_attributes; array = subst (HasArray list') (sym told_is) has_now },
        subst (AreDataRead new.bytes (type_told list')) (sym (ap (λ (d : Described). d.layout) told_is)) tt,
      )

      array_still : IsObjectKept new.bytes p
      array_still = record {
        header = record {
          has = (body.standing).has;
          inside = (body.standing).inside;
          within = (body.standing).within;
          names = same_names list list' attributes_same it.kept.header.names;
          attributes = has_attributes;
        };
        known = it.kept.known;
        content = subst (IsContentKept new.bytes list') (sym is_array) content_now;
        tidy = λ known. subst (IsContentTidy new.bytes list') (sym is_array)
            (subst (AreChunksTrimmed new.bytes) (sym told_is) (λ chunked. absurd (let never : false ≡ true = chunked in cc)));
      }

      blocks_now : object_blocks new.bytes p ≡ object_blocks old.bytes p
      blocks_now =
          ap (λ (c : OpenedContent). p.messages.blocks ++ content_blocks new.bytes list' c) is_array
          ∙ ap (λ (l : Layout). p.messages.blocks ++ data_blocks new.bytes (type_told list') l) (ap (λ (d : Described). d.layout) told_is)
          ∙ sym blocks_are

      remade : IsOneRemade old new slots slots number p p
      remade = written_remade old new slots numbers opened number p at p.messages.blocks (λ q. omega (arith, parts q)) moves long array_still (rw is_array tt) (ap reference_count body.prefix) blocks_now

      changed_now : object_in new.bytes table p ≡ with_dataset (with_run place values) (object_in old.bytes table p)
      changed_now =
          let cells_there : dataset_told new.bytes (array_told list') ≡ with_run place values (dataset_told old.bytes a) = ap (dataset_told new.bytes) told_is ∙ changed in
          let kept_there : map kept_of (filter is_kept list') ≡ map kept_of (filter is_kept list) = ap (map kept_of) kept_same in
          let attributes_there : attributes_of list' ≡ attributes_of list = same_attributes list list' attributes_same in
          rw is_array (λ i. record { content = Array (cells_there i); attributes = attributes_there i; kept = kept_there i })

      all : IsChangedInPlace (opened_state old slots) (opened_state new slots) (with_object tree number (with_dataset (with_run place values))) (length slots) (number ∷ []) 0
      all = subst (λ (t : Tree). IsChangedInPlace (opened_state old slots) (opened_state new slots) t (length slots) (number ∷ []) 0)
          (one_tree old new slots slots numbers opened number p p remade (with_dataset (with_run place values)) changed_now)
          (one_changed old new slots slots numbers opened number p p remade 0 (omega (arith, long)))

      -- all of it
      pub compact_written : IsCompactWritten old new slots numbers number place values p
      compact_written = record {
        opened = one_opened old new slots slots numbers opened number p p remade;
        state = ap (λ (t : Tree). record (opened_state old slots) { image = new.bytes; tree = t }) all.state.0;
        k = all.k;
        whole = all.whole;
        in_place = all;
        local = kept_outside old.bytes new.bytes start w p.messages.blocks fit refl covered;
        bytes = part (x.at + 4) (cells a.sizes * a.fixed.size) new.bytes;
        laid = ap (λ (d : Described). d.layout) told_is;
        fixed = ap (λ (d : Described). d.fixed) told_is;
        sizes = ap (λ (d : Described). d.sizes) told_is;
      }
