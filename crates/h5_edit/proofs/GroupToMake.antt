-- The bytes of a group without links and attributes, wherever they stand in an image with these K values, are a new empty group (File
-- Format Specification 3.0, sections III.A.1, III.D and IV.A.2.r).
use Rattle.std.proofs.Common.{◌≡◌, ℕ, ◌+◌, ◌^◌, ◌<◌, ◌≤◌, List, [], ◌∷◌, ◌++◌, length, take, drop, refl, sym, ap, ◌∙◌, subst, arith, Some}
use Rattle.std.proofs.lemmas.List.{drop_at, length-append, take_at}
use Rattle.std.specs.FinMap.{FinMap, empty}
use Rattle.std.specs.List.{AllByRecursion, IsDistinct}
use Rattle.std.specs.Ordering.{nat_cmp}
use Rattle.std.specs.Prelude.{IsTrue, option_and_then}
use Rattle.h5_bytes.specs.Blocks.{Run}
use Rattle.h5_bytes.specs.Bytes.{part}
use Rattle.h5_model.specs.Edits.Applied.{new_object}
use Rattle.h5_model.specs.Format.Addresses.{SymbolTable, symbol_table_of}
use Rattle.h5_model.specs.Format.Bodies.{pair_bytes}
use Rattle.h5_model.specs.Format.Limits.{most_bytes}
use Rattle.h5_model.specs.Format.MessageTypes.{symbol_table_kind}
use Rattle.h5_model.specs.Format.Messages.{Message, first_body, prefix_at, reference_count}
use Rattle.h5_model.specs.Format.Reads.{HasAttributes}
use Rattle.h5_model.specs.Format.Sizes.{group_node}
use Rattle.h5_model.specs.Format.Superblock.{AreK, leaf_k, internal_k}
use Rattle.h5_model.specs.Format.Symbols.{Target}
use Rattle.h5_model.specs.Tree.Objects.{Group}
use Rattle.h5_model.proofs.PlainMessages.{IsPlain, header_counted, header_reads, messages_from}
use Rattle.h5_header.specs.Heads.{is_read}
use Rattle.h5_header.specs.Kinds.{IsOfGroup}
use Rattle.h5_header.specs.Laid.{IsHeaderBytes}
use Rattle.h5_query.specs.Attributes.{HasNamesOnce, attributes_of}
use Rattle.h5_query.specs.ContentBytesType.{ContentBytes}
use Rattle.h5_query.specs.ContentBytesType.TheVariants as bytes
use Rattle.h5_query.specs.GroupTold.{blocks_told, links_told}
use Rattle.h5_query.specs.ObjectAdded.{IsContentMade, IsOfType, IsToBeMade, content_of, object_bytes, object_place, place_in, stored_content}
use Rattle.h5_query.specs.ObjectBytesType.{ObjectBytes}
use Rattle.h5_query.specs.Opened.Objects.{content_in, links_by}
use Rattle.h5_query.specs.Opened.State.{FileState}
use Rattle.h5_query.specs.OpenedContentType.{OpenedContent}
use Rattle.h5_query.specs.OpenedContentType.TheVariants as content
use Rattle.h5_repack.specs.Bodies.Headers.{group_header}
use Rattle.h5_repack.specs.GroupLinks.{links_bytes}
use Rattle.h5_repack.proofs.BareGroup.{length-bare_group}
use Rattle.h5_repack.proofs.BareGroupRead.{IsBareGroup, bare_group_read}
use Rattle.h5_repack.proofs.BodyLaws.HeaderGroup.{length-group_header, symbol_table_back}
use Rattle.h5_repack.proofs.ImageLaws.Objects.{second_part}

-- ---- the header, at this place, of a group with this tree and heap

module _ (at tree heap : ℕ) where
  abbrev written : List (ℕ × List ℕ)
  written = (symbol_table_kind, pair_bytes tree heap) ∷ []

  -- its one message
  abbrev header_messages : List Message
  header_messages = messages_from (at + 16) written

  plain : AllByRecursion IsPlain written
  plain = (record { kind = omega arith; own = refl; padded = refl; low = omega arith }, tt)

  listed : IsHeaderBytes (group_header tree heap []) at header_messages
  listed image there = header_reads image at 1 written there plain (omega arith) (omega arith)

  counted : (image : List ℕ) → part at (length (group_header tree heap [])) image ≡ group_header tree heap [] → reference_count (prefix_at image at) ≡ 1
  counted image there = header_counted image at 1 written there (omega arith)

  known : AllByRecursion (λ (m : Message). IsTrue (is_read m.kind)) header_messages
  known = (refl, tt)

  once : HasNamesOnce header_messages
  unfolding IsDistinct
  once = tt

  attributes : HasAttributes header_messages (attributes_of header_messages)
  unfolding IsDistinct
  attributes = record { listed = []; each = tt; distinct = tt; small = tt; all = refl }

  of_group : IsOfGroup header_messages
  of_group = record { table = refl; alone = (refl, (refl, (refl, (refl, (refl, tt))))) }

  named : tree < 2 ^ 64 → heap < 2 ^ 64 → option_and_then symbol_table_of (first_body symbol_table_kind header_messages) ≡ Some (record { tree = tree; heap = heap })
  named tree_low heap_low = symbol_table_back tree heap tree_low heap_low

-- ---- what stands behind it

-- a group of which no link is told is an empty one
without_links : (image : List ℕ) (ms : List Message) (table : SymbolTable) → links_told image table ≡ []
    → (numbers : FinMap nat_cmp ℕ) → content_in image numbers ms (content.Group table) ≡ Group empty
without_links image ms table none numbers = ap (λ (found : List (List ℕ × Target)). Group (links_by numbers found)) none

-- cells are no group
group_of_type : (c : ContentBytes) (table : SymbolTable) → content_of c ≡ content.Group table → IsOfType c
group_of_type (bytes.Group t bs) table is = tt
group_of_type (bytes.Cells fixed fill count) table is = absurd (cc)

-- the tree and the heap, for a header at this place
abbrev table_for : ℕ → ℕ → SymbolTable
table_for internal at = record { tree = at + 40; heap = at + 40 + group_node internal }

module _ (leaf internal at : ℕ) (k : AreK leaf internal) (low : at + (group_node internal + 160) ≤ most_bytes) where
  abbrev tree : ℕ
  tree = at + 40

  abbrev heap : ℕ
  heap = at + 40 + group_node internal

  abbrev front : List ℕ
  front = group_header tree heap []

  abbrev links : List ℕ
  links = links_bytes leaf internal tree []

  front_long : length front ≡ 40
  front_long = length-group_header tree heap []

  all_long : length (front ++ links) ≡ group_node internal + 160
  all_long = length-bare_group leaf internal k tree heap

  made : (image : List ℕ) → leaf_k image ≡ leaf → internal_k image ≡ internal → part at (length (front ++ links)) image ≡ front ++ links
      → IsContentMade image (header_messages at tree heap) (content.Group (table_for internal at)) (at + 40) (at + (group_node internal + 160)) (Group empty)
  made image leaf_is internal_is there =
      let behind : length links ≡ group_node internal + 120 = omega (arith, all_long, front_long, length-append front links) in
      let stands : part (at + 40) (group_node internal + 120) image ≡ links
      = (λ i. part (at + sym front_long i) (sym behind i) image) ∙ second_part at front links image there in
      let bare : IsBareGroup image internal (at + 40) = bare_group_read image leaf internal (at + 40) leaf_is internal_is k (omega arith) stands in
      let ends : at + 40 + (group_node internal + 120) ≡ at + (group_node internal + 160) = omega arith in
      record {
        kept = (of_group at tree heap, named at tree heap (omega arith) (omega arith), bare.read);
        none = bare.none;
        exact = bare.exact;
        told = without_links image (header_messages at tree heap) (table_for internal at) bare.none;
        blocks = subst (λ (to : ℕ). Run (at + 40) (blocks_told image (table_for internal at)) to) ends bare.run;
      }

-- ---- the whole

-- These bytes, cut behind the header, are to be made as a group without links and attributes.
pub group_to_make : (f : FileState) (b : ObjectBytes) (table : SymbolTable) (leaf internal at : ℕ) (bytes : List ℕ)
    → AreK leaf internal → leaf_k f.image ≡ leaf → internal_k f.image ≡ internal
    → at ≡ place_in f (group_node internal + 160) → at + (group_node internal + 160) ≤ most_bytes
    → bytes ≡ group_header (at + 40) (at + 40 + group_node internal) [] ++ links_bytes leaf internal (at + 40) []
    → table ≡ record { tree = at + 40; heap = at + 40 + group_node internal }
    → b.header.now ≡ take 40 bytes → content_of b.content ≡ content.Group table → stored_content b.content ≡ drop 40 bytes
    → IsToBeMade f b (new_object (Group empty))
group_to_make f b table leaf internal at bytes k leaf_f internal_f at_is low bytes_are table_is header_is content_is rest_is =
    let tree : ℕ = at + 40 in
    let heap : ℕ = at + 40 + group_node internal in
    let first : List ℕ = group_header tree heap [] in
    let second : List ℕ = links_bytes leaf internal tree [] in
    let ms : List Message = header_messages at tree heap in
    let short : length first ≡ 40 = length-group_header tree heap [] in
    let header : b.header.now ≡ first = header_is ∙ ap (take 40) bytes_are ∙ take_at first second 40 short in
    let rest : stored_content b.content ≡ second = rest_is ∙ ap (drop 40) bytes_are ∙ drop_at first second 40 short in
    let all : object_bytes b ≡ first ++ second = (λ i. header i ++ rest i) in
    let long : length (object_bytes b) ≡ group_node internal + 160 = ap length all ∙ length-bare_group leaf internal k tree heap in
    let place : object_place f b ≡ at = ap (place_in f) long ∙ sym at_is in
    let kept : content_of b.content ≡ content.Group (table_for internal at) = content_is ∙ ap (λ (t : SymbolTable). content.Group t) table_is in
    let from : object_place f b + length b.header.now ≡ at + 40 = (λ i. place i + (ap length header ∙ short) i) in
    let to : object_place f b + length (object_bytes b) ≡ at + (group_node internal + 160) = (λ i. place i + long i) in
    record {
      low = subst (λ (n : ℕ). n ≤ most_bytes) (sym to) low;
      of_type = group_of_type b.content (table_for internal at) kept;
      messages = ms;
      header = subst (λ (p : ℕ). IsHeaderBytes b.header.now p ms) (sym place) (subst (λ (bs : List ℕ). IsHeaderBytes bs at ms) (sym header) (listed at tree heap));
      counted = λ image there.
          ap (λ (p : ℕ). reference_count (prefix_at image p)) place
          ∙ counted at tree heap image (sym (λ i. part (place i) (length (header i)) image) ∙ there ∙ header);
      known = known at tree heap;
      names = once at tree heap;
      attributes = attributes at tree heap;
      told = refl;
      content = λ image leaf_same internal_same there.
          let stands : part at (length (first ++ second)) image ≡ first ++ second = sym (λ i. part (place i) (length (all i)) image) ∙ there ∙ all in
          let own = made leaf internal at k low image (leaf_same ∙ leaf_f) (internal_same ∙ internal_f) stands in
          subst (λ (p : ℕ). IsContentMade image ms (content_of b.content) p (object_place f b + length (object_bytes b)) (Group empty)) (sym from)
          (subst (λ (p : ℕ). IsContentMade image ms (content_of b.content) (at + 40) p (Group empty)) (sym to)
          (subst (λ (c : OpenedContent). IsContentMade image ms c (at + 40) (at + (group_node internal + 160)) (Group empty)) (sym kept) own));
    }
