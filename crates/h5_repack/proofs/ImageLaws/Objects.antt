-- How many bytes an object has in the plain image, and that it reads as that object where they stand, in blocks that hold each of them
-- once (File Format Specification 3.0, section IV.A).
use Rattle.std.proofs.Common.{◌≡◌, ℕ, ◌+◌, ◌*◌, ◌^◌, ◌≤◌, ◌<◌, List, ◌∷◌, ◌++◌, map, length, length-append, refl, sym, ap, ap₂, ◌∙◌, subst, arith, Option, Some}
use Rattle.std.specs.Prelude.{is_some}
use Rattle.std.specs.Ordering.{nat_cmp}
use Rattle.std.specs.FinMap.{FinMap, get}
use Rattle.std.specs.Option.{option_and_then}
use Rattle.h5_bytes.specs.Bytes.{part}
use Rattle.h5_bytes.specs.Blocks.{block, Inside, cover, holds}
use Rattle.h5_bytes.specs.declared.Block.{Block}
use Rattle.h5_bytes.proofs.BlockLaws.{holds_join}
use Rattle.h5_bytes.proofs.PartLaws.{part-part, part-front, part-appended}
use Rattle.h5_model.specs.Format.Limits.{most_bytes}
use Rattle.h5_model.specs.Format.Links.{HasLinks}
use Rattle.h5_model.specs.Format.Messages.{prefix_at, reference_count}
use Rattle.h5_model.specs.Format.Plain.{messages_bytes}
use Rattle.h5_model.specs.Format.PlainLength.{content_bytes, group_bytes, nodes_over, rows_of}
use Rattle.h5_model.specs.Format.Reads.{HasObject, IsCounted}
use Rattle.h5_model.specs.Format.Sizes.{group_node, header_size}
use Rattle.h5_model.specs.Format.Superblock.{k_values, leaf_k, internal_k}
use Rattle.h5_model.specs.Tree.Objects.{Tree, Object, Group, Links, links_in, links_of}
use Rattle.h5_group.specs.Heap.Links.{Leads, target_link}
use Rattle.h5_repack.specs.Bodies.Bodies.{others_of}
use Rattle.h5_repack.specs.Bodies.Headers.{group_header}
use Rattle.h5_repack.proofs.BodyLaws.HeaderGroup.{group_object, group_header-size, length-group_header}
use Rattle.h5_group.specs.Writing.Laws.{ArePlainLinks, IsPlainGroup, LinksRead, LinksLength, GroupLength}
use Rattle.h5_group.specs.Writing.Written as links
use Rattle.h5_group.specs.Writing.Written.{links_bytes, links_length}
use Rattle.h5_repack.specs.Image.Plain.{IsLowContent, IsPlain, IsPlainContent, IsPlainTree, IsLow}
use Rattle.h5_repack.specs.Image.Written.{StoredIn, counts_of, object_length, header_in, content_place, group_heap_place, written_links, object_bytes}
use Rattle.h5_repack.proofs.ImageLaws.GroupLinks.{ArePlaced, header_is, length-written, length-links, plain_links, same_links, all_written}
use Rattle.h5_model.specs.declared.k_values.KValues.{KValues}

-- ---- two parts, one behind the other

pub first_part : (at : ℕ) (xs ys image : List ℕ) → part at (length (xs ++ ys)) image ≡ xs ++ ys → part at (length xs) image ≡ xs
first_part at xs ys image is =
    let long = length-append xs ys in
    let none : at + 0 ≡ at = omega arith in
    ap (λ y. part y (length xs) image) (sym none) ∙ sym (part-part 0 (length xs) at (length (xs ++ ys)) image (omega (arith, long)))
    ∙ ap (part 0 (length xs)) is ∙ part-front xs ys

pub second_part : (at : ℕ) (xs ys image : List ℕ) → part at (length (xs ++ ys)) image ≡ xs ++ ys → part (at + length xs) (length ys) image ≡ ys
second_part at xs ys image is =
    let long = length-append xs ys in
    sym (part-part (length xs) (length ys) at (length (xs ++ ys)) image (omega (arith, long)))
    ∙ ap (part (length xs) (length ys)) is ∙ part-appended xs ys

-- ---- an object that stands at a place

-- it is there, it has its count, and its blocks hold each of its bytes once
pub record Stands (image : List ℕ) (k : KValues) (counts : ℕ → ℕ) (tree : Tree) (table : FinMap nat_cmp ℕ) (place : ℕ) (e : ℕ × Object) : Type 0 where
  pub blocks : List Block
  pub object : HasObject image table place e.1 blocks
  pub counted : IsCounted image tree (record { number = e.0; header = place; object = e.1; blocks = blocks })
  pub covered : (p : ℕ) → cover p blocks ≡ holds p place (object_length k (counts e.0) e.1)
  pub within : Inside (place + object_length k (counts e.0) e.1) blocks

module _ (links_length_is : LinksLength) (group_length : GroupLength) (k : KValues) (stored : StoredIn) (tree : Tree) (table : FinMap nat_cmp ℕ) (plain : IsPlainTree k stored tree)
    (number : ℕ) (o : Object) (group : Links) (is : get tree number ≡ Some o) (e : o.content ≡ Group group) where
  abbrev bytes : ℕ × Object → List ℕ
  bytes e = object_bytes k stored tree table e

  abbrev header : ℕ
  header = header_in table number

  abbrev written : List (List ℕ × Leads)
  written = written_links k tree table group

  abbrev header_part : List ℕ
  header_part = group_header (content_place o header) (group_heap_place k o group header) (others_of o)

  abbrev links_part : List ℕ
  links_part = links_bytes k.leaf k.internal (content_place o header) written

  group_laid : bytes (number, o) ≡ header_part ++ links_part
  group_laid = rw e refl

  own : IsPlain o
  own = plain.each number o is

  own_content : IsPlainContent (length (others_of o)) (Group group)
  own_content = subst (IsPlainContent (length (others_of o))) e own.content

  group_low : IsLow k.leaf k.internal group
  group_low = subst (IsLowContent k (length (stored number))) e (plain.low number o is)

  links_long : links_length k.leaf k.internal written ≡ group_bytes k.leaf k.internal group
  links_long = group_length k.leaf k.internal group written (all_written k tree table plain.sound number o group is e)

  length-header_part : length header_part ≡ header_size o
  length-header_part = length-group_header (content_place o header) (group_heap_place k o group header) (others_of o)
      ∙ ap (λ n. n + length (messages_bytes (others_of o))) forty ∙ group_header-size o group own.others e where
        forty : 40 ≡ 16 + 24
        forty = refl

  length-links_part : length links_part ≡ links_length k.leaf k.internal written
  length-links_part = length-links k tree table plain.sound number o group is e links_length_is group_length (content_place o header) (plain.in_range).groups group_low ∙ sym links_long

  content_long : content_bytes k (counts_of stored number) o.content ≡ links_length k.leaf k.internal written
  content_long = ap (content_bytes k (counts_of stored number)) e ∙ sym links_long

  group_long : object_length k (counts_of stored number) o ≡ header_size o + links_length k.leaf k.internal written
  group_long = ap (λ n. header_size o + n) content_long

  pub length-group : length (bytes (number, o)) ≡ object_length k (counts_of stored number) o
  length-group = ap length group_laid ∙ length-append header_part links_part ∙ ap₂ (λ (a b : ℕ). a + b) length-header_part length-links_part ∙ sym group_long

  module _ (links_read : LinksRead) (end : ℕ) (placed : ArePlaced k (counts_of stored) tree table end) (fits_in : end ≤ most_bytes) where
    are_plain : ArePlainLinks k.leaf k.internal written
    are_plain = plain_links k tree table plain.sound (counts_of stored) end placed fits_in number o group is e (plain.in_range).groups group_low

    module _ (image : List ℕ) (place : ℕ) (found : get table number ≡ Some place) (low : place + object_length k (counts_of stored number) o ≤ end)
        (k_is : k_values image ≡ k)
        (there : part place (length (bytes (number, o))) image ≡ bytes (number, o)) where
      leaf_is : leaf_k image ≡ k.leaf
      leaf_is = ap (λ (ks : KValues). ks.leaf) k_is

      internal_is : internal_k image ≡ k.internal
      internal_is = ap (λ (ks : KValues). ks.internal) k_is

      here : header ≡ place
      here = header_is table number place found

      both_there : part header (length (header_part ++ links_part)) image ≡ header_part ++ links_part
      both_there = (λ i. part (here i) (length (sym group_laid i)) image) ∙ there ∙ group_laid

      header_there : part header (length header_part) image ≡ header_part
      header_there = first_part header header_part links_part image both_there

      links_there : part (content_place o header) (links_length k.leaf k.internal written) image ≡ links_part
      links_there = (λ i. part (header + sym length-header_part i) (sym length-links_part i) image) ∙ second_part header header_part links_part image both_there

      links_low : content_place o header + links_length k.leaf k.internal written ≤ most_bytes
      links_low = omega (arith, here, low, fits_in, group_long)

      linked : IsPlainGroup image k.leaf k.internal (content_place o header) written
      linked = links_read image k.leaf k.internal (content_place o header) written are_plain links_low links_there

      -- the heap is at the same place
      same_heap : links.heap_place k.leaf k.internal (content_place o header) written ≡ group_heap_place k o group header
      same_heap = ap (λ n. content_place o header + nodes_over 64 (2 * k.internal) (rows_of (2 * k.leaf) n) * group_node k.internal)
          (length-written k tree table plain.sound number o group is e)

      heap_low : group_heap_place k o group header < 2 ^ 64
      heap_low = omega (arith, sym same_heap, links_low)

      group_reads : HasObject image table header o (block header (length header_part) ∷ linked.blocks) × (reference_count (prefix_at image header) ≡ 1)
      group_reads = group_object image table header k.leaf k.internal (content_place o header) (group_heap_place k o group header) o group (map target_link written)
          linked.blocks own.others e own_content (omega (arith, length-header_part, links_low)) (omega (arith, links_low)) heap_low header_there leaf_is internal_is
          (subst (λ (heap : ℕ). HasLinks image k.leaf k.internal (content_place o header) heap (map target_link written) linked.blocks) same_heap linked.linked)
          (same_links k tree table plain.sound (counts_of stored) end placed fits_in number o group is e)

      linked_here : links_of tree number ≡ Some group
      linked_here = ap (λ (r : Option Object). option_and_then (λ (x : Object). links_in x.content) r) is ∙ ap links_in e

      group_covered : (p : ℕ) → cover p (block header (length header_part) ∷ linked.blocks) ≡ holds p header (object_length k (counts_of stored number) o)
      group_covered p =
          ap₂ (λ (a b : ℕ). a + b) (ap (holds p header) length-header_part) (linked.covered p)
          ∙ sym (holds_join p header (header_size o) (links_length k.leaf k.internal written)) ∙ sym (ap (holds p header) group_long)

      group_within : Inside (header + object_length k (counts_of stored number) o) (block header (length header_part) ∷ linked.blocks)
      group_within = (
        omega (arith, length-header_part, group_long),
        subst (λ (n : ℕ). Inside n linked.blocks) (let sum : content_place o header + links_length k.leaf k.internal written ≡ header + object_length k (counts_of stored number) o = omega (arith, group_long) in sum) linked.within,
      )

      group_here : Stands image k (counts_of stored) tree table header (number, o)
      group_here = record {
        blocks = block header (length header_part) ∷ linked.blocks;
        object = group_reads.0;
        counted = record {
          counted = group_reads.1 ∙ sym ((plain.sound).once number (ap is_some linked_here));
          once = λ _. group_reads.1;
          limit = (plain.sound).few number (ap is_some is);
        };
        covered = group_covered;
        within = group_within;
      }

      pub group_stands : Stands image k (counts_of stored) tree table place (number, o)
      group_stands = subst (λ (y : ℕ). Stands image k (counts_of stored) tree table y (number, o)) here group_here
