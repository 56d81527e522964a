-- Objects that were read from an image, and make up all of it, are a tree that stands in it.
use Rattle.std.proofs.Common.{◌≡◌, ℕ, ◌+◌, List, [], ◌∷◌, ◌++◌, length, refl, sym, ap, ◌∙◌, subst, Option, Some, IsSome}
use Rattle.std.specs.Prelude.{map, slice_get, option_and_then}
use Rattle.std.specs.List.{flat_map}
use Rattle.std.specs.Ordering.{nat_cmp}
use Rattle.std.specs.FinMap.{FinMap, get}
use Rattle.h5_bytes.specs.Blocks.{block, Separate, Inside}
use Rattle.h5_bytes.specs.declared.Block.{Block}
use Rattle.h5_model.specs.Format.Limits.{most_names}
use Rattle.h5_model.specs.Format.Messages.{Message}
use Rattle.h5_model.specs.Format.Superblock.{superblock_length, root_header}
use Rattle.h5_model.specs.Tree.Objects.{Object, links_in}
use Rattle.h5_model.specs.Tree.Objects as tree
use Rattle.h5_model.specs.Format.Reads.{Placed, all_blocks, Holds}
use Rattle.h5_header.specs.Listed.{messages_in}
use Rattle.h5_open.specs.declared.opened.object.OpenedObject.{OpenedObject}
use Rattle.h5_open.specs.declared.opened.object.OpenedContent.{OpenedContent}
use Rattle.h5_open.specs.declared.opened.object.OpenedContent.TheVariants as content
use Rattle.h5_open.specs.Opened.Objects.{headers, numbered_from, content_in, object_in, object_blocks, opened_blocks, table_of, tree_of, slots_of}
use Rattle.h5_open.specs.Placed.Whole.{IsGroupContent, IsWholeImage, placed_from, placed_of}
use Rattle.h5_open.proofs.OpenedLaws.Entries.{table_entries_dense, tree_entries_dense, get_table_dense, header_at_dense}
use Rattle.h5_open.proofs.PlacedLaws.Places.{own_header}
use Rattle.h5_open.proofs.PlacedLaws.ObjectLaws.{all_placed}
use Rattle.h5_open.proofs.PlacedLaws.TreeLaws.{object_got}
use Rattle.h5_open.proofs.PlacedLaws.Paths.{all_reached, all_short}

-- ---- what is placed

module _ (image : List ℕ) (table : FinMap nat_cmp ℕ) where
  placed_headers : (n : ℕ) (os : List OpenedObject) → numbered_from n (headers os) ≡ map (λ (x : Placed). (x.number, x.header)) (placed_from image table n os)
  placed_headers n [] = refl
  placed_headers n (o ∷ os) = ap (λ (es : List (ℕ × ℕ)). (n, o.messages.header) ∷ es) (placed_headers (n + 1) os)

  placed_objects : (n : ℕ) (os : List OpenedObject) → numbered_from n (map (object_in image table) os) ≡ map (λ (x : Placed). (x.number, x.object)) (placed_from image table n os)
  placed_objects n [] = refl
  placed_objects n (o ∷ os) = ap (λ (es : List (ℕ × Object)). (n, object_in image table o) ∷ es) (placed_objects (n + 1) os)

  placed_blocks : (n : ℕ) (os : List OpenedObject) → flat_map (object_blocks image) os ≡ flat_map (λ (x : Placed). x.blocks) (placed_from image table n os)
  placed_blocks n [] = refl
  placed_blocks n (o ∷ os) = ap (λ (bs : List Block). object_blocks image o ++ bs) (placed_blocks (n + 1) os)

pub all_placed_blocks : (image : List ℕ) (objects : List OpenedObject) → opened_blocks image objects ≡ all_blocks image (placed_of image objects)
all_placed_blocks image objects = ap (λ (bs : List Block). block 0 (superblock_length image) ∷ bs) (placed_blocks image (table_of (slots_of objects)) 0 objects)

-- ---- the root

group_linked : (image : List ℕ) (table : FinMap nat_cmp ℕ) (ms : List Message) (c : OpenedContent) → IsGroupContent c → IsSome (links_in (content_in image table ms c))
group_linked image table ms (content.Group t) is = refl
group_linked image table ms content.Array is = absurd is

module _ (image : List ℕ) (objects : List OpenedObject) (whole : IsWholeImage image objects) where
  first : slice_get objects 0 ≡ Some (whole.begins).root
  first = ap (λ (os : List OpenedObject). slice_get os 0) (whole.begins).is

  root_there : get (table_of (slots_of objects)) 0 ≡ Some (root_header image)
  root_there = get_table_dense objects 0 ∙ header_at_dense objects 0 (whole.begins).root first ∙ ap (λ (h : ℕ). Some h) (whole.begins).at_root

  root_links : IsSome (tree.links_of (tree_of image (slots_of objects)) 0)
  root_links = subst (λ (x : Option Object). IsSome (option_and_then (λ (o : Object). links_in o.content) x)) (sym (object_got image objects 0 (whole.begins).root first))
      (group_linked image (table_of (slots_of objects)) (messages_in image ((whole.begins).root).messages.list) ((whole.begins).root).content (whole.begins).group)

-- The tree stands in the image.
pub whole_holds : (image : List ℕ) (objects : List OpenedObject) → IsWholeImage image objects
    → Holds image (table_of (slots_of objects)) (tree_of image (slots_of objects)) (placed_of image objects)
whole_holds image objects whole = record {
  superblock = whole.superblock;
  whole = whole.whole;
  numbered = table_entries_dense objects ∙ placed_headers image (table_of (slots_of objects)) 0 objects;
  objects = tree_entries_dense objects image ∙ placed_objects image (table_of (slots_of objects)) 0 objects;
  each = all_placed image objects whole.distinct 0 objects whole.each whole.led;
  own = own_header objects whole.distinct;
  root = root_there image objects whole;
  root_group = root_links image objects whole;
  reached = all_reached image objects whole.distinct whole.each whole.parents;
  shallow = λ path some. all_short image objects whole.distinct whole.each path 0 (whole.begins).root most_names (first image objects whole) whole.shallow some;
  apart = subst Separate (all_placed_blocks image objects) whole.apart;
  within = subst (Inside (length image)) (all_placed_blocks image objects) whole.within;
}
