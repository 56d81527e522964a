-- The plain image of a sound tree reads as that tree, and its blocks hold each of its bytes once.
use Rattle.std.proofs.Common.{◌≡◌, ℕ, ◌+◌, ◌-◌, ◌≤◌, List, ◌∷◌, ◌++◌, length, refl, sym, ap, ◌∙◌, subst, arith, Some}
use Rattle.std.specs.FinMap.{get, entries}
use Rattle.std.specs.List.{flat_map, AllByRecursion}
use Rattle.h5_bytes.specs.Blocks.{CoverOnce, Inside, holds}
use Rattle.h5_bytes.proofs.BlockLaws.{holds_join, once_separate}
use Rattle.h5_model.specs.Format.Limits.{most_bytes}
use Rattle.h5_model.specs.Format.Reads.{Placed, all_blocks}
use Rattle.h5_model.specs.Format.Superblock.{IsSuperblock, k_values, end_of_file, root_header, superblock_length}
use Rattle.h5_model.specs.Tree.Objects.{Tree, Object}
use Rattle.h5_laws.proofs.Lists.{all_in}
use Rattle.h5_group.specs.Writing.Laws.{LinksRead, LinksLength, GroupLength}
use Rattle.h5_repack.specs.Bodies.Laws.{IsPlainReading, ArrayReads, ArrayLength}
use Rattle.h5_repack.specs.Image.Laws.{ImageReads, ImageEnds}
use Rattle.h5_repack.specs.Image.Plain.{IsPlainTree}
use Rattle.h5_repack.specs.Image.Written.{IsOrder, StoredIn, counts_of, object_length, object_bytes, headers_from, content_place, root_heap, table_of, image_end, plain_image}
use Rattle.h5_repack.proofs.ImageLaws.ImageObjects.{Located, length-image, located}
use Rattle.h5_repack.proofs.ImageLaws.ImagePlaced.{placed_of, objects_are, all_placed, all_counted, all_inside, table_is, all_cover}
use Rattle.h5_repack.proofs.ImageLaws.Orders.{in_order}
use Rattle.h5_repack.proofs.ImageLaws.Places.{Objects, table_find, table_own, found_first, end_rises}
use Rattle.h5_repack.proofs.ImageLaws.Superblock.{front_long, front_of, k_is, length_is, root_is, superblock, whole}
use Rattle.h5_model.specs.declared.k_values.KValues.{KValues}
use Rattle.h5_model.specs.Format.Plain.{plain_superblock_length}

module _ (links_length_is : LinksLength) (group_length : GroupLength) (array_length : ArrayLength) where
  -- the root first
  module _ (k : KValues) (stored : StoredIn) (tree : Tree) (root : Object) (others : Objects) (plain : IsPlainTree k stored tree) (is : IsOrder tree ((0, root) ∷ others)) where
    abbrev order : Objects
    order = (0, root) ∷ others

    abbrev counts : ℕ → ℕ
    counts = counts_of stored

    abbrev end : ℕ
    end = image_end k counts order

    abbrev image : List ℕ
    image = plain_image k stored tree order

    abbrev front : List ℕ
    front = front_of k end (content_place root (plain_superblock_length k)) (root_heap k root)

    abbrev rest : List ℕ
    rest = flat_map (object_bytes k stored tree (table_of k counts order)) order

    laid : image ≡ front ++ rest
    unfolding plain_image
    laid = refl

    pub image_long : length image ≡ end
    image_long = length-image links_length_is group_length array_length k stored tree order plain is image front (front_long k end (content_place root (plain_superblock_length k)) (root_heap k root)) laid

    module _ (links_read : LinksRead) (array_reads : ArrayReads) (fits_in : image_end k counts ((0, root) ∷ others) ≤ most_bytes) where
      laid_long : length (front ++ rest) ≡ end
      laid_long = ap length (sym laid) ∙ image_long

      k_here : k_values image ≡ k
      k_here = ap k_values laid ∙ k_is k end (content_place root (plain_superblock_length k)) (root_heap k root) rest plain.in_range fits_in

      length_here : superblock_length image ≡ plain_superblock_length k
      length_here = ap superblock_length laid ∙ length_is k end (content_place root (plain_superblock_length k)) (root_heap k root) rest plain.in_range fits_in

      root_here : get (table_of k counts order) 0 ≡ Some (root_header image)
      root_here =
          table_find k counts order 0 ∙ found_first 0 (plain_superblock_length k) (headers_from k counts (plain_superblock_length k + object_length k (counts 0) root) others)
          ∙ ap (λ (h : ℕ). Some h) (sym (ap root_header laid ∙ root_is k end (content_place root (plain_superblock_length k)) (root_heap k root) rest plain.in_range fits_in))

      all : AllByRecursion (Located image k counts tree order) (entries tree)
      all = all_in (Located image k counts tree order) (entries tree)
          (λ e there. located links_length_is group_length array_length k stored tree order plain is image front (front_long k end (content_place root (plain_superblock_length k)) (root_heap k root)) laid
          links_read array_reads fits_in k_here e (in_order tree order is e there))

      abbrev placed : List Placed
      placed = placed_of image k counts tree order (entries tree) all

      covered : CoverOnce (length image) (all_blocks image placed)
      covered p =
          let begin : ℕ = plain_superblock_length k in
          let start : begin ≡ 0 + begin = omega arith in
          let sum : begin + (end - begin) ≡ end = omega (arith, end_rises k counts begin order) in
          (λ i. holds p 0 (length_here i) + all_cover image k counts tree order is all p i)
          ∙ ap (λ n. holds p 0 begin + holds p n (end - begin)) start
          ∙ sym (holds_join p 0 begin (end - begin)) ∙ ap (holds p 0) (sum ∙ sym image_long)

      within : Inside (length image) (all_blocks image placed)
      within = (
        omega (arith, length_here, image_long, end_rises k counts (plain_superblock_length k) order),
        subst (λ (n : ℕ). Inside n (flat_map (λ (x : Placed). x.blocks) placed)) (sym image_long) (all_inside image k counts tree order (entries tree) all),
      )

      pub reading : IsPlainReading image k (table_of k counts order) tree
      reading = record {
        placed = placed;
        reads = record {
          holds = record {
            superblock = subst IsSuperblock (sym laid) (superblock k end (content_place root (plain_superblock_length k)) (root_heap k root) rest plain.in_range fits_in laid_long);
            whole = ap end_of_file laid ∙ whole k end (content_place root (plain_superblock_length k)) (root_heap k root) rest plain.in_range fits_in laid_long ∙ ap length (sym laid);
            numbered = table_is image k counts tree order is all;
            objects = objects_are image k counts tree order (entries tree) all;
            each = all_placed image k counts tree order (entries tree) all;
            own = table_own k counts order;
            root = root_here;
            root_group = (plain.sound).rooted;
            reached = (plain.sound).reached;
            shallow = (plain.sound).shallow;
            apart = once_separate (length image) (all_blocks image placed) covered;
            within = within;
          };
          counted = all_counted image k counts tree order (entries tree) all;
        };
        covered = covered;
        k_is = k_here;
      }

-- ---- the laws

module _ (links_length_is : LinksLength) (group_length : GroupLength) (array_length : ArrayLength) where
  pub image_ends : ImageEnds
  image_ends k stored tree objects plain is =
      subst (λ (xs : Objects). IsOrder tree xs → length (plain_image k stored tree xs) ≡ image_end k (counts_of stored) xs)
      (sym is.first) (λ is'. image_long links_length_is group_length array_length k stored tree is.root is.others plain is') is

module _ (links_read : LinksRead) (links_length_is : LinksLength) (group_length : GroupLength) (array_reads : ArrayReads) (array_length : ArrayLength) where
  pub image_reads : ImageReads
  image_reads k stored tree objects plain is fits_in =
      subst (λ (xs : Objects). IsOrder tree xs → image_end k (counts_of stored) xs ≤ most_bytes
      → IsPlainReading (plain_image k stored tree xs) k (table_of k (counts_of stored) xs) tree)
      (sym is.first) (λ is' fits'. reading links_length_is group_length array_length k stored tree is.root is.others plain is' links_read array_reads fits') is fits_in
