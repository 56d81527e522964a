-- The links to an object of the image, as they are counted: that its reference count is right, or wrong.
use Rattle.std.proofs.Common.{◌≡◌, ◌≢◌, ℕ, ◌+◌, ◌≤◌, inl, inr, List, [], ◌∷◌, length, refl, sym, ap, ◌∙◌, subst, arith}
use Rattle.std.specs.Prelude.{◌==◌, if◌then◌else◌}
use Rattle.std.specs.List.{AllByRecursion, Contains}
use Rattle.std.specs.Ordering.{nat_cmp}
use Rattle.std.specs.FinMap.{FinMap}
use Rattle.h5_bytes.specs.Blocks.{Inside}
use Rattle.h5_model.specs.Format.Reached.{naming_of, ObjectHeader, Reached}
use Rattle.h5_model.specs.Tree.Objects.{hard_links}
use Rattle.h5_model.specs.Format.Reads.{Placed, IsGroup, IsCounted, ReadsAs, Holds}
use Rattle.h5_model.specs.Faults.Breaches.{AreAllLinks}
use Rattle.h5_model.specs.declared.open_fault.Cause.TheVariants.{LinkCount}
use Rattle.h5_model.specs.Format.Messages.{Message, prefix_at, reference_count}
use Rattle.h5_header.specs.Listed.{messages_in}
use Rattle.h5_group.specs.Nodes.Walk.{IsFault}
use Rattle.h5_open.specs.declared.opened.object.OpenedObject.{OpenedObject}
use Rattle.h5_open.specs.declared.opened.object.OpenedContent.{OpenedContent}
use Rattle.h5_open.specs.declared.opened.object.OpenedContent.TheVariants as content
use Rattle.h5_open.specs.Opened.Kept.{IsObjectKept}
use Rattle.h5_open.specs.Opened.Objects.{table_of, tree_of, content_in, object_in, object_blocks, slots_of}
use Rattle.h5_open.specs.Placed.Whole.{IsGroupContent, IsWholeImage, placed_from, placed_of}
use Rattle.h5_laws.proofs.Lists.{In, in_all}
use Rattle.h5_laws.proofs.LinkCounts.{object_count}
use Rattle.h5_laws.proofs.AllReached.{all_reached}
use Rattle.h5_laws.proofs.Holding.{linked_by}
use Rattle.h5_open.specs.Counted.Links.{leading_links, all_links}
use Rattle.h5_open.specs.Counted.Counts.{IsCount}
use Rattle.h5_open.proofs.CountedLaws.FieldCounts.{fields_count}

-- a group of the tree is a group that was read
is_group_content : (image : List ℕ) (table : FinMap nat_cmp ℕ) (ms : List Message) (c : OpenedContent) → IsGroup (content_in image table ms c) → IsGroupContent c
is_group_content image table ms (content.Group t) is = tt
is_group_content image table ms content.Array is = is

pub header_inside : (image : List ℕ) (o : OpenedObject) → IsObjectKept image o → o.messages.header + 16 ≤ length image
header_inside image o kept =
    let laid = subst (Inside (length image)) kept.header.has.laid kept.header.inside in
    omega (arith, laid.0)

module _ (image : List ℕ) (objects : List OpenedObject) (whole : IsWholeImage image objects)
    (holds : Holds image (table_of (slots_of objects)) (tree_of image (slots_of objects)) (placed_of image objects)) where
  abbrev table : FinMap nat_cmp ℕ
  table = table_of (slots_of objects)

  abbrev place : ℕ → OpenedObject → Placed
  place n o = record { number = n; header = o.messages.header; object = object_in image table o; blocks = object_blocks image o }

  placed_in : (n : ℕ) (some : List OpenedObject) (o : OpenedObject) → In o some → (x : Placed) × In x (placed_from image table n some) × (x.header ≡ o.messages.header)
  placed_in n [] o member = absurd member
  placed_in n (p ∷ some) o (inl same) =
      (place n p, inl refl, ap (λ (q : OpenedObject). q.messages.header) same)
  placed_in n (p ∷ some) o (inr member) = let rest = placed_in (n + 1) some o member in (rest.0, inr rest.1, rest.2)

  -- as many links lead to an object as the tree has
  links_are : (x : Placed) → In x (placed_of image objects)
      → leading_links x.header (all_links image objects) ≡ hard_links (tree_of image (slots_of objects)) x.number + (if x.number == 0 then 1 else 0)
  links_are x member =
      sym (fields_count image x.header (table_of (slots_of objects)) objects holds.each whole.each)
      ∙ object_count image (table_of (slots_of objects)) (tree_of image (slots_of objects)) (placed_of image objects) holds x member

  -- the fields that name the header of an object, with one of them
  pub record IsNamed (header : ℕ) : Type 0 where
    pub fields : List ℕ
    pub all : AreAllLinks image header fields
    pub long : length fields ≡ leading_links header (all_links image objects)
    pub depth : ℕ
    pub field : ℕ
    pub reached : Reached image (naming_of field ObjectHeader header depth)
    pub among : Contains fields field

  placed_named : (x : Placed) → In x (placed_of image objects) → IsNamed x.header
  placed_named x member =
      let all = linked_by image (table_of (slots_of objects)) (tree_of image (slots_of objects)) (placed_of image objects) holds x member in
      let reached = all_reached image (table_of (slots_of objects)) (tree_of image (slots_of objects)) (placed_of image objects) holds x member in record {
        fields = all.0;
        all = all.1;
        long = all.2 ∙ sym (links_are x member);
        depth = reached.0;
        field = reached.1.0;
        reached = reached.1.1;
        among = all.1.all (naming_of reached.1.0 ObjectHeader x.header reached.0) reached.1.1 refl refl;
      }

  object_named : (o : OpenedObject) → In o objects → IsNamed o.messages.header
  object_named o member =
      let x = placed_in 0 objects o member in
      subst IsNamed x.2 (placed_named x.0 x.1)

  -- ---- right

  -- the count of an object is right
  abbrev HasRight : OpenedObject → Type 0
  HasRight o = (count : ℕ) × (reference_count (prefix_at image o.messages.header) ≡ count) × IsCount image objects [] o count

  one_counted : (n : ℕ) (o : OpenedObject) → In (place n o) (placed_of image objects) → HasRight o → IsCounted image (tree_of image (slots_of objects)) (place n o)
  one_counted n o member has =
      let known = placed_named (place n o) member in
      let links = links_are (place n o) member in
      let is : has.0 ≡ leading_links o.messages.header (all_links image objects) = omega (arith, has.2.exact) in
      let some : 1 ≤ leading_links o.messages.header (all_links image objects) = omega (arith, known.among.1, known.long) in record {
        counted = has.1 ∙ is ∙ links;
        once = λ group. let most : has.0 ≤ 1 = has.2.once (is_group_content image table (messages_in image o.messages.list) o.content group) in omega (arith, has.1, is, some, most);
        limit = omega (arith, has.2.limit, is, links);
      }

  each_counted : (n : ℕ) (some : List OpenedObject) → ((x : Placed) → In x (placed_from image table n some) → In x (placed_of image objects))
      → ((o : OpenedObject) → In o some → HasRight o) → AllByRecursion (IsCounted image (tree_of image (slots_of objects))) (placed_from image table n some)
  each_counted n [] sub right = tt
  each_counted n (o ∷ some) sub right =
      (one_counted n o (sub (place n o) (inl refl)) (right o (inl refl)), each_counted (n + 1) some (λ x member. sub x (inr member)) (λ p member. right p (inr member)))

  -- where each is right, the image reads as this tree
  pub right_reads : ((o : OpenedObject) → In o objects → HasRight o) → ReadsAs image (table_of (slots_of objects)) (tree_of image (slots_of objects)) (placed_of image objects)
  right_reads right =
      record { holds = holds; counted = each_counted 0 objects (λ x member. member) right }

  -- ---- wrong

  pub wrong_fault : (o : OpenedObject) → In o objects → reference_count (prefix_at image o.messages.header) ≢ leading_links o.messages.header (all_links image objects)
      → IsFault image LinkCount o.messages.header
  wrong_fault o member wrong =
      let known = object_named o member in
      let kept = in_all (IsObjectKept image) o objects whole.each member in (
        naming_of known.field ObjectHeader o.messages.header known.depth,
        known.reached,
        refl,
        (header_inside image o kept, (refl, (known.fields, known.all, (λ same. wrong (same ∙ known.long))))),
      )
