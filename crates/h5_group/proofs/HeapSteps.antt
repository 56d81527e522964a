-- The heap of a group in a walk: why it is refused, and the walk when its two blocks are claimed.
use Rattle.std.proofs.Common.{◌≡◌, ◌≢◌, ℕ, ◌+◌, ◌-◌, ◌≤◌, inl, inr, List, ◌∷◌, length, refl, sym, ap, arith}
use Rattle.h5_bytes.specs.Blocks.{block, holds, cover, Separate, Inside}
use Rattle.h5_bytes.specs.declared.Block.{Block}
use Rattle.h5_bytes.proofs.BlockLaws.{holds_in}
use Rattle.h5_model.specs.Format.Addresses.{SymbolTable}
use Rattle.h5_model.specs.Format.Heap.{heap_header, heap_blocks, segment_block, segment_place, segment_size}
use Rattle.h5_model.specs.Format.Reached.{Named, naming_of, HeapHeader, Segment, Reached, by_block, group_root, block_of, length_of}
use Rattle.h5_model.specs.declared.open_fault.Cause.{Cause}
use Rattle.h5_model.specs.declared.open_fault.Cause.TheVariants.{Truncated, Overlap, HeapForm, NoMemory}
use Rattle.h5_heap.specs.Refused.{IsHeapRefused}
use Rattle.h5_header.specs.Walk.Walked.{IsWalked}
use Rattle.h5_header.specs.Walk.Met.{IsMet}
use Rattle.h5_header.proofs.WalkLaws.MetFields.{met_truncated, met_overlaps, met_walked, still_met, field_after, other_field}
use Rattle.h5_btree.specs.Walk.Forms.{OfGroup}
use Rattle.h5_btree.specs.Walk.Followed.{IsTreeMet}
use Rattle.h5_group.specs.Nodes.Walk.{IsFault}
use Rattle.h5_group.specs.Walk.{IsGroupMet}

module _ (image : List ℕ) (held : List Block) (followed : List Named) (first second depth : ℕ) (table : SymbolTable)
    (met : IsGroupMet image held followed first second depth table) where
  abbrev pub heap_field : Named
  heap_field = naming_of second (HeapHeader table.tree) table.heap depth

  abbrev pub segment_field : Named
  segment_field = naming_of (table.heap + 24) Segment (segment_place (heap_header image table.heap)) depth

  abbrev pub tree_field : Named
  tree_field = naming_of first (group_root image table.tree table.heap) table.tree depth

  segment_is : block_of image segment_field ≡ segment_block image table.heap
  segment_is =
      let back : table.heap + 24 - 24 ≡ table.heap = omega arith in
      ap (λ (h : ℕ). block (segment_place (heap_header image table.heap)) (segment_size (heap_header image h))) back

  segment_length : length_of image segment_field ≡ segment_size (heap_header image table.heap)
  segment_length = ap (λ (b : Block). b.len) segment_is

  -- the header lies in the image, and is claimed
  module _ (there : table.heap + 32 ≤ length image) (apart : (p : ℕ) → cover p held + holds p table.heap 32 ≤ 1) where
    abbrev with_header : List Block
    with_header = block table.heap 32 ∷ held

    segment_reached : Reached image segment_field
    segment_reached = by_block {y = segment_field} (met.heap).reached refl (omega (arith, there))

    header_claimed : (p : ℕ) → cover p with_header ≡ cover p held + holds p table.heap 32
    header_claimed p = omega arith

    header_walked : IsWalked image with_header (heap_field ∷ followed)
    header_walked = met_walked image held followed met.walked heap_field met.heap with_header header_claimed

    segment_met : IsMet image with_header (heap_field ∷ followed) segment_field
    segment_met = field_after image held followed met.walked heap_field met.heap with_header header_claimed
        (λ p. omega (arith, apart p)) segment_field segment_reached (omega arith) (omega arith) (omega arith)

    pub tree_apart : table.heap + 24 ≢ first
    tree_apart =
        let p = table.heap + 24 - 8 in
        let here : holds p table.heap 32 ≡ 1 = holds_in p table.heap 32 (omega arith) (omega arith) in
        other_field image held followed tree_field met.tree (table.heap + 24) (omega (arith, here, apart p))

  pub heap_refused : (cause : Cause) (address : ℕ) → IsHeapRefused image table.heap held cause address → IsFault image cause address
  heap_refused Truncated address (inl (e, past)) = met_truncated image held followed met.walked heap_field met.heap refl address e past
  heap_refused Truncated address (inr (next, e, past)) =
      (segment_field, by_block {y = segment_field} (met.heap).reached refl (omega (arith, (next.header).inside)), sym e, rw segment_length past)
  heap_refused Overlap address (inl (e, there, shares)) = met_overlaps image held followed met.walked heap_field met.heap refl address e shares
  heap_refused Overlap address (inr (next, e, shares)) =
      let there = (next.header).inside in
      let apart = (next.header).apart in
      met_overlaps image (with_header there apart) (heap_field ∷ followed) (header_walked there apart) segment_field (segment_met there apart) refl address e
      (rw segment_length shares)
  heap_refused HeapForm address (e, header, segment, none) = (heap_field, (met.heap).reached, sym e, (header.inside, none))
  heap_refused NoMemory address h = tt
  heap_refused _ address h = absurd h

  -- both blocks are claimed
  module _ (now : List Block) (inside : Inside (length image) (heap_blocks image table.heap))
      (claimed : (p : ℕ) → cover p now ≡ cover p held + cover p (heap_blocks image table.heap)) (separate : Separate now) where
    once : (p : ℕ) → cover p held + holds p table.heap 32 ≤ 1
    once p = omega (arith, claimed p, separate p)

    segment_claimed : (p : ℕ) → cover p now ≡ cover p (with_header inside.0 once) + holds p segment_field.at (length_of image segment_field)
    segment_claimed p = rw segment_length (omega (arith, claimed p))

    pub heap_walked : IsWalked image now (segment_field ∷ heap_field ∷ followed)
    heap_walked = met_walked image (with_header inside.0 once) (heap_field ∷ followed) (header_walked inside.0 once) segment_field (segment_met inside.0 once) now segment_claimed

    pub tree_met : IsMet image now (segment_field ∷ heap_field ∷ followed) tree_field
    tree_met = still_met image (with_header inside.0 once) (heap_field ∷ followed) (header_walked inside.0 once) segment_field (segment_met inside.0 once) now
        (λ p. omega (arith, segment_claimed p)) tree_field
        (still_met image held followed met.walked heap_field met.heap (with_header inside.0 once) (λ p. omega arith) tree_field met.tree (λ e. met.apart (sym e)))
        (tree_apart inside.0 once)

    -- the walk comes to the tree
    pub at_tree : IsTreeMet image OfGroup now (segment_field ∷ heap_field ∷ followed) first table.tree table.heap depth
    at_tree = record { walked = heap_walked; met = tree_met }
