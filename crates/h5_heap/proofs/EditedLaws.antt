-- A heap whose segment and head are written.
use Rattle.std.proofs.Common.{◌≡◌, ◌≢◌, ℕ, ◌+◌, ◌^◌, ◌%◌, ◌<◌, ◌≤◌, ◌⊎◌, ◌==◌, Bool, true, false, cond, zero, suc, inl, inr, List, [], ◌∷◌, length, take, drop, refl, sym, ◌∙◌, ap, ap₂, subst, arith}
use Rattle.std.proofs.lemmas.Bool.Decides.{nat_tests}
use Rattle.h5_bytes.specs.Bytes.{number_at, byte_at, part, with_part, with_field, little_bytes, undefined_address}
use Rattle.h5_bytes.specs.Blocks.{block, holds, cover, Separate, Inside}
use Rattle.h5_bytes.specs.declared.Block.{Block}
use Rattle.h5_bytes.proofs.FieldLaws.{number_at-part, number_at-with_part_other, number_at-with_field}
use Rattle.h5_bytes.proofs.PartLaws.{length-part, length-with_part, part-with_part_same, part-with_part_other, part-part, with_part-with_part}
use Rattle.h5_bytes.proofs.BlockLaws.{apart_of, holds_in, held}
use Rattle.h5_model.specs.Format.Heap.{IsHeap, heap_header, free_head, segment_size, segment_block, segment_of, heap_blocks}
use Rattle.h5_space.specs.Space.{Space}
use Rattle.h5_space.specs.Moves.{Moves, Spends}
use Rattle.h5_space.specs.Lending.{with_bytes_at}
use Rattle.h5_space.proofs.MovesLaws.{part-same, byte-with_part, moves_write, moves_then, moves_same, moves_beside}
use Rattle.h5_heap.specs.Chain.{free_from, IsChain, HasChain}
use Rattle.h5_heap.specs.FreeList.{IsFreeList}
use Rattle.h5_bytes.specs.Texts.{until_zero, text_at}
use Rattle.h5_model.specs.Format.Heap.{span_of}
use Rattle.h5_model.proofs.BodyLaws.{byte_at-part}
use Rattle.h5_heap.specs.Spans.{IsSpan}
use Rattle.h5_heap.specs.Released.{Releases}
use Rattle.h5_heap.specs.Inserted.{InsertsText, HasInserted}
use Rattle.h5_heap.specs.Edited.{list_start, first_free, free_blocks, IsStandingHeap, HasReleased}
use Rattle.h5_heap.proofs.FreeLaws.{StandsFor, from_first}
use Rattle.h5_heap.proofs.ChainLaws.{free_from_is}

stands_for : (head : ℕ) → StandsFor head (list_start head)
stands_for head = go (head == undefined_address) refl where
  go : (r : Bool) → (head == undefined_address) ≡ r → StandsFor head (cond r 1 head)
  go true is = inl (grind (arith, nat_tests, is), refl)
  go false is = inr ((λ e. absurd (let other : head ≢ undefined_address = grind (arith, nat_tests, is) in other e)), refl)

chain_of_heap : (header segment : List ℕ) (free : List Block) → IsHeap header segment free → segment_size header ≡ length segment
    → IsChain segment (list_start (free_head header)) free
chain_of_heap header segment free heap size =
    let list : IsFreeList segment (free_head header) free
    = record { listed = heap.listed; each = heap.each; apart = heap.apart; within = rw size at heap.within } in
    record {
      listed = from_first segment (free_head header) (list_start (free_head header)) free (stands_for (free_head header)) list;
      each = heap.each;
      apart = heap.apart;
      within = list.within;
    }

pub segment_long : (image : List ℕ) (heap : ℕ) → Inside (length image) (heap_blocks image heap) → segment_size (heap_header image heap) ≡ length (segment_of image heap)
segment_long image heap inside = sym (length-part (segment_block image heap).at (segment_block image heap).len image inside.1.0)

-- a heap that was read stands
pub standing_heap : (image : List ℕ) (heap : ℕ) (free : List Block) → Inside (length image) (heap_blocks image heap) → Separate (heap_blocks image heap)
    → IsHeap (heap_header image heap) (segment_of image heap) free → IsStandingHeap image heap × (free_blocks image heap ≡ free)
standing_heap image heap free inside apart form =
    let chain = chain_of_heap (heap_header image heap) (segment_of image heap) free form (segment_long image heap inside) in
    let is : free_blocks image heap ≡ free = free_from_is (segment_of image heap) (first_free image heap) free chain in
    (record { inside = inside; apart = apart; form = rw is form }, is)

pub standing_chain : (image : List ℕ) (heap : ℕ) → IsStandingHeap image heap → HasChain (segment_of image heap) (first_free image heap)
standing_chain image heap s = chain_of_heap (heap_header image heap) (segment_of image heap) (free_blocks image heap) s.form (segment_long image heap s.inside)

pub list_start_is : (segment : List ℕ) (n : ℕ) (free : List Block) → IsChain segment n free → list_start n ≡ n
list_start_is segment n free chain = go free chain where
  no : (n ≡ undefined_address → ⊥) → list_start n ≡ n
  no other = elim (stands_for n) [ inl one ↦ absurd (other one.0) | inr two ↦ two.1 ]

  go : (free : List Block) → IsChain segment n free → list_start n ≡ n
  go [] c = no (λ e. absurd (let one : n ≡ 1 = c.listed in omega (arith, one, e)))
  go (b ∷ bs) c = no (λ e. absurd (
      let even : n % 8 ≡ 0 = ap (λ (m : ℕ). m % 8) (sym c.listed.0) ∙ c.each.0.aligned in
      omega (arith, even, e)))

-- other bytes stand in the segment, and another offset in the header
module _ (image : List ℕ) (heap : ℕ) (s : IsStandingHeap image heap) (w : List ℕ) (n : ℕ) (low : n < 2 ^ 64)
    (long : length w ≡ (segment_block image heap).len) where
  abbrev at : ℕ
  at = (segment_block image heap).at

  abbrev len : ℕ
  len = (segment_block image heap).len

  abbrev half : List ℕ
  half = with_part at w image

  abbrev pub after_edit : List ℕ
  after_edit = with_field (with_part at w image) (heap + 16) 8 n

  room_w : at + length w ≤ length image
  room_w = omega (arith, long, s.inside.1.0)

  pub half_long : length half ≡ length image
  half_long = length-with_part at w image room_w

  room_n : heap + 16 + 8 ≤ length half
  room_n = omega (arith, half_long, s.inside.0)

  pub after_long : length after_edit ≡ length image
  after_long = length-with_part (heap + 16) (little_bytes 8 n) half room_n ∙ half_long

  far : (heap + 32 ≤ at) ⊎ (at + len ≤ heap)
  far = apart_of heap 32 at len (λ p. omega (arith, s.apart p)) (omega arith) (omega (arith, s.form.size))

  part_kept : (k m : ℕ) → k + m ≤ 16 ⊎ 24 ≤ k → k + m ≤ 32 → part (heap + k) m after_edit ≡ part (heap + k) m image
  part_kept k m side within =
      part-with_part_other (heap + 16) (little_bytes 8 n) half (heap + k) m room_n
      (elim side [ inl below ↦ inl (omega (arith, below)) | inr above ↦ inr (omega (arith, above)) ])
      ∙ part-with_part_other at w image (heap + k) m room_w
      (elim far [ inl below ↦ inl (omega (arith, below, within)) | inr above ↦ inr (omega (arith, above, long)) ])

  number_kept : (k : ℕ) → k + 8 ≤ 16 ⊎ 24 ≤ k → k + 8 ≤ 32 → number_at (heap_header after_edit heap) k 8 ≡ number_at (heap_header image heap) k 8
  number_kept k side within =
      number_at-part k 8 heap 32 after_edit within
      ∙ number_at-with_part_other (heap + 16) (little_bytes 8 n) half (heap + k) 8 room_n
      (elim side [ inl below ↦ inl (omega (arith, below)) | inr above ↦ inr (omega (arith, above)) ])
      ∙ number_at-with_part_other at w image (heap + k) 8 room_w
      (elim far [ inl below ↦ inl (omega (arith, below, within)) | inr above ↦ inr (omega (arith, above, long)) ])
      ∙ sym (number_at-part k 8 heap 32 image within)

  pub blocks_kept : heap_blocks after_edit heap ≡ heap_blocks image heap
  blocks_kept = ap₂ (λ (a b : ℕ). block heap 32 ∷ block a b ∷ []) (number_kept 24 (inr (omega arith)) (omega arith)) (number_kept 8 (inl (omega arith)) (omega arith))

  pub head_is : free_head (heap_header after_edit heap) ≡ n
  head_is = number_at-part 16 8 heap 32 after_edit (omega arith) ∙ number_at-with_field half (heap + 16) 8 n room_n low

  pub segment_is : segment_of after_edit heap ≡ w
  segment_is =
      ap₂ (λ (a b : ℕ). part a b after_edit) (number_kept 24 (inr (omega arith)) (omega arith)) (number_kept 8 (inl (omega arith)) (omega arith))
      ∙ part-with_part_other (heap + 16) (little_bytes 8 n) half at len room_n
      (elim far [ inl below ↦ inr (omega (arith, below)) | inr above ↦ inl (omega (arith, above)) ])
      ∙ part-with_part_same at len w image (sym long) room_w

  -- the offset is written into the header's bytes, when the segment's are there
  pub edited_bytes : (b : Block) → b ≡ segment_block image heap → (lent h : List ℕ) → lent ≡ part heap 32 (with_part b.at w image) → h ≡ with_field lent 16 8 n
      → with_part heap h (with_part b.at w image) ≡ after_edit
  edited_bytes b same lent h is put =
      let there : with_part b.at w image ≡ half = ap (λ (x : Block). with_part x.at w image) same in
      ap₂ (with_part heap) (put ∙ ap (λ (bs : List ℕ). with_field bs 16 8 n) (is ∙ ap (part heap 32) there)) there
      ∙ with_part-with_part heap 32 16 (little_bytes 8 n) half (omega (arith, half_long, s.inside.0)) (omega arith)

  signed_kept : part 0 4 (heap_header after_edit heap) ≡ part 0 4 (heap_header image heap)
  signed_kept = part-part 0 4 heap 32 after_edit (omega arith) ∙ part_kept 0 4 (inl (omega arith)) (omega arith) ∙ sym (part-part 0 4 heap 32 image (omega arith))

  version_kept : byte_at (heap_header after_edit heap) 4 ≡ byte_at (heap_header image heap) 4
  version_kept =
      byte_at-part 4 heap 32 after_edit (omega arith)
      ∙ byte-with_part (heap + 16) (little_bytes 8 n) half (heap + 4) room_n (inl (omega arith))
      ∙ byte-with_part at w image (heap + 4) room_w (elim far [ inl below ↦ inl (omega (arith, below)) | inr above ↦ inr (omega (arith, above, long)) ])
      ∙ sym (byte_at-part 4 heap 32 image (omega arith))

  module _ (chain : HasChain w n) where
    pub first_is : first_free after_edit heap ≡ n
    first_is = ap list_start head_is ∙ list_start_is w n (free_from w n) chain

    pub heap_edited : IsStandingHeap after_edit heap
    heap_edited =
        let size : segment_size (heap_header after_edit heap) ≡ segment_size (heap_header image heap) = number_kept 8 (inl (omega arith)) (omega arith) in
        let free : free_blocks after_edit heap ≡ free_from w n = ap₂ free_from segment_is first_is in
        record {
          inside = subst (Inside (length after_edit)) (sym blocks_kept) (subst (λ (m : ℕ). Inside m (heap_blocks image heap)) (sym after_long) s.inside);
          apart = subst Separate (sym blocks_kept) s.apart;
          form = record {
            signed = signed_kept ∙ s.form.signed;
            version = version_kept ∙ s.form.version;
            size = rw size s.form.size;
            listed = inl (rw (free, head_is, segment_is) chain.listed);
            each = rw free chain.each;
            apart = rw free chain.apart;
            within = rw (free, size) (subst (λ (m : ℕ). Inside m (free_from w n)) long chain.within);
          };
        }

    pub edited_released : (offset size : ℕ) → Releases (segment_of image heap) w (first_free image heap) n offset size
        → HasReleased image after_edit heap offset size
    edited_released offset size released = record { standing = heap_edited; blocks = blocks_kept; head = head_is ∙ sym first_is; released = rw (segment_is, first_is) released }

    pub edited_inserted : (text : List ℕ) (room offset : ℕ) → InsertsText (segment_of image heap) w (first_free image heap) n text room offset
        → HasInserted image after_edit heap text room offset
    edited_inserted text room offset inserted =
        record { standing = heap_edited; head = head_is ∙ sym first_is; inserted = rw (segment_is, first_is) inserted; blocks = λ same. blocks_kept }

-- an image of the same length and room
pub spends_same : (old new : Space) → length new.bytes ≡ length old.bytes → new.room_bytes ≡ old.room_bytes → new.room_blocks ≡ old.room_blocks → Spends old new 0 0
spends_same old new long bytes blocks = record { grown = omega (arith, long); bytes_left = omega (arith, bytes); blocks_left = omega (arith, blocks) }

-- both writes move the heap's blocks alone
module _ (old : Space) (heap : ℕ) (s : IsStandingHeap old.bytes heap) (w : List ℕ) (long : length w ≡ (segment_block old.bytes heap).len)
    (header : List ℕ) (size : length header ≡ 32) where
  abbrev place : ℕ
  place = (segment_block old.bytes heap).at

  abbrev one : Space
  one = with_bytes_at old place w

  abbrev two : Space
  two = with_bytes_at one heap header

  pub edit_moves : Moves old (with_bytes_at (with_bytes_at old (segment_block old.bytes heap).at w) heap header) (heap_blocks old.bytes heap) (heap_blocks old.bytes heap)
  edit_moves =
      let len = (segment_block old.bytes heap).len in
      let whole : length one.bytes ≡ length old.bytes = length-with_part place w old.bytes (omega (arith, long, s.inside.1.0)) in
      let first : Moves old one (block place len ∷ []) (block place len ∷ []) = moves_write old one place len w long s.inside.1.0 refl refl in
      let second : Moves one two (block heap 32 ∷ []) (block heap 32 ∷ []) = moves_write one two heap 32 header size (omega (arith, whole, s.inside.0)) refl refl in
      moves_then old one two (heap_blocks old.bytes heap) (heap_blocks old.bytes heap) (heap_blocks old.bytes heap)
      (moves_same old one (block place len ∷ block heap 32 ∷ []) (block place len ∷ block heap 32 ∷ []) (heap_blocks old.bytes heap) (heap_blocks old.bytes heap)
      (λ p. omega arith) (λ p. omega arith) (moves_beside old one (block place len ∷ []) (block place len ∷ []) (block heap 32 ∷ []) first))
      (moves_beside one two (block heap 32 ∷ []) (block heap 32 ∷ []) (segment_block old.bytes heap ∷ []) second)

-- ---- texts that stay

until-same : (n : ℕ) (xs ys : List ℕ) → take n ys ≡ take n xs → length (until_zero xs) < n → until_zero ys ≡ until_zero xs
until-same zero xs ys same short = absurd (omega (arith, short))
until-same (suc n) [] [] same short = refl
until-same (suc n) [] (y ∷ ys) same short = absurd (cc)
until-same (suc n) (x ∷ xs) [] same short = absurd (cc)
until-same (suc n) (x ∷ xs) (y ∷ ys) same short = go (x == 0) refl short (until-same n xs ys tails) where
  heads : y ≡ x
  heads = cc

  tails : take n ys ≡ take n xs
  tails = cc

  go : (r : Bool) → (x == 0) ≡ r → length (cond r [] (x ∷ until_zero xs)) < suc n → (length (until_zero xs) < n → until_zero ys ≡ until_zero xs)
      → cond (y == 0) [] (y ∷ until_zero ys) ≡ cond (x == 0) [] (x ∷ until_zero xs)
  go true is low later = rw (heads, is) refl
  go false is low later = rw (heads, is) (ap (λ (zs : List ℕ). x ∷ zs) (later (omega arith)))

-- a text is as before where the bytes of its span are
pub text_same : (old new : List ℕ) (offset : ℕ) → IsSpan old offset → length old ≤ length new
    → ((p : ℕ) → holds p offset (span_of old offset).len ≡ 1 → byte_at new p ≡ byte_at old p) → text_at new offset ≡ text_at old offset
unfolding text_at part
text_same old new offset span grown kept =
    let size = (span_of old offset).len in
    let same : part offset size new ≡ part offset size old
    = part-same offset size old new span.within grown (λ p low high. kept p (holds_in p offset size low high)) in
    until-same size (drop offset old) (drop offset new) same (grind arith)

-- a text whose span shares no byte with the free blocks or with those that were freed is as before
pub text_kept : (old new : List ℕ) (first first' at len offset : ℕ) → Releases old new first first' at len → IsSpan old offset
    → ((p : ℕ) → cover p (free_from old first) + (holds p at len + holds p offset (span_of old offset).len) ≤ 1) → text_at new offset ≡ text_at old offset
text_kept old new first first' at len offset released span apart =
    text_same old new offset span (omega (arith, released.size)) (λ p here. released.kept p (omega (arith, apart p, here)) (omega (arith, apart p, here)))

-- and so is one that shares none with the free blocks, where a text comes in
pub inserted_long : (old new : List ℕ) (first first' : ℕ) (text : List ℕ) (room at : ℕ) → InsertsText old new first first' text room at → length old ≤ length new
inserted_long old new first first' text room at inserts = elim inserts.placed [
  | inl front ↦ omega (arith, front.1)
  | inr behind ↦ omega (arith, behind.long)
]

pub text_stays : (old new : List ℕ) (first first' : ℕ) (text : List ℕ) (room at offset : ℕ) → InsertsText old new first first' text room at → IsSpan old offset
    → ((p : ℕ) → cover p (free_from old first) + holds p offset (span_of old offset).len ≤ 1) → text_at new offset ≡ text_at old offset
text_stays old new first first' text room at offset inserts span apart =
    text_same old new offset span (inserted_long old new first first' text room at inserts) (λ p here.
    inserts.kept p (below p here) (omega (arith, apart p, here)))
  where
    below : (p : ℕ) → holds p offset (span_of old offset).len ≡ 1 → p < length old
    below p here = let inner = held p offset (span_of old offset).len (omega (arith, here)) in omega (arith, inner.1, span.within)
