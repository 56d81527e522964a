-- A heap's segment is copied into a longer one: what is written then is a heap, and which blocks move.
use Rattle.std.proofs.Common.{◌≡◌, ℕ, ◌+◌, ◌-◌, ◌<◌, ◌≤◌, ◌^◌, ◌⊎◌, inl, inr, List, [], ◌∷◌, ◌++◌, length, replicate, refl, sym, ◌∙◌, ap, ap₂, subst, arith}
use Rattle.h5_bytes.specs.Bytes.{number_at, byte_at, part, with_part, with_field, little_bytes}
use Rattle.h5_bytes.specs.Blocks.{block, holds, cover, Separate, Inside}
use Rattle.h5_bytes.specs.declared.Block.{Block}
use Rattle.h5_bytes.proofs.BlockLaws.{apart_of, holds_join, holds-le}
use Rattle.std.proofs.lemmas.List.{length-append}
use Rattle.h5_bytes.proofs.FieldLaws.{number_at-with_part_other, number_at-with_field}
use Rattle.h5_bytes.proofs.PartLaws.{length-part, length-with_part, part-with_part_same, part-with_part_other, part-part, part-append}
use Rattle.h5_model.specs.Format.Heap.{IsHeap, FreeFrom, heap_signature, heap_header, free_head, segment_size, segment_place, segment_block, segment_of, heap_blocks}
use Rattle.h5_model.proofs.BodyLaws.{byte_at-part}
use Rattle.h5_space.specs.Space.{Space, growth}
use Rattle.h5_space.specs.Whole.{IsApart}
use Rattle.h5_space.specs.Lending.{with_bytes_at}
use Rattle.h5_space.specs.Moves.{Moves, Spends}
use Rattle.h5_space.proofs.MovesLaws.{moves_take, moves_give, moves_write, moves_then, moves_same, moves_beside, spends_take}
use Rattle.h5_heap.specs.Chain.{free_from, HasChain}
use Rattle.h5_heap.specs.Edited.{list_start, first_free, IsStandingHeap}
use Rattle.h5_heap.specs.Inserted.{InsertsText, HasInserted}
use Rattle.h5_heap.proofs.EditedLaws.{list_start_is, standing_heap}

-- ---- the header's three numbers

module _ (h : List ℕ) (size first place : ℕ) (long : length h ≡ 32) (size_low : size < 2 ^ 64) (first_low : first < 2 ^ 64) (place_low : place < 2 ^ 64) where
  abbrev one : List ℕ
  one = with_field h 8 8 size

  abbrev two : List ℕ
  two = with_field one 16 8 first

  abbrev pub header_with : List ℕ
  header_with = with_field (with_field (with_field h 8 8 size) 16 8 first) 24 8 place

  one_long : length one ≡ 32
  one_long = length-with_part 8 (little_bytes 8 size) h (omega (arith, long)) ∙ long

  two_long : length two ≡ 32
  two_long = length-with_part 16 (little_bytes 8 first) one (omega (arith, one_long)) ∙ one_long

  pub header_long : length header_with ≡ 32
  header_long = length-with_part 24 (little_bytes 8 place) two (omega (arith, two_long)) ∙ two_long

  pub header_size : number_at header_with 8 8 ≡ size
  header_size =
      number_at-with_part_other 24 (little_bytes 8 place) two 8 8 (omega (arith, two_long)) (inl (omega arith))
      ∙ number_at-with_part_other 16 (little_bytes 8 first) one 8 8 (omega (arith, one_long)) (inl (omega arith))
      ∙ number_at-with_field h 8 8 size (omega (arith, long)) size_low

  pub header_first : number_at header_with 16 8 ≡ first
  header_first =
      number_at-with_part_other 24 (little_bytes 8 place) two 16 8 (omega (arith, two_long)) (inl (omega arith))
      ∙ number_at-with_field one 16 8 first (omega (arith, one_long)) first_low

  pub header_place : number_at header_with 24 8 ≡ place
  header_place = number_at-with_field two 24 8 place (omega (arith, two_long)) place_low

  pub header_front : part 0 8 header_with ≡ part 0 8 h
  header_front =
      part-with_part_other 24 (little_bytes 8 place) two 0 8 (omega (arith, two_long)) (inl (omega arith))
      ∙ part-with_part_other 16 (little_bytes 8 first) one 0 8 (omega (arith, one_long)) (inl (omega arith))
      ∙ part-with_part_other 8 (little_bytes 8 size) h 0 8 (omega (arith, long)) (inl (omega arith))

-- ---- a block was taken, which is longer than the heap's segment

pub record IsTakenFor (old : Space) (heap : ℕ) (t : Space) (at len : ℕ) : Type 0 where
  pub standing : IsStandingHeap old.bytes heap
  pub apart : IsApart (heap_blocks old.bytes heap) old.free (length old.bytes)
  pub grown : t.bytes ≡ old.bytes ++ replicate (growth len old.free) 0
  pub inside : at + len ≤ length t.bytes
  pub taken : (p : ℕ) → cover p t.free + holds p at len ≡ cover p old.free + holds p (length old.bytes) (growth len old.free)
  pub more : (segment_block old.bytes heap).len < len

module _ (old : Space) (heap : ℕ) (t : Space) (at len : ℕ) (k : IsTakenFor old heap t at len) where
  abbrev was : Block
  was = segment_block old.bytes heap

  abbrev zeros_behind : List ℕ
  zeros_behind = replicate (growth len old.free) 0

  -- its bytes are neither the heap's nor free
  pub grown_apart : (p : ℕ) → cover p (heap_blocks old.bytes heap) + (cover p t.free + holds p at len) ≤ 1
  grown_apart p =
      let here : 0 + length old.bytes ≡ length old.bytes = omega arith in
      let both : holds p 0 (length old.bytes + growth len old.free) ≡ holds p 0 (length old.bytes) + holds p (length old.bytes) (growth len old.free)
      = rw here at (holds_join p 0 (length old.bytes) (growth len old.free)) in
      omega (arith, k.taken p, k.apart p, both, holds-le p 0 (length old.bytes + growth len old.free))

  pub old_shorter : length old.bytes ≤ length t.bytes
  old_shorter = omega (arith, ap length k.grown, length-append old.bytes zeros_behind)

  pub old_inside : was.at + was.len ≤ length t.bytes
  old_inside = omega (arith, k.standing.inside.1.0, old_shorter)

  copied : part was.at was.len t.bytes ≡ segment_of old.bytes heap
  copied = ap (part was.at was.len) k.grown ∙ part-append was.at was.len old.bytes zeros_behind k.standing.inside.1.0

  copied_long : length (part was.at was.len t.bytes) ≡ was.len
  copied_long = length-part was.at was.len t.bytes old_inside

  abbrev pub after_copy : List ℕ
  after_copy = with_part at (part was.at was.len t.bytes) t.bytes

  copy_room : at + length (part was.at was.len t.bytes) ≤ length t.bytes
  copy_room = omega (arith, copied_long, k.inside, k.more)

  pub copy_long : length after_copy ≡ length t.bytes
  copy_long = length-with_part at (part was.at was.len t.bytes) t.bytes copy_room

  -- the longer one begins with the old bytes
  pub copy_is : part 0 was.len (part at len after_copy) ≡ segment_of old.bytes heap
  copy_is =
      let here : at + 0 ≡ at = omega arith in
      part-part 0 was.len at len after_copy (omega (arith, k.more))
      ∙ ap (λ (k : ℕ). part k was.len after_copy) here
      ∙ part-with_part_same at was.len (part was.at was.len t.bytes) t.bytes (sym copied_long) copy_room
      ∙ copied

  far : (heap + 32 ≤ at) ⊎ (at + len ≤ heap)
  far = apart_of heap 32 at len (λ p. omega (arith, grown_apart p)) (omega arith) (omega (arith, k.more))

  -- other bytes stand in it, and others in the header
  module _ (w : List ℕ) (w_long : length w ≡ len) (h : List ℕ) (h_long : length h ≡ 32) where
    abbrev after_segment : List ℕ
    after_segment = with_part at w after_copy

    abbrev pub after_grow : List ℕ
    after_grow = with_part heap h (with_part at w after_copy)

    segment_room : at + length w ≤ length after_copy
    segment_room = omega (arith, w_long, copy_long, k.inside)

    pub segment_long : length after_segment ≡ length t.bytes
    segment_long = length-with_part at w after_copy segment_room ∙ copy_long

    header_room : heap + length h ≤ length after_segment
    header_room = omega (arith, h_long, segment_long, k.standing.inside.0, old_shorter)

    pub grow_long : length after_grow ≡ length t.bytes
    grow_long = length-with_part heap h after_segment header_room ∙ segment_long

    pub header_at : heap_header after_grow heap ≡ h
    header_at = part-with_part_same heap 32 h after_segment (sym h_long) header_room

    segment_there : part at len after_grow ≡ w
    segment_there =
        part-with_part_other heap h after_segment at len header_room
        (elim far [ inl below ↦ inr (omega (arith, below, h_long)) | inr above ↦ inl (omega (arith, above)) ])
        ∙ part-with_part_same at len w after_copy (sym w_long) segment_room

    -- the header before it is written
    pub header_before : part heap 32 after_segment ≡ heap_header old.bytes heap
    header_before =
        part-with_part_other at w after_copy heap 32 segment_room
        (elim far [ inl below ↦ inl (omega (arith, below)) | inr above ↦ inr (omega (arith, above, w_long)) ])
        ∙ part-with_part_other at (part was.at was.len t.bytes) t.bytes heap 32 copy_room
        (elim far [ inl below ↦ inl (omega (arith, below)) | inr above ↦ inr (omega (arith, above, copied_long, k.more)) ])
        ∙ ap (part heap 32) k.grown
        ∙ part-append heap 32 old.bytes zeros_behind k.standing.inside.0

    -- the header says where it is, and where the list begins
    module _ (n : ℕ) (says_size : segment_size h ≡ len) (says_first : free_head h ≡ n) (says_place : segment_place h ≡ at)
        (front : part 0 8 h ≡ part 0 8 (heap_header old.bytes heap)) (chain : HasChain w n) where
      segment_block_is : segment_block after_grow heap ≡ block at len
      segment_block_is = ap₂ block (ap segment_place header_at ∙ says_place) (ap segment_size header_at ∙ says_size)

      pub grow_blocks : heap_blocks after_grow heap ≡ block heap 32 ∷ block at len ∷ []
      grow_blocks = ap (λ (b : Block). block heap 32 ∷ b ∷ []) segment_block_is

      pub grow_segment : segment_of after_grow heap ≡ w
      grow_segment = ap (λ (b : Block). part b.at b.len after_grow) segment_block_is ∙ segment_there

      pub grow_first : first_free after_grow heap ≡ n
      grow_first = ap list_start (ap free_head header_at ∙ says_first) ∙ list_start_is w n (free_from w n) chain

      signed : part 0 4 h ≡ heap_signature
      signed = sym (part-part 0 4 0 8 h (omega arith)) ∙ ap (part 0 4) front ∙ part-part 0 4 0 8 (heap_header old.bytes heap) (omega arith) ∙ k.standing.form.signed

      version : byte_at h 4 ≡ 0
      version = sym (byte_at-part 4 0 8 h (omega arith)) ∙ ap (λ (bs : List ℕ). byte_at bs 4) front
          ∙ byte_at-part 4 0 8 (heap_header old.bytes heap) (omega arith) ∙ k.standing.form.version

      form : IsHeap h w (free_from w n)
      form = record {
        signed = signed;
        version = version;
        size = omega (arith, says_size, k.more, k.standing.form.size);
        listed = inl (subst (λ (k : ℕ). FreeFrom w k (free_from w n)) (sym says_first) chain.listed);
        each = chain.each;
        apart = chain.apart;
        within = subst (λ (k : ℕ). Inside k (free_from w n)) (w_long ∙ sym says_size) chain.within;
      }

      form_there : IsHeap (heap_header after_grow heap) (segment_of after_grow heap) (free_from w n)
      form_there = subst (λ (x : List ℕ). IsHeap x (segment_of after_grow heap) (free_from w n)) (sym header_at)
          (subst (λ (x : List ℕ). IsHeap h x (free_from w n)) (sym grow_segment) form)

      pub grow_standing : IsStandingHeap after_grow heap
      grow_standing = (standing_heap after_grow heap (free_from w n)
          (subst (Inside (length after_grow)) (sym grow_blocks) (omega (arith, grow_long, k.standing.inside.0, old_shorter), (omega (arith, grow_long, k.inside), tt)))
          (subst Separate (sym grow_blocks) (λ p. omega (arith, grown_apart p))) form_there).0

      pub grow_inserted : (text : List ℕ) (room offset : ℕ) → InsertsText (segment_of old.bytes heap) w (first_free old.bytes heap) n text room offset
          → HasInserted old.bytes after_grow heap text room offset
      grow_inserted text room offset inserts = record {
        standing = grow_standing;
        head = ap free_head header_at ∙ says_first ∙ sym grow_first;
        inserted = subst (λ (x : List ℕ). InsertsText (segment_of old.bytes heap) x (first_free old.bytes heap) (first_free after_grow heap) text room offset) (sym grow_segment)
            (subst (λ (k : ℕ). InsertsText (segment_of old.bytes heap) w (first_free old.bytes heap) k text room offset) (sym grow_first) inserts);
        blocks = λ same. absurd (omega (arith, same, ap length grow_segment, w_long, k.more, length-part was.at was.len old.bytes k.standing.inside.1.0));
      }

    -- ---- the blocks that move

    abbrev copy_space : Space
    copy_space = record t { bytes = after_copy }

    abbrev segment_space : Space
    segment_space = with_bytes_at copy_space at w

    abbrev header_space : Space
    header_space = with_bytes_at segment_space heap h

    abbrev all : List Block
    all = block at len ∷ heap_blocks old.bytes heap

    take_moves : Moves old t (heap_blocks old.bytes heap) all
    take_moves = moves_beside old t [] (block at len ∷ []) (heap_blocks old.bytes heap) (moves_take old t at len (growth len old.free) k.grown k.taken)

    copy_moves : Moves t copy_space all all
    copy_moves =
        let rest = block (at + was.len) (len - was.len) in
        let size : was.len + (len - was.len) ≡ len = omega (arith, k.more) in
        let same : (p : ℕ) → cover p all ≡ cover p (block at was.len ∷ rest ∷ heap_blocks old.bytes heap)
        = λ p. omega (arith, rw size at (holds_join p at was.len (len - was.len))) in
        moves_same t copy_space (block at was.len ∷ rest ∷ heap_blocks old.bytes heap) (block at was.len ∷ rest ∷ heap_blocks old.bytes heap) all all same same
        (moves_beside t copy_space (block at was.len ∷ []) (block at was.len ∷ []) (rest ∷ heap_blocks old.bytes heap)
        (moves_write t copy_space at was.len (part was.at was.len t.bytes) copied_long (omega (arith, k.inside, k.more)) refl refl))

    segment_moves : Moves copy_space segment_space all all
    segment_moves = moves_beside copy_space segment_space (block at len ∷ []) (block at len ∷ []) (heap_blocks old.bytes heap)
        (moves_write copy_space segment_space at len w w_long (omega (arith, copy_long, k.inside)) refl refl)

    header_moves : Moves segment_space header_space all all
    header_moves = moves_same segment_space header_space (block heap 32 ∷ was ∷ block at len ∷ []) (block heap 32 ∷ was ∷ block at len ∷ []) all all
        (λ p. omega arith) (λ p. omega arith)
        (moves_beside segment_space header_space (block heap 32 ∷ []) (block heap 32 ∷ []) (was ∷ block at len ∷ [])
        (moves_write segment_space header_space heap 32 h h_long (omega (arith, segment_long, k.standing.inside.0, old_shorter)) refl refl))

    module _ (new : Space) (bytes : new.bytes ≡ after_grow) (given : (p : ℕ) → cover p new.free ≡ cover p t.free + holds p was.at was.len) where
      give_moves : Moves header_space new all (block heap 32 ∷ block at len ∷ [])
      give_moves = moves_same header_space new (was ∷ block heap 32 ∷ block at len ∷ []) (block heap 32 ∷ block at len ∷ []) all (block heap 32 ∷ block at len ∷ [])
          (λ p. omega arith) (λ p. refl)
          (moves_beside header_space new (was ∷ []) [] (block heap 32 ∷ block at len ∷ []) (moves_give header_space new was.at was.len bytes given))

      pub grow_moves : Moves old new (heap_blocks old.bytes heap) (block heap 32 ∷ block at len ∷ [])
      grow_moves =
          moves_then old t new _ all _ take_moves
          (moves_then t copy_space new all all _ copy_moves
          (moves_then copy_space segment_space new all all _ segment_moves
          (moves_then segment_space header_space new all all _ header_moves give_moves)))

      pub grow_spends : t.room_bytes + len ≡ old.room_bytes → t.room_blocks + 1 ≡ old.room_blocks → new.room_bytes ≡ t.room_bytes
          → new.room_blocks + 1 ≡ t.room_blocks → Spends old new len 2
      grow_spends bytes_left blocks_left bytes_kept blocks_kept = record {
        grown = omega (arith, (spends_take old t len k.grown bytes_left blocks_left).grown, ap length bytes, grow_long);
        bytes_left = omega (arith, bytes_left, bytes_kept);
        blocks_left = omega (arith, blocks_left, blocks_kept);
      }

  -- the image after the copy, whose bytes are those of the old segment at its new place
  module _ (b : Block) (same : b ≡ segment_block old.bytes heap) (c : Space) (after : c ≡ record t { bytes = with_part at (part b.at b.len t.bytes) t.bytes }) where
    copied_bytes : c.bytes ≡ after_copy
    copied_bytes = ap (λ (x : Space). x.bytes) after ∙ ap (λ (x : Block). with_part at (part x.at x.len t.bytes) t.bytes) same

    copied_free : c.free ≡ t.free
    copied_free = ap (λ (x : Space). x.free) after

    pub copied_inside : at + len ≤ length c.bytes
    copied_inside = omega (arith, ap length copied_bytes, copy_long, k.inside)

    pub copied_begins : (r : List ℕ) → r ≡ part at len c.bytes → part 0 b.len r ≡ segment_of old.bytes heap
    copied_begins r is = ap₂ (λ (x : Block) (bs : List ℕ). part 0 x.len bs) same (is ∙ ap (part at len) copied_bytes) ∙ copy_is

    pub copied_apart : (p : ℕ) → cover p c.free + holds p b.at b.len ≤ 1
    copied_apart p = omega (arith, grown_apart p, ap (cover p) copied_free, ap (λ (x : Block). holds p x.at x.len) same)

    module _ (w : List ℕ) (w_long : length w ≡ len) (h : List ℕ) (h_long : length h ≡ 32) where
      pub copied_header : heap + 32 ≤ length (with_part at w c.bytes)
      copied_header = omega (arith, ap (λ (bs : List ℕ). length (with_part at w bs)) copied_bytes, segment_long w w_long h h_long, old_shorter, k.standing.inside.0)

      pub copied_before : part heap 32 (with_part at w c.bytes) ≡ heap_header old.bytes heap
      copied_before = ap (λ (bs : List ℕ). part heap 32 (with_part at w bs)) copied_bytes ∙ header_before w w_long h h_long

      pub copied_all : with_part heap h (with_part at w c.bytes) ≡ after_grow w w_long h h_long
      copied_all = ap (λ (bs : List ℕ). with_part heap h (with_part at w bs)) copied_bytes

      pub copied_old : b.at + b.len ≤ length (with_part heap h (with_part at w c.bytes))
      copied_old = omega (arith, ap length copied_all, grow_long w w_long h h_long, old_inside, ap (λ (x : Block). x.at + x.len) same)

      pub copied_given : (p n : ℕ) → n ≡ cover p c.free + holds p b.at b.len
          → n ≡ cover p t.free + holds p (segment_block old.bytes heap).at (segment_block old.bytes heap).len
      copied_given p n is = is ∙ ap₂ (λ (bs : List Block) (x : Block). cover p bs + holds p x.at x.len) copied_free same
