-- How many bytes the image lends to a text, and to one that comes behind it in the room that was left for it.
use Rattle.std.proofs.Common.{◌≡◌, ℕ, ◌+◌, ◌-◌, ◌≤◌, ◌⊎◌, inl, inr, Bool, true, false, cond, Option, Some, None, nat_le, List, [], ◌∷◌, ◌++◌, length, refl, sym, ◌∙◌, ap, arith}
use Rattle.std.specs.List.{find}
use Rattle.std.specs.Option.{option_map_or}
use Rattle.std.proofs.lemmas.Bool.Decides.{nat_tests}
use Rattle.h5_bytes.specs.Blocks.{block}
use Rattle.h5_bytes.specs.declared.Block.{Block}
use Rattle.h5_model.specs.Format.Heap.{segment_block, segment_of}
use Rattle.h5_model.specs.Format.Sizes.{text_span}
use Rattle.h5_heap.specs.Edited.{IsStandingHeap, free_blocks}
use Rattle.h5_heap.specs.Inserted.{IsFront, IsBehind, HasInserted, grown_length, needed_bytes, needed_calls}
use Rattle.h5_heap.specs.Sought.{is_enough}
use Rattle.h5_heap.proofs.EditedLaws.{segment_long}

abbrev none_or : Option Block → ℕ → ℕ
none_or found n = option_map_or (λ (b : Block). 0) found n

none_or-le : (found : Option Block) (n : ℕ) → none_or found n ≤ n
none_or-le None n = omega arith
none_or-le (Some b) n = omega arith

-- a block that is long enough stands in the list
found_zero : (test : Block → Bool) (front back : List Block) (b : Block) (n : ℕ) → test b ≡ true → none_or (find test (front ++ b ∷ back)) n ≡ 0
found_zero test [] back b n is = rw is refl
found_zero test (x ∷ xs) back b n is = go (test x) (found_zero test xs back b n is) where
  go : (r : Bool) → none_or (find test (xs ++ b ∷ back)) n ≡ 0 → none_or (cond r (Some x) (find test (xs ++ b ∷ back))) n ≡ 0
  go true later = refl
  go false later = later

-- the free block behind a text has the room that was asked for
pub room_left : (free free' : List Block) (size size' at len room : ℕ) → IsBehind free free' size size' at len room → 8 ≤ size → room + 16 ≤ size' - (at + len)
room_left free free' size size' at len room behind some = omega (arith, behind.long, behind.begins, some)

-- a text, and then one for which room was left, take one longer segment at most
pub record IsNeededOnce (old new : List ℕ) (heap : ℕ) (text : List ℕ) (room len : ℕ) : Type 0 where
  pub bytes : needed_bytes old heap (text_span text) room + needed_bytes new heap len 0 ≤ grown_length (segment_block old heap).len (text_span text) room
  pub calls : needed_calls old heap (text_span text) + needed_calls new heap len ≤ 2

pub needed_once : (old new : List ℕ) (heap : ℕ) (text : List ℕ) (room at len : ℕ) → IsStandingHeap old heap → HasInserted old new heap text room at → len ≤ room
    → IsNeededOnce old new heap text room len
needed_once old new heap text room at len s has fits = go has.inserted.placed where
  size_is : (segment_block old heap).len ≡ length (segment_of old heap)
  size_is = segment_long old heap s.inside

  test : Block → Bool
  test = is_enough len

  found : Option Block
  found = find (is_enough (text_span text)) (free_blocks old heap)

  go : (IsFront (free_blocks old heap) (free_blocks new heap) at (text_span text) × (length (segment_of new heap) ≡ length (segment_of old heap)))
      ⊎ IsBehind (free_blocks old heap) (free_blocks new heap) (length (segment_of old heap)) (length (segment_of new heap)) at (text_span text) room
      → IsNeededOnce old new heap text room len
  go (inl (front, long)) =
      let first : (n : ℕ) → none_or found n ≡ 0 = λ n. ap (λ (o : Option Block). none_or o n) front.first in
      let same : (segment_block new heap).len ≡ (segment_block old heap).len
      = segment_long new heap has.standing.inside ∙ long ∙ sym size_is in
      record {
        bytes = omega (
          arith,
          first (grown_length (segment_block old heap).len (text_span text) room),
          same,
          none_or-le (find test (free_blocks new heap)) (grown_length (segment_block new heap).len len 0),
          fits,
        );
        calls = omega (arith, first 2, none_or-le (find test (free_blocks new heap)) 2);
      }
  go (inr behind) =
      let some : 8 ≤ length (segment_of old heap) = omega (arith, s.form.size, size_is) in
      let left = room_left _ _ _ _ _ _ _ behind some in
      let rest = block (at + text_span text) (length (segment_of new heap) - (at + text_span text)) in
      let enough : test rest ≡ true = enough_is (length (segment_of new heap) - (at + text_span text)) (omega (arith, left, fits)) in
      let second : (n : ℕ) → none_or (find test (free_blocks new heap)) n ≡ 0
      = λ n. ap (λ (bs : List Block). none_or (find test bs) n) behind.rest.after ∙ found_zero test behind.rest.front behind.rest.back rest n enough in
      record {
        bytes = omega (
          arith,
          second (grown_length (segment_block new heap).len len 0),
          none_or-le found (grown_length (segment_block old heap).len (text_span text) room),
        );
        calls = omega (arith, second 2, none_or-le found 2);
      }
    where
      enough_is : (n : ℕ) → len ≤ n → nat_le len n ≡ true
      enough_is n low = grind (arith, nat_tests, low)
