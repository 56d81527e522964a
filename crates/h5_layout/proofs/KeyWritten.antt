-- The key of a whole chunk, as it stands in a tree, is that key as it is written (File Format Specification 3.0, section III.A.1).
use Rattle.std.proofs.Common.{◌≡◌, ℕ, zero, suc, ◌+◌, ◌*◌, ◌≤◌, List, [], ◌++◌, length, map, take, drop, false, refl, sym, ap, ◌∙◌, arith}
use Rattle.std.proofs.lemmas.List.{drop-drop}
use Rattle.std.proofs.Math.Seq.{take-add}
use Rattle.std.specs.List.{range_with_len}
use Rattle.h5_bytes.specs.Bytes.{little_bytes, number_at, part}
use Rattle.h5_bytes.specs.Numbers.{middle, word, zeros}
use Rattle.h5_bytes.proofs.FieldLaws.{number_at-part}
use Rattle.h5_bytes.proofs.PartLaws.{length-part, part-whole}
use Rattle.h5_model.specs.Format.Bodies.{words}
use Rattle.h5_model.specs.Format.Chunks.{IsChunkKey, offsets_in}
use Rattle.h5_model.specs.Format.Fixed.{Fixed, IsFixed, bytes_of, raw_at, value_at}
use Rattle.h5_msg.proofs.ValueBytes.{AreBytes, AreBytes-drop, AreBytes-take, bytes_back}
use Rattle.h5_chunks.specs.Keys.{chunk_key}

-- the unsigned numbers of so many bytes, the low byte first
abbrev unsigned : ℕ → Fixed
unsigned n = record { size = n; signed = false; big = false }

pub bytes_part : (at n : ℕ) (bytes : List ℕ) → AreBytes bytes → AreBytes (part at n bytes)
unfolding part
bytes_part at n bytes low = AreBytes-take n (drop at bytes) (AreBytes-drop at bytes low)

number_back : (n : ℕ) (bytes : List ℕ) → IsFixed (unsigned n) → length bytes ≡ n → AreBytes bytes → little_bytes n (number_at bytes 0 n) ≡ bytes
unfolding bytes_of value_at raw_at number_at
number_back n bytes is long low = bytes_back (unsigned n) bytes is long low

-- the number at a place, written again
number_again : (n at : ℕ) (bytes : List ℕ) → IsFixed (unsigned n) → at + n ≤ length bytes → AreBytes bytes → little_bytes n (number_at bytes at n) ≡ part at n bytes
number_again n at bytes is room low =
    let start : at + 0 ≡ at = omega arith in
    ap (little_bytes n) (ap (λ k. number_at bytes k n) (sym start) ∙ sym (number_at-part 0 n at n bytes (omega arith)))
    ∙ number_back n (part at n bytes) is (length-part at n bytes room) (bytes_part at n bytes low)

part_add : (at m n : ℕ) (bytes : List ℕ) → part at (m + n) bytes ≡ part at m bytes ++ part (at + m) n bytes
unfolding part
part_add at m n bytes =
    take-add m n (drop at bytes) ∙ ap (λ (xs : List ℕ). take m (drop at bytes) ++ take n xs) (drop-drop m at bytes)

part_none : (at : ℕ) (bytes : List ℕ) → part at 0 bytes ≡ []
unfolding part
part_none at bytes = refl

module _ (key : List ℕ) (low : AreBytes key) where
  word_again : (at : ℕ) → at + 8 ≤ length key → word (number_at key at 8) ≡ part at 8 key
  word_again at room = number_again 8 at key (record { size = refl; plain = λ one. absurd (omega (arith, one)) }) room low

  middle_again : (at : ℕ) → at + 4 ≤ length key → middle (number_at key at 4) ≡ part at 4 key
  middle_again at room = number_again 4 at key (record { size = refl; plain = λ one. absurd (omega (arith, one)) }) room low

  words_again : (n a : ℕ) → 8 + 8 * (a + n) ≤ length key → words (map (λ i. number_at key (8 + 8 * i) 8) (range_with_len a n)) ≡ part (8 + 8 * a) (8 * n) key
  words_again zero a room = sym (part_none (8 + 8 * a) key)
  words_again (suc n) a room =
      let more : 8 + 8 * n ≡ 8 * suc n = omega arith in
      let next : 8 + 8 * (a + 1) ≡ 8 + 8 * a + 8 = omega arith in
      (λ i. word_again (8 + 8 * a) (omega (arith, room)) i ++ words_again n (a + 1) (omega (arith, room)) i)
      ∙ ap (λ k. part (8 + 8 * a) 8 key ++ part k (8 * n) key) next ∙ sym (part_add (8 + 8 * a) 8 (8 * n) key) ∙ ap (λ k. part (8 + 8 * a) k key) more

  module _ (sizes : List ℕ) (bytes : ℕ) (long : length key ≡ 8 + 8 * (length sizes + 1)) (is : IsChunkKey sizes bytes key) where
    abbrev n : ℕ
    n = length sizes

    pub key_written : key ≡ chunk_key (record { bytes = bytes; offsets = offsets_in n key })
    key_written =
        let whole : length key ≡ 4 + (4 + (8 * n + 8)) = omega (arith, long) in
        let size : part 0 4 key ≡ middle bytes = sym (middle_again 0 (omega (arith, long))) ∙ ap middle is.stored in
        let mask : part 4 4 key ≡ zeros 4 = sym (middle_again 4 (omega (arith, long))) ∙ ap middle is.unfiltered in
        let offsets : part 8 (8 * n) key ≡ words (offsets_in n key) = sym (words_again n 0 (omega (arith, long))) in
        let element : part (8 + 8 * n) 8 key ≡ word 0 = sym (word_again (8 + 8 * n) (omega (arith, long))) ∙ ap word is.element in
        sym (part-whole key) ∙ ap (λ k. part 0 k key) whole
        ∙ part_add 0 4 (4 + (8 * n + 8)) key ∙ ap (λ (xs : List ℕ). part 0 4 key ++ xs) (part_add 4 4 (8 * n + 8) key ∙ ap (λ (xs : List ℕ). part 4 4 key ++ xs) (part_add 8 (8 * n) 8 key))
        ∙ (λ i. size i ++ (mask i ++ (offsets i ++ element i)))
