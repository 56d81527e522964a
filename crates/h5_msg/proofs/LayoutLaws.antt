-- A layout that was written reads as that layout.
use Rattle.std.proofs.Common.{◌≡◌, ◌≢◌, ℕ, zero, suc, ◌+◌, ◌-◌, ◌*◌, ◌^◌, ◌<◌, ◌≤◌, inl, inr, min, List, [], ◌∷◌, ◌++◌, map, length, length-append, append_assoc, replicate, get_or, slice_index, take, drop, refl, sym, ap, ◌∙◌, arith, ◌||◌, true, false, Option, Some, None, eq-eqb}
use Rattle.std.proofs.lemmas.Bool.Decides.{nat_tests}
use Rattle.std.proofs.lemmas.Bool.{cases_lt}
use Rattle.std.proofs.lemmas.List.{take_all}
use Rattle.std.proofs.lemmas.List.FromFn.{fill_by_all, length-map-range_with_len, get_or-map-range_with_len}
use Rattle.std.proofs.Math.Nat.{mul_assoc, mul-le-mul_left}
use Rattle.std.proofs.Math.Seq.{take-append_seam, drop-append_seam}
use Rattle.std.specs.Prelude.{◌==◌, nat_le, slice_range, option_map}
use Rattle.std.specs.Option.{ForSome}
use Rattle.std.specs.List.{list_any, range_with_len}
use Rattle.byteorder.specs.Numbers.{little_number-reads_back}
use Rattle.h5_bytes.specs.Bytes.{number_at, little_bytes, undefined_address}
use Rattle.h5_bytes.specs.Blocks.{block}
use Rattle.h5_model.specs.Tree.Places.{cells}
use Rattle.h5_model.specs.Format.Layout.{InMessage, InBlock, InChunks, layout_of, contiguous_layout, short_numbers_at, address_from}
use Rattle.h5_model.specs.Format.Bodies.{compact_bytes, contiguous_bytes, chunked_bytes, short_words, or_undefined}
use Rattle.h5_model.specs.Format.Plain.{with_zeros}
use Rattle.h5_model.proofs.NumberLaws.{reads_back}
use Rattle.h5_msg.proofs.WordLaws.{number_at-drop}

pub zero_step : (f : ℕ → ℕ) (k n : ℕ) → n ≢ 0 → list_any (λ n. n == 0) (map f (range_with_len k n)) ≡ (f k == 0 || list_any (λ n. n == 0) (map f (range_with_len (k + 1) (n - 1))))
zero_step f k zero some = absurd (some refl)
zero_step f k (suc n) some = let less : suc n - 1 ≡ n = omega arith in rw less refl

-- a product that is capped is capped once
pub needed_step : (d c s m : ℕ) → min (d * min (c * s) m) m ≡ min (d * c * s) m
needed_step d c s m = rw (mul_assoc d c s) (capped d (c * s) m) where
  capped : (d n m : ℕ) → min (d * min n m) m ≡ min (d * n) m
  capped zero n m = omega arith
  capped (suc d) n m = elim (cases_lt m n) [
    | inl above ↦
        let most : min n m ≡ m = omega arith in
        let left : m ≤ suc d * m = omega arith in
        let right : suc d * m ≤ suc d * n = mul-le-mul_left (suc d) (omega arith) in
        rw most (omega arith)
    | inr below ↦ let whole : min n m ≡ n = omega arith in rw whole refl
  ]

-- cells by the first size and the others
pub cells_first : (sizes : List ℕ) → 1 ≤ length sizes → cells sizes ≡ get_or sizes 0 0 * cells (take (length sizes - 1) (drop 1 sizes))
cells_first [] some = absurd (omega arith)
cells_first (d ∷ ds) some = ap (λ (xs : List ℕ). d * cells xs) (sym (take_all (length (d ∷ ds) - 1) ds (omega arith)))

-- ---- data in the message

compact_size : (stored rest : List ℕ) → length stored < 65536 → number_at (compact_bytes stored ++ rest) 2 2 ≡ length stored
unfolding number_at
compact_size stored rest small = little_number-reads_back 2 (length stored) (stored ++ rest) small

compact_data : (stored rest : List ℕ) → slice_range (compact_bytes stored ++ rest) 4 (4 + length stored) ≡ stored
compact_data stored rest = let long : 4 + length stored - 4 ≡ length stored = omega arith in ap (λ (n : ℕ). take n (stored ++ rest)) long ∙ take-append_seam stored rest

pub compact_back : (stored : List ℕ) (n : ℕ) (bytes sizes : List ℕ) (size : ℕ) → length stored < 65536 → bytes ≡ with_zeros (compact_bytes stored) n → cells sizes * size ≡ length stored
    → layout_of sizes size bytes ≡ Some (InMessage stored)
unfolding layout_of
compact_back stored n bytes sizes size small same need =
    let rest : List ℕ = replicate (n - length (compact_bytes stored)) 0 in
    let all : length (stored ++ rest) ≡ length stored + length rest = length-append stored rest in
    let two : nat_le 2 (length (compact_bytes stored ++ rest)) ≡ true = grind (arith, nat_tests) in
    let four : nat_le 4 (length (compact_bytes stored ++ rest)) ≡ true = grind (arith, nat_tests) in
    let whole : nat_le (4 + length stored) (length (compact_bytes stored ++ rest)) ≡ true = grind (arith, nat_tests) in
    let own : nat_le (length stored) (length stored) ≡ true = grind (arith, nat_tests) in
    rw (same, need, two, four, compact_size stored rest small, whole, own, compact_data stored rest) refl

-- ---- a block of data, or none

contiguous_at : (at : Option ℕ) (len : ℕ) (rest : List ℕ) → or_undefined at < 2 ^ 64 → number_at (contiguous_bytes at len ++ rest) 2 8 ≡ or_undefined at
unfolding number_at
contiguous_at at len rest small = little_number-reads_back 8 (or_undefined at) (little_bytes 8 len ++ rest) small

contiguous_len : (at : Option ℕ) (len : ℕ) (rest : List ℕ) → len < 2 ^ 64 → number_at (contiguous_bytes at len ++ rest) 10 8 ≡ len
unfolding number_at
contiguous_len at len rest small = little_number-reads_back 8 len rest small

-- an address that is there is not the undefined one
abbrev pub IsAddress : Option ℕ → Type 0
IsAddress at = ForSome at (λ n. n < 2 ^ 64 - 1)

address_small : (at : Option ℕ) → IsAddress at → or_undefined at < 2 ^ 64
address_small None there = omega arith
address_small (Some n) there = let low : n < 2 ^ 64 - 1 = there n refl in omega arith

address_back : (at : Option ℕ) → IsAddress at → address_from (or_undefined at) ≡ at
address_back None there = refl
address_back (Some n) there = let low : n < 2 ^ 64 - 1 = there n refl in let below : (n == undefined_address) ≡ false = grind (arith, nat_tests) in rw below refl

contiguous_found : (at : Option ℕ) (len need : ℕ) (bytes : List ℕ) → IsAddress at → nat_le 18 (length bytes) ≡ true → number_at bytes 2 8 ≡ or_undefined at → number_at bytes 10 8 ≡ len → need ≤ len
    → contiguous_layout need bytes ≡ Some (InBlock (option_map (λ n. block n len) at))
contiguous_found None len need bytes there long first second enough = rw (long, first) refl
contiguous_found (Some n) len need bytes there long first second enough =
    let low : n < 2 ^ 64 - 1 = there n refl in
    let below : (n == undefined_address) ≡ false = grind (arith, nat_tests) in
    let room : nat_le need len ≡ true = grind (arith, nat_tests) in
    rw (long, first, below, second, room) refl

pub contiguous_back : (at : Option ℕ) (len n : ℕ) (bytes sizes : List ℕ) (size : ℕ) → IsAddress at → len < 2 ^ 64 → bytes ≡ with_zeros (contiguous_bytes at len) n → cells sizes * size ≤ len
    → layout_of sizes size bytes ≡ Some (InBlock (option_map (λ n. block n len) at))
unfolding layout_of
contiguous_back at len n bytes sizes size there small same enough =
    let rest : List ℕ = replicate (n - length (contiguous_bytes at len)) 0 in
    let two : nat_le 2 (length (contiguous_bytes at len ++ rest)) ≡ true = grind (arith, nat_tests) in
    let long : nat_le 18 (length (contiguous_bytes at len ++ rest)) ≡ true = grind (arith, nat_tests) in
    rw (same, two) (contiguous_found at len (cells sizes * size) (contiguous_bytes at len ++ rest) there long
    (contiguous_at at len rest (address_small at there)) (contiguous_len at len rest small) enough)

-- ---- chunks

pub short_words_long : (xs : List ℕ) → length (short_words xs) ≡ 4 * length xs
short_words_long [] = omega arith
short_words_long (x ∷ xs) = omega (arith, short_words_long xs)

number_at-short_words : (xs rest : List ℕ) (k : ℕ) → k < length xs → get_or xs k 0 < 2 ^ 32 → number_at (short_words xs ++ rest) (4 * k) 4 ≡ get_or xs k 0
unfolding number_at
number_at-short_words [] rest k low small = absurd (omega arith)
number_at-short_words (x ∷ xs) rest zero low small = little_number-reads_back 4 x (short_words xs ++ rest) small
number_at-short_words (x ∷ xs) rest (suc k) low small =
    let over : 4 * suc k ≡ 4 + 4 * k = omega arith in
    ap (λ (i : ℕ). number_at (short_words (x ∷ xs) ++ rest) i 4) over ∙ number_at-drop (short_words (x ∷ xs) ++ rest) 4 (4 * k) 4
    ∙ number_at-short_words xs rest k (omega arith) small

module _ (chunk : List ℕ) (tree : Option ℕ) (size : ℕ) (rest : List ℕ) (small : (k : ℕ) → get_or chunk k 0 < 2 ^ 32) (some : list_any (λ n. n == 0) chunk ≡ false)
    (there : IsAddress tree) (rank : 1 ≤ length chunk) (fits : size < 2 ^ 32) where
  abbrev body : List ℕ
  body = chunked_bytes chunk tree size ++ rest

  abbrev tail : List ℕ
  tail = little_bytes 4 size ++ rest

  joined : (short_words chunk ++ little_bytes 4 size) ++ rest ≡ short_words chunk ++ tail
  joined = append_assoc (short_words chunk) (little_bytes 4 size) rest

  seam : drop (4 * length chunk) (short_words chunk ++ tail) ≡ tail
  seam = ap (λ (n : ℕ). drop n (short_words chunk ++ tail)) (sym (short_words_long chunk)) ∙ drop-append_seam (short_words chunk) tail

  sizes_read : short_numbers_at body 11 (length chunk) ≡ chunk
  sizes_read = sym (fill_by_all (λ i. number_at body (11 + 4 * i) 4) chunk (length chunk) 0 refl (λ k low.
      sym (number_at-drop body 11 (4 * k) 4 ∙ ap (λ (bytes : List ℕ). number_at bytes (4 * k) 4) joined ∙ number_at-short_words chunk tail k low (small k))))

  element_read : number_at body (11 + 4 * length chunk) 4 ≡ size
  element_read =
      let none : 4 * length chunk + 0 ≡ 4 * length chunk = omega arith in
      number_at-drop body 11 (4 * length chunk) 4 ∙ ap (λ (bytes : List ℕ). number_at bytes (4 * length chunk) 4) joined
      ∙ ap (λ (at : ℕ). number_at (short_words chunk ++ tail) at 4) (sym none)
      ∙ number_at-drop (short_words chunk ++ tail) (4 * length chunk) 0 4 ∙ ap (λ (bytes : List ℕ). number_at bytes 0 4) seam ∙ reads_back 4 size rest fits

  tree_read : number_at body 3 8 ≡ or_undefined tree
  unfolding number_at
  tree_read = little_number-reads_back 8 (or_undefined tree) ((short_words chunk ++ little_bytes 4 size) ++ rest) (address_small tree there)

  length-body : length body ≡ 11 + 4 * (length chunk + 1) + length rest
  length-body =
      let numbers = short_words_long chunk in
      let last : length tail ≡ 4 + length rest = omega arith in
      let all : length ((short_words chunk ++ little_bytes 4 size) ++ rest) ≡ 4 * length chunk + (4 + length rest)
      = ap length joined ∙ length-append (short_words chunk) tail ∙ omega arith in
      omega arith

  pub chunked_reads : (sizes : List ℕ) → length sizes ≡ length chunk → layout_of sizes size body ≡ Some (InChunks chunk tree)
  unfolding layout_of
  chunked_reads sizes same =
      let all = length-body in
      let two : nat_le 2 (length body) ≡ true = grind (arith, nat_tests) in
      let whole : nat_le (11 + 4 * (length chunk + 1)) (length body) ≡ true = grind (arith, nat_tests) in
      let own : (length chunk + 1 == length chunk + 1) ≡ true = eq-eqb (length chunk + 1) (length chunk + 1) refl in
      let dimensions : nat_le 1 (length chunk) ≡ true = grind (arith, nat_tests) in
      let element : (size == size) ≡ true = eq-eqb size size refl in
      rw (same, two, whole, own, dimensions, sizes_read, some, element_read, element, tree_read, address_back tree there) refl

pub chunked_back : (chunk : List ℕ) (tree : Option ℕ) (size n : ℕ) (bytes sizes : List ℕ) → ((k : ℕ) → get_or chunk k 0 < 2 ^ 32) → list_any (λ n. n == 0) chunk ≡ false
    → IsAddress tree → 1 ≤ length chunk → size < 2 ^ 32 → bytes ≡ with_zeros (chunked_bytes chunk tree size) n → length sizes ≡ length chunk
    → layout_of sizes size bytes ≡ Some (InChunks chunk tree)
chunked_back chunk tree size n bytes sizes small some there rank fits same long =
    ap (layout_of sizes size) same ∙ chunked_reads chunk tree size (replicate (n - length (chunked_bytes chunk tree size)) 0) small some there rank fits sizes long

-- ---- chunk sizes that are read

pub length-chunk : (body value : List ℕ) (rank : ℕ) → short_numbers_at body 11 rank ≡ value → length value ≡ rank
length-chunk body value rank is = ap length (sym is) ∙ length-map-range_with_len (λ i. number_at body (11 + 4 * i) 4) 0 rank

pub chunk_size_at : (body value : List ℕ) (rank k : ℕ) → short_numbers_at body 11 rank ≡ value → k < length value → slice_index value k ≡ number_at body (11 + 4 * k) 4
chunk_size_at body value rank k is low =
    let long = length-chunk body value rank is in
    ap (λ (xs : List ℕ). slice_index xs k) (sym is) ∙ get_or-map-range_with_len (λ i. number_at body (11 + 4 * i) 4) 0 rank k k 0 (omega arith) (omega arith)
