-- Keys one behind another, as rows of bytes (File Format Specification 3.0, section III.A.1).
use Rattle.std.proofs.Common.{◌≡◌, ℕ, zero, suc, ◌+◌, ◌*◌, ◌/◌, ◌%◌, ◌<◌, ◌≤◌, List, [], ◌∷◌, ◌++◌, length, map, take, drop, get_or, refl, sym, ap, ◌∙◌, subst, arith, Bool, true, false, cond}
use Rattle.std.proofs.lemmas.List.{length-append, length-drop, length-map, get_or-map, map-append, drop-drop, drop-append-le, take-append-le, take_all}
use Rattle.std.proofs.lemmas.Nat.{div-add-mod', div-mul-add}
use Rattle.std.proofs.Math.Nat.{mul-le-mul_right, mul-mod_left}
use Rattle.std.specs.Prelude.{slice_index_or}
use Rattle.std.specs.List.{AllByRecursion}
use Rattle.h5_bytes.proofs.BlockLaws.{all_append}
use Rattle.h5_model.specs.Format.Chunks.{offsets_in}
use Rattle.h5_btree.proofs.OrderLaws.Elements.{all_at}
use Rattle.h5_chunks.specs.Lists.{AreKeysOf, IsKeyOf, key_length, keys_in, rows}

-- ---- rows

module _ (long : ℕ) where
  pub length-rows : (n : ℕ) (bytes : List ℕ) → length (rows long n bytes) ≡ n
  length-rows zero bytes = refl
  length-rows (suc n) bytes = ap suc (length-rows n (drop long bytes))

  row_at : (n : ℕ) (bytes : List ℕ) (k : ℕ) (none : List ℕ) → k < n → get_or (rows long n bytes) k none ≡ take long (drop (k * long) bytes)
  row_at zero bytes k none low = absurd (omega (arith, low))
  row_at (suc n) bytes zero none low = let start : 0 ≡ 0 * long = omega arith in ap (λ m. take long (drop m bytes)) start
  row_at (suc n) bytes (suc k) none low =
      let over : long + k * long ≡ suc k * long = omega arith in
      row_at n (drop long bytes) k none (omega (arith, low)) ∙ ap (take long) (drop-drop (k * long) long bytes ∙ ap (λ m. drop m bytes) over)

  row_more : (n : ℕ) (bytes key : List ℕ) → length bytes ≡ n * long → length key ≡ long → rows long (suc n) (bytes ++ key) ≡ rows long n bytes ++ key ∷ []
  row_more zero [] key whole one = ap (λ (row : List ℕ). row ∷ []) (take_all long key (omega (arith, one)))
  row_more zero (b ∷ bs) key whole one = absurd (omega (arith, whole))
  row_more (suc n) bytes key whole one =
      let room : long ≤ length bytes = omega (arith, whole) in
      let left : length (drop long bytes) ≡ n * long = omega (arith, whole, length-drop long bytes) in
      let here : take long (bytes ++ key) ≡ take long bytes = take-append-le long bytes key room in
      let rest : rows long (suc n) (drop long (bytes ++ key)) ≡ rows long n (drop long bytes) ++ key ∷ []
      = ap (rows long (suc n)) (drop-append-le long bytes key room) ∙ row_more n (drop long bytes) key left one in
      (λ i. here i ∷ rest i)

-- ---- keys

module _ (rank : ℕ) where
  abbrev long : ℕ
  long = key_length rank

  pub length-keys : (bytes : List ℕ) → length (keys_in rank bytes) ≡ length bytes / long
  length-keys bytes = length-rows long (length bytes / long) bytes

  pub length-offsets : (bytes : List ℕ) → length (map (offsets_in rank) (keys_in rank bytes)) ≡ length bytes / long
  length-offsets bytes = length-map (keys_in rank bytes) (offsets_in rank) ∙ length-keys bytes

  -- the key at a place
  module _ (bytes : List ℕ) (k : ℕ) (low : k < length (map (offsets_in rank) (keys_in rank bytes))) where
    abbrev pub key : List ℕ
    key = take long (drop (k * long) bytes)

    below : k < length bytes / long
    below = omega (arith, low, length-offsets bytes)

    pub key_end : k * long + long ≤ length bytes
    key_end =
        let whole : suc k * long ≤ length bytes / long * long = mul-le-mul_right long below in
        omega (arith, whole, div-add-mod' (length bytes) long)

    pub key_at : (none : List ℕ) → get_or (keys_in rank bytes) k none ≡ key
    key_at none = row_at long (length bytes / long) bytes k none below

    pub key_offsets : offsets_in rank key ≡ slice_index_or (map (offsets_in rank) (keys_in rank bytes)) k []
    key_offsets =
        let under : k < length (keys_in rank bytes) = omega (arith, below, length-keys bytes) in
        sym (get_or-map (offsets_in rank) (keys_in rank bytes) k [] [] under ∙ ap (offsets_in rank) (key_at []))

    pub key_there : (size : ℕ) → AllByRecursion (IsKeyOf rank size) (keys_in rank bytes) → IsKeyOf rank size key
    key_there size all = all_at (IsKeyOf rank size) (keys_in rank bytes) k key (omega (arith, below, length-keys bytes)) (key_at key) all

  -- whole keys, and one more
  module _ (bytes key : List ℕ) (whole : length bytes % long ≡ 0) (one : length key ≡ long) where
    all_of : length bytes ≡ length bytes / long * long
    all_of = omega (arith, div-add-mod' (length bytes) long, whole)

    more : length (bytes ++ key) ≡ suc (length bytes / long) * long
    more = omega (arith, length-append bytes key, one, all_of)

    pub whole_more : length (bytes ++ key) % long ≡ 0
    whole_more = ap (λ n. n % long) more ∙ mul-mod_left (suc (length bytes / long)) long

    pub keys_more : keys_in rank (bytes ++ key) ≡ keys_in rank bytes ++ key ∷ []
    keys_more =
        let none : suc (length bytes / long) * long + 0 ≡ suc (length bytes / long) * long = omega arith in
        let count : length (bytes ++ key) / long ≡ suc (length bytes / long)
        = ap (λ n. n / long) (more ∙ sym none) ∙ div-mul-add (suc (length bytes / long)) long 0 (omega arith) in
        ap (λ n. rows long n (bytes ++ key)) count ∙ row_more long (length bytes / long) bytes key all_of one

    pub offsets_more : map (offsets_in rank) (keys_in rank (bytes ++ key)) ≡ map (offsets_in rank) (keys_in rank bytes) ++ offsets_in rank key ∷ []
    offsets_more = ap (map (offsets_in rank)) keys_more ∙ map-append (offsets_in rank) (keys_in rank bytes) (key ∷ [])

-- a key more
pub key_more : (rank bytes : ℕ) (keys key : List ℕ) → AreKeysOf rank bytes keys → IsKeyOf rank bytes key → AreKeysOf rank bytes (keys ++ key)
key_more rank bytes keys key are one = record {
  few = are.few;
  whole = whole_more rank keys key are.whole one.long;
  each = subst (AllByRecursion (IsKeyOf rank bytes)) (sym (keys_more rank keys key are.whole one.long))
      (all_append (IsKeyOf rank bytes) (keys_in rank keys) (key ∷ []) are.each (one, tt));
}

-- the same where there may be no memory for it
pub key_or_none : (rank bytes : ℕ) (keys other : List ℕ) (ok : Bool) → AreKeysOf rank bytes keys → IsKeyOf rank bytes other
    → AreKeysOf rank bytes (cond ok (keys ++ other) keys)
key_or_none rank bytes keys other true are one = key_more rank bytes keys other are one
key_or_none rank bytes keys other false are one = are
