-- A part of a list of bytes after another part was written.
use Rattle.std.proofs.Common.{◌≡◌, ℕ, ◌+◌, ◌-◌, ◌≤◌, List, ◌++◌, length, take, drop, sym, ap, ◌∙◌, arith, ◌⊎◌, rules}
use Rattle.std.proofs.lemmas.List.{same_lists, places, length-take, length-drop, length-append, take_all}
use Rattle.std.proofs.Math.Seq.{drop-append-add}
use Rattle.std.specs.List.{copy_within}
use borrow.Rule.Slice.PartMut.{put_mid}
use Rattle.h5_bytes.specs.Bytes.{part, with_part}

pub length-part : (at len : ℕ) (bytes : List ℕ) → at + len ≤ length bytes → length (part at len bytes) ≡ len
unfolding part
length-part at len bytes h = simp (length-take, length-drop) (omega arith)

pub with_part_is : (at : ℕ) (new bytes : List ℕ) → at + length new ≤ length bytes →
    with_part at new bytes ≡ take at bytes ++ (new ++ drop (at + length new) bytes)
unfolding with_part
with_part_is at new bytes h = take_all _ _ (simp (length-append, length-take, length-drop) (omega arith))

pub length-with_part : (at : ℕ) (new bytes : List ℕ) → at + length new ≤ length bytes → length (with_part at new bytes) ≡ length bytes
length-with_part at new bytes h = ap length (with_part_is at new bytes h) ∙ simp (length-append, length-take, length-drop) (omega arith)

-- what was written reads back
pub part-with_part_same : (at n : ℕ) (new bytes : List ℕ) → n ≡ length new → at + length new ≤ length bytes →
    part at n (with_part at new bytes) ≡ new
unfolding part
part-with_part_same at n new bytes e h =
    ap (λ xs. take n (drop at xs)) (with_part_is at new bytes h)
    ∙ same_lists _ _ (search (rules, places)) (λ k d l. grind (arith, places))

-- a part that shares no byte with the one written is as it was
pub part-with_part_other : (at : ℕ) (new bytes : List ℕ) (a n : ℕ) → at + length new ≤ length bytes →
    (a + n ≤ at) ⊎ (at + length new ≤ a) → part a n (with_part at new bytes) ≡ part a n bytes
unfolding part
part-with_part_other at new bytes a n h far =
    ap (λ xs. take n (drop a xs)) (with_part_is at new bytes h)
    ∙ same_lists _ _ (search (rules, places)) (λ k d l. grind (arith, places, far))

-- a part of a part
pub part-part : (a n at len : ℕ) (bytes : List ℕ) → a + n ≤ len → part a n (part at len bytes) ≡ part (at + a) n bytes
unfolding part
part-part a n at len bytes h = same_lists _ _ (search (rules, places)) (λ k d l. grind (arith, places))

-- a part that was moved along by `copy_within`
pub part-copy_within : (bytes : List ℕ) (from to dest a b n : ℕ) → from ≤ to → to ≤ length bytes → dest + (to - from) ≤ length bytes →
    dest ≤ a → a + n ≤ dest + (to - from) → b + dest ≡ a + from →
    part a n (copy_within bytes from to dest) ≡ part b n bytes
unfolding part
part-copy_within bytes from to dest a b n h1 h2 h3 h4 h5 e =
    same_lists _ _ (search (rules, places)) (λ k d l. grind (arith, places))

-- a part that `copy_within` leaves alone
pub part-copy_within_other : (bytes : List ℕ) (from to dest a n : ℕ) → from ≤ to → to ≤ length bytes → dest + (to - from) ≤ length bytes →
    (a + n ≤ dest) ⊎ (dest + (to - from) ≤ a) →
    part a n (copy_within bytes from to dest) ≡ part a n bytes
unfolding part
part-copy_within_other bytes from to dest a n h1 h2 h3 far =
    same_lists _ _ (search (rules, places)) (λ k d l. grind (arith, places, far))

-- what a write to `&mut s[at..at + k]` leaves
pub put_mid_is : (at k : ℕ) (bytes new : List ℕ) → length new ≡ k → at + k ≤ length bytes → put_mid at k bytes new ≡ with_part at new bytes
put_mid_is at k bytes new e h = same_lists _ _ (search (rules, places)) (λ i d l. grind (arith, places)) ∙ sym (with_part_is at new bytes (omega arith))

-- what a write at the front of `&mut s[at..]` leaves
pub put_tail_is : (at n : ℕ) (bytes new : List ℕ) → length new ≡ n → at + n ≤ length bytes →
    put_mid at (length bytes - at) bytes (new ++ drop n (take (length bytes - at) (drop at bytes))) ≡ with_part at new bytes
put_tail_is at n bytes new e h = same_lists _ _ (search (rules, places)) (λ i d l. grind (arith, places)) ∙ sym (with_part_is at new bytes (omega arith))

-- a part is as it was where bytes are appended
pub part-append : (at len : ℕ) (bytes more : List ℕ) → at + len ≤ length bytes → part at len (bytes ++ more) ≡ part at len bytes
unfolding part
part-append at len bytes more h = same_lists _ _ (search (rules, places)) (λ k d l. grind (arith, places))

-- bytes that were appended
pub part-appended : (bytes more : List ℕ) → part (length bytes) (length more) (bytes ++ more) ≡ more
unfolding part
part-appended bytes more = same_lists _ _ (search (rules, places)) (λ k d l. grind (arith, places))

-- the whole is a part of itself
pub part-whole : (bytes : List ℕ) → part 0 (length bytes) bytes ≡ bytes
unfolding part
part-whole bytes = same_lists _ _ (search (rules, places)) (λ k d l. grind (arith, places))

-- a part that is written into a part of the whole, which is then put back
pub with_part-with_part : (at len a : ℕ) (new bytes : List ℕ) → at + len ≤ length bytes → a + length new ≤ len
    → with_part at (with_part a new (part at len bytes)) bytes ≡ with_part (at + a) new bytes
unfolding part
with_part-with_part at len a new bytes h inner =
    let long : length (part at len bytes) ≡ len = length-part at len bytes h in
    let same : length (with_part a new (part at len bytes)) ≡ len = length-with_part a new (part at len bytes) (omega arith) ∙ long in
    with_part_is at (with_part a new (part at len bytes)) bytes (omega arith)
    ∙ ap (λ n. take at bytes ++ (with_part a new (part at len bytes) ++ drop (at + n) bytes)) same
    ∙ ap (λ w. take at bytes ++ (w ++ drop (at + len) bytes)) (with_part_is a new (part at len bytes) (omega arith))
    ∙ same_lists _ _ (search (rules, places)) (λ k d l. grind (arith, places))
    ∙ sym (with_part_is (at + a) new bytes (omega arith))

-- a part behind some bytes
pub part-behind : (xs ys : List ℕ) (k n : ℕ) → part (length xs + k) n (xs ++ ys) ≡ part k n ys
unfolding part
part-behind xs ys k n = ap (take n) (drop-append-add xs ys k)

-- the bytes in front
pub part-front : (xs ys : List ℕ) → part 0 (length xs) (xs ++ ys) ≡ xs
unfolding part
part-front xs ys = same_lists _ _ (search (rules, places)) (λ k d l. grind (arith, places))
