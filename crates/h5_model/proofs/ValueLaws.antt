-- A value depends on its own bytes alone, wherever they stand.
use Rattle.std.proofs.Common.{◌≡◌, ℕ, zero, suc, ◌+◌, ◌-◌, ◌*◌, ◌<◌, ◌≤◌, List, ◌++◌, length, take, drop, refl, sym, ap, ◌∙◌, arith, slice_index}
use Rattle.std.proofs.lemmas.List.{get_or-take, get_or-drop, get_or-append-add}
use Rattle.std.specs.List.{slice_range}
use Rattle.byteorder.specs.Endian.{little_from, big_from}
use Rattle.h5_model.specs.Format.Fixed.{Fixed, raw_at, value_at, value_of}

-- the size bytes from place b of one list are those from place a of another
abbrev pub Moved : List ℕ → List ℕ → ℕ → ℕ → ℕ → Type 0
Moved xs ys a b size = (k : ℕ) → k < size → slice_index ys (b + k) ≡ slice_index xs (a + k)

next : (n : ℕ) (xs ys : List ℕ) (a b : ℕ) → Moved xs ys a b (suc n) → Moved xs ys (suc a) (suc b) n
next n xs ys a b same k low =
    let up : b + suc k ≡ suc b + k = omega arith in
    let over : a + suc k ≡ suc a + k = omega arith in
    rw (up, over) at (same (suc k) (omega arith))

first : (n : ℕ) (xs ys : List ℕ) (a b : ℕ) → Moved xs ys a b (suc n) → slice_index ys b ≡ slice_index xs a
first n xs ys a b same =
    let left : b + 0 ≡ b = omega arith in
    let right : a + 0 ≡ a = omega arith in
    rw (left, right) at (same 0 (omega arith))

pub little_moved : (n : ℕ) (xs ys : List ℕ) (a b : ℕ) → Moved xs ys a b n → little_from b n ys ≡ little_from a n xs
little_moved zero xs ys a b same = refl
little_moved (suc n) xs ys a b same = rw (first n xs ys a b same, little_moved n xs ys (suc a) (suc b) (next n xs ys a b same)) refl

big_moved : (n : ℕ) (xs ys : List ℕ) (a b : ℕ) → Moved xs ys a b n → big_from b n ys ≡ big_from a n xs
big_moved zero xs ys a b same = refl
big_moved (suc n) xs ys a b same = rw (first n xs ys a b same, big_moved n xs ys (suc a) (suc b) (next n xs ys a b same)) refl

pub value_at-moved : (t : Fixed) (xs ys : List ℕ) (a b : ℕ) → Moved xs ys a b t.size → value_at t ys b ≡ value_at t xs a
unfolding value_at raw_at
value_at-moved t xs ys a b same = rw (little_moved t.size xs ys a b same, big_moved t.size xs ys a b same) refl

-- where its bytes are kept, so is the value
pub value_at-same : (t : Fixed) (old new : List ℕ) (at : ℕ) → ((p : ℕ) → at ≤ p → p < at + t.size → slice_index new p ≡ slice_index old p)
    → value_at t new at ≡ value_at t old at
value_at-same t old new at same = value_at-moved t old new at at (λ k low. same (at + k) (omega arith) (omega arith))

-- bytes behind others
pub moved-behind : (front rest : List ℕ) (at size : ℕ) → Moved rest (front ++ rest) at (length front + at) size
moved-behind front rest at size = λ k low.
    let over : length front + at + k ≡ length front + (at + k) = omega arith in
    rw over (get_or-append-add front rest (at + k) 0)

-- the value of a part of the bytes is the value at the part's place
pub decoded_at : (t : Fixed) (bytes : List ℕ) (at : ℕ) → value_of t (slice_range bytes at (at + t.size)) ≡ value_at t bytes at
decoded_at t bytes at = value_at-moved t bytes (slice_range bytes at (at + t.size)) at 0 (λ k low.
    let zero_left : 0 + k ≡ k = omega arith in
    rw zero_left (get_or-take (at + t.size - at) (drop at bytes) k 0 (omega arith) ∙ get_or-drop at bytes k 0))

-- the value of the k-th part
pub decoded_cell : (t : Fixed) (bytes : List ℕ) (k size : ℕ) → size ≡ t.size → value_of t (slice_range bytes (k * size) (k * size + size)) ≡ value_at t bytes (k * t.size)
decoded_cell t bytes k size is = ap (λ n. value_of t (slice_range bytes (k * n) (k * n + n))) is ∙ decoded_at t bytes (k * t.size)

-- the value at a place is the first value of what begins there
pub value_at-drop : (t : Fixed) (bytes : List ℕ) (at : ℕ) → value_at t bytes at ≡ value_of t (drop at bytes)
value_at-drop t bytes at = value_at-moved t (drop at bytes) bytes 0 at (λ k low.
    let zero_left : 0 + k ≡ k = omega arith in
    rw zero_left (sym (get_or-drop at bytes k 0)))

-- the value of a part stands at the part's place
pub value_of_part : (t : Fixed) (bytes part : List ℕ) (at : ℕ) → part ≡ take t.size (drop at bytes) → value_of t part ≡ value_at t bytes at
value_of_part t bytes part at is = value_at-moved t bytes part at 0 (λ k low.
    let zero_left : 0 + k ≡ k = omega arith in
    rw (zero_left, is) (get_or-take t.size (drop at bytes) k 0 low ∙ get_or-drop at bytes k 0))
