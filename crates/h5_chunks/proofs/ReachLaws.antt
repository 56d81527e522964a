-- Chunks that reach past an extent, and keys between which none does (File Format Specification 3.0, section III.A.1).
use Rattle.std.proofs.Common.{◌≡◌, ℕ, zero, suc, ◌+◌, ◌-◌, ◌*◌, ◌<◌, ◌≤◌, List, [], ◌∷◌, ◌++◌, Bool, length, get_or, length-append, true, false, cond, refl, sym, ap₂, ◌∙◌, subst, arith}
use Rattle.std.specs.Prelude.{◌&&◌, ◌||◌, ◌==◌, IsTrue, nat_lt}
use Rattle.std.specs.Ordering.{nat_cmp, is_le, ordering_then}
use Rattle.std.specs.declared.cmp.Ordering.{Ordering}
use Rattle.std.specs.declared.cmp.Ordering.TheVariants.{Less, Equal, Greater}
use Rattle.std.specs.Cmp.Lexicographic.{slice_cmp}
use Rattle.std.proofs.lemmas.Bool.{or_left, or_right, or_parts}
use Rattle.std.proofs.lemmas.Bool.Decides.{nat_tests}
use Rattle.std.proofs.lemmas.List.{get_or_append_left}
use Rattle.std.proofs.lemmas.List.FromFn.{get_or-map-range_with_len, length-map-range_with_len}
use Rattle.h5_bytes.specs.Bytes.{number_at}
use Rattle.h5_model.specs.Format.Chunks.{all_offsets_in, offsets_in}
use Rattle.h5_model.specs.Format.Links.{NotAfter}
use Rattle.h5_model.specs.Tree.Places.{is_inside}
use Rattle.h5_model.proofs.TextOrder.{before_le}
use Rattle.h5_chunks.specs.Between.{IsChunkHeld}
use Rattle.h5_chunks.specs.Lists.{reaches_beyond}

-- ---- dimension by dimension

-- a chunk that reaches past the extent in one
pub reaches_at : (sizes chunk offsets : List ℕ) (d : ℕ) → length sizes ≡ length chunk → length offsets ≡ length chunk → d < length chunk
    → get_or sizes d 0 - get_or offsets d 0 < get_or chunk d 0 → reaches_beyond sizes chunk offsets ≡ true
reaches_at sizes [] offsets d same long low less = absurd (omega (arith, low))
reaches_at [] (c ∷ cs) offsets d same long low less = absurd (omega (arith, same))
reaches_at (n ∷ ns) (c ∷ cs) [] d same long low less = absurd (omega (arith, long))
reaches_at (n ∷ ns) (c ∷ cs) (o ∷ os) zero same long low less =
    let past : n < o + c = omega (arith, less) in
    let first : nat_lt n (o + c) ≡ true = grind (arith, nat_tests, past) in
    or_left (nat_lt n (o + c)) (reaches_beyond ns cs os) first
reaches_at (n ∷ ns) (c ∷ cs) (o ∷ os) (suc d) same long low less =
    or_right (nat_lt n (o + c)) (reaches_beyond ns cs os) (reaches_at ns cs os d (omega (arith, same)) (omega (arith, long)) (omega (arith, low)) less)

-- and in none
pub reaches_nowhere : (sizes chunk offsets : List ℕ) → length sizes ≡ length chunk → length offsets ≡ length chunk
    → ((d : ℕ) → d < length chunk → 1 ≤ get_or chunk d 0) → ((d : ℕ) → d < length chunk → get_or chunk d 0 ≤ get_or sizes d 0 - get_or offsets d 0)
    → reaches_beyond sizes chunk offsets ≡ false
reaches_nowhere [] chunk offsets same long some within = refl
reaches_nowhere (n ∷ ns) [] offsets same long some within = refl
reaches_nowhere (n ∷ ns) (c ∷ cs) [] same long some within = refl
reaches_nowhere (n ∷ ns) (c ∷ cs) (o ∷ os) same long some within =
    let one : 1 ≤ c = some 0 (omega arith) in
    let here : c ≤ n - o = within 0 (omega arith) in
    let past : o + c ≤ n = omega (arith, here, one) in
    let first : nat_lt n (o + c) ≡ false = grind (arith, nat_tests, past) in
    ap₂ (λ p q. p || q) first
    (reaches_nowhere ns cs os (omega (arith, same)) (omega (arith, long)) (λ d low. some (suc d) (omega (arith, low))) (λ d low. within (suc d) (omega (arith, low))))

-- a chunk that reaches past the extent nowhere has its first cell inside
pub reaches_not : (sizes chunk offsets : List ℕ) → length sizes ≡ length chunk → length offsets ≡ length chunk → ((d : ℕ) → d < length chunk → 1 ≤ get_or chunk d 0)
    → reaches_beyond sizes chunk offsets ≡ false → is_inside sizes offsets ≡ true
reaches_not [] [] [] same long some none = refl
reaches_not [] [] (o ∷ os) same long some none = absurd (omega (arith, long))
reaches_not [] (c ∷ cs) offsets same long some none = absurd (omega (arith, same))
reaches_not (n ∷ ns) [] offsets same long some none = absurd (omega (arith, same))
reaches_not (n ∷ ns) (c ∷ cs) [] same long some none = absurd (omega (arith, long))
reaches_not (n ∷ ns) (c ∷ cs) (o ∷ os) same long some none =
    let parts = or_parts (nat_lt n (o + c)) (reaches_beyond ns cs os) none in
    let one : 1 ≤ c = some 0 (omega arith) in
    let here : nat_lt n (o + c) ≡ false = parts.0 in
    let whole : o + c ≤ n = grind (arith, nat_tests, here) in
    let first : nat_lt o n ≡ true = grind (arith, nat_tests, whole, one) in
    ap₂ (λ p q. p && q) first (reaches_not ns cs os (omega (arith, same)) (omega (arith, long)) (λ d low. some (suc d) (omega (arith, low))) parts.1)

-- ---- between two keys

-- how two numbers are, by their order
data Compared (x y : ℕ) : Ordering → Type 0 where
  below : x < y → Compared x y Less
  equal : x ≡ y → Compared x y Equal
  above : y < x → Compared x y Greater

compared : (x y : ℕ) → Compared x y (nat_cmp x y)
compared x y = by_less (nat_lt x y) refl where
  by_equal : (b : Bool) → (x == y) ≡ b → nat_lt x y ≡ false → Compared x y (cond b Equal Greater)
  by_equal true is not_less = equal (grind (arith, nat_tests, is))
  by_equal false is not_less = above (grind (arith, nat_tests, is, not_less))

  by_less : (b : Bool) → nat_lt x y ≡ b → Compared x y (cond b Less (cond (x == y) Equal Greater))
  by_less true is = below (grind (arith, nat_tests, is))
  by_less false is = by_equal (x == y) refl is

-- the first numbers of lists, one of which is not after the other, and what follows where they are alike
first_up : (x y : ℕ) (xs ys : List ℕ) → NotAfter (x ∷ xs) (y ∷ ys) → x ≤ y
first_up x y xs ys up = by_order (nat_cmp x y) (compared x y) up where
  by_order : (r : Ordering) → Compared x y r → IsTrue (is_le (ordering_then r (slice_cmp nat_cmp xs ys))) → x ≤ y
  by_order Less (below less) is = omega (arith, less)
  by_order Equal (equal same) is = omega (arith, same)
  by_order Greater (above more) is = absurd (cc)

rest_up : (x : ℕ) (xs ys : List ℕ) → NotAfter (x ∷ xs) (x ∷ ys) → NotAfter xs ys
rest_up x xs ys up = by_order (nat_cmp x x) (compared x x) up where
  by_order : (r : Ordering) → Compared x x r → IsTrue (is_le (ordering_then r (slice_cmp nat_cmp xs ys))) → NotAfter xs ys
  by_order Less (below less) is = absurd (omega (arith, less))
  by_order Equal (equal same) is = is
  by_order Greater (above more) is = absurd (omega (arith, more))

-- numbers between others that are alike before a place are not above them there
pub between_at : (ls xs hs : List ℕ) (d : ℕ) → NotAfter ls xs → NotAfter xs hs → d < length ls → d < length xs → d < length hs
    → ((j : ℕ) → j < d → get_or ls j 0 ≡ get_or hs j 0) → get_or xs d 0 ≤ get_or hs d 0
between_at [] xs hs d up on low long high alike = absurd (omega (arith, low))
between_at (l ∷ ls) [] hs d up on low long high alike = absurd (omega (arith, long))
between_at (l ∷ ls) (x ∷ xs) [] d up on low long high alike = absurd (omega (arith, high))
between_at (l ∷ ls) (x ∷ xs) (h ∷ hs) zero up on low long high alike = first_up x h xs hs on
between_at (l ∷ ls) (x ∷ xs) (h ∷ hs) (suc d) up on low long high alike =
    let same : l ≡ h = alike 0 (omega arith) in
    let under : l ≤ x = first_up l x ls xs up in
    let over : x ≤ h = first_up x h xs hs on in
    let one : l ≡ x = omega (arith, same, under, over) in
    let two : h ≡ x = omega (arith, same, under, over) in
    between_at ls xs hs d
    (rest_up x ls xs (subst (λ (n : ℕ). NotAfter (n ∷ ls) (x ∷ xs)) one up))
    (rest_up x xs hs (subst (λ (n : ℕ). NotAfter (x ∷ xs) (n ∷ hs)) two on))
    (omega (arith, low)) (omega (arith, long)) (omega (arith, high)) (λ j few. alike (suc j) (omega (arith, few)))

-- a key's offset for a dimension
abbrev pub offset_of : List ℕ → ℕ → ℕ
offset_of key d = number_at key (8 + 8 * d) 8

all_offset : (rank : ℕ) (key : List ℕ) (d : ℕ) → d < rank + 1 → get_or (all_offsets_in rank key) d 0 ≡ offset_of key d
all_offset rank key d low = get_or-map-range_with_len (offset_of key) 0 (rank + 1) d d 0 low (omega arith)

all_long : (rank : ℕ) (key : List ℕ) → length (all_offsets_in rank key) ≡ rank + 1
all_long rank key = length-map-range_with_len (offset_of key) 0 (rank + 1)

pub offset_at_key : (rank : ℕ) (key : List ℕ) (d : ℕ) → d < rank → get_or (offsets_in rank key) d 0 ≡ offset_of key d
offset_at_key rank key d low = get_or-map-range_with_len (offset_of key) 0 rank d d 0 low (omega arith)

pub offsets_long : (rank : ℕ) (key : List ℕ) → length (offsets_in rank key) ≡ rank
offsets_long rank key = length-map-range_with_len (offset_of key) 0 rank

module _ (sizes chunk low high : List ℕ) where
  -- In the dimensions before this one the keys have the same offsets, and a chunk at those of the latter ends inside.
  abbrev pub AreAlike : ℕ → Type 0
  AreAlike d = (j : ℕ) → j < d → offset_of low j ≡ offset_of high j

  abbrev pub EndInside : ℕ → Type 0
  EndInside d = (j : ℕ) → j < d → get_or chunk j 0 ≤ get_or sizes j 0 - offset_of high j

  module _ (same : length sizes ≡ length chunk) (some : (d : ℕ) → d < length chunk → 1 ≤ get_or chunk d 0)
      (offsets : List ℕ) (long : length offsets ≡ length chunk) (held : IsChunkHeld (length chunk) low high offsets) where
    abbrev rank : ℕ
    rank = length chunk

    not_above : (d : ℕ) → d < rank → AreAlike d → get_or offsets d 0 ≤ offset_of high d
    not_above d few alike =
        let under : get_or (offsets ++ 0 ∷ []) d 0 ≡ get_or offsets d 0 = get_or_append_left offsets (0 ∷ []) 0 d (omega (arith, few, long)) in
        let count : length (offsets ++ 0 ∷ []) ≡ length offsets + 1 = length-append offsets (0 ∷ []) in
        let at : get_or (offsets ++ 0 ∷ []) d 0 ≤ get_or (all_offsets_in rank high) d 0
        = between_at (all_offsets_in rank low) (offsets ++ 0 ∷ []) (all_offsets_in rank high) d held.0 (before_le (offsets ++ 0 ∷ []) (all_offsets_in rank high) held.1)
        (omega (arith, few, all_long rank low)) (omega (arith, few, long, count)) (omega (arith, few, all_long rank high))
        (λ j less. all_offset rank low j (omega (arith, few, less)) ∙ alike j less ∙ sym (all_offset rank high j (omega (arith, few, less)))) in
        omega (arith, at, under, all_offset rank high d (omega (arith, few)))

    -- So a chunk between them reaches past the extent nowhere, if that is so up to the last dimension.
    pub between_inside : (n : ℕ) → length chunk ≤ n + 1 → AreAlike n → EndInside (length chunk) → reaches_beyond sizes chunk offsets ≡ false
    between_inside n last alike inside = reaches_nowhere sizes chunk offsets same long some (λ d few.
        let here : get_or offsets d 0 ≤ offset_of high d = not_above d few (λ j less. alike j (omega (arith, less, few, last))) in
        let ends : get_or chunk d 0 ≤ get_or sizes d 0 - offset_of high d = inside d few in
        omega (arith, here, ends))
