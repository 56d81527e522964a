-- The offsets of the texts in a heap, where some that links name become loose, or loose ones are named: where each offset is there as often
-- as before, the texts are apart, and keys name some of them, as before (File Format Specification 3.0, section III.D).
use Rattle.std.proofs.Common.{◌≡◌, inl, inr, ℕ, ◌+◌, ◌≤◌, ◌%◌, ◌==◌, ◌⊎◌, Bool, true, false, List, [], ◌∷◌, ◌++◌, map, length, refl, sym, ap, ◌∙◌, arith, if◌then◌else◌}
use Rattle.std.proofs.lemmas.Bool.Decides.{nat_tests}
use Rattle.std.proofs.lemmas.List.{map-append}
use Rattle.std.specs.List.{AllByRecursion}
use Rattle.h5_bytes.specs.Blocks.{cover, holds, Inside}
use Rattle.h5_bytes.specs.declared.Block.{Block}
use Rattle.h5_bytes.proofs.BlockLaws.{cover-append, all_so}
use Rattle.h5_model.specs.Format.Heap.{HasNames, KeyNames, span_of}
use Rattle.h5_model.specs.Format.Symbols.{Entry, texts_of}
use Rattle.h5_model.proofs.RowLaws.{equal_number}
use Rattle.h5_laws.proofs.Lists.{In, all_in, in_all, in_contains, contains_in, in_either, in_left, in_right}
use Rattle.h5_btree.specs.Totals.{total}
use Rattle.h5_btree.proofs.OwnedLaws.{total-append}
use Rattle.h5_group.specs.Edited.{offsets_of}

-- each is there as often
abbrev pub AreSameOffsets : List ℕ → List ℕ → Type 0
AreSameOffsets old new = (w : ℕ → ℕ) → total w new ≡ total w old

-- ---- as often, by a count

abbrev one_at : ℕ → ℕ → ℕ
one_at x y = if y == x then 1 else 0

counted : (x : ℕ) (xs : List ℕ) → In x xs → 1 ≤ total (one_at x) xs
counted x [] at = absurd at
counted x (y ∷ xs) (inl e) = let here : (y == x) ≡ true = grind (arith, nat_tests) in rw here (omega arith)
counted x (y ∷ xs) (inr at) = let rest = counted x xs at in omega (arith, rest)

from_count : (x : ℕ) (xs : List ℕ) → 1 ≤ total (one_at x) xs → In x xs
from_count x [] some = absurd (omega (arith, some))
from_count x (y ∷ xs) some = go (y == x) refl some (from_count x xs) where
  go : (b : Bool) → (y == x) ≡ b → 1 ≤ (if b then 1 else 0) + total (one_at x) xs → (1 ≤ total (one_at x) xs → In x xs) → (y ≡ x) ⊎ In x xs
  go true e count rest = inl (equal_number y x e)
  go false e count rest = inr (rest (omega (arith, count)))

pub same_in : (old new : List ℕ) → AreSameOffsets old new → (x : ℕ) → In x old → In x new
same_in old new same x at = from_count x new (let all = counted x old at in omega (arith, all, same (one_at x)))

pub same_back : (old new : List ℕ) → AreSameOffsets old new → AreSameOffsets new old
same_back old new same w = sym (same w)

pub same_all : (P : ℕ → Type 0) (old new : List ℕ) → AreSameOffsets old new → AllByRecursion P old → AllByRecursion P new
same_all P old new same all = all_in P new (λ x at. in_all P x old all (same_in new old (same_back old new same) x at))

cover_spans : (segment : List ℕ) (p : ℕ) (xs : List ℕ)
    → cover p (map (span_of segment) xs) ≡ total (λ n. holds p (span_of segment n).at (span_of segment n).len) xs
cover_spans segment p [] = refl
cover_spans segment p (x ∷ xs) = ap (λ (n : ℕ). holds p (span_of segment x).at (span_of segment x).len + n) (cover_spans segment p xs)

pub same_cover : (segment old new : List ℕ) → AreSameOffsets old new → (p : ℕ) → cover p (map (span_of segment) new) ≡ cover p (map (span_of segment) old)
same_cover segment old new same p =
    cover_spans segment p new ∙ same (λ n. holds p (span_of segment n).at (span_of segment n).len) ∙ sym (cover_spans segment p old)

pub all_spans : (segment : List ℕ) (end : ℕ) (xs : List ℕ) → Inside end (map (span_of segment) xs)
    → AllByRecursion (λ n. (span_of segment n).at + (span_of segment n).len ≤ end) xs
all_spans segment end [] all = tt
all_spans segment end (x ∷ xs) all = (all.0, all_spans segment end xs all.1)

spans_all : (segment : List ℕ) (end : ℕ) (xs : List ℕ) → AllByRecursion (λ n. (span_of segment n).at + (span_of segment n).len ≤ end) xs
    → Inside end (map (span_of segment) xs)
spans_all segment end [] all = tt
spans_all segment end (x ∷ xs) all = (all.0, spans_all segment end xs all.1)

-- ---- the heap's names

key_in : (linked loose : List ℕ) (key : ℕ) → KeyNames linked loose key → (key ≡ 0) ⊎ In key (linked ++ loose)
key_in linked loose key (inl none) = inl none
key_in linked loose key (inr (inl named)) = inr (in_left key linked loose (in_contains key linked named))
key_in linked loose key (inr (inr other)) = inr (in_right key linked loose (in_contains key loose other))

in_key : (linked loose : List ℕ) (key : ℕ) → (key ≡ 0) ⊎ In key (linked ++ loose) → KeyNames linked loose key
in_key linked loose key (inl none) = inl none
in_key linked loose key (inr at) = elim (in_either key linked loose at) [
  | inl named ↦ inr (inl (contains_in key linked named))
  | inr other ↦ inr (inr (contains_in key loose other))
]

-- THE HEAP HAS ITS NAMES STILL where links and loose texts together have the offsets that they had, whichever of them have changed sides,
-- and each key then names one of them, or the empty name.
module _ (segment : List ℕ) (free : List Block) (names texts loose names' texts' loose' : List ℕ)
    (same : AreSameOffsets (names ++ texts ++ loose) (names' ++ texts' ++ loose')) where
  pub moved_key : (key : ℕ) → KeyNames (names ++ texts) loose key → KeyNames (names' ++ texts') loose' key
  moved_key key named = in_key (names' ++ texts') loose' key (go (key_in (names ++ texts) loose key named)) where
    go : (key ≡ 0) ⊎ In key (names ++ texts ++ loose) → (key ≡ 0) ⊎ In key (names' ++ texts' ++ loose')
    go (inl none) = inl none
    go (inr at) = inr (same_in (names ++ texts ++ loose) (names' ++ texts' ++ loose') same key at)

  -- with other keys
  pub moved_keys : (keys keys' : List ℕ) → AllByRecursion (KeyNames (names ++ texts) loose) keys' → HasNames segment free names texts keys loose
      → HasNames segment free names' texts' keys' loose'
  moved_keys keys keys' named has = record {
    empty = has.empty;
    aligned = same_all (λ offset. offset % 8 ≡ 0) (names ++ texts ++ loose) (names' ++ texts' ++ loose') same has.aligned;
    apart = λ p.
        let old = cover-append p (map (span_of segment) (names ++ texts ++ loose)) free in
        let new = cover-append p (map (span_of segment) (names' ++ texts' ++ loose')) free in
        omega (arith, has.apart p, old, new, same_cover segment (names ++ texts ++ loose) (names' ++ texts' ++ loose') same p);
    within = spans_all segment (length segment) (names' ++ texts' ++ loose')
        (same_all (λ n. (span_of segment n).at + (span_of segment n).len ≤ length segment) (names ++ texts ++ loose) (names' ++ texts' ++ loose') same
        (all_spans segment (length segment) (names ++ texts ++ loose) has.within));
    keyed = all_so (KeyNames (names ++ texts) loose) (KeyNames (names' ++ texts') loose') keys' moved_key named;
  }

  pub moved_names : (keys : List ℕ) → HasNames segment free names texts keys loose → HasNames segment free names' texts' keys loose'
  moved_names keys has = moved_keys keys keys has.keyed has

-- ---- an entry more, and one less

-- the offsets of names that entries name
abbrev pub names_of : List Entry → List ℕ
names_of entries = map (λ (e : Entry). e.name) entries

pub texts_of-append : (xs ys : List Entry) → texts_of (xs ++ ys) ≡ texts_of xs ++ texts_of ys
texts_of-append [] ys = refl
texts_of-append (x ∷ xs) ys = go (x.cache == 2) (texts_of-append xs ys) where
  go : (b : Bool) → texts_of (xs ++ ys) ≡ texts_of xs ++ texts_of ys
      → (if b then x.text ∷ texts_of (xs ++ ys) else texts_of (xs ++ ys)) ≡ (if b then x.text ∷ texts_of xs else texts_of xs) ++ texts_of ys
  go true rest = ap (λ (ts : List ℕ). x.text ∷ ts) rest
  go false rest = rest

module _ (w : ℕ → ℕ) where
  total_texts : (xs ys : List Entry) → total w (texts_of (xs ++ ys)) ≡ total w (texts_of xs) + total w (texts_of ys)
  total_texts xs ys = ap (total w) (texts_of-append xs ys) ∙ total-append w (texts_of xs) (texts_of ys)

  total_names : (xs ys : List Entry) → total w (names_of (xs ++ ys)) ≡ total w (names_of xs) + total w (names_of ys)
  total_names xs ys = ap (total w) (map-append (λ (e : Entry). e.name) xs ys) ∙ total-append w (names_of xs) (names_of ys)

  one_more : (e : Entry) (ys : List Entry) → total w (names_of (e ∷ ys)) + total w (texts_of (e ∷ ys)) ≡ total w (offsets_of e) + (total w (names_of ys) + total w (texts_of ys))
  one_more e ys = go (e.cache == 2) where
    go : (b : Bool) → (w e.name + total w (names_of ys)) + total w (if b then e.text ∷ texts_of ys else texts_of ys)
        ≡ (w e.name + total w (if b then e.text ∷ [] else [])) + (total w (names_of ys) + total w (texts_of ys))
    go true = omega arith
    go false = omega arith

  three : (names texts loose : List ℕ) → total w (names ++ texts ++ loose) ≡ total w names + total w texts + total w loose
  three names texts loose = omega (arith, total-append w (names ++ texts) loose, total-append w names texts)

-- the offsets of an entry are named, and were loose
pub entry_offsets : (e : Entry) (xs ys : List Entry) (loose : List ℕ)
    → AreSameOffsets (names_of (xs ++ ys) ++ texts_of (xs ++ ys) ++ (offsets_of e ++ loose)) (names_of (xs ++ e ∷ ys) ++ texts_of (xs ++ e ∷ ys) ++ loose)
entry_offsets e xs ys loose w =
    let old = three w (names_of (xs ++ ys)) (texts_of (xs ++ ys)) (offsets_of e ++ loose) in
    let new = three w (names_of (xs ++ e ∷ ys)) (texts_of (xs ++ e ∷ ys)) loose in
    omega (arith, old, new, total-append w (offsets_of e) loose, total_names w xs ys, total_texts w xs ys, total_names w xs (e ∷ ys), total_texts w xs (e ∷ ys), one_more w e ys)

-- THE HEAP'S NAMES where an entry comes in whose texts were loose, and where one goes whose texts are loose then: wherever it stands
module _ (segment : List ℕ) (free : List Block) (e : Entry) (xs ys : List Entry) (keys loose : List ℕ) where
  pub entry_named : HasNames segment free (names_of (xs ++ ys)) (texts_of (xs ++ ys)) keys (offsets_of e ++ loose)
      → HasNames segment free (names_of (xs ++ e ∷ ys)) (texts_of (xs ++ e ∷ ys)) keys loose
  entry_named = moved_names segment free (names_of (xs ++ ys)) (texts_of (xs ++ ys)) (offsets_of e ++ loose) (names_of (xs ++ e ∷ ys)) (texts_of (xs ++ e ∷ ys)) loose
      (entry_offsets e xs ys loose) keys

  pub entry_loosened : HasNames segment free (names_of (xs ++ e ∷ ys)) (texts_of (xs ++ e ∷ ys)) keys loose
      → HasNames segment free (names_of (xs ++ ys)) (texts_of (xs ++ ys)) keys (offsets_of e ++ loose)
  entry_loosened = moved_names segment free (names_of (xs ++ e ∷ ys)) (texts_of (xs ++ e ∷ ys)) loose (names_of (xs ++ ys)) (texts_of (xs ++ ys)) (offsets_of e ++ loose)
      (same_back (names_of (xs ++ ys) ++ texts_of (xs ++ ys) ++ (offsets_of e ++ loose)) (names_of (xs ++ e ∷ ys) ++ texts_of (xs ++ e ∷ ys) ++ loose) (entry_offsets e xs ys loose)) keys
