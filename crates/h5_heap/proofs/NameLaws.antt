-- The names of a group are sound where all its texts were taken and all its keys name one, and where one is refused they are not.
use Rattle.std.proofs.Common.{◌≡◌, ℕ, ◌%◌, inl, inr, List, [], ◌∷◌, ◌++◌, length, map, refl, sym, ◌∙◌, arith}
use Rattle.std.specs.Prelude.{◌==◌, true, false, Bool, if◌then◌else◌}
use Rattle.std.specs.List.{AllByRecursion, Contains}
use Rattle.std.specs.List.Sorted.{IsPermutation}
use Rattle.std.proofs.lemmas.List.Elements.{All-from_recursion, All-contains, Contains-append_right}
use Rattle.std.proofs.lemmas.List.Sorted.{IsPermutation-refl, IsPermutation-sym, IsPermutation-cons, IsPermutation-trans, IsPermutation-map, IsPermutation-middle, IsPermutation-append_left, Contains-permutation, sum_by-IsPermutation}
use Rattle.h5_bytes.specs.Blocks.{cover, Inside}
use Rattle.h5_bytes.proofs.CoverLaws.{held_by, cover-sum}
use Rattle.h5_model.specs.Format.Heap.{span_of, KeyNames, HasNames}
use Rattle.h5_model.specs.Format.Symbols.{Entry, texts_of}
use Rattle.h5_heap.specs.Kept.{HeapState}
use Rattle.h5_heap.specs.Spans.{IsSpan, HasTaken}
use Rattle.h5_heap.proofs.TakenLaws.{cover-all}

-- ---- lists

pub each_of : {X : Type 0} (P : X → Type 0) (xs : List X) (x : X) → AllByRecursion P xs → Contains xs x → P x
each_of P xs x all there = All-contains P xs x (All-from_recursion P xs all) there

all_of : {X : Type 0} (P : X → Type 0) (xs : List X) → ((x : X) → Contains xs x → P x) → AllByRecursion P xs
all_of P [] each = tt
all_of P (x ∷ xs) each = (each x (0, omega arith, refl), all_of P xs (λ y there. each y (Contains-append_right (x ∷ []) xs y there)))

pub cover-permutation : (p : ℕ) (segment xs ys : List ℕ) → IsPermutation xs ys → cover p (map (span_of segment) ys) ≡ cover p (map (span_of segment) xs)
cover-permutation p segment xs ys same =
    cover-sum p (map (span_of segment) ys)
    ∙ sum_by-IsPermutation (held_by p) (map (span_of segment) xs) (map (span_of segment) ys) (IsPermutation-map (span_of segment) xs ys same)
    ∙ sym (cover-sum p (map (span_of segment) xs))

-- ---- the names are sound

-- how a link's texts stand in the order of a walk
abbrev pub link_offsets : List Entry → List ℕ
link_offsets [] = []
link_offsets (e ∷ es) = if e.cache == 2 then e.name ∷ e.text ∷ link_offsets es else e.name ∷ link_offsets es

-- a walk takes all names and all texts
pub walk_takes_all : (es : List Entry) → IsPermutation (link_offsets es) (map (λ (e : Entry). e.name) es ++ texts_of es)
walk_takes_all [] = IsPermutation-refl []
walk_takes_all (e ∷ es) = by (e.cache == 2) (walk_takes_all es) where
  by : (soft : Bool) → IsPermutation (link_offsets es) (map (λ (x : Entry). x.name) es ++ texts_of es)
      → IsPermutation (if soft then e.name ∷ e.text ∷ link_offsets es else e.name ∷ link_offsets es)
      (e.name ∷ map (λ (x : Entry). x.name) es ++ (if soft then e.text ∷ texts_of es else texts_of es))
  by true rest =
      let names = map (λ (x : Entry). x.name) es in
      IsPermutation-cons e.name (e.text ∷ link_offsets es) (names ++ e.text ∷ texts_of es)
      (IsPermutation-trans (e.text ∷ link_offsets es) (e.text ∷ (names ++ texts_of es)) (names ++ e.text ∷ texts_of es)
      (IsPermutation-cons e.text (link_offsets es) (names ++ texts_of es) rest)
      (IsPermutation-sym (names ++ e.text ∷ texts_of es) (e.text ∷ (names ++ texts_of es)) (IsPermutation-middle names e.text (texts_of es))))
  by false rest = IsPermutation-cons e.name (link_offsets es) (map (λ (x : Entry). x.name) es ++ texts_of es) rest

-- all texts were taken, and each key names one
pub has_names : (segment : List ℕ) (heap : HeapState) (linked loose names texts keys : List ℕ) → HasTaken segment heap linked loose
    → IsPermutation linked (names ++ texts) → AllByRecursion (KeyNames linked loose) keys → HasNames segment heap.free names texts keys loose
has_names segment heap linked loose names texts keys taken same named = record {
  empty = taken.empty;
  aligned = all_of (λ offset. offset % 8 ≡ 0) (names ++ texts ++ loose) (λ offset there. (span offset there).aligned);
  apart = λ p. omega (
    arith,
    taken.separate p,
    taken.covered p,
    cover-all segment p (linked ++ loose) heap.free,
    cover-all segment p (names ++ texts ++ loose) heap.free,
    cover-permutation p segment (linked ++ loose) (names ++ texts ++ loose) (IsPermutation-append_left loose linked (names ++ texts) same),
  );
  within = within (names ++ texts ++ loose) (all_of (IsSpan segment) (names ++ texts ++ loose) span);
  keyed = all_of (KeyNames (names ++ texts) loose) keys (λ key there. elim (each_of (KeyNames linked loose) keys key named there) [
    | inl empty ↦ inl empty
    | inr other ↦ elim other [
      | inl link ↦ inr (inl (Contains-permutation linked (names ++ texts) key same link))
      | inr alone ↦ inr (inr alone)
    ]
  ]);
} where
  span : (offset : ℕ) → Contains (names ++ texts ++ loose) offset → IsSpan segment offset
  span offset there = each_of (IsSpan segment) (linked ++ loose) offset taken.spans
      (Contains-permutation (names ++ texts ++ loose) (linked ++ loose) offset
      (IsPermutation-append_left loose (names ++ texts) linked (IsPermutation-sym linked (names ++ texts) same)) there)

  within : (offsets : List ℕ) → AllByRecursion (IsSpan segment) offsets → Inside (length segment) (map (span_of segment) offsets)
  within [] all = tt
  within (x ∷ xs) all = (all.0.within, within xs all.1)
