-- Where a text is refused, no list of loose texts makes the names of the group sound.
use Rattle.std.proofs.Common.{◌≡◌, ◌≢◌, ℕ, ◌+◌, ◌%◌, ◌≤◌, inl, inr, List, [], ◌∷◌, ◌++◌, length, map, refl, sym, ◌∙◌, ap, subst, arith}
use Rattle.std.specs.Prelude.{◌==◌, true}
use Rattle.std.specs.List.{Contains}
use Rattle.std.specs.List.Sorted.{IsPermutation}
use Rattle.std.proofs.lemmas.Bool.{cases_lt}
use Rattle.std.proofs.lemmas.Bool.Decides.{nat_tests}
use Rattle.std.proofs.lemmas.List.Elements.{Contains-append_left, Contains-append_right}
use Rattle.std.proofs.lemmas.List.Sorted.{IsPermutation-sym, Contains-permutation}
use Rattle.h5_bytes.specs.Bytes.{byte_at}
use Rattle.h5_bytes.specs.Blocks.{holds, cover, Inside}
use Rattle.h5_bytes.specs.Texts.{text_at, pad8}
use Rattle.h5_model.specs.Format.Heap.{span_of, KeyNames, HasNames}
use Rattle.h5_model.specs.declared.open_fault.Cause.TheVariants.{HeapName}
use Rattle.h5_space.specs.Claimed.{Shares}
use Rattle.h5_heap.specs.Kept.{HeapState}
use Rattle.h5_heap.specs.Spans.{IsSpan, IsNotEmpty, IsUntaken, IsUnnamed, HasTaken}
use Rattle.h5_heap.proofs.TakenLaws.{cover-all, contains_head, contains_tail, contains_cases}
use Rattle.h5_heap.proofs.NameLaws.{each_of, cover-permutation}

-- how many of the spans of these texts hold a byte
abbrev spans_at : List ℕ → ℕ → List ℕ → ℕ
spans_at segment p offsets = cover p (map (span_of segment) offsets)

spans-append : (segment : List ℕ) (p : ℕ) (xs ys : List ℕ) → spans_at segment p (xs ++ ys) ≡ spans_at segment p xs + spans_at segment p ys
spans-append segment p [] ys = omega arith
spans-append segment p (x ∷ xs) ys = omega (arith, spans-append segment p xs ys)

-- the spans of one and of two texts among others
one_span : (segment : List ℕ) (p : ℕ) (xs : List ℕ) (x : ℕ) → Contains xs x → holds p x (span_of segment x).len ≤ spans_at segment p xs
one_span segment p [] x (k, low, is) = absurd (omega (arith, low))
one_span segment p (y ∷ ys) x there = elim (contains_cases y ys x there) [
  | inl same ↦ let here : holds p x (span_of segment x).len ≡ holds p y (span_of segment y).len = ap (λ (z : ℕ). holds p z (span_of segment z).len) same in omega (arith, here)
  | inr later ↦ omega (arith, one_span segment p ys x later)
]

two_spans : (segment : List ℕ) (p : ℕ) (xs : List ℕ) (x y : ℕ) → Contains xs x → Contains xs y → x ≢ y
    → holds p x (span_of segment x).len + holds p y (span_of segment y).len ≤ spans_at segment p xs
two_spans segment p [] x y (k, low, is) at_y differ = absurd (omega (arith, low))
two_spans segment p (z ∷ zs) x y at_x at_y differ =
    let span : ℕ → ℕ = λ a. holds p a (span_of segment a).len in
    elim (contains_cases z zs x at_x) [
      | inl first ↦ elim (contains_cases z zs y at_y) [
        | inl second ↦ absurd (differ (first ∙ sym second))
        | inr later ↦ omega (arith, ap span first, one_span segment p zs y later)
      ]
      | inr later ↦ elim (contains_cases z zs y at_y) [
        | inl second ↦ omega (arith, ap span second, one_span segment p zs x later)
        | inr both ↦ omega (arith, two_spans segment p zs x y later both differ)
      ]
    ]

-- a text whose span holds the byte
some_span : (segment : List ℕ) (p : ℕ) (xs : List ℕ) → 1 ≤ spans_at segment p xs → (x : ℕ) × Contains xs x × (1 ≤ holds p x (span_of segment x).len)
some_span segment p [] some = absurd (omega (arith, some))
some_span segment p (y ∷ ys) some = elim (cases_lt 0 (holds p y (span_of segment y).len)) [
  | inl here ↦ (y, contains_head y ys, here)
  | inr none ↦ let next = some_span segment p ys (omega arith) in (next.0, contains_tail y ys next.0 next.1, next.2)
]

inside_of : (segment : List ℕ) (xs : List ℕ) (x : ℕ) → Inside (length segment) (map (span_of segment) xs) → Contains xs x
    → x + (span_of segment x).len ≤ length segment
inside_of segment [] x inside (k, low, is) = absurd (omega (arith, low))
inside_of segment (y ∷ ys) x inside there = elim (contains_cases y ys x there) [
  | inl same ↦ subst (λ (z : ℕ). z + (span_of segment z).len ≤ length segment) (sym same) inside.0
  | inr later ↦ inside_of segment ys x inside.1 later
]

-- the empty name's span
pub empty_text : (segment : List ℕ) → byte_at segment 0 ≡ 0 → text_at segment 0 ≡ []
unfolding text_at
empty_text [] zero = refl
empty_text (b ∷ bs) zero = let first : (b == 0) ≡ true = grind (arith, nat_tests, zero) in rw first refl

empty_span : (segment : List ℕ) → byte_at segment 0 ≡ 0 → 8 ≤ length segment → IsSpan segment 0 × ((span_of segment 0).len ≡ 8)
empty_span segment zero room =
    let len : pad8 (length (text_at segment 0) + 1) ≡ 8 = ap (λ (t : List ℕ). pad8 (length t + 1)) (empty_text segment zero) in
    (record { aligned = refl; within = omega arith }, len)

-- the names are sound with these loose texts
module _ (segment : List ℕ) (heap : HeapState) (names texts keys loose : List ℕ) (sound : HasNames segment heap.free names texts keys loose) where
  once : (p : ℕ) → holds p 0 8 + (spans_at segment p (names ++ texts) + (spans_at segment p loose + cover p heap.free)) ≤ 1
  once p = omega (arith, sound.apart p, cover-all segment p (names ++ texts ++ loose) heap.free, spans-append segment p (names ++ texts) loose)

  span : (x : ℕ) → Contains (names ++ texts ++ loose) x → IsSpan segment x
  span x there = record {
    aligned = each_of (λ offset. offset % 8 ≡ 0) (names ++ texts ++ loose) x sound.aligned there;
    within = inside_of segment (names ++ texts ++ loose) x sound.within there;
  }

  -- then the empty name is taken
  pub begin_refused : ((p : ℕ) → cover p heap.held ≡ cover p heap.free) → IsNotEmpty segment heap.held HeapName → ⊥
  begin_refused covered refused = let shares = refused sound.empty in omega (arith, once shares.0, covered shares.0, shares.1, shares.2)

  -- each text that a link names lies in the segment
  pub name_refused : (offset : ℕ) → Contains (names ++ texts) offset → (IsSpan segment offset → ⊥) → ⊥
  name_refused offset there refused = refused (span offset (Contains-append_left (names ++ texts) loose offset there))

  module _ (linked : List ℕ) where
    -- and is taken, where others that links name were taken before
    pub take_refused : (offset : ℕ) (rest : List ℕ) → HasTaken segment heap linked [] → IsPermutation (names ++ texts) (linked ++ offset ∷ rest)
        → IsUntaken segment heap.held offset HeapName → ⊥
    take_refused offset rest taken same refused =
        let there : Contains (names ++ texts) offset = Contains-permutation (linked ++ offset ∷ rest) (names ++ texts) offset
        (IsPermutation-sym (names ++ texts) (linked ++ offset ∷ rest) same) (Contains-append_right linked (offset ∷ rest) offset (contains_head offset rest)) in
        let shares = refused (span offset (Contains-append_left (names ++ texts) loose offset there)) in
        let p = shares.0 in
        omega (
          arith,
          shares.1,
          shares.2,
          once p,
          taken.covered p,
          cover-all segment p (linked ++ []) heap.free,
          spans-append segment p linked [],
          cover-permutation p segment (names ++ texts) (linked ++ offset ∷ rest) same,
          spans-append segment p linked (offset ∷ rest),
        )

    -- and each key names a text, where all texts of links were taken and the other ones are those of keys
    module _ (loose' : List ℕ) (taken : HasTaken segment heap linked loose') (same : IsPermutation (names ++ texts) linked)
        (keyed : (k : ℕ) → Contains loose' k → Contains keys k) (room : 8 ≤ length segment) (offset : ℕ)
        (refused : IsUnnamed segment heap offset HeapName) where
      linked_once : (p : ℕ) → spans_at segment p linked ≡ spans_at segment p (names ++ texts)
      linked_once p = cover-permutation p segment (names ++ texts) linked same

      -- a loose text shares no byte with what was taken
      apart : Contains loose offset → (offset ≢ 0) × (Contains heap.taken offset → ⊥) × Shares heap.held offset (span_of segment offset).len → ⊥
      apart there (some, unknown, (p, mine, taken_at)) =
          let own = one_span segment p loose offset there in
          let all = taken.covered p in
          let parts = cover-all segment p (linked ++ loose') heap.free in
          let both = spans-append segment p linked loose' in
          let other = some_span segment p loose' (omega (arith, once p, linked_once p)) in
          let k = other.0 in
          elim (each_of (KeyNames (names ++ texts) loose) keys k sound.keyed (keyed k other.1)) [
            | inl empty ↦
                let len = (empty_span segment sound.empty room).1 in
                let here : holds p k (span_of segment k).len ≡ holds p 0 8 = ap (λ (z : ℕ). holds p z (span_of segment z).len) empty ∙ ap (λ (n : ℕ). holds p 0 n) len in
                absurd (omega (arith, once p, here, other.2))
            | inr text ↦ elim text [
              | inl link ↦ absurd (omega (arith, once p, one_span segment p (names ++ texts) k link, other.2))
              | inr alone ↦
                  let known : Contains heap.taken k = (taken.noted k).1 (Contains-append_right linked loose' k other.1) in
                  let differ : offset ≢ k = λ e. unknown (subst (λ (z : ℕ). Contains heap.taken z) (sym e) known) in
                  absurd (omega (arith, once p, two_spans segment p loose offset k there alone differ, other.2))
            ]
          ]

      pub key_refused : Contains keys offset → ⊥
      key_refused key = elim (each_of (KeyNames (names ++ texts) loose) keys offset sound.keyed key) [
        | inl empty ↦ (refused (subst (IsSpan segment) (sym empty) (empty_span segment sound.empty room).0)).0 empty
        | inr text ↦ elim text [
          | inl link ↦
              let there : Contains linked offset = Contains-permutation (names ++ texts) linked offset same link in
              (refused (span offset (Contains-append_left (names ++ texts) loose offset link))).1 ((taken.noted offset).1 (Contains-append_left linked loose' offset there))
          | inr alone ↦ apart alone (refused (span offset (Contains-append_right (names ++ texts) loose offset alone)))
        ]
      ]
