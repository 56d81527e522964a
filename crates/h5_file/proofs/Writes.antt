-- Cells written one behind another.
use Rattle.std.proofs.Common.{◌≡◌, ℕ, zero, suc, ◌+◌, ◌-◌, ◌*◌, ◌^◌, ◌<◌, ◌≤◌, ℤ, List, [], ◌∷◌, ◌++◌, length, take, drop, set, get_or, refl, sym, ap, ◌∙◌, subst, arith}
use Rattle.std.proofs.lemmas.Grind.{flat_map-append}
use Rattle.std.proofs.lemmas.List.{take-set, append-nil}
use Rattle.std.proofs.Math.Nat.{mul-le-mul_right}
use Rattle.std.specs.List.{flat_map, range_with_len}
use Rattle.h5_bytes.specs.Bytes.{with_part}
use Rattle.h5_model.specs.declared.hyperslab.Axis.{Axis}
use Rattle.h5_model.specs.Format.Fixed.{Fixed, bytes_of}
use Rattle.h5_model.specs.Tree.Places.{cells}
use Rattle.h5_model.specs.Views.Selection.{Slab}
use Rattle.h5_shape.specs.PartCells.{selection_shape}
use Rattle.h5_shape.specs.declared.parts.Span.{Span}
use Rattle.h5_shape.specs.InBox.{AreSpans, IsSpan}
use Rattle.h5_file.specs.Patched.{with_writes}
use Rattle.h5_shape.proofs.AxisNumbers.{few_cells}
use Rattle.h5_shape.proofs.AxesLaws.{tail_of}

pub with_writes-append : (t : Fixed) (xs ys : List (ℕ × ℤ)) (bytes : List ℕ) → with_writes t (xs ++ ys) bytes ≡ with_writes t ys (with_writes t xs bytes)
with_writes-append t [] ys bytes = refl
with_writes-append t (x ∷ xs) ys bytes = with_writes-append t xs ys (with_part (x.0 * t.size) (bytes_of t x.1) bytes)

-- ---- one position more

range_next : (a n j : ℕ) → a + n ≡ j → range_with_len a (suc n) ≡ range_with_len a n ++ j ∷ []
range_next a zero j is = ap (λ x. x ∷ []) (omega (arith, is))
range_next a (suc n) j is = ap (λ xs. a ∷ xs) (range_next (a + 1) n j (omega (arith, is)))

pub one_more : (t : Fixed) (g : ℕ → List (ℕ × ℤ)) (from at : ℕ) (old so_far new : List ℕ) → from ≤ at
    → so_far ≡ with_writes t (flat_map g (range_with_len from (at - from))) old → new ≡ with_writes t (g at) so_far
    → new ≡ with_writes t (flat_map g (range_with_len from (at + 1 - from))) old
one_more t g from at old so_far new low before after =
    let count : suc (at - from) ≡ at + 1 - from = omega (arith, low) in
    let list : range_with_len from (at + 1 - from) ≡ range_with_len from (at - from) ++ at ∷ []
    = ap (range_with_len from) (sym count) ∙ range_next from (at - from) at (omega (arith, low)) in
    let parts : flat_map g (range_with_len from (at + 1 - from)) ≡ flat_map g (range_with_len from (at - from)) ++ g at
    = ap (flat_map g) list ∙ flat_map-append g (range_with_len from (at - from)) (at ∷ []) ∙ ap (λ ys. flat_map g (range_with_len from (at - from)) ++ ys) (append-nil (g at)) in
    after ∙ ap (with_writes t (g at)) before ∙ sym (with_writes-append t (flat_map g (range_with_len from (at - from))) (g at) old) ∙ ap (λ ws. with_writes t ws old) (sym parts)

-- ---- the index so far

take_twice : (xs : List ℕ) (k : ℕ) → take k (take (suc k) xs) ≡ take k xs
take_twice [] zero = refl
take_twice [] (suc k) = refl
take_twice (x ∷ xs) zero = refl
take_twice (x ∷ xs) (suc k) = ap (λ ys. x ∷ ys) (take_twice xs k)

pub front_back : (new now old : List ℕ) (k v : ℕ) → take (k + 1) new ≡ take (k + 1) (set now k v) → take k now ≡ take k old → take k new ≡ take k old
front_back new now old k v is before =
    let next : k + 1 ≡ suc k = omega arith in
    let is' : take (suc k) new ≡ take (suc k) (set now k v) = subst (λ n. take n new ≡ take n (set now k v)) next is in
    sym (take_twice new k) ∙ ap (take k) is' ∙ take_twice (set now k v) k ∙ take-set now k v ∙ before

-- ---- the first axis and its span

pub some_cells : (axes : Slab) (spans : List Span) → AreSpans axes spans → 0 < cells (selection_shape axes)
some_cells [] spans are = omega arith
some_cells (a ∷ rest) [] are = absurd are
some_cells (a ∷ rest) (s ∷ ss) are =
    let more : 1 ≤ cells (selection_shape rest) = some_cells rest ss are.1 in
    let one : 1 ≤ a.count * a.block = omega (arith, are.0.some, are.0.inside) in
    let all : 1 * cells (selection_shape rest) ≤ a.count * a.block * cells (selection_shape rest) = mul-le-mul_right (cells (selection_shape rest)) one in
    omega (arith, more, all)

module _ (a : Axis) (rest : Slab) (spans : List Span) (s : Span) (have : 1 ≤ length spans) (are : AreSpans (a ∷ rest) spans) where
  pub first_span : IsSpan a (get_or spans 0 s)
  first_span = first spans have are where
    first : (spans : List Span) → 1 ≤ length spans → AreSpans (a ∷ rest) spans → IsSpan a (get_or spans 0 s)
    first [] have are = absurd are
    first (y ∷ ys) have are = are.0

  rest_spans : AreSpans rest (drop 1 spans)
  rest_spans = others spans have are where
    others : (spans : List Span) → 1 ≤ length spans → AreSpans (a ∷ rest) spans → AreSpans rest (drop 1 spans)
    others [] have are = absurd are
    others (y ∷ ys) have are = are.1

  pub spans_left : AreSpans rest (take (length spans - 1) (drop 1 spans))
  spans_left = rw (tail_of spans) rest_spans

  abbrev width : ℕ
  width = a.count * a.block

  pub width_low : width < 2 ^ 64
  width_low =
      let is = first_span in
      let some : 0 < a.count = counted a.count a.block (omega (arith, is.some, is.inside)) in
      few_cells a is.apart is.top some where
        counted : (n m : ℕ) → 0 < n * m → 0 < n
        counted zero m some = absurd (omega (arith, some))
        counted (suc n) m some = omega arith

  module _ (place t size room : ℕ) (inside : t < width) (fits : (place + 1) * cells (selection_shape (a ∷ rest)) * size ≤ room) where
    pub room_behind : (place * width + t + 1) * cells (selection_shape rest) * size ≤ room
    room_behind =
        let c = cells (selection_shape rest) in
        let grown : (place + 1) * cells (selection_shape (a ∷ rest)) ≡ (place + 1) * width * c = omega arith in
        let less : (place * width + t + 1) * c ≤ (place + 1) * width * c = mul-le-mul_right c (omega (arith, inside)) in
        let bytes : (place * width + t + 1) * c * size ≤ (place + 1) * width * c * size = mul-le-mul_right size less in
        let same : (place + 1) * cells (selection_shape (a ∷ rest)) * size ≡ (place + 1) * width * c * size = ap (λ n. n * size) grown in
        omega (arith, bytes, same, fits)

    pub place_low : 1 ≤ size → place * width + t < room
    place_low sized =
        let c = cells (selection_shape rest) in
        let some : 1 ≤ c = some_cells rest (drop 1 spans) rest_spans in
        let p = place * width + t + 1 in
        let more : p * 1 ≤ p * c = mul-le (p) some in
        let all : p * c * 1 ≤ p * c * size = mul-le (p * c) sized in
        omega (arith, more, all, room_behind) where
          mul-le : (n : ℕ) {x y : ℕ} → x ≤ y → n * x ≤ n * y
          mul-le n {x} {y} h = let right : x * n ≤ y * n = mul-le-mul_right n h in omega (arith, right)
