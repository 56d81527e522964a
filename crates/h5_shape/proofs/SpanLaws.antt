-- Selected numbers by the boxes that hold them.
use Rattle.std.proofs.Common.{◌≡◌, ◌≢◌, ℕ, zero, suc, ◌+◌, ◌-◌, ◌*◌, ◌/◌, ◌%◌, ◌^◌, ◌<◌, ◌≤◌, ◌⊎◌, inl, inr, List, [], ◌∷◌, length, get_or, drop, min, max, refl, sym, ap, ◌∙◌, arith, true, false, cond}
use Rattle.std.specs.Prelude.{◌==◌}
use Rattle.std.proofs.lemmas.Bool.Decides.{nat_tests}
use Rattle.std.proofs.lemmas.Bool.{cases_lt}
use Rattle.std.proofs.lemmas.Nat.{div-add-mod', div-mul-add, div_below, mod_below, le-div}
use Rattle.std.proofs.lemmas.List.{get_or-drop, length-drop, drop-drop}
use Rattle.std.proofs.Math.Nat.{mul-le-mul_right}
use Rattle.h5_model.specs.declared.Axis.{Axis}
use Rattle.h5_shape.specs.declared.parts.Span.{Span}
use Rattle.h5_shape.specs.Parts.{numbers_along, span_number, spans_from}
use Rattle.h5_shape.specs.PartsLeft.{IsBoxed, spans_after}
use Rattle.h5_shape.proofs.AlongLaws.{offset_at, offset_grows, within_reach, axis_facts, length-numbers, number_at}

-- ---- boxes

box_same : (size c x : ℕ) → c * size ≤ x → x < c * size + size → x / size * size ≡ c * size
box_same size c x low high =
    let inner : c * size + (x - c * size) ≡ x = omega arith in
    let quotient : x / size ≡ c = rw inner at (div-mul-add c size (x - c * size) (omega arith)) in
    ap (λ (q : ℕ). q * size) quotient

box_other : (size c x : ℕ) → 1 ≤ size → c * size + size ≤ x → x / size * size ≢ c * size
box_other size c x some far = λ same.
    let quotient : c + 1 ≤ x / size = le-div (c + 1) x size some (omega arith) in
    let more : (c + 1) * size ≤ x / size * size = mul-le-mul_right size quotient in
    absurd (omega arith)

-- ---- spans

-- the first span is of the box of the number that was put
span_first : (box at x : ℕ) (ss : List Span) → (s : Span) × (rest : List Span) × (s.corner ≡ x / box * box) × (span_number box at x ss ≡ s ∷ rest)
span_first box at x [] = (record { corner = x / box * box; from = at; length = 1 }, [], refl, refl)
span_first box at x (s ∷ ss) = elim (s.corner == x / box * box) as (λ b. (s.corner == x / box * box) ≡ b → (t : Span) × (rest : List Span) × (t.corner ≡ x / box * box)
    × (cond b (record { corner = s.corner; from = at; length = s.length + 1 } ∷ ss) (record { corner = x / box * box; from = at; length = 1 } ∷ s ∷ ss) ≡ t ∷ rest)) [
      | true ↦ λ e.
          let here : s.corner ≡ x / box * box = grind (arith, nat_tests) in
          let grown : Span = record { corner = s.corner; from = at; length = s.length + 1 } in
          (grown, ss, here, refl {a = grown ∷ ss})
      | false ↦ λ _. (record { corner = x / box * box; from = at; length = 1 }, s ∷ ss, refl, refl)
    ] refl

span_alone : (box at x : ℕ) (xs : List ℕ) → (0 < length xs → get_or xs 0 0 / box * box ≢ x / box * box)
    → span_number box at x (spans_from box (at + 1) xs) ≡ record { corner = x / box * box; from = at; length = 1 } ∷ spans_from box (at + 1) xs
span_alone box at x [] else = refl
span_alone box at x (y ∷ ys) else =
    let first : (s : Span) × (rest : List Span) × (s.corner ≡ y / box * box) × (spans_from box (at + 1) (y ∷ ys) ≡ s ∷ rest) = span_first box (at + 1) y (spans_from box (at + 1 + 1) ys) in
    let differ : y / box * box ≢ x / box * box = else (omega arith) in
    let apart : (first.0.corner == x / box * box) ≡ false = rw first.2 (grind (arith, nat_tests)) in
    ap (span_number box at x) first.3
    ∙ ap (λ b. cond b (record { corner = first.0.corner; from = at; length = first.0.length + 1 } ∷ first.1) (record { corner = x / box * box; from = at; length = 1 } ∷ first.0 ∷ first.1)) apart
    ∙ ap (λ (ss : List Span). record { corner = x / box * box; from = at; length = 1 } ∷ ss) (sym first.3)

-- the first numbers are of one box, and the next is not
pub spans_group : (box at corner m : ℕ) (xs : List ℕ) → m < length xs → ((i : ℕ) → i ≤ m → get_or xs i 0 / box * box ≡ corner)
    → (m + 1 < length xs → get_or xs (m + 1) 0 / box * box ≢ corner)
    → spans_from box at xs ≡ record { corner = corner; from = at; length = m + 1 } ∷ spans_from box (at + (m + 1)) (drop (m + 1) xs)
spans_group box at corner m [] low same else = absurd (omega arith)
spans_group box at corner zero (x ∷ xs) low same else =
    let here : x / box * box ≡ corner = same 0 (omega arith) in
    let apart : 0 < length xs → get_or xs 0 0 / box * box ≢ x / box * box = λ some. rw here (else (omega arith)) in
    span_alone box at x xs apart ∙ rw here refl
spans_group box at corner (suc m) (x ∷ xs) low same else =
    let here : x / box * box ≡ corner = same 0 (omega arith) in
    let step : suc m + 1 ≡ suc (m + 1) = omega arith in
    let rest : spans_from box (at + 1) xs ≡ record { corner = corner; from = at + 1; length = m + 1 } ∷ spans_from box ((at + 1) + (m + 1)) (drop (m + 1) xs) =
    spans_group box (at + 1) corner m xs (omega arith) (λ i below. same (suc i) (omega arith)) (λ more. rw step at else (omega arith)) in
    let met : (corner == x / box * box) ≡ true = grind (arith, nat_tests) in
    let behind : (at + 1) + (m + 1) ≡ at + (suc m + 1) = omega arith in
    let count : (m + 1) + 1 ≡ suc m + 1 = omega arith in
    ap (span_number box at x) rest
    ∙ ap (λ b. cond b (record { corner = corner; from = at; length = (m + 1) + 1 } ∷ spans_from box ((at + 1) + (m + 1)) (drop (m + 1) xs))
    (record { corner = x / box * box; from = at; length = 1 } ∷ record { corner = corner; from = at + 1; length = m + 1 } ∷ spans_from box ((at + 1) + (m + 1)) (drop (m + 1) xs))) met
    ∙ rw (behind, count, step) refl

-- ---- the span at a position

-- the last position of a span: in the last block that is reached, or the last of all
abbrev pub IsLast : Axis → ℕ → ℕ → ℕ → Type 0
IsLast a st reach last =
    ((reach / st < a.count) × (last ≡ reach / st * a.block + min (reach % st) (a.block - 1))) ⊎ ((a.count ≤ reach / st) × (last + 1 ≡ a.count * a.block))

last_reached : (a : Axis) (st reach last t : ℕ) → 0 < a.block → a.block ≤ st → IsLast a st reach last → t < a.count * a.block
    → ((t ≤ last) × (offset_at a.block st t ≤ reach)) ⊎ ((last < t) × (reach < offset_at a.block st t))
last_reached a st reach last t some wide here low = elim here [
  | inl inner ↦
      let m = min (reach % st) (a.block - 1) in
      let full : (a.block ≤ m + 1) ⊎ (reach % st ≤ m) = elim (cases_lt (reach % st) a.block) [ inl less ↦ inr (omega arith) | inr more ↦ inl (omega arith) ] in
      rw (inner.1) (within_reach a.block st reach m t some wide (omega arith) (omega arith) full)
  | inr all ↦
      let whole : reach / st * st + reach % st ≡ reach = div-add-mod' reach st in
      let block : t / a.block < a.count = div_below t a.block a.count some low in
      let rest : t % a.block < a.block = mod_below t a.block some in
      let steps : (t / a.block + 1) * st ≤ reach / st * st = mul-le-mul_right st (omega arith) in
      inl (omega arith, omega arith)
]

last_inside : (a : Axis) (st reach last : ℕ) → 0 < a.block → IsLast a st reach last → last < a.count * a.block
last_inside a st reach last some here = elim here [
  | inl inner ↦ let blocks : (reach / st + 1) * a.block ≤ a.count * a.block = mul-le-mul_right a.block (omega arith) in omega arith
  | inr all ↦ omega arith
]

-- what the code of a span computes
pub record IsSpanAt (a : Axis) (size from st corner reach last : ℕ) : Type 0 where
  pub boxed : IsBoxed a size
  pub inside : from < a.count * a.block
  pub wide : a.block ≤ st
  pub same : (a.block ≤ a.stride) → st ≡ a.stride
  pub corner_is : corner ≡ (a.start + offset_at a.block st from) - (a.start + offset_at a.block st from) % size
  pub reach_is : reach ≡ min (corner + (size - 1)) (2 ^ 64 - 1) - a.start
  pub last_is : IsLast a st reach last

pub corner_facts : (a : Axis) (size from st corner reach last : ℕ) → IsSpanAt a size from st corner reach last
    → (corner ≡ (a.start + offset_at a.block st from) / size * size) × (corner ≤ a.start + offset_at a.block st from)
    × (a.start + offset_at a.block st from < corner + size) × (a.start + offset_at a.block st from < 2 ^ 64)
corner_facts a size from st corner reach last h =
    let first = a.start + offset_at a.block st from in
    let whole : first / size * size + first % size ≡ first = div-add-mod' first size in
    let low : first % size < size = mod_below first size (omega (arith, h.boxed.sized)) in
    let top = number_at a size st from h.boxed h.same h.inside in
    (omega (arith, h.corner_is), omega (arith, h.corner_is), omega (arith, h.corner_is), top.1)

pub span_reach : (a : Axis) (size from st corner reach last : ℕ) → IsSpanAt a size from st corner reach last
    → (from ≤ last) × (last < a.count * a.block) × (a.start + reach ≡ min (corner + (size - 1)) (2 ^ 64 - 1))
span_reach a size from st corner reach last h =
    let f = axis_facts a size h.boxed in
    let at = corner_facts a size from st corner reach last h in
    let sum : a.start + reach ≡ min (corner + (size - 1)) (2 ^ 64 - 1) = omega (arith, h.reach_is, at.2, at.3) in
    let low : offset_at a.block st from ≤ reach = omega (arith, sum, at.2, at.3) in
    let early : from ≤ last = elim (last_reached a st reach last from f.1 h.wide h.last_is h.inside) [ inl early ↦ early.0 | inr late ↦ absurd (omega (arith, late.1)) ] in
    (early, last_inside a st reach last f.1 h.last_is, sum)

-- a box has no more numbers than its size
pub span_short : (a : Axis) (size from st corner reach last : ℕ) → IsSpanAt a size from st corner reach last → last - from + 1 ≤ size
span_short a size from st corner reach last h =
    let f = axis_facts a size h.boxed in
    let at = corner_facts a size from st corner reach last h in
    let bounds = span_reach a size from st corner reach last h in
    let end : from + (last - from) ≡ last = omega (arith, bounds.0) in
    let reached : offset_at a.block st last ≤ reach = elim (last_reached a st reach last last f.1 h.wide h.last_is bounds.1) [ inl early ↦ early.1 | inr late ↦ absurd (omega (arith, late.0)) ] in
    let rises : offset_at a.block st from + (last - from) ≤ offset_at a.block st last = rw end at (offset_grows a.block st (last - from) from f.1 h.wide) in
    omega (arith, at.1, bounds.2, h.boxed.sized)

pub span_here : (a : Axis) (size from st corner reach last : ℕ) → IsSpanAt a size from st corner reach last
    → spans_from size from (drop from (numbers_along a)) ≡ record { corner = corner; from = from; length = last - from + 1 } ∷ spans_after a size (record { corner = corner; from = from; length = last - from + 1 })
span_here a size from st corner reach last h =
    let f = axis_facts a size h.boxed in
    let at = corner_facts a size from st corner reach last h in
    let bounds = span_reach a size from st corner reach last h in
    let xs = drop from (numbers_along a) in
    let c = (a.start + offset_at a.block st from) / size in
    let long : last - from < length xs = omega (arith, length-drop from (numbers_along a), length-numbers a, bounds.0, bounds.1) in
    let in_box : (i : ℕ) → i ≤ last - from → get_or xs i 0 / size * size ≡ corner = λ i low.
    let t = from + i in
    let below : t < a.count * a.block = omega (arith, bounds.0, bounds.1) in
    let value = number_at a size st t h.boxed h.same below in
    let reached : offset_at a.block st t ≤ reach = elim (last_reached a st reach last t f.1 h.wide h.last_is below) [ inl early ↦ early.1 | inr late ↦ absurd (omega (arith, late.0, bounds.0)) ] in
    let rises : offset_at a.block st from + i ≤ offset_at a.block st t = offset_grows a.block st i from f.1 h.wide in
    rw (get_or-drop from (numbers_along a) i 0, value.0) (box_same size c (a.start + offset_at a.block st t) (omega (arith, at.0, at.1)) (omega (arith, at.0, bounds.2, h.boxed.sized)) ∙ sym at.0) in
    let else : (last - from) + 1 < length xs → get_or xs ((last - from) + 1) 0 / size * size ≢ corner = λ more.
    let t = from + ((last - from) + 1) in
    let below : t < a.count * a.block = omega (arith, length-drop from (numbers_along a), length-numbers a) in
    let value = number_at a size st t h.boxed h.same below in
    let past : reach < offset_at a.block st t = elim (last_reached a st reach last t f.1 h.wide h.last_is below) [ inl early ↦ absurd (omega (arith, early.0, bounds.0)) | inr late ↦ late.1 ] in
    rw (get_or-drop from (numbers_along a) ((last - from) + 1) 0, value.0, at.0) (box_other size c (a.start + offset_at a.block st t) h.boxed.sized (omega (arith, at.0, bounds.2, value.1))) in
    spans_group size from corner (last - from) xs long in_box else
    ∙ ap (λ (ys : List ℕ). record { corner = corner; from = from; length = last - from + 1 } ∷ spans_from size (from + (last - from + 1)) ys) (drop-drop (last - from + 1) from (numbers_along a))

-- the same as the code has it
abbrev pub first_of : Axis → ℕ → ℕ → ℕ
first_of a from st = a.start + from / a.block * st + from % a.block

pub is_span_at : (a : Axis) (size from st sum last : ℕ) → IsBoxed a size → from < a.count * a.block → st ≡ max a.stride a.block
    → sum ≡ min (first_of a from st - first_of a from st % size + (size - 1)) (2 ^ 64 - 1) → IsLast a st (sum - a.start) last
    → IsSpanAt a size from st (first_of a from st - first_of a from st % size) (sum - a.start) last
is_span_at a size from st sum last boxed inside stride sat here =
    let one : first_of a from st ≡ a.start + offset_at a.block st from = omega arith in
    record {
      boxed = boxed;
      inside = inside;
      wide = omega arith;
      same = λ (wide : a.block ≤ a.stride). omega arith;
      corner_is = ap (λ (x : ℕ). x - x % size) one;
      reach_is = ap (λ (x : ℕ). x - a.start) sat;
      last_is = here;
    }

pub first_below : (a : Axis) (size from st : ℕ) → IsBoxed a size → from < a.count * a.block → st ≡ max a.stride a.block → first_of a from st < 2 ^ 64
first_below a size from st boxed inside stride = let top = number_at a size st from boxed (λ (wide : a.block ≤ a.stride). omega arith) inside in omega (arith, top.1)
