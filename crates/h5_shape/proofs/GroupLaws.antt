-- The spans of numbers: each number is in one, of its box.
use Rattle.std.proofs.Common.{◌≡◌, ◌≢◌, ℕ, zero, suc, ◌+◌, ◌-◌, ◌*◌, ◌/◌, ◌%◌, ◌<◌, ◌≤◌, inl, inr, List, [], ◌∷◌, length, get_or, drop, refl, sym, ap, subst, ◌∙◌, arith, true, false, cond}
use Rattle.std.specs.Prelude.{◌==◌}
use Rattle.std.proofs.lemmas.Bool.Decides.{nat_tests}
use Rattle.std.proofs.lemmas.Bool.{cases_lt, cases_order}
use Rattle.std.proofs.lemmas.Nat.{div-add-mod', mod_below}
use Rattle.std.proofs.lemmas.List.{get_or-drop, length-drop}
use Rattle.std.proofs.lemmas.List.Elements.{All-cons, All-nil, All-weaker}
use Rattle.std.proofs.lemmas.List.Kept.{AllPairs-cons}
use Rattle.std.specs.List.{All, AllPairs, Any}
use Rattle.std.proofs.Math.Nat.{mul-le-mul_right}
use Rattle.h5_shape.specs.declared.parts.Span.{Span}
use Rattle.h5_shape.specs.Parts.{span_number, spans_from}

-- ---- groups

pub any_later : {X : Type 0} (P : X → Type 0) (x : X) (xs : List X) → Any P xs → Any P (x ∷ xs)
any_later P x xs h = (suc h.0, h.1, omega (arith, h.2), h.3, h.4)

-- the numbers up to the end of the first span are of its box, and the next is not
pub record IsGroup (box at : ℕ) (xs : List ℕ) (s : Span) : Type 0 where
  pub from : s.from ≡ at
  pub some : 0 < s.length
  pub few : s.length ≤ length xs
  pub same : (i : ℕ) → i < s.length → get_or xs i 0 / box * box ≡ s.corner
  pub next : s.length < length xs → get_or xs s.length 0 / box * box ≢ s.corner

abbrev pub AreGroups : ℕ → ℕ → List ℕ → List Span → Type 0
AreGroups box at xs [] = length xs ≡ 0
AreGroups box at xs (s ∷ ss) = IsGroup box at xs s × AreGroups box (at + s.length) (drop s.length xs) ss

one_group : (box at x : ℕ) (xs : List ℕ) → (0 < length xs → get_or xs 0 0 / box * box ≢ x / box * box)
    → IsGroup box at (x ∷ xs) (record { corner = x / box * box; from = at; length = 1 })
one_group box at x xs else = record {
  from = refl;
  some = omega arith;
  few = omega arith;
  same = λ i low. let first : i ≡ 0 = omega arith in rw first refl;
  next = λ more. else (omega arith);
}

more_group : (box at x : ℕ) (xs : List ℕ) (s : Span) → IsGroup box (at + 1) xs s → s.corner ≡ x / box * box
    → IsGroup box at (x ∷ xs) (record { corner = s.corner; from = at; length = s.length + 1 })
more_group box at x xs s h here = record {
  from = refl;
  some = omega arith;
  few = omega (arith, h.few);
  same = under;
  next = λ more. let step : s.length + 1 ≡ suc s.length = omega arith in rw step (h.next (omega arith));
} where
  under : (i : ℕ) → i < s.length + 1 → get_or (x ∷ xs) i 0 / box * box ≡ s.corner
  under zero low = sym here
  under (suc i) low = h.same i (omega arith)

grouped_number : (box at x : ℕ) (xs : List ℕ) (ss : List Span) → AreGroups box (at + 1) xs ss → AreGroups box at (x ∷ xs) (span_number box at x ss)
grouped_number box at x xs [] h = (one_group box at x xs (λ some. absurd (omega (arith, h))), h)
grouped_number box at x xs (s ∷ ss) h = elim (s.corner == x / box * box) as (λ b. (s.corner == x / box * box) ≡ b
    → AreGroups box at (x ∷ xs) (cond b (record { corner = s.corner; from = at; length = s.length + 1 } ∷ ss) (record { corner = x / box * box; from = at; length = 1 } ∷ s ∷ ss))) [
      | true ↦ λ e.
          let here : s.corner ≡ x / box * box = grind (arith, nat_tests) in
          let step : s.length + 1 ≡ suc s.length = omega arith in
          let behind : (at + 1) + s.length ≡ at + (s.length + 1) = omega arith in
          let rest : AreGroups box (at + (s.length + 1)) (drop s.length xs) ss = subst (λ (n : ℕ). AreGroups box n (drop s.length xs) ss) behind h.1 in
          (more_group box at x xs s h.0 here, subst (λ (n : ℕ). AreGroups box (at + (s.length + 1)) (drop n (x ∷ xs)) ss) (sym step) rest)
      | false ↦ λ e.
          let differ : s.corner ≢ x / box * box = λ same. grind (arith, nat_tests) in
          let first : get_or xs 0 0 / box * box ≡ s.corner = h.0.same 0 h.0.some in
          (one_group box at x xs (λ some. rw first differ), h)
    ] refl

pub grouped : (box at : ℕ) (xs : List ℕ) → AreGroups box at xs (spans_from box at xs)
grouped box at [] = refl
grouped box at (x ∷ xs) = grouped_number box at x xs (spans_from box (at + 1) xs) (grouped box (at + 1) xs)

-- ---- what groups hold

pub group_held : (box at : ℕ) (xs : List ℕ) (ss : List Span) (t : ℕ) → AreGroups box at xs ss → at ≤ t → t < at + length xs
    → Any (λ (s : Span). (s.from ≤ t) × (t < s.from + s.length)) ss
group_held box at xs [] t h low high = absurd (omega (arith, h))
group_held box at xs (s ∷ ss) t h low high = elim (cases_lt t (at + s.length)) [
  | inl here ↦ (0, s, omega arith, refl, (omega (arith, h.0.from), omega (arith, h.0.from)))
  | inr past ↦ any_later (λ (s : Span). (s.from ≤ t) × (t < s.from + s.length)) s ss
      (group_held box (at + s.length) (drop s.length xs) ss t h.1 past (omega (arith, length-drop s.length xs, h.0.few)))
]

-- the numbers of a span are of its box
abbrev pub IsSpanOf : ℕ → ℕ → List ℕ → Span → Type 0
IsSpanOf box at xs s = (0 < s.length) × ((t : ℕ) → s.from ≤ t → t < s.from + s.length → (at ≤ t) × (t < at + length xs) × (get_or xs (t - at) 0 / box * box ≡ s.corner))

first_span : (box at : ℕ) (xs : List ℕ) (s : Span) → IsGroup box at xs s → IsSpanOf box at xs s
first_span box at xs s h =
    (h.some, λ t low high. (omega (arith, h.from), omega (arith, h.from, h.few), h.same (t - at) (omega (arith, h.from))))

later_span : (box at n : ℕ) (xs : List ℕ) (s : Span) → n ≤ length xs → IsSpanOf box (at + n) (drop n xs) s → IsSpanOf box at xs s
later_span box at n xs s few h = (
  h.0,
  λ t low high.
      let rest = h.1 t low high in
      let place : n + (t - (at + n)) ≡ t - at = omega (arith, rest.0) in
      let value : get_or (drop n xs) (t - (at + n)) 0 ≡ get_or xs (t - at) 0 = get_or-drop n xs (t - (at + n)) 0 ∙ ap (λ (i : ℕ). get_or xs i 0) place in
      (omega (arith, rest.0), omega (arith, rest.1, length-drop n xs, few), ap (λ (x : ℕ). x / box * box) (sym value) ∙ rest.2),
)

pub group_spans : (box at : ℕ) (xs : List ℕ) (ss : List Span) → AreGroups box at xs ss → All (IsSpanOf box at xs) ss
group_spans box at xs [] h = All-nil (IsSpanOf box at xs)
group_spans box at xs (s ∷ ss) h =
    All-cons (IsSpanOf box at xs) s ss (first_span box at xs s h.0) (All-weaker (IsSpanOf box (at + s.length) (drop s.length xs)) (IsSpanOf box at xs)
    (λ t there. later_span box at s.length xs t h.0.few there) ss (group_spans box (at + s.length) (drop s.length xs) ss h.1))

-- ---- order

-- the numbers do not fall
abbrev pub Rises : List ℕ → Type 0
Rises xs = (i j : ℕ) → i ≤ j → j < length xs → get_or xs i 0 ≤ get_or xs j 0

boxes_rise : (box x y : ℕ) → x ≤ y → x / box * box ≤ y / box * box
boxes_rise zero x y low = omega arith
boxes_rise (suc b) x y low =
    let first : x / suc b * suc b + x % suc b ≡ x = div-add-mod' x (suc b) in
    let second : y / suc b * suc b + y % suc b ≡ y = div-add-mod' y (suc b) in
    let rest : y % suc b < suc b = mod_below y (suc b) (omega arith) in
    elim (cases_lt (y / suc b) (x / suc b)) [
      | inl less ↦ let steps : (y / suc b + 1) * suc b ≤ x / suc b * suc b = mul-le-mul_right (suc b) (omega arith) in absurd (omega arith)
      | inr more ↦ mul-le-mul_right (suc b) more
    ]

rises_drop : (n : ℕ) (xs : List ℕ) → Rises xs → Rises (drop n xs)
rises_drop n xs h = λ i j low high.
    rw (get_or-drop n xs i 0, get_or-drop n xs j 0) (h (n + i) (n + j) (omega arith) (omega (arith, length-drop n xs)))

later_box : (box at : ℕ) (xs : List ℕ) (s t : Span) → Rises xs → IsGroup box at xs s → IsSpanOf box (at + s.length) (drop s.length xs) t → s.corner < t.corner
later_box box at xs s t rises group there =
    let cell = there.1 t.from (omega arith) (omega (arith, there.0)) in
    let long : s.length < length xs = omega (arith, cell.0, cell.1, length-drop s.length xs) in
    let n = t.from - (at + s.length) in
    let value : get_or xs (s.length + n) 0 / box * box ≡ t.corner = ap (λ (x : ℕ). x / box * box) (sym (get_or-drop s.length xs n 0)) ∙ cell.2 in
    let first : get_or xs (s.length - 1) 0 / box * box ≡ s.corner = group.same (s.length - 1) (omega (arith, group.some)) in
    let one : get_or xs (s.length - 1) 0 / box * box ≤ get_or xs s.length 0 / box * box =
    boxes_rise box (get_or xs (s.length - 1) 0) (get_or xs s.length 0) (rises (s.length - 1) s.length (omega arith) long) in
    let two : get_or xs s.length 0 / box * box ≤ get_or xs (s.length + n) 0 / box * box =
    boxes_rise box (get_or xs s.length 0) (get_or xs (s.length + n) 0) (rises s.length (s.length + n) (omega arith) (omega (arith, cell.1, length-drop s.length xs))) in
    elim (cases_order s.corner (get_or xs s.length 0 / box * box)) [
      | inl equal ↦ absurd (group.next long (sym equal))
      | inr other ↦ elim other [ inl less ↦ omega (arith, two, value) | inr more ↦ absurd (omega (arith, one, first)) ]
    ]

pub group_order : (box at : ℕ) (xs : List ℕ) (ss : List Span) → Rises xs → AreGroups box at xs ss → AllPairs (λ (s t : Span). s.corner < t.corner) ss
group_order box at xs [] rises h = λ i j d order low. absurd (omega arith)
group_order box at xs (s ∷ ss) rises h =
    AllPairs-cons (λ (s t : Span). s.corner < t.corner) s ss (All-weaker (IsSpanOf box (at + s.length) (drop s.length xs)) (λ (t : Span). s.corner < t.corner)
    (λ t there. later_box box at xs s t rises h.0 there) ss (group_spans box (at + s.length) (drop s.length xs) ss h.1))
    (group_order box (at + s.length) (drop s.length xs) ss (rises_drop s.length xs rises) h.1)
