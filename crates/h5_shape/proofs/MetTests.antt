-- The tests of a box by its first index say what it holds.
use Rattle.std.proofs.Common.{◌≡◌, ℕ, suc, ◌+◌, ◌-◌, ◌*◌, ◌/◌, ◌%◌, ◌<◌, ◌≤◌, inl, inr, List, [], ◌∷◌, length, get_or, min, refl, sym, ap, ap₂, ◌∙◌, arith, Bool, true, false, ◌&&◌, ◌||◌}
use Rattle.std.specs.Prelude.{nat_lt, not}
use Rattle.std.proofs.lemmas.Bool.{cases_lt, and_right, not-true, or_cases, or_parts, or_right, and_parts}
use Rattle.std.proofs.lemmas.Bool.Decides.{nat_tests}
use Rattle.std.proofs.lemmas.List.Folds.{Any-from_list_any, list_any_at}
use Rattle.std.proofs.lemmas.List.FromFn.{get_or-range_with_len, length-range_with_len}
use Rattle.std.proofs.lemmas.Nat.{div-add-mod', div-mul-add, div_below, mod-mul-add, mod_below, mul-add-lt}
use Rattle.std.specs.List.{range_with_len}
use Rattle.h5_model.specs.declared.hyperslab.Axis.{Axis}
use Rattle.h5_model.specs.Tree.Grid.{corner_of}
use Rattle.h5_model.specs.Tree.Places.{cells, is_inside}
use Rattle.h5_model.specs.Views.Selection.{Slab, is_selected, is_selected_along}
use Rattle.h5_model.proofs.PlaceLaws.{positive}
use Rattle.h5_model.proofs.SelectionLaws.{from_selected_along, to_selected_along}
use Rattle.h5_shape.specs.InBox.{IsBelow, number_along}
use Rattle.h5_shape.specs.MetFirsts.{is_lost_at, is_reduced, loses_box, meets_along, meets_box, reaches_past}
use Rattle.h5_shape.proofs.GridBoxes.{IsHeldIn, factors}

same_truth : (b c : Bool) → (b ≡ true → c ≡ true) → (c ≡ true → b ≡ true) → b ≡ c
same_truth true c to from = sym (to refl)
same_truth false true to from = from refl
same_truth false false to from = refl

-- ---- numbers of an axis

pub number_met : (a : Axis) (first size : ℕ) → meets_along a first size ≡ true → (x : ℕ) × (first ≤ x) × (x < first + size) × (is_selected_along a x ≡ true)
number_met a first size some =
    let found = Any-from_list_any (is_selected_along a) (range_with_len first size) some in
    let low : found.0 < size = omega (arith, found.2, length-range_with_len first size) in
    let is : found.1 ≡ first + found.0 = sym found.3 ∙ get_or-range_with_len first size found.0 found.1 low in
    (found.1, omega (arith, is), omega (arith, is, low), found.4)

pub met_number : (a : Axis) (first size x : ℕ) → first ≤ x → x < first + size → is_selected_along a x ≡ true → meets_along a first size ≡ true
met_number a first size x from below selected =
    let low : x - first < size = omega (arith, from, below) in
    let is : get_or (range_with_len first size) (x - first) 0 ≡ x = get_or-range_with_len first size (x - first) 0 low ∙ omega (arith, from) in
    list_any_at (is_selected_along a) (range_with_len first size) (x - first) 0 (omega (arith, low, length-range_with_len first size)) (ap (is_selected_along a) is ∙ selected)

-- some lie in a box just where more are below its end than below its first number
pub met_below : (a : Axis) (first size n m : ℕ) → IsBelow a first n → IsBelow a (first + size) m → nat_lt n m ≡ meets_along a first size
met_below a first size n m low high = same_truth (nat_lt n m) (meets_along a first size) to from where
  to : nat_lt n m ≡ true → meets_along a first size ≡ true
  to test =
      let less : n < m = grind (arith, nat_tests, test) in
      let inside : n < a.count * a.block = omega (arith, less, high.0) in
      let some : 0 < a.block = positive n a.count a.block inside in
      let x = number_along a n in
      let end : x < first + size = (high.1 n inside).1 less in
      let start : first ≤ x = elim (cases_lt x first) [
        | inl under ↦ absurd (let never : n < n = (low.1 n inside).0 under in omega (arith, never))
        | inr over ↦ over
      ] in
      met_number a first size x start end (to_selected_along a x (n / a.block, n % a.block, div_below n a.block a.count some inside, mod_below n a.block some, refl))

  from : meets_along a first size ≡ true → nat_lt n m ≡ true
  from some =
      let found = number_met a first size some in
      let x = found.0 in
      let at = from_selected_along a x found.3 in
      let t = at.0 * a.block + at.1 in
      let small : at.1 < a.block = at.3 in
      let inside : t < a.block * a.count = mul-add-lt at.0 a.block at.1 a.count at.2 small in
      let low_t : t < a.count * a.block = omega (arith, inside) in
      let quotient : t / a.block ≡ at.0 = div-mul-add at.0 a.block at.1 small in
      let rest : t % a.block ≡ at.1 = mod-mul-add at.0 a.block at.1 small in
      let is : number_along a t ≡ x = (λ i. a.start + quotient i * a.stride + rest i) ∙ sym at.4 in
      let below : t < m = (high.1 t low_t).0 (omega (arith, is, found.2)) in
      let above : n ≤ t = elim (cases_lt t n) [
        | inl under ↦ absurd (let never : number_along a t < first = (low.1 t low_t).1 under in omega (arith, never, is, found.1))
        | inr over ↦ over
      ] in
      let less : n < m = omega (arith, below, above) in
      grind (arith, nat_tests, less)

-- ---- boxes

number_in : (b x c : ℕ) → 0 < b → c / b * b ≡ c → c ≤ x → x < c + b → x / b * b ≡ c
number_in b x c some first low high =
    let split : x ≡ c / b * b + (x - c) = omega (arith, first, low) in
    ap (λ n. n / b * b) split ∙ ap (λ n. n * b) (div-mul-add (c / b) b (x - c) (omega (arith, low, high))) ∙ first

in_number : (b x c : ℕ) → 0 < b → x / b * b ≡ c → (c ≤ x) × (x < c + b)
in_number b x c some is = (omega (arith, is, div-add-mod' x b), omega (arith, is, div-add-mod' x b, mod_below x b some))

-- the first index of a box
abbrev pub IsFirst : List ℕ → List ℕ → Type 0
IsFirst box first = (index : List ℕ) × (length index ≡ length box) × (corner_of box index ≡ first)

first_parts : (b c : ℕ) (bs cs : List ℕ) → 0 < b → IsFirst (b ∷ bs) (c ∷ cs) → (c / b * b ≡ c) × IsFirst bs cs
first_parts b c bs cs some ([], long, is) = absurd (omega (arith, long))
first_parts b c bs cs some (x ∷ xs, long, is) =
    let head : x / b * b ≡ c = cc in
    let rest : corner_of bs xs ≡ cs = cc in
    let none : x / b * b + 0 ≡ c = omega (arith, head) in
    (ap (λ n. n / b * b) (sym none) ∙ ap (λ n. n * b) (div-mul-add (x / b) b 0 some) ∙ head, (xs, omega (arith, long), rest))

-- a corner has a number for each size
pub length-corner : (box index : List ℕ) → length index ≡ length box → length (corner_of box index) ≡ length box
length-corner [] index long = refl
length-corner (b ∷ bs) [] long = absurd (omega (arith, long))
length-corner (b ∷ bs) (x ∷ xs) long = ap suc (length-corner bs xs (omega (arith, long)))

first_long : (box first : List ℕ) → IsFirst box first → length first ≡ length box
first_long box first (index, long, is) = ap length (sym is) ∙ length-corner box index long

pub meets_held : (slab : Slab) (box first : List ℕ) → length box ≡ length slab → 0 < cells box → IsFirst box first → meets_box slab box first ≡ true → IsHeldIn box first (is_selected slab)
meets_held [] [] first rank some is meets = record { index = []; long = refl; corner = is.2 ∙ refl; passes = refl }
meets_held [] (b ∷ bs) first rank some is meets = absurd (omega (arith, rank))
meets_held (a ∷ rest) [] first rank some is meets = absurd (omega (arith, rank))
meets_held (a ∷ rest) (b ∷ bs) [] rank some is meets = absurd (omega (arith, first_long (b ∷ bs) [] is))
meets_held (a ∷ rest) (b ∷ bs) (c ∷ cs) rank some is meets =
    let sizes = factors b (cells bs) some in
    let firsts = first_parts b c bs cs sizes.0 is in
    let split = and_parts (meets_along a c b) (meets_box rest bs cs) meets in
    let below = meets_held rest bs cs (omega (arith, rank)) sizes.1 firsts.1 split.1 in
    let x = number_met a c b split.0 in
    let here : x.0 / b * b ≡ c = number_in b x.0 c sizes.0 firsts.0 x.1 x.2 in
    record {
      index = x.0 ∷ below.index;
      long = ap suc below.long;
      corner = ap₂ (λ (n : ℕ) (ns : List ℕ). n ∷ ns) here below.corner;
      passes = ap₂ (λ (p q : Bool). p && q) x.3 below.passes;
    }

pub held_meets : (slab : Slab) (box first : List ℕ) → length box ≡ length slab → 0 < cells box → IsHeldIn box first (is_selected slab) → meets_box slab box first ≡ true
held_meets slab box first rank some held = go slab box first held.index rank some held.long held.corner held.passes where
  go : (slab : Slab) (box first index : List ℕ) → length box ≡ length slab → 0 < cells box → length index ≡ length box → corner_of box index ≡ first → is_selected slab index ≡ true
      → meets_box slab box first ≡ true
  go [] box first index rank some long is selected = refl
  go (a ∷ rest) [] first index rank some long is selected = absurd (omega (arith, rank))
  go (a ∷ rest) (b ∷ bs) first [] rank some long is selected = absurd (omega (arith, long))
  go (a ∷ rest) (b ∷ bs) [] (x ∷ xs) rank some long is selected = absurd (cc)
  go (a ∷ rest) (b ∷ bs) (c ∷ cs) (x ∷ xs) rank some long is selected =
      let sizes = factors b (cells bs) some in
      let head : x / b * b ≡ c = cc in
      let others : corner_of bs xs ≡ cs = cc in
      let split = and_parts (is_selected_along a x) (is_selected rest xs) selected in
      let at = in_number b x c sizes.0 head in
      ap₂ (λ (p q : Bool). p && q) (met_number a c b x at.0 at.1 split.0) (go rest bs cs xs (omega (arith, rank)) sizes.1 (omega (arith, long)) others split.1)

-- ---- what is lost

-- the first index itself where it is inside
pub first_inside : (sizes box first : List ℕ) → length box ≡ length sizes → 0 < cells box → IsFirst box first → is_inside sizes first ≡ true → IsHeldIn box first (is_inside sizes)
first_inside sizes box first rank some is inside =
    record { index = first; long = first_long box first is; corner = own box first some is; passes = inside } where
      own : (box first : List ℕ) → 0 < cells box → IsFirst box first → corner_of box first ≡ first
      own [] [] some is = refl
      own [] (c ∷ cs) some is = absurd (omega (arith, first_long [] (c ∷ cs) is))
      own (b ∷ bs) [] some is = absurd (omega (arith, first_long (b ∷ bs) [] is))
      own (b ∷ bs) (c ∷ cs) some is =
          let sizes = factors b (cells bs) some in
          let firsts = first_parts b c bs cs sizes.0 is in
          ap₂ (λ (n : ℕ) (ns : List ℕ). n ∷ ns) firsts.0 (own bs cs sizes.1 firsts.1)

lost_of : (sizes kept index : List ℕ) → is_inside sizes index ≡ true → is_inside kept index ≡ false → is_lost_at sizes kept index ≡ true
lost_of sizes kept index inside outside = ap₂ (λ (p q : Bool). p && not q) inside outside

pub loses_held : (sizes kept box first : List ℕ) → length box ≡ length sizes → length kept ≡ length sizes → 0 < cells box → IsFirst box first → loses_box sizes kept box first ≡ true
    → IsHeldIn box first (is_lost_at sizes kept)
loses_held sizes kept box first rank as_many some is loses =
    let split = and_parts (is_inside sizes first) (reaches_past sizes kept box first) loses in
    go sizes kept box first rank as_many some is split.0 split.1 where
      go : (sizes kept box first : List ℕ) → length box ≡ length sizes → length kept ≡ length sizes → 0 < cells box → IsFirst box first → is_inside sizes first ≡ true
          → reaches_past sizes kept box first ≡ true → IsHeldIn box first (is_lost_at sizes kept)
      go [] kept box first rank as_many some is inside past = absurd (cc)
      go (d ∷ ds) [] box first rank as_many some is inside past = absurd (cc)
      go (d ∷ ds) (k ∷ ks) [] first rank as_many some is inside past = absurd (cc)
      go (d ∷ ds) (k ∷ ks) (b ∷ bs) [] rank as_many some is inside past = absurd (cc)
      go (d ∷ ds) (k ∷ ks) (b ∷ bs) (c ∷ cs) rank as_many some is inside past =
          let parts = factors b (cells bs) some in
          let firsts = first_parts b c bs cs parts.0 is in
          let split = and_parts (nat_lt c d) (is_inside ds cs) inside in
          let low : c < d = grind (arith, nat_tests, split.0) in
          elim (or_cases (nat_lt k (min d (c + b))) (reaches_past ds ks bs cs) past) [
            | inl here ↦
                let more : k < min d (c + b) = grind (arith, nat_tests, here) in
                let x = min d (c + b) - 1 in
                let some_b = parts.0 in
                let at : x / b * b ≡ c = number_in b x c parts.0 firsts.0 (omega (arith, low, some_b)) (omega (arith, low, some_b)) in
                let below : x < d = omega (arith, low, some_b) in
                let out : nat_lt x k ≡ false = grind (arith, nat_tests, more) in
                let in_size : nat_lt x d ≡ true = grind (arith, nat_tests, below) in
                let rest = first_inside ds bs cs (omega (arith, rank)) parts.1 firsts.1 split.1 in
                record {
                  index = x ∷ rest.index;
                  long = ap suc rest.long;
                  corner = ap₂ (λ (n : ℕ) (ns : List ℕ). n ∷ ns) at rest.corner;
                  passes = lost_of (d ∷ ds) (k ∷ ks) (x ∷ rest.index) (ap₂ (λ (p q : Bool). p && q) in_size rest.passes) (ap (λ p. p && is_inside ks rest.index) out);
                }
            | inr there ↦
                let rest = go ds ks bs cs (omega (arith, rank)) (omega (arith, as_many)) parts.1 firsts.1 split.1 there in
                let halves = and_parts (is_inside ds rest.index) (not (is_inside ks rest.index)) rest.passes in
                record {
                  index = c ∷ rest.index;
                  long = ap suc rest.long;
                  corner = ap₂ (λ (n : ℕ) (ns : List ℕ). n ∷ ns) firsts.0 rest.corner;
                  passes = lost_of (d ∷ ds) (k ∷ ks) (c ∷ rest.index) (ap₂ (λ (p q : Bool). p && q) split.0 halves.0)
                      (ap (λ q. nat_lt c k && q) (not-true (is_inside ks rest.index) halves.1) ∙ and_right (nat_lt c k) false refl);
                }
          ]

pub held_loses : (sizes kept box first : List ℕ) → length box ≡ length sizes → length kept ≡ length sizes → 0 < cells box → IsHeldIn box first (is_lost_at sizes kept)
    → loses_box sizes kept box first ≡ true
held_loses sizes kept box first rank as_many some held =
    let split = and_parts (is_inside sizes held.index) (not (is_inside kept held.index)) held.passes in
    ap₂ (λ (p q : Bool). p && q) (inside sizes box first held.index rank some held.corner split.0)
    (past sizes kept box first held.index rank as_many some held.corner split.0 (not-true (is_inside kept held.index) split.1)) where
      inside : (sizes box first index : List ℕ) → length box ≡ length sizes → 0 < cells box → corner_of box index ≡ first → is_inside sizes index ≡ true → is_inside sizes first ≡ true
      inside [] [] [] index rank some is within = refl
      inside [] [] (c ∷ cs) index rank some is within = absurd (cc)
      inside [] (b ∷ bs) first index rank some is within = absurd (omega (arith, rank))
      inside (d ∷ ds) [] first index rank some is within = absurd (omega (arith, rank))
      inside (d ∷ ds) (b ∷ bs) first [] rank some is within = absurd (cc)
      inside (d ∷ ds) (b ∷ bs) [] (x ∷ xs) rank some is within = absurd (cc)
      inside (d ∷ ds) (b ∷ bs) (c ∷ cs) (x ∷ xs) rank some is within =
          let parts = factors b (cells bs) some in
          let head : x / b * b ≡ c = cc in
          let others : corner_of bs xs ≡ cs = cc in
          let split = and_parts (nat_lt x d) (is_inside ds xs) within in
          let at = in_number b x c parts.0 head in
          let low : x < d = grind (arith, nat_tests, split.0) in
          let less : c < d = omega (arith, low, at.0) in
          let test : nat_lt c d ≡ true = grind (arith, nat_tests, less) in
          ap₂ (λ (p q : Bool). p && q) test (inside ds bs cs xs (omega (arith, rank)) parts.1 others split.1)

      past : (sizes kept box first index : List ℕ) → length box ≡ length sizes → length kept ≡ length sizes → 0 < cells box → corner_of box index ≡ first → is_inside sizes index ≡ true
          → is_inside kept index ≡ false → reaches_past sizes kept box first ≡ true
      past [] [] box first [] rank as_many some is within out = absurd (cc)
      past [] [] box first (x ∷ xs) rank as_many some is within out = absurd (cc)
      past [] (k ∷ ks) box first index rank as_many some is within out = absurd (omega (arith, as_many))
      past (d ∷ ds) [] box first index rank as_many some is within out = absurd (omega (arith, as_many))
      past (d ∷ ds) (k ∷ ks) [] first index rank as_many some is within out = absurd (omega (arith, rank))
      past (d ∷ ds) (k ∷ ks) (b ∷ bs) first [] rank as_many some is within out = absurd (cc)
      past (d ∷ ds) (k ∷ ks) (b ∷ bs) [] (x ∷ xs) rank as_many some is within out = absurd (cc)
      past (d ∷ ds) (k ∷ ks) (b ∷ bs) (c ∷ cs) (x ∷ xs) rank as_many some is within out =
          let parts = factors b (cells bs) some in
          let head : x / b * b ≡ c = cc in
          let others : corner_of bs xs ≡ cs = cc in
          let split = and_parts (nat_lt x d) (is_inside ds xs) within in
          let at = in_number b x c parts.0 head in
          let low : x < d = grind (arith, nat_tests, split.0) in
          elim (cases_lt x k) [
            | inl under ↦
                let test : nat_lt x k ≡ true = grind (arith, nat_tests, under) in
                let rest : is_inside ks xs ≡ false = ap (λ p. p && is_inside ks xs) (sym test) ∙ out in
                or_right (nat_lt k (min d (c + b))) (reaches_past ds ks bs cs) (past ds ks bs cs xs (omega (arith, rank)) (omega (arith, as_many)) parts.1 others split.1 rest)
            | inr over ↦
                let more : k < min d (c + b) = omega (arith, over, low, at.1) in
                let test : nat_lt k (min d (c + b)) ≡ true = grind (arith, nat_tests, more) in
                ap (λ p. p || reaches_past ds ks bs cs) test
          ]

-- where no size is reduced none is lost
pub none_loses : (sizes kept box first : List ℕ) → is_reduced sizes kept ≡ false → reaches_past sizes kept box first ≡ false
none_loses [] kept box first none = refl
none_loses (d ∷ ds) [] box first none = refl
none_loses (d ∷ ds) (k ∷ ks) [] first none = refl
none_loses (d ∷ ds) (k ∷ ks) (b ∷ bs) [] none = refl
none_loses (d ∷ ds) (k ∷ ks) (b ∷ bs) (c ∷ cs) none =
    let split = or_parts (nat_lt k d) (is_reduced ds ks) none in
    let least : d ≤ k = grind (arith, nat_tests, split.0) in
    let low : min d (c + b) ≤ k = omega (arith, least) in
    let here : nat_lt k (min d (c + b)) ≡ false = grind (arith, nat_tests, low) in
    ap₂ (λ (p q : Bool). p || q) here (none_loses ds ks bs cs split.1)
