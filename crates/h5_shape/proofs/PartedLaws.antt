-- The parts of a selection hold its cells, each once.
use Rattle.std.proofs.Common.{◌≡◌, ℕ, zero, suc, ◌+◌, ◌-◌, ◌*◌, ◌/◌, ◌%◌, ◌<◌, ◌≤◌, List, [], ◌∷◌, ◌++◌, length, get_or, map, refl, sym, ap, subst, ◌∙◌, arith, Less, Equal, Greater, true, false, cond}
use Rattle.std.specs.Prelude.{◌==◌, nat_lt}
use Rattle.std.specs.Ordering.{nat_cmp, is_lt, ordering_then}
use Rattle.std.specs.Cmp.Lexicographic.{slice_cmp}
use Rattle.std.proofs.lemmas.Bool.Decides.{nat_tests}
use Rattle.std.proofs.lemmas.List.{get_or_append_left, get_or-append-add, get_or-map, length-append, length-map}
use Rattle.std.proofs.lemmas.List.Elements.{All-append, All-cons, All-head, All-map, All-nil, All-tail, All-weaker}
use Rattle.std.proofs.lemmas.List.Kept.{AllPairs-cons}
use Rattle.std.specs.List.{All, AllPairs, Any, flat_map}
use Rattle.h5_model.specs.declared.Axis.{Axis}
use Rattle.h5_model.specs.Format.Links.{Before}
use Rattle.h5_model.specs.Tree.Grid.{corner_of}
use Rattle.h5_model.specs.Tree.Places.{IsInside}
use Rattle.h5_model.specs.Views.Selection.{Slab, selects_none}
use Rattle.h5_shape.specs.declared.parts.Span.{Span}
use Rattle.h5_shape.specs.Parts.{numbers_along, spans_along, parts_of}
use Rattle.h5_shape.specs.PartsLeft.{IsBoxed, AreBoxed}
use Rattle.h5_shape.specs.PartCells.{selection_shape, selected_index, HoldsCell, part_corner, AreParted}
use Rattle.h5_shape.proofs.AlongLaws.{length-numbers, number_is, numbers_rise}
use Rattle.h5_shape.proofs.SlabParts.{parts_none}
use Rattle.h5_shape.proofs.GroupLaws.{IsSpanOf, grouped, group_held, group_spans, group_order}

-- ---- lists

all_flat : {X Y : Type 0} (P : Y → Type 0) (f : X → List Y) (xs : List X) → All (λ x. All P (f x)) xs → All P (flat_map f xs)
all_flat P f [] h = All-nil P
all_flat P f (x ∷ xs) h =
    All-append P (f x) (flat_map f xs) (All-head (λ x. All P (f x)) x xs h) (all_flat P f xs (All-tail (λ x. All P (f x)) x xs h))

any_weaker : {X : Type 0} (P Q : X → Type 0) → ((x : X) → P x → Q x) → (xs : List X) → Any P xs → Any Q xs
any_weaker P Q weaker xs h = (h.0, h.1, h.2, h.3, weaker h.1 h.4)

any_left : {X : Type 0} (P : X → Type 0) (xs ys : List X) → Any P xs → Any P (xs ++ ys)
any_left P xs ys h = (h.0, h.1, omega (arith, h.2, length-append xs ys), get_or_append_left xs ys h.1 h.0 h.2 ∙ h.3, h.4)

any_right : {X : Type 0} (P : X → Type 0) (xs ys : List X) → Any P ys → Any P (xs ++ ys)
any_right P xs ys h = (length xs + h.0, h.1, omega (arith, h.2, length-append xs ys), get_or-append-add xs ys h.0 h.1 ∙ h.3, h.4)

any_map : {X Y : Type 0} (P : Y → Type 0) (f : X → Y) (xs : List X) → Any (λ x. P (f x)) xs → Any P (map f xs)
any_map P f xs h = (h.0, f h.1, omega (arith, h.2, length-map xs f), get_or-map f xs h.0 h.1 (f h.1) h.2 ∙ ap f h.3, h.4)

any_flat : {X Y : Type 0} (P : Y → Type 0) (f : X → List Y) (xs : List X) → Any (λ x. Any P (f x)) xs → Any P (flat_map f xs)
any_flat P f [] h = absurd (omega (arith, h.2))
any_flat P f (x ∷ xs) (zero, y, low, same, h) = any_left P (f x) (flat_map f xs) (subst (λ v. Any P (f v)) (sym same) h)
any_flat P f (x ∷ xs) (suc k, y, low, same, h) = any_right P (f x) (flat_map f xs) (any_flat P f xs (k, y, omega arith, same, h))

pairs_head : {X : Type 0} (R : X → X → Type 0) (x : X) (xs : List X) → AllPairs R (x ∷ xs) → All (R x) xs
pairs_head R x xs h = λ k d low. h 0 (suc k) d (omega arith) (omega arith)

pairs_tail : {X : Type 0} (R : X → X → Type 0) (x : X) (xs : List X) → AllPairs R (x ∷ xs) → AllPairs R xs
pairs_tail R x xs h = λ i j d order low. h (suc i) (suc j) d (omega arith) (omega arith)

pairs_append : {X : Type 0} (R : X → X → Type 0) (xs ys : List X) → AllPairs R xs → AllPairs R ys → All (λ x. All (R x) ys) xs → AllPairs R (xs ++ ys)
pairs_append R [] ys first second across = second
pairs_append R (x ∷ xs) ys first second across =
    AllPairs-cons R x (xs ++ ys) (All-append (R x) xs ys (pairs_head R x xs first) (All-head (λ z. All (R z) ys) x xs across))
    (pairs_append R xs ys (pairs_tail R x xs first) second (All-tail (λ z. All (R z) ys) x xs across))

pub pairs_map : {X Y : Type 0} (R : Y → Y → Type 0) (f : X → Y) (xs : List X) → AllPairs (λ x y. R (f x) (f y)) xs → AllPairs R (map f xs)
pairs_map R f [] h = λ i j d order low. absurd (omega arith)
pairs_map R f (x ∷ xs) h =
    AllPairs-cons R (f x) (map f xs) (All-map (R (f x)) f xs (pairs_head (λ y z. R (f y) (f z)) x xs h)) (pairs_map R f xs (pairs_tail (λ y z. R (f y) (f z)) x xs h))

-- ---- row-major order

pub before_less : (x y : ℕ) (xs ys : List ℕ) → x < y → Before (x ∷ xs) (y ∷ ys)
before_less x y xs ys less =
    let test : nat_lt x y ≡ true = grind (arith, nat_tests) in
    ap (λ b. is_lt (ordering_then (cond b Less (cond (x == y) Equal Greater)) (slice_cmp nat_cmp xs ys))) test

pub before_same : (x : ℕ) (xs ys : List ℕ) → Before xs ys → Before (x ∷ xs) (x ∷ ys)
before_same x xs ys order =
    let less : nat_lt x x ≡ false = grind (arith, nat_tests) in
    let same : (x == x) ≡ true = grind (arith, nat_tests) in
    ap (λ b. is_lt (ordering_then (cond b Less (cond (x == x) Equal Greater)) (slice_cmp nat_cmp xs ys))) less
    ∙ ap (λ b. is_lt (ordering_then (cond b Equal Greater) (slice_cmp nat_cmp xs ys))) same ∙ order

-- ---- parts

pub parts_held : (slab : Slab) (boxes at : List ℕ) → length boxes ≡ length slab → IsInside (selection_shape slab) at
    → Any (λ part. HoldsCell part at) (parts_of slab boxes)
parts_held [] boxes [] rank h = (0, [], omega arith, refl, tt)
parts_held [] boxes (t ∷ ts) rank h = absurd h
parts_held (a ∷ rest) boxes [] rank h = absurd h
parts_held (a ∷ rest) [] (t ∷ ts) rank h = absurd (omega arith)
parts_held (a ∷ rest) (b ∷ bs) (t ∷ ts) rank h =
    let below = parts_held rest bs ts (omega arith) h.1 in
    let here = group_held b 0 (numbers_along a) (spans_along a b) t (grouped b 0 (numbers_along a)) (omega arith) (omega (arith, length-numbers a, h.0)) in
    any_flat (λ part. HoldsCell part (t ∷ ts)) (λ s. map (λ p. s ∷ p) (parts_of rest bs)) (spans_along a b)
    (any_weaker (λ (s : Span). (s.from ≤ t) × (t < s.from + s.length)) (λ (s : Span). Any (λ part. HoldsCell part (t ∷ ts)) (map (λ p. s ∷ p) (parts_of rest bs)))
    (λ s first. any_map (λ part. HoldsCell part (t ∷ ts)) (λ p. s ∷ p) (parts_of rest bs)
    (any_weaker (λ p. HoldsCell p ts) (λ p. HoldsCell (s ∷ p) (t ∷ ts)) (λ p others. (first, others)) (parts_of rest bs) below)) (spans_along a b) here)

-- what a part holds are selected cells of its box, and it holds one
abbrev IsPartOf : Slab → List ℕ → List Span → Type 0
IsPartOf slab boxes part =
    ((at : List ℕ) → HoldsCell part at → IsInside (selection_shape slab) at × (corner_of boxes (selected_index slab at) ≡ part_corner part))
    × ((at : List ℕ) × HoldsCell part at)

scalar_part : IsPartOf [] [] []
scalar_part = (held, ([], tt)) where
  held : (at : List ℕ) → HoldsCell [] at → IsInside (selection_shape []) at × (corner_of [] (selected_index [] at) ≡ part_corner [])
  held [] h = (tt, refl)
  held (t ∷ ts) h = absurd h

part_grown : (a : Axis) (rest : Slab) (b : ℕ) (bs : List ℕ) (s : Span) (p : List Span) → IsBoxed a b → IsSpanOf b 0 (numbers_along a) s → IsPartOf rest bs p
    → IsPartOf (a ∷ rest) (b ∷ bs) (s ∷ p)
part_grown a rest b bs s p boxed span part = (held, (s.from ∷ part.1.0, ((omega arith, omega (arith, span.0)), part.1.1))) where
  held : (at : List ℕ) → HoldsCell (s ∷ p) at → IsInside (selection_shape (a ∷ rest)) at × (corner_of (b ∷ bs) (selected_index (a ∷ rest) at) ≡ part_corner (s ∷ p))
  held [] h = absurd h
  held (t ∷ ts) h =
      let cell = span.1 t h.0.0 h.0.1 in
      let low : t < a.count * a.block = omega (arith, cell.1, length-numbers a) in
      let none : t - 0 ≡ t = omega arith in
      let number : get_or (numbers_along a) (t - 0) 0 ≡ a.start + t / a.block * a.stride + t % a.block = ap (λ (i : ℕ). get_or (numbers_along a) i 0) none ∙ number_is a b t boxed low in
      let corner : (a.start + t / a.block * a.stride + t % a.block) / b * b ≡ s.corner = ap (λ (x : ℕ). x / b * b) (sym number) ∙ cell.2 in
      let below = part.0 ts h.1 in
      ((low, below.0), rw (corner, below.1) refl)

parts_cells : (slab : Slab) (boxes : List ℕ) → AreBoxed slab boxes → All (IsPartOf slab boxes) (parts_of slab boxes)
parts_cells [] [] boxed = All-cons (IsPartOf [] []) [] [] scalar_part (All-nil (IsPartOf [] []))
parts_cells [] (b ∷ bs) boxed = absurd boxed
parts_cells (a ∷ rest) [] boxed = absurd boxed
parts_cells (a ∷ rest) (b ∷ bs) boxed =
    let whole = IsPartOf (a ∷ rest) (b ∷ bs) in
    let below = parts_cells rest bs boxed.1 in
    all_flat whole (λ s. map (λ p. s ∷ p) (parts_of rest bs)) (spans_along a b)
    (All-weaker (IsSpanOf b 0 (numbers_along a)) (λ s. All whole (map (λ p. s ∷ p) (parts_of rest bs)))
    (λ s span. All-map whole (λ p. s ∷ p) (parts_of rest bs) (All-weaker (IsPartOf rest bs) (λ p. whole (s ∷ p)) (λ p part. part_grown a rest b bs s p boxed.0 span part) (parts_of rest bs) below))
    (spans_along a b) (group_spans b 0 (numbers_along a) (spans_along a b) (grouped b 0 (numbers_along a))))

abbrev CornersBefore : List Span → List Span → Type 0
CornersBefore p q = Before (part_corner p) (part_corner q)

product_order : (ss : List Span) (ps : List (List Span)) → AllPairs (λ (s t : Span). s.corner < t.corner) ss → AllPairs CornersBefore ps
    → AllPairs CornersBefore (flat_map (λ s. map (λ p. s ∷ p) ps) ss)
product_order [] ps rising order = λ i j d before low. absurd (omega arith)
product_order (s ∷ ss) ps rising order =
    pairs_append CornersBefore (map (λ p. s ∷ p) ps) (flat_map (λ t. map (λ p. t ∷ p) ps) ss)
    (pairs_map CornersBefore (λ p. s ∷ p) ps (λ i j d before low. before_same s.corner (part_corner (get_or ps i d)) (part_corner (get_or ps j d)) (order i j d before low)))
    (product_order ss ps (pairs_tail (λ (s t : Span). s.corner < t.corner) s ss rising) order)
    (All-map (λ p. All (CornersBefore p) (flat_map (λ t. map (λ q. t ∷ q) ps) ss)) (λ p. s ∷ p) ps (λ k d low. across (get_or ps k d))) where
      across : (p : List Span) → All (CornersBefore (s ∷ p)) (flat_map (λ t. map (λ q. t ∷ q) ps) ss)
      across p = all_flat (CornersBefore (s ∷ p)) (λ t. map (λ q. t ∷ q) ps) ss
          (All-weaker (λ (t : Span). s.corner < t.corner) (λ t. All (CornersBefore (s ∷ p)) (map (λ q. t ∷ q) ps))
          (λ t less. All-map (CornersBefore (s ∷ p)) (λ q. t ∷ q) ps (λ k d low. before_less s.corner t.corner (part_corner p) (part_corner (get_or ps k d)) less))
          ss (pairs_head (λ (s t : Span). s.corner < t.corner) s ss rising))

parts_order : (slab : Slab) (boxes : List ℕ) → AreBoxed slab boxes → AllPairs CornersBefore (parts_of slab boxes)
parts_order [] [] boxed = λ i j d before low. absurd (omega arith)
parts_order [] (b ∷ bs) boxed = absurd boxed
parts_order (a ∷ rest) [] boxed = absurd boxed
parts_order (a ∷ rest) (b ∷ bs) boxed =
    product_order (spans_along a b) (parts_of rest bs)
    (group_order b 0 (numbers_along a) (spans_along a b) (λ i j order low. numbers_rise a b i j boxed.0 order low) (grouped b 0 (numbers_along a))) (parts_order rest bs boxed.1)

pub parts-parted : (slab : Slab) (boxes : List ℕ) → length boxes ≡ length slab → AreBoxed slab boxes → AreParted slab boxes (parts_of slab boxes)
parts-parted slab boxes rank boxed =
    let all = parts_cells slab boxes boxed in
    record {
      held = λ at inside. parts_held slab boxes at rank inside;
      cells = λ k d low. (all k d low).0;
      some = λ k d low. (all k d low).1;
      order = pairs_map Before part_corner (parts_of slab boxes) (parts_order slab boxes boxed);
    }

-- a selection of no cell
pub parted-none : (slab : Slab) (boxes : List ℕ) → length boxes ≡ length slab → selects_none slab ≡ true → AreParted slab boxes []
parted-none slab boxes rank none = record {
  held = λ at inside.
      let never : Any (λ part. HoldsCell part at) [] = subst (λ (ps : List (List Span)). Any (λ part. HoldsCell part at) ps) (parts_none slab boxes rank none) (parts_held slab boxes at rank inside) in
      never;
  cells = λ k d low. absurd (omega arith);
  some = λ k d low. absurd (omega arith);
  order = λ i j d order low. absurd (omega arith);
}
