-- The next part of a selection.
use Rattle.std.proofs.Common.{◌≡◌, ℕ, suc, ◌+◌, ◌*◌, ◌<◌, ◌≤◌, List, [], ◌∷◌, ◌++◌, length, get_or, take, drop, set, map, refl, sym, ap, ◌∙◌, arith, false}
use Rattle.std.proofs.lemmas.List.{drop_more, length-drop, get_or-take, drop-set, take-take, drop_all, take-set}
use Rattle.std.specs.List.{flat_map}
use Rattle.h5_model.specs.declared.Axis.{Axis}
use Rattle.h5_model.specs.Views.Selection.{Slab}
use Rattle.h5_shape.specs.declared.parts.Span.{Span}
use Rattle.h5_shape.specs.Parts.{numbers_along, spans_from, spans_along, parts_of}
use Rattle.h5_shape.specs.PartsLeft.{spans_after, parts_after, parts_from, GoesOnTo, IsBoxed, IsOnAxis, AreBoxed, AreOnAxes}
use Rattle.h5_shape.proofs.AlongLaws.{length-numbers}

-- ---- one dimension before others

pub inner_steps : (a : Axis) (rest : Slab) (b : ℕ) (bs : List ℕ) (s : Span) (ss ts : List Span)
    → parts_after rest bs ss ≡ parts_from rest bs ts → parts_after (a ∷ rest) (b ∷ bs) (s ∷ ss) ≡ parts_from (a ∷ rest) (b ∷ bs) (s ∷ ts)
inner_steps a rest b bs s ss ts step =
    ap (λ (ps : List (List Span)). map (λ part. s ∷ part) ps ++ flat_map (λ t. map (λ part. t ∷ part) (parts_of rest bs)) (spans_after a b s)) step

pub outer_steps : (a : Axis) (rest : Slab) (b : ℕ) (bs : List ℕ) (s t : Span) (ss ts : List Span)
    → parts_after rest bs ss ≡ [] → parts_from rest bs ts ≡ parts_of rest bs → spans_after a b s ≡ t ∷ spans_after a b t
    → parts_after (a ∷ rest) (b ∷ bs) (s ∷ ss) ≡ parts_from (a ∷ rest) (b ∷ bs) (t ∷ ts)
outer_steps a rest b bs s t ss ts none first next =
    let under = λ (u : Span). map (λ part. u ∷ part) (parts_of rest bs) in
    ap (λ (ps : List (List Span)). map (λ part. s ∷ part) ps ++ flat_map under (spans_after a b s)) none
    ∙ ap (flat_map under) next
    ∙ ap (λ (ps : List (List Span)). map (λ part. t ∷ part) ps ++ flat_map under (spans_after a b t)) (sym first)

pub none_behind : (a : Axis) (rest : Slab) (b : ℕ) (bs : List ℕ) (s : Span) (ss : List Span)
    → parts_after rest bs ss ≡ [] → spans_after a b s ≡ [] → parts_after (a ∷ rest) (b ∷ bs) (s ∷ ss) ≡ []
none_behind a rest b bs s ss none last =
    let under = λ (u : Span). map (λ part. u ∷ part) (parts_of rest bs) in
    ap (λ (ps : List (List Span)). map (λ part. s ∷ part) ps ++ flat_map under (spans_after a b s)) none ∙ ap (flat_map under) last

pub first_part : (a : Axis) (rest : Slab) (b : ℕ) (bs : List ℕ) (t : Span) (ts : List Span)
    → parts_from rest bs ts ≡ parts_of rest bs → spans_along a b ≡ t ∷ spans_after a b t → parts_from (a ∷ rest) (b ∷ bs) (t ∷ ts) ≡ parts_of (a ∷ rest) (b ∷ bs)
first_part a rest b bs t ts first along =
    let under = λ (u : Span). map (λ part. u ∷ part) (parts_of rest bs) in
    ap (λ (ps : List (List Span)). map (λ part. t ∷ part) ps ++ flat_map under (spans_after a b t)) first ∙ ap (flat_map under) (sym along)

-- ---- from a dimension on

on_lengths : (slab : Slab) (boxes : List ℕ) (part : List Span) → AreOnAxes slab boxes part → (length slab ≡ length part) × (length boxes ≡ length part)
on_lengths [] [] [] h = (refl, refl)
on_lengths [] [] (s ∷ ss) h = absurd h
on_lengths [] (b ∷ bs) [] h = absurd h
on_lengths [] (b ∷ bs) (s ∷ ss) h = absurd h
on_lengths (a ∷ rest) [] [] h = absurd h
on_lengths (a ∷ rest) [] (s ∷ ss) h = absurd h
on_lengths (a ∷ rest) (b ∷ bs) [] h = absurd h
on_lengths (a ∷ rest) (b ∷ bs) (s ∷ ss) h = let below = on_lengths rest bs ss h.1 in (ap suc below.0, ap suc below.1)

pub on_more : (slab : Slab) (boxes : List ℕ) (part : List Span) (k : ℕ) (a0 : Axis) (s0 : Span) → k < length part
    → AreOnAxes (drop k slab) (drop k boxes) (drop k part)
    → (k < length slab) × (k < length boxes) × IsOnAxis (get_or slab k a0) (get_or boxes k 0) (get_or part k s0) × AreOnAxes (drop (k + 1) slab) (drop (k + 1) boxes) (drop (k + 1) part)
on_more slab boxes part k a0 s0 low h =
    let lengths = on_lengths (drop k slab) (drop k boxes) (drop k part) h in
    let first : k < length slab = omega (arith, lengths.0, length-drop k slab, length-drop k part) in
    let second : k < length boxes = omega (arith, lengths.1, length-drop k boxes, length-drop k part) in
    let whole : AreOnAxes (get_or slab k a0 ∷ drop (k + 1) slab) (get_or boxes k 0 ∷ drop (k + 1) boxes) (get_or part k s0 ∷ drop (k + 1) part) =
    rw (drop_more slab k a0 first, drop_more boxes k 0 second, drop_more part k s0 low) at h in
    (first, second, whole.0, whole.1)

boxed_lengths : (slab : Slab) (boxes : List ℕ) → AreBoxed slab boxes → length slab ≡ length boxes
boxed_lengths [] [] h = refl
boxed_lengths [] (b ∷ bs) h = absurd h
boxed_lengths (a ∷ rest) [] h = absurd h
boxed_lengths (a ∷ rest) (b ∷ bs) h = ap suc (boxed_lengths rest bs h.1)

pub boxed_more : (slab : Slab) (boxes : List ℕ) (k : ℕ) (a0 : Axis) → k < length slab → AreBoxed (drop k slab) (drop k boxes)
    → (k < length boxes) × IsBoxed (get_or slab k a0) (get_or boxes k 0) × AreBoxed (drop (k + 1) slab) (drop (k + 1) boxes)
boxed_more slab boxes k a0 low h =
    let second : k < length boxes = omega (arith, boxed_lengths (drop k slab) (drop k boxes) h, length-drop k boxes, length-drop k slab) in
    let whole : AreBoxed (get_or slab k a0 ∷ drop (k + 1) slab) (get_or boxes k 0 ∷ drop (k + 1) boxes) = rw (drop_more slab k a0 low, drop_more boxes k 0 second) at h in
    (second, whole.0, whole.1)

-- ---- steps

pub start_first : (slab : Slab) (boxes : List ℕ) (ts : List Span) (k : ℕ) (a0 : Axis) (v : Span) → k < length slab → k < length boxes → k < length ts
    → parts_from (drop (k + 1) slab) (drop (k + 1) boxes) (drop (k + 1) ts) ≡ parts_of (drop (k + 1) slab) (drop (k + 1) boxes)
    → spans_along (get_or slab k a0) (get_or boxes k 0) ≡ v ∷ spans_after (get_or slab k a0) (get_or boxes k 0) v
    → parts_from (drop k slab) (drop k boxes) (drop k (set ts k v)) ≡ parts_of (drop k slab) (drop k boxes)
start_first slab boxes ts k a0 v la lb lt first along =
    rw (drop_more slab k a0 la, drop_more boxes k 0 lb, drop-set ts k v lt)
    (first_part (get_or slab k a0) (drop (k + 1) slab) (get_or boxes k 0) (drop (k + 1) boxes) v (drop (k + 1) ts) first along)

pub set_on : (slab : Slab) (boxes : List ℕ) (ts : List Span) (k : ℕ) (a0 : Axis) (v : Span) → k < length slab → k < length boxes → k < length ts
    → AreOnAxes (drop (k + 1) slab) (drop (k + 1) boxes) (drop (k + 1) ts) → IsOnAxis (get_or slab k a0) (get_or boxes k 0) v
    → AreOnAxes (drop k slab) (drop k boxes) (drop k (set ts k v))
set_on slab boxes ts k a0 v la lb lt rest here = rw (drop_more slab k a0 la, drop_more boxes k 0 lb, drop-set ts k v lt) (here, rest)

pub kept_at : (ss ts : List Span) (k : ℕ) (s0 : Span) → take (k + 1) ts ≡ take (k + 1) ss → get_or ts k s0 ≡ get_or ss k s0
kept_at ss ts k s0 kept =
    let low : k < k + 1 = omega arith in
    sym (get_or-take (k + 1) ts k s0 low) ∙ ap (λ (l : List Span). get_or l k s0) kept ∙ get_or-take (k + 1) ss k s0 low

pub kept_before : (ss ts : List Span) (k : ℕ) → take (k + 1) ts ≡ take (k + 1) ss → take k ts ≡ take k ss
kept_before ss ts k kept =
    let low : k ≤ k + 1 = omega arith in
    sym (take-take k (k + 1) ts low) ∙ ap (take k) kept ∙ take-take k (k + 1) ss low

pub kept_set : (ss ts : List Span) (k : ℕ) (v : Span) → take (k + 1) ts ≡ take (k + 1) ss → take k (set ts k v) ≡ take k ss
kept_set ss ts k v kept = take-set ts k v ∙ kept_before ss ts k kept

pub go_inner : (slab : Slab) (boxes : List ℕ) (ss ts : List Span) (k : ℕ) (a0 : Axis) (s0 : Span) → k < length slab → k < length boxes → k < length ss → k < length ts
    → take (k + 1) ts ≡ take (k + 1) ss
    → parts_after (drop (k + 1) slab) (drop (k + 1) boxes) (drop (k + 1) ss) ≡ parts_from (drop (k + 1) slab) (drop (k + 1) boxes) (drop (k + 1) ts)
    → parts_after (drop k slab) (drop k boxes) (drop k ss) ≡ parts_from (drop k slab) (drop k boxes) (drop k ts)
go_inner slab boxes ss ts k a0 s0 la lb ls lt kept step =
    rw (drop_more slab k a0 la, drop_more boxes k 0 lb, drop_more ss k s0 ls, drop_more ts k s0 lt, kept_at ss ts k s0 kept)
    (inner_steps (get_or slab k a0) (drop (k + 1) slab) (get_or boxes k 0) (drop (k + 1) boxes) (get_or ss k s0) (drop (k + 1) ss) (drop (k + 1) ts) step)

pub inner_on : (slab : Slab) (boxes : List ℕ) (ss ts : List Span) (k : ℕ) (a0 : Axis) (s0 : Span) → k < length slab → k < length boxes → k < length ts
    → take (k + 1) ts ≡ take (k + 1) ss → AreOnAxes (drop (k + 1) slab) (drop (k + 1) boxes) (drop (k + 1) ts)
    → IsOnAxis (get_or slab k a0) (get_or boxes k 0) (get_or ss k s0) → AreOnAxes (drop k slab) (drop k boxes) (drop k ts)
inner_on slab boxes ss ts k a0 s0 la lb lt kept rest here =
    rw (drop_more slab k a0 la, drop_more boxes k 0 lb, drop_more ts k s0 lt, kept_at ss ts k s0 kept) (here, rest)

pub go_outer : (slab : Slab) (boxes : List ℕ) (ss ts : List Span) (k : ℕ) (a0 : Axis) (s0 v : Span) → k < length slab → k < length boxes → k < length ss → k < length ts
    → take (k + 1) ts ≡ take (k + 1) ss
    → parts_after (drop (k + 1) slab) (drop (k + 1) boxes) (drop (k + 1) ss) ≡ []
    → parts_from (drop (k + 1) slab) (drop (k + 1) boxes) (drop (k + 1) ts) ≡ parts_of (drop (k + 1) slab) (drop (k + 1) boxes)
    → spans_after (get_or slab k a0) (get_or boxes k 0) (get_or ts k s0) ≡ v ∷ spans_after (get_or slab k a0) (get_or boxes k 0) v
    → parts_after (drop k slab) (drop k boxes) (drop k ss) ≡ parts_from (drop k slab) (drop k boxes) (drop k (set ts k v))
go_outer slab boxes ss ts k a0 s0 v la lb ls lt kept none first next =
    let a = get_or slab k a0 in
    let b = get_or boxes k 0 in
    let here : spans_after a b (get_or ss k s0) ≡ v ∷ spans_after a b v = ap (spans_after a b) (sym (kept_at ss ts k s0 kept)) ∙ next in
    rw (drop_more slab k a0 la, drop_more boxes k 0 lb, drop_more ss k s0 ls, drop-set ts k v lt)
    (outer_steps a (drop (k + 1) slab) b (drop (k + 1) boxes) (get_or ss k s0) v (drop (k + 1) ss) (drop (k + 1) ts) none first here)

-- no selected number is left
pub none_after : (a : Axis) (b : ℕ) (s : Span) → a.count * a.block ≤ s.from + s.length → spans_after a b s ≡ []
none_after a b s last = ap (spans_from b (s.from + s.length)) (drop_all (s.from + s.length) (numbers_along a) (omega (arith, length-numbers a)))

pub go_end : (slab : Slab) (boxes : List ℕ) (ss ts : List Span) (k : ℕ) (a0 : Axis) (s0 : Span) → k < length slab → k < length boxes → k < length ss
    → take (k + 1) ts ≡ take (k + 1) ss
    → parts_after (drop (k + 1) slab) (drop (k + 1) boxes) (drop (k + 1) ss) ≡ []
    → (get_or slab k a0).count * (get_or slab k a0).block ≤ (get_or ts k s0).from + (get_or ts k s0).length
    → parts_after (drop k slab) (drop k boxes) (drop k ss) ≡ []
go_end slab boxes ss ts k a0 s0 la lb ls kept none last =
    let a = get_or slab k a0 in
    let b = get_or boxes k 0 in
    let here : spans_after a b (get_or ss k s0) ≡ [] = ap (spans_after a b) (sym (kept_at ss ts k s0 kept)) ∙ none_after a b (get_or ts k s0) last in
    rw (drop_more slab k a0 la, drop_more boxes k 0 lb, drop_more ss k s0 ls)
    (none_behind a (drop (k + 1) slab) b (drop (k + 1) boxes) (get_or ss k s0) (drop (k + 1) ss) none here)

pub go_none : (slab : Slab) (boxes : List ℕ) (part : List Span) → AreOnAxes slab boxes part → length part ≤ 0 → GoesOnTo slab boxes part false part
go_none [] [] [] h none = (refl, refl)
go_none [] [] (s ∷ ss) h none = absurd h
go_none [] (b ∷ bs) [] h none = absurd h
go_none [] (b ∷ bs) (s ∷ ss) h none = absurd h
go_none (a ∷ rest) [] [] h none = absurd h
go_none (a ∷ rest) [] (s ∷ ss) h none = absurd h
go_none (a ∷ rest) (b ∷ bs) [] h none = absurd h
go_none (a ∷ rest) (b ∷ bs) (s ∷ ss) h none = absurd (omega arith)
