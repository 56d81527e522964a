-- Which selected cells lie in a box: those at the positions of its spans.
use Rattle.std.proofs.Common.{◌≡◌, ℕ, ◌+◌, ◌-◌, ◌*◌, ◌/◌, ◌%◌, ◌<◌, ◌≤◌, List, [], ◌∷◌, length, refl, ap, ◌∙◌, arith}
use Rattle.std.specs.Prelude.{◌↔◌}
use Rattle.std.proofs.lemmas.Nat.{div-add-mod', div-mul-add, mod_below}
use Rattle.h5_model.specs.declared.hyperslab.Axis.{Axis}
use Rattle.h5_model.specs.Tree.Grid.{corner_of}
use Rattle.h5_model.specs.Tree.Places.{IsInside}
use Rattle.h5_model.specs.Views.Selection.{Slab}
use Rattle.h5_shape.specs.PartCells.{HoldsCell, selection_shape, selected_index}
use Rattle.h5_shape.specs.declared.parts.Span.{Span}
use Rattle.h5_shape.specs.InBox.{AreApart, AreSpans, AreSpansIn, IsCorner, IsSpanIn, number_along}

-- along one axis
in_span : (a : Axis) (c b t : ℕ) (s : Span) → 0 < b → c / b * b ≡ c → IsSpanIn a c b s → t < a.count * a.block
    → (number_along a t / b * b ≡ c) ↔ ((s.from ≤ t) × (t < s.from + s.length))
in_span a c b t s some first is inside =
    let x = number_along a t in
    let whole : x / b * b + x % b ≡ x = div-add-mod' x b in
    let small : x % b < b = mod_below x b some in (
      λ at. (is.2 t inside).0 (omega (arith, at, whole), omega (arith, at, whole, small)),
      λ held.
          let near = (is.2 t inside).1 held in
          let r : ℕ = x - c in
          let split : x ≡ c / b * b + r = omega (arith, near.0, first) in
          let low : r < b = omega (arith, near.0, near.1) in
          ap (λ n. n / b * b) split ∙ ap (λ n. n * b) (div-mul-add (c / b) b r low) ∙ first,
    )

-- a selected cell lies in the box just where its position is in the span of each dimension
pub held_in : (slab : Slab) (corner sizes : List ℕ) (spans : List Span) (at : List ℕ) → length corner ≡ length slab → AreSpansIn slab corner sizes spans → IsCorner sizes corner
    → IsInside (selection_shape slab) at → (corner_of sizes (selected_index slab at) ≡ corner) ↔ HoldsCell spans at
held_in [] [] [] [] [] long are first inside = (λ same. tt, λ held. refl)
held_in [] [] [] [] (t ∷ ts) long are first inside = absurd inside
held_in [] [] [] (s ∷ ss) at long are first inside = absurd are
held_in [] [] (b ∷ bs) spans at long are first inside = absurd first
held_in [] (c ∷ cs) sizes spans at long are first inside = absurd (omega (arith, long))
held_in (a ∷ rest) [] sizes spans at long are first inside = absurd (omega (arith, long))
held_in (a ∷ rest) (c ∷ cs) [] spans at long are first inside = absurd first
held_in (a ∷ rest) (c ∷ cs) (b ∷ bs) [] at long are first inside = absurd are
held_in (a ∷ rest) (c ∷ cs) (b ∷ bs) (s ∷ ss) [] long are first inside = absurd inside
held_in (a ∷ rest) (c ∷ cs) (b ∷ bs) (s ∷ ss) (t ∷ ts) long are first inside =
    let one = in_span a c b t s first.0.0 first.0.1 are.0 inside.0 in
    let more = held_in rest cs bs ss ts (omega (arith, long)) are.1 first.1 inside.1 in (
      λ same. (
        one.0 (let head : number_along a t / b * b ≡ c = cc in head),
        more.0 (let others : corner_of bs (selected_index rest ts) ≡ cs = cc in others),
      ),
      λ held. (λ i. one.1 held.0 i ∷ more.1 held.1 i),
    )

-- where a selected cell lies in the box, no span is empty
pub met_some : (slab : Slab) (corner sizes : List ℕ) (spans : List Span) (at : List ℕ) → AreApart slab → AreSpansIn slab corner sizes spans → HoldsCell spans at → AreSpans slab spans
met_some [] corner sizes [] at apart are held = tt
met_some [] corner sizes (s ∷ ss) at apart are held = absurd are
met_some (a ∷ rest) [] sizes spans at apart are held = absurd are
met_some (a ∷ rest) (c ∷ cs) [] spans at apart are held = absurd are
met_some (a ∷ rest) (c ∷ cs) (b ∷ bs) [] at apart are held = absurd are
met_some (a ∷ rest) (c ∷ cs) (b ∷ bs) (s ∷ ss) [] apart are held = absurd held
met_some (a ∷ rest) (c ∷ cs) (b ∷ bs) (s ∷ ss) (t ∷ ts) apart are held =
    (record { some = omega (arith, held.0.0, held.0.1); apart = apart.0.0; inside = are.0.0; top = apart.0.1 }, met_some rest cs bs ss ts apart.1 are.1 held.1)
