-- What a patch leaves of the kept cells: those in the box have the array's values, and all others stay.
use Rattle.std.proofs.Common.{◌≡◌, ℕ, zero, suc, ◌+◌, ◌*◌, ◌<◌, ◌≤◌, ◌⊎◌, inl, inr, ℤ, List, [], ◌∷◌, ◌++◌, length, refl, sym, ap, ◌∙◌, subst, arith, append_assoc, append-nil}
use Rattle.std.proofs.lemmas.Bool.{cases_order}
use Rattle.std.proofs.Math.Nat.{mul-le-mul_right}
use Rattle.std.specs.List.{AllByRecursion, flat_map, range_with_len}
use Rattle.std.proofs.lemmas.Nat.{same_from_place}
use Rattle.h5_bytes.specs.Bytes.{part, with_part}
use Rattle.h5_bytes.proofs.PartLaws.{length-with_part}
use Rattle.h5_bytes.proofs.BlockLaws.{all_append}
use Rattle.h5_model.specs.Edits.Applied.{cell_or_fill}
use Rattle.h5_model.specs.Format.Fixed.{Fixed, bytes_of}
use Rattle.h5_model.specs.Tree.Objects.{Dataset}
use Rattle.h5_model.specs.Tree.Places.{IsInside, cells, place_of}
use Rattle.h5_model.specs.Views.Selection.{Slab, selected_cells}
use Rattle.h5_model.proofs.FixedLaws.{length-bytes_of}
use Rattle.h5_shape.specs.PartCells.{HoldsCell, selection_shape, selected_index}
use Rattle.h5_shape.specs.declared.parts.Span.{Span}
use Rattle.h5_shape.specs.InBox.{AreApart, AreSpans, AreSpansIn, IsCorner, number_along}
use Rattle.h5_file.specs.Patched.{IsPatched, with_writes, writes_in}
use Rattle.h5_shape.proofs.InBoxCells.{held_in, met_some}
use Rattle.h5_shape.proofs.InBoxLaws.{shape_cells}
use Rattle.h5_file.proofs.PartWritten.{part_else, part_here}
use Rattle.h5_file.proofs.Writes.{with_writes-append}

-- ---- lists of writes

all_flat : {X : Type 0} (P : X → Type 0) (g : ℕ → List X) (from n : ℕ) → ((u : ℕ) → from ≤ u → u < from + n → AllByRecursion P (g u)) → AllByRecursion P (flat_map g (range_with_len from n))
all_flat P g from zero each = tt
all_flat P g from (suc n) each =
    all_append P (g from) (flat_map g (range_with_len (from + 1) n)) (each from (omega arith) (omega arith))
    (all_flat P g (from + 1) n (λ u low high. each u (omega (arith, low)) (omega (arith, high))))

-- a place below so many
abbrev IsLow : ℕ → ℕ × ℤ → Type 0
IsLow N w = w.0 < N

-- another place than this one, below so many
abbrev IsElse : ℕ → ℕ → ℕ × ℤ → Type 0
IsElse N p w = ((w.0 < p) ⊎ (p < w.0)) × (w.0 < N)

module _ (t : Fixed) (N : ℕ) where
  room_of : (p long : ℕ) → p < N → N * t.size ≤ long → p * t.size + t.size ≤ long
  room_of p long low room = let more : (p + 1) * t.size ≤ N * t.size = mul-le-mul_right t.size (omega (arith, low)) in omega (arith, more, room)

  pub length-with_writes : (ws : List (ℕ × ℤ)) (bytes : List ℕ) → AllByRecursion (IsLow N) ws → N * t.size ≤ length bytes → length (with_writes t ws bytes) ≡ length bytes
  length-with_writes [] bytes all room = refl
  length-with_writes (w ∷ ws) bytes all room =
      let next = with_part (w.0 * t.size) (bytes_of t w.1) bytes in
      let same : length next ≡ length bytes = length-with_part (w.0 * t.size) (bytes_of t w.1) bytes (omega (arith, room_of w.0 (length bytes) all.0 room, length-bytes_of t w.1)) in
      length-with_writes ws next all.1 (omega (arith, same, room)) ∙ same

  with_room : (p : ℕ) (ws : List (ℕ × ℤ)) (long : ℕ) → N * t.size ≤ long → AllByRecursion (IsElse N p) ws
      → AllByRecursion (λ (w : ℕ × ℤ). ((w.0 < p) ⊎ (p < w.0)) × (w.0 * t.size + t.size ≤ long)) ws
  with_room p [] long room all = tt
  with_room p (w ∷ ws) long room all = ((all.0.0, room_of w.0 long all.0.1 room), with_room p ws long room all.1)

  pub left_there : (p : ℕ) (ws : List (ℕ × ℤ)) (bytes : List ℕ) → N * t.size ≤ length bytes → AllByRecursion (IsElse N p) ws → part (p * t.size) t.size (with_writes t ws bytes) ≡ part (p * t.size) t.size bytes
  left_there p ws bytes room all = part_else t p ws bytes (length bytes) refl (with_room p ws (length bytes) room all)

  -- one position writes there, and the others elsewhere
  one_hit : (p : ℕ) (value : List ℕ) (g : ℕ → List (ℕ × ℤ)) (u from n : ℕ) → from ≤ u → u < from + n
      → ((x : ℕ) → from ≤ x → x < from + n → AllByRecursion (IsLow N) (g x))
      → ((x : ℕ) → from ≤ x → x < from + n → (x < u) ⊎ (u < x) → AllByRecursion (IsElse N p) (g x))
      → ((bytes : List ℕ) → N * t.size ≤ length bytes → part (p * t.size) t.size (with_writes t (g u) bytes) ≡ value)
      → (bytes : List ℕ) → N * t.size ≤ length bytes → part (p * t.size) t.size (with_writes t (flat_map g (range_with_len from n)) bytes) ≡ value
  one_hit p value g u from zero low high lows others hit bytes room = absurd (omega (arith, low, high))
  one_hit p value g u from (suc n) low high lows others hit bytes room =
      let rest = flat_map g (range_with_len (from + 1) n) in
      let next = with_writes t (g from) bytes in
      let same : length next ≡ length bytes = length-with_writes (g from) bytes (lows from (omega arith) (omega arith)) room in
      let more : N * t.size ≤ length next = omega (arith, same, room) in
      ap (part (p * t.size) t.size) (with_writes-append t (g from) rest bytes)
      ∙ elim (cases_order from u) [
        | inl equal ↦
            left_there p rest next more (all_flat (IsElse N p) g (from + 1) n (λ x above below. others x (omega (arith, above)) (omega (arith, below)) (inr (omega (arith, above, equal)))))
            ∙ subst (λ x. part (p * t.size) t.size (with_writes t (g x) bytes) ≡ value) (sym equal) (hit bytes room)
        | inr other ↦ elim other [
          | inl less ↦ one_hit p value g u (from + 1) n (omega (arith, less)) (omega (arith, high)) (λ x above below. lows x (omega (arith, above)) (omega (arith, below)))
              (λ x above below. others x (omega (arith, above)) (omega (arith, below))) hit next more
          | inr more_than ↦ absurd (omega (arith, more_than, low))
        ]
      ]

-- ---- the writes at spans

-- the rows of a place: w of them, each of so many cells
row_low : (place u w c N : ℕ) → u < w → (place + 1) * (w * c) ≤ N → (place * w + u + 1) * c ≤ N
row_low place u w c N small room =
    let less : (place * w + u + 1) * c ≤ (place * w + w) * c = mul-le-mul_right c (omega (arith, small)) in
    let same : (place + 1) * (w * c) ≡ (place * w + w) * c = omega arith in
    omega (arith, less, same, room)

module _ (d : Dataset) (N : ℕ) where
  pub low_writes : (slab : Slab) (spans : List Span) (place : ℕ) (front : List ℕ) → AreSpans slab spans → (place + 1) * cells (selection_shape slab) ≤ N
      → AllByRecursion (IsLow N) (writes_in d slab spans place front)
  low_writes [] [] place front are room = (omega (arith, room), tt)
  low_writes [] (s ∷ ss) place front are room = absurd are
  low_writes (a ∷ rest) [] place front are room = absurd are
  low_writes (a ∷ rest) (s ∷ ss) place front are room =
      let w = a.count * a.block in
      all_flat (IsLow N) (λ u. writes_in d rest ss (place * w + u) (front ++ number_along a u ∷ [])) s.from s.length
      (λ u low high. low_writes rest ss (place * w + u) (front ++ number_along a u ∷ []) are.1
      (row_low place u w (cells (selection_shape rest)) N (omega (arith, high, are.0.inside)) room))

  pub else_writes : (slab : Slab) (spans : List Span) (place base : ℕ) (front at : List ℕ) → AreSpans slab spans → (place + 1) * cells (selection_shape slab) ≤ N
      → IsInside (selection_shape slab) at → (place ≡ base → HoldsCell spans at → ⊥)
      → AllByRecursion (IsElse N (base * cells (selection_shape slab) + place_of (selection_shape slab) at)) (writes_in d slab spans place front)
  else_writes [] [] place base front [] are room inside apart = (
    (
      elim (cases_order place base) [
        | inl equal ↦ absurd (apart equal tt)
        | inr other ↦ elim other [ inl less ↦ inl (omega (arith, less)) | inr more ↦ inr (omega (arith, more)) ]
      ],
      omega (arith, room),
    ),
    tt,
  )
  else_writes [] [] place base front (t ∷ ts) are room inside apart = absurd inside
  else_writes [] (s ∷ ss) place base front at are room inside apart = absurd are
  else_writes (a ∷ rest) [] place base front at are room inside apart = absurd are
  else_writes (a ∷ rest) (s ∷ ss) place base front [] are room inside apart = absurd inside
  else_writes (a ∷ rest) (s ∷ ss) place base front (t ∷ ts) are room inside apart =
      let w = a.count * a.block in
      let c = cells (selection_shape rest) in
      let g = λ (u : ℕ). writes_in d rest ss (place * w + u) (front ++ number_along a u ∷ []) in
      let is : (base * w + t) * c + place_of (selection_shape rest) ts ≡ base * (w * c) + (t * c + place_of (selection_shape rest) ts) = omega arith in
      subst (λ p. AllByRecursion (IsElse N p) (flat_map g (range_with_len s.from s.length))) is
      (all_flat (IsElse N ((base * w + t) * c + place_of (selection_shape rest) ts)) g s.from s.length (λ u low high.
      let small : u < w = omega (arith, high, are.0.inside) in
      else_writes rest ss (place * w + u) (base * w + t) (front ++ number_along a u ∷ []) ts are.1 (row_low place u w c N small room) inside.1 (λ same held.
      let both = same_from_place place u base t w small inside.0 same in
      apart both.0 ((omega (arith, low, both.1), omega (arith, high, both.1)), held))))

  pub held_write : (slab : Slab) (spans : List Span) (place : ℕ) (front at bytes : List ℕ) → AreSpans slab spans → (place + 1) * cells (selection_shape slab) ≤ N
      → IsInside (selection_shape slab) at → HoldsCell spans at → N * d.fixed.size ≤ length bytes
      → part ((place * cells (selection_shape slab) + place_of (selection_shape slab) at) * d.fixed.size) d.fixed.size (with_writes d.fixed (writes_in d slab spans place front) bytes)
      ≡ bytes_of d.fixed (cell_or_fill d (front ++ selected_index slab at))
  held_write [] [] place front [] bytes are room inside held long =
      let p : place ≡ place * 1 + 0 = omega arith in
      part_here d.fixed (place * 1 + 0) (place, cell_or_fill d front) [] bytes p (room_of d.fixed N place (length bytes) (omega (arith, room)) long) tt
      ∙ ap (λ (xs : List ℕ). bytes_of d.fixed (cell_or_fill d xs)) (sym (append-nil front))
  held_write [] [] place front (t ∷ ts) bytes are room inside held long = absurd inside
  held_write [] (s ∷ ss) place front at bytes are room inside held long = absurd are
  held_write (a ∷ rest) [] place front at bytes are room inside held long = absurd are
  held_write (a ∷ rest) (s ∷ ss) place front [] bytes are room inside held long = absurd inside
  held_write (a ∷ rest) (s ∷ ss) place front (t ∷ ts) bytes are room inside held long =
      let w = a.count * a.block in
      let c = cells (selection_shape rest) in
      let g = λ (u : ℕ). writes_in d rest ss (place * w + u) (front ++ number_along a u ∷ []) in
      let value = bytes_of d.fixed (cell_or_fill d (front ++ selected_index (a ∷ rest) (t ∷ ts))) in
      let p = (place * w + t) * c + place_of (selection_shape rest) ts in
      let is : p ≡ place * (w * c) + (t * c + place_of (selection_shape rest) ts) = omega arith in
      let small = λ (u : ℕ) (high : u < s.from + s.length). (let less : u < w = omega (arith, high, are.0.inside) in less) in
      subst (λ n. part (n * d.fixed.size) d.fixed.size (with_writes d.fixed (flat_map g (range_with_len s.from s.length)) bytes) ≡ value) is
      (one_hit d.fixed N p value g t s.from s.length held.0.0 held.0.1
      (λ u low high. low_writes rest ss (place * w + u) (front ++ number_along a u ∷ []) are.1 (row_low place u w c N (small u high) room))
      (λ u low high other. else_writes rest ss (place * w + u) (place * w + t) (front ++ number_along a u ∷ []) ts are.1 (row_low place u w c N (small u high) room) inside.1
      (λ same _. let both = same_from_place place u place t w (small u high) inside.0 same in elim other [ inl less ↦ omega (arith, less, both.1) | inr more ↦ omega (arith, more, both.1) ]))
      (λ bytes long. held_write rest ss (place * w + t) (front ++ number_along a t ∷ []) ts bytes are.1 (row_low place t w c N inside.0 room) inside.1 held.1 long
      ∙ ap (λ (xs : List ℕ). bytes_of d.fixed (cell_or_fill d xs)) (append_assoc front (number_along a t ∷ []) (selected_index rest ts)))
      bytes long)

-- ---- one box

pub corner_rank : (box corner : List ℕ) → IsCorner box corner → length box ≡ length corner
corner_rank [] [] are = refl
corner_rank [] (c ∷ cs) are = absurd are
corner_rank (b ∷ bs) [] are = absurd are
corner_rank (b ∷ bs) (c ∷ cs) are = ap suc (corner_rank bs cs are.1)

module _ (d : Dataset) (slab : Slab) (corner box : List ℕ) (spans : List Span) (old : List ℕ) (ranks : length corner ≡ length slab) (first : IsCorner box corner)
    (apart : AreApart slab) (are_in : AreSpansIn slab corner box spans) where
  pub patched_then : AreSpans slab spans → (new : List ℕ) → length old ≡ selected_cells slab * d.fixed.size → new ≡ with_writes d.fixed (writes_in d slab spans 0 []) old → IsPatched d slab corner box old new
  patched_then are new long is =
      let N = cells (selection_shape slab) in
      let count : (0 + 1) * N ≤ N = omega arith in
      let bytes : N * d.fixed.size ≡ selected_cells slab * d.fixed.size = ap (λ n. n * d.fixed.size) (shape_cells slab) in
      let room : N * d.fixed.size ≤ length old = omega (arith, bytes, long) in
      let place = λ (at : List ℕ). (let same : 0 * N + place_of (selection_shape slab) at ≡ place_of (selection_shape slab) at = omega arith in same) in
      record {
        long = ap length is ∙ length-with_writes d.fixed N (writes_in d slab spans 0 []) old (low_writes d N slab spans 0 [] are count) room;
        inside = λ at inside same.
            ap (λ bs. part (place_of (selection_shape slab) at * d.fixed.size) d.fixed.size bs) is
            ∙ subst (λ p. part (p * d.fixed.size) d.fixed.size (with_writes d.fixed (writes_in d slab spans 0 []) old) ≡ bytes_of d.fixed (cell_or_fill d (selected_index slab at))) (place at)
            (held_write d N slab spans 0 [] at old are count inside ((held_in slab corner box spans at ranks are_in first inside).0 same) room);
        outside = λ at inside other.
            ap (λ bs. part (place_of (selection_shape slab) at * d.fixed.size) d.fixed.size bs) is
            ∙ left_there d.fixed N (place_of (selection_shape slab) at) (writes_in d slab spans 0 []) old room
            (subst (λ p. AllByRecursion (IsElse N p) (writes_in d slab spans 0 [])) (place at)
            (else_writes d N slab spans 0 0 [] at are count inside (λ _ held. other ((held_in slab corner box spans at ranks are_in first inside).1 held))));
      }

  pub patched_else : (AreSpans slab spans → ⊥) → IsPatched d slab corner box old old
  patched_else none = record {
    long = refl;
    inside = λ at inside same. absurd (none (met_some slab corner box spans at apart are_in ((held_in slab corner box spans at ranks are_in first inside).0 same)));
    outside = λ at inside other. refl;
  }
