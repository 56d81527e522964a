use Rattle.std.proofs.Common.{◌≡◌, ℕ, ◌+◌, ◌-◌, ◌/◌, ◌%◌, ◌*◌, ◌<◌, ◌≤◌, inl, inr, List, [], ◌∷◌, length, get_or, min, refl, sym, ap, ap₂, subst, ◌∙◌, arith, drop}
use Rattle.std.proofs.lemmas.Bool.{cases_lt}
use Rattle.std.proofs.lemmas.List.{drop_all}
use Rattle.std.proofs.lemmas.Nat.{div-add-mod'}
use Rattle.h5_model.specs.Tree.Grid.{corner_of, inner_of}
use Rattle.h5_model.specs.Tree.Places.{cells, index_of, place_of}
use Rattle.h5_model.proofs.PlaceLaws.{index-place, inside-index, place_below}
use Rattle.h5_shape.proofs.GridBoxes.{length-index_of}
use Rattle.h5_shape.specs.InBox.{IsCorner}
use Rattle.h5_layout.specs.ChunkCells.{AreBeside, left_in_row}
use Rattle.h5_layout.specs.FoundChunks.{IsFirstCell}
use Rattle.h5_layout.proofs.BesideLaws.{beside_one, by_one, left_beside, some_left}
use Rattle.h5_layout.proofs.FoundBeside.{corner_is}
use Rattle.h5_layout.proofs.CornerInside.{corner_inside}
use Rattle.h5_layout.proofs.LocateLaws.{all_from, first_few, first_from, inner_from, inner_small, next_first, next_inner, next_rest, next_step, next_stride, some_cells, some_size, step_few, stride_small}
use Rattle.h5_layout.proofs.NextLaws.{corner_column}
use Rattle.h5_layout.proofs.locate.row_in_chunk.Goals as goal
use Rattle.h5_layout.proofs.locate.row_in_chunk.Goals.{then-k-sizes, else-k-sizes}

pub nonzero_rem-index : goal.nonzero_rem-index
nonzero_rem-index c =
    let some : 0 < cells c.args.sizes.now = omega (arith, c.requires.below) in
    some_size (c.loop-k.k - 1) c.args.sizes.now (omega arith) some

pub nonzero_div-rest : goal.nonzero_div-rest
nonzero_div-rest c =
    let some : 0 < cells c.args.sizes.now = omega (arith, c.requires.below) in
    some_size (c.loop-k.k - 1) c.args.sizes.now (omega arith) some

pub overflow_sub-sizes : goal.overflow_sub-sizes
overflow_sub-sizes c =
    let some : 0 < cells c.args.sizes.now = omega (arith, c.requires.below) in
    let low : 0 < get_or c.args.sizes.now (c.loop-k.k - 1) 0 = some_size (c.loop-k.k - 1) c.args.sizes.now (omega arith) some in
    omega arith

pub overflow_mul-inner : goal.overflow_mul-inner
overflow_mul-inner c =
    let i = c.loop-k.invariant in
    let some : 0 < cells c.args.sizes.now = omega (arith, c.requires.below) in
    let size : c.from-size.result ≡ get_or c.args.chunk.now (c.loop-k.k - 1) 0 = c.from-size.ensures ∙ c.size.ensures.size in
    let small = inner_small c.args.sizes.now c.args.chunk.now c.args.place c.requires.rank some (some_cells c.args.chunk.now c.requires.sizes.some)
    c.loop-k.k c.loop-k-test.true i.within c.loop-k.rest i.rest c.loop-k.stride c.loop-k.inner i.stride i.inner c.requires.small in
    rw size (omega (arith, small))

pub overflow_add-inner : goal.overflow_add-inner
overflow_add-inner c =
    let i = c.loop-k.invariant in
    let some : 0 < cells c.args.sizes.now = omega (arith, c.requires.below) in
    let size : c.from-size.result ≡ get_or c.args.chunk.now (c.loop-k.k - 1) 0 = c.from-size.ensures ∙ c.size.ensures.size in
    let small = inner_small c.args.sizes.now c.args.chunk.now c.args.place c.requires.rank some (some_cells c.args.chunk.now c.requires.sizes.some)
    c.loop-k.k c.loop-k-test.true i.within c.loop-k.rest i.rest c.loop-k.stride c.loop-k.inner i.stride i.inner c.requires.small in
    rw size (omega (arith, small))

pub overflow_mul-stride : goal.overflow_mul-stride
overflow_mul-stride c =
    let i = c.loop-k.invariant in
    let some : 0 < cells c.args.sizes.now = omega (arith, c.requires.below) in
    let size : c.from-size.result ≡ get_or c.args.chunk.now (c.loop-k.k - 1) 0 = c.from-size.ensures ∙ c.size.ensures.size in
    let small = stride_small c.args.sizes.now c.args.chunk.now c.args.place c.requires.rank some (some_cells c.args.chunk.now c.requires.sizes.some)
    c.loop-k.k c.loop-k-test.true i.within c.loop-k.rest i.rest c.loop-k.stride c.loop-k.inner i.stride i.inner c.requires.small in
    rw size (omega (arith, small))

pub overflow_mul-corner : goal.overflow_mul-corner
overflow_mul-corner c =
    let i = c.loop-k.invariant in
    let some : 0 < cells c.args.sizes.now = omega (arith, c.requires.below) in
    let size : c.from-size.result ≡ get_or c.args.chunk.now (c.loop-k.k - 1) 0 = c.from-size.ensures ∙ c.size.ensures.size in
    let few = first_few c.args.sizes.now c.args.chunk.now c.args.place c.requires.rank some (some_cells c.args.chunk.now c.requires.sizes.some)
    c.loop-k.k c.loop-k-test.true i.within c.loop-k.rest i.rest c.loop-k.step c.loop-k.corner i.step i.first c.requires.few in
    rw size (omega (arith, few))

pub overflow_add-corner : goal.overflow_add-corner
overflow_add-corner c =
    let i = c.loop-k.invariant in
    let some : 0 < cells c.args.sizes.now = omega (arith, c.requires.below) in
    let size : c.from-size.result ≡ get_or c.args.chunk.now (c.loop-k.k - 1) 0 = c.from-size.ensures ∙ c.size.ensures.size in
    let few = first_few c.args.sizes.now c.args.chunk.now c.args.place c.requires.rank some (some_cells c.args.chunk.now c.requires.sizes.some)
    c.loop-k.k c.loop-k-test.true i.within c.loop-k.rest i.rest c.loop-k.step c.loop-k.corner i.step i.first c.requires.few in
    rw size (omega (arith, few))

pub overflow_mul-step : goal.overflow_mul-step
overflow_mul-step c =
    let i = c.loop-k.invariant in
    let some : 0 < cells c.args.sizes.now = omega (arith, c.requires.below) in
    let few = step_few c.args.sizes.now c.args.chunk.now c.args.place c.requires.rank some (some_cells c.args.chunk.now c.requires.sizes.some)
    c.loop-k.k c.loop-k-test.true i.within c.loop-k.rest i.rest c.loop-k.step c.loop-k.corner i.step i.first c.requires.few in
    omega (arith, few)

-- the last dimension is the first one that is looked at
whole_rest : (sizes : List ℕ) (place k rest : ℕ) → rest ≡ place / cells (drop k sizes) → k ≡ length sizes → rest ≡ place
whole_rest sizes place k rest is end = is ∙ ap (λ (xs : List ℕ). place / cells xs) (drop_all k sizes (omega (arith, end))) ∙ by_one place

last_left : (sizes chunk : List ℕ) (place k rest : ℕ) → rest ≡ place → k ≡ length sizes
    → min (get_or sizes (k - 1) 0 - rest % get_or sizes (k - 1) 0) (get_or chunk (k - 1) 0 - rest % get_or sizes (k - 1) 0 % get_or chunk (k - 1) 0) ≡ left_in_row sizes chunk place
last_left sizes chunk place k rest all end =
    ap₂ (λ (r n : ℕ). min (get_or sizes (n - 1) 0 - r % get_or sizes (n - 1) 0) (get_or chunk (n - 1) 0 - r % get_or sizes (n - 1) 0 % get_or chunk (n - 1) 0)) all end

last_column : (sizes chunk : List ℕ) (place k rest : ℕ) → length chunk ≡ length sizes → 0 < k → place < cells sizes → rest ≡ place → k ≡ length sizes
    → rest % get_or sizes (k - 1) 0 - rest % get_or sizes (k - 1) 0 % get_or chunk (k - 1) 0 ≡ get_or (corner_of chunk (index_of sizes place)) (length sizes - 1) 0
last_column sizes chunk place k rest rank some below all end =
    let number : ℕ = place % get_or sizes (length sizes - 1) 0 in
    let box : ℕ = get_or chunk (length sizes - 1) 0 in
    let first : number - number % box ≡ number / box * box = omega (arith, div-add-mod' number box) in
    ap₂ (λ (r n : ℕ). r % get_or sizes (n - 1) 0 - r % get_or sizes (n - 1) 0 % get_or chunk (n - 1) 0) all end
    ∙ first ∙ sym (corner_column sizes chunk place rank (omega (arith, some, end)) below)

pub loop-k-preserved : goal.loop-k-preserved
loop-k-preserved c =
    let i = c.loop-k.invariant in
    let sizes = c.args.sizes.now in
    let chunk = c.args.chunk.now in
    let place = c.args.place in
    let k : ℕ = c.loop-k.k - 1 in
    let rest : ℕ = c.loop-k.rest in
    let some : 0 < cells sizes = omega (arith, c.requires.below) in
    let more : 0 < cells chunk = some_cells chunk c.requires.sizes.some in
    let size : c.from-size.result ≡ get_or chunk k 0 = c.from-size.ensures ∙ c.size.ensures.size in
    record {
      within = omega (arith, i.within);
      rest = next_rest sizes chunk place c.requires.rank some more c.loop-k.k c.loop-k-test.true i.within rest i.rest;
      stride = ap (λ (n : ℕ). c.loop-k.stride * n) size
          ∙ next_stride sizes chunk place c.requires.rank some more c.loop-k.k c.loop-k-test.true i.within rest i.rest c.loop-k.stride c.loop-k.inner i.stride i.inner;
      inner = ap (λ (n : ℕ). c.loop-k.inner + rest % get_or sizes k 0 % n * c.loop-k.stride) size
          ∙ next_inner sizes chunk place c.requires.rank some more c.loop-k.k c.loop-k-test.true i.within rest i.rest c.loop-k.stride c.loop-k.inner i.stride i.inner;
      step = next_step sizes chunk place c.requires.rank some more c.loop-k.k c.loop-k-test.true i.within rest i.rest c.loop-k.step c.loop-k.corner i.step i.first;
      first = ap (λ (n : ℕ). c.loop-k.corner + (rest % get_or sizes k 0 - rest % get_or sizes k 0 % n) * c.loop-k.step) size
          ∙ next_first sizes chunk place c.requires.rank some more c.loop-k.k c.loop-k-test.true i.within rest i.rest c.loop-k.step c.loop-k.corner i.step i.first;
      alone = λ end. absurd (omega (arith, end, i.within));
      left = λ before. elim c.if-k-sizes.branch [
        | then-k-sizes w ↦
            let end : c.loop-k.k ≡ length sizes = omega (arith, w.if-k-sizes.true) in
            w.cells-is ∙ w.min-cells.ensures ∙ ap (λ (n : ℕ). min (get_or sizes k 0 - rest % get_or sizes k 0) (n - rest % get_or sizes k 0 % n)) size
            ∙ last_left sizes chunk place c.loop-k.k rest (whole_rest sizes place c.loop-k.k rest i.rest end) end
        | else-k-sizes w ↦ w.cells-is ∙ i.left (omega (arith, w.if-k-sizes.false, i.within))
      ];
      scalar = λ end. absurd (omega (arith, end, i.within));
      column = λ before. elim c.if-k-sizes.branch [
        | then-k-sizes w ↦
            let end : c.loop-k.k ≡ length sizes = omega (arith, w.if-k-sizes.true) in
            w.column-is ∙ ap (λ (n : ℕ). rest % get_or sizes k 0 - rest % get_or sizes k 0 % n) size
            ∙ last_column sizes chunk place c.loop-k.k rest c.requires.rank c.loop-k-test.true c.requires.below (whole_rest sizes place c.loop-k.k rest i.rest end) end
        | else-k-sizes w ↦ w.column-is ∙ i.column (omega (arith, w.if-k-sizes.false, i.within))
      ];
    }

-- where the chunk begins
module _ (sizes chunk : List ℕ) (place : ℕ) (rank : length chunk ≡ length sizes) (each : (d : ℕ) → d < length chunk → 1 ≤ get_or chunk d 0) (below : place < cells sizes)
    (k corner : ℕ) (none : k ≡ 0) (is : corner ≡ first_from sizes chunk place k) where
  abbrev first : List ℕ
  first = corner_of chunk (index_of sizes place)

  some : 0 < cells sizes
  some = omega (arith, below)

  here : corner ≡ place_of sizes first
  here =
      is ∙ ap (first_from sizes chunk place) none
      ∙ ap (λ (index : List ℕ). place_of sizes (corner_of chunk index)) (all_from sizes chunk place rank some (some_cells chunk each) below)

  first_index : index_of sizes corner ≡ first
  first_index = ap (index_of sizes) here ∙ index-place sizes first (corner_inside sizes chunk (index_of sizes place) rank (inside-index sizes place below))

  first_cell : (column : ℕ) → column ≡ get_or first (length sizes - 1) 0 → IsFirstCell sizes chunk (record { place = corner; column = column })
  first_cell column last = record {
    inside = λ _. subst (λ (n : ℕ). n < cells sizes) (sym here) (place_below sizes first (corner_inside sizes chunk (index_of sizes place) rank (inside-index sizes place below)));
    is = subst (IsCorner chunk) (sym first_index) (corner_is chunk (index_of sizes place) each (length-index_of sizes place ∙ sym rank));
    column = last ∙ ap (λ (index : List ℕ). get_or index (length sizes - 1) 0) (sym first_index);
  }

-- the last number, where there are dimensions and where there are none
no_number : (sizes chunk : List ℕ) (place : ℕ) → length chunk ≡ length sizes → 0 ≡ length sizes → 0 ≡ get_or (corner_of chunk (index_of sizes place)) (length sizes - 1) 0
no_number [] [] place rank none = refl
no_number [] (c ∷ cs) place rank none = absurd (omega (arith, rank))
no_number (d ∷ ds) chunk place rank none = absurd (omega (arith, none))

pub returns-clause-first : goal.returns-clause-first
returns-clause-first c =
    let sizes = c.args.sizes.now in
    let chunk = c.args.chunk.now in
    let none : c.loop-k.k ≡ 0 = omega arith in
    first_cell sizes chunk c.args.place c.requires.rank c.requires.sizes.some c.requires.below c.loop-k.k c.loop-k.corner none c.loop-k.invariant.first c.loop-k.column
    (elim (cases_lt 0 (length sizes)) [
      | inl some ↦ c.loop-k.invariant.column (omega (arith, none, some))
      | inr end ↦
          let scalar : 0 ≡ length sizes = omega (arith, end) in
          c.loop-k.invariant.scalar (none ∙ scalar) ∙ no_number sizes chunk c.args.place c.requires.rank scalar
    ])

pub returns-clause-corner : goal.returns-clause-corner
returns-clause-corner c =
    let none : c.loop-k.k ≡ 0 = omega arith in
    first_index c.args.sizes.now c.args.chunk.now c.args.place c.requires.rank c.requires.sizes.some c.requires.below c.loop-k.k c.loop-k.corner none c.loop-k.invariant.first

pub returns-clause-inner : goal.returns-clause-inner
returns-clause-inner c =
    let sizes = c.args.sizes.now in
    let chunk = c.args.chunk.now in
    let some : 0 < cells sizes = omega (arith, c.requires.below) in
    let none : c.loop-k.k ≡ 0 = omega arith in
    c.loop-k.invariant.inner ∙ ap (inner_from sizes chunk c.args.place) none
    ∙ ap (λ is. place_of chunk (inner_of chunk is)) (all_from sizes chunk c.args.place c.requires.rank some (some_cells chunk c.requires.sizes.some) c.requires.below)

-- what is left of the row, where there are dimensions and where there are none
left_over : (sizes chunk : List ℕ) (place left : ℕ) → length chunk ≡ length sizes → ((d : ℕ) → d < length chunk → 1 ≤ get_or chunk d 0) → place < cells sizes
    → (0 ≡ length sizes → left ≡ 1) → (0 < length sizes → left ≡ left_in_row sizes chunk place) → (0 < left) × AreBeside sizes chunk place left
left_over sizes chunk place left rank each below alone more = elim (cases_lt 0 (length sizes)) [
  | inl some ↦
      let all = more some in
      (omega (arith, all, some_left sizes chunk place rank each below some), left_beside sizes chunk place rank each below some left all)
  | inr none ↦
      let one : left ≡ 1 = alone (omega (arith, none)) in
      (omega (arith, one), subst (AreBeside sizes chunk place) (sym one) (beside_one sizes chunk place))
]

found : (c : goal.After-loop-k) → (0 < c.loop-k.cells) × AreBeside c.args.sizes.now c.args.chunk.now c.args.place c.loop-k.cells
found c =
    let none : c.loop-k.k ≡ 0 = omega (arith, c.loop-k-test.false) in
    left_over c.args.sizes.now c.args.chunk.now c.args.place c.loop-k.cells c.requires.rank c.requires.sizes.some c.requires.below
    (λ end. c.loop-k.invariant.alone (none ∙ end)) (λ some. c.loop-k.invariant.left (omega (arith, none, some)))

pub returns-clause-some : goal.returns-clause-some
returns-clause-some c = (found c).0

pub returns-clause-beside : goal.returns-clause-beside
returns-clause-beside c = (found c).1
