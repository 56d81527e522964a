use Rattle.std.proofs.Common.{◌≡◌, ℕ, ◌+◌, ◌*◌, ◌<◌, ◌≤◌, List, [], ◌∷◌, length, Option, None, Some, refl, sym, ap, ◌∙◌, subst, arith}
use Rattle.std.specs.Prelude.{Ok}
use Rattle.std.specs.FinMap.{get}
use Rattle.std.proofs.Math.Nat.{mul-le-mul_right}
use Rattle.h5_model.specs.Format.Chunks.{Chunks}
use Rattle.h5_model.specs.Format.Fixed.{Fixed}
use Rattle.h5_model.specs.Format.Layout.{InChunks}
use Rattle.h5_model.specs.Format.Limits.{most_cells}
use Rattle.h5_model.specs.Format.Reached.{Shape}
use Rattle.h5_msg.specs.Layouts.{layout_in}
use Rattle.h5_model.specs.Format.Described.{Described}
use Rattle.h5_model.specs.Tree.Grid.{corner_of, inner_of}
use Rattle.h5_model.specs.Tree.Places.{cells, index_of, place_of}
use Rattle.h5_layout.specs.ArrayChunks.{ArrayChunks, IsInChunksOf}
use Rattle.h5_layout.specs.ChunkCells.{AreBeside, left_in_row}
use Rattle.h5_layout.specs.Data.{chunk_shape, stored_chunks}
use Rattle.h5_layout.specs.RunStorage.{IsParted}
use Rattle.h5_layout.specs.Standing.{IsStandingAt}
use Rattle.h5_layout.specs.declared.lacking.Missing.TheVariants as missing
use Rattle.h5_layout.specs.declared.stored_run.RunStorage.TheVariants as storage
use Rattle.h5_layout.proofs.DataLaws.{few_cells}
use Rattle.h5_layout.proofs.RunStorageLaws.{chunk_missing, inner_low, more_than_row, row_absent, row_stands, standing_first, told_below}
use Rattle.h5_layout.proofs.stored_run.storage_in_chunks.Goals as goal
use Rattle.h5_layout.proofs.stored_run.storage_in_chunks.Goals.{After-row_in_chunk-row, After-stored_at}

-- the run in its chunk
module _ (c : After-row_in_chunk-row) where
  abbrev a : Described
  a = c.args.array.now

  abbrev k : ArrayChunks
  k = c.of-chunks.result

  abbrev corner : List ℕ
  corner = corner_of k.chunk (index_of a.sizes c.args.run.place)

  abbrev inner : ℕ
  inner = c.row_in_chunk-row.result.inner

  of : IsInChunksOf a k
  of = c.of-chunks.ensures.chunks

  sizes : c.sizes-sizes.result.now ≡ a.sizes
  sizes = c.sizes-sizes.ensures.numbers ∙ c.dims.ensures.sizes

  chunk : c.in-Chunked.chunk ≡ k.chunk
  chunk =
      let laid : InChunks c.in-Chunked.chunk c.in-Chunked.tree ≡ InChunks k.chunk k.root = ap layout_in (sym c.in-Chunked.is) ∙ c.layout.ensures.layout ∙ of.layout in
      cc

  first_is : index_of c.sizes-sizes.result.now c.row_in_chunk-row.result.corner.place ≡ corner
  first_is = c.row_in_chunk-row.ensures.corner ∙ (λ i. corner_of (chunk i) (index_of (sizes i) c.args.run.place))

  inner_is : inner ≡ place_of k.chunk (inner_of k.chunk (index_of a.sizes c.args.run.place))
  inner_is = c.row_in_chunk-row.ensures.inner ∙ (λ i. place_of (chunk i) (inner_of (chunk i) (index_of (sizes i) c.args.run.place)))

  beside : AreBeside a.sizes k.chunk c.args.run.place c.row_in_chunk-row.result.cells
  beside = subst (λ (ns : List ℕ). AreBeside ns k.chunk c.args.run.place c.row_in_chunk-row.result.cells) sizes
      (subst (λ (ns : List ℕ). AreBeside c.sizes-sizes.result.now ns c.args.run.place c.row_in_chunk-row.result.cells) chunk c.row_in_chunk-row.ensures.beside)

  -- the bytes before it in the chunk
  low : (n : ℕ) → n ≡ k.fixed.size → inner * n ≤ cells k.chunk * k.fixed.size
  low n is =
      let before = inner_low a.sizes k.chunk c.args.run.place inner inner_is of.rank c.of-chunks.ensures.sound.sizes in
      subst (λ (m : ℕ). inner * m ≤ cells k.chunk * k.fixed.size) (sym is) (mul-le-mul_right k.fixed.size (omega (arith, before)))

pub overflow_mul-result : goal.overflow_mul-result
overflow_mul-result c =
    let d = (goal.at.overflow_mul-result c).After-row_in_chunk-row in
    let small = c.of-chunks.ensures.sound.small in
    omega (arith, small, low d c.size.result (c.size.ensures.size ∙ ap (λ (t : Fixed). t.size) c.fixed.ensures.fixed))

pub overflow_add-result : goal.overflow_add-result
overflow_add-result c =
    let d = (goal.at.overflow_add-result c).After-row_in_chunk-row in
    let inside = c.in-Some.ensures.inside in
    let long = ap length c.bytes-bytes.ensures in
    let bytes = ap (λ (s : Shape). s.bytes) c.shape-shape.ensures in
    omega (arith, inside, long, bytes, low d c.size.result (c.size.ensures.size ∙ ap (λ (t : Fixed). t.size) c.fixed.ensures.fixed))

-- what is stored at its corner
module _ (c : After-stored_at) where
  abbrev stored : Chunks
  stored = stored_chunks c.args.image.now.bytes c.args.array.now.fixed c.args.array.now.layout

  abbrev place : After-row_in_chunk-row
  place = (goal.at.After-stored_at c).After-row_in_chunk-row

  written : c.write_index.new.index ≡ corner place
  written = c.write_index.ensures ∙ first_is place

  found : (r : Option ℕ) → c.stored_at.result ≡ r → get stored (corner place) ≡ r
  found r is =
      let told = told_below c.args.image.now.bytes c.args.array.now c.of-chunks.result c.of-chunks.ensures.chunks c.shape-shape.result c.shape-shape.ensures c.root.result c.root.ensures in
      ap (get stored) (sym written) ∙ ap (λ (cs : Chunks). get cs c.write_index.new.index) (sym told) ∙ sym c.stored_at.ensures.at ∙ is

pub returns-then-row-run-clause-parted : goal.returns-then-row-run-clause-parted
returns-then-row-run-clause-parted c same =
    let d = (goal.at.returns-then-row-run-clause-parted c).After-row_in_chunk-row in
    let row : 0 < length (a d).sizes → c.row_in_chunk-row.result.cells ≡ left_in_row (a d).sizes (k d).chunk c.args.run.place
    = λ some. c.row_in_chunk-row.ensures.all (subst (λ (ns : List ℕ). 0 < length ns) (sym (sizes d)) some) ∙ (λ i. left_in_row (sizes d i) (chunk d i) c.args.run.place) in
    subst (IsParted (a d) c.args.run) (sym (of d).layout) (more_than_row (a d).sizes (k d).chunk c.args.run.place _ c.args.run.length row c.if-row-run.true)

-- the cells of the run stand in it
module _ (d : After-row_in_chunk-row) (whole : d.args.run.length ≤ d.row_in_chunk-row.result.cells) where
  stand : (at : ℕ) → get (stored_chunks d.args.image.now.bytes (a d).fixed (a d).layout) (corner d) ≡ Some at
      → IsStandingAt d.args.image.now.bytes (a d) d.args.run.place d.args.run.length (at + inner d * (a d).fixed.size)
  stand =
      row_stands (a d) d.args.run d.requires.below d.requires.some (k d).chunk (corner d) refl (inner d) (inner_is d) d.row_in_chunk-row.result.cells whole (beside d)
      d.args.image.now.bytes (a d) refl refl (k d).root (of d).layout

pub returns-in-Some-clause-storage : goal.returns-in-Some-clause-storage
returns-in-Some-clause-storage c =
    let d = (goal.at.returns-in-Some-clause-storage c).After-row_in_chunk-row in
    let e = (goal.at.returns-in-Some-clause-storage c).After-stored_at in
    let size = c.size.ensures.size ∙ ap (λ (t : Fixed). t.size) (c.fixed.ensures.fixed ∙ (of d).fixed) in
    subst (λ (n : ℕ). IsStandingAt c.args.image.now.bytes (a d) c.args.run.place c.args.run.length (c.in-Some.at + inner d * n)) (sym size)
    (stand d (omega arith) c.in-Some.at (found e (Some c.in-Some.at) c.in-Some.is))

pub returns-in-Some-clause-one : goal.returns-in-Some-clause-one
returns-in-Some-clause-one c at one there =
    ap (λ (x : ℕ). Ok (storage.Standing x))
    (standing_first c.args.image.now.bytes c.args.array.now c.args.run.place c.args.run.length _ at c.requires.some (returns-in-Some-clause-storage c) there)

pub returns-clause-storage : goal.returns-clause-storage
returns-clause-storage c =
    let d = (goal.at.returns-clause-storage c).After-row_in_chunk-row in
    let e = (goal.at.returns-clause-storage c).After-stored_at in
    let shape = c.shape-shape.ensures ∙ ap (λ (t : Fixed). chunk_shape t (k d).chunk) (of d).fixed in
    let alone = c.in_ok-new.ensures ∙ (λ i. record { rank = length (shape i).sizes; bytes = (shape i).bytes; offsets = written e i ∷ [] }) in
    chunk_missing (a d) c.args.run c.requires.below c.requires.some (k d).chunk (corner d) refl (inner d) (inner_is d) c.row_in_chunk-row.result.cells (omega arith) (beside d)
    c.args.image.now.bytes (k d).root (of d).layout (found e None c.in_default-stored_at.is) (k d) (of d) _ (ap (missing.Chunks (k d)) alone)
    (let small = c.of-chunks.ensures.sound.small in omega (arith, small, low d (a d).fixed.size (ap (λ (t : Fixed). t.size) (sym (of d).fixed))))

pub returns-clause-one : goal.returns-clause-one
returns-clause-one c at one there =
    let d = (goal.at.returns-clause-one c).After-row_in_chunk-row in
    let e = (goal.at.returns-clause-one c).After-stored_at in
    absurd (row_absent (a d) c.args.run c.requires.below c.requires.some (k d).chunk (corner d) refl (inner d) (inner_is d) c.row_in_chunk-row.result.cells (omega arith) (beside d)
    c.args.image.now.bytes (k d).root (of d).layout (found e None c.in_default-stored_at.is) at there)

pub returns-in_err-new-clause-one : goal.returns-in_err-new-clause-one
returns-in_err-new-clause-one c at one there =
    let d = (goal.at.returns-in_err-new-clause-one c).After-row_in_chunk-row in
    let e = (goal.at.returns-in_err-new-clause-one c).After-stored_at in
    absurd (row_absent (a d) c.args.run c.requires.below c.requires.some (k d).chunk (corner d) refl (inner d) (inner_is d) c.row_in_chunk-row.result.cells (omega arith) (beside d)
    c.args.image.now.bytes (k d).root (of d).layout (found e None c.in_default-stored_at.is) at there)

pub row_in_chunk-row-requires-clause-few : goal.row_in_chunk-row-requires-clause-few
row_in_chunk-row-requires-clause-few c =
    subst (λ (ns : List ℕ). cells ns ≤ most_cells) (sym c.sizes-sizes.ensures.numbers)
    (few_cells c.args.array.now.sizes c.dims.result.now c.args.array.now c.dims.ensures.sizes c.dims.ensures.sound)
