-- The values of cells, by the places at which they stand.
use Rattle.std.proofs.Common.{◌≡◌, ℕ, zero, suc, ◌+◌, ◌-◌, ◌*◌, ◌/◌, ◌<◌, ◌≤◌, List, ◌∷◌, length, map, take, drop, get_or, replicate, Option, Some, None, ℤ, refl, sym, ap, ap₂, ◌∙◌, arith}
use Rattle.std.specs.Prelude.{slice_index_or}
use Rattle.std.specs.List.{range_with_len}
use Rattle.std.specs.FinMap.{get}
use Rattle.std.proofs.lemmas.List.{length-take, length-drop, get_or-take, get_or-drop}
use Rattle.std.proofs.lemmas.Nat.{div-mul-add}
use Rattle.std.proofs.Math.Nat.{mul-le-mul_right}
use Rattle.h5_bytes.specs.Tables.{table}
use Rattle.h5_bytes.proofs.TableLaws.{get_or-table}
use Rattle.h5_model.specs.Format.Cells.{value_in, value_in_chunk}
use Rattle.h5_model.specs.Format.Fixed.{Fixed, value_at}
use Rattle.h5_model.specs.Scripts.Answers.{stored_values}
use Rattle.h5_model.proofs.ValueLaws.{value_at-moved}
use Rattle.h5_chunks.specs.Told.{chunks_told}
use Rattle.h5_layout.specs.ChunkCells.{AreBeside, AreChunkBytes, Grid, chunk_of, place_in_chunk, value_in_grid}

-- ---- values at consecutive places

pub map_ranges : (f g : ℕ → ℤ) (a b n : ℕ) → ((j : ℕ) → j < n → f (a + j) ≡ g (b + j)) → map f (range_with_len a n) ≡ map g (range_with_len b n)
map_ranges f g a b zero same = refl
map_ranges f g a b (suc n) same =
    let left : a + 0 ≡ a = omega arith in
    let right : b + 0 ≡ b = omega arith in
    let first : f a ≡ g b = ap f (sym left) ∙ same 0 (omega arith) ∙ ap g right in
    let rest : map f (range_with_len (a + 1) n) ≡ map g (range_with_len (b + 1) n) = map_ranges f g (a + 1) (b + 1) n (λ j low.
    let l : (a + 1) + j ≡ a + suc j = omega arith in
    let r : b + suc j ≡ (b + 1) + j = omega arith in
    ap f l ∙ same (suc j) (omega arith) ∙ ap g r) in
    ap₂ (λ v vs. v ∷ vs) first rest

pub replicate_range : (v : ℤ) (g : ℕ → ℤ) (b n : ℕ) → ((j : ℕ) → j < n → v ≡ g (b + j)) → replicate n v ≡ map g (range_with_len b n)
replicate_range v g b zero same = refl
replicate_range v g b (suc n) same =
    let right : b + 0 ≡ b = omega arith in
    let first : v ≡ g b = same 0 (omega arith) ∙ ap g right in
    let rest : replicate n v ≡ map g (range_with_len (b + 1) n) = replicate_range v g (b + 1) n (λ j low.
    let r : b + suc j ≡ (b + 1) + j = omega arith in
    same (suc j) (omega arith) ∙ ap g r) in
    ap₂ (λ w ws. w ∷ ws) first rest

-- of a table of all of them
pub of_table : (f : ℕ → ℤ) (fill : ℤ) (count place n : ℕ) → place + n ≤ count
    → map f (range_with_len place n) ≡ map (λ p. slice_index_or (table f count) p fill) (range_with_len place n)
of_table f fill count place n below =
    map_ranges f (λ p. slice_index_or (table f count) p fill) place place n (λ j low. sym (get_or-table f f count (place + j) fill (omega arith)))

-- ---- cells that stand one behind another

module _ (t : Fixed) (some : 1 ≤ t.size) (bytes : List ℕ) (place n start end : ℕ) (room : (place + n) * t.size ≤ length bytes)
    (start-is : start ≡ place * t.size) (end-is : end ≡ start + n * t.size) where
  abbrev pub whole : List ℕ
  whole = take (end - start) (drop start bytes)

  pub whole_end : end ≤ length bytes
  whole_end =
      let split : (place + n) * t.size ≡ place * t.size + n * t.size = omega arith in
      omega (arith, room, split, start-is, end-is)

  pub length-whole : length whole ≡ n * t.size
  length-whole = length-take (end - start) (drop start bytes) ∙ omega (arith, length-drop start bytes, whole_end, end-is)

  pub whole_values : stored_values t whole ≡ map (value_in t bytes) (range_with_len place n)
  whole_values =
      let exact : length whole ≡ n * t.size + 0 = omega (arith, length-whole) in
      let counted : length whole / t.size ≡ n = ap (λ k. k / t.size) exact ∙ div-mul-add n t.size 0 (omega arith) in
      ap (λ k. map (λ i. value_at t whole (i * t.size)) (range_with_len 0 k)) counted
      ∙ map_ranges (λ i. value_at t whole (i * t.size)) (value_in t bytes) 0 place n (λ j low.
      value_at-moved t bytes whole ((place + j) * t.size) ((0 + j) * t.size) (λ k below.
      let next : suc j * t.size ≤ n * t.size = mul-le-mul_right t.size low in
      let wide : suc j * t.size ≡ j * t.size + t.size = omega arith in
      let here : (0 + j) * t.size ≡ j * t.size = omega arith in
      let there : (place + j) * t.size ≡ place * t.size + j * t.size = omega arith in
      let inside : (0 + j) * t.size + k < end - start = omega (arith, next, wide, here, below, end-is) in
      let moved : start + ((0 + j) * t.size + k) ≡ (place + j) * t.size + k = omega (arith, here, there, start-is) in
      get_or-take (end - start) (drop start bytes) ((0 + j) * t.size + k) 0 inside
      ∙ get_or-drop start bytes ((0 + j) * t.size + k) 0 ∙ ap (λ i. get_or bytes i 0) moved))

-- ---- cells in a row of a chunk

module _ (t : Fixed) (fill : ℤ) (g : Grid) (place n at : ℕ) (beside : AreBeside g.sizes g.shape.sizes place n) (here : at ≡ place_in_chunk g place) where
  -- the chunk and the place in it
  row_value : (o : Option ℕ) → chunk_of g place ≡ o → (j : ℕ) → j < n → value_in_grid t fill g (place + j) ≡ value_in_chunk g.image t fill g.shape.bytes (at + j) o
  row_value o is j low =
      let chunk : chunk_of g (place + j) ≡ o = ap (λ corner. get (chunks_told g.image g.shape g.root) corner) (beside.corner j low) ∙ is in
      let inner : place_in_chunk g (place + j) ≡ at + j = beside.inner j low ∙ ap (λ k. k + j) (sym here) in
      ap₂ (value_in_chunk g.image t fill g.shape.bytes) inner chunk

  pub filled_row : AreChunkBytes g (chunk_of g place) None → replicate n fill ≡ map (value_in_grid t fill g) (range_with_len place n)
  filled_row none = replicate_range fill (value_in_grid t fill g) place n (λ j low. sym (row_value None none j low))

  pub stored_row : (held : List ℕ) → AreChunkBytes g (chunk_of g place) (Some held)
      → map (value_in t held) (range_with_len at n) ≡ map (value_in_grid t fill g) (range_with_len place n)
  stored_row held stored = map_ranges (value_in t held) (value_in_grid t fill g) at place n (λ j low.
      ap (λ (bytes : List ℕ). value_in t bytes (at + j)) stored.2 ∙ sym (row_value (Some stored.0) stored.1 j low))
