use Rattle.std.proofs.Common.{◌≡◌, ◌+◌, ◌-◌, ◌*◌, ◌<◌, ◌≤◌, ℕ, List, [], length, map, take, drop, sym, ap, ◌∙◌, subst, arith}
use Rattle.std.specs.Prelude.{slice_index_or}
use Rattle.h5_model.specs.Format.Chunks.{offsets_in}
use Rattle.h5_chunks.specs.Lists.{ChunkOffsets, IsKeyOf, keys_in}
use Rattle.h5_chunks.proofs.KeyRows.{key, key_end, key_offsets, key_there}
use Rattle.h5_chunks.proofs.list.ChunkList.key.Goals as goal
use Rattle.h5_chunks.proofs.list.ChunkList.key.Goals.{After-deref, After-key_length-length}

module _ (c : After-key_length-length) where
  room : c.args.k * c.key_length-length.result + c.key_length-length.result ≤ length c.self.inside.keys.items
  room =
      let low : c.args.k < length (map (offsets_in c.self.inside.rank) (keys_in c.self.inside.rank c.self.inside.keys.items))
      = subst (λ (v : ChunkOffsets). c.args.k < length v.offsets) (sym c.self.view_is) c.requires in
      subst (λ (n : ℕ). c.args.k * n + n ≤ length c.self.inside.keys.items) (sym c.key_length-length.ensures)
      (key_end c.self.inside.rank c.self.inside.keys.items c.args.k low)

module _ (c : After-deref) where
  abbrev rank : ℕ
  rank = c.self.inside.rank

  abbrev keys : List ℕ
  keys = c.self.inside.keys.items

  low : c.args.k < length (map (offsets_in rank) (keys_in rank keys))
  low = subst (λ (v : ChunkOffsets). c.args.k < length v.offsets) (sym c.self.view_is) c.requires

  end : c.args.k * c.key_length-length.result + c.key_length-length.result ≤ length c.deref.result.now
  end =
      let room = key_end rank keys c.args.k low in
      subst (λ (n : ℕ). c.args.k * n + n ≤ length c.deref.result.now) (sym c.key_length-length.ensures)
      (omega (arith, room, ap length c.deref.ensures.value))

  -- the key, as it is cut out
  cut : take (c.args.k * c.key_length-length.result + c.key_length-length.result - c.args.k * c.key_length-length.result)
      (drop (c.args.k * c.key_length-length.result) c.deref.result.now) ≡ key rank keys c.args.k low
  cut =
      let long : c.args.k * c.key_length-length.result + c.key_length-length.result - c.args.k * c.key_length-length.result ≡ c.key_length-length.result = omega arith in
      ap (λ n. take n (drop (c.args.k * c.key_length-length.result) c.deref.result.now)) long
      ∙ (λ i. take (c.key_length-length.ensures i) (drop (c.args.k * c.key_length-length.ensures i) (c.deref.ensures.value i)))

pub overflow_mul-start : goal.overflow_mul-start
overflow_mul-start c = omega (arith, room c, c.self.inside.keys.ok.0, c.self.inside.keys.ok.1)

pub overflow_add-result : goal.overflow_add-result
overflow_add-result c = omega (arith, end c)

pub slice_bounds-result-end : goal.slice_bounds-result-end
slice_bounds-result-end c = omega (arith, end c)

pub returns-clause-key : goal.returns-clause-key
returns-clause-key c =
    let d = (goal.at.returns-clause-key c).After-deref in
    let k : ℕ = c.args.k in
    subst (λ (v : ChunkOffsets). IsKeyOf v.rank v.bytes (take (k * c.key_length-length.result + c.key_length-length.result - k * c.key_length-length.result)
    (drop (k * c.key_length-length.result) c.deref.result.now))) c.self.view_is
    (subst (IsKeyOf (rank d) c.self.inside.chunk_length) (sym (cut d)) (key_there (rank d) (keys d) k (low d) c.self.inside.chunk_length c.self.invariant.each))

pub returns-clause-offsets : goal.returns-clause-offsets
returns-clause-offsets c =
    let d = (goal.at.returns-clause-offsets c).After-deref in
    let k : ℕ = c.args.k in
    subst (λ (v : ChunkOffsets). offsets_in v.rank (take (k * c.key_length-length.result + c.key_length-length.result - k * c.key_length-length.result)
    (drop (k * c.key_length-length.result) c.deref.result.now)) ≡ slice_index_or v.offsets k []) c.self.view_is
    (ap (offsets_in (rank d)) (cut d) ∙ key_offsets (rank d) (keys d) k (low d))
