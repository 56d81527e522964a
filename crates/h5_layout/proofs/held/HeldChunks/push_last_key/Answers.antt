use Rattle.std.proofs.Common.{◌≡◌, ◌+◌, ◌-◌, ◌*◌, ◌<◌, ◌++◌, ℕ, ℤ, List, Some, length, slice_get, sym, ap, ◌∙◌, subst, arith}
use Rattle.std.specs.Prelude.{OnOk}
use Rattle.std.specs.List.{AllZip}
use Rattle.h5_model.specs.Format.Chunks.{IsOffset, offsets_in}
use Rattle.h5_chunks.specs.Held.{IsChunkPlace}
use Rattle.h5_chunks.specs.Keys.{chunk_key, index_from}
use Rattle.h5_layout.specs.Data.{chunk_shape}
use Rattle.h5_layout.specs.HeldChunks.{HeldCells}
use Rattle.h5_layout.specs.Kept.{KeptChunks, array_kept}
use Rattle.h5_layout.specs.declared.held.HeldChunks.TheInside.{Inside}
use Rattle.h5_layout.proofs.KeptLaws.{length-parts, offsets_there, whole}
use Rattle.h5_layout.proofs.held.HeldChunks.push_last_key.Goals as goal
use Rattle.h5_layout.proofs.held.HeldChunks.push_last_key.Goals.{After-chunk}

abbrev kept : Inside → KeptChunks
kept f = array_kept f.image.now.bytes f.array f.kept

module _ (c : After-chunk) where
  abbrev last : ℕ
  last = c.len.result - 1

  many : length c.args.self.now.parts ≡ c.len.result
  many =
      let long : length c.args.self.now.parts ≡ length c.self.inside.places.items
      = ap (λ (h : HeldCells). length h.parts) (sym c.self.view_is) ∙ length-parts (kept c.self.inside) c.self.inside.places.items in
      omega (arith, long, c.len.ensures)

  low : last < length c.args.self.now.parts
  low = omega (arith, many, c.requires)

  chunk_is : c.self.inside.array.chunk ≡ c.chunk.result.now
  chunk_is = ap (λ (h : HeldCells). h.chunk) c.self.view_is ∙ sym c.chunk.ensures.sizes

  own : IsChunkPlace c.self.inside.image.now.bytes (chunk_shape c.self.inside.array.fixed c.self.inside.array.chunk) c.index.result.now
  own = whole (kept c.self.inside) c.self.inside.places.items c.args.self.now c.self.view_is last c.index.result.now low c.index.ensures c.self.invariant

  offsets : (part : List ℕ × List ℤ) → slice_get c.args.self.now.parts (length c.args.self.now.parts - 1) ≡ Some part
      → offsets_in (length c.chunk.result.now) c.index.result.now.key.now ≡ part.0
  offsets part got =
      let there : slice_get c.args.self.now.parts last ≡ Some part = subst (λ n. slice_get c.args.self.now.parts (n - 1) ≡ Some part) many got in
      ap (λ (ns : List ℕ). offsets_in (length ns) c.index.result.now.key.now) (sym chunk_is)
      ∙ offsets_there (kept c.self.inside) c.self.inside.places.items c.args.self.now c.self.view_is last c.index.result.now low c.index.ensures part there

pub push_last_key-requires-clause-long : goal.push_last_key-requires-clause-long
push_last_key-requires-clause-long c = (own c).long ∙ ap (λ (ns : List ℕ). 8 + 8 * (length ns + 1)) (chunk_is c)

pub push_last_key-requires-clause-aligned : goal.push_last_key-requires-clause-aligned
push_last_key-requires-clause-aligned c =
    subst (λ (ns : List ℕ). AllZip IsOffset ns (offsets_in (length ns) c.index.result.now.key.now)) (chunk_is c) (own c).keyed.aligned

pub returns : goal.returns
returns c got_part got =
    let b = (goal.at.returns c).After-chunk in
    subst (λ (xs : List ℕ). OnOk c.push_last_key.result (c.push_last_key.new.out.items ≡ c.args.out.now.items ++ xs))
    (λ i. chunk_key (record { bytes = 0; offsets = index_from (offsets b got_part got i) (c.chunk.ensures.sizes i) })) c.push_last_key.ensures
