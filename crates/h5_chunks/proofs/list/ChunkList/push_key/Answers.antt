use Rattle.std.proofs.Common.{◌≡◌, ◌++◌, ◌∷◌, [], ℕ, true, List, map, cond, sym, ap, ◌∙◌, subst}
use Rattle.std.specs.Prelude.{OnOk, Result, Ok, Err}
use Rattle.std.specs.Result.{is_ok}
use Rattle.h5_model.specs.Format.Chunks.{offsets_in}
use Rattle.h5_chunks.specs.Lists.{AreKeysOf, ChunkOffsets, IsKeyOf, keys_in}
use Rattle.h5_chunks.proofs.KeyRows.{key_or_none, offsets_more}
use Rattle.h5_chunks.proofs.list.ChunkList.push_key.Goals as goal
use Rattle.h5_chunks.proofs.list.ChunkList.push_key.Goals.{After-extend_from_slice}

where_ok : {T E P : Type 0} (r : Result T E) → (is_ok r ≡ true → P) → OnOk r P
where_ok (Ok x) p = p (λ i. true)
where_ok (Err e) p = tt

module _ (c : After-extend_from_slice) where
  abbrev rank : ℕ
  rank = c.self.inside.rank

  abbrev keys : List ℕ
  keys = c.self.inside.keys.items

  abbrev key : List ℕ
  key = c.args.key.now

  key_of : IsKeyOf rank c.self.inside.chunk_length key
  key_of = subst (λ (v : ChunkOffsets). IsKeyOf v.rank v.bytes key) (sym c.self.view_is) c.requires

pub invariant_of-self : goal.invariant_of-self
invariant_of-self c =
    subst (AreKeysOf (rank c) c.self.inside.chunk_length) (sym c.extend_from_slice.ensures.items)
    (key_or_none (rank c) c.self.inside.chunk_length (keys c) (key c) (is_ok c.extend_from_slice.result) c.self.invariant (key_of c))

abbrev with_offsets : ChunkOffsets → List ℕ → ChunkOffsets
with_offsets v key = record v { offsets = v.offsets ++ offsets_in v.rank key ∷ [] }

abbrev view_of : (rank bytes : ℕ) → List (List ℕ) → ChunkOffsets
view_of rank bytes offsets = record { rank = rank; bytes = bytes; offsets = offsets }

pub returns : goal.returns
returns c = where_ok c.extend_from_slice.result (λ ok.
    let bytes : ℕ = c.self.inside.chunk_length in
    let items : c.extend_from_slice.new.self.items ≡ keys c ++ key c = c.extend_from_slice.ensures.items ∙ ap (λ b. cond b (keys c ++ key c) (keys c)) ok in
    ap (λ (ks : List ℕ). view_of (rank c) bytes (map (offsets_in (rank c)) (keys_in (rank c) ks))) items
    ∙ ap (view_of (rank c) bytes) (offsets_more (rank c) (keys c) (key c) c.self.invariant.whole (key_of c).long)
    ∙ ap (λ (v : ChunkOffsets). with_offsets v (key c)) c.self.view_is)
