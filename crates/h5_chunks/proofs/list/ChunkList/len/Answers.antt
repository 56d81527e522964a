use Rattle.std.proofs.Common.{◌≡◌, ◌/◌, ℕ, length, sym, ap, ◌∙◌, arith}
use Rattle.h5_chunks.specs.Lists.{ChunkOffsets}
use Rattle.h5_chunks.proofs.KeyRows.{length-offsets}
use Rattle.h5_chunks.proofs.list.ChunkList.len.Goals as goal

pub returns : goal.returns
returns c =
    let rank : ℕ = c.self.inside.rank in
    let long : c.len.result ≡ length c.self.inside.keys.items = omega (arith, c.len.ensures, c.self.inside.keys.ok.0) in
    (λ i. long i / c.key_length.ensures i) ∙ sym (length-offsets rank c.self.inside.keys.items) ∙ ap (λ (v : ChunkOffsets). length v.offsets) c.self.view_is
