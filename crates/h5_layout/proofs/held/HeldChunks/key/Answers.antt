use Rattle.std.proofs.Common.{◌≡◌, ◌*◌, length, ap, ◌∙◌}
use Rattle.h5_model.specs.Format.Chunks.{offsets_in}
use Rattle.h5_model.specs.Tree.Places.{cells}
use Rattle.h5_chunks.specs.Keys.{chunk_key}
use Rattle.h5_layout.specs.HeldChunks.{HeldCells}
use Rattle.h5_layout.specs.Kept.{KeptChunks, array_kept}
use Rattle.h5_layout.proofs.KeptLaws.{offsets_there, whole}
use Rattle.h5_layout.proofs.held.HeldChunks.key.Goals as goal

pub returns : goal.returns
returns c got_part got =
    let f = c.self.inside in
    let k : KeptChunks = array_kept f.image.now.bytes f.array f.kept in
    let own = whole k f.places.items c.args.self.now c.self.view_is c.args.k c.index.result.now c.requires c.index.ensures c.self.invariant in
    let chunk_is : k.chunk ≡ c.args.self.now.chunk = ap (λ (h : HeldCells). h.chunk) c.self.view_is in
    let fixed_is : k.fixed ≡ c.args.self.now.fixed = ap (λ (h : HeldCells). h.fixed) c.self.view_is in
    let offsets : offsets_in (length k.chunk) c.index.result.now.key.now ≡ got_part.0
    = offsets_there k f.places.items c.args.self.now c.self.view_is c.args.k c.index.result.now c.requires c.index.ensures got_part got in
    c.written_key.ensures k.chunk (cells k.chunk * (k.fixed).size) own.long own.keyed
    ∙ (λ i. chunk_key (record { bytes = cells (chunk_is i) * (fixed_is i).size; offsets = offsets i }))
