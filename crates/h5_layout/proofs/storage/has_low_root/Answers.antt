use Rattle.std.proofs.Common.{◌≡◌, Some, sym, ◌∙◌, subst}
use Rattle.h5_model.specs.Format.Reached.{Shape}
use Rattle.h5_chunks.specs.Edited.{AreChunksApart}
use Rattle.h5_layout.specs.ArrayChunks.{ArrayChunks}
use Rattle.h5_layout.proofs.TrimmedArray.{chunks_apart}
use Rattle.h5_layout.proofs.storage.has_low_root.Goals as goal

pub is_low-requires : goal.is_low-requires
is_low-requires c =
    let k : ArrayChunks = c.args.array.now in
    let rooted : k.root ≡ Some c.in-Some.root = sym c.root.ensures ∙ c.in-Some.is in
    record {
      chunks = subst (λ (s : Shape). AreChunksApart c.args.image.now s c.in-Some.root) (sym c.shape.ensures)
          (chunks_apart c.args.image.now c.requires.0 c.requires.1 k c.requires.2 c.in-Some.root rooted);
    }
