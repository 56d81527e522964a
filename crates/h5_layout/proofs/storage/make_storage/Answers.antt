use Rattle.std.proofs.Common.{ℕ, List, sym, subst}
use Rattle.std.proofs.lemmas.Result.{IfOk-weaker}
use Rattle.h5_model.specs.Views.Selection.{Slab}
use Rattle.h5_model.specs.Format.Described.{Described}
use Rattle.h5_space.proofs.RunEdits.{on_ok_then}
use Rattle.h5_layout.specs.ArrayChunks.{IsInChunksOf}
use Rattle.h5_layout.specs.ArrayEdits.{described_in}
use Rattle.h5_layout.specs.Lacking.{IsMissing}
use Rattle.h5_layout.specs.NewChunks.{AreMissing}
use Rattle.h5_layout.specs.RunStorage.{IsMadeAt}
use Rattle.h5_layout.specs.Storage.{IsDeepFor, IsStorageMade}
use Rattle.h5_layout.specs.declared.lacking.Missing.{Missing}
use Rattle.h5_layout.proofs.LackingLaws.{chunks_missing, lacking_some}
use Rattle.h5_layout.proofs.storage.make_storage.Goals as goal
use Rattle.h5_layout.proofs.storage.make_storage.Goals.{In-Chunks}

pub returns-in-Block-clause-made : goal.returns-in-Block-clause-made
returns-in-Block-clause-made c =
    on_ok_then c.make_block.result c.make_block.ensures.made (λ made slab is.
    subst (IsStorageMade c.args.image.now c.make_block.new.image c.args.messages.now slab) (sym c.in-Block.is) (made slab))

-- the chunks that are missing are those of the array
module _ (c : In-Chunks) where
  abbrev image : List ℕ
  image = c.args.image.now.bytes

  abbrev a : Described
  a = described_in image c.args.messages.now

  missed : (slab : Slab) → IsMissing image a slab c.args.missing.now → AreMissing image a c.in-Chunks.array.chunk slab c.in-Chunks.new × IsInChunksOf a c.in-Chunks.array
  missed slab is = chunks_missing image a slab c.in-Chunks.array c.in-Chunks.new (subst (λ (x : Missing). IsMissing image a slab x) c.in-Chunks.is is)

pub make_chunks-requires-clause-chunks : goal.make_chunks-requires-clause-chunks
make_chunks-requires-clause-chunks c = (missed (goal.at.make_chunks-requires-clause-chunks c).In-Chunks c.requires.missing.0 c.requires.missing.1).1

pub make_chunks-requires-clause-missing : goal.make_chunks-requires-clause-missing
make_chunks-requires-clause-missing c = (c.requires.missing.0, (missed (goal.at.make_chunks-requires-clause-missing c).In-Chunks c.requires.missing.0 c.requires.missing.1).0)

pub returns-in-Chunks-clause-made : goal.returns-in-Chunks-clause-made
returns-in-Chunks-clause-made c =
    let d = (goal.at.returns-in-Chunks-clause-made c).In-Chunks in
    on_ok_then c.make_chunks.result c.make_chunks.ensures.made (λ made slab is.
    subst (IsStorageMade c.args.image.now c.make_chunks.new.image c.args.messages.now slab) (sym c.in-Chunks.is) (made slab (missed d slab is).0))

pub returns-in-Chunks-clause-deep : goal.returns-in-Chunks-clause-deep
returns-in-Chunks-clause-deep c is =
    let d = (goal.at.returns-in-Chunks-clause-deep c).In-Chunks in
    subst (λ (x : Missing). (n : ℕ) × IsDeepFor (image d) (a d) x n) (sym c.in-Chunks.is) (c.make_chunks.ensures.deep is)

pub returns-in-Block-clause-placed : goal.returns-in-Block-clause-placed
returns-in-Block-clause-placed c =
    let new = c.make_block.new.image.bytes in
    IfOk-weaker c.make_block.result _ _ (λ at made slab found.
    subst (λ (x : Missing). IsMadeAt new (described_in new c.args.messages.now) x at) (sym c.in-Block.is) made) c.make_block.ensures.placed

pub returns-in-Chunks-clause-placed : goal.returns-in-Chunks-clause-placed
returns-in-Chunks-clause-placed c =
    let d = (goal.at.returns-in-Chunks-clause-placed c).In-Chunks in
    let new = c.make_chunks.new.image.bytes in
    let k = c.in-Chunks.array in
    IfOk-weaker c.make_chunks.result _ _ (λ at made slab found.
    let own = missed d slab found.1 in
    let some = lacking_some (image d) (a d) slab k.chunk k.root own.1.layout c.in-Chunks.new own.0 found.0 in
    subst (λ (x : Missing). IsMadeAt new (described_in new c.args.messages.now) x at) (sym c.in-Chunks.is) (made some)) c.make_chunks.ensures.placed
