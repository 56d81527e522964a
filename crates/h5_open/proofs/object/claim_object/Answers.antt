use Rattle.std.proofs.Common.{◌≡◌, ◌++◌, List, Result, Ok, Err, sym, ap, ◌∙◌, subst, arith}
use Rattle.std.specs.Prelude.{OnOk}
use Rattle.h5_bytes.specs.Blocks.{cover}
use Rattle.h5_bytes.specs.declared.Block.{Block}
use Rattle.h5_bytes.proofs.BlockLaws.{cover-append}
use Rattle.h5_space.specs.Claimed.{Claimed, HasClaimed}
use Rattle.h5_group.specs.Told.{blocks_told}
use Rattle.h5_header.specs.Listed.{messages_in}
use Rattle.h5_layout.specs.Data.{data_blocks}
use Rattle.h5_layout.specs.Told.{array_told}
use Rattle.h5_model.specs.Format.Described.{Described}
use Rattle.h5_open.specs.declared.opened.object.OpenedContent.{OpenedContent}
use Rattle.h5_open.specs.Opened.Kept.{IsContentKept}
use Rattle.h5_open.specs.Opened.Objects.{content_blocks, object_blocks}
use Rattle.h5_open.proofs.object.claim_object.Goals as goal

-- the blocks of the header, and then the others
claimed_then : {T E : Type 0} (r : Result T E) (a b c : Claimed) (first second all : List Block) → all ≡ first ++ second → HasClaimed a b first → OnOk r (HasClaimed b c second) → OnOk r (HasClaimed a c all)
claimed_then (Err e) a b c first second all is before after = tt
claimed_then (Ok v) a b c first second all is before after = record {
  covered = λ p. let same = ap (cover p) is in omega (arith, same, before.covered p, after.covered p, cover-append p first second);
  separate = after.separate;
}

pub known_array-array-requires-clause-array : goal.known_array-array-requires-clause-array
known_array-array-requires-clause-array c =
    let image = c.args.image.now.bytes in
    let ms = messages_in image c.args.object.now.messages.list in
    let kept = subst (IsContentKept image ms) c.in-Array.is c.requires.kept.content in
    rw c.new.ensures (array_told ms, kept.0.array)

pub returns-in-Group-clause-claimed : goal.returns-in-Group-clause-claimed
returns-in-Group-clause-claimed c =
    let image = c.args.image.now.bytes in
    let o = c.args.object.now in
    claimed_then c.read_group.result c.args.claims.now c.claim_blocks.new.claims c.read_group.new.claims c.blocks-2.result.now (blocks_told image c.in-Group.table) (object_blocks image o)
    (ap (λ (x : OpenedContent). o.messages.blocks ++ content_blocks image (messages_in image o.messages.list) x) c.in-Group.is
    ∙ ap (λ (bs : List Block). bs ++ blocks_told image c.in-Group.table) (sym c.blocks-2.ensures))
    c.in_ok-claim_blocks.ensures.claimed c.read_group.ensures.claimed

pub returns-in-Array-clause-claimed : goal.returns-in-Array-clause-claimed
returns-in-Array-clause-claimed c =
    let image = c.args.image.now.bytes in
    let o = c.args.object.now in
    let a : Described = c.known_array-array.result in
    claimed_then c.claim_data.result c.args.claims.now c.claim_blocks.new.claims c.claim_data.new.claims c.blocks-2.result.now (data_blocks image a.fixed a.layout) (object_blocks image o)
    (ap (λ (x : OpenedContent). o.messages.blocks ++ content_blocks image (messages_in image o.messages.list) x) c.in-Array.is
    ∙ ap (λ (d : Described). o.messages.blocks ++ data_blocks image d.fixed d.layout) (sym (rw c.new.ensures at c.known_array-array.ensures))
    ∙ ap (λ (bs : List Block). bs ++ data_blocks image a.fixed a.layout) (sym c.blocks-2.ensures))
    c.in_ok-claim_blocks.ensures.claimed c.claim_data.ensures.claimed
