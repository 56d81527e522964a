-- A header that was read to its end has the messages of the definition.
use Rattle.std.proofs.Common.{◌≡◌, ℕ, ◌+◌, ◌≤◌, List, [], ◌∷◌, ◌++◌, length, refl, sym, ◌∙◌, ap, subst, arith, append-nil, length-append}
use Rattle.std.specs.Prelude.{IsTrue}
use Rattle.std.specs.List.{AllByRecursion}
use Rattle.h5_bytes.specs.Bytes.{byte_at}
use Rattle.h5_bytes.specs.Blocks.{Inside}
use Rattle.h5_bytes.specs.declared.Block.{Block}
use Rattle.h5_model.specs.Format.Messages.{Message, HasMessages, continuations, IsContinued, FillBlocks, prefix_at, total_in, first_block}
use Rattle.h5_model.specs.Format.Reached.{AllMessages}
use Rattle.h5_header.specs.Heads.{is_read}
use Rattle.h5_header.specs.Listed.{messages_in}
use Rattle.h5_header.specs.Progress.{FilledTo, IsTaken, ReadThrough}
use Rattle.h5_header.specs.declared.message.Message.{Message as Placed}
use Rattle.h5_header.proofs.FillLaws.{filled_whole}

all_continued : (ms : List Message) → AllByRecursion IsTaken ms → AllByRecursion IsContinued ms
all_continued [] all = tt
all_continued (m ∷ ms) all = (all.0.continued, all_continued ms all.1)

-- the types of the messages, as they were read
pub kinds_of : (image : List ℕ) (list : List Placed) → AllByRecursion IsTaken (messages_in image list) → AllByRecursion (λ (x : Placed). IsTrue (is_read x.kind)) list
kinds_of image [] all = tt
kinds_of image (m ∷ ms) all = (all.0.read, kinds_of image ms all.1)

none_left : (done waiting blocks : List Block) → blocks ≡ done ++ waiting → length blocks ≡ length done → waiting ≡ []
none_left done [] blocks split count = refl
none_left done (b ∷ waiting) blocks split count = absurd (omega (arith, ap length split, length-append done (b ∷ waiting)))

module _ (image : List ℕ) (header : ℕ) (held held' : List Block) (list : List Placed) (blocks : List Block)
    (through : ReadThrough image header held held' list blocks (length blocks)) where
  none : through.waiting ≡ []
  none = none_left through.done through.waiting blocks through.split through.count

  done_is : blocks ≡ through.done
  done_is = through.split ∙ ap (λ bs. through.done ++ bs) none ∙ append-nil through.done

  filled : FillBlocks image (first_block image header ∷ []) (through.partly).parts
  filled = filled_whole image (first_block image header ∷ []) (through.partly).parts
      (subst (FilledTo image (first_block image header ∷ []) (through.partly).parts) none (through.partly).filled)

  pub blocks_inside : Inside (length image) blocks
  blocks_inside = subst (Inside (length image)) (sym done_is) (through.claimed).inside

  first_inside : Inside (length image) (first_block image header ∷ continuations (messages_in image list))
  first_inside =
      let all = subst (Inside (length image)) (through.split ∙ (through.partly).laid) blocks_inside in
      (omega (arith, all.0), all.1)

  -- the prefix lies in the image
  pub prefix_there : header + 16 ≤ length image
  prefix_there =
      let all = subst (Inside (length image)) (through.split ∙ (through.partly).laid) blocks_inside in
      omega (arith, all.0)

  pub all_messages : AllMessages image header (messages_in image list)
  all_messages = ((through.partly).parts, filled, (through.partly).all, first_inside)

  pub has_messages : byte_at (prefix_at image header) 0 ≡ 1 → total_in (prefix_at image header) ≡ length (messages_in image list)
      → HasMessages image header (messages_in image list) blocks
  has_messages version total = record {
    version = version;
    parts = (through.partly).parts;
    filled = filled;
    all = (through.partly).all;
    total = total;
    continued = all_continued (messages_in image list) (through.partly).taken;
    laid = through.split ∙ (through.partly).laid;
  }

  pub kinds_read : AllByRecursion (λ (x : Placed). IsTrue (is_read x.kind)) list
  kinds_read = kinds_of image list (through.partly).taken

  pub filled_to_end : FilledTo image (first_block image header ∷ []) (through.partly).parts []
  filled_to_end = subst (FilledTo image (first_block image header ∷ []) (through.partly).parts) none (through.partly).filled
