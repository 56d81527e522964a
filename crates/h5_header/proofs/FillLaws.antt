-- One message more, and one block more, of what has been read.
use Rattle.std.proofs.Common.{◌≡◌, ℕ, ◌+◌, ◌≤◌, List, [], ◌∷◌, ◌++◌, length, refl, sym, ◌∙◌, ap, subst, arith, append_assoc, append-nil}
use Rattle.std.proofs.lemmas.List.{map-append}
use Rattle.std.proofs.lemmas.List.Concat.{flat_map-append}
use Rattle.h5_bytes.specs.Bytes.{number_at, part}
use Rattle.h5_bytes.specs.declared.Block.{Block}
use Rattle.h5_bytes.proofs.BlockLaws.{all_append}
use Rattle.h5_model.specs.Format.Messages.{Message, IsMessage, Fills, FillBlocks, continuation, continuations}
use Rattle.h5_header.specs.Heads.{IsHead}
use Rattle.h5_header.specs.Listed.{message_in, messages_in}
use Rattle.h5_header.specs.Progress.{FillsTo, FilledTo, IsTaken, ReadTo}
use Rattle.h5_header.specs.declared.message.Message.{Message as Placed}
use Rattle.h5_header.proofs.MessageLaws.{message-is, size-is, taken-is}

pub fills_more : (block_at : ℕ) (bytes : List ℕ) (from : ℕ) (ms : List Message) (to : ℕ) (m : Message)
    → FillsTo block_at bytes from ms to → IsMessage block_at bytes to m
    → FillsTo block_at bytes from (ms ++ m ∷ []) (to + 8 + number_at bytes (to + 2) 2)
fills_more block_at bytes from [] to m fills is =
    (subst (λ (p : ℕ). IsMessage block_at bytes p m) (sym fills) is, ap (λ (p : ℕ). p + 8 + number_at bytes (p + 2) 2) fills)
fills_more block_at bytes from (x ∷ ms) to m fills is =
    (fills.0, fills_more block_at bytes (from + 8 + number_at bytes (from + 2) 2) ms to m fills.1 is)

pub fills_whole : (block_at : ℕ) (bytes : List ℕ) (from : ℕ) (ms : List Message) (to : ℕ)
    → FillsTo block_at bytes from ms to → to ≡ length bytes → Fills block_at bytes from ms
fills_whole block_at bytes from [] to fills end = fills ∙ end
fills_whole block_at bytes from (m ∷ ms) to fills end =
    (fills.0, fills_whole block_at bytes (from + 8 + number_at bytes (from + 2) 2) ms to fills.1 end)

-- one message more of a block, with the block that it names
pub read_more : (image : List ℕ) (b : Block) (list list' : List Placed) (blocks blocks' : List Block) (to : ℕ) (m : Placed)
    → b.at + b.len ≤ length image → ReadTo image b list list' blocks blocks' to → IsHead image (b.at + to) (b.at + b.len) m
    → ReadTo image b list (list' ++ m ∷ []) blocks (blocks' ++ continuation (message_in image m)) (to + 8 + m.size)
read_more image b list list' blocks blocks' to m inside read head =
    let ms = messages_in image read.more in
    let more : messages_in image (read.more ++ m ∷ []) ≡ messages_in image read.more ++ message_in image m ∷ [] = map-append (message_in image) read.more (m ∷ []) in
    let blocks_more : continuations (messages_in image (read.more ++ m ∷ [])) ≡ continuations (messages_in image read.more) ++ continuation (message_in image m)
    = ap continuations more ∙ flat_map-append continuation (messages_in image read.more) (message_in image m ∷ []) ∙ ap (λ bs. continuations (messages_in image read.more) ++ bs) (append-nil (continuation (message_in image m))) in
    record {
      more = read.more ++ m ∷ [];
      listed = rw read.listed (append_assoc list read.more (m ∷ []));
      named = rw (blocks_more, read.named) (append_assoc blocks (continuations (messages_in image read.more)) (continuation (message_in image m)));
      filled = subst (λ (x : List Message). FillsTo b.at (part b.at b.len image) 0 x (to + 8 + m.size)) (sym more)
          (subst (λ (n : ℕ). FillsTo b.at (part b.at b.len image) 0 (ms ++ message_in image m ∷ []) (to + 8 + n)) (size-is image b to m head)
          (fills_more b.at (part b.at b.len image) 0 ms to (message_in image m) read.filled (message-is image b to m inside head)));
      within =
          let whole : b.at + to + 8 + m.size ≤ b.at + b.len = head.whole in
          all_append (λ (x : Placed). x.at + x.size ≤ length image) read.more (m ∷ []) read.within (omega (arith, whole, inside, head.place), tt);
      taken = rw more (all_append IsTaken ms (message_in image m ∷ []) read.taken (taken-is image b to m inside head, tt));
    }

pub filled_more : (image : List ℕ) (waiting : List Block) (parts : List (List Message)) (b : Block) (rest : List Block) (ms : List Message)
    → FilledTo image waiting parts (b ∷ rest) → Fills b.at (part b.at b.len image) 0 ms
    → FilledTo image waiting (parts ++ ms ∷ []) (rest ++ continuations ms)
filled_more image [] [] b rest ms filled fills = cc
filled_more image (w ∷ waiting) [] b rest ms filled fills =
    subst (λ (bs : List Block). FilledTo image bs (ms ∷ []) (rest ++ continuations ms)) (sym filled) (fills, refl)
filled_more image [] (p ∷ parts) b rest ms filled fills = absurd filled
filled_more image (w ∷ waiting) (p ∷ parts) b rest ms filled fills =
    (filled.0, filled_more image (waiting ++ continuations p) parts b rest ms filled.1 fills)

pub filled_whole : (image : List ℕ) (waiting : List Block) (parts : List (List Message)) → FilledTo image waiting parts [] → FillBlocks image waiting parts
filled_whole image [] [] filled = tt
filled_whole image (w ∷ waiting) [] filled = let none : w ∷ waiting ≡ [] = filled in cc
filled_whole image [] (p ∷ parts) filled = filled
filled_whole image (w ∷ waiting) (p ∷ parts) filled = (filled.0, filled_whole image (waiting ++ continuations p) parts filled.1)
