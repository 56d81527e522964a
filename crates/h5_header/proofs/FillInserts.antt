-- A header with one block more: where a message that is added stands in a block of its own, which a Continuation message names, the
-- messages are those before, with those of the new block among them at one place.
use Rattle.std.proofs.Common.{◌≡◌, ℕ, ◌+◌, ◌≤◌, List, [], ◌∷◌, ◌++◌, length, arith, append-nil, append_assoc, refl, sym, ap, ◌∙◌, subst}
use Rattle.h5_bytes.specs.Bytes.{number_at, part}
use Rattle.h5_bytes.specs.Blocks.{Inside}
use Rattle.h5_bytes.specs.declared.Block.{Block}
use Rattle.h5_bytes.proofs.BlockLaws.{all_append, all_left, all_right}
use Rattle.h5_bytes.proofs.PartLaws.{length-part}
use Rattle.h5_model.specs.Format.Messages.{Message, Fills, FillBlocks, continuations, continuation}
use Rattle.std.proofs.lemmas.List.Concat.{flat_map-append}
use Rattle.h5_header.proofs.StretchLaws.{all_of}

-- how many bytes messages have with their heads, and blocks
abbrev pub bytes_of : List Message → ℕ
bytes_of [] = 0
bytes_of (m ∷ ms) = 8 + length m.body + bytes_of ms

abbrev pub bytes_in : List Block → ℕ
bytes_in [] = 0
bytes_in (b ∷ bs) = b.len + bytes_in bs

pub bytes_of-append : (xs ys : List Message) → bytes_of (xs ++ ys) ≡ bytes_of xs + bytes_of ys
bytes_of-append [] ys = omega arith
bytes_of-append (x ∷ xs) ys = omega (arith, bytes_of-append xs ys)

pub bytes_in-append : (xs ys : List Block) → bytes_in (xs ++ ys) ≡ bytes_in xs + bytes_in ys
bytes_in-append [] ys = omega arith
bytes_in-append (x ∷ xs) ys = omega (arith, bytes_in-append xs ys)

bytes_filled : (block_at : ℕ) (bytes : List ℕ) (from : ℕ) (ms : List Message) → Fills block_at bytes from ms → from + bytes_of ms ≡ length bytes
bytes_filled block_at bytes from [] fills = omega (arith, fills)
bytes_filled block_at bytes from (m ∷ ms) fills =
    let is = fills.0 in
    let size = number_at bytes (from + 2) 2 in
    let long : length m.body ≡ size = ap length is.body ∙ length-part (from + 8) size bytes is.whole in
    omega (arith, long, bytes_filled block_at bytes (from + 8 + size) ms fills.1)

-- messages that fill a block have as many bytes
pub bytes_filling : (image : List ℕ) (b : Block) (ms : List Message) → b.at + b.len ≤ length image → Fills b.at (part b.at b.len image) 0 ms → bytes_of ms ≡ b.len
bytes_filling image b ms inside fills = omega (arith, bytes_filled b.at (part b.at b.len image) 0 ms fills, length-part b.at b.len image inside)

-- all messages of some blocks have as many bytes as these blocks and those that they name
pub bytes_filled_all : (image : List ℕ) (waiting : List Block) (parts : List (List Message)) → Inside (length image) waiting → Inside (length image) (continuations (all_of parts))
    → FillBlocks image waiting parts → bytes_of (all_of parts) ≡ bytes_in waiting + bytes_in (continuations (all_of parts))
bytes_filled_all image [] [] low more fills = refl
bytes_filled_all image [] (p ∷ parts) low more fills = absurd fills
bytes_filled_all image (b ∷ waiting) [] low more fills = absurd fills
bytes_filled_all image (b ∷ waiting) (p ∷ parts) low more fills =
    let P : Block → Type 0 = λ x. x.at + x.len ≤ length image in
    let split = flat_map-append continuation p (all_of parts) in
    let named = subst (Inside (length image)) split more in
    let next = all_append P waiting (continuations p) low.1 (all_left P (continuations p) (continuations (all_of parts)) named) in
    let rest = bytes_filled_all image (waiting ++ continuations p) parts next (all_right P (continuations p) (continuations (all_of parts)) named) fills.1 in
    let here : bytes_of p ≡ b.len = bytes_filling image b p low.0 fills.0 in
    let names : bytes_in (continuations (p ++ all_of parts)) ≡ bytes_in (continuations p) + bytes_in (continuations (all_of parts))
    = ap bytes_in split ∙ bytes_in-append (continuations p) (continuations (all_of parts)) in
    omega (arith, rest, here, names, bytes_of-append p (all_of parts), bytes_in-append waiting (continuations p))

-- the parts with these messages among theirs, behind all messages of some first blocks
pub record IsInserted (image : List ℕ) (first waiting : List Block) (parts : List (List Message)) (ms : List Message) : Type 0 where
  pub parts' : List (List Message)
  pub fills : FillBlocks image waiting parts'
  pub front : List Message
  pub back : List Message
  pub before : all_of parts ≡ front ++ back
  pub after : all_of parts' ≡ front ++ (ms ++ back)
  pub place : bytes_of front ≡ bytes_in first

module _ (image : List ℕ) (b : Block) (ms : List Message) (last : continuations ms ≡ []) (fill : Fills b.at (part b.at b.len image) 0 ms) where
  -- a block more that waits
  pub fill-insert : (first next : List Block) (parts : List (List Message)) → Inside (length image) first → FillBlocks image (first ++ next) parts
      → IsInserted image first (first ++ b ∷ next) parts ms
  fill-insert [] next parts low fills = record {
    parts' = ms ∷ parts;
    fills = (fill, subst (λ (bs : List Block). FillBlocks image bs parts) (sym (ap (λ (bs : List Block). next ++ bs) last ∙ append-nil next)) fills);
    front = [];
    back = all_of parts;
    before = refl;
    after = refl;
    place = refl;
  }
  fill-insert (x ∷ first) next [] low fills = absurd fills
  fill-insert (x ∷ first) next (p ∷ parts) low fills =
      let more = fill-insert first (next ++ continuations p) parts low.1 (subst (λ (bs : List Block). FillBlocks image bs parts) (append_assoc first next (continuations p)) fills.1) in
      record {
        parts' = p ∷ more.parts';
        fills = (fills.0, subst (λ (bs : List Block). FillBlocks image bs more.parts') (sym (append_assoc first (b ∷ next) (continuations p))) more.fills);
        front = p ++ more.front;
        back = more.back;
        before = ap (λ (xs : List Message). p ++ xs) more.before ∙ sym (append_assoc p more.front more.back);
        after = ap (λ (xs : List Message). p ++ xs) more.after ∙ sym (append_assoc p more.front (ms ++ more.back));
        place = omega (arith, bytes_of-append p more.front, bytes_filling image x p low.0 fills.0, more.place);
      }

-- One message c of a block, in place of m, names the block b; all other blocks keep their bytes.
module _ (new : List ℕ) (b : Block) (ms : List Message) (last : continuations ms ≡ []) (fill : Fills b.at (part b.at b.len new) 0 ms)
    (m c : Message) (none : continuation m ≡ []) (names : continuation c ≡ b ∷ []) (xs ys : List Message) where
  named : continuations (xs ++ c ∷ ys) ≡ continuations xs ++ b ∷ continuations ys
  named = flat_map-append continuation xs (c ∷ ys) ∙ ap (λ (bs : List Block). continuations xs ++ (bs ++ continuations ys)) names

  unnamed : continuations (xs ++ m ∷ ys) ≡ continuations xs ++ continuations ys
  unnamed = flat_map-append continuation xs (m ∷ ys) ∙ ap (λ (bs : List Block). continuations xs ++ (bs ++ continuations ys)) none

  -- the block with the message is the next one that waits
  pub fill-here : (waiting : List Block) (parts : List (List Message)) → Inside (length new) (waiting ++ continuations xs)
      → FillBlocks new (waiting ++ continuations (xs ++ m ∷ ys)) parts → IsInserted new (waiting ++ continuations xs) (waiting ++ continuations (xs ++ c ∷ ys)) parts ms
  fill-here waiting parts low fills =
      let split : waiting ++ continuations (xs ++ m ∷ ys) ≡ (waiting ++ continuations xs) ++ continuations ys
      = ap (λ (bs : List Block). waiting ++ bs) unnamed ∙ sym (append_assoc waiting (continuations xs) (continuations ys)) in
      let joined : (waiting ++ continuations xs) ++ b ∷ continuations ys ≡ waiting ++ continuations (xs ++ c ∷ ys)
      = append_assoc waiting (continuations xs) (b ∷ continuations ys) ∙ ap (λ (bs : List Block). waiting ++ bs) (sym named) in
      subst (λ (bs : List Block). IsInserted new (waiting ++ continuations xs) bs parts ms) joined
      (fill-insert new b ms last fill (waiting ++ continuations xs) (continuations ys) parts low (subst (λ (bs : List Block). FillBlocks new bs parts) split fills))
