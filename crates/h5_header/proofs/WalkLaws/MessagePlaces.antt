-- Each message of a header is met at a place of the image, where it fits its block.
use Rattle.std.proofs.Common.{◌≡◌, ℕ, ◌+◌, ◌≤◌, List, [], ◌∷◌, ◌++◌, length, refl, sym, subst, arith}
use Rattle.std.specs.List.{AllByRecursion, flat_map}
use Rattle.h5_bytes.specs.Bytes.{number_at, part}
use Rattle.h5_bytes.specs.declared.Block.{Block}
use Rattle.h5_bytes.proofs.BlockLaws.{all_append}
use Rattle.h5_model.specs.Format.Messages.{Message, IsMessage, Fills, FillBlocks, HasMessages, continuations, first_block}
use Rattle.h5_model.specs.Format.Reached.{Met, at_start, FittingAt, kind_at, size_at}
use Rattle.h5_header.proofs.MetLaws.{IsMet, all_met, all_naming, fills_naming, next_met, part-there, kind, size, fits, body, start}

-- the message's head stands at this place of the image, and the message fits its block
pub record IsPlacedAt (image : List ℕ) (header : ℕ) (m : Message) (at : ℕ) : Type 0 where
  pub place : m.at ≡ at + 8
  pub fits : FittingAt image header at
  pub kind : m.kind ≡ kind_at image at
  pub body : m.body ≡ part (at + 8) (size_at image at) image
  pub there : at + 8 + size_at image at ≤ length image

abbrev pub IsPlacedMessage : List ℕ → ℕ → Message → Type 0
IsPlacedMessage image header m = (at : ℕ) × IsPlacedAt image header m at

module _ (image : List ℕ) (header : ℕ) where
  one_placed : (b : Block) (to : ℕ) (m : Message) → IsMessage b.at (part b.at b.len image) to m → Met image header (b.at + to) (b.at + b.len) → IsPlacedMessage image header m
  one_placed b to m is met =
      let at = b.at + to in
      let fit = fits image header b to m is met in
      let whole = is.whole in
      let n = size image header b to m is met in (
        at,
        record {
          place = is.place;
          fits = (record { end = b.at + b.len; met = met; inside = omega (arith, fit) }, fit);
          kind = kind image header b to m is met;
          body = body image header b to m is met;
          there = omega (arith, whole, n, part-there b.at b.len image (omega (arith, whole)));
        },
      )

  block_placed : (b : Block) (from : ℕ) (ms : List Message) → Fills b.at (part b.at b.len image) from ms → Met image header (b.at + from) (b.at + b.len)
      → AllByRecursion (IsPlacedMessage image header) ms
  block_placed b from [] fills met = tt
  block_placed b from (m ∷ ms) fills met = (
    one_placed b from m fills.0 met,
    block_placed b (from + 8 + number_at (part b.at b.len image) (from + 2) 2) ms fills.1 (next_met image header b from m fills.0 met),
  )

  blocks_placed : (waiting : List Block) (parts : List (List Message)) → FillBlocks image waiting parts → AllByRecursion (IsMet image header) waiting
      → AllByRecursion (IsPlacedMessage image header) (flat_map (λ (ms : List Message). ms) parts)
  blocks_placed [] [] fills met = tt
  blocks_placed [] (ms ∷ parts) fills met = absurd fills
  blocks_placed (b ∷ waiting) [] fills met = absurd fills
  blocks_placed (b ∷ waiting) (ms ∷ parts) fills met =
      let naming = fills_naming image header b 0 ms fills.0 (start image header b met.0) in
      all_append (IsPlacedMessage image header) ms (flat_map (λ (x : List Message). x) parts) (block_placed b 0 ms fills.0 (start image header b met.0))
      (blocks_placed (waiting ++ continuations ms) parts fills.1
      (all_append (IsMet image header) waiting (continuations ms) met.1 (all_met image header (continuations ms) (all_naming image header ms naming))))

-- the messages of a header
pub messages_placed : (image : List ℕ) (header : ℕ) (ms : List Message) (blocks : List Block) → HasMessages image header ms blocks
    → AllByRecursion (IsPlacedMessage image header) ms
messages_placed image header ms blocks has = subst (AllByRecursion (IsPlacedMessage image header)) (sym has.all)
    (blocks_placed image header (first_block image header ∷ []) has.parts has.filled (at_start refl refl, tt))
