-- A header that is kept while a file is edited in place: where the bytes of its blocks stay, its messages are the ones that were
-- read, and what is kept of it still says where they stand.
use Rattle.std.proofs.Common.{◌≡◌, ℕ, ◌+◌, ◌≤◌, List, [], ◌∷◌, ◌++◌, length, refl, sym, ◌∙◌, ap, ap₂, subst, arith}
use Rattle.std.specs.List.{AllByRecursion, flat_map}
use Rattle.h5_bytes.specs.Bytes.{number_at, part}
use Rattle.h5_bytes.specs.Blocks.{block, Keeps, IsKept}
use Rattle.h5_bytes.specs.declared.Block.{Block}
use Rattle.h5_bytes.proofs.PartLaws.{part-part, length-part}
use Rattle.h5_bytes.proofs.BlockLaws.{all_append, all_left, all_right}
use Rattle.h5_model.specs.Format.Messages.{Message, Fills, FillBlocks, continuations, HasMessages, first_block, first_size, prefix_at}
use Rattle.h5_model.proofs.Frames.{rest-same, messages-same, continuations_of_all}
use Rattle.h5_header.specs.Listed.{Listed, messages_in, IsWithin}
use Rattle.h5_header.specs.declared.message.Message.{Message as Placed}
use Rattle.h5_header.proofs.MetLaws.{length-part-le}

module _ (old new : List ℕ) where
  abbrev Stays : Message → Type 0
  Stays m = part m.at (length m.body) new ≡ m.body

  fills_stay : (b : Block) (from : ℕ) (ms : List Message) → IsKept old new b → Fills b.at (part b.at b.len old) from ms → AllByRecursion Stays ms
  fills_stay b from [] kept fills = tt
  fills_stay b from (m ∷ ms) kept fills =
      let size = number_at (part b.at b.len old) (from + 2) 2 in
      let is = fills.0 in
      let low : from + 8 + size ≤ b.len = omega (arith, is.whole, length-part-le b.at b.len old) in
      let long : length m.body ≡ size = ap length is.body ∙ length-part (from + 8) size (part b.at b.len old) is.whole in
      let place : b.at + (from + 8) ≡ m.at = omega (arith, is.place) in
      let there : part m.at size new ≡ part (from + 8) size (part b.at b.len new) = rw place at (sym (part-part (from + 8) size b.at b.len new low)) in
      (ap (λ n. part m.at n new) long ∙ there ∙ ap (part (from + 8) size) kept ∙ sym is.body, fills_stay b (from + 8 + size) ms kept fills.1)

  parts_stay : (waiting : List Block) (parts : List (List Message)) → Keeps old new waiting → Keeps old new (flat_map continuations parts) → FillBlocks old waiting parts
      → AllByRecursion Stays (flat_map (λ ms. ms) parts)
  parts_stay [] [] kept more fills = tt
  parts_stay [] (ms ∷ parts) kept more fills = absurd fills
  parts_stay (b ∷ waiting) [] kept more fills = absurd fills
  parts_stay (b ∷ waiting) (ms ∷ parts) kept more fills =
      let here = all_left (IsKept old new) (continuations ms) (flat_map continuations parts) more in
      let there = all_right (IsKept old new) (continuations ms) (flat_map continuations parts) more in
      all_append Stays ms (flat_map (λ ms. ms) parts) (fills_stay b 0 ms kept.0 fills.0)
      (parts_stay (waiting ++ continuations ms) parts (all_append (IsKept old new) waiting (continuations ms) kept.1 here) there fills.1)

  all_stay : (header : ℕ) (messages : List Message) (blocks : List Block) → HasMessages old header messages blocks → Keeps old new blocks → AllByRecursion Stays messages
  all_stay header messages blocks has kept =
      let laid : Keeps old new (block header (16 + first_size (prefix_at old header)) ∷ continuations messages) = subst (Keeps old new) has.laid kept in
      let first : IsKept old new (first_block old header) = rest-same old new header (first_size (prefix_at old header)) 16 laid.0 in
      let rest : Keeps old new (flat_map continuations has.parts) = subst (Keeps old new) (ap continuations has.all ∙ continuations_of_all has.parts) laid.1 in
      subst (AllByRecursion Stays) (sym has.all) (parts_stay (first_block old header ∷ []) has.parts (first, tt) rest has.filled)

  bodies_stay : (list : List Placed) → IsWithin (length old) list → AllByRecursion Stays (messages_in old list) → messages_in new list ≡ messages_in old list
  bodies_stay [] within stay = refl
  bodies_stay (m ∷ list) within stay =
      let long : length (part m.at m.size old) ≡ m.size = length-part m.at m.size old within.0 in
      let body : part m.at m.size new ≡ part m.at m.size old = rw long at stay.0 in
      ap₂ (λ (x : Message) (xs : List Message). x ∷ xs) (λ i. record { kind = m.kind; at = m.at; body = body i }) (bodies_stay list within.1 stay.1)

  -- the messages of a header stay, and so does what is kept of them
  pub listed-same : (m : Listed) → HasMessages old m.header (messages_in old m.list) m.blocks → IsWithin (length old) m.list → Keeps old new m.blocks
      → messages_in new m.list ≡ messages_in old m.list
  listed-same m has within kept = bodies_stay m.list within (all_stay m.header (messages_in old m.list) m.blocks has kept)

  pub header-same : (m : Listed) → HasMessages old m.header (messages_in old m.list) m.blocks → IsWithin (length old) m.list → Keeps old new m.blocks
      → HasMessages new m.header (messages_in new m.list) m.blocks
  header-same m has within kept =
      subst (λ ms. HasMessages new m.header ms m.blocks) (sym (listed-same m has within kept)) (messages-same old new m.header (messages_in old m.list) m.blocks has kept)
