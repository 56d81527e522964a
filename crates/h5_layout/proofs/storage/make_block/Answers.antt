use Rattle.std.proofs.Common.{◌≡◌, ℕ, ◌+◌, ◌*◌, ◌≤◌, List, ℤ, [], ◌∷◌, length, length-append, replicate, true, inl, inr, refl, sym, ap, ◌∙◌, subst, arith}
use Rattle.std.proofs.Math.Nat.{mul-le-mul_right}
use Rattle.std.proofs.lemmas.Bool.{cases_lt}
use Rattle.std.proofs.lemmas.List.{length-replicate}
use Rattle.h5_bytes.specs.Bytes.{part}
use Rattle.h5_bytes.specs.Blocks.{block}
use Rattle.h5_header.specs.Listed.{messages_in}
use Rattle.h5_model.specs.Format.Fixed.{Fixed, fits}
use Rattle.h5_model.specs.Format.Described.{Described}
use Rattle.h5_model.specs.Format.Limits.{most_bytes, most_cells}
use Rattle.h5_model.specs.Tree.Places.{cells}
use Rattle.h5_model.proofs.PlainValues.{size-high}
use Rattle.h5_space.specs.Space.{Space, growth}
use Rattle.h5_chunks.proofs.TakenBlock.{zero_behind}
use Rattle.h5_shape.proofs.Products.{cells_le}
use Rattle.h5_layout.specs.ArrayEdits.{described_in}
use Rattle.h5_layout.specs.Data.{data_blocks}
use Rattle.h5_layout.specs.Filled.{cells_of_fill}
use Rattle.h5_layout.specs.declared.copied.CellsToFill.{CellsToFill}
use Rattle.h5_layout.proofs.ArrayMoved.{header_stands}
use Rattle.h5_layout.proofs.BlockMade.{IsBlockFilled, block_filled, block_long, block_made, block_told}
use Rattle.h5_layout.proofs.FilledLaws.{fill_count}
use Rattle.h5_layout.proofs.NewTreeLaws.{block_place}
use Rattle.h5_layout.proofs.StorableLaws.{fixed_told}
use Rattle.h5_layout.proofs.storage.make_block.Goals as goal
use Rattle.h5_layout.proofs.storage.make_block.Goals.{After-fill_taken}

pub overflow_mul-length : goal.overflow_mul-length
overflow_mul-length c =
    let a : Described = described_in c.args.image.now.bytes c.args.messages.now in
    let few = cells_le a.sizes in
    let small = c.requires.array.array.small in
    let count : c.args.cells.now.count ≤ most_cells = omega (arith, few, small, c.requires.count) in
    let low = size-high c.args.cells.now.fixed c.size.ensures.one_of in
    let most = mul-le-mul_right c.size.result count in
    omega (arith, most, low, c.size.ensures.size)

pub fill_taken-requires-clause-zero : goal.fill_taken-requires-clause-zero
fill_taken-requires-clause-zero c = λ behind.
    let was : List ℕ = c.reserve.new.self.bytes in
    let to = c.args.cells.now in
    let at : ℕ = c.take-at.result in
    let len : ℕ = to.count * c.size.result in
    let n : ℕ = growth len c.reserve.new.self.free in
    let past : length was ≤ at = subst (λ (bs : List ℕ). length bs ≤ at) c.bytes.ensures behind in
    let long = ap length c.take-at.ensures.bytes ∙ length-append was (replicate n 0) ∙ ap (λ (m : ℕ). length was + m) (length-replicate n 0) in
    subst (λ (s : ℕ). part at (to.count * s) c.take-at.new.self.bytes ≡ replicate (to.count * s) 0) c.size.ensures.size
    (ap (part at len) c.take-at.ensures.bytes ∙ zero_behind at len n was past (omega (arith, long, c.take-at.ensures.inside)))

-- once its cells are written
module _ (c : After-fill_taken) where
  abbrev old : Space
  old = c.args.image.now

  abbrev now : Space
  now = c.fill_taken.new.image

  abbrev to : CellsToFill
  to = c.args.cells.now

  abbrev at : ℕ
  at = c.take-at.result

  abbrev len : ℕ
  len = to.count * c.size.result

  abbrev a : Described
  a = described_in old.bytes c.args.messages.now

  filled : IsBlockFilled old now at len (cells_of_fill to.fixed to.fill to.count)
  filled =
      let long = fill_count to.fixed to.fill to.count ∙ ap (λ (n : ℕ). to.count * n) (sym c.size.ensures.size) in
      block_filled old c.reserve.new.self c.take-at.new.self now _ _ c.in_default.ensures.ok at len c.take-at.ensures.bytes c.take-at.ensures.taken c.take-at.ensures.inside
      (cells_of_fill to.fixed to.fill to.count) long c.fill_taken.ensures

  few : length old.bytes + len ≤ most_bytes
  few = elim (cases_lt most_bytes (length old.bytes + len)) [
    | inl more ↦ absurd (c.in_default.not-Err _ (c.reserve.ensures.full.1 more))
    | inr fits ↦ fits
  ]

  room : len ≡ cells a.sizes * a.fixed.size
  room = (λ i. c.requires.count i * c.size.ensures.size i) ∙ ap (λ (x : Fixed). cells a.sizes * x.size) c.requires.fixed

pub set_block-requires-clause-within : goal.set_block-requires-clause-within
set_block-requires-clause-within c =
    let d = (goal.at.set_block-requires-clause-within c).After-fill_taken in
    (header_stands (old d) (now d) c.args.messages.now c.requires.array [] (block (at d) (len d) ∷ []) (ap (data_blocks (old d).bytes (a d).fixed) c.requires.none) (filled d).moves).within

pub set_block-requires-clause-room : goal.set_block-requires-clause-room
set_block-requires-clause-room c =
    let image = c.args.image.now.bytes in
    let m = c.args.messages.now in
    block_place image m.list c.requires.array.standing.within (described_in image m) c.requires.array.array _ c.requires.none

pub returns-clause-made : goal.returns-clause-made
returns-clause-made c =
    let d = (goal.at.returns-clause-made c).After-fill_taken in
    let f = filled d in
    let fixed = c.requires.fixed in
    block_made (old d) (now d) c.set_block.new.image c.args.messages.now c.requires.array c.requires.none (at d) (len d) f.inside (omega (arith, f.grown, few d)) f.moves (room d) c.set_block.ensures
    (fixed_told (messages_in (old d).bytes c.args.messages.now.list) (a d) c.requires.array.array)
    (subst (λ (x : Fixed). fits x (a d).fill ≡ true) fixed (subst (λ (v : ℤ). fits (to d).fixed v ≡ true) c.requires.fill c.requires.of_type))
    (f.there ∙ (λ i. cells_of_fill (fixed i) (c.requires.fill i) (c.requires.count i)))

pub returns-clause-placed : goal.returns-clause-placed
returns-clause-placed c =
    let d = (goal.at.returns-clause-placed c).After-fill_taken in
    let f = filled d in
    let told = block_told (old d) (now d) c.set_block.new.image c.args.messages.now c.requires.array c.requires.none (at d) (len d) f.inside (omega (arith, f.grown, few d)) f.moves (room d)
    c.set_block.ensures in
    (block (at d) (len d), ap (λ (x : Described). x.layout) told, refl)

pub returns-clause-spends : goal.returns-clause-spends
returns-clause-spends c =
    let d = (goal.at.returns-clause-spends c).After-fill_taken in
    let f = filled d in
    let same = block_long (old d) (now d) c.set_block.new.image c.args.messages.now c.requires.array c.requires.none (at d) (len d) f.inside f.moves c.set_block.ensures in
    let size = ap (λ (n : ℕ). (to d).count * n) c.size.ensures.size in
    omega (arith, f.grown, same, size)
