use Rattle.std.proofs.Common.{ℕ, ◌+◌, ◌*◌, sym, ap, arith, ◌∙◌}
use Rattle.std.specs.Prelude.{Ok}
use Rattle.h5_model.specs.Format.Fixed.{Fixed}
use Rattle.h5_model.specs.Format.Layout.{InBlock}
use Rattle.h5_model.specs.Format.Described.{Described}
use Rattle.h5_model.proofs.PlainValues.{size-high}
use Rattle.h5_msg.specs.Layouts.{layout_in}
use Rattle.h5_shape.proofs.Products.{cells_le}
use Rattle.h5_layout.specs.Standing.{IsStandingAt}
use Rattle.h5_layout.specs.declared.stored_run.RunStorage.TheVariants as storage
use Rattle.h5_layout.proofs.RunStorageLaws.{block_missing, standing_first}
use Rattle.h5_layout.proofs.StandsAt.{block_stands}
use Rattle.h5_layout.proofs.stored_run.run_storage.Goals as goal
use Rattle.h5_layout.proofs.stored_run.run_storage.Goals.{In-Some}

pub returns-in_default-clause-storage : goal.returns-in_default-clause-storage
returns-in_default-clause-storage c =
    let a : Described = c.args.array.now in
    let laid = sym c.layout.ensures.layout ∙ ap layout_in c.in-Contiguous.is ∙ ap InBlock c.in_default.is in
    let small = c.layout.ensures.sound.small in
    let le = cells_le a.sizes in
    let size = c.size-size.ensures.size ∙ ap (λ (t : Fixed). t.size) c.fixed.ensures in
    let high = size-high c.fixed.result c.size-size.ensures.one_of in
    block_missing a c.args.run c.requires.below c.requires.some c.args.image.now.bytes laid (omega (arith, small, le)) (omega (arith, c.size-size.ensures.size, size, high))

-- the cells stand in the block
module _ (c : In-Some) where
  stand : IsStandingAt c.args.image.now.bytes c.args.array.now c.args.run.place c.args.run.length (c.in-Some.block.at + c.args.run.place * c.size-size.result)
  stand =
      let size = c.size-size.ensures.size ∙ ap (λ (t : Fixed). t.size) c.fixed.ensures in
      block_stands c.args.image.now.bytes c.args.array.now c.in-Contiguous.block (ap layout_in (sym c.in-Contiguous.is) ∙ c.layout.ensures.layout)
      c.in-Some.block c.in-Some.is c.args.run.place c.size-size.result c.args.run.length size c.requires.below

pub returns-in-Some-clause-storage : goal.returns-in-Some-clause-storage
returns-in-Some-clause-storage c = stand (goal.at.returns-in-Some-clause-storage c).In-Some

pub returns-in-Some-clause-one : goal.returns-in-Some-clause-one
returns-in-Some-clause-one c at one there =
    let d = (goal.at.returns-in-Some-clause-one c).In-Some in
    ap (λ (x : ℕ). Ok (storage.Standing x)) (standing_first c.args.image.now.bytes c.args.array.now c.args.run.place c.args.run.length _ at c.requires.some (stand d) there)
