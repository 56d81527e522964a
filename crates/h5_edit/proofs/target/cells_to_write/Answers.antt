use Rattle.std.proofs.Common.{◌∙◌, ap}
use Rattle.std.specs.Prelude.{option_and_then}
use Rattle.std.proofs.lemmas.Result.{err_from_is_err_and}
use Rattle.h5_model.specs.Tree.Objects.{dataset_of}
use Rattle.h5_model.specs.declared.edits.Edit.TheVariants.{Write}
use Rattle.h5_edit.proofs.Refusals.{by_rule, short_of_memory}
use Rattle.h5_edit.proofs.RuleLaws.Exits.{passed_on}
use Rattle.h5_edit.proofs.RuleLaws.Writes.{write_left}
use Rattle.h5_edit.proofs.target.cells_to_write.Goals as goal

pub returns-in_err-run : goal.returns-in_err-run
returns-in_err-run c path d is =
    let found = ap (option_and_then (dataset_of c.args.opened.now.tree)) is.number ∙ c.described_of-array.ensures.there.told in
    passed_on _ _ c.from_residual.result _ c.from_residual.ensures.1
    (by_rule c.args.opened.now (Write path c.args.hyper.now c.args.values.now) _
    (write_left _ _ path c.args.hyper.now c.args.values.now _ is.accepted found ∙ c.in_err-run.ensures))

pub returns-in_err-stored_cells : goal.returns-in_err-stored_cells
returns-in_err-stored_cells c path d is =
    let found = ap (option_and_then (dataset_of c.args.opened.now.tree)) is.number ∙ c.described_of-array.ensures.there.told in
    let p = err_from_is_err_and c.from_residual-in_err-stored_cells.result c.from_residual-in_err-stored_cells.ensures.1 in
    rw (p.1, p.2) (short_of_memory c.args.opened.now (Write path c.args.hyper.now c.args.values.now)
    (write_left _ _ path c.args.hyper.now c.args.values.now _ is.accepted found ∙ c.in_ok-run.ensures.0))

pub returns : goal.returns
returns c path d is =
    let found = ap (option_and_then (dataset_of c.args.opened.now.tree)) is.number ∙ c.described_of-array.ensures.there.told in
    record {
      sound = c.image-image.ensures.sound;
      write = record {
        at = record {
          allowed = write_left _ _ path c.args.hyper.now c.args.values.now _ is.accepted found ∙ c.in_ok-run.ensures.0;
          object = is.number;
        };
        array = c.described_of-array.result;
        there = c.described_of-array.ensures.there;
      };
      found = rw c.image-image.ensures.bytes at (c.in_ok-stored_cells.ensures c.args.values.now c.in_ok-run.ensures.1);
    }
