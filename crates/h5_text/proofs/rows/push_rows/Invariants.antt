use Rattle.std.proofs.Common.{◌≡◌, ◌+◌, ◌%◌, ◌++◌, take}
use Rattle.h5_text.specs.Rows.{cells_from}
use Rattle.h5_text.proofs.rows.push_rows.Given as goal

abbrev pub invariant-loop-value : goal.invariant-loop-value
invariant-loop-value l = record {
  text : l.out.items ≡ l.fn.out.items ++ cells_from l.fn.width 0 (take l.value-index l.values);
  width : l.rows.width ≡ l.fn.width;
  column : l.rows.column ≡ (0 + l.value-index) % l.fn.width;
}
