use Rattle.std.proofs.Common.{◌≡◌, ◌+◌, ◌%◌, ◌++◌, replicate}
use Rattle.h5_text.specs.Rows.{cells_from}
use Rattle.h5_text.proofs.rows.Rows.push_repeated.Given as goal

abbrev pub invariant-loop : goal.invariant-loop
invariant-loop l = record {
  text : l.out.items ≡ l.fn.out.items ++ cells_from l.fn.self.width l.fn.self.column (replicate l.counter l.value);
  width : l.self.width ≡ l.fn.self.width;
  column : l.self.column ≡ (l.fn.self.column + l.counter) % l.fn.self.width;
}
