use Rattle.std.proofs.Common.{◌≡◌, ◌+◌, ◌*◌, ◌%◌, ◌++◌, map}
use Rattle.std.specs.List.{range_with_len}
use Rattle.h5_model.specs.Format.Fixed.{value_at}
use Rattle.h5_text.specs.Rows.{cells_from}
use Rattle.h5_text.proofs.rows.Rows.push_stored.Given as goal

abbrev pub invariant-loop-k : goal.invariant-loop-k
invariant-loop-k l = record {
  text : l.out.items ≡ l.fn.out.items ++ cells_from l.fn.self.width l.fn.self.column (map (λ k. value_at l.fn.fixed l.bytes (k * l.fn.fixed.size)) (range_with_len 0 l.k));
  width : l.self.width ≡ l.fn.self.width;
  column : l.self.column ≡ (l.fn.self.column + l.k) % l.fn.self.width;
}
