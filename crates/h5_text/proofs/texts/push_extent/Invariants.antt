use Rattle.std.proofs.Common.{◌≡◌, ◌++◌, take, codes}
use Rattle.std.specs.List.{join_by, zip}
use Rattle.h5_model.specs.Scripts.Text.{size_text}
use Rattle.h5_text.proofs.texts.push_extent.Given as goal

abbrev pub invariant-loop-k : goal.invariant-loop-k
invariant-loop-k l = l.out.items ≡ l.fn.out.items ++ (codes "{" ++ join_by size_text (codes ", ") (take l.k (zip l.sizes l.maxima)))
