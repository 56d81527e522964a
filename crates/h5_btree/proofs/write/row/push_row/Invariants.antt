use Rattle.std.proofs.Common.{◌≡◌, ◌+◌, ◌*◌, ◌^◌, ◌<◌, ◌++◌, length}
use Rattle.h5_bytes.specs.Bytes.{undefined_address}
use Rattle.h5_model.specs.Format.Nodes.{node_length}
use Rattle.h5_btree.specs.Writing.Written.{FitsKind, AllFit, row_bytes}
use Rattle.h5_btree.proofs.WriteLaws.Steps.{rest_of}
use Rattle.h5_btree.proofs.write.row.push_row.Given as goal

-- the nodes so far, with those to come
abbrev pub invariant-loop-rest : goal.invariant-loop-rest
invariant-loop-rest g l = record {
  written : l.out.items ++ row_bytes l.kind g.K.TreeKey.bytes l.level l.left l.before l.place (rest_of (2 * l.kind.k) l.rest)
      ≡ l.initial.out.items ++ row_bytes l.kind g.K.TreeKey.bytes l.level undefined_address l.fn.first l.at (rest_of (2 * l.kind.k) l.children);
  room : l.place + length (rest_of (2 * l.kind.k) l.rest) * node_length l.kind < 2 ^ 63;
  first : FitsKind l.kind g.K.TreeKey.bytes l.before;
  keys : AllFit l.kind g.K.TreeKey.bytes l.rest;
}

abbrev pub decreases-loop-rest : goal.decreases-loop-rest
decreases-loop-rest g l = length l.rest
