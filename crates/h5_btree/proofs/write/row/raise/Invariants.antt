use Rattle.std.proofs.Common.{◌≡◌, ◌+◌, ◌*◌, ◌^◌, ◌<◌, ◌++◌, length}
use Rattle.h5_model.specs.Format.Nodes.{node_length}
use Rattle.h5_btree.specs.Writing.Written.{as_children}
use Rattle.h5_btree.proofs.WriteLaws.Steps.{rest_of}
use Rattle.h5_btree.proofs.write.row.raise.Given as goal

-- the nodes so far, with those to come
abbrev pub invariant-loop-rest : goal.invariant-loop-rest
invariant-loop-rest g l = record {
  written : l.row.items ++ as_children l.kind l.place l.before (rest_of (2 * l.kind.k) l.rest)
      ≡ as_children l.kind l.at l.fn.first (rest_of (2 * l.kind.k) l.children);
  room : l.place + length (rest_of (2 * l.kind.k) l.rest) * node_length l.kind < 2 ^ 63;
}

abbrev pub decreases-loop-rest : goal.decreases-loop-rest
decreases-loop-rest g l = length l.rest
