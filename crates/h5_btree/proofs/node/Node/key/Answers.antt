use Rattle.std.proofs.Common.{List, ℕ, Some, ap, sym, ◌∙◌, arith}
use Rattle.h5_btree.proofs.NodeLaws.{length-keys, key_is}
use Rattle.h5_btree.proofs.node.Node.key.Goals as goal

pub key_at-requires-clause-place : goal.key_at-requires-clause-place
key_at-requires-clause-place c = omega (arith, length-keys c.self.inside.kind c.self.inside.bytes.now c.args.self.now c.self.view_is, c.self.invariant.1, c.requires)

pub returns : goal.returns
returns c = key_is c.self.inside.kind c.self.inside.bytes.now c.args.self.now c.self.view_is c.args.i c.requires ∙ ap (λ (key : List ℕ). Some key) (sym c.key_at.ensures.key)
