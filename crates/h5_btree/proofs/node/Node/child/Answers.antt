use Rattle.std.proofs.Common.{ℕ, Some, ap, sym, ◌∙◌, arith}
use Rattle.h5_btree.proofs.NodeLaws.{length-children, child_is}
use Rattle.h5_btree.proofs.node.Node.child.Goals as goal

pub child_at-requires-clause-place : goal.child_at-requires-clause-place
child_at-requires-clause-place c = omega (arith, length-children c.self.inside.kind c.self.inside.bytes.now c.args.self.now c.self.view_is, c.self.invariant.1, c.requires)

pub returns : goal.returns
returns c = child_is c.self.inside.kind c.self.inside.bytes.now c.args.self.now c.self.view_is c.args.i c.requires ∙ ap (λ (child : ℕ). Some child) (sym c.child_at.ensures)
