use Rattle.std.proofs.Common.{◌≡◌, ◌<◌, [], ◌∷◌, ◌++◌, List, length, take, append_assoc, ap, sym, ◌∙◌, rules, arith, ℕ}
use Rattle.h5_btree.proofs.WalkLaws.Prefix.{prefix_next}
use Rattle.h5_btree.proofs.walk.rows.push_children.Goals as goal

pub loop-i-preserved : goal.loop-i-preserved
loop-i-preserved c =
    let cs = c.args.node.now.children in
    let low : c.loop-i.i < length cs = omega arith in
    let pushed : c.push.new.self.items ≡ c.loop-i.next.items ++ c.child.result ∷ [] = search rules in
    pushed ∙ ap (λ (xs : List ℕ). xs ++ c.child.result ∷ []) c.loop-i.invariant ∙ append_assoc c.args.next.now.items (take c.loop-i.i cs) (c.child.result ∷ [])
    ∙ ap (λ (xs : List ℕ). c.args.next.now.items ++ xs) (sym (prefix_next cs c.loop-i.i c.child.result low c.child.ensures))
