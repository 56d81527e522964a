use Rattle.std.proofs.Common.{◌≡◌, ◌+◌, ◌^◌, ◌<◌, ℕ, List, ◌++◌, OnOk, length, subst, sym, arith}
use Rattle.h5_btree.proofs.WriteLaws.Steps.{level_is, tree_is}
use Rattle.h5_btree.proofs.write.rows.push_tree.Goals as goal

pub push_rows-requires-clause-level : goal.push_rows-requires-clause-level
push_rows-requires-clause-level g c = omega (arith, level_is c.args.kind.now.k (length c.args.children.now), c.requires.level)

pub push_rows-requires-clause-room : goal.push_rows-requires-clause-room
push_rows-requires-clause-room g c =
    subst (λ (bytes : List ℕ). c.args.at + length bytes < 2 ^ 63) (tree_is c.args.kind.now g.K.TreeKey.bytes c.args.first c.args.at c.args.children.now) c.requires.room

pub returns : goal.returns
returns g c =
    subst (λ (bytes : List ℕ). OnOk c.push_rows.result (c.push_rows.new.out.items ≡ c.args.out.now.items ++ bytes))
    (sym (tree_is c.args.kind.now g.K.TreeKey.bytes c.args.first c.args.at c.args.children.now)) c.push_rows.ensures
