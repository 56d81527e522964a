use Rattle.std.proofs.lemmas.Result.{MatchResult-weaker}
use Rattle.h5_btree.proofs.WalkLaws.AllLaws.{is_tree, tree_inside}
use Rattle.h5_btree.proofs.WalkLaws.TreeLaws.{tree_followed, tree_fault}
use Rattle.h5_btree.proofs.WalkLaws.Readable.{rows_memory}
use Rattle.h5_btree.proofs.walk.read.read_tree.Goals as goal

pub returns-clause-tree : goal.returns-clause-tree
returns-clause-tree g c =
    MatchResult-weaker c.read_rows.result c.read_rows.ensures.rows
    (λ t rows. is_tree c.args.image.now.bytes (g.L.Trees.form c.args.over.now) c.args.root c.in_ok-level.level c.in_ok-level.ensures.low c.in_ok-level.ensures.read c.in_ok-level.ensures.filled
    t.nodes.items t.leaves.items c.in_ok-level.ensures.keyed rows) (λ _ h. h)

pub returns-clause-inside : goal.returns-clause-inside
returns-clause-inside g c =
    MatchResult-weaker c.read_rows.result c.read_rows.ensures.rows
    (λ t rows. tree_inside c.args.image.now.bytes (g.L.Trees.form c.args.over.now) c.args.root c.in_ok-level.level c.in_ok-level.ensures.low c.in_ok-level.ensures.read c.in_ok-level.ensures.filled
    t.nodes.items t.leaves.items c.in_ok-level.ensures.keyed rows) (λ _ h. h)

pub returns-clause-walked : goal.returns-clause-walked
returns-clause-walked g c =
    MatchResult-weaker c.read_rows.result c.read_rows.ensures.rows
    (λ t rows followed field heap depth met. tree_followed c.args.image.now.bytes (g.L.Trees.form c.args.over.now) c.args.root c.in_ok-level.level c.in_ok-level.ensures.low c.in_ok-level.ensures.read
    c.args.claims.now.held followed field heap depth met c.claim_tree.new.claims.held t.nodes.items t.leaves.items rows
    (c.in_ok-level.ensures.walked followed field heap depth met)) (λ _ h. h)

pub returns-clause-refused : goal.returns-clause-refused
returns-clause-refused g c =
    MatchResult-weaker c.read_rows.result c.read_rows.ensures.refused (λ _ h. h)
    (λ fault refused. tree_fault c.args.image.now.bytes (g.L.Trees.form c.args.over.now) c.args.root c.in_ok-level.level c.in_ok-level.ensures.low c.in_ok-level.ensures.read
    c.args.claims.now.held fault.cause fault.address refused)

pub returns-clause-only : goal.returns-clause-only
returns-clause-only g c = λ readable.
    MatchResult-weaker c.read_rows.result c.read_rows.ensures.refused (λ _ h. h)
    (λ fault refused. rows_memory c.args.image.now.bytes (g.L.Trees.form c.args.over.now) c.args.root c.args.claims.now.held readable fault.cause fault.address refused)

pub returns-clause-claimed : goal.returns-clause-claimed
returns-clause-claimed g c =
    MatchResult-weaker c.read_rows.result c.read_rows.ensures.rows
    (λ t rows. rw (rows.owns, rows.leads) c.in_ok-level.ensures.claimed) (λ _ h. h)
