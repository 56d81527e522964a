use Rattle.std.proofs.Common.{◌≡◌, ℕ, [], List, length, ap, ◌∙◌, subst}
use Rattle.std.specs.Prelude.{IfNone, IfSome}
use Rattle.std.specs.FinMap.{values}
use Rattle.h5_model.specs.Format.Nodes.{chunk_kind, node_at}
use Rattle.h5_model.specs.Format.Reached.{Shape}
use Rattle.h5_model.specs.Format.Superblock.{chunk_k}
use Rattle.h5_btree.specs.Descent.{IsWayTo}
use Rattle.h5_chunks.specs.Told.{chunks_told}
use Rattle.h5_chunks.specs.Way.{chunk_behind}
use Rattle.h5_chunks.proofs.ChunkFound.{if_none, none_stored, tree_sought}
use Rattle.h5_chunks.proofs.search.way_to.Goals as goal
use Rattle.h5_chunks.proofs.search.way_to.Goals.{After-unwrap}

pub unwrap-requires : goal.unwrap-requires
unwrap-requires c =
    let shape : Shape = c.args.shape.now in
    let stored = (c.requires.chunks).stored in
    let ranks : length c.new-sought.result.offsets ≡ length shape.sizes = ap (λ (xs : List ℕ). length xs) c.new-sought.ensures.offsets ∙ c.requires.rank in
    let there = tree_sought c.args.image.now.bytes shape c.args.root c.requires.chunks c.bytes.result.now c.new-sought.result.k (length c.new-sought.result.offsets)
    c.bytes.ensures c.new-sought.ensures.k ranks in
    c.find_way.ensures.only stored.level stored.owned (values (chunks_told c.args.image.now.bytes shape c.args.root)) there.0 there.1

pub returns-clause-leads : goal.returns-clause-leads
returns-clause-leads c =
    let image : List ℕ = c.args.image.now.bytes in
    let offsets : List ℕ = c.args.offsets.now in
    let root : ℕ = c.args.root in
    let leads = rw (c.bytes.ensures, c.new-sought.ensures.k, c.new-sought.ensures.offsets) at (rw c.unwrap.ensures at c.find_way.ensures.leads) in
    subst (λ (n : ℕ). IfSome c.unwrap.result (IsWayTo (node_at image (chunk_kind (chunk_k c.args.image.now.bytes) n)) (chunk_behind offsets) (node_at image (chunk_kind (chunk_k c.args.image.now.bytes) n) root).level root))
    c.requires.rank leads

none_there : (c : After-unwrap) → IfNone c.unwrap.result ((node_at c.args.image.now.bytes (chunk_kind (chunk_k c.args.image.now.bytes) (length c.args.shape.now.sizes)) c.args.root).children ≡ [])
none_there c =
    let image : List ℕ = c.args.image.now.bytes in
    let empty = rw (c.bytes.ensures, c.new-sought.ensures.k, c.new-sought.ensures.offsets) at (rw c.unwrap.ensures at c.find_way.ensures.empty) in
    if_none c.unwrap.result _ (λ none. subst (λ (n : ℕ). (node_at image (chunk_kind (chunk_k c.args.image.now.bytes) n) c.args.root).children ≡ []) c.requires.rank (empty.0 none))

pub returns-clause-empty : goal.returns-clause-empty
returns-clause-empty c = none_there c

pub returns-clause-none : goal.returns-clause-none
returns-clause-none c =
    let image : List ℕ = c.args.image.now.bytes in
    let empty = rw (c.bytes.ensures, c.new-sought.ensures.k, c.new-sought.ensures.offsets) at (rw c.unwrap.ensures at c.find_way.ensures.empty) in
    if_none c.unwrap.result _ (λ none. none_stored image c.args.shape.now c.args.root c.requires.chunks c.args.offsets.now
    (subst (λ (n : ℕ). (node_at image (chunk_kind (chunk_k c.args.image.now.bytes) n) c.args.root).children ≡ []) c.requires.rank (empty.0 none)))
