use Rattle.std.proofs.Common.{◌≡◌, [], ap, rules}
use Rattle.std.proofs.lemmas.Result.{err_from_is_err_and}
use Rattle.h5_model.specs.Format.Superblock.{root_header, root_header_place}
use Rattle.h5_open.specs.Opened.Objects.{objects_of}
use Rattle.h5_open.proofs.CountedLaws.CountLaws.{none_counted}
use Rattle.h5_open.proofs.RefusedLaws.{only_memory}
use Rattle.h5_open.proofs.WholeLaws.{none_numbered, ready_at, whole_at, opened}
use Rattle.h5_open.proofs.steps.walk.Goals as goal

pub read_tree-requires-clause-index : goal.read_tree-requires-clause-index
read_tree-requires-clause-index c = none_numbered c.new.result.items c.new-2.result c.new.ensures.items c.new-2.ensures

pub returns-in_err-read_tree-clause-refused : goal.returns-in_err-read_tree-clause-refused
returns-in_err-read_tree-clause-refused c =
    let none = objects_of c.new.result.items in
    let image = c.args.image.now.bytes in
    let p = err_from_is_err_and c.from_residual-in_err-read_tree.result c.from_residual-in_err-read_tree.ensures.1 in
    let at : c.root_header-header.result ≡ root_header image = search rules in
    rw (p.1, p.2) (c.in_err-read_tree.ensures.refused [] [] (root_header_place image) []
    (ready_at image c.in_ok-claims.claims.held none c.root_header-header.result c.requires.superblock c.in_ok-claims.ensures.walked c.in_ok-claims.ensures.separate (ap objects_of c.new.ensures.items) at)
    (none_counted image none c.new-3.result.items c.root_header-header.result (ap objects_of c.new.ensures.items) c.new-3.ensures.items at))

pub check_counts-requires-clause-whole : goal.check_counts-requires-clause-whole
check_counts-requires-clause-whole c =
    let now = objects_of c.read_tree.new.tally.index.objects.items in
    let none = objects_of c.new.result.items in
    let image = c.args.image.now.bytes in
    let at : c.root_header-header.result ≡ root_header image = search rules in
    whole_at image c.in_ok-claims.claims.held c.read_tree.new.claims.held none now c.root_header-header.result c.requires.superblock c.requires.whole
    (ap objects_of c.new.ensures.items) at
    (c.in_ok-read_tree.ensures.read [] (root_header_place image)
    (ready_at image c.in_ok-claims.claims.held none c.root_header-header.result c.requires.superblock c.in_ok-claims.ensures.walked c.in_ok-claims.ensures.separate (ap objects_of c.new.ensures.items) at))

pub check_counts-requires-clause-counted : goal.check_counts-requires-clause-counted
check_counts-requires-clause-counted c =
    let image = c.args.image.now.bytes in
    let at : c.root_header-header.result ≡ root_header image = search rules in
    c.in_ok-read_tree.ensures.counted [] []
    (none_counted image (objects_of c.new.result.items) c.new-3.result.items c.root_header-header.result (ap objects_of c.new.ensures.items) c.new-3.ensures.items at)

pub returns-clause-kept : goal.returns-clause-kept
returns-clause-kept c =
    let now = objects_of c.read_tree.new.tally.index.objects.items in
    let none = objects_of c.new.result.items in
    let image = c.args.image.now.bytes in
    let at : c.root_header-header.result ≡ root_header image = search rules in
    let all = whole_at image c.in_ok-claims.claims.held c.read_tree.new.claims.held none now c.root_header-header.result c.requires.superblock c.requires.whole
    (ap objects_of c.new.ensures.items) at
    (c.in_ok-read_tree.ensures.read [] (root_header_place image)
    (ready_at image c.in_ok-claims.claims.held none c.root_header-header.result c.requires.superblock c.in_ok-claims.ensures.walked c.in_ok-claims.ensures.separate (ap objects_of c.new.ensures.items) at)) in
    opened c.args.image.now c.read_tree.new.tally.index.objects.items c.read_tree.new.tally.index.numbers c.requires.free all c.in_ok-read_tree.ensures.index c.in_ok-check_counts.ensures.reads

pub returns-in_err-read_tree-clause-only : goal.returns-in_err-read_tree-clause-only
returns-in_err-read_tree-clause-only c =
    let none = objects_of c.new.result.items in
    let image = c.args.image.now.bytes in
    let p = err_from_is_err_and c.from_residual-in_err-read_tree.result c.from_residual-in_err-read_tree.ensures.1 in
    let at : c.root_header-header.result ≡ root_header image = search rules in
    rw (p.1, p.2) (only_memory image _ _ (c.in_err-read_tree.ensures.refused [] [] (root_header_place image) []
    (ready_at image c.in_ok-claims.claims.held none c.root_header-header.result c.requires.superblock c.in_ok-claims.ensures.walked c.in_ok-claims.ensures.separate (ap objects_of c.new.ensures.items) at)
    (none_counted image none c.new-3.result.items c.root_header-header.result (ap objects_of c.new.ensures.items) c.new-3.ensures.items at)))

pub returns-in_err-check_counts-clause-only : goal.returns-in_err-check_counts-clause-only
returns-in_err-check_counts-clause-only c =
    let p = err_from_is_err_and c.from_residual-in_err-check_counts.result c.from_residual-in_err-check_counts.ensures.1 in
    rw (p.1, p.2) (only_memory c.args.image.now.bytes _ _ c.in_err-check_counts.ensures.refused)
