use Rattle.std.proofs.lemmas.Result.{err_from_is_err_and}
use Rattle.h5_header.specs.Listed.{messages_in}
use Rattle.h5_open.proofs.ArrayLaws.{bodies_fault}
use Rattle.h5_open.proofs.GroupReadLaws.{group_met, first, group_object_read, group_object_followed, depth_fault}
use Rattle.h5_header.specs.Walk.Met.{with_header}
use Rattle.h5_open.proofs.object.read_group_object.Goals as goal

pub returns-in_err-table-clause-refused : goal.returns-in_err-table-clause-refused
returns-in_err-table-clause-refused c =
    let p = err_from_is_err_and c.from_residual.result c.from_residual.ensures.1 in
    rw (p.1, p.2) (λ held followed field done. bodies_fault c.args.image.now.bytes c.args.messages c.requires.header.has c.requires.header.inside held followed field c.args.depth done.met _ _
    (rw c.new.ensures at c.in_err-table.ensures.address) (rw c.new.ensures at c.in_err-table.ensures.refused))

pub returns-in_err-read_group-clause-refused : goal.returns-in_err-read_group-clause-refused
returns-in_err-read_group-clause-refused c =
    let p = err_from_is_err_and c.from_residual-in_err-read_group.result c.from_residual-in_err-read_group.ensures.1 in
    rw (p.1, p.2) (λ held followed field done.
    c.in_err-read_group.ensures.refused (with_header field c.args.messages.header c.args.depth (messages_in c.args.image.now.bytes c.args.messages.list) followed)
    (first c.args.image.now.bytes held c.args.claims.now.held followed field c.args.depth c.args.messages done c.requires.separate c.in_ok-table.table (rw c.new.ensures at c.in_ok-table.ensures.read)) _ c.args.depth
    (group_met c.args.image.now.bytes held c.args.claims.now.held followed field c.args.depth c.args.messages done c.requires.separate c.in_ok-table.table (rw c.new.ensures at c.in_ok-table.ensures.read)))

pub returns-in_err-check_depth-clause-refused : goal.returns-in_err-check_depth-clause-refused
returns-in_err-check_depth-clause-refused c =
    let p = err_from_is_err_and c.from_residual-in_err-check_depth.result c.from_residual-in_err-check_depth.ensures.1 in
    rw (p.1, p.2) (λ held followed field done.
    let gone = c.in_ok-read_group.ensures.walked _ _ _ c.args.depth (group_met c.args.image.now.bytes held c.args.claims.now.held followed field c.args.depth c.args.messages done c.requires.separate c.in_ok-table.table (rw c.new.ensures at c.in_ok-table.ensures.read)) in
    depth_fault c.args.image.now.bytes held c.args.claims.now.held followed field c.args.depth c.args.messages done c.requires.separate c.in_ok-table.table (rw c.new.ensures at c.in_ok-table.ensures.read)
    c.read_group.new.claims.held gone c.in_ok-read_group.ensures.group _ _ c.in_err-check_depth.ensures.refused)

pub returns-clause-read : goal.returns-clause-read
returns-clause-read c = λ held claimed.
    group_object_read c.args.image.now.bytes held c.args.claims.now.held c.read_group.new.claims.held c.args.messages c.in_ok-table.table c.has_exact_keys.result c.args.depth c.has_exact_keys.ensures.0 c.requires.header (rw c.new.ensures at c.in_ok-table.ensures.read)
    (rw c.new.ensures at c.in_ok-table.ensures.names) c.in_ok-read_group.ensures.group c.in_ok-check_depth.ensures.shallow claimed c.in_ok-read_group.ensures.claimed.covered

pub returns-clause-followed : goal.returns-clause-followed
returns-clause-followed c = λ held followed field done.
    let gone = c.in_ok-read_group.ensures.walked _ _ _ c.args.depth (group_met c.args.image.now.bytes held c.args.claims.now.held followed field c.args.depth c.args.messages done c.requires.separate c.in_ok-table.table (rw c.new.ensures at c.in_ok-table.ensures.read)) in
    group_object_followed c.args.image.now.bytes held c.args.claims.now.held followed field c.args.depth c.args.messages done c.requires.separate c.in_ok-table.table (rw c.new.ensures at c.in_ok-table.ensures.read)
    c.read_group.new.claims.held gone c.has_exact_keys.result c.in_ok-read_group.ensures.claimed.separate c.in_ok-read_group.ensures.claimed.covered

pub returns-clause-separate : goal.returns-clause-separate
returns-clause-separate c = c.in_ok-read_group.ensures.claimed.separate
