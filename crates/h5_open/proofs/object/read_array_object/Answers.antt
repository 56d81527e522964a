use Rattle.std.proofs.lemmas.Result.{err_from_is_err_and}
use Rattle.h5_open.proofs.ArrayLaws.{bodies_fault, data_fault}
use Rattle.h5_open.proofs.ArrayReadLaws.{array_object_read, array_object_followed}
use Rattle.h5_open.proofs.object.read_array_object.Goals as goal

pub returns-in_err-array-clause-refused : goal.returns-in_err-array-clause-refused
returns-in_err-array-clause-refused c =
    let p = err_from_is_err_and c.from_residual.result c.from_residual.ensures.1 in
    rw (p.1, p.2) (λ depth held followed field done. bodies_fault c.args.image.now.bytes c.args.messages c.requires.header.has c.requires.header.inside held followed field depth done.met _ _
    (rw c.new.ensures at c.in_err-array.ensures.address) (rw c.new.ensures at c.in_err-array.ensures.refused))

pub returns-in_err-claim_data-clause-refused : goal.returns-in_err-claim_data-clause-refused
returns-in_err-claim_data-clause-refused c =
    let p = err_from_is_err_and c.from_residual-in_err-claim_data.result c.from_residual-in_err-claim_data.ensures.1 in
    rw (p.1, p.2) (λ depth held followed field done. data_fault c.args.image.now.bytes c.args.messages c.requires.header.has c.requires.header.inside held followed field depth done.met
    c.args.claims.now.held done.claimed c.requires.separate (rw c.new.ensures at c.in_ok-array.ensures.read) _ _ (rw (c.in_ok-array.ensures.told, c.new.ensures) at c.in_err-claim_data.ensures.refused))

pub returns-clause-read : goal.returns-clause-read
returns-clause-read c = λ depth inner held claimed.
    array_object_read c.args.image.now.bytes held c.args.claims.now.held c.claim_data.new.claims.held c.args.messages depth c.requires.header (rw c.new.ensures at c.in_ok-array.ensures.read)
    (rw c.new.ensures at c.in_ok-array.ensures.names) inner (rw (c.in_ok-array.ensures.told, c.new.ensures) at c.in_ok-claim_data.ensures.read) claimed
    (rw (c.in_ok-array.ensures.told, c.new.ensures) at c.in_ok-claim_data.ensures.claimed.covered)

pub returns-clause-followed : goal.returns-clause-followed
returns-clause-followed c = λ depth held followed field done.
    array_object_followed c.args.image.now.bytes held c.args.claims.now.held followed field depth c.args.messages done c.requires.separate (rw c.new.ensures at c.in_ok-array.ensures.read)
    c.claim_data.new.claims.held (rw (c.in_ok-array.ensures.told, c.new.ensures) at c.in_ok-claim_data.ensures.claimed.covered) c.in_ok-claim_data.ensures.claimed.separate
    (rw (c.in_ok-array.ensures.told, c.new.ensures) at c.in_ok-claim_data.ensures.followed)

pub returns-clause-separate : goal.returns-clause-separate
returns-clause-separate c = c.in_ok-claim_data.ensures.claimed.separate
