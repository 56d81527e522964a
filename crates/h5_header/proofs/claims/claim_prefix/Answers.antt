use Rattle.std.proofs.Common.{◌≡◌, ◌+◌, length, refl, sym, ◌∙◌, ap, arith}
use Rattle.std.proofs.lemmas.Result.{err_from_is_err_and}
use Rattle.h5_bytes.specs.Blocks.{block}
use Rattle.h5_model.specs.Format.Messages.{prefix_at, first_size}
use Rattle.h5_space.specs.Claimed.{ClaimBreach}
use Rattle.h5_header.specs.Refused.{header_block}
use Rattle.h5_header.proofs.PrefixLaws.{first_size-is, version-is, prefix_breach}
use Rattle.h5_header.proofs.claims.claim_prefix.Goals as goal

pub returns-then-image-header-ne1-clause-refused : goal.returns-then-image-header-ne1-clause-refused
returns-then-image-header-ne1-clause-refused c = rw c.fault-then-image-header-ne1.ensures (refl, omega arith, λ one. c.if-image-header-ne1.true (sym (version-is c.args.image.now c.args.header) ∙ one))

pub returns-in_err-claim-clause-refused : goal.returns-in_err-claim-clause-refused
returns-in_err-claim-clause-refused c =
    let image = c.args.image.now in
    let size : c.u32_at.result ≡ first_size (prefix_at image c.args.header) = c.u32_at.ensures ∙ sym (first_size-is image c.args.header) in
    let breach : ClaimBreach (length image) c.args.claims.now.held (header_block image c.args.header) (c.in_err-claim.field-0.0).cause (c.in_err-claim.field-0.0).address
    = rw (c.requires, size) at c.in_err-claim.ensures.refused in
    let p = err_from_is_err_and c.from_residual.result c.from_residual.ensures.1 in
    rw (p.1, p.2) (prefix_breach image c.args.header c.args.claims.now.held _ _ breach)

pub returns-clause-block : goal.returns-clause-block
returns-clause-block c = rw c.u32_at.ensures (ap (λ n. block c.args.header (16 + n)) (sym (first_size-is c.args.image.now c.args.header)))

pub returns-clause-version : goal.returns-clause-version
returns-clause-version c = version-is c.args.image.now c.args.header ∙ c.if-image-header-ne1.false
