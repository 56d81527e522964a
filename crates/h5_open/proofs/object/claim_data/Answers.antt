use Rattle.std.proofs.Common.{◌≡◌, ℕ, rules, subst, Some}
use Rattle.std.specs.Prelude.{IfErr}
use Rattle.h5_model.specs.Format.Fixed.{Fixed}
use Rattle.h5_model.specs.Format.Layout.{Layout, InChunks}
use Rattle.h5_open.specs.Followed.{IsDataFault}
use Rattle.h5_open.proofs.object.claim_data.Goals as goal

pub returns-in-Chunked-default-Some-clause-refused : goal.returns-in-Chunked-default-Some-clause-refused
returns-in-Chunked-default-Some-clause-refused c =
    let image = c.args.image.now.bytes in
    let held = c.args.claims.now.held in
    let root = c.in-Chunked-default-Some.root in
    let result = c.claim_chunks.result in
    let layout : InChunks c.in-Chunked-default-Some.sizes (Some root) ≡ c.args.array.now.layout = search rules in
    let at_root = subst (λ (n : ℕ). IfErr result (λ fault. IsDataFault image held c.fixed.result (InChunks c.in-Chunked-default-Some.sizes (Some n)) fault.cause fault.address))
    c.in-Chunked-default-Some.root-is c.claim_chunks.ensures.refused in
    let of_type = subst (λ (t : Fixed). IfErr result (λ fault. IsDataFault image held t (InChunks c.in-Chunked-default-Some.sizes (Some root)) fault.cause fault.address)) c.fixed.ensures at_root in
    subst (λ (l : Layout). IfErr result (λ fault. IsDataFault image held c.args.array.now.fixed l fault.cause fault.address)) layout of_type
