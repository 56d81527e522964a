use Rattle.std.proofs.Common.{◌≡◌, rules, subst}
use Rattle.std.specs.Prelude.{IfErr, OnOk}
use Rattle.h5_chunks.specs.Told.{addresses_told, chunk_nodes_told}
use Rattle.h5_chunks.specs.Walk.Followed.{FollowsTree, IsTreeFault}
use Rattle.h5_chunks.specs.Walk.Forms.{OfChunks}
use Rattle.h5_layout.specs.Data.{chunk_shape}
use Rattle.h5_model.specs.Format.Reached.{Shape}
use Rattle.h5_open.proofs.object.claim_chunks.Goals as goal

pub returns-clause-followed : goal.returns-clause-followed
returns-clause-followed c =
    let image = c.args.image.now.bytes in
    let is : c.new-shape.result ≡ chunk_shape c.args.fixed c.args.sizes.now = search rules in
    subst (λ (s : Shape). OnOk c.read_chunks.result (FollowsTree image (OfChunks s) c.args.claims.now.held c.read_chunks.new.claims.held c.args.root
    (chunk_nodes_told image s c.args.root) (addresses_told image s c.args.root))) is c.read_chunks.ensures.walked

pub returns-clause-refused : goal.returns-clause-refused
returns-clause-refused c =
    let is : c.new-shape.result ≡ chunk_shape c.args.fixed c.args.sizes.now = search rules in
    subst (λ (s : Shape). IfErr c.read_chunks.result (λ fault. IsTreeFault c.args.image.now.bytes (OfChunks s) c.args.claims.now.held c.args.root fault.cause fault.address)) is
    c.read_chunks.ensures.refused
