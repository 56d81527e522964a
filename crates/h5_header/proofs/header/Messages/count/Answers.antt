use Rattle.std.proofs.Common.{◌≡◌, ◌∙◌, rules, ◌==◌}
use Rattle.std.specs.List.{count_by}
use Rattle.h5_header.specs.declared.message.Message.{Message as Placed}
use Rattle.h5_header.proofs.KindLaws.{count_of-is}
use Rattle.h5_header.proofs.header.Messages.count.Goals as goal

pub returns : goal.returns
returns c image =
    let counted : c.count.result ≡ count_by (λ (m : Placed). m.kind == c.args.kind) c.args.self.now.list = search rules in
    counted ∙ count_of-is image c.args.kind c.args.self.now.list
