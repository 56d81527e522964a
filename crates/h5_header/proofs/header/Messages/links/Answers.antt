use Rattle.std.proofs.Common.{◌≡◌, sym, ◌∙◌, ap}
use Rattle.h5_header.specs.Listed.{Listed}
use Rattle.h5_header.proofs.PrefixLaws.{reference_count-is}
use Rattle.h5_header.proofs.header.Messages.links.Goals as goal

pub returns : goal.returns
returns c =
    let header : c.self.inside.header ≡ c.args.self.now.header = ap (λ (v : Listed). v.header) c.self.view_is in
    (rw (c.bytes.ensures, header) at c.u32_at.ensures) ∙ sym (reference_count-is c.args.image.now.bytes c.args.self.now.header)
