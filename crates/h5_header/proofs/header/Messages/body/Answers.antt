use Rattle.std.proofs.Common.{◌≡◌, ℕ, ◌+◌, ◌-◌, List, take, drop, Some, sym, ◌∙◌, ap, arith}
use Rattle.std.specs.Prelude.{slice_index_or}
use Rattle.h5_bytes.specs.Bytes.{part}
use Rattle.h5_header.specs.Listed.{Listed}
use Rattle.h5_header.proofs.MessageLaws.{body-of}
use Rattle.h5_header.proofs.header.Messages.body.Goals as goal

pub returns : goal.returns
unfolding part
returns c =
    let m = c.index-message.result.now in
    let list : c.self.inside.list.items ≡ c.args.self.now.list = ap (λ (v : Listed). v.list) c.self.view_is in
    let is : m ≡ slice_index_or c.args.self.now.list c.args.k m = rw list at c.index-message.ensures in
    let len : m.at + m.size - m.at ≡ m.size = omega arith in
    body-of c.args.image.now.bytes c.args.self.now.list c.args.k m c.requires.known is
    ∙ ap (λ (xs : List ℕ). Some (take m.size (drop m.at xs))) (sym c.bytes.ensures) ∙ ap (λ (n : ℕ). Some (take n (drop m.at c.bytes.result.now))) (sym len)
