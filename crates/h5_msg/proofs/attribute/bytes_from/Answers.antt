use Rattle.std.proofs.Common.{◌≡◌, ◌+◌, ◌-◌, ◌*◌, take, drop, ap, sym, ◌∙◌, arith}
use Rattle.h5_msg.proofs.ValueBytes.{stored_back}
use Rattle.h5_msg.proofs.attribute.bytes_from.Goals as goal

pub returns : goal.returns
returns c =
    let all : c.args.count * c.size.result ≡ c.args.count * c.args.fixed.now.size = ap (λ n. c.args.count * n) c.size.ensures.size in
    let length_is : c.args.place + c.args.count * c.size.result - c.args.place ≡ c.args.count * c.args.fixed.now.size = omega (arith, all) in
    ap (λ n. take n (drop c.args.place c.args.body.now)) length_is
    ∙ sym (stored_back c.args.fixed.now c.args.body.now c.args.place c.size.ensures.one_of (λ i. (c.type_inv.body i).fits) c.args.count c.requires)
