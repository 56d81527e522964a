use Rattle.std.proofs.Common.{◌≡◌, ℕ, ◌+◌, ◌-◌, List, length, ap, ◌∙◌, arith}
use Rattle.h5_bytes.specs.Bytes.{with_part}
use Rattle.h5_bytes.proofs.PartLaws.{put_mid_is}
use Rattle.h5_heap.proofs.WriteLaws.Lengths.{length-padded_text}
use Rattle.h5_heap.proofs.put.put_text.Goals as goal

pub returns : goal.returns
returns c =
    let long : length c.fill_text.new.bytes ≡ c.args.at + c.text_span.result - c.args.at
    = omega (arith, ap length c.fill_text.ensures, length-padded_text c.args.text.now, c.text_span.ensures) in
    put_mid_is c.args.at (c.args.at + c.text_span.result - c.args.at) c.args.segment.now c.fill_text.new.bytes long (omega (arith, c.requires, c.text_span.ensures))
    ∙ ap (λ (bs : List ℕ). with_part c.args.at bs c.args.segment.now) c.fill_text.ensures
