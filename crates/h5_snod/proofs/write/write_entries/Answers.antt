use Rattle.std.proofs.Common.{◌≡◌, ℕ, ◌+◌, ◌-◌, ◌*◌, get_or, ◌∙◌, arith, below_more}
use borrow.Rule.Slice.PartMut.{put_mid}
use Rattle.h5_snod.specs.Written.{IsSmall, new_bytes}
use Rattle.h5_snod.proofs.WrittenLaws.{no_symbol, one_more, all_written, all_small}
use Rattle.h5_snod.proofs.write.write_entries.Goals as goal

pub loop-k-preserved : goal.loop-k-preserved
loop-k-preserved c =
    let width : 40 * c.loop-k.k + 40 - 40 * c.loop-k.k ≡ 40 = omega arith in
    let wrote : c.write_parts.new.bytes ≡ new_bytes (get_or c.args.symbols.now c.loop-k.k no_symbol) = c.write_parts.ensures.written in (
      (λ i. put_mid (40 * c.loop-k.k) (width i) c.loop-k.bytes (wrote i))
          ∙ one_more c.args.symbols.now c.loop-k.k no_symbol c.args.bytes.now c.loop-k.bytes c.loop-k-test.true c.requires c.loop-k.invariant.0,
      below_more (λ (j : ℕ). IsSmall (get_or c.args.symbols.now j no_symbol)) c.loop-k.k c.loop-k.invariant.1 c.write_parts.ensures.small,
    )

pub returns-clause-written : goal.returns-clause-written
returns-clause-written c = all_written c.args.symbols.now c.loop-k.k c.args.bytes.now c.loop-k.bytes (omega arith) c.requires c.loop-k.invariant.0

pub returns-clause-small : goal.returns-clause-small
returns-clause-small c = all_small c.args.symbols.now c.loop-k.k c.loop-k.invariant.1 (omega arith)
