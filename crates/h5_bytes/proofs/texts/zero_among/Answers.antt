use Rattle.std.proofs.Common.{eqb, sym, ◌∙◌, arith, w8}
use Rattle.std.proofs.lemmas.Simd.{length-chunk, bitmask_splat}
use lib.Lanes.{chunk}
use Rattle.h5_bytes.proofs.ZeroLanes.{none_zero, lowest_low, lowest_zero, lowest_first}
use Rattle.h5_bytes.proofs.texts.zero_among.Goals as goal

pub returns-then-zeros-eq0-clause-none : goal.returns-then-zeros-eq0-clause-none
returns-then-zeros-eq0-clause-none c =
    let v = chunk c.args.from 16 c.args.bytes.now in
    let zeros = bitmask_splat w8 eqb v 16 0 (length-chunk c.args.from 16 c.args.bytes.now c.requires) (omega arith) in
    none_zero c.args.bytes.now c.args.from c.requires (sym zeros ∙ c.if-zeros-eq0.true)

pub returns-clause-found : goal.returns-clause-found
returns-clause-found c =
    let bytes = c.args.bytes.now in
    let from = c.args.from in
    let zeros = bitmask_splat w8 eqb (chunk from 16 bytes) 16 0 (length-chunk from 16 bytes c.requires) (omega arith) in
    (omega arith, omega (arith, lowest_low bytes from c.requires _ zeros c.if-zeros-eq0.false), lowest_zero bytes from c.requires _ zeros c.if-zeros-eq0.false)

pub returns-clause-first : goal.returns-clause-first
returns-clause-first c =
    let bytes = c.args.bytes.now in
    let from = c.args.from in
    let zeros = bitmask_splat w8 eqb (chunk from 16 bytes) 16 0 (length-chunk from 16 bytes c.requires) (omega arith) in
    lowest_first bytes from c.requires _ zeros c.if-zeros-eq0.false
