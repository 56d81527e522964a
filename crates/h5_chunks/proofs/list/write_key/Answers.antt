use Rattle.std.proofs.Common.{◌≡◌, ◌+◌, ◌*◌, ◌<◌, ◌^◌, ℕ, List, length, get_or, sym, ap, ◌∙◌, subst, arith}
use Rattle.h5_bytes.specs.Bytes.{with_field}
use Rattle.h5_chunks.proofs.KeyFields.{HasOffsets, all_offsets, closed, no_offsets, one_offset_more}
use Rattle.h5_chunks.proofs.list.write_key.Goals as goal

pub loop-d-init : goal.loop-d-init
loop-d-init c =
    let key : List ℕ = c.args.key.now in
    let bytes : ℕ = c.args.bytes in
    let offsets : List ℕ = c.args.offsets.now in
    let sized : c.put_u32.new.bytes ≡ with_field key 0 4 bytes = c.put_u32.ensures in
    let masked : c.put_u32-2.new.bytes ≡ with_field (with_field key 0 4 bytes) 4 4 0 = c.put_u32-2.ensures ∙ ap (λ (k : List ℕ). with_field k 4 4 0) sized in
    let whole : c.put_u64.new.bytes ≡ closed bytes offsets key c.requires.long c.requires.small
    = c.put_u64.ensures ∙ ap (λ (k : List ℕ). with_field k (8 + 8 * length offsets) 8 0) masked in
    subst (λ (k : List ℕ). HasOffsets bytes offsets k 0) (sym whole) (no_offsets bytes offsets key c.requires.long c.requires.small)

pub loop-d-preserved : goal.loop-d-preserved
loop-d-preserved c =
    let bytes : ℕ = c.args.bytes in
    let offsets : List ℕ = c.args.offsets.now in
    let d : ℕ = c.loop-d.d in
    let low : d < length offsets = omega arith in
    let small : get_or offsets d 0 < 2 ^ 64 = omega (arith, (c.type_inv.offsets d).fits) in
    subst (λ (k : List ℕ). HasOffsets bytes offsets k (d + 1)) (sym c.put_u64-in-loop-d.ensures)
    (one_offset_more bytes offsets c.loop-d.key d c.loop-d.invariant low small)

pub returns-clause-offsets : goal.returns-clause-offsets
returns-clause-offsets c =
    let offsets : List ℕ = c.args.offsets.now in
    let all : c.loop-d.d ≡ length offsets = omega arith in
    all_offsets c.args.bytes offsets c.loop-d.key (subst (HasOffsets c.args.bytes offsets c.loop-d.key) all c.loop-d.invariant)
