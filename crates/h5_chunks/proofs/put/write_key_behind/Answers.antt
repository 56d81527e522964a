use Rattle.std.proofs.Common.{◌≡◌, ℕ, ◌+◌, ◌*◌, ◌<◌, ◌≤◌, ◌^◌, List, length, get_or, inl, sym, ap, ◌∙◌, arith, below_more}
use Rattle.h5_bytes.specs.Bytes.{little_bytes, number_at}
use Rattle.h5_bytes.proofs.FieldLaws.{number_at-with_field, number_at-with_part_other}
use Rattle.h5_bytes.proofs.PartLaws.{length-with_part}
use Rattle.h5_chunks.proofs.BehindLaws.{behind_fits}
use Rattle.h5_chunks.proofs.put.write_key_behind.Goals as goal

pub loop-d-init : goal.loop-d-init
loop-d-init c =
    let out : List ℕ = c.args.out.now in
    let room : 0 + 8 ≤ length out = omega (arith, c.requires.room) in
    record {
      long = ap length c.put_u64.ensures ∙ length-with_part 0 (little_bytes 8 0) out room ∙ c.requires.room ∙ sym c.requires.long;
      empty = ap (λ (b : List ℕ). number_at b 0 8) c.put_u64.ensures ∙ number_at-with_field out 0 8 0 room (omega arith);
      offsets = λ j low. absurd (omega (arith, low));
    }

pub overflow_add-offset : goal.overflow_add-offset
overflow_add-offset c =
    omega (arith, behind_fits c.args.sizes.now c.args.key.now c.loop-d.d c.requires.aligned c.requires.short (omega arith), c.u64_at.ensures)

pub loop-d-preserved : goal.loop-d-preserved
loop-d-preserved c =
    let sizes : List ℕ = c.args.sizes.now in
    let key : List ℕ = c.args.key.now in
    let out : List ℕ = c.loop-d.out in
    let d : ℕ = c.loop-d.d in
    let low : d < length sizes = omega arith in
    let v : ℕ = c.u64_at.result + get_or sizes d 0 in
    let at : ℕ = 8 + 8 * d in
    let room : at + 8 ≤ length out = omega (arith, c.loop-d.invariant.long, c.requires.long, low) in
    let small : v < 256 ^ 8 = omega (arith, behind_fits sizes key d c.requires.aligned c.requires.short low, c.u64_at.ensures) in
    record {
      long = ap length c.put_u64-in-loop-d.ensures ∙ length-with_part at (little_bytes 8 v) out room ∙ c.loop-d.invariant.long;
      empty = ap (λ (b : List ℕ). number_at b 0 8) c.put_u64-in-loop-d.ensures ∙ number_at-with_part_other at (little_bytes 8 v) out 0 8 room (inl (omega arith))
          ∙ c.loop-d.invariant.empty;
      offsets = below_more _ _
          (λ j less. ap (λ (b : List ℕ). number_at b (8 + 8 * j) 8) c.put_u64-in-loop-d.ensures
          ∙ number_at-with_part_other at (little_bytes 8 v) out (8 + 8 * j) 8 room (inl (omega (arith, less))) ∙ c.loop-d.invariant.offsets j less)
          (ap (λ (b : List ℕ). number_at b at 8) c.put_u64-in-loop-d.ensures ∙ number_at-with_field out at 8 v room small
          ∙ ap (λ (n : ℕ). n + get_or sizes d 0) c.u64_at.ensures);
    }

pub returns : goal.returns
returns c =
    let sizes : List ℕ = c.args.sizes.now in
    let out : List ℕ = c.loop-d.out in
    let at : ℕ = 8 + 8 * length sizes in
    let all : c.loop-d.d ≡ length sizes = omega arith in
    let room : at + 8 ≤ length out = omega (arith, c.loop-d.invariant.long, c.requires.long) in
    record {
      long = ap length c.put_u64-2.ensures ∙ length-with_part at (little_bytes 8 0) out room ∙ c.loop-d.invariant.long;
      empty = ap (λ (b : List ℕ). number_at b 0 8) c.put_u64-2.ensures ∙ number_at-with_part_other at (little_bytes 8 0) out 0 8 room (inl (omega arith))
          ∙ c.loop-d.invariant.empty;
      offsets = λ j less. ap (λ (b : List ℕ). number_at b (8 + 8 * j) 8) c.put_u64-2.ensures
          ∙ number_at-with_part_other at (little_bytes 8 0) out (8 + 8 * j) 8 room (inl (omega (arith, less))) ∙ c.loop-d.invariant.offsets j (omega (arith, less, all));
      element = ap (λ (b : List ℕ). number_at b at 8) c.put_u64-2.ensures ∙ number_at-with_field out at 8 0 room (omega arith);
    }
