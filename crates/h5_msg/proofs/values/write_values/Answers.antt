use Rattle.std.proofs.Common.{rules, ◌≡◌, ◌+◌, ◌-◌, ◌*◌, ℕ, ℤ, pos, length, get_or, sym, ap, ◌∙◌, arith, to_z, of_z, take, drop, ◌++◌}
use mir.Syntax.{w128}
use borrow.Rule.Slice.PartMut.{put_mid}
use Rattle.h5_model.specs.Format.Fixed.{bytes_of, fits}
use Rattle.h5_model.specs.Format.Plain.{cells_bytes}
use Rattle.h5_msg.proofs.AttributeLaws.{cell_room}
use Rattle.h5_msg.proofs.CellLaws.{all_at, one_more, all_written}
use Rattle.h5_msg.proofs.values.write_values.Goals as goal

pub write_value-requires-clause-of_type : goal.write_value-requires-clause-of_type
write_value-requires-clause-of_type c =
    let exact : to_z w128 (of_z w128 (get_or c.args.values.now c.loop-k.k (pos 0))) ≡ get_or c.args.values.now c.loop-k.k (pos 0) = search rules in
    ap (fits c.args.fixed.now) exact ∙ all_at c.args.fixed.now c.args.values.now c.loop-k.k c.requires.of_type c.loop-k-test.true

pub loop-k-preserved : goal.loop-k-preserved
loop-k-preserved c =
    let v : ℤ = get_or c.args.values.now c.loop-k.k (pos 0) in
    let exact : to_z w128 (of_z w128 v) ≡ v = search rules in
    let wrote : c.write_value.new.bytes ≡ bytes_of c.args.fixed.now v = c.write_value.ensures ∙ ap (bytes_of c.args.fixed.now) exact in
    let same = c.size-size.ensures.size in
    let width : c.loop-k.k * c.size-size.result + c.size-size.result - c.loop-k.k * c.size-size.result ≡ c.args.fixed.now.size = omega arith in
    let place : c.loop-k.k * c.size-size.result ≡ c.loop-k.k * c.args.fixed.now.size = ap (λ (n : ℕ). c.loop-k.k * n) same in
    let last : (c.loop-k.k + 1) * c.args.fixed.now.size ≡ (c.loop-k.k + 1) * c.size-size.result = ap (λ (n : ℕ). (c.loop-k.k + 1) * n) (sym same) in
    let room = cell_room 0 c.loop-k.k (length c.args.values.now) c.args.fixed.now.size (length c.args.bytes.now) c.loop-k-test.true (omega (arith, c.requires.room)) in
    let now : c.loop-k.bytes ≡ cells_bytes c.args.fixed.now (take c.loop-k.k c.args.values.now) ++ drop (c.loop-k.k * c.args.fixed.now.size) c.args.bytes.now
    = c.loop-k.invariant ∙ ap (λ (n : ℕ). cells_bytes c.args.fixed.now (take c.loop-k.k c.args.values.now) ++ drop n c.args.bytes.now) place in
    (λ i. put_mid (place i) (width i) c.loop-k.bytes (wrote i))
    ∙ one_more c.args.fixed.now c.args.values.now c.loop-k.k c.args.bytes.now c.loop-k.bytes c.loop-k-test.true c.requires.room (omega (arith, room)) now
    ∙ ap (λ (n : ℕ). cells_bytes c.args.fixed.now (take (c.loop-k.k + 1) c.args.values.now) ++ drop n c.args.bytes.now) last

pub returns : goal.returns
returns c =
    let place : c.loop-k.k * c.size-size.result ≡ c.loop-k.k * c.args.fixed.now.size = ap (λ (n : ℕ). c.loop-k.k * n) c.size-size.ensures.size in
    all_written c.args.fixed.now c.args.values.now c.loop-k.k c.args.bytes.now c.loop-k.bytes c.loop-k-test.false c.requires.room
    (c.loop-k.invariant ∙ ap (λ (n : ℕ). cells_bytes c.args.fixed.now (take c.loop-k.k c.args.values.now) ++ drop n c.args.bytes.now) place)
