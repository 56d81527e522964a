use Rattle.std.proofs.Common.{rules, ◌≡◌, ◌+◌, ◌-◌, ◌*◌, ◌/◌, ◌^◌, ◌<◌, ◌≤◌, ℕ, ℤ, pos, ◌++◌, append-nil, length, take, drop, get_or, true, ◌&&◌, ap, sym, ◌∙◌, arith, to_z, of_z}
use mir.Syntax.{w128}
use borrow.Rule.Slice.PartMut.{put_mid}
use Rattle.h5_model.specs.Format.Fixed.{bytes_of, fits, value_at}
use Rattle.h5_model.specs.Format.Plain.{cells_bytes}
use Rattle.h5_model.specs.Scripts.Answers.{stored_values}
use Rattle.h5_model.proofs.PlainValues.{size-low}
use Rattle.h5_model.proofs.StoredValues.{index-stored, length-stored}
use Rattle.h5_msg.proofs.CellLaws.{all_at, all_written, one_more}
use Rattle.h5_layout.proofs.BufferLaws.{cell_within, counted}
use Rattle.h5_layout.proofs.buffer.write_converted.Goals as goal
use Rattle.h5_layout.proofs.buffer.write_converted.Goals.{After-value_at-value}

-- there is a value at this place
low : (c : After-value_at-value) → c.loop-k.k < length (stored_values c.args.own c.args.bytes.now)
low c =
    let counts : length c.args.bytes.now / c.size-size.result ≡ length c.args.bytes.now / c.args.own.size = ap (λ n. length c.args.bytes.now / n) c.size-size.ensures.size in
    omega (arith, c.loop-k-test.true, counts, length-stored c.args.own c.args.bytes.now)

-- it is this one
value : (c : After-value_at-value) → to_z w128 (of_z w128 c.value_at-value.result) ≡ get_or (stored_values c.args.own c.args.bytes.now) c.loop-k.k (pos 0)
value c =
    let own = c.args.own in
    let bytes = c.args.bytes.now in
    let some = size-low own c.size-size.ensures.one_of in
    let exact : to_z w128 (of_z w128 c.value_at-value.result) ≡ c.value_at-value.result = search rules in
    let below : c.loop-k.k < length bytes / own.size = omega (arith, low c, length-stored own bytes) in
    let room = cell_within c.loop-k.k (length bytes / own.size) own.size (length bytes) below (counted own some bytes c.requires.whole) in
    let place : c.loop-k.k * c.size-size.result ≡ c.loop-k.k * own.size = ap (λ n. c.loop-k.k * n) c.size-size.ensures.size in
    exact ∙ c.value_at-value.ensures ∙ ap (value_at own bytes) place ∙ sym (index-stored own bytes c.loop-k.k (pos 0) some room)

-- there is room for it
room : (c : After-value_at-value) → c.loop-k.k * c.size-width.result + c.size-width.result ≤ length c.args.to.now
room c =
    let width = c.size-width.ensures.size in
    let within = cell_within c.loop-k.k (length (stored_values c.args.own c.args.bytes.now)) c.args.fixed.size (length c.args.to.now) (low c) c.requires.room in
    let place : c.loop-k.k * c.size-width.result ≡ c.loop-k.k * c.args.fixed.size = ap (λ n. c.loop-k.k * n) width in
    omega (arith, within, place, width)

pub overflow_mul-k-in-loop-k : goal.overflow_mul-k-in-loop-k
overflow_mul-k-in-loop-k c =
    let few : length c.args.to.now < 2 ^ 64 = search rules in
    omega (arith, room (goal.at.overflow_mul-k-in-loop-k c).After-value_at-value, few)

pub overflow_mul-k-in-loop-k-2 : goal.overflow_mul-k-in-loop-k-2
overflow_mul-k-in-loop-k-2 c =
    let few : length c.args.to.now < 2 ^ 64 = search rules in
    omega (arith, room (goal.at.overflow_mul-k-in-loop-k-2 c).After-value_at-value, few)

pub overflow_add-k : goal.overflow_add-k
overflow_add-k c =
    let few : length c.args.to.now < 2 ^ 64 = search rules in
    omega (arith, room (goal.at.overflow_add-k c).After-value_at-value, few)

pub slice_bounds-write_values-end-in-loop-k : goal.slice_bounds-write_values-end-in-loop-k
slice_bounds-write_values-end-in-loop-k c = omega (arith, room (goal.at.slice_bounds-write_values-end-in-loop-k c).After-value_at-value, c.loop-k.auto.to)

pub write_values-requires-clause-of_type : goal.write_values-requires-clause-of_type
write_values-requires-clause-of_type c =
    let a = (goal.at.write_values-requires-clause-of_type c).After-value_at-value in
    let values = stored_values c.args.own c.args.bytes.now in
    ap (λ b. b && true) (ap (fits c.args.fixed) (value a) ∙ all_at c.args.fixed values c.loop-k.k c.requires.of_type (low a))

pub loop-k-preserved : goal.loop-k-preserved
loop-k-preserved c =
    let a = (goal.at.loop-k-preserved c).After-value_at-value in
    let t = c.args.fixed in
    let values = stored_values c.args.own c.args.bytes.now in
    let v : ℤ = get_or values c.loop-k.k (pos 0) in
    let wrote : c.write_values.new.bytes ≡ bytes_of t v = c.write_values.ensures ∙ append-nil (bytes_of t (to_z w128 (of_z w128 c.value_at-value.result))) ∙ ap (bytes_of t) (value a) in
    let same = c.size-width.ensures.size in
    let width : c.loop-k.k * c.size-width.result + c.size-width.result - c.loop-k.k * c.size-width.result ≡ t.size = omega (arith, same) in
    let place : c.loop-k.k * c.size-width.result ≡ c.loop-k.k * t.size = ap (λ (n : ℕ). c.loop-k.k * n) same in
    let last : (c.loop-k.k + 1) * t.size ≡ (c.loop-k.k + 1) * c.size-width.result = ap (λ (n : ℕ). (c.loop-k.k + 1) * n) (sym same) in
    let within = cell_within c.loop-k.k (length values) t.size (length c.args.to.now) (low a) c.requires.room in
    let now : c.loop-k.to ≡ cells_bytes t (take c.loop-k.k values) ++ drop (c.loop-k.k * t.size) c.args.to.now
    = c.loop-k.invariant ∙ ap (λ (n : ℕ). cells_bytes t (take c.loop-k.k values) ++ drop n c.args.to.now) place in
    (λ i. put_mid (place i) (width i) c.loop-k.to (wrote i))
    ∙ one_more t values c.loop-k.k c.args.to.now c.loop-k.to (low a) c.requires.room within now
    ∙ ap (λ (n : ℕ). cells_bytes t (take (c.loop-k.k + 1) values) ++ drop n c.args.to.now) last

pub returns : goal.returns
returns c =
    let own = c.args.own in
    let bytes = c.args.bytes.now in
    let counts : length bytes / c.size-size.result ≡ length bytes / own.size = ap (λ n. length bytes / n) c.size-size.ensures.size in
    let place : c.loop-k.k * c.size-width.result ≡ c.loop-k.k * c.args.fixed.size = ap (λ (n : ℕ). c.loop-k.k * n) c.size-width.ensures.size in
    all_written c.args.fixed (stored_values own bytes) c.loop-k.k c.args.to.now c.loop-k.to (omega (arith, c.loop-k-test.false, counts, length-stored own bytes)) c.requires.room
    (c.loop-k.invariant ∙ ap (λ (n : ℕ). cells_bytes c.args.fixed (take c.loop-k.k (stored_values own bytes)) ++ drop n c.args.to.now) place)
