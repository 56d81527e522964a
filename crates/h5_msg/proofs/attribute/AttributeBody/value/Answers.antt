use Rattle.std.proofs.Common.{rules, ◌≡◌, ◌≤◌, ◌<◌, ◌+◌, ◌*◌, ℕ, ℤ, List, length, slice_get, ap, sym, ◌∙◌, arith, Some}
use Rattle.h5_model.specs.Tree.Places.{cells}
use Rattle.h5_model.specs.Tree.Objects.{Attribute}
use Rattle.h5_model.specs.Format.Fixed.{value_at}
use Rattle.h5_msg.proofs.AttributeLaws.{cell_room, length-values, value_in}
use Rattle.h5_msg.proofs.attribute.AttributeBody.value.Goals as goal

low : (c : goal.After-size) → c.args.k < cells c.self.inside.extent.sizes
low c =
    let long = length-values c.self.inside.fixed c.self.inside.body.now c.self.inside.place (cells c.self.inside.extent.sizes) in
    let same = ap (λ (v : List ℕ × Attribute). length v.1.values) c.self.view_is in
    omega (arith, long, same, c.requires)

room : (c : goal.After-size) → c.self.inside.place + c.args.k * c.size.result + c.self.inside.fixed.size ≤ length c.self.inside.body.now
room c =
    let inside = cell_room c.self.inside.place c.args.k (cells c.self.inside.extent.sizes) c.self.inside.fixed.size (length c.self.inside.body.now) (low c) c.self.invariant in
    let same : c.args.k * c.size.result ≡ c.args.k * c.self.inside.fixed.size = ap (λ (n : ℕ). c.args.k * n) c.size.ensures.size in
    omega (arith, inside, same)

pub overflow_mul-k : goal.overflow_mul-k
overflow_mul-k c = omega (arith, room c, c.self.told.0)

pub overflow_add-self-inside : goal.overflow_add-self-inside
overflow_add-self-inside c = omega (arith, room c, c.self.told.0)

pub value_at-requires : goal.value_at-requires
value_at-requires c = room c

pub returns : goal.returns
returns c =
    let before = c.before in
    ap (λ (v : List ℕ × Attribute). slice_get v.1.values c.args.k) (sym c.self.view_is)
    ∙ value_in c.self.inside.fixed c.self.inside.body.now c.self.inside.place (cells c.self.inside.extent.sizes) c.args.k (low before)
    ∙ ap (λ (n : ℕ). Some (value_at c.self.inside.fixed c.self.inside.body.now (c.self.inside.place + c.args.k * n))) (sym c.size.ensures.size)
    ∙ ap (λ (v : ℤ). Some v) (sym c.value_at.ensures)
    ∙ ap (λ (v : ℤ). Some v) (search rules)
