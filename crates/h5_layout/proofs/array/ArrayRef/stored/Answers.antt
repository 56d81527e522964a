use Rattle.std.proofs.Common.{◌≡◌, ℕ, ◌*◌, ◌^◌, ◌<◌, ◌≤◌, Some, take, refl, sym, ap, ap₂, ◌∙◌, subst, arith}
use Rattle.std.specs.FinMap.{empty}
use Rattle.std.proofs.Math.Nat.{mul-le-mul_left}
use Rattle.h5_shape.proofs.Products.{cells_le}
use Rattle.h5_model.proofs.PlainValues.{size-high}
use Rattle.h5_model.specs.Format.Fixed.{IsFixed}
use Rattle.h5_model.specs.Format.Described.{Described, described_dataset}
use Rattle.h5_model.specs.Format.Limits.{most_cells}
use Rattle.h5_model.specs.Tree.Places.{cells}
use Rattle.h5_layout.specs.Stored.{AreStored, IsArray, data_in}
use Rattle.h5_layout.proofs.RoomLaws.{few}
use Rattle.h5_layout.proofs.StoredLaws.{with_data, without_data}
use Rattle.h5_layout.proofs.array.ArrayRef.stored.Goals as goal
use Rattle.h5_layout.proofs.array.ArrayRef.stored.Goals.{After-size}

-- the array keeps to what arrays do
sound : (c : After-size) → IsArray c.args.self.now
sound c = subst IsArray c.self.view_is c.self.invariant.2

counted : (c : After-size) → c.cells-cells.result ≡ cells c.args.self.now.sizes
counted c =
    let low : cells c.self.inside.dims < 2 ^ 64 = few c.self.inside.dims c.self.inside.dims refl (c.self.invariant.2).small in
    let exact : c.cells-cells.result ≡ cells c.self.inside.dims = omega (arith, low, c.cells-cells.ensures) in
    exact ∙ ap (λ (a : Described). cells a.sizes) c.self.view_is

-- how many bytes they have
long : (c : After-size) → c.cells-cells.result * c.size.result ≡ cells c.args.self.now.sizes * (c.args.self.now.fixed).size
long c = ap₂ (λ (m n : ℕ). m * n) (counted c) (c.size.ensures.size ∙ ap (λ (a : Described). (a.fixed).size) c.self.view_is)

there : (c : After-size) → data_in c.args.image.now.bytes c.args.self.now.layout ≡ Some c.in-Some.bytes.now
there c = ap (λ (a : Described). data_in c.args.image.now.bytes a.layout) (sym c.self.view_is) ∙ c.in-Some.ensures

whole : (c : After-size) → AreStored (described_dataset c.args.image.now.bytes c.args.self.now empty) (take (c.cells-cells.result * c.size.result) c.in-Some.bytes.now)
whole c =
    with_data c.args.image.now.bytes c.args.self.now c.requires (subst (λ (a : Described). IsFixed a.fixed) c.self.view_is c.size.ensures.one_of) (sound c).room
    (λ none. c.if-cells-eq0.false (counted c ∙ none)) c.in-Some.bytes.now (there c) (c.cells-cells.result * c.size.result) (long c)

pub overflow_mul-result : goal.overflow_mul-result
overflow_mul-result c =
    let few : c.cells-cells.result ≤ most_cells = omega (arith, counted (goal.at.overflow_mul-result c).After-size, cells_le c.args.self.now.sizes, (sound (goal.at.overflow_mul-result c).After-size).small) in
    let small : c.size.result ≤ 8 = omega (arith, c.size.ensures.size, size-high c.self.inside.fixed c.size.ensures.one_of) in
    let rows : c.cells-cells.result * c.size.result ≤ c.cells-cells.result * 8 = mul-le-mul_left c.cells-cells.result small in
    omega (arith, rows, few)

pub slice_bounds-result-end : goal.slice_bounds-result-end
slice_bounds-result-end c = let b = (goal.at.slice_bounds-result-end c).After-size in long b ∙ sym (whole b).0

pub returns-in-Some : goal.returns-in-Some
returns-in-Some c = whole (goal.at.returns-in-Some c).After-size

pub returns-in-None : goal.returns-in-None
returns-in-None c =
    without_data c.args.image.now.bytes c.args.self.now c.requires
    (ap (λ (a : Described). data_in c.args.image.now.bytes a.layout) (sym c.self.view_is) ∙ c.in-None.ensures)
