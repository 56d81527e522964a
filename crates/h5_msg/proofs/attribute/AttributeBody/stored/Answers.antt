use Rattle.std.proofs.Common.{◌≡◌, ◌+◌, ◌*◌, ◌≤◌, ℕ, List, length, ap, subst, sym, ◌∙◌}
use Rattle.h5_model.specs.Format.AttributeBody.{values_at}
use Rattle.h5_model.specs.Tree.Places.{cells}
use Rattle.h5_model.specs.Format.Plain.{cells_bytes}
use Rattle.h5_model.specs.Tree.Objects.{Attribute}
use Rattle.h5_msg.proofs.attribute.AttributeBody.stored.Goals as goal
use Rattle.h5_msg.proofs.attribute.AttributeBody.stored.Goals.{After-cells}

count : (c : After-cells) → c.cells.result ≡ cells c.self.inside.extent.sizes
count c = c.cells.ensures.cells ∙ sym (ap (λ (v : List ℕ × Attribute). cells v.1.sizes) c.self.view_is)

pub bytes_from-requires : goal.bytes_from-requires
bytes_from-requires c =
    subst (λ (n : ℕ). c.self.inside.place + n * (c.self.inside.fixed).size ≤ length c.self.inside.body.now) (sym (count c)) c.self.invariant

pub returns : goal.returns
returns c =
    let inside = c.self.inside in
    c.bytes_from.ensures
    ∙ ap (λ n. cells_bytes inside.fixed (values_at inside.fixed inside.body.now inside.place n)) (count c.before)
    ∙ ap (λ (v : List ℕ × Attribute). cells_bytes v.1.fixed v.1.values) c.self.view_is
