use Rattle.std.proofs.Common.{◌≡◌, ◌++◌, ◌∙◌, List, ℕ, rules, to_z, of_z, ap, arith, length, replicate}
use Rattle.std.specs.Int.{w128}
use Rattle.h5_model.specs.Format.MessageTypes.{data_layout_kind}
use Rattle.h5_model.specs.Format.Bodies.{compact_bytes, padded_body}
use Rattle.h5_model.specs.Format.Plain.{cells_bytes, message_bytes}
use Rattle.h5_model.specs.Tree.Places.{cells}
use Rattle.h5_repack.proofs.BlockLaws.ArrayParts.{length-filled}
use Rattle.h5_repack.proofs.blocks.layout.push_compact_fill.Goals as goal

pub push_compact_data-requires : goal.push_compact_data-requires
push_compact_data-requires c =
    let a = c.args.array.now in
    let value : to_z w128 (of_z w128 c.fill.result) ≡ c.fill.result = search rules in
    let filled : c.deref.result.now ≡ cells_bytes a.fixed (replicate (cells a.sizes) a.fill)
    = c.deref.ensures.value ∙ c.in_ok-push_cells.ensures
    ∙ (λ i. c.new-filled.ensures.items i ++ cells_bytes (c.fixed.ensures i) (replicate (c.cells.ensures.exact i) ((value ∙ c.fill.ensures.value) i))) in
    omega (arith, ap length filled, length-filled a.fixed a.fill (cells a.sizes), c.requires)

pub returns : goal.returns
returns c =
    let a = c.args.array.now in
    let value : to_z w128 (of_z w128 c.fill.result) ≡ c.fill.result = search rules in
    let filled : c.deref.result.now ≡ cells_bytes a.fixed (replicate (cells a.sizes) a.fill)
    = c.deref.ensures.value ∙ c.in_ok-push_cells.ensures
    ∙ (λ i. c.new-filled.ensures.items i ++ cells_bytes (c.fixed.ensures i) (replicate (c.cells.ensures.exact i) ((value ∙ c.fill.ensures.value) i))) in
    c.in_ok-push_compact_data.ensures
    ∙ ap (λ (bytes : List ℕ). c.args.out.now.items ++ message_bytes (data_layout_kind, padded_body (compact_bytes bytes))) filled
