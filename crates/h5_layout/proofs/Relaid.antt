-- The messages of an array of which the Data Layout message has another body: they describe the same array with the layout that this tells.
use Rattle.std.proofs.Common.{◌≡◌, ℕ, List, Some, refl, ap, ◌∙◌, arith}
use Rattle.std.specs.Prelude.{option_and_then}
use Rattle.h5_model.specs.Format.Datatype.{fixed_of}
use Rattle.h5_model.specs.Format.Extent.{extent_of}
use Rattle.h5_model.specs.Format.Layout.{Layout, layout_of}
use Rattle.h5_model.specs.Format.MessageTypes.{data_layout_kind, dataspace_kind, datatype_kind, old_fill_value_kind, fill_value_kind}
use Rattle.h5_model.specs.Format.Messages.{Message, count_of}
use Rattle.h5_model.specs.Format.Described.{IsChunkSmall, Described, HasArray}
use Rattle.h5_header.proofs.FirstWritten.{HasNewBody, new_first, same_count, same_first}

pub relaid : (was said : List Message) (body : List ℕ) → HasNewBody data_layout_kind was said body → (a : Described) → HasArray was a
    → (l : Layout) → layout_of a.sizes a.fixed.size body ≡ Some l → IsChunkSmall a.fixed l → HasArray said (record a { layout = l })
relaid was said body is a has l named small =
    let same_one : (k : ℕ) → count_of k said ≡ count_of k was = same_count data_layout_kind was said body is in
    record {
      one_space = same_one 1 ∙ has.one_space;
      one_type = same_one 3 ∙ has.one_type;
      one_layout = same_one 8 ∙ has.one_layout;
      old_fills = omega (arith, same_one 4, has.old_fills);
      fills = omega (arith, same_one 5, has.fills);
      space = ap (option_and_then extent_of) (same_first data_layout_kind was said body is dataspace_kind refl) ∙ has.space;
      type = ap (option_and_then fixed_of) (same_first data_layout_kind was said body is datatype_kind refl) ∙ has.type;
      filled = record {
        old_fill = (has.filled).old_fill;
        new_fill = (has.filled).new_fill;
        old_filled = rw (same_first data_layout_kind was said body is old_fill_value_kind refl) (has.filled).old_filled;
        new_filled = rw (same_first data_layout_kind was said body is fill_value_kind refl) (has.filled).new_filled;
        filled = (has.filled).filled;
      };
      laid_out = ap (option_and_then (layout_of a.sizes a.fixed.size)) (new_first data_layout_kind was said body is) ∙ named;
      small = has.small;
      chunk_small = small;
    }
