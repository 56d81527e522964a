use Rattle.std.proofs.Common.{◌++◌, codes}
use Rattle.h5_model.specs.Scripts.Text.{escaped_text, type_text, sizes_text}
use Rattle.h5_text.proofs.Appending.{appends_more}
use Rattle.h5_text.proofs.LineTexts.{in_two_pieces}
use Rattle.h5_text.proofs.dump_lines.push_attribute_head.Goals as goal

pub returns : goal.returns
returns c =
    let old = c.args.out.now.items in
    let name = escaped_text c.args.name.now in
    let type = type_text c.args.fixed.now in
    let named = c.push_escaped.new.out.items in
    let typed = c.push_type.new.out.items in
    let spaced = c.push_text-3.new.out.items in
    appends_more c.push_sizes.result old (codes "@" ++ name ++ codes " " ++ type ++ codes " ") spaced c.push_sizes.new.out.items (sizes_text c.args.sizes.now)
    (in_two_pieces old (codes "@" ++ name ++ codes " " ++ type) (codes " ") typed spaced
    (in_two_pieces old (codes "@" ++ name ++ codes " ") type c.push_text-2.new.out.items typed
    (in_two_pieces old (codes "@" ++ name) (codes " ") named c.push_text-2.new.out.items
    (in_two_pieces old (codes "@") name c.push_text.new.out.items named c.in_ok-push_text.ensures c.in_ok-push_escaped.ensures)
    c.in_ok-push_text-2.ensures) c.in_ok-push_type.ensures) c.in_ok-push_text-3.ensures) c.push_sizes.ensures
