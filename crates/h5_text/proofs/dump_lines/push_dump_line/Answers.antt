use Rattle.std.proofs.Common.{◌++◌, codes}
use Rattle.h5_model.specs.Scripts.Text.{content_text, dataset_text}
use Rattle.h5_model.specs.Tree.Objects.{Array}
use Rattle.h5_text.specs.Listing.{path_text, told_dataset}
use Rattle.h5_text.proofs.Appending.{appends_more}
use Rattle.h5_text.proofs.LineTexts.{in_two_pieces}
use Rattle.h5_text.proofs.dump_lines.push_dump_line.Goals as goal

pub returns : goal.returns
returns c =
    let old = c.args.out.now.items in
    let path = path_text c.args.path in
    let content = content_text (Array (told_dataset c.args.array.now)) in
    let detail = dataset_text (told_dataset c.args.array.now) in
    let told = c.push_content.new.out.items in
    appends_more c.push_text-2.result old (path ++ codes " " ++ content ++ detail) c.push_detail.new.out.items c.push_text-2.new.out.items (codes "\n")
    (in_two_pieces old (path ++ codes " " ++ content) detail told c.push_detail.new.out.items
    (in_two_pieces old (path ++ codes " ") content c.push_text.new.out.items told
    (in_two_pieces old path (codes " ") c.push_to.new.out.items c.push_text.new.out.items c.in_ok-push_to.ensures c.in_ok-push_text.ensures)
    c.in_ok-push_content.ensures) c.in_ok-push_detail.ensures) c.push_text-2.ensures
