use Rattle.h5_model.specs.Scripts.Text.{content_text}
use Rattle.h5_model.specs.Tree.Objects.{Array}
use Rattle.h5_text.specs.Listing.{path_text, told_dataset}
use Rattle.h5_text.proofs.LineTexts.{appends_line}
use Rattle.h5_text.proofs.listing.push_array_line.Goals as goal

pub returns : goal.returns
returns c =
    appends_line c.push_text-2.result c.args.out.now.items (path_text c.args.path) (content_text (Array (told_dataset c.args.array.now)))
    c.push_to.new.out.items c.push_text.new.out.items c.push_content.new.out.items c.push_text-2.new.out.items
    c.in_ok-push_to.ensures c.in_ok-push_text.ensures c.in_ok-push_content.ensures c.push_text-2.ensures
