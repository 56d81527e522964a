use Rattle.std.proofs.Common.{List, ℕ, ◌∙◌, ap, subst}
use Rattle.h5_model.specs.Scripts.Text.{line_of}
use Rattle.h5_text.specs.Appends.{Appends}
use Rattle.h5_text.specs.Listing.{path_text, told_dataset}
use Rattle.h5_dump.proofs.Dumps.{content-same}
use Rattle.h5_dump.proofs.list.push_listed_array.Goals as goal

pub returns : goal.returns
returns c =
    let told = c.array_text-told.result in
    subst (λ (text : List ℕ). Appends c.push_array_line.result c.args.text.now.items c.push_array_line.new.out.items text)
    (ap (line_of (path_text c.args.path)) (content-same (told_dataset told) c.args.array.now (c.array_text-told.ensures.fixed ∙ c.array.ensures.fixed)
    (c.array_text-told.ensures.sizes ∙ c.array.ensures.sizes) (c.array_text-told.ensures.maxima ∙ c.array.ensures.maxima)))
    c.push_array_line.ensures
