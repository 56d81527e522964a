use Rattle.std.proofs.Common.{List, ℕ, ◌∙◌, ap, subst}
use Rattle.h5_model.specs.Scripts.Text.{escaped_text}
use Rattle.h5_text.specs.Appends.{Appends}
use Rattle.h5_text.specs.Stores.{store_text}
use Rattle.h5_text.specs.Listing.{told_dataset}
use Rattle.h5_dump.proofs.Dumps.{head-same}
use Rattle.h5_dump.proofs.dump.push_array_head.Goals as goal

pub returns : goal.returns
returns c =
    let d = c.args.array.now in
    let told = c.array_text-told.result in
    subst (λ (text : List ℕ). Appends c.push_dump_line.result c.args.text.now.items c.push_dump_line.new.out.items text)
    (head-same (escaped_text c.args.path.now) (told_dataset told) d (c.array_text-told.ensures.fixed ∙ c.array.ensures.fixed) (c.array_text-told.ensures.sizes ∙ c.array.ensures.sizes)
    (c.array_text-told.ensures.maxima ∙ c.array.ensures.maxima)
    (ap store_text c.array_text-told.ensures.store ∙ c.shown_store.ensures d.storage c.store_of-store.ensures) (c.array_text-told.ensures.fill ∙ c.array.ensures.fill))
    c.push_dump_line.ensures
