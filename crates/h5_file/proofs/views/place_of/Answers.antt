use Rattle.std.proofs.Common.{rules}
use Rattle.std.proofs.lemmas.List.Sorted.{answers_always}
use Rattle.h5_file.specs.declared.views.KeptView.{KeptView}
use Rattle.h5_file.proofs.ViewLaws.{place_found}
use Rattle.h5_file.proofs.views.place_of.Goals as goal

-- the closure gives a view's number
pub returns : goal.returns
returns c =
    let facts = c.binary_search_by_key.ensures in
    let (end, rise) = c.requires in
    rw c.ok.ensures.value (place_found c.args.views.now end c.args.number rise c.binary_search_by_key.result facts.bound
    (facts.position (λ (view : KeptView). view.number) (answers_always _ _ _ (λ f a r g called. search rules))))
