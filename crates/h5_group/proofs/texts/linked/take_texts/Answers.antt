use Rattle.std.proofs.Common.{◌≡◌, ℕ, [], ◌∷◌, sym, ap, ◌∙◌}
use Rattle.h5_model.specs.declared.open_fault.Cause.TheVariants.{HeapName}
use Rattle.h5_heap.specs.Kept.{segment_in}
use Rattle.h5_snod.specs.declared.entry.SymbolTarget.{SymbolTarget}
use Rattle.h5_group.specs.Texts.Linked.{linked_from, text_of}
use Rattle.h5_group.proofs.TextProofs.LinkedLaws.{takes_one, untaken_by, refused_one, refused_more, refused_within}
use Rattle.h5_group.proofs.texts.linked.take_texts.Goals as goal

pub returns-in_default-clause-refused : goal.returns-in_default-clause-refused
returns-in_default-clause-refused c = λ none sound.
    let image = c.args.image.now.bytes in
    let name = c.args.entry.name in
    refused_more image c.args.heap.now (name ∷ []) (text_of c.args.entry.target)
    (refused_one image c.args.heap.now name c.in_default.field-0.cause c.in_default.ensures.refused)

pub returns-in-Text-clause-refused : goal.returns-in-Text-clause-refused
returns-in-Text-clause-refused c = λ none sound.
    let image = c.args.image.now.bytes in
    let name = c.args.entry.name in
    let is : linked_from c.args.entry ≡ name ∷ c.from.result ∷ []
    = ap (λ (t : SymbolTarget). name ∷ text_of t) c.in-Text.is ∙ ap (λ (o : ℕ). name ∷ o ∷ []) (sym c.from.ensures) in
    refused_within image c.args.heap.now c.take.new.self (linked_from c.args.entry) (name ∷ []) (c.from.result ∷ []) [] is
    (takes_one image c.args.heap.now c.take.new.self name c.in-Ok.ensures.takes c.in-Ok.ensures.taken)
    (refused_one image c.take.new.self c.from.result HeapName
    (untaken_by (segment_in image c.take.new.self) c.take.new.self.held c.from.result c.take-in-Text.result c.take-in-Text.ensures.refused
    (sym c.is_ok.ensures.value ∙ none)))
