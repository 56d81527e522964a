use Rattle.std.proofs.Common.{[], ◌∷◌, ℕ, List, sym, ◌∙◌, subst, arith}
use Rattle.std.specs.List.{Contains}
use Rattle.h5_model.specs.Format.Heap.{segment_of}
use Rattle.h5_heap.proofs.TakenLaws.{contains_head}
use Rattle.h5_group.specs.Edited.{HasGroupMoved}
use Rattle.h5_group.proofs.EditSteps.{moved_then}
use Rattle.h5_group.proofs.PutTexts.{no_zero, nodes_then, spare_low, symbols_told, text_back, text_link}
use Rattle.h5_group.proofs.edit.put.add_soft_texts.Goals as goal

pub add_text-offset-requires-clause-plain : goal.add_text-offset-requires-clause-plain
add_text-offset-requires-clause-plain c = no_zero c.args.name.now c.requires.named

pub add_text-offset-requires-clause-group : goal.add_text-offset-requires-clause-group
add_text-offset-requires-clause-group c =
    let g = c.requires.group in
    let m = c.add_text-behind.ensures.added g.0 [] g.1 g.2 in
    (c.add_text-behind.result ∷ [], (g.0, m.blocks, m.group))

pub overflow_cast-result : goal.overflow_cast-result
overflow_cast-result c =
    let g = c.requires.group in
    let m = c.add_text-behind.ensures.added g.0 [] g.1 g.2 in
    let low = spare_low c.add_text-behind.new.image c.args.table c.add_text-behind.result g.0 [] m.blocks m.group in
    omega (arith, low, c.add_text-behind.ensures.spends.grown, c.requires.small)

pub returns-clause-added : goal.returns-clause-added
returns-clause-added c = λ links spare blocks g.
    let some = c.requires.group in
    let own = c.add_text-behind.ensures.added some.0 [] some.1 some.2 in
    let low = spare_low c.add_text-behind.new.image c.args.table c.add_text-behind.result some.0 [] own.blocks own.group in
    let back = text_back c.add_text-behind.result (omega (arith, low, c.add_text-behind.ensures.spends.grown, c.requires.small)) in
    let m = c.add_text-behind.ensures.added links spare blocks g in
    let n = c.add_text-offset.ensures.added links (c.add_text-behind.result ∷ spare) m.blocks m.group in
    subst (λ (x : ℕ). HasGroupMoved c.args.image.now c.add_text-offset.new.image c.args.table blocks links (c.add_text-offset.result ∷ x ∷ spare)) (sym back)
    (moved_then c.args.image.now c.add_text-behind.new.image c.add_text-offset.new.image c.args.table blocks links links (c.add_text-behind.result ∷ spare)
    (c.add_text-offset.result ∷ c.add_text-behind.result ∷ spare) m n)

pub returns-clause-link : goal.returns-clause-link
returns-clause-link c =
    let g = c.requires.group in
    let m = c.add_text-behind.ensures.added g.0 [] g.1 g.2 in
    let low = spare_low c.add_text-behind.new.image c.args.table c.add_text-behind.result g.0 [] m.blocks m.group in
    let kept = c.add_text-offset.ensures.kept g.0 (c.add_text-behind.result ∷ []) m.blocks m.group c.add_text-behind.result (contains_head c.add_text-behind.result []) in
    text_link (segment_of c.add_text-offset.new.image.bytes c.args.table.heap) c.args.name.now c.args.text.now c.add_text-offset.result c.add_text-behind.result
    (omega (arith, low, c.add_text-behind.ensures.spends.grown, c.requires.small)) c.add_text-offset.ensures.text (kept ∙ c.add_text-behind.ensures.text)

pub returns-clause-nodes : goal.returns-clause-nodes
returns-clause-nodes c = λ links spare blocks g.
    let m = c.add_text-behind.ensures.added links spare blocks g in
    nodes_then c.args.image.now c.add_text-behind.new.image c.args.table links spare blocks g links (c.add_text-behind.result ∷ spare) m.blocks m.group m.k
    (c.add_text-behind.ensures.nodes links spare blocks g) c.add_text-offset.new.image
    (c.add_text-offset.ensures.nodes links (c.add_text-behind.result ∷ spare) m.blocks m.group)

pub returns-clause-entries : goal.returns-clause-entries
returns-clause-entries c = λ node there.
    let g = c.requires.group in
    let m = c.add_text-behind.ensures.added g.0 [] g.1 g.2 in
    let told = symbols_told c.args.image.now c.add_text-behind.new.image c.args.table g.0 [] g.1 g.2 g.0 (c.add_text-behind.result ∷ []) m.blocks m.group m.k
    (c.add_text-behind.ensures.nodes g.0 [] g.1 g.2) in
    c.add_text-offset.ensures.entries node (subst (λ (ns : List ℕ). Contains ns node) (sym told) there) ∙ c.add_text-behind.ensures.entries node there
