use Rattle.std.proofs.Common.{◌≡◌, ℕ, List, ◌∷◌, [], sym, ap, ◌∙◌, subst, rules}
use Rattle.std.specs.List.{Contains}
use Rattle.std.proofs.lemmas.Result.{err_from_is_err_and}
use Rattle.h5_heap.proofs.TakenLaws.{contains_head, contains_tail}
use Rattle.h5_snod.specs.declared.entry.SymbolTarget.{SymbolTarget}
use Rattle.h5_group.specs.Texts.Linked.{linked_from, text_of}
use Rattle.h5_group.proofs.texts.names.check_entry.Goals as goal

pub returns-in_err-name-2-clause-refused : goal.returns-in_err-name-2-clause-refused
returns-in_err-name-2-clause-refused c =
    let name = c.args.entry.name in
    let offset = c.from.result in
    let is : linked_from c.args.entry ≡ name ∷ offset ∷ []
    = ap (λ (t : SymbolTarget). name ∷ text_of t) c.in-Text.is ∙ ap (λ (o : ℕ). name ∷ o ∷ []) (sym c.from.ensures) in
    let there : Contains (linked_from c.args.entry) offset = subst (λ (xs : List ℕ). Contains xs offset) (sym is) (contains_tail name (offset ∷ []) offset (contains_head offset [])) in
    let p = err_from_is_err_and c.from_residual-in_err-name-2.result c.from_residual-in_err-name-2.ensures.1 in
    rw (p.1, p.2, c.in_err-name-2.ensures.fault) (offset, there, c.in_err-name-2.ensures.refused, λ span. search rules)
