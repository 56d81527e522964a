use Rattle.std.proofs.Common.{◌≡◌, ◌↔◌, ◌+◌, ℕ, suc, Bool, true, false, List, Option, Some, None, sym, ap, ◌∙◌, subst, add-one}
use Rattle.std.specs.Bool.{IsTrue}
use Rattle.std.specs.Option.{IfNone, IfSome, is_some}
use Rattle.h5_model.specs.Format.Rows.{Node}
use Rattle.h5_model.specs.Format.Nodes.{node_at}
use Rattle.h5_btree.specs.Exact.{IsExactBelow}
use Rattle.h5_btree.proofs.exact.are_keys_exact.Goals as goal

by_found : (r : Option (Option (List ℕ))) (P : Type 0) → IfSome r (λ last. P) → IfNone r (P → ⊥) → (b : Bool) → b ≡ is_some r → IsTrue b ↔ P
by_found None P some none b is = (λ on. let clash : false ≡ true = sym is ∙ on in cc, λ so. absurd (none so))
by_found (Some last) P some none b is = (λ on. some, λ so. is)

pub returns : goal.returns
returns g c =
    let V = node_at c.args.image.now.bytes c.args.kind in
    let keys = g.R.Hits.keys_at c.args.how.now c.args.image.now.bytes in
    let node : c.node_there.result ≡ V c.args.root
    = c.node_there.ensures ∙ ap (λ (b : List ℕ). node_at b c.args.kind c.args.root) c.bytes.ensures in
    let height : c.from.result + 1 ≡ suc (V c.args.root).level
    = add-one c.from.result ∙ ap suc (c.from.ensures ∙ c.level-level.ensures ∙ ap (λ (n : Node). n.level) node) in
    by_found c.exact_below.result (IsExactBelow V keys (suc (V c.args.root).level) None c.args.root)
    (subst (λ (h : ℕ). IfSome c.exact_below.result (λ last. IsExactBelow V keys h None c.args.root)) height c.exact_below.ensures.exact)
    (subst (λ (h : ℕ). IfNone c.exact_below.result (IsExactBelow V keys h None c.args.root → ⊥)) height c.exact_below.ensures.other)
    c.is_some.result c.is_some.ensures
