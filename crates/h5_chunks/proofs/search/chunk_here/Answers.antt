use Rattle.std.proofs.Common.{◌≡◌, ℕ, ◌++◌, ◌∷◌, [], List, length, sym, ap, ◌∙◌, arith}
use Rattle.std.specs.Ordering.{nat_cmp}
use Rattle.std.specs.Cmp.Lexicographic.{slice_cmp, nat_list_cmp_total}
use Rattle.std.specs.FinMap.{nat_cmp-IsAntisymmetric, slice_cmp-IsAntisymmetric}
use Rattle.std.proofs.lemmas.Cmp.{tied_itself}
use Rattle.std.proofs.lemmas.Option.{get_or_from_slice_get}
use Rattle.h5_model.specs.Format.Chunks.{all_offsets_in}
use Rattle.h5_chunks.proofs.KeyOrder.{not_other, other}
use Rattle.h5_chunks.proofs.search.chunk_here.Goals as goal
use Rattle.h5_chunks.proofs.search.chunk_here.Goals.{then-i-len-via-then-i-len, then-i-len-via-else-i-len+then-is_ne}

pub returns-then-i-len-clause-none : goal.returns-then-i-len-clause-none
returns-then-i-len-clause-none c at there =
    elim c.then-i-len.branch [
      | then-i-len-via-then-i-len w ↦ omega (arith, there.low, c.len.ensures.children, w.if-i-len.true)
      | then-i-len-via-else-i-len+then-is_ne w ↦
          let os : List ℕ = c.args.offsets.now ++ 0 ∷ [] in
          let rank : ℕ = length c.args.offsets.now in
          let key : List ℕ = w.key.result.now in
          let is : all_offsets_in rank key ≡ os
          = ap (all_offsets_in rank) (sym (get_or_from_slice_get c.args.node.now.keys c.args.i key [] w.key.ensures)) ∙ there.key in
          other w.key_order.result (sym w.is_ne.ensures ∙ w.if-is_ne.true)
          (w.key_order.ensures ∙ ap (λ (xs : List ℕ). slice_cmp nat_cmp xs os) is ∙ tied_itself nat_list_cmp_total os)
    ]

pub returns-clause-there : goal.returns-clause-there
returns-clause-there c =
    let os : List ℕ = c.args.offsets.now ++ 0 ∷ [] in
    let rank : ℕ = length c.args.offsets.now in
    let key : List ℕ = c.key.result.now in
    record {
      low = omega (arith, c.if-i-len.false, c.len.ensures.children);
      key = ap (all_offsets_in rank) (get_or_from_slice_get c.args.node.now.keys c.args.i key [] c.key.ensures)
          ∙ slice_cmp-IsAntisymmetric nat_cmp-IsAntisymmetric (all_offsets_in rank key) os
          (sym c.key_order.ensures ∙ not_other c.key_order.result (sym c.is_ne.ensures ∙ c.if-is_ne.false));
      child = c.child.ensures;
    }
