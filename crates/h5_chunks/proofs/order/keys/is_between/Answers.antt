use Rattle.std.proofs.Common.{◌≡◌, ◌++◌, ◌∷◌, [], ℕ, List, IsTrue, sym, ap, ◌∙◌}
use Rattle.std.specs.Ordering.{nat_cmp, is_gt, is_le, is_lt}
use Rattle.std.specs.Cmp.Lexicographic.{slice_cmp}
use Rattle.h5_model.specs.Format.Chunks.{all_offsets_in, offsets_in}
use Rattle.h5_chunks.proofs.KeyOrder.{above_turned}
use Rattle.h5_chunks.proofs.order.keys.is_between.Goals as goal

pub returns-then-is_le : goal.returns-then-is_le
returns-then-is_le c =
    let rank : ℕ = c.args.rank in
    let offsets : List ℕ = offsets_in rank c.args.key.now in
    let low : List ℕ = all_offsets_in rank c.args.low.now in
    let high : List ℕ = all_offsets_in rank c.args.high.now in
    let to_low : c.key_order.result ≡ slice_cmp nat_cmp low (offsets ++ 0 ∷ []) = cc in
    let to_high : c.key_order-then-is_le.result ≡ slice_cmp nat_cmp high (offsets ++ 0 ∷ []) = cc in
    let above : IsTrue (is_le (slice_cmp nat_cmp low (offsets ++ 0 ∷ []))) = ap is_le (sym to_low) ∙ sym c.is_le.ensures ∙ c.if-is_le.true in
    let below : c.is_gt.result ≡ is_lt (slice_cmp nat_cmp (offsets ++ 0 ∷ []) high) = c.is_gt.ensures ∙ ap is_gt to_high ∙ above_turned high (offsets ++ 0 ∷ []) in
    (λ yes. (above, sym below ∙ yes), λ held. below ∙ held.1)
