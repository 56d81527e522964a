use Rattle.std.proofs.Common.{◌≡◌, ◌+◌, ◌<◌, ◌++◌, length, get_or, take, codes, None, ap, ◌∙◌, sym, arith}
use Rattle.std.specs.List.{join_by, zip}
use Rattle.h5_model.specs.Scripts.Text.{size_text}
use Rattle.h5_text.proofs.Appending.{appends_more}
use Rattle.h5_text.proofs.Joining.{before, before_none, before_some, join_more, joined_step, length-pairs, pair_at, pairs_all}
use Rattle.h5_text.proofs.texts.push_extent.Goals as goal
use Rattle.h5_text.proofs.texts.push_extent.Goals.{then-k-gt0, else-k-gt0}

pub loop-k-preserved : goal.loop-k-preserved
loop-k-preserved c =
    let k = c.loop-k.k in
    let sizes = c.args.sizes.now in
    let maxima = c.args.maxima.now in
    let below : k < length sizes = omega (arith, c.min-k-end.ensures, c.loop-k-test.true) in
    let below_too : k < length maxima = omega (arith, c.min-k-end.ensures, c.loop-k-test.true) in
    let joined = join_by size_text (codes ", ") (take k (zip sizes maxima)) in
    let text = size_text (get_or sizes k 0, get_or maxima k None) in
    let separator : c.if-k-gt0.push_text.now ≡ before (codes ", ") k = elim c.if-k-gt0.branch [
      | then-k-gt0 w ↦ ap (λ r. r.now) w.push_text-is ∙ before_some (codes ", ") k w.if-k-gt0.true
      | else-k-gt0 w ↦ ap (λ r. r.now) w.push_text-is ∙ before_none (codes ", ") k w.if-k-gt0.false
    ] in
    joined_step c.args.out.now.items (codes "{") joined (join_by size_text (codes ", ") (take (k + 1) (zip sizes maxima))) c.if-k-gt0.push_text.now text
    c.loop-k.out.items c.push_text-in-loop-k.new.out.items c.push_size.new.out.items c.loop-k.invariant c.in_ok-push_text-2.ensures c.in_ok-push_size.ensures
    (join_more size_text (codes ", ") (zip sizes maxima) k (0, None) (length-pairs sizes maxima k below below_too)
    ∙ ap (λ p. joined ++ (before (codes ", ") k ++ size_text p)) (pair_at sizes maxima k below below_too)
    ∙ ap (λ s. joined ++ (s ++ text)) (sym separator))

pub returns : goal.returns
returns c =
    let all = pairs_all c.args.sizes.now c.args.maxima.now c.loop-k.k (omega (arith, c.min-k-end.ensures, c.loop-k-test.false)) in
    appends_more c.push_text-2.result c.args.out.now.items (codes "{" ++ join_by size_text (codes ", ") (zip c.args.sizes.now c.args.maxima.now)) c.loop-k.out.items c.push_text-2.new.out.items (codes "}")
    (c.loop-k.invariant ∙ ap (λ ps. c.args.out.now.items ++ (codes "{" ++ join_by size_text (codes ", ") ps)) all) c.push_text-2.ensures
