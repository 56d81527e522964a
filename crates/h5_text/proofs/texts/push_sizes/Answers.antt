use Rattle.std.proofs.Common.{◌≡◌, ◌+◌, ◌++◌, get_or, take, codes, ap, ◌∙◌, sym}
use Rattle.std.specs.Fmt.{decimal}
use Rattle.std.specs.List.{join_by}
use Rattle.h5_text.proofs.Joining.{before, before_none, before_some, join_more, joined_step}
use Rattle.h5_text.proofs.texts.push_sizes.Goals as goal
use Rattle.h5_text.proofs.texts.push_sizes.Goals.{then-k-gt0, else-k-gt0}

pub loop-k-preserved : goal.loop-k-preserved
loop-k-preserved c =
    let k = c.loop-k.k in
    let sizes = c.args.sizes.now in
    let joined = join_by decimal (codes ", ") (take k sizes) in
    let separator : c.if-k-gt0.push_text.now ≡ before (codes ", ") k = elim c.if-k-gt0.branch [
      | then-k-gt0 w ↦ ap (λ r. r.now) w.push_text-is ∙ before_some (codes ", ") k w.if-k-gt0.true
      | else-k-gt0 w ↦ ap (λ r. r.now) w.push_text-is ∙ before_none (codes ", ") k w.if-k-gt0.false
    ] in
    joined_step c.args.out.now.items (codes "{") joined (join_by decimal (codes ", ") (take (k + 1) sizes)) c.if-k-gt0.push_text.now (decimal (get_or sizes k 0))
    c.loop-k.out.items c.push_text-in-loop-k.new.out.items c.push_number.new.out.items c.loop-k.invariant c.in_ok-push_text-2.ensures c.in_ok-push_number.ensures
    (join_more decimal (codes ", ") sizes k 0 c.loop-k-test.true ∙ ap (λ s. joined ++ (s ++ decimal (get_or sizes k 0))) (sym separator))
