use Rattle.std.proofs.Common.{ℕ, List, [], ◌∷◌, ◌++◌, sym, ap, ◌∙◌, map, append_assoc}
use Rattle.h5_repack.specs.Objects.Targets.{targets}
use Rattle.h5_repack.proofs.ObjectLaws.Counting.{pushed_more, pushed_same}
use Rattle.h5_repack.proofs.objects.order.push_waiting.Goals as goal

pub loop-link-preserved-in-Continue-1 : goal.loop-link-preserved-in-Continue-1
loop-link-preserved-in-Continue-1 c =
    let before = c.args.stack.now.items in
    let number = c.in-Object.number in
    let so_far = targets (map (λ k. k.now) c.loop-link.yielded) in
    c.in_ok-push.ensures.items ∙ ap (λ (ns : List ℕ). ns ++ number.0 ∷ []) c.loop-link.invariant ∙ append_assoc before so_far (number.0 ∷ [])
    ∙ ap (λ (ns : List ℕ). before ++ ns) (sym (pushed_more c.loop-link.yielded c.in-Some.link number c.in-Object.is))

pub loop-link-preserved : goal.loop-link-preserved
loop-link-preserved c =
    c.loop-link.invariant
    ∙ ap (λ (ns : List ℕ). c.args.stack.now.items ++ ns) (sym (pushed_same c.loop-link.yielded c.in-Some.link c.in_default.field-0 c.in_default.is))
