use Rattle.std.proofs.Common.{◌≡◌, ◌+◌, ◌∷◌, true, drop, get_or, arith}
use Rattle.std.proofs.lemmas.List.{drop_more}
use Rattle.h5_model.specs.Format.Limits.{most_cells}
use Rattle.h5_shape.specs.InnerRuns.{selects_along}
use Rattle.h5_shape.proofs.InnerSteps.{axis_here, split_axis, none_inner, none_joined, run_around, inner_small, around_small, innermost}
use Rattle.h5_shape.proofs.single_run.+run_from.Goals as goal

pub returns-then-k-sizes : goal.returns-then-k-sizes
returns-then-k-sizes t c =
    innermost c.args.sizes.now c.args.axes.now c.args.k c.requires.rank (omega arith)

pub run_from-requires : goal.run_from-requires
run_from-requires t c =
    let now = drop_more c.args.sizes.now c.args.k 0 (omega arith) in
    let here : selects_along (get_or c.args.sizes.now c.args.k 0) c.at-axis.result ≡ true = cc in (
      omega arith,
      (
        c.requires.rank,
        inner_small (get_or c.args.sizes.now c.args.k 0) (drop (c.args.k + 1) c.args.sizes.now) c.at-axis.result most_cells here (rw now at c.requires.small),
      ),
    )

pub returns-in_err-inner : goal.returns-in_err-inner
returns-in_err-inner t c =
    let here_is : drop c.args.k c.args.axes.now ≡ c.at-axis.result ∷ drop (c.args.k + 1) c.args.axes.now =
    axis_here c.args.axes.now c.args.k c.at-axis.result (omega arith) (c.at-axis.ensures c.at-axis.result) in
    let now = drop_more c.args.sizes.now c.args.k 0 (omega arith) in
    rw (c.from_residual.ensures, now, here_is)
    (none_inner (get_or c.args.sizes.now c.args.k 0) (drop (c.args.k + 1) c.args.sizes.now) c.at-axis.result (drop (c.args.k + 1) c.args.axes.now) c.in_err-inner.ensures)

pub returns-then-not-is_gapless : goal.returns-then-not-is_gapless
returns-then-not-is_gapless t c =
    let here_is : drop c.args.k c.args.axes.now ≡ c.at-axis.result ∷ drop (c.args.k + 1) c.args.axes.now =
    axis_here c.args.axes.now c.args.k c.at-axis.result (omega arith) (c.at-axis.ensures c.at-axis.result) in
    let now = drop_more c.args.sizes.now c.args.k 0 (omega arith) in
    let here : selects_along (get_or c.args.sizes.now c.args.k 0) c.at-axis.result ≡ true = cc in
    rw (now, here_is)
    (none_joined (get_or c.args.sizes.now c.args.k 0) (drop (c.args.k + 1) c.args.sizes.now) c.at-axis.result (drop (c.args.k + 1) c.args.axes.now)
    c.in_ok-inner.inner here c.in_ok-inner.ensures (cc))

pub overflow_add-result : goal.overflow_add-result
overflow_add-result t c =
    let now = drop_more c.args.sizes.now c.args.k 0 (omega arith) in
    let here : selects_along (get_or c.args.sizes.now c.args.k 0) c.at-axis.result ≡ true = cc in
    omega (
      arith,
      around_small (get_or c.args.sizes.now c.args.k 0) (drop (c.args.k + 1) c.args.sizes.now) c.at-axis.result (drop (c.args.k + 1) c.args.axes.now)
          c.in_ok-inner.inner most_cells here c.in_ok-inner.ensures (cc) (rw now at c.requires.small),
    )

pub overflow_mul-result-3 : goal.overflow_mul-result-3
overflow_mul-result-3 t c =
    let now = drop_more c.args.sizes.now c.args.k 0 (omega arith) in
    let here : selects_along (get_or c.args.sizes.now c.args.k 0) c.at-axis.result ≡ true = cc in
    omega (
      arith,
      around_small (get_or c.args.sizes.now c.args.k 0) (drop (c.args.k + 1) c.args.sizes.now) c.at-axis.result (drop (c.args.k + 1) c.args.axes.now)
          c.in_ok-inner.inner most_cells here c.in_ok-inner.ensures (cc) (rw now at c.requires.small),
    )

pub returns : goal.returns
returns t c =
    let here_is : drop c.args.k c.args.axes.now ≡ c.at-axis.result ∷ drop (c.args.k + 1) c.args.axes.now =
    axis_here c.args.axes.now c.args.k c.at-axis.result (omega arith) (c.at-axis.ensures c.at-axis.result) in
    let now = drop_more c.args.sizes.now c.args.k 0 (omega arith) in
    let here : selects_along (get_or c.args.sizes.now c.args.k 0) c.at-axis.result ≡ true = cc in
    rw (now, here_is)
    (run_around (get_or c.args.sizes.now c.args.k 0) (drop (c.args.k + 1) c.args.sizes.now) c.at-axis.result (drop (c.args.k + 1) c.args.axes.now)
    c.in_ok-inner.inner here c.in_ok-inner.ensures (cc))

pub returns-then-not-selects_along : goal.returns-then-not-selects_along
returns-then-not-selects_along t c = λ kept place.
    let here_is : drop c.args.k c.args.axes.now ≡ c.at-axis.result ∷ drop (c.args.k + 1) c.args.axes.now =
    axis_here c.args.axes.now c.args.k c.at-axis.result (omega arith) (c.at-axis.ensures c.at-axis.result) in
    let now = drop_more c.args.sizes.now c.args.k 0 (omega arith) in
    let first : selects_along (get_or c.args.sizes.now c.args.k 0) c.at-axis.result ≡ true =
    (split_axis (get_or c.args.sizes.now c.args.k 0) (drop (c.args.k + 1) c.args.sizes.now) c.at-axis.result (drop (c.args.k + 1) c.args.axes.now) (rw (now, here_is) at kept)).0 in
    absurd (cc)
