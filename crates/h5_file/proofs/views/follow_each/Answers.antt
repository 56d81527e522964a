use Rattle.std.proofs.Common.{◌≡◌, ◌≤◌, ◌+◌, ◌*◌, ℕ, List, [], drop, get_or, length, map, sym, ap, ◌∙◌, subst, arith}
use Rattle.std.proofs.lemmas.List.{drop_all, length-map}
use Rattle.std.proofs.Math.Nat.{mul-le-mul_right}
use Rattle.h5_model.specs.Format.Limits.{most_cells, most_views}
use Rattle.h5_file.specs.ByArray.{numbers_on}
use Rattle.h5_file.specs.declared.by_array.ArrayView.{ArrayView}
use Rattle.h5_file.specs.declared.views.KeptView.{KeptView}
use Rattle.h5_file.proofs.FollowedViews.{AreFollowedTo, all_followed, few_on, left_next, next_followed, next_ready, next_there, none_yet, still_numbered}
use Rattle.h5_file.proofs.views.follow_each.Goals as goal
use Rattle.h5_file.proofs.views.follow_each.Goals.{After-follow_one-count, After-views_on-own}

abbrev numbers : List ArrayView → List ℕ
numbers views = map (λ (v : ArrayView). v.number) views

abbrev any : ArrayView
any = record { object = 0; number = 0 }

listed : (c : After-views_on-own) → numbers c.views_on-own.result.now ≡ numbers_on c.args.number.0 c.args.views.now
listed c = c.views_on-own.ensures ∙ c.requires.listed.each c.args.number.0

few : (c : After-views_on-own) → length c.views_on-own.result.now ≤ most_views
few c =
    let same : length c.views_on-own.result.now ≡ length (numbers_on c.args.number.0 c.args.views.now)
    = sym (length-map c.views_on-own.result.now (λ (v : ArrayView). v.number)) ∙ ap length (listed c) in
    let less = few_on c.args.number.0 c.args.views.now in
    omega (arith, same, less, c.requires.few)

pub loop-view-init : goal.loop-view-init
loop-view-init c = record {
  followed = none_yet c.args.number.0 c.args.array.now c.args.touched.now c.args.views.now (numbers c.views_on-own.result.now)
      (listed (goal.at.loop-view-init c).After-views_on-own);
  low = omega arith;
}

pub follow_one-count-requires-clause-rise : goal.follow_one-count-requires-clause-rise
follow_one-count-requires-clause-rise c =
    let own = c.views_on-own.result.now in
    let i = c.loop-view.view-index in
    let end = c.requires.rise.0 in (
      end,
      still_numbered c.args.number.0 c.args.array.now c.args.touched.now c.args.views.now (numbers (drop i own)) c.loop-view.count c.loop-view.views c.loop-view.invariant.followed end
          c.requires.rise.1,
    )

pub follow_one-count-requires-clause-there : goal.follow_one-count-requires-clause-there
follow_one-count-requires-clause-there c =
    let own = c.views_on-own.result.now in
    let i = c.loop-view.view-index in
    next_there c.args.number.0 c.args.array.now c.args.touched.now c.args.views.now (numbers (drop i own)) c.loop-view.count c.loop-view.views c.loop-view.invariant.followed
    (get_or own i any).number (numbers (drop (i + 1) own)) (left_next i own any c.loop-view-test.true)

pub follow_one-count-requires-clause-fit : goal.follow_one-count-requires-clause-fit
follow_one-count-requires-clause-fit c = λ at x there.
    let own = c.views_on-own.result.now in
    let i = c.loop-view.view-index in
    next_ready c.args.number.0 c.args.array.now c.args.touched.now c.args.views.now (numbers (drop i own)) c.loop-view.count c.loop-view.views c.loop-view.invariant.followed
    (get_or own i any).number (numbers (drop (i + 1) own)) (left_next i own any c.loop-view-test.true) c.requires.rise.0 c.requires.rise.1 at there c.requires.fit x

low : (c : After-follow_one-count) → c.loop-view.count + c.follow_one-count.result ≤ (c.loop-view.view-index + 1) * most_cells
low c = omega (arith, c.loop-view.invariant.low, c.follow_one-count.ensures.few)

pub overflow_add-count : goal.overflow_add-count
overflow_add-count c =
    let sum = low (goal.at.overflow_add-count c).After-follow_one-count in
    let many = few (goal.at.overflow_add-count c).After-views_on-own in
    let rows : c.loop-view.view-index + 1 ≤ most_views = omega (arith, c.loop-view-test.true, many) in
    let all : (c.loop-view.view-index + 1) * most_cells ≤ most_views * most_cells = mul-le-mul_right most_cells rows in
    omega (arith, sum, all)

pub loop-view-preserved : goal.loop-view-preserved
loop-view-preserved c =
    let b = (goal.at.loop-view-preserved c).After-follow_one-count in
    let own = c.views_on-own.result.now in
    let i = c.loop-view.view-index in
    let more = numbers (drop (i + 1) own) in
    let f = c.follow_one-count.ensures.followed in
    record {
      followed = subst (λ (vs : List KeptView). AreFollowedTo c.args.number.0 c.args.array.now c.args.touched.now c.args.views.now more (c.loop-view.count + c.follow_one-count.result) vs) (sym f.after_is)
          (next_followed c.args.number.0 c.args.array.now c.args.touched.now c.args.views.now (numbers (drop i own)) c.loop-view.count c.loop-view.views c.loop-view.invariant.followed
          (get_or own i any).number more (left_next i own any c.loop-view-test.true) c.requires.rise.0 c.requires.rise.1 f.at f.there c.follow_one-count.result f.view f.same f.kept);
      low = low b;
    }

pub returns : goal.returns
returns c =
    let own = c.views_on-own.result.now in
    let i = c.loop-view.view-index in
    let none : numbers (drop i own) ≡ [] = ap numbers (drop_all i own (omega (arith, c.loop-view-test.false))) in
    all_followed c.args.number.0 c.args.array.now c.args.touched.now c.args.views.now (numbers (drop i own)) c.loop-view.count c.loop-view.views c.loop-view.invariant.followed none
