use Rattle.std.proofs.Common.{◌≡◌, ◌<◌, ◌≤◌, None, [], ◌∷◌, ◌++◌, length, take, take_all, sym, ap, ◌∙◌, arith}
use Rattle.std.proofs.lemmas.List.{take_more, take_more_set, length-set}
use Rattle.std.proofs.lemmas.Option.{get_or_from_slice_get, slice_get_within}
use Rattle.h5_model.specs.Format.Described.{Described}
use Rattle.h5_layout.proofs.array.ArrayRef.maxima.Goals as goal

pub loop-k-preserved : goal.loop-k-preserved
loop-k-preserved c =
    let room = c.loop-k.room in
    let k = c.loop-k.k in
    let all = c.args.self.now.maxima in
    let m = c.maximum.result in
    let low : k < length room = omega (arith, c.loop-k-test.true, c.sizes-k-end.ensures.rank, ap length c.sizes-k-end.ensures.numbers, c.loop-k.invariant.0) in (
      length-set room k m ∙ c.loop-k.invariant.0,
      take_more_set room k m low ∙ ap (λ t. t ++ m ∷ []) c.loop-k.invariant.1
          ∙ sym (take_more all k None (slice_get_within all k m c.maximum.ensures) ∙ ap (λ v. take k all ++ v ∷ []) (get_or_from_slice_get all k m None c.maximum.ensures)),
    )

pub returns : goal.returns
returns c =
    let whole : c.loop-k.k ≡ c.rank.result = omega (arith, c.loop-k-test.false, c.loop-k.auto.k-end, c.rank.ensures.sizes, ap length c.sizes-k-end.ensures.numbers, ap (λ (a : Described). length a.sizes) c.self.view_is) in
    let all : length c.args.self.now.maxima ≤ c.rank.result = omega (arith, c.rank.ensures.maxima) in
    ap (λ n. take n c.loop-k.room) (sym whole) ∙ c.loop-k.invariant.1 ∙ ap (λ n. take n c.args.self.now.maxima) whole
    ∙ take_all c.rank.result c.args.self.now.maxima all
