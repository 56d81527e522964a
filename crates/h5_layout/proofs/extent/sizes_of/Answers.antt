use Rattle.std.proofs.Common.{◌≡◌, ◌<◌, [], ◌∷◌, ◌++◌, length, take, take_all, sym, ap, ◌∙◌, arith}
use Rattle.std.specs.Prelude.{option_and_then}
use Rattle.std.proofs.lemmas.List.{take_more, take_more_set, length-set}
use Rattle.h5_model.specs.Format.Extent.{Extent, extent_of}
use Rattle.h5_layout.specs.Told.{array_told}
use Rattle.h5_layout.proofs.extent.sizes_of.Goals as goal

pub loop-k-preserved : goal.loop-k-preserved
loop-k-preserved c =
    let room = c.loop-k.room in
    let k = c.loop-k.k in
    let all = c.unwrap-extent.result.sizes in
    let m = c.size.result in
    let low : k < length room = omega (arith, c.loop-k-test.true, c.rank-rank.ensures.most, c.loop-k.invariant.0) in
    let there : k < length all = omega (arith, c.loop-k-test.true, c.rank-rank.ensures.rank) in (
      length-set room k m ∙ c.loop-k.invariant.0,
      take_more_set room k m low ∙ ap (λ t. t ++ m ∷ []) c.loop-k.invariant.1
          ∙ sym (take_more all k 0 there ∙ ap (λ v. take k all ++ v ∷ []) (sym c.size.ensures)),
    )

pub returns : goal.returns
returns c =
    let a = array_told c.args.header.now.messages in
    let e = c.unwrap-extent.result in
    let x : Extent = record { sizes = a.sizes; maxima = a.maxima } in
    let whole : c.loop-k.k ≡ c.rank-rank.result = omega (arith, c.loop-k-test.false, c.loop-k.auto.k-end) in
    let says = sym (ap (option_and_then extent_of) c.one_body.ensures) ∙ c.requires.space in
    let read = rw says at c.read_dataspace.ensures in
    let same : e ≡ x = cc (read, c.unwrap-extent.ensures) in
    ap (λ n. take n c.loop-k.room) (sym whole) ∙ c.loop-k.invariant.1 ∙ ap (λ n. take n e.sizes) whole
    ∙ take_all c.rank-rank.result e.sizes (omega (arith, c.rank-rank.ensures.rank)) ∙ ap (λ (y : Extent). y.sizes) same
