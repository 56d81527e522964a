use Rattle.std.proofs.Common.{◌≡◌, ◌<◌, None, [], ◌∷◌, ◌++◌, length, take, take_all, sym, ap, ◌∙◌, arith}
use Rattle.std.specs.Prelude.{option_and_then}
use Rattle.std.proofs.lemmas.List.{take_more, take_more_set, length-set}
use Rattle.std.proofs.lemmas.Option.{get_or_from_slice_get, slice_get_within}
use Rattle.h5_model.specs.Format.Extent.{Extent, extent_of}
use Rattle.h5_layout.specs.Told.{array_told}
use Rattle.h5_layout.proofs.extent.read_maxima.Goals as goal

pub loop-k-preserved : goal.loop-k-preserved
loop-k-preserved c =
    let room = c.loop-k.room in
    let k = c.loop-k.k in
    let all = c.unwrap-extent.result.maxima in
    let m = c.maximum.result in
    let low : k < length room = omega (arith, c.loop-k-test.true, c.rank-rank.ensures.most, c.loop-k.invariant.0) in (
      length-set room k m ∙ c.loop-k.invariant.0,
      take_more_set room k m low ∙ ap (λ t. t ++ m ∷ []) c.loop-k.invariant.1
          ∙ sym (take_more all k None (slice_get_within all k m c.maximum.ensures)
          ∙ ap (λ v. take k all ++ v ∷ []) (get_or_from_slice_get all k m None c.maximum.ensures)),
    )

pub returns-clause-maxima : goal.returns-clause-maxima
returns-clause-maxima c =
    let a = array_told c.args.header.now.messages in
    let e = c.unwrap-extent.result in
    let x : Extent = record { sizes = a.sizes; maxima = a.maxima } in
    let whole : c.loop-k.k ≡ c.rank-rank.result = omega (arith, c.loop-k-test.false, c.loop-k.auto.k-end) in
    let says = sym (ap (option_and_then extent_of) c.one_body-body.ensures) ∙ c.requires.space in
    let read = rw says at c.read_dataspace.ensures in
    let same : e ≡ x = cc (read, c.unwrap-extent.ensures) in
    ap (λ n. take n c.loop-k.room) (sym whole) ∙ c.loop-k.invariant.1 ∙ ap (λ n. take n e.maxima) whole
    ∙ take_all c.rank-rank.result e.maxima (omega (arith, c.rank-rank.ensures.maxima)) ∙ ap (λ (y : Extent). y.maxima) same
