use Rattle.std.proofs.Common.{◌≡◌, ◌+◌, ◌*◌, ◌<◌, ◌++◌, ◌∷◌, [], ℕ, List, length, get_or, sym, ap₂, ◌∙◌, arith}
use Rattle.std.proofs.lemmas.List.{take_all, take_more, take_more_set}
use Rattle.std.proofs.lemmas.List.FromFn.{get_or-map-range_with_len}
use Rattle.h5_bytes.specs.Bytes.{number_at}
use Rattle.h5_model.specs.Format.Chunks.{offsets_in}
use Rattle.h5_chunks.proofs.ReachLaws.{offsets_long}
use Rattle.h5_layout.proofs.trimmed.write_offsets.Goals as goal

pub loop-d-preserved : goal.loop-d-preserved
loop-d-preserved c =
    let key : List ℕ = c.args.key.now in
    let n : ℕ = length c.args.offsets.now in
    let d : ℕ = c.loop-d.d in
    let all : List ℕ = offsets_in n key in
    let room : d < length c.loop-d.offsets = omega (arith, c.loop-d-test.true, c.loop-d.auto.offsets) in
    let low : d < n = omega (arith, c.loop-d-test.true) in
    let under : d < length all = omega (arith, low, offsets_long n key) in
    let here : c.u64_at.result ≡ get_or all d 0
    = c.u64_at.ensures ∙ sym (get_or-map-range_with_len (λ i. number_at key (8 + 8 * i) 8) 0 n d d 0 low (omega arith)) in
    take_more_set c.loop-d.offsets d c.u64_at.result room ∙ ap₂ (λ (xs : List ℕ) (k : ℕ). xs ++ k ∷ []) c.loop-d.invariant here ∙ sym (take_more all d 0 under)

pub returns : goal.returns
returns c =
    let n : ℕ = length c.args.offsets.now in
    let d : ℕ = c.loop-d.d in
    let all : List ℕ = offsets_in n c.args.key.now in
    sym (take_all d c.loop-d.offsets (omega (arith, c.loop-d-test.false, c.loop-d.auto.offsets))) ∙ c.loop-d.invariant
    ∙ take_all d all (omega (arith, c.loop-d-test.false, offsets_long n c.args.key.now))
