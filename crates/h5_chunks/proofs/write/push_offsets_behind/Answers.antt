use Rattle.std.proofs.Common.{◌≡◌, ◌+◌, ◌*◌, ◌<◌, ◌++◌, ℕ, List, length, get_or, take, sym, ap, ◌∙◌, append_assoc, arith}
use Rattle.std.proofs.lemmas.List.{take_all}
use Rattle.h5_bytes.specs.Bytes.{number_at}
use Rattle.h5_bytes.specs.Numbers.{word}
use Rattle.h5_model.specs.Format.Bodies.{words}
use Rattle.h5_model.specs.Format.Chunks.{offsets_in}
use Rattle.h5_chunks.specs.Keys.{index_from}
use Rattle.h5_chunks.proofs.BehindLaws.{behind_fits, behind_more, length-index_from, length-offsets}
use Rattle.h5_chunks.proofs.write.push_offsets_behind.Goals as goal

pub overflow_add-u64_at : goal.overflow_add-u64_at
overflow_add-u64_at c =
    omega (arith, behind_fits c.args.sizes.now c.args.key.now c.loop-d.d c.requires.aligned c.requires.short (omega arith), c.u64_at.ensures)

pub loop-d-preserved : goal.loop-d-preserved
loop-d-preserved c =
    let sizes : List ℕ = c.args.sizes.now in
    let key : List ℕ = c.args.key.now in
    let d : ℕ = c.loop-d.d in
    let low : d < length sizes = omega arith in
    let before : List ℕ = words (take d (index_from (offsets_in (length sizes) key) sizes)) in
    let one : word (c.u64_at.result + get_or sizes d 0) ≡ word (number_at key (8 + 8 * d) 8 + get_or sizes d 0)
    = ap (λ n. word (n + get_or sizes d 0)) c.u64_at.ensures in
    c.in_ok-push_word.ensures ∙ ap (λ (xs : List ℕ). xs ++ word (c.u64_at.result + get_or sizes d 0)) c.loop-d.invariant
    ∙ append_assoc c.args.out.now.items before (word (c.u64_at.result + get_or sizes d 0))
    ∙ ap (λ (xs : List ℕ). c.args.out.now.items ++ (before ++ xs)) one
    ∙ ap (λ (xs : List ℕ). c.args.out.now.items ++ xs) (sym (behind_more sizes key d low))

pub returns : goal.returns
returns c =
    let sizes : List ℕ = c.args.sizes.now in
    let offsets : List ℕ = offsets_in (length sizes) c.args.key.now in
    let behind : List ℕ = index_from offsets sizes in
    let long : length behind ≡ length sizes = length-index_from offsets sizes (length-offsets sizes c.args.key.now) in
    c.loop-d.invariant ∙ ap (λ (xs : List ℕ). c.args.out.now.items ++ words xs) (take_all c.loop-d.d behind (omega (arith, long)))
