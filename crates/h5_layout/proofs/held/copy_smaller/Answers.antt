use Rattle.std.proofs.Common.{◌≡◌, ◌<◌, ◌++◌, ◌∷◌, [], ℕ, List, length, get_or, sym, ap₂, ◌∙◌, arith}
use Rattle.std.proofs.lemmas.List.{take_all, take_more, take_more_set}
use Rattle.h5_layout.specs.Kept.{smaller_sizes}
use Rattle.h5_layout.proofs.KeptLaws.{get_or-smaller, length-smaller}
use Rattle.h5_layout.proofs.held.copy_smaller.Goals as goal

pub loop-d-preserved : goal.loop-d-preserved
loop-d-preserved c =
    let old : List ℕ = c.args.old.now in
    let new : List ℕ = c.args.new.now in
    let d : ℕ = c.loop-d.d in
    let smaller : List ℕ = smaller_sizes old new in
    let low : d < length old = omega (arith, c.loop-d-test.true, c.requires.room) in
    let under : d < length smaller = omega (arith, low, length-smaller old new c.requires.rank) in
    let here : c.min.result ≡ get_or smaller d 0 = c.min.ensures ∙ sym (get_or-smaller old new d c.requires.rank low) in
    take_more_set c.loop-d.to d c.min.result (omega (arith, c.loop-d-test.true, c.loop-d.auto.to))
    ∙ ap₂ (λ (xs : List ℕ) (n : ℕ). xs ++ n ∷ []) c.loop-d.invariant here ∙ sym (take_more smaller d 0 under)

pub returns : goal.returns
returns c =
    let smaller : List ℕ = smaller_sizes c.args.old.now c.args.new.now in
    let d : ℕ = c.loop-d.d in
    sym (take_all d c.loop-d.to (omega (arith, c.loop-d-test.false, c.loop-d.auto.to))) ∙ c.loop-d.invariant
    ∙ take_all d smaller (omega (arith, c.loop-d-test.false, length-smaller c.args.old.now c.args.new.now c.requires.rank, c.requires.room))
