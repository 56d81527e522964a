use Rattle.std.proofs.Common.{◌≡◌, ℕ, ◌-◌, ◌%◌, ◌<◌, get_or, refl, sym, ap, ◌∙◌, arith, drop}
use Rattle.std.proofs.lemmas.List.{length-set}
use Rattle.h5_model.specs.Tree.Places.{cells}
use Rattle.h5_layout.proofs.LocateLaws.{all_from, index_from, some_size, written_index, written_rest}
use Rattle.h5_layout.proofs.locate.write_index.Goals as goal

pub nonzero_rem-index : goal.nonzero_rem-index
nonzero_rem-index c =
    let some : 0 < cells c.args.sizes.now = omega (arith, c.requires.below) in
    some_size (c.loop-k.k - 1) c.args.sizes.now (omega arith) some

pub nonzero_div-rest : goal.nonzero_div-rest
nonzero_div-rest c =
    let some : 0 < cells c.args.sizes.now = omega (arith, c.requires.below) in
    some_size (c.loop-k.k - 1) c.args.sizes.now (omega arith) some

pub loop-k-preserved : goal.loop-k-preserved
loop-k-preserved c =
    let i = c.loop-k.invariant in
    let sizes = c.args.sizes.now in
    let k : ℕ = c.loop-k.k - 1 in
    let some : 0 < cells sizes = omega (arith, c.requires.below) in
    record {
      within = omega (arith, i.within);
      room = length-set c.loop-k.index k (c.loop-k.rest % get_or sizes k 0) ∙ i.room;
      rest = written_rest sizes c.args.place some c.loop-k.k c.loop-k-test.true i.within c.loop-k.rest c.loop-k.index i.room i.rest i.index;
      index = written_index sizes c.args.place some c.loop-k.k c.loop-k-test.true i.within c.loop-k.rest c.loop-k.index i.room i.rest i.index;
    }

pub returns : goal.returns
returns c =
    let sizes = c.args.sizes.now in
    let some : 0 < cells sizes = omega (arith, c.requires.below) in
    let none : c.loop-k.k ≡ 0 = omega arith in
    ap (λ (n : ℕ). drop n c.loop-k.index) (sym none) ∙ c.loop-k.invariant.index ∙ ap (index_from sizes sizes c.args.place) none
    ∙ all_from sizes sizes c.args.place refl some some c.requires.below
