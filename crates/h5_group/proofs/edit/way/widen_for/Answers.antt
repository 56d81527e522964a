use Rattle.std.proofs.Common.{◌≡◌, ◌≢◌, ℕ, List, [], length, refl, sym, ap, ◌∙◌, arith, append-nil}
use Rattle.std.specs.List.{AllByRecursion, Contains}
use Rattle.h5_bytes.specs.Bytes.{number_at}
use Rattle.h5_bytes.specs.Numbers.{word, zeros}
use Rattle.h5_bytes.specs.declared.Block.{Block}
use Rattle.h5_model.specs.Format.Links.{offset_in}
use Rattle.h5_model.specs.Format.Symbols.{Target}
use Rattle.h5_model.specs.Format.Nodes.{node_at}
use Rattle.h5_model.proofs.NumberLaws.{reads_back}
use Rattle.h5_btree.specs.Insertion.{Owns}
use Rattle.h5_btree.specs.Removal.{EndsInTree}
use Rattle.h5_btree.specs.Widened.{IsWidened, ends_along}
use Rattle.h5_btree.specs.declared.way.Step.{Step}
use Rattle.h5_btree.proofs.WideningLaws.{length-ends_along}
use Rattle.h5_group.specs.Edited.{IsGroupIn}
use Rattle.h5_group.specs.Nodes.Trees.{kind_in}
use Rattle.h5_group.specs.Ways.{behind_of}
use Rattle.h5_group.proofs.WidenedExact.{widened_for}
use Rattle.h5_group.proofs.WidenedGroup.{HasLetIn, let_in}
use Rattle.h5_group.proofs.edit.way.widen_for.Goals as goal
use Rattle.h5_group.proofs.edit.way.widen_for.Goals.{After-widen}

pub widen-requires-clause-ends : goal.widen-requires-clause-ends
widen-requires-clause-ends c =
    let ends = ap length c.ends_for-ends.ensures in
    let long = length-ends_along (node_at c.args.image.now.bytes (kind_in c.args.image.now.bytes)) (behind_of c.args.image.now c.args.table c.args.name.now) 0 c.args.way.now in
    omega (arith, ends, long)

module _ (c : After-widen) where
  wide : IsWidened c.args.image.now c.widen.new.image (kind_in c.args.image.now.bytes) c.args.way.now
      (ends_along (node_at c.args.image.now.bytes (kind_in c.args.image.now.bytes)) (behind_of c.args.image.now c.args.table c.args.name.now) 0 c.args.way.now)
      (zeros 8) c.to_le_bytes.result
  wide = rw (c.group_kind-kind.ensures, c.ends_for-ends.ensures) at c.widen.ensures.widened

  tree : (root height k : ℕ) (owned list : List ℕ) → EndsInTree c.args.image.now (kind_in c.args.image.now.bytes) root height c.args.way.now owned list k
      → EndsInTree c.widen.new.image (kind_in c.args.image.now.bytes) root height c.args.way.now owned list k
  tree = rw c.group_kind-kind.ensures at c.widen.ensures.tree

  others : (root height k : ℕ) (owned list : List ℕ) → EndsInTree c.args.image.now (kind_in c.args.image.now.bytes) root height c.args.way.now owned list k
      → (n : ℕ) → Owns owned n → AllByRecursion (λ (step : Step). n ≢ step.node) c.args.way.now
      → node_at c.widen.new.image.bytes (kind_in c.args.image.now.bytes) n ≡ node_at c.args.image.now.bytes (kind_in c.args.image.now.bytes) n
  others = rw c.group_kind-kind.ensures at c.widen.ensures.others

  low_is : offset_in (zeros 8) ≡ 0
  unfolding number_at
  low_is = refl

  high_is : offset_in c.to_le_bytes.result ≡ c.args.offset
  high_is =
      let bytes : c.to_le_bytes.result ≡ word c.args.offset = c.to_le_bytes.ensures in
      ap offset_in bytes ∙ ap (λ (b : List ℕ). number_at b 0 8) (sym (append-nil (word c.args.offset)))
      ∙ reads_back 8 c.args.offset [] (let low = c.ranges.offset.fits in omega (arith, low))

  module _ (links : List (List ℕ × Target)) (spare : List ℕ) (blocks : List Block) (group : IsGroupIn c.args.image.now c.args.table links spare blocks)
      (spared : Contains spare c.args.offset) where
    pub lets_in : HasLetIn c.args.image.now c.widen.new.image c.args.table c.args.name.now c.args.way.now links spare blocks
    lets_in = let_in c.args.image.now c.widen.new.image c.args.table c.args.name.now c.args.way.now c.requires.way (zeros 8) c.to_le_bytes.result c.requires.name
        wide tree others links spare blocks group c.args.offset spared low_is high_is c.requires.text

  some : (links : List (List ℕ × Target)) × (spare : List ℕ) × (blocks : List Block)
      × HasLetIn c.args.image.now c.widen.new.image c.args.table c.args.name.now c.args.way.now links spare blocks
  some = let g = c.requires.group in (g.0, g.1, g.2, lets_in g.0 g.1 g.2 g.3 g.4)

pub returns-clause-way : goal.returns-clause-way
returns-clause-way c = ((some c).3).between

pub returns-clause-group : goal.returns-clause-group
returns-clause-group c links spare blocks group spared = (lets_in c links spare blocks group spared).stayed

pub returns-clause-below : goal.returns-clause-below
returns-clause-below c = ((some c).3).below

pub returns-clause-segment : goal.returns-clause-segment
returns-clause-segment c = ((some c).3).segment

pub returns-clause-full : goal.returns-clause-full
returns-clause-full c = ((some c).3).full

pub returns-clause-exact : goal.returns-clause-exact
returns-clause-exact c =
    let w = (goal.at.returns-clause-exact c).After-widen in
    let g = c.requires.group in
    widened_for c.args.image.now c.widen.new.image c.args.table c.args.name.now c.args.way.now c.requires.way (zeros 8) c.to_le_bytes.result c.requires.name
    (wide w) (tree w) (others w) g.0 g.1 g.2 g.3 c.args.offset g.4 (low_is w) (high_is w) c.requires.text refl c.to_le_bytes.ensures
