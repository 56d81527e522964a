use Rattle.std.proofs.Common.{◌≡◌, ℕ, ◌+◌, ◌-◌, ◌*◌, ◌≤◌, List, ◌∷◌, ◌++◌, length}
use Rattle.h5_model.specs.Format.Limits.{most_names}
use Rattle.h5_model.specs.Format.Reached.{Named}
use Rattle.h5_model.specs.Format.Symbols.{Target, Header}
use Rattle.h5_open.specs.Counted.Counts.{AreCounted}
use Rattle.h5_open.specs.Opened.Objects.{objects_of}
use Rattle.h5_open.specs.Walk.{IsNumbered, IsReady, IsPartly}
use Rattle.h5_open.proofs.steps.+tree.Given as goal

abbrev pub decreases-follow : goal.decreases-follow
decreases-follow l = 2 * (most_names + 1 - l.depth)

abbrev pub decreases-read_tree : goal.decreases-read_tree
decreases-read_tree l = 2 * (most_names + 1 - l.depth) + 1

abbrev pub invariant-read_tree-loop-link : goal.invariant-read_tree-loop-link
invariant-read_tree-loop-link l = record {
  end : l.claims.end ≡ length l.image.bytes;
  index : IsNumbered l.tally.index.objects.items l.tally.index.numbers;
  long : length l.tally.counts.items ≡ length l.tally.index.objects.items;
  deep : 1 ≤ length l.link-iterator → l.depth + 1 ≤ most_names;
  read : (followed : List Named) (field : ℕ) → IsReady l.image.bytes l.fn.claims.held followed (objects_of l.fn.tally.index.objects.items) field l.header l.depth
      → IsPartly l.image.bytes l.fn.claims.held l.claims.held followed (objects_of l.fn.tally.index.objects.items) (objects_of l.tally.index.objects.items) field l.header l.depth l.link-iterator;
  counted : (name : List ℕ) (waiting : List (List ℕ × Target))
      → AreCounted l.image.bytes (objects_of l.fn.tally.index.objects.items) l.fn.tally.counts.items ((name, Header l.header) ∷ waiting)
      → AreCounted l.image.bytes (objects_of l.tally.index.objects.items) l.tally.counts.items (l.link-iterator ++ waiting);
}
