use Rattle.std.proofs.Common.{◌≡◌, ◌++◌, ℕ, List}
use Rattle.h5_model.specs.Format.Symbols.{Target}
use Rattle.h5_open.specs.LostLinks.{AreMoreLost}
use Rattle.h5_open.specs.Opened.Objects.{table_of}
use Rattle.h5_open.proofs.LostObject.{found_links_to}
use Rattle.h5_open.proofs.opened.losses.lose_links.Given as goal

-- the first links are counted
abbrev pub invariant-loop-link : goal.invariant-loop-link
invariant-loop-link l = record {
  first : List (List ℕ × Target);
  all : l.initial.link-iterator ≡ first ++ l.link-iterator;
  lost : AreMoreLost l.fn.lost l.lost (found_links_to (table_of l.index.objects.items) first);
}
