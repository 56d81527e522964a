use Rattle.h5_chunks.proofs.ReachLaws.{AreAlike, EndInside}
use Rattle.h5_chunks.proofs.beyond.may_reach.Given as goal

abbrev pub invariant-loop-d : goal.invariant-loop-d
invariant-loop-d l = record {
  alike : AreAlike l.sizes l.chunk l.low l.high l.d;
  inside : EndInside l.sizes l.chunk l.low l.high l.d;
}
