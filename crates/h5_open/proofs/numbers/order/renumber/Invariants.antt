use Rattle.h5_open.proofs.RenumberedLaws.Arranged.{IsArranged}
use Rattle.h5_open.proofs.numbers.order.renumber.Given as goal

abbrev pub invariant-loop-number : goal.invariant-loop-number
invariant-loop-number l = IsArranged l.headers l.initial.index.objects.items l.index.objects.items l.index.numbers l.number
