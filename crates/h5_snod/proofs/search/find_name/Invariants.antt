use Rattle.std.proofs.Common.{◌-◌}
use Rattle.h5_snod.proofs.NameLaws.{IsNarrowed}
use Rattle.h5_snod.proofs.search.find_name.Given as goal

abbrev pub invariant-loop-from : goal.invariant-loop-from
invariant-loop-from l = IsNarrowed l.segment l.bytes l.name l.count l.from l.to

abbrev pub decreases-loop-from : goal.decreases-loop-from
decreases-loop-from l = l.to - l.from
