use Rattle.h5_space.proofs.RunLaws.{are_none}
use Rattle.h5_space.proofs.addresses.AddressMap.new.Goals as goal

pub invariant_of-result : goal.invariant_of-result
invariant_of-result g c = are_none _ c.new.ensures.items
