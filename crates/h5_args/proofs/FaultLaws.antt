-- Faults as they are told.
use Rattle.std.proofs.Common.{◌≡◌, ◌⊎◌, inl, inr, subst, sym}
use Rattle.clap.specs.Words.{IsAmong, Kinds}
use Rattle.clap.specs.declared.error.kind.ErrorKind.{ErrorKind}
use Rattle.clap.specs.declared.error.kind.ErrorKind.TheVariants.{OutOfMemory}
use Rattle.h5_args.specs.Faults.{IsFaultOf, IsOfKind}
use Rattle.h5_args.specs.declared.orders.OrderFault.{OrderFault}
use Rattle.h5_args.specs.declared.orders.OrderFault.TheVariants.{Help, Wrong, NoMemory}

-- what is told of a kind is a fault of those that it is among
pub fault_told : (kinds : Kinds) (kind : ErrorKind) (fault : OrderFault) → (kind ≡ OutOfMemory) ⊎ IsAmong kind kinds → (kind ≡ OutOfMemory → fault ≡ NoMemory)
    → IsOfKind kind fault → IsFaultOf kinds fault
fault_told kinds kind NoMemory has memory is = tt
fault_told kinds kind (Help text) (inl none) memory is = subst (IsFaultOf kinds) (sym (memory none)) tt
fault_told kinds kind (Help text) (inr among) memory is = (kind, among, is)
fault_told kinds kind (Wrong text) (inl none) memory is = subst (IsFaultOf kinds) (sym (memory none)) tt
fault_told kinds kind (Wrong text) (inr among) memory is = (kind, among, is)
