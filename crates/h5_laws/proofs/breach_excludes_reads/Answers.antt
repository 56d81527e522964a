use Rattle.h5_laws.proofs.Excluded.{breach_excludes_reads}
use Rattle.h5_laws.proofs.breach_excludes_reads.Goals as goal

pub returns : goal.returns
returns c = breach_excludes_reads
