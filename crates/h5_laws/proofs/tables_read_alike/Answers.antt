use Rattle.h5_laws.proofs.TwoTables.{reads_alike}
use Rattle.h5_laws.proofs.tables_read_alike.Goals as goal

pub returns : goal.returns
returns c = reads_alike
