use Rattle.h5_model.proofs.OneReading.{one_reading}
use Rattle.h5_laws.proofs.table_reads_once.Goals as goal

pub returns : goal.returns
returns c = one_reading
