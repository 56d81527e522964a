-- What an order says, by texts.
use Rattle.h5_args.specs.declared.orders.Order.{Order}
use Rattle.h5_args.specs.declared.orders.Order.TheVariants.{New, Ls, Dump, Run}
use Rattle.h5_args.specs.Words.{Wanted, WantNew, WantLs, WantDump, WantRun}

abbrev pub wanted_by_order : Order → Wanted
wanted_by_order (New file) = WantNew file.now
wanted_by_order (Ls file) = WantLs file.now
wanted_by_order (Dump file path) = WantDump file.now path.now
wanted_by_order (Run file) = WantRun file.now
