use Rattle.std.proofs.Common.{refl}
use Rattle.h5_c.proofs.ListedNames.{links_listed, links_refused, links_short}
use Rattle.h5_c.proofs.held.Held.list.Goals as goal

pub returns-in-Ok-ended_links : goal.returns-in-Ok-ended_links
returns-in-Ok-ended_links c =
    links_listed c.args.self.now _ c.args.path.now refl c.file.result.now c.file.ensures.file _ _ c.in-Ok.ensures refl c.in-Ok-ended_links.ensures

pub returns-in-Err-ended_links : goal.returns-in-Err-ended_links
returns-in-Err-ended_links c = links_short c.args.self.now _ c.args.path.now refl c.file.result.now c.file.ensures.file _ c.in-Ok.ensures refl

pub returns-in-Err : goal.returns-in-Err
returns-in-Err c = links_refused c.args.self.now _ c.args.path.now refl c.file.result.now c.file.ensures.file c.in-Err.fault c.number.result c.in-Err.ensures c.number.ensures refl
