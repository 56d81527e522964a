use Rattle.std.proofs.Common.{length, map, ap, ◌∙◌}
use Rattle.h5_chunks.specs.Held.{place_entry}
use Rattle.h5_layout.proofs.NoChunks.{none_held}
use Rattle.h5_layout.proofs.held.places_below.Goals as goal

pub held_places-requires-clause-chunks : goal.held_places-requires-clause-chunks
held_places-requires-clause-chunks c = c.requires.chunks c.in-Some.root c.in-Some.is

pub returns-in-None-clause-held : goal.returns-in-None-clause-held
returns-in-None-clause-held c =
    ap (map (place_entry (length c.args.shape.now.sizes))) c.new.ensures.items
    ∙ none_held c.args.image.now.bytes c.args.shape.now c.args.root c.args.sizes.now c.in-None.is
