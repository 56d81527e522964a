use Rattle.std.proofs.Common.{ℕ, List, [], ◌++◌, ap, ◌∙◌, arith}
use Rattle.h5_bytes.specs.declared.Block.{Block}
use Rattle.h5_model.specs.Format.Rows.{Node}
use Rattle.h5_model.specs.Format.Symbols.{Target}
use Rattle.h5_model.proofs.KLaws.{same_leaf}
use Rattle.h5_space.specs.Space.{Space}
use Rattle.h5_space.proofs.MovesLaws.{spends_then, spends_within}
use Rattle.h5_heap.specs.Writing.Links.{leads_of, name_and_leads, target_link, target_of_leads}
use Rattle.h5_heap.specs.Writing.Written.{texts_span as span}
use Rattle.h5_snod.specs.Written.{entry_from}
use Rattle.h5_group.specs.Edited.{HasEntryPut, HasGroupMoved, IsEntryFor, IsGroupIn, IsLinkPut, IsNewName, offsets_of}
use Rattle.h5_group.proofs.ExactTrees.{texts_exact_kept}
use Rattle.h5_group.proofs.PutLinks.{entry_for, few_steps, link_put, low_still, room_left, spent_then, still_small}
use Rattle.h5_group.proofs.PutWays.{root_stays, way_stays}
use Rattle.h5_group.proofs.edit.put.put_in_room.Goals as goal
use Rattle.h5_group.proofs.edit.put.put_in_room.Goals.{After-add_texts-symbol}

-- the entry may come in, once its texts stand there
entry_there : (c : After-add_texts-symbol) → IsEntryFor c.add_texts-symbol.new.image c.args.table (entry_from c.add_texts-symbol.result)
entry_there c =
    let (links, blocks, g, new) = c.requires.group in
    let m = c.add_texts-symbol.ensures.added links [] blocks g in
    entry_for c.args.image.now c.add_texts-symbol.new.image c.args.table links blocks (entry_from c.add_texts-symbol.result) c.args.link.now.name.now
    (target_of_leads (leads_of c.args.link.now.to)) m c.add_texts-symbol.ensures.link new c.requires.named c.add_texts-symbol.ensures.known

-- and its link has come in with it
link_there : (c : After-add_texts-symbol) (u : Space) → HasEntryPut c.add_texts-symbol.new.image u c.args.table (entry_from c.add_texts-symbol.result)
    → (links : List (List ℕ × Target)) (blocks : List Block) → IsGroupIn c.args.image.now c.args.table links [] blocks → IsNewName c.args.link.now.name.now links
    → (links' : List (List ℕ × Target)) × IsLinkPut (target_link (name_and_leads c.args.link.now)) links links' × HasGroupMoved c.args.image.now u c.args.table blocks links' []
link_there c u put links blocks g new =
    let m = c.add_texts-symbol.ensures.added links [] blocks g in
    link_put c.args.image.now c.add_texts-symbol.new.image c.args.table links blocks (entry_from c.add_texts-symbol.result) c.args.link.now.name.now
    (target_of_leads (leads_of c.args.link.now.to)) m c.add_texts-symbol.ensures.link new u put

pub put_below-requires-clause-entry : goal.put_below-requires-clause-entry
put_below-requires-clause-entry c = entry_there (goal.at.put_below-requires-clause-entry c).After-add_texts-symbol

pub put_below-requires-clause-way : goal.put_below-requires-clause-way
put_below-requires-clause-way c =
    let (links, blocks, g, new) = c.requires.group in
    let m = c.add_texts-symbol.ensures.added links [] blocks g in
    way_stays c.args.image.now c.args.table links [] blocks g c.args.link.now.name.now c.add_texts-symbol.new.image links
    (offsets_of (entry_from c.add_texts-symbol.result) ++ []) m.blocks m.group m.k (c.add_texts-symbol.ensures.nodes links [] blocks g) c.in-Some.way c.in-Some.ensures.sought

pub put_below-requires-clause-low : goal.put_below-requires-clause-low
put_below-requires-clause-low c =
    let (links, blocks, g, new) = c.requires.group in
    let m = c.add_texts-symbol.ensures.added links [] blocks g in
    low_still c.args.image.now c.add_texts-symbol.new.image c.args.table links [] blocks g c.args.link.now.name.now links
    (offsets_of (entry_from c.add_texts-symbol.result) ++ []) m.blocks m.group m.k (c.add_texts-symbol.ensures.nodes links [] blocks g)
    c.add_texts-symbol.ensures.entries c.in-Some.way c.in-Some.ensures.sought c.requires.deep

pub put_below-requires-clause-bytes : goal.put_below-requires-clause-bytes
put_below-requires-clause-bytes c =
    let (links, blocks, g, new) = c.requires.group in
    let m = c.add_texts-symbol.ensures.added links [] blocks g in
    room_left c.args.image.now c.add_texts-symbol.new.image c.args.table (span (name_and_leads c.args.link.now)) c.add_texts-symbol.ensures.spends m.k _
    (few_steps c.args.image.now c.args.table c.args.link.now.name.now c.in-Some.way c.in-Some.ensures.sought) c.requires.bytes

pub put_below-requires-clause-blocks : goal.put_below-requires-clause-blocks
put_below-requires-clause-blocks c =
    let few = few_steps c.args.image.now c.args.table c.args.link.now.name.now c.in-Some.way c.in-Some.ensures.sought in
    let left = c.add_texts-symbol.ensures.spends.blocks_left in
    omega (arith, few, left, c.requires.blocks)

pub put_below-requires-clause-small : goal.put_below-requires-clause-small
put_below-requires-clause-small c =
    let (links, blocks, g, new) = c.requires.group in
    let m = c.add_texts-symbol.ensures.added links [] blocks g in
    still_small c.args.image.now c.add_texts-symbol.new.image c.args.table (span (name_and_leads c.args.link.now)) c.add_texts-symbol.ensures.spends m.k _
    (few_steps c.args.image.now c.args.table c.args.link.now.name.now c.in-Some.way c.in-Some.ensures.sought) c.requires.small

pub put_first_entry-requires-clause-entry : goal.put_first_entry-requires-clause-entry
put_first_entry-requires-clause-entry c = entry_there (goal.at.put_first_entry-requires-clause-entry c).After-add_texts-symbol

pub put_first_entry-requires-clause-empty : goal.put_first_entry-requires-clause-empty
put_first_entry-requires-clause-empty c =
    let (links, blocks, g, new) = c.requires.group in
    let m = c.add_texts-symbol.ensures.added links [] blocks g in
    ap (λ (n : Node). n.children) (root_stays c.args.image.now c.args.table links [] blocks g c.args.link.now.name.now c.add_texts-symbol.new.image links
    (offsets_of (entry_from c.add_texts-symbol.result) ++ []) m.blocks m.group m.k (c.add_texts-symbol.ensures.nodes links [] blocks g))
    ∙ c.in-None.ensures.none

pub put_first_entry-requires-clause-bytes : goal.put_first_entry-requires-clause-bytes
put_first_entry-requires-clause-bytes c =
    let (links, blocks, g, new) = c.requires.group in
    let m = c.add_texts-symbol.ensures.added links [] blocks g in
    let left = c.add_texts-symbol.ensures.spends.bytes_left in
    omega (arith, left, same_leaf c.add_texts-symbol.new.image.bytes c.args.image.now.bytes m.k, c.requires.bytes)

pub put_first_entry-requires-clause-short : goal.put_first_entry-requires-clause-short
put_first_entry-requires-clause-short c =
    let (links, blocks, g, new) = c.requires.group in
    let m = c.add_texts-symbol.ensures.added links [] blocks g in
    let grown = c.add_texts-symbol.ensures.spends.grown in
    omega (arith, grown, same_leaf c.add_texts-symbol.new.image.bytes c.args.image.now.bytes m.k, c.requires.small)

pub returns-in-Some-clause-put : goal.returns-in-Some-clause-put
returns-in-Some-clause-put c = link_there (goal.at.returns-in-Some-clause-put c).After-add_texts-symbol c.put_below.new.image c.put_below.ensures.put

pub returns-in-Some-clause-spends : goal.returns-in-Some-clause-spends
returns-in-Some-clause-spends c =
    let (links, blocks, g, new) = c.requires.group in
    let m = c.add_texts-symbol.ensures.added links [] blocks g in
    spent_then c.args.image.now c.add_texts-symbol.new.image c.args.table (span (name_and_leads c.args.link.now)) c.add_texts-symbol.ensures.spends m.k _
    (few_steps c.args.image.now c.args.table c.args.link.now.name.now c.in-Some.way c.in-Some.ensures.sought) c.put_below.new.image c.put_below.ensures.spends

pub returns-in-None-clause-put : goal.returns-in-None-clause-put
returns-in-None-clause-put c = link_there (goal.at.returns-in-None-clause-put c).After-add_texts-symbol c.put_first_entry.new.image c.put_first_entry.ensures.put

pub returns-in-None-clause-spends : goal.returns-in-None-clause-spends
returns-in-None-clause-spends c =
    let (links, blocks, g, new) = c.requires.group in
    let m = c.add_texts-symbol.ensures.added links [] blocks g in
    spends_within c.args.image.now c.put_first_entry.new.image _ _ _ _ (omega (arith, same_leaf c.add_texts-symbol.new.image.bytes c.args.image.now.bytes m.k)) (omega arith)
    (spends_then c.args.image.now c.add_texts-symbol.new.image c.put_first_entry.new.image _ _ _ _ c.add_texts-symbol.ensures.spends c.put_first_entry.ensures.spends)

pub returns-in-Some-clause-exact : goal.returns-in-Some-clause-exact
returns-in-Some-clause-exact c = λ has.
    let (links, blocks, g, new) = c.requires.group in
    let m = c.add_texts-symbol.ensures.added links [] blocks g in
    c.put_below.ensures.exact (texts_exact_kept c.args.image.now c.add_texts-symbol.new.image c.args.table links [] blocks g m.k (c.add_texts-symbol.ensures.nodes links [] blocks g)
    c.add_texts-symbol.ensures.entries has)
