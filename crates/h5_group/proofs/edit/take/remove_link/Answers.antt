use Rattle.std.proofs.Common.{ℕ, List, subst, sym}
use Rattle.std.specs.List.{Contains}
use Rattle.h5_model.specs.Format.Symbols.{Target}
use Rattle.h5_space.specs.Space.{Space}
use Rattle.h5_group.specs.Edited.{IsLinkPut}
use Rattle.h5_group.specs.Exact.{HasExactKeys}
use Rattle.h5_group.specs.Removal.{HasNameFreed}
use Rattle.h5_group.specs.Told.{blocks_told, links_told}
use Rattle.h5_group.proofs.EditTold.{IsToldMoved, group_then, moved_told}
use Rattle.h5_group.proofs.edit.take.remove_link.Goals as goal
use Rattle.h5_group.proofs.edit.take.remove_link.Goals.{After-take_link}

pub take_link-requires-clause-group : goal.take_link-requires-clause-group
take_link-requires-clause-group c = (
  links_told c.args.image.now.bytes c.args.table,
  blocks_told c.args.image.now.bytes c.args.table,
  group_then c.args.image.now c.reserve.new.self c.reserve.new.self _ _ c.in_ok-reserve.ensures.ok c.args.table c.requires.group c.requires.short,
)

-- the link has gone
moved : (c : After-take_link) → (to : Target) → Contains (links_told c.args.image.now.bytes c.args.table) (c.args.name.now, to)
    → (links : List (List ℕ × Target)) × IsLinkPut (c.args.name.now, to) links (links_told c.args.image.now.bytes c.args.table)
    × IsToldMoved c.args.image.now c.take_link.new.image c.args.table links
moved c to has =
    let s = c.args.image.now in
    let t = c.reserve.new.self in
    let u = c.take_link.new.image in
    let r = c.take_link.ensures.taken (links_told s.bytes c.args.table) (blocks_told s.bytes c.args.table)
    (group_then s t u _ _ c.in_ok-reserve.ensures.ok c.args.table c.requires.group c.requires.short) to has in
    (r.0, r.1, moved_told s t u _ _ c.in_ok-reserve.ensures.ok c.args.table r.0 r.2)

pub returns-clause-taken : goal.returns-clause-taken
returns-clause-taken c = λ to has.
    let m = moved (goal.at.returns-clause-taken c).After-take_link to has in
    subst (λ (links : List (List ℕ × Target)). IsLinkPut (c.args.name.now, to) links (links_told c.args.image.now.bytes c.args.table)) m.2.links_are m.1

pub returns-clause-group : goal.returns-clause-group
returns-clause-group c = (moved (goal.at.returns-clause-group c).After-take_link c.requires.there.0 c.requires.there.1).2.group

pub returns-clause-moves : goal.returns-clause-moves
returns-clause-moves c = (moved (goal.at.returns-clause-moves c).After-take_link c.requires.there.0 c.requires.there.1).2.moves

pub returns-clause-k : goal.returns-clause-k
returns-clause-k c = (moved (goal.at.returns-clause-k c).After-take_link c.requires.there.0 c.requires.there.1).2.k

pub returns-clause-freed : goal.returns-clause-freed
returns-clause-freed c =
    let s = c.args.image.now in
    let there = c.requires.there in
    let group = group_then s c.reserve.new.self c.take_link.new.image _ _ c.in_ok-reserve.ensures.ok c.args.table c.requires.group c.requires.short in
    subst (λ (x : Space). HasNameFreed x.bytes c.take_link.new.image.bytes c.args.table c.args.name.now) c.in_ok-reserve.ensures.ok
    (c.take_link.ensures.freed (links_told s.bytes c.args.table) (blocks_told s.bytes c.args.table) group there.0 there.1)

pub take_link-requires-clause-exact : goal.take_link-requires-clause-exact
take_link-requires-clause-exact c = λ is. subst (λ (x : Space). HasExactKeys x.bytes c.args.table) (sym c.in_ok-reserve.ensures.ok) (c.requires.exact is)

pub returns-clause-exact : goal.returns-clause-exact
returns-clause-exact c = λ has. c.take_link.ensures.exact (subst (λ (x : Space). HasExactKeys x.bytes c.args.table) (sym c.in_ok-reserve.ensures.ok) has)
