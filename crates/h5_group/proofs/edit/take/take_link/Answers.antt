use Rattle.std.proofs.Common.{ℕ, List, [], subst}
use Rattle.std.specs.List.{Contains}
use Rattle.h5_model.specs.Format.Superblock.{leaf_k}
use Rattle.h5_model.specs.Format.Heap.{segment_of}
use Rattle.h5_model.specs.Format.Symbols.{Target, symbols_at}
use Rattle.h5_group.specs.Edited.{IsLinkPut}
use Rattle.h5_group.proofs.TakeSteps.{entry_told, link_is, named_so, named_there}
use Rattle.h5_group.proofs.ToldLaws.{links_are_told}
use Rattle.h5_group.proofs.edit.take.take_link.Goals as goal

pub returns-in-Some-clause-taken : goal.returns-in-Some-clause-taken
returns-in-Some-clause-taken c = λ links before g to has.
    let image = c.args.image.now in
    let place = c.in-Some.place in
    let p = c.in-Some.ensures.found in
    let e = named_there (segment_of image.bytes c.args.table.heap) (symbols_at image.bytes (leaf_k image.bytes) place.node) place.index c.args.name.now p.named in
    let m = c.take_link_at.ensures.taken e.0 e.1 links before g in (
      m.0,
      subst (λ (link : List ℕ × Target). IsLinkPut link m.0 links)
          (link_is image c.args.table links [] before g place.node place.index e.0 c.args.name.now p.told e.1 p.named to has) m.1,
      m.2,
    )

pub returns-in_default-clause-taken : goal.returns-in_default-clause-taken
returns-in_default-clause-taken c = λ links before g to has.
    absurd (c.in_default.ensures.absent to
    (subst (λ (ls : List (List ℕ × Target)). Contains ls (c.args.name.now, to)) (links_are_told c.args.image.now.bytes c.args.table links before g.linked) has))

pub returns-in-Some-clause-freed : goal.returns-in-Some-clause-freed
returns-in-Some-clause-freed c = λ links before g to has.
    let image = c.args.image.now in
    let place = c.in-Some.place in
    let p = c.in-Some.ensures.found in
    let e = named_there (segment_of image.bytes c.args.table.heap) (symbols_at image.bytes (leaf_k image.bytes) place.node) place.index c.args.name.now p.named in (
      e.0,
      entry_told image c.args.table links [] before g place.node place.index e.0 c.args.name.now p.told e.1 p.named,
      named_so image c.args.table links [] before g place.node place.index e.0 c.args.name.now p.told e.1 p.named,
      c.take_link_at.ensures.freed e.0 e.1,
    )

pub returns-in_default-clause-freed : goal.returns-in_default-clause-freed
returns-in_default-clause-freed c = λ links before g to has.
    absurd (c.in_default.ensures.absent to
    (subst (λ (ls : List (List ℕ × Target)). Contains ls (c.args.name.now, to)) (links_are_told c.args.image.now.bytes c.args.table links before g.linked) has))
