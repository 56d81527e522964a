use Rattle.std.proofs.Common.{◌↔◌, ℕ, List, IsTrue, sym}
use Rattle.h5_model.specs.Format.Addresses.{SymbolTable}
use Rattle.h5_group.specs.LinkEdits.{IsFullFor}
use Rattle.h5_open.proofs.GroupOf.{group_found, group_here, group_lent, told_of}
use Rattle.h5_open.proofs.opened.Opened.is_too_deep.Goals as goal
use Rattle.h5_open.proofs.OpenedLaws.Sounds.{image_short}

pub group_table-table-requires : goal.group_table-table-requires
group_table-table-requires c =
    let there = group_found c.self.inside.image c.self.inside.index.objects.items c.self.inside.index.numbers c.self.invariant c.args.self.now c.self.view_is c.args.parent c.requires.group in
    record { there = (there.0, group_lent c.self.inside.index.objects.items c.deref.result.now c.args.parent there.0 (sym c.deref.ensures.value) there.1) }

pub is_too_deep-requires-clause-group : goal.is_too_deep-requires-clause-group
is_too_deep-requires-clause-group c =
    group_here c.self.inside.image c.self.inside.index.objects.items c.self.inside.index.numbers c.self.invariant c.args.self.now c.self.view_is c.args.parent c.group_table-table.result
    (group_lent c.deref.result.now c.self.inside.index.objects.items c.args.parent c.group_table-table.result c.deref.ensures.value c.group_table-table.ensures.table)

pub is_too_deep-requires-clause-short : goal.is_too_deep-requires-clause-short
is_too_deep-requires-clause-short c =
    image_short c.self.inside.image c.self.inside.index.objects.items c.self.inside.index.numbers c.self.invariant

pub returns : goal.returns
returns c = record {
  deep = told_of c.self.inside.image c.self.inside.index.objects.items c.self.inside.index.numbers c.self.invariant c.args.self.now c.self.view_is c.args.parent c.group_table-table.result
      (group_lent c.deref.result.now c.self.inside.index.objects.items c.args.parent c.group_table-table.result c.deref.ensures.value c.group_table-table.ensures.table)
      (λ (image : List ℕ) (u : SymbolTable). IsTrue c.is_too_deep.result ↔ IsFullFor image u c.args.name.now) c.is_too_deep.ensures;
}
