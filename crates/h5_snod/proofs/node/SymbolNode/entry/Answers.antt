use Rattle.std.proofs.Common.{Option, Some, option_map, ap, sym, ◌∙◌, arith}
use Rattle.h5_model.specs.Format.Symbols.{Entry, entry_of}
use Rattle.h5_snod.specs.Entries.{symbol_from}
use Rattle.h5_snod.proofs.EntryLaws.{count_is, entry_is}
use Rattle.h5_snod.proofs.node.SymbolNode.entry.Goals as goal

pub entry_bytes-requires : goal.entry_bytes-requires
entry_bytes-requires c = omega (arith, count_is c.self.inside.bytes.now c.args.self.now c.self.view_is, c.self.invariant.1, c.requires)

pub returns : goal.returns
returns c =
    ap (λ (o : Option Entry). option_map symbol_from o) (entry_is c.self.inside.bytes.now c.args.self.now c.self.view_is c.args.k c.requires)
    ∙ ap (λ (bytes : _). Some (symbol_from (entry_of bytes))) (sym c.entry_bytes.ensures.bytes)
    ∙ ap (λ (e : _). Some e) (sym c.read_entry.ensures)
