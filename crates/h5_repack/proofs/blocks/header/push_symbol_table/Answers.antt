use Rattle.std.proofs.Common.{◌++◌, refl, ap, ◌∙◌}
use Rattle.h5_model.specs.Format.MessageTypes.{symbol_table_kind}
use Rattle.h5_model.specs.Format.Addresses.{SymbolTable}
use Rattle.h5_model.specs.Format.Bodies.{pair_bytes}
use Rattle.h5_model.specs.Format.Plain.{message_bytes}
use Rattle.h5_repack.proofs.BlockLaws.Rooms.{body_written}
use Rattle.h5_repack.proofs.blocks.header.push_symbol_table.Goals as goal

pub returns : goal.returns
returns c =
    body_written symbol_table_kind 16 _ c.in_ok-at.at c.args.out.now.items c.push_message_room.new.out.items c.deref_mut.result.now
    c.in_ok-at.ensures.room c.in_ok-at.ensures.place c.deref_mut.ensures.value c.deref_mut.ensures.len
    c.write_symbol_table.new.bytes (pair_bytes c.new.result.tree c.new.result.heap) refl c.write_symbol_table.ensures.written
    ∙ ap (λ (table : SymbolTable). c.args.out.now.items ++ message_bytes (symbol_table_kind, pair_bytes table.tree table.heap)) c.new.ensures
