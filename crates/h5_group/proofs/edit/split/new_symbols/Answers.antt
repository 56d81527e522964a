use Rattle.std.proofs.Common.{◌≡◌, ℕ, ◌+◌, ◌*◌, List, [], ◌∷◌, ◌++◌, refl, ap, ◌∙◌, length, length-append, arith}
use Rattle.std.specs.List.{flat_map}
use Rattle.h5_model.proofs.PaddedLaws.{length-padded}
use Rattle.h5_snod.specs.Written.{head_bytes, new_bytes}
use Rattle.h5_snod.specs.declared.write.NewSymbol.{NewSymbol}
use Rattle.h5_snod.proofs.WrittenLaws.{long_entries}
use Rattle.h5_group.proofs.SymbolHalves.{block_taken, new_written}
use Rattle.h5_group.proofs.edit.split.new_symbols.Goals as goal

one_long : (s : NewSymbol) → length (head_bytes 1 ++ flat_map new_bytes (s ∷ [])) ≡ 48
one_long s =
    let head : length (head_bytes 1) ≡ 8 = refl in
    length-append (head_bytes 1) (flat_map new_bytes (s ∷ [])) ∙ omega (arith, head, long_entries (s ∷ []))

pub returns : goal.returns
returns c =
    let both = block_taken c.args.image.now c.take-new.new.self c.args.leaf c.take-new.result c.from.result c.from.ensures
    c.take-new.ensures.bytes c.take-new.ensures.taken c.take-new.ensures.room_bytes c.take-new.ensures.room_blocks in
    let node : length c.part_at_mut-node.result.now ≡ 8 + 80 * c.args.leaf = c.part_at_mut-node.ensures.size ∙ ap (λ (n : ℕ). 8 + 80 * n) c.from.ensures in
    let size : length c.write_symbol_node.new.bytes ≡ 8 + 80 * c.args.leaf
    = ap (λ (b : List ℕ). length b) c.write_symbol_node.ensures.written
    ∙ length-padded (head_bytes 1 ++ flat_map new_bytes (c.args.symbol ∷ [])) (length c.part_at_mut-node.result.now) (omega (arith, one_long c.args.symbol, node, c.requires.some))
    ∙ node in
    new_written c.args.image.now c.take-new.new.self _ c.args.leaf c.take-new.result c.write_symbol_node.new.bytes _ both.0 both.1 size
    (omega (arith, c.take-new.ensures.inside, c.from.ensures)) refl c.write_symbol_node.ensures.reads (c.write_symbol_node.ensures.form c.args.leaf (omega (arith, c.requires.some)))
