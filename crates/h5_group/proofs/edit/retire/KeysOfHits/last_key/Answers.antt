use Rattle.std.proofs.Common.{◌≡◌, ℕ, ◌+◌, ◌*◌, List, [], ◌∷◌, ◌++◌, sym, ap, ◌∙◌}
use Rattle.h5_bytes.specs.Bytes.{part}
use Rattle.h5_bytes.specs.Numbers.{word}
use Rattle.h5_model.specs.Format.Symbols.{entries_of, symbols_at}
use Rattle.h5_group.specs.Retired.{name_keys}
use Rattle.h5_group.proofs.EntryKeys.{last_of}
use Rattle.h5_group.proofs.edit.retire.KeysOfHits.last_key.Goals as goal

pub returns : goal.returns
returns c =
    let image = c.args.image.now.bytes in
    let leaf = c.args.self.now.leaf in
    let bytes : c.unwrap.result.now ≡ part c.args.child (8 + 80 * leaf) image = rw c.from.ensures at (rw c.unwrap.ensures at c.part.ensures.value) in
    let symbols : c.known_symbol_node-symbols.result ≡ symbols_at image leaf c.args.child = c.known_symbol_node-symbols.ensures ∙ ap entries_of bytes in
    let last = last_of c.known_symbol_node-symbols.result c.len.result c.entry.result c.len.ensures c.if-is_empty.ensures c.entry.ensures in
    let key : c.to_le_bytes.result ≡ word c.entry.result.name = c.to_le_bytes.ensures in
    (last.0, ap name_keys (sym symbols) ∙ last.1 ∙ ap (λ (k : List ℕ). last.0 ++ k ∷ []) (sym key))
