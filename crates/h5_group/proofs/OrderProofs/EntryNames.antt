-- The name of an entry, and the names below a node of level 0.
use Rattle.std.proofs.Common.{◌≡◌, ℕ, ◌<◌, List, [], ◌∷◌, length, ◌++◌, get_or, slice_get, Some, refl, ap, ◌∙◌, sym}
use Rattle.std.specs.Prelude.{Option, map, option_map, unwrap_or}
use Rattle.std.proofs.lemmas.Option.{get_or_from_slice_get, slice_get-get_or}
use Rattle.h5_model.specs.Format.Superblock.{leaf_k}
use Rattle.h5_model.specs.Format.Symbols.{Entry, entry_of, symbols_at}
use Rattle.h5_snod.specs.Entries.{symbol_from}
use Rattle.h5_snod.specs.declared.entry.SymbolEntry.{SymbolEntry}
use Rattle.h5_laws.specs.Ladders.{all_of}
use Rattle.h5_laws.proofs.NameLadders.{names-append}
use Rattle.h5_group.specs.Order.Between.{names_at}

-- the entry that was read
pub entry_offset : (es : List Entry) (k : ℕ) (symbol : SymbolEntry) → k < length es → option_map symbol_from (slice_get es k) ≡ Some symbol
    → (e : Entry) × (get_or es k e ≡ e) × (e.name ≡ symbol.name)
entry_offset es k symbol low is =
    let d : Entry = entry_of [] in
    let e : Entry = get_or es k d in
    let read : slice_get es k ≡ Some e = slice_get-get_or es k d low in
    let same : Some (symbol_from e) ≡ Some symbol = ap (λ (o : Option Entry). option_map symbol_from o) (sym read) ∙ is in
    (e, get_or_from_slice_get es k e e read, ap (λ (o : Option SymbolEntry). (unwrap_or o symbol).name) same)

-- an element is the one at its place, whatever stands for one past the end
pub itself : {X : Type 0} (xs : List X) (k : ℕ) (d : X) → k < length xs → get_or xs k (get_or xs k d) ≡ get_or xs k d
itself xs k d low = get_or_from_slice_get xs k (get_or xs k d) (get_or xs k d) (slice_get-get_or xs k d low)

-- the names below a node of level 0, whose children these are
pub lists_are : (image segment row : List ℕ) → all_of (map (λ at. names_at image segment (at ∷ [])) row) ≡ names_at image segment row
lists_are image segment [] = refl
lists_are image segment (at ∷ row) =
    ap (λ (names : List (List ℕ)). names_at image segment (at ∷ []) ++ names) (lists_are image segment row)
    ∙ sym (names-append (symbols_at image (leaf_k image)) segment (at ∷ []) row)
