-- The key of a symbol node's last entry.
use Rattle.std.proofs.Common.{◌≡◌, ℕ, zero, suc, ◌-◌, ◌==◌, true, false, List, [], ◌∷◌, ◌++◌, length, option_map, Some, ap, arith}
use Rattle.std.specs.Prelude.{slice_get}
use Rattle.std.proofs.lemmas.Option.{same_Some}
use Rattle.h5_bytes.specs.Numbers.{word}
use Rattle.h5_model.specs.Format.Symbols.{Entry}
use Rattle.h5_snod.specs.Entries.{symbol_from}
use Rattle.h5_snod.specs.declared.entry.SymbolEntry.{SymbolEntry}
use Rattle.h5_group.specs.Retired.{name_keys}

pub last_is : (es : List Entry) (k : ℕ) (r : SymbolEntry) → suc k ≡ length es → option_map symbol_from (slice_get es k) ≡ Some r
    → (front : List (List ℕ)) × (name_keys es ≡ front ++ word r.name ∷ [])
last_is [] k r last read = absurd (omega (arith, last))
last_is (e ∷ []) zero r last read = ([], ap (λ (x : SymbolEntry). word x.name ∷ []) (same_Some (symbol_from e) r read))
last_is (e ∷ f ∷ es) zero r last read = absurd (omega (arith, last))
last_is (e ∷ es) (suc k) r last read =
    let rest = last_is es k r (omega (arith, last)) read in
    (word e.name ∷ rest.0, ap (λ (keys : List (List ℕ)). word e.name ∷ keys) rest.1)

pub last_of : (es : List Entry) (n : ℕ) (r : SymbolEntry) → n ≡ length es → false ≡ (length es == 0) → option_map symbol_from (slice_get es (n - 1)) ≡ Some r
    → (front : List (List ℕ)) × (name_keys es ≡ front ++ word r.name ∷ [])
last_of [] n r is some read = absurd (let never : false ≡ true = some in cc)
last_of (e ∷ es) n r is some read = last_is (e ∷ es) (n - 1) r (omega (arith, is)) read
