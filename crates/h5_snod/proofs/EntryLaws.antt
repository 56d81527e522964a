-- What the value of a symbol node says of its bytes.
use Rattle.std.proofs.Common.{◌≡◌, ℕ, ◌+◌, ◌*◌, ◌<◌, ◌≤◌, List, length, get_or, slice_get, Some, subst, sym, ap, ◌∙◌, arith}
use Rattle.std.specs.List.{AllByRecursion}
use Rattle.std.proofs.lemmas.Option.{slice_get-get_or}
use Rattle.std.proofs.lemmas.List.Elements.{recursion_from_All, All-from_get_or}
use Rattle.h5_bytes.specs.Bytes.{part}
use Rattle.h5_bytes.proofs.TableLaws.{length-table, get_or-table}
use Rattle.h5_model.specs.Format.Symbols.{Entry, IsEntry, entry_of, entries_of, symbols_in}
use Rattle.h5_snod.specs.Form.{cache_at}

-- entry k of a symbol node's bytes
abbrev pub entry_in : List ℕ → ℕ → Entry
entry_in bytes k = entry_of (part (8 + 40 * k) 40 bytes)

pub length-entries : (bytes : List ℕ) → length (entries_of bytes) ≡ symbols_in bytes
length-entries bytes = length-table (entry_in bytes) (entry_in bytes) (symbols_in bytes) 0

pub get_or-entries : (bytes : List ℕ) (k : ℕ) (d : Entry) → k < symbols_in bytes → get_or (entries_of bytes) k d ≡ entry_in bytes k
get_or-entries bytes k d low = get_or-table (entry_in bytes) (entry_in bytes) (symbols_in bytes) k d low

module _ (bytes : List ℕ) (entries : List Entry) (is : entries_of bytes ≡ entries) where
  pub count_is : symbols_in bytes ≡ length entries
  count_is = sym (length-entries bytes) ∙ ap (λ (es : List Entry). length es) is

  pub entry_is : (k : ℕ) → k < length entries → slice_get entries k ≡ Some (entry_in bytes k)
  entry_is k low =
      let count = count_is in
      let d : Entry = entry_in bytes k in
      slice_get-get_or entries k d low ∙ ap (λ (es : List Entry). Some (get_or es k d)) (sym is)
      ∙ ap (λ (e : Entry). Some e) (get_or-entries bytes k d (omega arith))

pub all_known : (bytes : List ℕ) → ((k : ℕ) → k < symbols_in bytes → cache_at bytes k ≤ 2) → AllByRecursion IsEntry (entries_of bytes)
all_known bytes known =
    let d : Entry = entry_in bytes 0 in
    let count = length-entries bytes in
    recursion_from_All IsEntry (entries_of bytes) (All-from_get_or IsEntry (entries_of bytes) d (λ k low.
    let inside : k < symbols_in bytes = omega arith in
    subst IsEntry (sym (get_or-entries bytes k d inside)) (known k inside)))
