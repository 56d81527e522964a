-- Symbol nodes in the plain layout read as their entries (File Format Specification 3.0, sections III.B and III.C).
use Rattle.std.proofs.Common.{◌≡◌, ℕ, ◌+◌, ◌-◌, ◌*◌, ◌/◌, ◌≤◌, List, [], ◌∷◌, ◌++◌, length, refl, ap, ◌∙◌, arith, length-append}
use Rattle.std.specs.Prelude.{map}
use Rattle.std.specs.List.{AllByRecursion, flat_map}
use Rattle.std.proofs.lemmas.List.{length-map, length-replicate}
use Rattle.h5_bytes.specs.Bytes.{number_at, little_bytes, undefined_address}
use Rattle.h5_bytes.specs.Numbers.{word, zeros}
use Rattle.h5_model.specs.Format.Superblock.{highest_k}
use Rattle.h5_model.specs.Format.Sizes.{symbol_node, text_span}
use Rattle.h5_model.specs.Format.Symbols.{IsSymbolNode}
use Rattle.h5_model.specs.Format.Symbols as symbols
use Rattle.h5_model.proofs.NumberLaws.{reads_back}
use Rattle.h5_heap.specs.Writing.Links.{Leads, ToGroup, ToArray, ToText}
use Rattle.h5_heap.specs.Writing.Written.{written_entry}
use Rattle.h5_heap.specs.Writing.Laws.{IsEntryLow}
use Rattle.h5_snod.specs.declared.write.NewSymbol.{NewSymbol}
use Rattle.h5_snod.specs.Written.{IsSmall, entry_from, head_bytes, new_bytes}
use Rattle.h5_snod.proofs.WrittenLaws.{long_entries, form_back, entries_back}
use Rattle.h5_group.specs.Writing.Written.{entry_bytes, written_symbol_node, symbol_for}

abbrev pub Placed : Type 0
Placed = ℕ × (List ℕ × Leads)

-- ---- one entry

small_for : (l : Placed) → IsEntryLow (written_entry l) → IsSmall (symbol_for l)
small_for (at, (name, ToGroup header tree heap)) low = record { name = low.0; header = low.1 }
small_for (at, (name, ToArray header)) low = record { name = low.0; header = low.1 }
small_for (at, (name, ToText text)) low = record { name = low.0; header = low.1 }

same_entry : (l : Placed) → IsEntryLow (written_entry l) → entry_from (symbol_for l) ≡ written_entry l
unfolding number_at
same_entry (at, (name, ToGroup header tree heap)) low =
    ap (λ n. record { name = at; header = header; cache = 1; text = n }) (reads_back 4 tree (little_bytes 4 (tree / 256 / 256 / 256 / 256) ++ word heap) low.3)
same_entry (at, (name, ToArray header)) low = refl
same_entry (at, (name, ToText text)) low =
    ap (λ n. record { name = at; header = undefined_address; cache = 2; text = n }) (reads_back 4 (at + text_span name) (zeros 12) low.3)

-- ---- the entries of a run

entries_are : (run : List Placed) → flat_map new_bytes (map symbol_for run) ≡ flat_map entry_bytes run
entries_are [] = refl
entries_are (l ∷ run) = ap (λ bytes. entry_bytes l ++ bytes) (entries_are run)

all_small : (run : List Placed) → AllByRecursion (λ l. IsEntryLow (written_entry l)) run → AllByRecursion IsSmall (map symbol_for run)
all_small [] low = tt
all_small (l ∷ run) low = (small_for l low.0, all_small run low.1)

same_entries : (run : List Placed) → AllByRecursion (λ l. IsEntryLow (written_entry l)) run → map entry_from (map symbol_for run) ≡ map written_entry run
same_entries [] low = refl
same_entries (l ∷ run) low = λ i. same_entry l low.0 i ∷ same_entries run low.1 i

-- ---- a symbol node

module _ (leaf : ℕ) (run : List Placed) where
  abbrev its : List NewSymbol
  its = map symbol_for run

  as_many : length its ≡ length run
  as_many = length-map run symbol_for

  entries_long : length (flat_map new_bytes its) ≡ 40 * length run
  entries_long = omega (arith, long_entries its, as_many)

  -- how long it is depends on the number of links alone
  pub length-node_of : length (written_symbol_node leaf run) ≡ 8 + 40 * length run + (symbol_node leaf - (8 + 40 * length run))
  length-node_of =
      let front : length (head_bytes (length its) ++ flat_map new_bytes its) ≡ 8 + 40 * length run = omega (arith, entries_long) in
      let padding : length (zeros (symbol_node leaf - (8 + 40 * length run))) ≡ symbol_node leaf - (8 + 40 * length run)
      = length-replicate (symbol_node leaf - (8 + 40 * length run)) 0 in
      length-append (head_bytes (length its) ++ flat_map new_bytes its) (zeros (symbol_node leaf - length (head_bytes (length its) ++ flat_map new_bytes its)))
      ∙ (λ i. front i + length (zeros (symbol_node leaf - front i)))
      ∙ ap (λ n. 8 + 40 * length run + n) padding

  module _ (few : length run ≤ 2 * leaf) where
    -- its parts: a head, the entries, and zeros
    pub node_parts : written_symbol_node leaf run ≡ head_bytes (length run) ++ (flat_map entry_bytes run ++ zeros ((2 * leaf - length run) * 40))
    node_parts =
        let rest : 8 + 80 * leaf - length (head_bytes (length its) ++ flat_map new_bytes its) ≡ (2 * leaf - length run) * 40 = omega (arith, entries_long) in
        λ i. head_bytes (as_many i) ++ (entries_are run i ++ zeros (rest i))

    pub length-node : length (written_symbol_node leaf run) ≡ symbol_node leaf
    length-node = length-node_of ∙ omega arith

    module _ (high : leaf ≤ highest_k) where
      pub node_formed : IsSymbolNode leaf (written_symbol_node leaf run)
      node_formed = form_back its (symbol_node leaf) (omega (arith, as_many)) (written_symbol_node leaf run) refl leaf (omega (arith, as_many))

      -- it reads as its entries
      pub node_reads : AllByRecursion (λ l. IsEntryLow (written_entry l)) run → symbols.entries_of (written_symbol_node leaf run) ≡ map written_entry run
      node_reads low =
          entries_back its (symbol_node leaf) (omega (arith, as_many)) (written_symbol_node leaf run) refl (all_small run low)
          ∙ same_entries run low
