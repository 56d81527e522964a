-- Entries in the order of their addresses, in runs that stand one behind another.
use Rattle.std.specs.Prelude.{◌≡◌, ℕ, zero, suc, ◌+◌, ◌-◌, ◌<◌, ◌≤◌, List, [], ◌∷◌, ◌++◌, length, take, drop, slice_index_or}
use Rattle.std.specs.List.{AllByRecursion}
use Rattle.std.specs.List.Sorted.{IsStrictlySortedBy}
use Rattle.std.specs.Map.{keys_of}
use Rattle.std_collections.specs.Layout.BTreeMap.{BTreeMap, btree_map}
use Rattle.std.specs.Ordering.{nat_cmp}
use mathlib.Core.Logic.{inl}
use Rattle.h5_space.specs.declared.addresses.Run.{Run}

-- the entries of all runs
abbrev pub run_entries : {V : Type 0} → List (Run V) → List (ℕ × V)
run_entries [] = []
run_entries (run ∷ runs) = run.entries.items ++ run_entries runs

-- the map that these runs are
abbrev pub map_of : {V : Type 0} → List (Run V) → BTreeMap ℕ V
map_of runs = btree_map (run_entries runs) (inl tt)

-- the entries of the run at index r
abbrev pub run_at : {V : Type 0} → List (Run V) → ℕ → List (ℕ × V)
run_at [] r = []
run_at (run ∷ runs) zero = run.entries.items
run_at (run ∷ runs) (suc r) = run_at runs r

-- the entries before index i of run r
abbrev pub front : {V : Type 0} → List (Run V) → ℕ → ℕ → List (ℕ × V)
front [] r i = []
front (run ∷ runs) zero i = take i run.entries.items
front (run ∷ runs) (suc r) i = run.entries.items ++ front runs r i

-- the entries from index i of run r on
abbrev pub back : {V : Type 0} → List (Run V) → ℕ → ℕ → List (ℕ × V)
back [] r i = []
back (run ∷ runs) zero i = drop i run.entries.items ++ run_entries runs
back (run ∷ runs) (suc r) i = back runs r i

-- there is a first entry, and it has this address
abbrev pub BeginsAt : {V : Type 0} → ℕ → List (ℕ × V) → Type 0
BeginsAt address [] = ⊥
BeginsAt address (e ∷ es) = address ≡ e.0

-- no run is empty, each knows the address of its first entry, and the addresses ascend
pub record AreRuns {V : Type 0} (runs : List (Run V)) : Type 0 where
  pub filled : AllByRecursion (λ run. BeginsAt run.first run.entries.items) runs
  pub ascending : IsStrictlySortedBy nat_cmp (keys_of (run_entries runs))

-- the entry at index i of run r is the last one at this address or below
pub record IsLastAt {V : Type 0} (runs : List (Run V)) (address r i : ℕ) : Type 0 where
  pub there : r < length runs
  pub inside : i < length (run_at runs r)
  pub low : (d : ℕ × V) → (slice_index_or (run_at runs r) i d).0 ≤ address
  pub high : AllByRecursion (λ e. address < e.0) (back runs r (i + 1))

-- the entry at index i of run r has this address
pub record IsEntryAt {V : Type 0} (runs : List (Run V)) (address r i : ℕ) : Type 0 where
  pub there : r < length runs
  pub inside : i < length (run_at runs r)
  pub same : (d : ℕ × V) → (slice_index_or (run_at runs r) i d).0 ≡ address

-- an entry with this address belongs before index i of run r
pub record IsGapAt {V : Type 0} (runs : List (Run V)) (address r i : ℕ) : Type 0 where
  pub there : r ≤ length runs - 1
  pub inside : i ≤ length (run_at runs r)
  pub low : AllByRecursion (λ e. e.0 < address) (front runs r i)
  pub high : AllByRecursion (λ e. address < e.0) (back runs r i)
