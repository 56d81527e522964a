-- The symbol nodes of links whose names ascend are ordered children of a tree (File Format Specification 3.0, section III.A.1).
use Rattle.std.proofs.Common.{◌≡◌, ℕ, ◌+◌, ◌≤◌, true, List, [], ◌∷◌, ◌++◌, length, refl, sym, ap, ◌∙◌, subst, arith}
use Rattle.std.specs.Prelude.{map, ⊤}
use Rattle.std.specs.List.{AllByRecursion}
use Rattle.std.proofs.lemmas.List.{append-nil}
use Rattle.h5_bytes.specs.Texts.{text_at}
use Rattle.h5_model.specs.Format.Links.{Before, NotAfter, Ascend, Symbols}
use Rattle.h5_model.specs.Tree.Paths.{is_name}
use Rattle.h5_model.specs.Format.Sizes.{symbol_node}
use Rattle.h5_model.specs.Format.Symbols.{Entry}
use Rattle.h5_model.specs.Format.Symbols as symbols
use Rattle.h5_model.proofs.TextOrder.{not_after_itself, before_le, after_trans, not_after_trans}
use Rattle.h5_heap.specs.Writing.Links.{Leads, ToGroup, ToArray, ToText, target_link}
use Rattle.h5_heap.specs.Writing.Written.{written_entry, links_with_offsets, texts_span}
use Rattle.h5_group.specs.Writing.Written.{last_name_offset, children_of}
use Rattle.h5_group.proofs.WriteLaws.NameTrees.{AreOrdered}
use Rattle.h5_group.proofs.WriteLaws.SymbolNodes.{Placed}
use Rattle.h5_group.proofs.WriteLaws.Runs.{IsRun, joined}
use Rattle.h5_group.proofs.WriteLaws.SymbolPlaces.{Says}
use Rattle.h5_group.proofs.EntryOrder.{above_empty}

-- ---- the order of names

cons_same : {X : Type 0} (x y : X) (xs ys : List X) → x ∷ xs ≡ y ∷ ys → (x ≡ y) × (xs ≡ ys)
cons_same x y xs ys same = (cc, cc)

-- ---- placed links in the order of their names

-- the name at each offset is before the next, from this offset on
abbrev pub Rises : List ℕ → ℕ → List Placed → Type 0
Rises segment before [] = ⊤
Rises segment before (l ∷ links) = Before (text_at segment before) (text_at segment l.0) × Rises segment l.0 links

module _ (segment : List ℕ) where
  abbrev name_at : ℕ → List ℕ
  name_at offset = text_at segment offset

  own : (offset : ℕ) → NotAfter (name_at offset) (name_at offset)
  own offset = not_after_itself (name_at offset)

  rises_left : (before : ℕ) (run more : List Placed) → Rises segment before (run ++ more) → Rises segment before run
  rises_left before [] more rises = tt
  rises_left before (l ∷ run) more rises = (rises.0, rises_left l.0 run more rises.1)

  rises_right : (before : ℕ) (run more : List Placed) → Rises segment before (run ++ more) → Rises segment (last_name_offset before run) more
  rises_right before [] more rises = rises
  rises_right before (l ∷ run) more rises = rises_right l.0 run more rises.1

  -- no name is after the last
  reaches : (before : ℕ) (run : List Placed) → Rises segment before run → NotAfter (name_at before) (name_at (last_name_offset before run))
  reaches before [] rises = own before
  reaches before (l ∷ run) rises =
      not_after_trans (name_at before) (name_at l.0) (name_at (last_name_offset l.0 run)) (before_le (name_at before) (name_at l.0) rises.0) (reaches l.0 run rises.1)

  abbrev IsWithin : ℕ → ℕ → List ℕ → Type 0
  IsWithin before last name = Before (name_at before) name × NotAfter name (name_at last)

  within : (start before : ℕ) (run : List Placed) → NotAfter (name_at start) (name_at before) → Rises segment before run
      → AllByRecursion (IsWithin start (last_name_offset before run)) (map (λ (e : Entry). name_at e.name) (map written_entry run))
  within start before [] low rises = tt
  within start before ((at, (name, ToGroup header tree heap)) ∷ run) low rises =
      let above = after_trans (name_at start) (name_at before) (name_at at) low rises.0 in
      ((above, reaches at run rises.1), within start at run (before_le (name_at start) (name_at at) above) rises.1)
  within start before ((at, (name, ToArray header)) ∷ run) low rises =
      let above = after_trans (name_at start) (name_at before) (name_at at) low rises.0 in
      ((above, reaches at run rises.1), within start at run (before_le (name_at start) (name_at at) above) rises.1)
  within start before ((at, (name, ToText text)) ∷ run) low rises =
      let above = after_trans (name_at start) (name_at before) (name_at at) low rises.0 in
      ((above, reaches at run rises.1), within start at run (before_le (name_at start) (name_at at) above) rises.1)

  same_last : (before : ℕ) (run : List Placed) → 1 ≤ length run → last_name_offset before run ≡ last_name_offset 0 run
  same_last before [] some = absurd (omega arith)
  same_last before (l ∷ run) some = refl

  -- the symbol nodes of such links are ordered
  pub ordered : (leaf : ℕ) (S : Symbols) (before at : ℕ) (runs : List (List Placed)) → AllByRecursion (IsRun leaf) runs → Says S leaf at runs
      → Rises segment before (joined runs) → AreOrdered S segment before (children_of leaf at runs)
  ordered leaf S before at [] all said rises = tt
  ordered leaf S before at (run ∷ runs) all said rises =
      let last = same_last before run (all.0).0 in
      let here = rises_left before run (joined runs) rises in
      let entries : S at ++ [] ≡ map written_entry run = append-nil (S at) ∙ said.0 in (
        subst (λ es. AllByRecursion (IsWithin before (last_name_offset 0 run)) (map (λ (e : Entry). name_at e.name) es)) (sym entries)
            (subst (λ l. AllByRecursion (IsWithin before l) (map (λ (e : Entry). name_at e.name) (map written_entry run))) last (within before before run (own before) here)),
        subst (λ l. NotAfter (name_at before) (name_at l)) last (reaches before run here),
        ordered leaf S (last_name_offset 0 run) (at + symbol_node leaf) runs all.1 said.1
            (subst (λ l. Rises segment l (joined runs)) last (rises_right before run (joined runs) rises)),
      )

  -- ---- from the links' names

  -- the offset of each placed link leads to its name
  abbrev pub AreNamed : List Placed → Type 0
  AreNamed links = AllByRecursion (λ (l : Placed). name_at l.0 ≡ (l.1).0) links

  pub are_named : (at : ℕ) (links : List (List ℕ × Leads)) → map (symbols.link_of segment) (map written_entry (links_with_offsets at links)) ≡ map target_link links
      → AreNamed (links_with_offsets at links)
  are_named at [] same = tt
  are_named at ((name, ToGroup header tree heap) ∷ links) same =
      let parts = cons_same _ _ _ _ same in
      (ap (λ (l : List ℕ × symbols.Target). l.0) parts.0, are_named (at + texts_span (name, ToGroup header tree heap)) links parts.1)
  are_named at ((name, ToArray header) ∷ links) same =
      let parts = cons_same _ _ _ _ same in
      (ap (λ (l : List ℕ × symbols.Target). l.0) parts.0, are_named (at + texts_span (name, ToArray header)) links parts.1)
  are_named at ((name, ToText text) ∷ links) same =
      let parts = cons_same _ _ _ _ same in
      (ap (λ (l : List ℕ × symbols.Target). l.0) parts.0, are_named (at + texts_span (name, ToText text)) links parts.1)

  rises_from : (before at : ℕ) (links : List (List ℕ × Leads)) → AreNamed (links_with_offsets at links) → Ascend (map target_link links)
      → ((l : List ℕ × Leads) (more : List (List ℕ × Leads)) → links ≡ l ∷ more → Before (name_at before) l.0) → Rises segment before (links_with_offsets at links)
  rises_from before at [] named ascend first = tt
  rises_from before at (l ∷ []) named ascend first = (subst (λ n. Before (name_at before) n) (sym named.0) (first l [] refl), tt)
  rises_from before at (l ∷ m ∷ links) named ascend first = (
    subst (λ n. Before (name_at before) n) (sym named.0) (first l (m ∷ links) refl),
    rises_from at (at + texts_span l) (m ∷ links) named.1 ascend.1
        (λ k more same. subst (λ (j : List ℕ × Leads). Before (name_at at) j.0) (cons_same m k links more same).0 (subst (λ n. Before n m.0) (sym named.0) ascend.0)),
  )

  -- they rise from the empty name on
  pub rises_all : (at : ℕ) (links : List (List ℕ × Leads)) → name_at 0 ≡ [] → AreNamed (links_with_offsets at links) → Ascend (map target_link links)
      → AllByRecursion (λ (l : List ℕ × Leads). is_name l.0 ≡ true) links → Rises segment 0 (links_with_offsets at links)
  rises_all at [] none named ascend names = tt
  rises_all at (l ∷ links) none named ascend names = rises_from 0 at (l ∷ links) named ascend
      (λ k more same. subst (λ n. Before n k.0) (sym none) (subst (λ (j : List ℕ × Leads). Before [] j.0) (cons_same l k links more same).0 (above_empty l.0 names.0)))
