-- The headers of a reading differ, and there are as many as objects; and all readings of an image have the same.
use Rattle.std.proofs.Common.{◌≡◌, inl, inr, ℕ, ◌<◌, ◌≤◌, List, [], ◌∷◌, length, map, refl, sym, ap, ◌∙◌, subst, arith, Some, Less}
use Rattle.std.proofs.lemmas.List.{length-map}
use Rattle.std.specs.Prelude.{T}
use Rattle.std.specs.Ordering.{nat_cmp, is_lt}
use Rattle.std.specs.Cmp.{nat_cmp_total, ranked}
use Rattle.std.specs.FinMap.{FinMap, get, entries, values, len, len-entries, entries_sorted, is_sorted}
use Rattle.std.specs.FinMap.Entries.{below_all}
use Rattle.h5_model.specs.Format.Reads.{Placed, Holds, Reads}
use Rattle.h5_model.specs.Tree.Objects.{Tree}
use Rattle.h5_model.proofs.ReachLaws.{halves}
use Rattle.h5_model.proofs.TextOrder.{is_less}
use Rattle.h5_laws.proofs.Lists.{In, in_map, from_map}
use Rattle.h5_laws.proofs.Maps.{entry_of_get, get_of_entry, true_of}
use Rattle.h5_laws.proofs.Pigeonhole.{Apart, no_longer}
use Rattle.h5_laws.proofs.TwoTables.{shared}

-- ---- what a table has

module _ (table : FinMap nat_cmp ℕ) where
  pub in_values : (n h : ℕ) → get table n ≡ Some h → In h (values table)
  in_values n h at = in_map (λ (e : ℕ × ℕ). e.1) (n, h) (entries table) (entry_of_get table n h at)

  pub of_value : (h : ℕ) → In h (values table) → (n : ℕ) × (get table n ≡ Some h)
  of_value h there =
      let e = from_map (λ (x : ℕ × ℕ). x.1) h (entries table) there in
      (e.0.0, get_of_entry nat_cmp_total table e.0.0 h (subst (λ (g : ℕ). In (e.0.0, g) (entries table)) e.2 e.1))

-- a number that is below all others is none of them
below_in : (n : ℕ) (es : List (ℕ × ℕ)) (m h : ℕ) → T (below_all nat_cmp n es) → In (m, h) es → n < m
below_in n [] m h low there = absurd there
below_in n (e ∷ es) m h low (inl same) =
    let less = is_less (nat_cmp n e.0) (true_of (is_lt (nat_cmp n e.0)) (halves (is_lt (nat_cmp n e.0)) (below_all nat_cmp n es) low).0) in
    subst (λ (k : ℕ). n < k) (ap (λ (x : ℕ × ℕ). x.0) same) (ranked n e.0 Less (sym less))
below_in n (e ∷ es) m h low (inr there) = below_in n es m h (halves (is_lt (nat_cmp n e.0)) (below_all nat_cmp n es) low).1 there

values_apart : (es : List (ℕ × ℕ)) → T (is_sorted nat_cmp es) → ((a b h : ℕ) → In (a, h) es → In (b, h) es → a ≡ b) → Apart (map (λ e. e.1) es)
values_apart [] rise own = tt
values_apart (e ∷ es) rise own = (
  λ there.
      let parts = halves (below_all nat_cmp e.0 es) (is_sorted nat_cmp es) rise in
      let other = from_map (λ (x : ℕ × ℕ). x.1) e.1 es there in
      let at : In (other.0.0, e.1) es = subst (λ (h : ℕ). In (other.0.0, h) es) other.2 other.1 in
      let same : e.0 ≡ other.0.0 = own e.0 other.0.0 e.1 (inl refl) (inr at) in
      absurd (omega (arith, same, below_in e.0 es other.0.0 e.1 parts.0 at)),
  values_apart es (halves (below_all nat_cmp e.0 es) (is_sorted nat_cmp es) rise).1 (λ a b h p q. own a b h (inr p) (inr q)),
)

-- ---- one reading

module _ (image : List ℕ) (table : FinMap nat_cmp ℕ) (tree : Tree) (placed : List Placed) (holds : Holds image table tree placed) where
  headers_apart : Apart (values table)
  headers_apart =
      values_apart (entries table) (entries_sorted table)
      (λ a b h p q. holds.own a b h (get_of_entry nat_cmp_total table a h p) (get_of_entry nat_cmp_total table b h q))

  -- each object has one
  headers_all : len tree ≡ length (values table)
  headers_all =
      len-entries tree ∙ ap length holds.objects ∙ length-map placed (λ (x : Placed). (x.number, x.object))
      ∙ sym (length-map (entries table) (λ (e : ℕ × ℕ). e.1) ∙ ap length holds.numbered ∙ length-map placed (λ (x : Placed). (x.number, x.header)))

pub len_read : (image : List ℕ) (table : FinMap nat_cmp ℕ) (tree : Tree) → Reads image table tree → len tree ≡ len table
len_read image table tree (placed, reads) =
    headers_all image table tree placed reads.holds ∙ length-map (entries table) (λ (e : ℕ × ℕ). e.1) ∙ sym (len-entries table)

-- ---- two readings

module _ (image : List ℕ) (table table' : FinMap nat_cmp ℕ) (tree tree' : Tree) (reads : Reads image table tree) (reads' : Reads image table' tree') where
  -- a header of one is one of the other
  pub header_shared : (n h : ℕ) → get table n ≡ Some h → (m : ℕ) × (get table' m ≡ Some h)
  header_shared n h at = shared image table table' tree tree' reads.0 reads'.0 (reads.1).holds (reads'.1).holds n h at

  no_more : len tree ≤ len tree'
  no_more =
      let fit = no_longer (values table) (values table') (headers_apart image table tree reads.0 (reads.1).holds) (λ h there.
      let n = of_value table h there in
      let m = header_shared n.0 h n.1 in
      in_values table' m.0 h m.1) in
      omega (arith, fit, headers_all image table tree reads.0 (reads.1).holds, headers_all image table' tree' reads'.0 (reads'.1).holds)

-- and there are as many
pub as_many_read : (image : List ℕ) (table table' : FinMap nat_cmp ℕ) (tree tree' : Tree) → Reads image table tree → Reads image table' tree' → len tree ≡ len tree'
as_many_read image table table' tree tree' reads reads' =
    omega (arith, no_more image table table' tree tree' reads reads', no_more image table' table tree' tree reads' reads)
