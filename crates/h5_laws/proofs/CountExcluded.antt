-- A reference count that differs from the number of links excludes the reading.
use Rattle.std.proofs.Common.{◌≡◌, ℕ, List, length, sym, subst, ◌∙◌, arith}
use Rattle.std.specs.Ordering.{nat_cmp}
use Rattle.std.specs.FinMap.{FinMap}
use Rattle.std.specs.List.{Contains}
use Rattle.h5_model.specs.Format.Messages.{prefix_at, reference_count}
use Rattle.h5_model.specs.Tree.Objects.{Tree}
use Rattle.h5_model.specs.Format.Reads.{Placed, ReadsAs, IsCounted}
use Rattle.h5_model.specs.Format.Reached.{Named, Reached}
use Rattle.h5_model.specs.Faults.Breaches.{AreAllLinks, IsMiscounted}
use Rattle.h5_laws.proofs.Lists.{In, in_all, in_contains, contains_in}
use Rattle.h5_laws.proofs.Breaches.{header_known}
use Rattle.h5_laws.proofs.Pigeonhole.{apart_of_distinct, no_longer}
use Rattle.h5_laws.proofs.Holding.{linked_by}

-- lists of all fields that name a header have one length
module _ (image : List ℕ) (header : ℕ) where
  each_in : (xs ys : List ℕ) → AreAllLinks image header xs → AreAllLinks image header ys → (f : ℕ) → In f xs → In f ys
  each_in xs ys some all f at =
      let y = some.links.each f (contains_in f xs at) in
      in_contains f ys (subst (Contains ys) y.2 (all.all y.0 y.1 y.3 y.4))

  pub one_length : (xs ys : List ℕ) → AreAllLinks image header xs → AreAllLinks image header ys → length xs ≡ length ys
  one_length xs ys a b =
      let most = no_longer xs ys (apart_of_distinct xs a.links.once) (each_in xs ys a b) in
      let least = no_longer ys xs (apart_of_distinct ys b.links.once) (each_in ys xs b a) in
      omega (arith, most, least)

module _ (image : List ℕ) (table : FinMap nat_cmp ℕ) (tree : Tree) (placed : List Placed) (reads : ReadsAs image table tree placed) where
  pub miscounted_excluded : (x : Named) → Reached image x → IsMiscounted image x → ⊥
  miscounted_excluded x reached (is, (fields, are, wrong)) =
      let stands = reads.holds in
      let k = header_known image table tree placed stands x reached is in
      let here : AreAllLinks image k.0.o.header fields = subst (λ (h : ℕ). AreAllLinks image h fields) (sym k.1) are in
      let all = linked_by image table tree placed stands k.0.o k.0.member in
      let count = (in_all (IsCounted image tree) k.0.o placed reads.counted k.0.member).counted in
      let number : reference_count (prefix_at image k.0.o.header) ≡ length fields = count ∙ sym all.2 ∙ one_length image k.0.o.header all.0 fields all.1 here in
      wrong (subst (λ (h : ℕ). reference_count (prefix_at image h) ≡ length fields) k.1 number)
