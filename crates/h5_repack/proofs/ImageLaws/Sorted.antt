-- Entries by numbers that ascend: those of the same members are the same.
use Rattle.std.proofs.Common.{◌≡◌, ℕ, List, refl, sym, ◌∙◌, Option, Some, None}
use Rattle.std.specs.Prelude.{T}
use Rattle.std.specs.Ordering.{nat_cmp}
use Rattle.std.specs.Cmp.{nat_cmp_total}
use Rattle.std.specs.FinMap.{find, is_sorted, nat_cmp-IsAntisymmetric}
use Rattle.std.specs.FinMap.Entries.{same_entries}
use Rattle.h5_model.proofs.ReachLaws.{find_entry}
use Rattle.h5_laws.proofs.Lists.{In}
use Rattle.h5_laws.proofs.Maps.{to_entry, found_entry}

module _ {X : Type 0} (es fs : List (ℕ × X)) (es_sorted : T (is_sorted nat_cmp es)) (fs_sorted : T (is_sorted nat_cmp fs))
    (into : (q : ℕ) (v : X) → In (q, v) es → In (q, v) fs) (back : (q : ℕ) (v : X) → In (q, v) fs → In (q, v) es) where
  found_both : (q : ℕ) (a b : Option X) → find nat_cmp q es ≡ a → find nat_cmp q fs ≡ b → a ≡ b
  found_both q (Some v) b here there =
      sym (find_entry nat_cmp_total fs q v fs_sorted (to_entry fs q v (into q v (found_entry nat_cmp-IsAntisymmetric es q v here)))) ∙ there
  found_both q None (Some w) here there =
      sym here ∙ find_entry nat_cmp_total es q w es_sorted (to_entry es q w (back q w (found_entry nat_cmp-IsAntisymmetric fs q w there)))
  found_both q None None here there = refl

  pub same_sorted : es ≡ fs
  same_sorted = same_entries nat_cmp nat_cmp_total nat_cmp-IsAntisymmetric es fs es_sorted fs_sorted
      (λ q. found_both q (find nat_cmp q es) (find nat_cmp q fs) refl refl)
