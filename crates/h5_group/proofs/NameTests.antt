-- The test of which key of a group's tree may follow which is the order of their names.
use Rattle.std.proofs.Common.{◌≡◌, ℕ, List, false, true, sym, ◌∙◌}
use Rattle.std.specs.Cmp.Lexicographic.{slice_cmp}
use Rattle.std.specs.Ordering.{is_le, nat_cmp}
use Rattle.h5_laws.specs.NameLadders.{key_text, name_sides}
use Rattle.h5_btree.proofs.KeyedHolds.{IsTestOf}

pub name_test : (segment : List ℕ)
    → IsTestOf (name_sides (key_text segment)) (λ key next. is_le (slice_cmp nat_cmp (key_text segment key) (key_text segment next)))
name_test segment key next = (λ is. is, λ off is. let never : false ≡ true = sym off ∙ is in cc)
