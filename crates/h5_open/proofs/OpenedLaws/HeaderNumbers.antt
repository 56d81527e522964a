-- The number of the object whose header stands at an address, by the table.
use Rattle.std.proofs.Common.{◌≡◌, inl, inr, ℕ, List, [], ◌∷◌, refl, sym, ap, ◌∙◌, Some, true, false, Bool, arith}
use Rattle.std.specs.Prelude.{◌==◌, if◌then◌else◌}
use Rattle.std.proofs.lemmas.Bool.Decides.{nat_tests}
use Rattle.std.specs.Ordering.{nat_cmp}
use Rattle.std.specs.Cmp.{nat_cmp_total}
use Rattle.std.specs.FinMap.{FinMap, get, entries}
use Rattle.h5_laws.proofs.Lists.{In}
use Rattle.h5_laws.proofs.Maps.{entry_of_get, get_of_entry}
use Rattle.h5_open.specs.Opened.Objects.{number_by, number_in}

-- one entry more: it has the header, or the one that is found behind it has
found_next : (m g : ℕ) (es : List (ℕ × ℕ)) (n h : ℕ) (b : Bool) → (g == h) ≡ b → (In (n, h) es → In (number_by es h, h) es) → In (n, h) ((m, g) ∷ es)
    → In (if b then m else number_by es h, h) ((m, g) ∷ es)
found_next m g es n h true is rest there = let same : g ≡ h = grind (arith, nat_tests, is) in inl (ap (λ (x : ℕ). (m, x)) same)
found_next m g es n h false is rest (inl e) =
    let same : g ≡ h = ap (λ (x : ℕ × ℕ). x.1) e in
    let here : (g == h) ≡ true = grind (arith, nat_tests, same) in
    absurd (let never : false ≡ true = sym is ∙ here in cc)
found_next m g es n h false is rest (inr there) = inr (rest there)

found_by : (es : List (ℕ × ℕ)) (n h : ℕ) → In (n, h) es → In (number_by es h, h) es
found_by [] n h there = absurd there
found_by ((m, g) ∷ es) n h there = found_next m g es n h (g == h) refl (found_by es n h) there

-- where the table has a header, the object of its number has it
pub number_has : (table : FinMap nat_cmp ℕ) (n h : ℕ) → get table n ≡ Some h → get table (number_in table h) ≡ Some h
number_has table n h at = get_of_entry nat_cmp_total table (number_in table h) h (found_by (entries table) n h (entry_of_get table n h at))

-- and where each header is that of one object, this is the one
pub number_is : (table : FinMap nat_cmp ℕ) → ((a b header : ℕ) → get table a ≡ Some header → get table b ≡ Some header → a ≡ b) → (n h : ℕ) → get table n ≡ Some h
    → number_in table h ≡ n
number_is table own n h at = own (number_in table h) n h (number_has table n h at) at
