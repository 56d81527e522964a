-- The entries of a map of chunks, without one of them.
use Rattle.std.proofs.Common.{◌≡◌, ℕ, List, [], ◌∷◌, ◌++◌, Bool, true, false, cond, not, refl, sym, ap, ◌∙◌, subst}
use Rattle.std.specs.Prelude.{T}
use Rattle.std.specs.Ordering.{eq_by_cmp, is_eq, is_lt, nat_cmp, ordering_reverse}
use Rattle.std.specs.declared.cmp.Ordering.{Ordering}
use Rattle.std.specs.declared.cmp.Ordering.TheVariants.{Greater, Less}
use Rattle.std.specs.Cmp.Lexicographic.{nat_list_cmp_total, slice_cmp}
use Rattle.std.specs.FinMap.{from_sorted, is_sorted, remove}
use Rattle.std.specs.FinMap.Entries.{below_all, is_sorted-where_key, where_key}
use Rattle.std.proofs.lemmas.Cmp.{tied_itself}
use Rattle.h5_model.proofs.MapSteps.{remove_by_name}
use Rattle.h5_model.proofs.ReachLaws.{halves}
use Rattle.h5_model.proofs.TextOrder.{is_less}
use Rattle.h5_laws.proofs.Maps.{true_of}
use Rattle.h5_laws.specs.KeyEdits.{IsTaken}

abbrev by_offsets : List ℕ → List ℕ → Ordering
by_offsets = slice_cmp nat_cmp

-- other offsets than these
abbrev is_other : List ℕ → List ℕ → Bool
is_other offsets of = not (eq_by_cmp by_offsets offsets of)

less : (a b : List ℕ) → T (is_lt (by_offsets a b)) → by_offsets a b ≡ Less
less a b is = is_less (by_offsets a b) (true_of (is_lt (by_offsets a b)) is)

-- those behind it stay
behind_stay : (offsets : List ℕ) (es : List (List ℕ × ℕ)) → T (below_all by_offsets offsets es) → where_key by_offsets (is_other offsets) es ≡ es
behind_stay offsets [] below = refl
behind_stay offsets (e ∷ es) below =
    let rest : List (List ℕ × ℕ) = where_key by_offsets (is_other offsets) es in
    let is : is_other offsets e.0 ≡ true = ap (λ (r : Ordering). not (is_eq r)) (less offsets e.0 (halves _ _ below).0) in
    ap (λ (b : Bool). cond b (e ∷ rest) rest) is ∙ ap (λ (xs : List (List ℕ × ℕ)). e ∷ xs) (behind_stay offsets es (halves _ _ below).1)

before_it : (k : List ℕ) (x : List ℕ × ℕ) (front back : List (List ℕ × ℕ)) → T (below_all by_offsets k (front ++ x ∷ back)) → by_offsets k x.0 ≡ Less
before_it k x [] back below = less k x.0 (halves _ _ below).0
before_it k x (e ∷ front) back below = before_it k x front back (halves _ _ below).1

-- so it alone goes
alone_goes : (x : List ℕ × ℕ) (front back : List (List ℕ × ℕ)) → T (is_sorted by_offsets (front ++ x ∷ back))
    → where_key by_offsets (is_other x.0) (front ++ x ∷ back) ≡ front ++ back
alone_goes x [] back sorted =
    let rest : List (List ℕ × ℕ) = where_key by_offsets (is_other x.0) back in
    let is : is_other x.0 x.0 ≡ false = ap (λ (r : Ordering). not (is_eq r)) (tied_itself nat_list_cmp_total x.0) in
    ap (λ (b : Bool). cond b (x ∷ rest) rest) is ∙ behind_stay x.0 back (halves _ _ sorted).0
alone_goes x (e ∷ front) back sorted =
    let rest : List (List ℕ × ℕ) = where_key by_offsets (is_other x.0) (front ++ x ∷ back) in
    let over : by_offsets x.0 e.0 ≡ Greater = nat_list_cmp_total.antisymm x.0 e.0 ∙ ap ordering_reverse (before_it e.0 x front back (halves _ _ sorted).0) in
    let is : is_other x.0 e.0 ≡ true = ap (λ (r : Ordering). not (is_eq r)) over in
    ap (λ (b : Bool). cond b (e ∷ rest) rest) is ∙ ap (λ (xs : List (List ℕ × ℕ)). e ∷ xs) (alone_goes x front back (halves _ _ sorted).1)

module _ (x : List ℕ × ℕ) (old new : List (List ℕ × ℕ)) (taken : IsTaken x old new) (sorted : T (is_sorted by_offsets old)) where
  goes : where_key by_offsets (is_other x.0) old ≡ new
  goes =
      ap (where_key by_offsets (is_other x.0)) taken.before
      ∙ alone_goes x taken.front taken.back (subst (λ (es : List (List ℕ × ℕ)). T (is_sorted by_offsets es)) taken.before sorted) ∙ sym taken.after

  -- entries of which one is taken ascend still
  pub taken_ascends : T (is_sorted by_offsets new)
  taken_ascends = subst (λ (es : List (List ℕ × ℕ)). T (is_sorted by_offsets es)) goes (is_sorted-where_key by_offsets (is_other x.0) old sorted)

  -- and are those of the map without it
  pub taken_map : from_sorted {R = by_offsets} new ≡ remove (from_sorted {R = by_offsets} old) x.0
  taken_map = ap (λ (es : List (List ℕ × ℕ)). from_sorted {R = by_offsets} es) (sym goes) ∙ sym (remove_by_name old x.0 (true_of _ sorted))
