-- Maps of known entries, step by step: what `simp` computes a worked example by. And what is left of a map by name.
use Rattle.std.proofs.Common.{◌≡◌, ℕ, Bool, true, List, [], refl, sym, ◌∙◌, ap, subst, length, cond, Option, None, not, false}
use Rattle.std.specs.Ordering.{nat_cmp, eq_by_cmp}
use Rattle.std.specs.Cmp.{IsTotalOrder, nat_cmp_total, eq_by_cmp_equiv}
use Rattle.std.specs.Cmp.Lexicographic.{slice_cmp, nat_list_cmp_total}
use Rattle.std.specs.declared.cmp.Ordering.{Ordering}
use Rattle.std.specs.declared.cmp.Ordering.TheVariants.{Equal}
use Rattle.std.specs.FinMap.{IsAntisymmetric, nat_cmp-IsAntisymmetric, slice_cmp-IsAntisymmetric, find, put, is_sorted, get, insert, retain_keys, remove, entries, len, empty, from_sorted, same_entries_map, same_map, get-from_sorted, entries-from_sorted, entries-insert, get-retain_keys, get-remove, empty_of_len, len-entries}
use Rattle.std.specs.FinMap.Entries.{where_key, find-where_key, is_sorted-where_key, is_sorted-put}
use Rattle.std.specs.Prelude.{T}

module _ {K X : Type 0} (R : K → K → Ordering) where
  pub known-get : (es : List (K × X)) (q : K) → is_sorted R es ≡ true → get (from_sorted {R = R} es) q ≡ find R q es
  known-get es q h = get-from_sorted R es q (subst T (sym h) tt)

  pub known-entries : (es : List (K × X)) → is_sorted R es ≡ true → entries (from_sorted {R = R} es) ≡ es
  known-entries es h = entries-from_sorted R es (subst T (sym h) tt)

  pub known-len : (es : List (K × X)) → is_sorted R es ≡ true → len (from_sorted {R = R} es) ≡ length es
  known-len es h = len-entries (from_sorted {R = R} es) ∙ ap length (known-entries es h)

  pub known-empty : empty {X = X} {R = R} ≡ from_sorted []
  known-empty = sym (empty_of_len (from_sorted {R = R} []) (known-len [] refl))

  pub entries-empty : entries (empty {X = X} {R = R}) ≡ []
  entries-empty = ap entries known-empty ∙ known-entries [] refl

module _ {K X : Type 0} {R : K → K → Ordering} (o : IsTotalOrder R) where
  pub known-insert : (es : List (K × X)) (k : K) (v : X) → is_sorted R es ≡ true → insert (from_sorted {R = R} es) k v ≡ from_sorted (put R k v es)
  known-insert es k v h =
      let sorted : T (is_sorted R es) = subst T (sym h) tt in
      same_entries_map _ _ (entries-insert o (from_sorted {R = R} es) k v ∙ ap (put R k v) (entries-from_sorted R es sorted)
      ∙ sym (entries-from_sorted R (put R k v es) (is_sorted-put R o k v es sorted)))

  pub known-retain : IsAntisymmetric R → (es : List (K × X)) (p : K → Bool) → is_sorted R es ≡ true → retain_keys (from_sorted {R = R} es) p ≡ from_sorted (where_key R p es)
  known-retain same es p h =
      let sorted : T (is_sorted R es) = subst T (sym h) tt in
      let alike = λ (q x : K) (t : R q x ≡ Equal). ap p (sym (same q x t)) in
      same_map o same _ _ (λ q. get-retain_keys (from_sorted {R = R} es) p q (alike q) ∙ ap (λ found. cond (p q) found None) (get-from_sorted R es q sorted)
      ∙ sym (find-where_key R p q (alike q) es) ∙ sym (get-from_sorted R (where_key R p es) q (is_sorted-where_key R p es sorted)))

  turned_option : (b : Bool) (found : Option X) → cond b None found ≡ cond (not b) found None
  turned_option true found = refl
  turned_option false found = refl

  pub known-remove : IsAntisymmetric R → (es : List (K × X)) (k : K) → is_sorted R es ≡ true
      → remove (from_sorted {R = R} es) k ≡ from_sorted (where_key R (λ x. not (eq_by_cmp R k x)) es)
  known-remove same es k h =
      let sorted : T (is_sorted R es) = subst T (sym h) tt in
      let other = λ (x : K). not (eq_by_cmp R k x) in
      let alike = λ (q x : K) (t : R q x ≡ Equal). ap other (sym (same q x t)) in
      same_map o same _ _ (λ q. get-remove o (from_sorted {R = R} es) k q ∙ ap (λ found. cond (eq_by_cmp R q k) None found) (get-from_sorted R es q sorted)
      ∙ ap (λ b. cond b None (find R q es)) (sym ((eq_by_cmp_equiv o).symm k q)) ∙ turned_option (eq_by_cmp R k q) (find R q es)
      ∙ sym (find-where_key R other q (alike q) es) ∙ sym (get-from_sorted R (where_key R other es) q (is_sorted-where_key R other es sorted)))

abbrev names_differ : IsAntisymmetric (slice_cmp nat_cmp)
names_differ = slice_cmp-IsAntisymmetric nat_cmp-IsAntisymmetric

-- ---- maps by number, and maps by name

pub get_by_number : {X : Type 0} (es : List (ℕ × X)) (q : ℕ) → is_sorted nat_cmp es ≡ true → get (from_sorted {R = nat_cmp} es) q ≡ find nat_cmp q es
get_by_number {X = X} es q h = known-get nat_cmp es q h

pub get_by_name : {X : Type 0} (es : List (List ℕ × X)) (q : List ℕ) → is_sorted (slice_cmp nat_cmp) es ≡ true → get (from_sorted {R = (slice_cmp nat_cmp)} es) q ≡ find (slice_cmp nat_cmp) q es
get_by_name {X = X} es q h = known-get (slice_cmp nat_cmp) es q h

pub entries_by_number : {X : Type 0} (es : List (ℕ × X)) → is_sorted nat_cmp es ≡ true → entries (from_sorted {R = nat_cmp} es) ≡ es
entries_by_number {X = X} es h = known-entries nat_cmp es h

pub entries_by_name : {X : Type 0} (es : List (List ℕ × X)) → is_sorted (slice_cmp nat_cmp) es ≡ true → entries (from_sorted {R = (slice_cmp nat_cmp)} es) ≡ es
entries_by_name {X = X} es h = known-entries (slice_cmp nat_cmp) es h

pub len_by_number : {X : Type 0} (es : List (ℕ × X)) → is_sorted nat_cmp es ≡ true → len (from_sorted {R = nat_cmp} es) ≡ length es
len_by_number {X = X} es h = known-len nat_cmp es h

pub len_by_name : {X : Type 0} (es : List (List ℕ × X)) → is_sorted (slice_cmp nat_cmp) es ≡ true → len (from_sorted {R = (slice_cmp nat_cmp)} es) ≡ length es
len_by_name {X = X} es h = known-len (slice_cmp nat_cmp) es h

pub empty_by_number : {X : Type 0} → empty {X = X} {R = nat_cmp} ≡ from_sorted []
empty_by_number {X = X} = known-empty nat_cmp

pub empty_by_name : {X : Type 0} → empty {X = X} {R = (slice_cmp nat_cmp)} ≡ from_sorted []
empty_by_name {X = X} = known-empty (slice_cmp nat_cmp)

pub insert_by_number : {X : Type 0} (es : List (ℕ × X)) (k : ℕ) (v : X) → is_sorted nat_cmp es ≡ true → insert (from_sorted {R = nat_cmp} es) k v ≡ from_sorted (put nat_cmp k v es)
insert_by_number {X = X} es k v h = known-insert nat_cmp_total es k v h

pub insert_by_name : {X : Type 0} (es : List (List ℕ × X)) (k : List ℕ) (v : X) → is_sorted (slice_cmp nat_cmp) es ≡ true → insert (from_sorted {R = (slice_cmp nat_cmp)} es) k v ≡ from_sorted (put (slice_cmp nat_cmp) k v es)
insert_by_name {X = X} es k v h = known-insert nat_list_cmp_total es k v h

pub remove_by_number : {X : Type 0} (es : List (ℕ × X)) (k : ℕ) → is_sorted nat_cmp es ≡ true → remove (from_sorted {R = nat_cmp} es) k ≡ from_sorted (where_key nat_cmp (λ x. not (eq_by_cmp nat_cmp k x)) es)
remove_by_number {X = X} es k h = known-remove nat_cmp_total nat_cmp-IsAntisymmetric es k h

pub remove_by_name : {X : Type 0} (es : List (List ℕ × X)) (k : List ℕ) → is_sorted (slice_cmp nat_cmp) es ≡ true → remove (from_sorted {R = (slice_cmp nat_cmp)} es) k ≡ from_sorted (where_key (slice_cmp nat_cmp) (λ x. not (eq_by_cmp (slice_cmp nat_cmp) k x)) es)
remove_by_name {X = X} es k h = known-remove nat_list_cmp_total names_differ es k h

pub retain_by_number : {X : Type 0} (es : List (ℕ × X)) (p : ℕ → Bool) → is_sorted nat_cmp es ≡ true → retain_keys (from_sorted {R = nat_cmp} es) p ≡ from_sorted (where_key nat_cmp p es)
retain_by_number {X = X} es p h = known-retain nat_cmp_total nat_cmp-IsAntisymmetric es p h

pub retain_by_name : {X : Type 0} (es : List (List ℕ × X)) (p : List ℕ → Bool) → is_sorted (slice_cmp nat_cmp) es ≡ true → retain_keys (from_sorted {R = (slice_cmp nat_cmp)} es) p ≡ from_sorted (where_key (slice_cmp nat_cmp) p es)
retain_by_name {X = X} es p h = known-retain nat_list_cmp_total names_differ es p h

pub ruleset known = (get_by_number, get_by_name, entries_by_number, entries_by_name, len_by_number, len_by_name, empty_by_number, empty_by_name, insert_by_number, insert_by_name, remove_by_number, remove_by_name, retain_by_number, retain_by_name)
