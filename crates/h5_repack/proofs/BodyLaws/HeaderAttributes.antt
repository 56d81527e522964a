-- An attribute of the plain layout is read back from its message (File Format Specification 3.0, section IV.A.2.m).
use Rattle.std.proofs.Common.{◌≡◌, ℕ, ◌+◌, ◌-◌, ◌*◌, ◌%◌, ◌^◌, ◌<◌, ◌≤◌, List, [], ◌∷◌, length, length-append, map, replicate, refl, sym, ap, ◌∙◌, subst, arith, false, ℤ, Option, Some, None}
use Rattle.std.proofs.lemmas.List.{length-replicate}
use Rattle.std.specs.Prelude.{T, unwrap_or}
use Rattle.std.specs.Option.{option_map_or}
use Rattle.std.specs.Ordering.{nat_cmp, eq_by_cmp, is_lt, is_eq}
use Rattle.std.specs.declared.cmp.Ordering.{Ordering}
use Rattle.std.specs.declared.cmp.Ordering.TheVariants.{Less, Equal, Greater}
use Rattle.std.specs.Cmp.Lexicographic.{slice_cmp, nat_list_cmp_total}
use Rattle.std.specs.List.{AllByRecursion, IsDistinct}
use Rattle.std.specs.FinMap.{entries, from_entries, entries_sorted, is_sorted, same_map, get-entries, get-from_entries, nat_cmp-IsAntisymmetric, slice_cmp-IsAntisymmetric}
use Rattle.std.specs.FinMap.Entries.{below_all}
use Rattle.h5_bytes.specs.Texts.{pad8}
use Rattle.h5_model.specs.Format.Fixed.{Fixed}
use Rattle.h5_model.specs.Format.Limits.{most_cells}
use Rattle.h5_model.specs.Tree.Places.{cells, extent_cells}
use Rattle.h5_model.specs.Format.Sizes.{attribute_size}
use Rattle.h5_model.specs.Tree.Objects.{Attribute, Attributes}
use Rattle.h5_model.specs.Format.AttributeBody.{attribute_of}
use Rattle.h5_model.proofs.PlainMessages.{IsPlain}
use Rattle.h5_model.proofs.ReachLaws.{halves}
use Rattle.h5_model.specs.Format.Bodies.{attribute_bytes}
use Rattle.h5_msg.proofs.WordLaws.{words_long}
use Rattle.h5_msg.proofs.DataspaceLaws.{Small, small_from}
use Rattle.h5_model.proofs.PlainValues.{length-cells_bytes}
use Rattle.h5_msg.proofs.AttributeBack.{attribute_back}
use Rattle.h5_layout.proofs.ExtentBounds.{sizes_below}
use Rattle.h5_layout.proofs.BufferLaws.{all_fit}
use Rattle.h5_repack.specs.Bodies.Bodies.{attribute_body, attribute_message}
use Rattle.h5_repack.specs.Bodies.Sound.{IsPlainAttribute, IsPlainBody}

-- ---- sizes and values

all_small : (sizes : List ℕ) → AllByRecursion (λ n. n ≤ most_cells) sizes → AllByRecursion (λ n. n < 2 ^ 64) sizes
all_small [] all = tt
all_small (d ∷ ds) all = (omega (arith, all.0), all_small ds all.1)

pub sizes_small : (sizes : List ℕ) → extent_cells sizes ≤ most_cells → Small sizes
sizes_small sizes few = small_from sizes (all_small sizes (sizes_below sizes most_cells few))

-- ---- the body of one attribute

-- how many bytes a body has that is raised to n
pub length-attribute_bytes : (name sizes : List ℕ) (t : Fixed) (values : List ℤ) (n : ℕ) → length values ≡ cells sizes → attribute_size (length name) sizes t.size ≤ n
    → length (attribute_bytes name t sizes values n) ≡ n
length-attribute_bytes name sizes t values n count room =
    let product : length values * t.size ≡ cells sizes * t.size = ap (λ (k : ℕ). k * t.size) count in
    let zeros_long : length (replicate {A = ℕ} (n - attribute_size (length name) sizes t.size) 0) ≡ n - attribute_size (length name) sizes t.size = length-replicate {A = ℕ} _ 0 in
    let pad_long : length (replicate {A = ℕ} (pad8 (length name + 1) - length name) 0) ≡ pad8 (length name + 1) - length name = length-replicate {A = ℕ} _ 0 in
    simp length-append (omega (arith, zeros_long, pad_long, product, words_long sizes, length-cells_bytes t values))

-- how many bytes a body has before it is raised: the one that is kept, or one of version 1
abbrev pub body_size : List ℕ × Attribute → ℕ
body_size (name, a) = option_map_or length a.body (attribute_size (length name) a.sizes (a.fixed).size)

-- it is one of a plain message, and says the attribute
record IsBodyOf (name : List ℕ) (a : Attribute) (body : List ℕ) : Type 0 where
  long : length body ≡ pad8 (body_size (name, a))
  padded : length body % 8 ≡ 0
  low : length body < 65536
  reads : attribute_of body ≡ Some (name, a)

module _ (name : List ℕ) (a : Attribute) (is : IsPlainAttribute (name, a)) where
  abbrev size : ℕ
  size = attribute_size (length name) a.sizes (a.fixed).size

  long_body : length (attribute_body name a) ≡ pad8 size
  long_body = length-attribute_bytes name a.sizes a.fixed a.values (pad8 size) is.counted (omega arith)

  body_is : IsBodyOf name a (attribute_message (name, a)).1
  body_is = by_body a.body refl is.body where
    by_body : (b : Option (List ℕ)) → a.body ≡ b → IsPlainBody name a b → IsBodyOf name a (unwrap_or a.body (attribute_body name a))
    by_body None e room =
        let new : unwrap_or a.body (attribute_body name a) ≡ attribute_body name a = ap (λ (b : Option (List ℕ)). unwrap_or b (attribute_body name a)) e in
        let own : body_size (name, a) ≡ size = ap (λ (b : Option (List ℕ)). option_map_or length b size) e in
        subst (IsBodyOf name a) (sym new) (record {
          long = long_body ∙ ap pad8 (sym own);
          padded = ap (λ n. n % 8) long_body ∙ omega arith;
          low = omega (arith, long_body, room);
          reads = attribute_back name a.sizes a.fixed a.values (pad8 size) (attribute_body name a) is.named (omega (arith, room)) is.text
              is.ranked (sizes_small a.sizes is.few) is.fixed (all_fit a.fixed a.values is.of_type) is.counted refl
              ∙ (λ i. Some (name, record { fixed = a.fixed; sizes = a.sizes; values = a.values; body = sym e i }));
        })
    by_body (Some body) e kept =
        let same : unwrap_or a.body (attribute_body name a) ≡ body = ap (λ (b : Option (List ℕ)). unwrap_or b (attribute_body name a)) e in
        let own : body_size (name, a) ≡ length body = ap (λ (b : Option (List ℕ)). option_map_or length b size) e in
        subst (IsBodyOf name a) (sym same) (record {
          long = omega (arith, kept.1) ∙ ap pad8 (sym own);
          padded = kept.1;
          low = kept.2;
          reads = kept.0;
        })

-- an attribute's body has as many bytes as are counted
pub length-attribute_message : (e : List ℕ × Attribute) → IsPlainAttribute e → length (attribute_message e).1 ≡ pad8 (body_size e)
length-attribute_message (name, a) is = (body_is name a is).long

pub attribute_plain : (e : List ℕ × Attribute) → IsPlainAttribute e → IsPlain (attribute_message e)
attribute_plain (name, a) is = record { kind = omega arith; own = refl; padded = (body_is name a is).padded; low = (body_is name a is).low }

pub attribute_read : (e : List ℕ × Attribute) → IsPlainAttribute e → attribute_of (attribute_message e).1 ≡ Some e
attribute_read (name, a) is = (body_is name a is).reads

-- ---- the map

-- a map is made of its entries
pub entries_make : (m : Attributes) → m ≡ from_entries (entries m)
entries_make m = same_map nat_list_cmp_total (slice_cmp-IsAntisymmetric nat_cmp-IsAntisymmetric) m (from_entries (entries m))
    (λ q. get-entries m q ∙ sym (get-from_entries nat_list_cmp_total (entries m) q))

less_differs : (r : Ordering) → T (is_lt r) → is_eq r ≡ false
less_differs Less h = refl
less_differs Equal h = absurd h
less_differs Greater h = refl

below_differ : (name : List ℕ) (es : List (List ℕ × Attribute)) → T (below_all (slice_cmp nat_cmp) name es)
    → AllByRecursion (λ other. eq_by_cmp (slice_cmp nat_cmp) name other ≡ false) (map (λ (e : List ℕ × Attribute). e.0) es)
below_differ name [] h = tt
below_differ name (e ∷ es) h = let both = halves _ _ h in (less_differs _ both.0, below_differ name es both.1)

sorted_differ : (es : List (List ℕ × Attribute)) → T (is_sorted (slice_cmp nat_cmp) es)
    → IsDistinct (eq_by_cmp (slice_cmp nat_cmp)) (map (λ (e : List ℕ × Attribute). e.0) es)
unfolding IsDistinct
sorted_differ [] h = tt
sorted_differ (e ∷ es) h = let both = halves _ _ h in (below_differ e.0 es both.0, sorted_differ es both.1)

-- and no two of its names are the same
pub names_differ : (m : Attributes) → IsDistinct (eq_by_cmp (slice_cmp nat_cmp)) (map (λ (e : List ℕ × Attribute). e.0) (entries m))
names_differ m = sorted_differ (entries m) (entries_sorted m)
