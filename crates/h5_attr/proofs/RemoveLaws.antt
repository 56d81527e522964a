-- The attributes of a header without one of them.
use Rattle.std.proofs.Common.{◌≡◌, ℕ, ◌≤◌, ◌==◌, Bool, true, false, cond, if◌then◌else◌, List, [], ◌∷◌, ◌++◌, map, Option, Some, None, refl, sym, ap, ◌∙◌, subst, nat_eq}
use Rattle.std.specs.Ordering.{nat_cmp, eq_by_cmp}
use Rattle.std.specs.Cmp.{eq_by_cmp_equiv}
use Rattle.std.specs.Cmp.Lexicographic.{slice_cmp, nat_list_cmp_total, pointwise, same_text, texts_ties}
use Rattle.std.specs.Option.{option_map_or}
use Rattle.std.specs.List.{AllByRecursion, AllZip, filter, IsDistinct}
use Rattle.std.specs.FinMap.{find as value_at, remove, from_entries, get-from_entries, get-remove, same_map, nat_cmp-IsAntisymmetric, slice_cmp-IsAntisymmetric}
use Rattle.std.proofs.lemmas.List.Elements.{filter-append}
use Rattle.h5_model.specs.Format.AttributeBody.{attribute_of}
use Rattle.h5_model.specs.Format.Limits.{most_cells}
use Rattle.h5_model.specs.Format.MessageTypes.{nil_kind, attribute_kind}
use Rattle.h5_model.specs.Format.Messages.{Message}
use Rattle.h5_model.specs.Format.Reads.{HasAttributes, is_attribute_message}
use Rattle.h5_model.specs.Tree.Objects.{Attribute, Attributes}
use Rattle.h5_model.specs.Tree.Places.{extent_cells}
use Rattle.h5_attr.specs.Attributes.{is_attribute_named}

abbrev pub Entry : Type 0
Entry = List ℕ × Attribute

abbrev pub Says : Message → Entry → Type 0
Says m a = attribute_of m.body ≡ Some a

abbrev pub same : List ℕ → List ℕ → Bool
same = eq_by_cmp (slice_cmp nat_cmp)

-- a message has the attribute of a name
pub named : (name : List ℕ) (x : Message) → is_attribute_named name x ≡ true → (is_attribute_message x ≡ true) × ((a : Attribute) × Says x (name, a))
named name x holds = go (is_attribute_message x) refl where
  says : (o : Option Entry) → option_map_or (λ (a : Entry). pointwise nat_eq name a.0) o false ≡ true → (a : Attribute) × (o ≡ Some (name, a))
  says None e = absurd (cc)
  says (Some a) e = (a.1, ap (λ (n : List ℕ). Some (n, a.1)) (sym (same_text name a.0 (sym e))))

  go : (b : Bool) → is_attribute_message x ≡ b → (is_attribute_message x ≡ true) × ((a : Attribute) × Says x (name, a))
  go true is = (is, says (attribute_of x.body) (rw is at holds))
  go false is = absurd (let no : false ≡ true = rw is at holds in cc)

-- entries that are told by messages, cut at one of these
record IsToldCut (front : List Message) (x : Message) (back : List Message) (listed : List Entry) : Type 0 where
  before : List Entry
  entry : Entry
  behind : List Entry
  whole : listed ≡ before ++ entry ∷ behind
  left : AllZip Says front before
  here : Says x entry
  right : AllZip Says back behind

told_cut : (front : List Message) (x : Message) (back : List Message) (listed : List Entry) → AllZip Says (front ++ x ∷ back) listed → IsToldCut front x back listed
told_cut [] x back [] each = absurd each
told_cut [] x back (e ∷ listed) each = record { before = []; entry = e; behind = listed; whole = refl; left = tt; here = each.0; right = each.1 }
told_cut (f ∷ front) x back [] each = absurd each
told_cut (f ∷ front) x back (e ∷ listed) each =
    let rest = told_cut front x back listed each.1 in
    record {
      before = e ∷ rest.before;
      entry = rest.entry;
      behind = rest.behind;
      whole = ap (λ (es : List Entry). e ∷ es) rest.whole;
      left = (each.0, rest.left);
      here = rest.here;
      right = rest.right;
    }

told_join : (front back : List Message) (before behind : List Entry) → AllZip Says front before → AllZip Says back behind → AllZip Says (front ++ back) (before ++ behind)
told_join [] back [] behind left right = right
told_join [] back (e ∷ before) behind left right = absurd left
told_join (f ∷ front) back [] behind left right = absurd left
told_join (f ∷ front) back (e ∷ before) behind left right = (left.0, told_join front back before behind left.1 right)

abbrev pub names : List Entry → List (List ℕ)
names es = map (λ (a : Entry). a.0) es

abbrev pub Differs : List ℕ → List Entry → Type 0
Differs n es = AllByRecursion (λ (m : List ℕ). same n m ≡ false) (names es)

differs_less : (n : List ℕ) (es : List Entry) (e : Entry) (more : List Entry) → Differs n (es ++ e ∷ more) → Differs n (es ++ more)
differs_less n [] e more all = all.1
differs_less n (x ∷ es) e more all = (all.0, differs_less n es e more all.1)

differs_at : (n : List ℕ) (es : List Entry) (e : Entry) (more : List Entry) → Differs n (es ++ e ∷ more) → same n e.0 ≡ false
differs_at n [] e more all = all.0
differs_at n (x ∷ es) e more all = differs_at n es e more all.1

less_distinct : (es : List Entry) (e : Entry) (more : List Entry) → IsDistinct same (names (es ++ e ∷ more)) → IsDistinct same (names (es ++ more))
unfolding IsDistinct
less_distinct [] e more all = all.1
less_distinct (x ∷ es) e more all = (differs_less x.0 es e more all.0, less_distinct es e more all.1)

less_small : (P : Entry → Type 0) (es : List Entry) (e : Entry) (more : List Entry) → AllByRecursion P (es ++ e ∷ more) → AllByRecursion P (es ++ more)
less_small P [] e more all = all.1
less_small P (x ∷ es) e more all = (all.0, less_small P es e more all.1)

-- no entry ties with a name that differs from all
pub none_there : (n : List ℕ) (es : List Entry) → Differs n es → value_at (slice_cmp nat_cmp) n es ≡ None
none_there n [] all = refl
none_there n (e ∷ es) all = rw all.0 (none_there n es all.1)

skips : (q : List ℕ) (es : List Entry) (e : Entry) (more : List Entry) → same q e.0 ≡ false
    → value_at (slice_cmp nat_cmp) q (es ++ e ∷ more) ≡ value_at (slice_cmp nat_cmp) q (es ++ more)
skips q [] e more other = rw other refl
skips q (x ∷ es) e more other = ap (cond (same q x.0) (Some x.1)) (skips q es e more other)

pub turned : (m n : List ℕ) → same m n ≡ same n m
turned m n = (eq_by_cmp_equiv nat_list_cmp_total).symm m n

-- the name of one entry is no other's
others_differ : (es : List Entry) (e : Entry) (more : List Entry) → IsDistinct same (names (es ++ e ∷ more)) → Differs e.0 (es ++ more)
unfolding IsDistinct
others_differ [] e more all = all.0
others_differ (x ∷ es) e more all = (turned e.0 x.0 ∙ differs_at x.0 es e more all.0, others_differ es e more all.1)

-- the map without the name of an entry is that of the others
less_map : (es : List Entry) (e : Entry) (more : List Entry) → IsDistinct same (names (es ++ e ∷ more))
    → remove (from_entries {R = slice_cmp nat_cmp} (es ++ e ∷ more)) e.0 ≡ from_entries (es ++ more)
less_map es e more distinct =
    same_map nat_list_cmp_total (slice_cmp-IsAntisymmetric nat_cmp-IsAntisymmetric) _ _ (λ q.
    get-remove nat_list_cmp_total (from_entries (es ++ e ∷ more)) e.0 q
    ∙ ap (cond (same q e.0) None) (get-from_entries nat_list_cmp_total (es ++ e ∷ more) q)
    ∙ go q (same q e.0) refl
    ∙ sym (get-from_entries nat_list_cmp_total (es ++ more) q)) where
      go : (q : List ℕ) (b : Bool) → same q e.0 ≡ b → cond (same q e.0) None (value_at (slice_cmp nat_cmp) q (es ++ e ∷ more)) ≡ value_at (slice_cmp nat_cmp) q (es ++ more)
      go q true is =
          let equal : q ≡ e.0 = same_text q e.0 (sym (texts_ties q e.0 ∙ is)) in
          ap (λ (b : Bool). cond b None (value_at (slice_cmp nat_cmp) q (es ++ e ∷ more))) is
          ∙ sym (ap (λ (n : List ℕ). value_at (slice_cmp nat_cmp) n (es ++ more)) equal ∙ none_there e.0 (es ++ more) (others_differ es e more distinct))
      go q false is = ap (λ (b : Bool). cond b None (value_at (slice_cmp nat_cmp) q (es ++ e ∷ more))) is ∙ skips q es e more is

-- a header one of whose attributes is NIL now has the others
pub has_others : (front : List Message) (x y : Message) (back : List Message) (name : List ℕ) → is_attribute_named name x ≡ true → y.kind ≡ nil_kind
    → (attributes : Attributes) → HasAttributes (front ++ x ∷ back) attributes → HasAttributes (front ++ y ∷ back) (remove attributes name)
has_others front x y back name holds nil attributes has =
    let is = named name x holds in
    let these : List Message → List Message = filter is_attribute_message in
    let before : these (front ++ x ∷ back) ≡ these front ++ x ∷ these back
    = filter-append is_attribute_message front (x ∷ back) ∙ ap (λ (b : Bool). these front ++ (if b then x ∷ these back else these back)) is.0 in
    let out : is_attribute_message y ≡ false = ap (λ k. k == attribute_kind) nil in
    let after : these (front ++ y ∷ back) ≡ these front ++ these back
    = filter-append is_attribute_message front (y ∷ back) ∙ ap (λ (b : Bool). these front ++ (if b then y ∷ these back else these back)) out in
    let cut = told_cut (these front) x (these back) has.listed (subst (λ (ms : List Message). AllZip Says ms has.listed) before has.each) in
    let distinct : IsDistinct same (names (cut.before ++ cut.entry ∷ cut.behind)) = subst (λ (es : List Entry). IsDistinct same (names es)) cut.whole has.distinct in
    let small = subst (AllByRecursion (λ (a : Entry). extent_cells (a.1).sizes ≤ most_cells)) cut.whole has.small in
    let one : Some cut.entry ≡ Some (name, is.1.0) = sym cut.here ∙ is.1.1 in
    let called : (cut.entry).0 ≡ name = ap (λ (o : Option Entry). option_map_or (λ (a : Entry). a.0) o []) one in
    record {
      listed = cut.before ++ cut.behind;
      each = subst (λ (ms : List Message). AllZip Says ms (cut.before ++ cut.behind)) (sym after) (told_join (these front) (these back) cut.before cut.behind cut.left cut.right);
      distinct = less_distinct cut.before cut.entry cut.behind distinct;
      small = less_small (λ (a : Entry). extent_cells (a.1).sizes ≤ most_cells) cut.before cut.entry cut.behind small;
      all = ap (λ (n : List ℕ). remove attributes n) (sym called)
          ∙ ap (λ (m : Attributes). remove m (cut.entry).0) (has.all ∙ ap from_entries cut.whole)
          ∙ less_map cut.before cut.entry cut.behind distinct;
    }
