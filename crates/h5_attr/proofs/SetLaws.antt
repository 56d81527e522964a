-- The attributes of a header with one more.
use Rattle.std.proofs.Common.{◌≡◌, ℕ, ◌≤◌, ◌==◌, Bool, true, false, cond, if◌then◌else◌, List, [], ◌∷◌, ◌++◌, Option, Some, None, position, refl, sym, ap, ◌∙◌, subst, nat_eq}
use Rattle.std.proofs.lemmas.Bool.{or_parts}
use Rattle.std.specs.Ordering.{nat_cmp}
use Rattle.std.specs.Cmp.{eq_by_cmp_equiv}
use Rattle.std.specs.Cmp.Lexicographic.{slice_cmp, nat_list_cmp_total, pointwise, same_text, texts_ties}
use Rattle.std.specs.Option.{option_map_or}
use Rattle.std.specs.List.{AllByRecursion, AllZip, filter, IsDistinct, list_any}
use Rattle.std.specs.FinMap.{get, find as value_at, insert, remove, from_entries, get-from_entries, get-insert, get-remove, same_map, nat_cmp-IsAntisymmetric, slice_cmp-IsAntisymmetric}
use Rattle.h5_model.specs.Format.AttributeBody.{attribute_of}
use Rattle.h5_model.specs.Format.Limits.{most_cells}
use Rattle.h5_model.specs.Format.MessageTypes.{attribute_kind}
use Rattle.h5_model.specs.Format.Messages.{Message}
use Rattle.h5_model.specs.Format.Reads.{HasAttributes, is_attribute_message}
use Rattle.h5_model.specs.Tree.Objects.{Attribute, Attributes}
use Rattle.h5_model.specs.Tree.Places.{extent_cells}
use Rattle.h5_space.proofs.FitLaws.{any_missing}
use Rattle.h5_header.specs.Added.{AddsMessage}
use Rattle.h5_header.proofs.AddedLaws.{adds_among}
use Rattle.h5_attr.specs.Attributes.{is_attribute_named}
use Rattle.h5_attr.proofs.RemoveLaws.{Entry, Says, same, names, Differs, none_there, turned}

-- entries that are told by messages, cut between these
record IsToldSplit (front back : List Message) (listed : List Entry) : Type 0 where
  before : List Entry
  behind : List Entry
  whole : listed ≡ before ++ behind
  left : AllZip Says front before
  right : AllZip Says back behind

told_split : (front back : List Message) (listed : List Entry) → AllZip Says (front ++ back) listed → IsToldSplit front back listed
told_split [] back listed each = record { before = []; behind = listed; whole = refl; left = tt; right = each }
told_split (f ∷ front) back [] each = absurd each
told_split (f ∷ front) back (e ∷ listed) each =
    let rest = told_split front back listed each.1 in
    record {
      before = e ∷ rest.before;
      behind = rest.behind;
      whole = ap (λ (es : List Entry). e ∷ es) rest.whole;
      left = (each.0, rest.left);
      right = rest.right;
    }

told_more : (front back : List Message) (x : Message) (before behind : List Entry) (e : Entry) → AllZip Says front before → Says x e → AllZip Says back behind
    → AllZip Says (front ++ x ∷ back) (before ++ e ∷ behind)
told_more [] back x [] behind e left here right = (here, right)
told_more [] back x (b ∷ before) behind e left here right = absurd left
told_more (f ∷ front) back x [] behind e left here right = absurd left
told_more (f ∷ front) back x (b ∷ before) behind e left here right = (left.0, told_more front back x before behind e left.1 here right)

-- ---- names that differ from all of them

differs_front : (n : List ℕ) (before behind : List Entry) → Differs n (before ++ behind) → Differs n before
differs_front n [] behind all = tt
differs_front n (x ∷ before) behind all = (all.0, differs_front n before behind all.1)

differs_more : (n : List ℕ) (before : List Entry) (e : Entry) (behind : List Entry) → Differs n (before ++ behind) → same n e.0 ≡ false → Differs n (before ++ e ∷ behind)
differs_more n [] e behind all other = (other, all)
differs_more n (x ∷ before) e behind all other = (all.0, differs_more n before e behind all.1 other)

more_distinct : (before : List Entry) (e : Entry) (behind : List Entry) → IsDistinct same (names (before ++ behind)) → Differs e.0 (before ++ behind)
    → IsDistinct same (names (before ++ e ∷ behind))
unfolding IsDistinct
more_distinct [] e behind distinct other = (other, distinct)
more_distinct (x ∷ before) e behind distinct other =
    (differs_more x.0 before e behind distinct.0 (turned x.0 e.0 ∙ other.0), more_distinct before e behind distinct.1 other.1)

more_small : (P : Entry → Type 0) (before : List Entry) (e : Entry) (behind : List Entry) → AllByRecursion P (before ++ behind) → P e → AllByRecursion P (before ++ e ∷ behind)
more_small P [] e behind all here = (here, all)
more_small P (x ∷ before) e behind all here = (all.0, more_small P before e behind all.1 here)

-- a name that finds no entry differs from all
finds_none : (n : List ℕ) (es : List Entry) → value_at (slice_cmp nat_cmp) n es ≡ None → Differs n es
finds_none n [] none = tt
finds_none n (e ∷ es) none = go (finds_none n es) (same n e.0) refl where
  go : (value_at (slice_cmp nat_cmp) n es ≡ None → Differs n es) → (b : Bool) → same n e.0 ≡ b → Differs n (e ∷ es)
  go rest true is = absurd (let some : Some e.1 ≡ None = ap (λ (b : Bool). cond b (Some e.1) (value_at (slice_cmp nat_cmp) n es)) (sym is) ∙ none in cc)
  go rest false is = (is, rest (ap (λ (b : Bool). cond b (Some e.1) (value_at (slice_cmp nat_cmp) n es)) (sym is) ∙ none))

-- ---- the map with an entry more

value_more : (q : List ℕ) (before : List Entry) (e : Entry) (behind : List Entry) → Differs e.0 before
    → value_at (slice_cmp nat_cmp) q (before ++ e ∷ behind) ≡ cond (same q e.0) (Some e.1) (value_at (slice_cmp nat_cmp) q (before ++ behind))
value_more q before e behind other = go (same q e.0) refl where
  here : (xs : List Entry) → Differs e.0 xs → q ≡ e.0 → value_at (slice_cmp nat_cmp) q (xs ++ e ∷ behind) ≡ cond (same q e.0) (Some e.1) (value_at (slice_cmp nat_cmp) q behind)
  here [] all equal = refl
  here (x ∷ xs) all equal =
      ap (λ (b : Bool). cond b (Some x.1) (value_at (slice_cmp nat_cmp) q (xs ++ e ∷ behind))) (ap (λ (n : List ℕ). same n x.0) equal ∙ all.0)
      ∙ here xs all.1 equal

  skips : (xs : List Entry) → same q e.0 ≡ false → value_at (slice_cmp nat_cmp) q (xs ++ e ∷ behind) ≡ value_at (slice_cmp nat_cmp) q (xs ++ behind)
  skips [] differs = ap (λ (b : Bool). cond b (Some e.1) (value_at (slice_cmp nat_cmp) q behind)) differs
  skips (x ∷ xs) differs = ap (cond (same q x.0) (Some x.1)) (skips xs differs)

  go : (b : Bool) → same q e.0 ≡ b → value_at (slice_cmp nat_cmp) q (before ++ e ∷ behind) ≡ cond (same q e.0) (Some e.1) (value_at (slice_cmp nat_cmp) q (before ++ behind))
  go true is =
      let equal : q ≡ e.0 = same_text q e.0 (sym (texts_ties q e.0 ∙ is)) in
      here before other equal
      ∙ ap (λ (b : Bool). cond b (Some e.1) (value_at (slice_cmp nat_cmp) q behind)) is
      ∙ sym (ap (λ (b : Bool). cond b (Some e.1) (value_at (slice_cmp nat_cmp) q (before ++ behind))) is)
  go false is = skips before is ∙ sym (ap (λ (b : Bool). cond b (Some e.1) (value_at (slice_cmp nat_cmp) q (before ++ behind))) is)

more_map : (before : List Entry) (e : Entry) (behind : List Entry) → Differs e.0 (before ++ behind)
    → insert (from_entries {R = slice_cmp nat_cmp} (before ++ behind)) e.0 e.1 ≡ from_entries (before ++ e ∷ behind)
more_map before e behind other =
    same_map nat_list_cmp_total (slice_cmp-IsAntisymmetric nat_cmp-IsAntisymmetric) _ _ (λ q.
    get-insert nat_list_cmp_total (from_entries (before ++ behind)) e.0 e.1 q
    ∙ ap (cond (same q e.0) (Some e.1)) (get-from_entries nat_list_cmp_total (before ++ behind) q)
    ∙ sym (value_more q before e behind (differs_front e.0 before behind other))
    ∙ sym (get-from_entries nat_list_cmp_total (before ++ e ∷ behind) q))

-- a name that is taken out and put in again
insert-remove : (attributes : Attributes) (name : List ℕ) (a : Attribute) → insert (remove attributes name) name a ≡ insert attributes name a
insert-remove attributes name a =
    same_map nat_list_cmp_total (slice_cmp-IsAntisymmetric nat_cmp-IsAntisymmetric) _ _ (λ q.
    get-insert nat_list_cmp_total (remove attributes name) name a q
    ∙ ap (cond (same q name) (Some a)) (get-remove nat_list_cmp_total attributes name q)
    ∙ go q (same q name)
    ∙ sym (get-insert nat_list_cmp_total attributes name a q)) where
      go : (q : List ℕ) (b : Bool) → cond b (Some a) (cond b None (get attributes q)) ≡ cond b (Some a) (get attributes q)
      go q true = refl
      go q false = refl

-- ---- a name that no message has

unnamed : (name : List ℕ) (ms : List Message) (listed : List Entry) → list_any (is_attribute_named name) ms ≡ false → AllZip Says (filter is_attribute_message ms) listed
    → Differs name listed
unnamed name [] [] none each = tt
unnamed name [] (e ∷ listed) none each = absurd each
unnamed name (m ∷ ms) listed none each = go (λ es told. unnamed name ms es rest told) (is_attribute_message m) refl listed each where
  rest : list_any (is_attribute_named name) ms ≡ false
  rest = (or_parts (is_attribute_named name m) (list_any (is_attribute_named name) ms) none).1

  here : is_attribute_named name m ≡ false
  here = (or_parts (is_attribute_named name m) (list_any (is_attribute_named name) ms) none).0

  go : ((es : List Entry) → AllZip Says (filter is_attribute_message ms) es → Differs name es) → (b : Bool) → is_attribute_message m ≡ b → (es : List Entry)
      → AllZip Says (cond b (m ∷ filter is_attribute_message ms) (filter is_attribute_message ms)) es → Differs name es
  go others true is [] told = absurd told
  go others true is (e ∷ es) told =
      let other : pointwise nat_eq name e.0 ≡ false
      = ap (λ (o : Option Entry). option_map_or (λ (x : Entry). pointwise nat_eq name x.0) o false) (sym told.0)
      ∙ ap (λ (b : Bool). option_map_or (λ (x : Entry). pointwise nat_eq name x.0) (if b then attribute_of m.body else None) false) (sym is) ∙ here in
      (sym (texts_ties name e.0) ∙ other, others es told.1)
  go others false is es told = others es told

none_named : (name : List ℕ) (ms : List Message) → position (is_attribute_named name) ms ≡ None → (attributes : Attributes) → HasAttributes ms attributes → get attributes name ≡ None
none_named name ms none attributes has =
    ap (λ (m : Attributes). get m name) has.all ∙ get-from_entries nat_list_cmp_total has.listed name
    ∙ none_there name has.listed (unnamed name ms has.listed (any_missing (is_attribute_named name) ms none) has.each)

removed_none : (attributes : Attributes) (name : List ℕ) → get (remove attributes name) name ≡ None
removed_none attributes name =
    get-remove nat_list_cmp_total attributes name name
    ∙ ap (λ (b : Bool). cond b None (get attributes name)) ((eq_by_cmp_equiv nat_list_cmp_total).refl name)

-- a header without an attribute of this name has the attributes without it
pub none_removed : (name : List ℕ) (ms : List Message) → position (is_attribute_named name) ms ≡ None → (attributes : Attributes) → HasAttributes ms attributes
    → HasAttributes ms (remove attributes name)
none_removed name ms none attributes has = subst (HasAttributes ms) (sym same_without) has where
  same_without : remove attributes name ≡ attributes
  same_without =
      same_map nat_list_cmp_total (slice_cmp-IsAntisymmetric nat_cmp-IsAntisymmetric) _ _ (λ q.
      get-remove nat_list_cmp_total attributes name q ∙ go q (same q name) refl) where
        go : (q : List ℕ) (b : Bool) → same q name ≡ b → cond b None (get attributes q) ≡ get attributes q
        go q true is =
            let equal : q ≡ name = same_text q name (sym (texts_ties q name ∙ is)) in
            sym (ap (λ (n : List ℕ). get attributes n) equal ∙ none_named name ms none attributes has)
        go q false is = refl

-- ---- a message more

-- where no attribute has the name, it is among those of the header afterwards
adds_attribute : (ms ms' : List Message) (body name : List ℕ) (a : Attribute) → AddsMessage ms ms' attribute_kind body → attribute_of body ≡ Some (name, a)
    → extent_cells a.sizes ≤ most_cells → (attributes : Attributes) → HasAttributes ms attributes → get attributes name ≡ None → HasAttributes ms' (insert attributes name a)
adds_attribute ms ms' body name a adds says few attributes has none =
    let among = adds_among (λ k. k == attribute_kind) ms ms' attribute_kind body refl refl refl refl adds in
    let put : Message = record { kind = attribute_kind; at = among.at; body = body } in
    let split = told_split among.front among.back has.listed (subst (λ (these : List Message). AllZip Says these has.listed) among.before has.each) in
    let unnamed : value_at (slice_cmp nat_cmp) name has.listed ≡ None
    = sym (get-from_entries nat_list_cmp_total has.listed name) ∙ ap (λ (m : Attributes). get m name) (sym has.all) ∙ none in
    let other : Differs name (split.before ++ split.behind) = subst (Differs name) split.whole (finds_none name has.listed unnamed) in
    let distinct : IsDistinct same (names (split.before ++ split.behind)) = subst (λ (es : List Entry). IsDistinct same (names es)) split.whole has.distinct in
    let small = subst (AllByRecursion (λ (e : Entry). extent_cells (e.1).sizes ≤ most_cells)) split.whole has.small in
    record {
      listed = split.before ++ (name, a) ∷ split.behind;
      each = subst (λ (these : List Message). AllZip Says these (split.before ++ (name, a) ∷ split.behind)) (sym among.after)
          (told_more among.front among.back put split.before split.behind (name, a) split.left says split.right);
      distinct = more_distinct split.before (name, a) split.behind distinct other;
      small = more_small (λ (e : Entry). extent_cells (e.1).sizes ≤ most_cells) split.before (name, a) split.behind small few;
      all = ap (λ (m : Attributes). insert m name a) (has.all ∙ ap from_entries split.whole) ∙ more_map split.before (name, a) split.behind other;
    }

-- so it is where the one that had it before is out
pub set_attribute : (next ms' : List Message) (body name : List ℕ) (a : Attribute) → AddsMessage next ms' attribute_kind body → attribute_of body ≡ Some (name, a)
    → extent_cells a.sizes ≤ most_cells → (attributes : Attributes) → HasAttributes next (remove attributes name) → HasAttributes ms' (insert attributes name a)
set_attribute next ms' body name a adds says few attributes has =
    subst (HasAttributes ms') (insert-remove attributes name a)
    (adds_attribute next ms' body name a adds says few (remove attributes name) has (removed_none attributes name))
