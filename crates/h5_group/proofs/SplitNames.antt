-- The names of a symbol node that is cut in two, with a new one in its place: the key between the halves is the last name on the left, and lies
-- between the keys around the symbol node (File Format Specification 3.0, sections III.A.1 and III.B).
use Rattle.std.proofs.Common.{◌≡◌, inl, inr, ℕ, ◌≤◌, List, [], ◌∷◌, ◌++◌, map, length, refl, sym, ap, ◌∙◌, subst, arith}
use Rattle.std.specs.Prelude.{slice_index_or}
use Rattle.std.specs.List.{AllByRecursion}
use Rattle.std.proofs.lemmas.List.{map-append}
use Rattle.h5_bytes.specs.Texts.{text_at}
use Rattle.h5_bytes.proofs.BlockLaws.{all_left, all_right}
use Rattle.h5_model.specs.Format.Links.{Before, NotAfter, offset_in, symbol_nodes_below}
use Rattle.h5_model.specs.Format.Rows.{Node, Reading}
use Rattle.h5_model.specs.Format.Symbols.{Entry}
use Rattle.h5_model.proofs.TextOrder.{before_le, not_after_trans}
use Rattle.h5_laws.specs.KeyEdits.{IsPut, LetIn, Two}
use Rattle.h5_laws.specs.NameLadders.{key_text, name_sides}
use Rattle.h5_laws.proofs.KeyInserts.{put_all}
use Rattle.h5_laws.proofs.KeyInstances.{not_after_or}
use Rattle.h5_btree.proofs.KeyedNames.{AreAscending, IsNameGrown, name_cut}

-- keys between which a name lies let it in
pub lets_between : (text : List ℕ → List ℕ) (name low high : List ℕ) → Before (text low) name → NotAfter name (text high) → LetIn (name_sides text) name low high
lets_between text name low high right left = record {
  right = right;
  left = left;
  lower = λ k never. elim (not_after_or name (text k)) [
    | inl is ↦ not_after_trans (text low) name (text k) (before_le (text low) name right) is
    | inr before ↦ absurd (never before)
  ];
  higher = λ k never. elim (not_after_or name (text k)) [
    | inl is ↦ absurd (never is)
    | inr before ↦ not_after_trans (text k) name (text high) (before_le (text k) name before) left
  ];
}

-- below a child of a node of level 0 there is the child alone
pub below_bottom : (V : Reading) (node : Node) (i : ℕ) → node.level ≡ 0 → symbol_nodes_below V node i ≡ slice_index_or node.children i 0 ∷ []
below_bottom V node i is = rw is refl

-- a list that has elements has a last one
pub with_last : {X : Type 0} (xs : List X) → 1 ≤ length xs → (front : List X) × (x : X) × (xs ≡ front ++ x ∷ [])
with_last [] some = absurd (omega (arith, some))
with_last (x ∷ []) some = ([], x, refl)
with_last {X} (x ∷ y ∷ more) some =
    let rest = with_last (y ∷ more) (omega arith) in
    (x ∷ rest.0, rest.1, ap (λ (zs : List X). x ∷ zs) rest.2)

module _ (segment : List ℕ) (e : Entry) (xs ys lf : List Entry) (le : Entry) (left right : List Entry) (now : left ++ right ≡ xs ++ e ∷ ys) (last : left ≡ lf ++ le ∷ [])
    (above : AllByRecursion (λ other. Before other (text_at segment e.name)) (map (λ (o : Entry). text_at segment o.name) xs))
    (below : AllByRecursion (Before (text_at segment e.name)) (map (λ (o : Entry). text_at segment o.name) ys))
    (key : List ℕ) (key_is : offset_in key ≡ le.name) where
  abbrev name_of : Entry → List ℕ
  name_of o = text_at segment o.name

  abbrev x : List ℕ
  x = text_at segment e.name

  left_is : map name_of left ≡ map name_of lf ++ name_of le ∷ []
  left_is = ap (map name_of) last ∙ map-append name_of lf (le ∷ [])

  halves_are : map name_of left ++ map name_of right ≡ map name_of xs ++ x ∷ map name_of ys
  halves_are = sym (map-append name_of left right) ∙ ap (map name_of) now ∙ map-append name_of xs (e ∷ ys)

  pub node_put : IsPut Before x (map name_of (xs ++ ys)) (map name_of left ++ map name_of right)
  node_put = record {
    front = map name_of xs;
    back = map name_of ys;
    before = map-append name_of xs ys;
    after = halves_are;
    above = above;
    below = below;
  }

  -- the symbol node is cut by this key
  pub cut_grown : AreAscending (map name_of (xs ++ ys)) → IsNameGrown (key_text segment) x (map name_of (xs ++ ys)) (Two (map name_of left) key (map name_of right))
  cut_grown rising =
      subst (λ (ns : List (List ℕ)). IsNameGrown (key_text segment) x (map name_of (xs ++ ys)) (Two ns key (map name_of right))) (sym left_is)
      (name_cut (key_text segment) x (map name_of (xs ++ ys)) (map name_of lf) (name_of le) (map name_of right) key rising
      (subst (λ (ns : List (List ℕ)). IsPut Before x (map name_of (xs ++ ys)) (ns ++ map name_of right)) left_is node_put) (ap (text_at segment) key_is))

  abbrev LiesIn : List ℕ → List ℕ → List ℕ → Type 0
  LiesIn low high name = Before (key_text segment low) name × NotAfter name (key_text segment high)

  -- which lies between the keys around it
  pub key_between : (low high : List ℕ) → AllByRecursion (LiesIn low high) (map name_of (xs ++ ys)) → LiesIn low high x
      → NotAfter (key_text segment low) (key_text segment key) × NotAfter (key_text segment key) (key_text segment high)
  key_between low high old own =
      let all = put_all Before x (LiesIn low high) (map name_of (xs ++ ys)) (map name_of left ++ map name_of right) node_put old own in
      let lefts = subst (AllByRecursion (LiesIn low high)) left_is (all_left (LiesIn low high) (map name_of left) (map name_of right) all) in
      let one : LiesIn low high (key_text segment key)
      = subst (LiesIn low high) (sym (ap (text_at segment) key_is)) (all_right (LiesIn low high) (map name_of lf) (name_of le ∷ []) lefts).0 in
      (before_le (key_text segment low) (key_text segment key) one.0, one.1)
