-- A name comes into the symbol node at the end of a way, between the keys around each child on it: the group's nodes are ordered still, and
-- its names ascend (File Format Specification 3.0, sections III.A.1 and III.B).
use Rattle.std.proofs.Common.{◌≡◌, ℕ, suc, ◌+◌, ◌≤◌, ◌==◌, true, false, IsTrue, List, [], ◌∷◌, ◌++◌, map, get_or, take, drop, refl, sym, ap, ◌∙◌, subst, arith, if◌then◌else◌, append-nil}
use Rattle.std.proofs.lemmas.List.{map-append}
use Rattle.std.specs.Bool.{⊤}
use Rattle.std.specs.List.{AllByRecursion, list_any, remove}
use Rattle.h5_bytes.specs.Texts.{text_at}
use Rattle.h5_bytes.proofs.BlockLaws.{all_right, all_so}
use Rattle.h5_model.specs.Format.Links.{Before, IsBetween, IsOrdered, NotAfter, Symbols, names_in}
use Rattle.h5_model.specs.Format.Nodes.{Kind, node_at, reading_of}
use Rattle.h5_model.specs.Format.Rows.{Reading, only}
use Rattle.h5_model.specs.Format.Symbols.{Entry}
use Rattle.h5_model.specs.Tree.Paths.{is_name}
use Rattle.h5_model.proofs.RowLaws.{only_here}
use Rattle.h5_laws.specs.KeyEdits.{IsPut, LetIn}
use Rattle.h5_laws.specs.NameLadders.{key_text, name_lists, name_sides}
use Rattle.h5_laws.proofs.KeyInstances.{name_parts, name_through}
use Rattle.h5_laws.proofs.NameLadders.{name_order, names_under}
use Rattle.h5_space.specs.Space.{Space}
use Rattle.h5_btree.specs.Keyed.{AtChild, IsInOrder, items_of_tree}
use Rattle.h5_btree.specs.Removal.{EndsInTree}
use Rattle.h5_btree.specs.declared.way.Step.{Step}
use Rattle.h5_btree.proofs.KeyedFills.{filled_sorted}
use Rattle.h5_btree.proofs.KeyedForms.{group_in_order, group_ordered, names_at_child, names_bottom}
use Rattle.h5_btree.proofs.KeyedOrder.{items-tree}
use Rattle.h5_group.proofs.EntryWays.{end_cut}

-- one reading and another of a symbol node that both have
only_one : (f g : Symbols) (listed : List ℕ) (n : ℕ) → f n ≡ g n → only [] f listed n ≡ only [] g listed n
only_one f g listed n same = ap (λ (es : List Entry). if list_any (λ m. m == n) listed then es else []) same

-- a name has a byte, so it is above the empty name
pub above_empty : (name : List ℕ) → IsTrue (is_name name) → Before [] name
above_empty [] named = absurd (let never : false ≡ true = named in cc)
above_empty (b ∷ name) named = refl

module _ (s : Space) (kind : Kind) (root level : ℕ) (way : List Step) (owned listed : List ℕ) (k : ℕ) (e : EndsInTree s kind root level way owned listed k) (some : 1 ≤ kind.k)
    (f g : Symbols) (others : AllByRecursion (λ n. g n ≡ f n) (take k listed ++ drop (suc k) listed))
    (segment name : List ℕ) (low high : List ℕ) (lets : LetIn (name_sides (key_text segment)) name low high)
    (between : AllByRecursion (λ (step : Step). IsBetween segment (node_at s.bytes kind step.node) step.place name) way) where
  abbrev node : ℕ
  node = get_or (node_at s.bytes kind (e.step).node).children (e.step).place 0

  abbrev was : AtChild (List (List ℕ))
  was = names_at_child (only [] f listed) segment

  abbrev now : AtChild (List (List ℕ))
  now = names_at_child (only [] g listed) segment

  abbrev name_of : Entry → List ℕ
  name_of e = text_at segment e.name

  abbrev names : List Entry → List (List ℕ)
  names entries = map name_of entries

  abbrev Y : Reading
  Y = reading_of s.bytes kind owned

  same : AllByRecursion (λ c. (key : List ℕ) → now key c ≡ was key c) (remove listed k)
  same = all_so (λ n. g n ≡ f n) (λ c. (key : List ℕ) → now key c ≡ was key c) (remove listed k)
      (λ c is key. ap (λ (es : List Entry). names (es ++ [])) (only_one g f listed c is)) others

  here : (h : Symbols) → only [] h listed node ≡ h node
  here h =
      let all = subst (AllByRecursion (λ n. h n ≡ only [] h listed n)) (end_cut s kind root level way owned listed k e) (only_here [] h listed) in
      sym ((all_right (λ n. h n ≡ only [] h listed n) (take k listed) (node ∷ drop (suc k) listed) all).0)

  at_node : (h : Symbols) (entries : List Entry) → h node ≡ entries → names_in (only [] h listed) segment (node ∷ []) ≡ names entries
  at_node h entries is = ap names (append-nil (only [] h listed node) ∙ here h ∙ is)

  own_between : AllByRecursion (λ (step : Step). IsBetween segment (node_at s.bytes kind step.node) step.place name) (e.step ∷ e.above)
  own_between = subst (AllByRecursion (λ (step : Step). IsBetween segment (node_at s.bytes kind step.node) step.place name)) e.way_is between

  abbrev Admits : Step → Type 0
  Admits st = (name_sides (key_text segment)).Right (get_or (node_at s.bytes kind st.node).keys st.place []) name
      × (name_sides (key_text segment)).Left name (get_or (node_at s.bytes kind st.node).keys (suc st.place) [])

  admits : (st : Step) → IsBetween segment (node_at s.bytes kind st.node) st.place name → Admits st
  admits st is = let next : st.place + 1 ≡ suc st.place = omega arith in
      (is.0, subst (λ (i : ℕ). NotAfter name (key_text segment (get_or (node_at s.bytes kind st.node).keys i []))) next is.1)

  -- all names, as the tree has them from left to right
  all_names : (h : Symbols) → items_of_tree (λ (b : List (List ℕ)). b) s.bytes kind (names_at_child (only [] h listed) segment) level root
      ≡ names_in (only [] h listed) segment listed
  all_names h =
      items-tree (name_sides (key_text segment)) (λ (b : List (List ℕ)). b) (λ (b : List (List ℕ)). ⊤) (names_at_child (only [] h listed) segment) s.bytes kind root level owned listed
      e.tree (name_lists (only [] h listed) segment) (names_bottom s.bytes kind owned (only [] h listed) segment)
      ∙ names_under Y (only [] h listed) segment level root ∙ ap (names_in (only [] h listed) segment) (sym (e.tree).all)

  module _ (front back : List Entry) (new : Entry) (name_is : name_of new ≡ name) (f_is : f node ≡ front ++ back) (g_is : g node ≡ front ++ new ∷ back)
      (above : AllByRecursion (λ other. Before other name) (names front)) (below : AllByRecursion (λ other. Before name other) (names back))
      (ordered : AllByRecursion (λ at. IsOrdered Y (only [] f listed) segment (Y at)) owned) where
    node_put : IsPut Before name (names_in (only [] f listed) segment (node ∷ [])) (names_in (only [] g listed) segment (node ∷ []))
    node_put = record {
      front = names front;
      back = names back;
      before = at_node f (front ++ back) f_is ∙ map-append name_of front back;
      after = at_node g (front ++ new ∷ back) g_is ∙ map-append name_of front (new ∷ back) ∙ ap (λ (n : List ℕ). names front ++ n ∷ names back) name_is;
      above = above;
      below = below;
    }

    filled : IsInOrder (name_sides (key_text segment)) (λ (b : List (List ℕ)). b) (λ (b : List (List ℕ)). ⊤) s.bytes kind now level root
        × IsPut Before name (items_of_tree (λ (b : List (List ℕ)). b) s.bytes kind was level root) (items_of_tree (λ (b : List (List ℕ)). b) s.bytes kind now level root)
    filled = filled_sorted (name_sides (key_text segment)) (name_order (key_text segment)) (λ (b : List (List ℕ)). b) (λ (b : List (List ℕ)). ⊤) name
        s kind root level way owned listed k e was now same Before (name_through (key_text segment)) (name_parts (key_text segment)) low high lets some
        (admits e.step own_between.0).0 (admits e.step own_between.0).1 (tt, node_put)
        (all_so (λ (step : Step). IsBetween segment (node_at s.bytes kind step.node) step.place name) Admits e.above admits own_between.1)
        (group_in_order s.bytes kind root level owned listed e.tree (only [] f listed) segment ordered)

    -- THE NODES ARE ORDERED STILL
    pub put_ordered : AllByRecursion (λ at. IsOrdered Y (only [] g listed) segment (Y at)) owned
    put_ordered = group_ordered s.bytes kind root level owned listed e.tree (only [] g listed) segment filled.0

    -- AND THE NAME COMES IN AT ITS PLACE
    pub names_put : IsPut Before name (names_in (only [] f listed) segment listed) (names_in (only [] g listed) segment listed)
    names_put = subst (λ (ns : List (List ℕ)). IsPut Before name ns (names_in (only [] g listed) segment listed)) (all_names f)
        (subst (IsPut Before name (items_of_tree (λ (b : List (List ℕ)). b) s.bytes kind was level root)) (all_names g) filled.1)
