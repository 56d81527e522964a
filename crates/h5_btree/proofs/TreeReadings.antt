-- What the bytes of single nodes say after an edit, as what is read where the tree owns nodes; and a tree by its rows, as a tree of
-- the image again.
use Rattle.std.proofs.Common.{◌≡◌, ◌≢◌, ℕ, zero, suc, ◌<◌, ◌≤◌, List, [], ◌∷◌, ◌++◌, refl, sym, ap, ◌∙◌, subst, arith, Bool, true, false, ◌==◌, ◌^◌}
use Rattle.std.specs.Prelude.{if◌then◌else◌}
use Rattle.std.specs.List.{list_any, insert, AllByRecursion}
use Rattle.std.proofs.lemmas.Bool.{or_right}
use Rattle.h5_bytes.specs.Bytes.{undefined_address}
use Rattle.h5_bytes.specs.Blocks.{Inside}
use Rattle.h5_bytes.proofs.BlockLaws.{all_append}
use Rattle.h5_model.specs.Format.Limits.{highest_level}
use Rattle.h5_model.specs.Format.Rows.{Node, Reading, blank, only, next_row, IsRow, AreRows, nodes}
use Rattle.h5_model.specs.Format.Nodes.{Kind, IsNode, HasTree, entries_in, node_at, node_bytes, reading_of, tree_blocks}
use Rattle.h5_model.proofs.RowLaws.{Agree, AreRows-same, nodes-same, leaves-same, at_listed, all_listed, equal_number, same_number}
use Rattle.h5_btree.specs.Climb.{IsNoNode, IsTreeOf, Refills, Splits, RaisesRoot, Unlinks}

-- this address is listed
abbrev pub Listed : List ℕ → ℕ → Type 0
Listed owned n = list_any (λ m. m == n) owned ≡ true

-- a node of a tree that has one node more
pub owns_more : (q n : ℕ) (own : List ℕ) → Listed own n → Listed (q ∷ own) n
owns_more q n own is = or_right (q == n) (list_any (λ m. m == n) own) is

pub owns_new : (q : ℕ) (own : List ℕ) → Listed (q ∷ own) q
owns_new q own = rw (same_number q) refl

module _ (f : ℕ → Node) (owned : List ℕ) where
  pub owned_at : (n : ℕ) → Listed owned n → only blank f owned n ≡ f n
  owned_at n is = rw is refl

  pub owned_of_level : (n : ℕ) → (only blank f owned n).level < 16 → Listed owned n
  owned_of_level n low = go (list_any (λ m. m == n) owned) low where
    go : (b : Bool) → (if b then f n else blank).level < 16 → b ≡ true
    go true lower = refl
    go false lower = absurd (omega (arith, lower))

  pub free_of_none : (n : ℕ) → list_any (λ m. m == n) owned ≡ false → IsNoNode (only blank f owned) n
  free_of_none n none = rw none (omega arith)

-- no node of a tree that lies in an image stands at the undefined address
pub undefined_is_none : (kind : Kind) (owned : List ℕ) (end : ℕ) → end < 2 ^ 64 → Inside end (tree_blocks kind owned) → list_any (λ m. m == undefined_address) owned ≡ false
undefined_is_none kind [] end low inside = refl
undefined_is_none kind (n ∷ owned) end low inside = go (n == undefined_address) refl (undefined_is_none kind owned end low inside.1) where
  go : (b : Bool) → (n == undefined_address) ≡ b → list_any (λ m. m == undefined_address) owned ≡ false → list_any (λ m. m == undefined_address) (n ∷ owned) ≡ false
  go false e rest = rw (e, rest) refl
  go true e rest =
      let same : n ≡ undefined_address = equal_number n undefined_address e in
      absurd (omega (arith, same, inside.0, low))

-- ---- an edit, node by node

module _ (f g : ℕ → Node) (owned own : List ℕ) where
  abbrev V : Reading
  V = only blank f owned

  abbrev W : Reading
  W = only blank g own

  stays : (n : ℕ) → Listed owned n → Listed own n → g n ≡ f n → W n ≡ V n
  stays n was is same = owned_at g own n is ∙ same ∙ sym (owned_at f owned n was)

  -- a node has other children and keys
  pub refills_in : (p : ℕ) (children : List ℕ) (keys : List (List ℕ)) → Listed owned p → Listed own p
      → g p ≡ record (f p) { keys = keys; children = children }
      → ((n : ℕ) → Listed owned n → n ≢ p → Listed own n × (g n ≡ f n)) → Refills V W p children
  refills_in p children keys was is at_p others = record {
    keys = keys;
    node = owned_at g own p is ∙ at_p ∙ ap (λ (n : Node). record n { keys = keys; children = children }) (sym (owned_at f owned p was));
    others = λ n low other.
        let here = owned_of_level f owned n low in
        let o = others n here other in
        stays n here o.0 o.1;
  }

  -- a node is split
  pub splits_in : (p j child q : ℕ) (xs ys : List ℕ) (keys keys_q : List (List ℕ)) → Listed owned p → Listed own p → Listed own q
      → xs ++ ys ≡ insert (f p).children j child
      → g p ≡ record (f p) { right = q; keys = keys; children = xs }
      → g q ≡ record { level = (f p).level; left = p; right = (f p).right; keys = keys_q; children = ys }
      → (Listed owned (f p).right → Listed own (f p).right × (g (f p).right ≡ record (f (f p).right) { left = q }))
      → ((n : ℕ) → Listed owned n → n ≢ p → n ≢ (f p).right → Listed own n × (g n ≡ f n)) → Splits V W p j child q
  splits_in p j child q xs ys keys keys_q was is is_q joined at_p at_q at_next others =
      let here : V p ≡ f p = owned_at f owned p was in
      let right : (V p).right ≡ (f p).right = ap (λ (n : Node). n.right) here in
      record {
        xs = xs;
        ys = ys;
        joined = joined ∙ ap (λ (n : Node). insert n.children j child) (sym here);
        keys = keys;
        keys_q = keys_q;
        at_p = owned_at g own p is ∙ at_p ∙ ap (λ (n : Node). record n { right = q; keys = keys; children = xs }) (sym here);
        at_q = owned_at g own q is_q ∙ at_q ∙ ap (λ (n : Node). record { level = n.level; left = p; right = n.right; keys = keys_q; children = ys }) (sym here);
        at_next = subst (λ (r : ℕ). (V r).level < 16 → W r ≡ record (V r) { left = q }) (sym right) (λ low.
            let listed = owned_of_level f owned (f p).right low in
            let next = at_next listed in
            owned_at g own (f p).right next.0 ∙ next.1 ∙ ap (λ (n : Node). record n { left = q }) (sym (owned_at f owned (f p).right listed)));
        others = λ n low other far.
            let listed = owned_of_level f owned n low in
            let o = others n listed other (λ e. far (e ∙ sym right)) in
            stays n listed o.0 o.1;
      }

  -- the root is split
  pub raises_in : (root j child p q : ℕ) (xs ys : List ℕ) (keys keys_p keys_q : List (List ℕ)) → Listed owned root → Listed own root → Listed own p → Listed own q
      → xs ++ ys ≡ insert (f root).children j child
      → g root ≡ record { level = suc (f root).level; left = undefined_address; right = undefined_address; keys = keys; children = p ∷ q ∷ [] }
      → g p ≡ record { level = (f root).level; left = undefined_address; right = q; keys = keys_p; children = xs }
      → g q ≡ record { level = (f root).level; left = p; right = undefined_address; keys = keys_q; children = ys }
      → ((n : ℕ) → Listed owned n → n ≢ root → Listed own n × (g n ≡ f n))
      → (r : RaisesRoot V W root j child) × (r.p ≡ p) × (r.q ≡ q)
  raises_in root j child p q xs ys keys keys_p keys_q was is is_p is_q joined at_root at_p at_q others =
      let here : V root ≡ f root = owned_at f owned root was in (
        record {
          p = p;
          q = q;
          xs = xs;
          ys = ys;
          joined = joined ∙ ap (λ (n : Node). insert n.children j child) (sym here);
          keys = keys;
          keys_p = keys_p;
          keys_q = keys_q;
          at_root = owned_at g own root is ∙ at_root
              ∙ ap (λ (n : Node). record { level = suc n.level; left = undefined_address; right = undefined_address; keys = keys; children = p ∷ q ∷ [] }) (sym here);
          at_p = owned_at g own p is_p ∙ at_p ∙ ap (λ (n : Node). record { level = n.level; left = undefined_address; right = q; keys = keys_p; children = xs }) (sym here);
          at_q = owned_at g own q is_q ∙ at_q ∙ ap (λ (n : Node). record { level = n.level; left = p; right = undefined_address; keys = keys_q; children = ys }) (sym here);
          others = λ n low other.
              let listed = owned_of_level f owned n low in
              let o = others n listed other in
              stays n listed o.0 o.1;
        },
        refl,
        refl,
      )

  -- a node goes
  pub unlinks_in : (p : ℕ) → Listed owned p
      → (Listed owned (f p).left → Listed own (f p).left × (g (f p).left ≡ record (f (f p).left) { right = (f p).right }))
      → (Listed owned (f p).right → Listed own (f p).right × (g (f p).right ≡ record (f (f p).right) { left = (f p).left }))
      → ((n : ℕ) → Listed owned n → n ≢ p → n ≢ (f p).left → n ≢ (f p).right → Listed own n × (g n ≡ f n)) → Unlinks V W p
  unlinks_in p was at_left at_right others =
      let here : V p ≡ f p = owned_at f owned p was in
      let left : (V p).left ≡ (f p).left = ap (λ (n : Node). n.left) here in
      let right : (V p).right ≡ (f p).right = ap (λ (n : Node). n.right) here in
      record {
        at_left = subst (λ (l : ℕ). (V l).level < 16 → W l ≡ record (V l) { right = (V p).right }) (sym left) (λ low.
            let listed = owned_of_level f owned (f p).left low in
            let next = at_left listed in
            owned_at g own (f p).left next.0 ∙ next.1
            ∙ ap (λ (n : Node). record n { right = (f p).right }) (sym (owned_at f owned (f p).left listed))
            ∙ ap (λ (r : ℕ). record (V (f p).left) { right = r }) (sym right));
        at_right = subst (λ (r : ℕ). (V r).level < 16 → W r ≡ record (V r) { left = (V p).left }) (sym right) (λ low.
            let listed = owned_of_level f owned (f p).right low in
            let next = at_right listed in
            owned_at g own (f p).right next.0 ∙ next.1
            ∙ ap (λ (n : Node). record n { left = (f p).left }) (sym (owned_at f owned (f p).right listed))
            ∙ ap (λ (l : ℕ). record (V (f p).right) { left = l }) (sym left));
        others = λ n low other far_left far_right.
            let listed = owned_of_level f owned n low in
            let o = others n listed other (λ e. far_left (e ∙ sym left)) (λ e. far_right (e ∙ sym right)) in
            stays n listed o.0 o.1;
      }

-- ---- a tree by its rows is a tree of the image

levels_of_row : (V : Reading) (level left : ℕ) (row : List ℕ) → level < 16 → IsRow V level left row → AllByRecursion (λ n. (V n).level < 16) row
levels_of_row V level left [] low is = tt
levels_of_row V level left (n ∷ row) low is = (omega (arith, is.0, low), levels_of_row V level n row low is.3)

pub levels_of : (V : Reading) (level : ℕ) (row : List ℕ) → level < 16 → AreRows V level row → AllByRecursion (λ n. (V n).level < 16) (nodes V level row)
levels_of V zero row low are = levels_of_row V 0 undefined_address row low are
levels_of V (suc level) row low are =
    all_append (λ n. (V n).level < 16) row (nodes V level (next_row V row)) (levels_of_row V (suc level) undefined_address row low are.0)
    (levels_of V level (next_row V row) (omega (arith, low)) are.1)

-- what holds of each owned node holds of those that stand in rows
pub in_rows : (f : ℕ → Node) (owned : List ℕ) (P : ℕ → Type 0) → AllByRecursion P owned → (xs : List ℕ) → AllByRecursion (λ n. (only blank f owned n).level < 16) xs → AllByRecursion P xs
in_rows f owned P all [] low = tt
in_rows f owned P all (x ∷ xs) low = (at_listed P owned x all (owned_of_level f owned x low.0), in_rows f owned P all xs low.1)

-- the reading of those nodes alone agrees there
agree_alone : (f : ℕ → Node) (owned part : List ℕ) (xs : List ℕ) → AllByRecursion (Listed part) xs → AllByRecursion (λ n. (only blank f owned n).level < 16) xs
    → Agree (only blank f owned) (only blank f part) xs
agree_alone f owned part [] is low = tt
agree_alone f owned part (x ∷ xs) is low = (
  owned_at f part x is.0 ∙ sym (owned_at f owned x (owned_of_level f owned x low.0)),
  agree_alone f owned part xs is.1 low.1,
)

pub has_tree_again : (image : List ℕ) (kind : Kind) (root level : ℕ) (own list : List ℕ) → level ≤ highest_level
    → IsTreeOf (reading_of image kind own) level root list → AllByRecursion (λ at. IsNode kind (node_bytes image kind at)) own
    → (1 ≤ level → AllByRecursion (λ at. 1 ≤ entries_in (node_bytes image kind at)) own)
    → HasTree image kind root level (nodes (reading_of image kind own) level (root ∷ [])) list
has_tree_again image kind root level own list low is formed filled =
    let f = node_at image kind in
    let W = reading_of image kind own in
    let owned = nodes W level (root ∷ []) in
    let levels = levels_of W level (root ∷ []) (omega (arith, low)) is.0 in
    let same : Agree W (reading_of image kind owned) owned = agree_alone f own owned owned (all_listed owned) levels in
    record {
      low = low;
      formed = in_rows f own (λ at. IsNode kind (node_bytes image kind at)) formed owned levels;
      filled = λ above. in_rows f own (λ at. 1 ≤ entries_in (node_bytes image kind at)) (filled above) owned levels;
      rows = AreRows-same W (reading_of image kind owned) level (root ∷ []) same is.0;
      owns = sym (nodes-same W (reading_of image kind owned) level (root ∷ []) same);
      all = sym is.1 ∙ sym (leaves-same W (reading_of image kind owned) level (root ∷ []) same);
    }
