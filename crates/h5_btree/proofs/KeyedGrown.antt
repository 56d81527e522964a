-- A node into which a child comes, or whose child is cut in two, as a step of an insertion into the tree of keys.
use Rattle.std.proofs.Common.{◌≡◌, inl, inr, ℕ, zero, suc, ◌+◌, ◌-◌, ◌*◌, ◌<◌, ◌≤◌, List, [], ◌∷◌, ◌++◌, length, take, drop, get_or, refl, sym, ap, ap₂, ◌∙◌, arith}
use Rattle.std.specs.List.{insert}
use Rattle.std.proofs.lemmas.List.{length-take-le, length-drop, take-append-drop, take_more}
use Rattle.std.proofs.Math.Seq.{drop-cons}
use Rattle.h5_model.specs.Format.Rows.{Reading}
use Rattle.h5_laws.specs.Ladders.{Sides}
use Rattle.h5_laws.specs.KeyTrees.{KeyTree}
use Rattle.h5_laws.specs.KeyEdits.{Grown, One, Two, Descends, IsHeld, Widens, Inserts}
use Rattle.h5_btree.specs.Keyed.{AtChild, trees_below, keys_from}
use Rattle.h5_btree.proofs.KeyedTrees.{AreAlike, cut_at, tree_below, below_append, below_less, below_long, below_one, below-same}
use Rattle.h5_btree.proofs.KeyedOwn.{keys_behind, keys_cut, long_front, long_trees, trees_cut}

-- ---- lists

-- one more behind the element at a place, or before it
pub insert_behind : {X : Type 0} (xs : List X) (i : ℕ) (d v : X) → i < length xs → insert xs (suc i) v ≡ take i xs ++ get_or xs i d ∷ v ∷ drop (suc i) xs
insert_behind [] i d v low = absurd (omega (arith, low))
insert_behind (x ∷ xs) zero d v low = refl
insert_behind {X} (x ∷ xs) (suc i) d v low = ap (λ (ys : List X). x ∷ ys) (insert_behind xs i d v (omega (arith, low)))

pub insert_before : {X : Type 0} (xs : List X) (i : ℕ) (d v : X) → i < length xs → insert xs i v ≡ take i xs ++ v ∷ get_or xs i d ∷ drop (suc i) xs
insert_before {X} xs i d v low = ap (λ (ys : List X). take i xs ++ v ∷ ys) (drop-cons xs i d low)

-- ---- one node

module _ {B X : Type 0} (sides : Sides (List ℕ) X) (Puts : B → Grown (List ℕ) B → Type 0) (k : ℕ) (x : X) (low high : List ℕ) (Y W : Reading) (was now : AtChild B) where
  -- an insertion below a node of this level
  abbrev pub GoesIn : (m : ℕ) → KeyTree (List ℕ) B m → Grown (List ℕ) (KeyTree (List ℕ) B m) → Type 0
  GoesIn = Inserts sides Puts k x low high

  -- a node of these keys and children has these then, and may have one more than fits
  abbrev pub IsWide : (m : ℕ) → List (List ℕ) → List ℕ → List (List ℕ) → List ℕ → Type 0
  IsWide m keys children keys' children' =
      (w : Descends sides x low high (KeyTree (List ℕ) B m) keys (trees_below Y was m keys children)) × (r : Grown (List ℕ) (KeyTree (List ℕ) B m))
      × GoesIn m w.child r
      × Widens sides x low high (KeyTree (List ℕ) B m) keys (trees_below Y was m keys children) w r keys' (trees_below W now m keys' children')

  module _ (m : ℕ) (keys : List (List ℕ)) (children : List ℕ) (i : ℕ) (long : length keys ≡ length children + 1) (at : i < length children)
      (before : AreAlike Y W was now m (take i children)) (behind : AreAlike Y W was now m (drop (suc i) children)) where
    abbrev kb : List (List ℕ)
    kb = take i keys

    abbrev kk : List ℕ
    kk = get_or keys i []

    abbrev jj : List ℕ
    jj = get_or keys (suc i) []

    abbrev ka : List (List ℕ)
    ka = drop (suc (suc i)) keys

    abbrev c : ℕ
    c = get_or children i 0

    abbrev xs : List ℕ
    xs = take i children

    abbrev ys : List ℕ
    ys = drop (suc i) children

    abbrev Ts : Type 0
    Ts = List (KeyTree (List ℕ) B m)

    left_same : trees_below W now m kb xs ≡ trees_below Y was m kb xs
    left_same = below-same Y W was now m kb xs before

    right_same : trees_below W now m (jj ∷ ka) ys ≡ trees_below Y was m (jj ∷ ka) ys
    right_same = below-same Y W was now m (jj ∷ ka) ys behind

    front : length kb ≡ length xs
    front = long_front Y was m keys children i long at

    -- the keys around the child let the item in
    module _ (right : sides.Right kk x) (left : sides.Left x jj) where
      abbrev descends : Descends sides x low high (KeyTree (List ℕ) B m) keys (trees_below Y was m keys children)
      descends = record {
        kb = kb;
        k = kk;
        j = jj;
        ka = ka;
        xs = trees_below Y was m kb xs;
        child = tree_below Y was m kk c;
        ys = trees_below Y was m (jj ∷ ka) ys;
        l = kk;
        h = jj;
        keys_are = keys_cut Y was m keys children i long at;
        children_are = trees_cut Y was m keys children i long at;
        place = long_trees Y was m keys children i long at;
        low_is = inl (refl, right);
        high_is = inl (refl, left);
      }

      -- the child is one still
      pub wide_same : GoesIn m (tree_below Y was m kk c) (One (tree_below W now m kk c)) → IsWide m keys children keys children
      wide_same goes = (
        descends,
        One (tree_below W now m kk c),
        goes,
        (
          keys_cut Y was m keys children i long at,
          trees_cut W now m keys children i long at ∙ ap₂ (λ (ls rs : Ts). ls ++ tree_below W now m kk c ∷ rs) left_same right_same,
        ),
      )

      -- it was cut in two: the new one comes in behind it
      pub wide_behind : (u v : List ℕ) (q : ℕ) → GoesIn m (tree_below Y was m kk c) (Two (tree_below W now m kk c) u (tree_below W now m v q)) → IsHeld sides kk jj u v
          → IsWide m keys children (insert keys (suc i) v) (insert children (suc i) q)
      wide_behind u v q goes held =
          let ks : insert keys (suc i) v ≡ kb ++ kk ∷ v ∷ jj ∷ ka
          = insert_behind keys i [] v (omega (arith, long, at)) ∙ ap (λ (more : List (List ℕ)). kb ++ kk ∷ v ∷ more) (keys_behind Y was m keys children i long at) in
          let cs : insert children (suc i) q ≡ xs ++ c ∷ q ∷ ys = insert_behind children i 0 q at in (
            descends,
            Two (tree_below W now m kk c) u (tree_below W now m v q),
            goes,
            (
              v,
              held,
              ks,
              ap₂ (trees_below W now m) ks cs ∙ below_append W now m kb (kk ∷ v ∷ jj ∷ ka) xs (c ∷ q ∷ ys) front
                  ∙ ap (λ (ts : Ts). trees_below W now m kb xs ++ ts) (below_one W now m kk (v ∷ jj ∷ ka) c (q ∷ ys))
                  ∙ ap (λ (ts : Ts). trees_below W now m kb xs ++ tree_below W now m kk c ∷ ts) (below_one W now m v (jj ∷ ka) q ys)
                  ∙ ap₂ (λ (ls rs : Ts). ls ++ tree_below W now m kk c ∷ tree_below W now m v q ∷ rs) left_same right_same,
            ),
          )

    -- the first key does not let the item in: the new child comes in before it, with a key that does
    module _ (first : i ≡ 0) (not_right : sides.Right kk x → ⊥) (left : sides.Left x jj) where
      pub wide_before : (q : ℕ) → GoesIn m (tree_below Y was m kk c) (Two (tree_below W now m low q) kk (tree_below W now m kk c)) → sides.Rise low kk → sides.Rise kk jj
          → IsWide m keys children (insert keys i low) (insert children i q)
      wide_before q goes low_rise high_rise =
          let ks : insert keys i low ≡ kb ++ low ∷ kk ∷ jj ∷ ka
          = insert_before keys i [] low (omega (arith, long, at)) ∙ ap (λ (more : List (List ℕ)). kb ++ low ∷ kk ∷ more) (keys_behind Y was m keys children i long at) in
          let cs : insert children i q ≡ xs ++ q ∷ c ∷ ys = insert_before children i 0 q at in (
            record {
              kb = kb;
              k = kk;
              j = jj;
              ka = ka;
              xs = trees_below Y was m kb xs;
              child = tree_below Y was m kk c;
              ys = trees_below Y was m (jj ∷ ka) ys;
              l = low;
              h = jj;
              keys_are = keys_cut Y was m keys children i long at;
              children_are = trees_cut Y was m keys children i long at;
              place = long_trees Y was m keys children i long at;
              low_is = inr (ap (λ (n : ℕ). take n keys) first, refl, not_right);
              high_is = inl (refl, left);
            },
            Two (tree_below W now m low q) kk (tree_below W now m kk c),
            goes,
            (
              kk,
              inr (inr (refl, low_rise, high_rise)),
              ks,
              ap₂ (trees_below W now m) ks cs ∙ below_append W now m kb (low ∷ kk ∷ jj ∷ ka) xs (q ∷ c ∷ ys) front
                  ∙ ap (λ (ts : Ts). trees_below W now m kb xs ++ ts) (below_one W now m low (kk ∷ jj ∷ ka) q (c ∷ ys))
                  ∙ ap (λ (ts : Ts). trees_below W now m kb xs ++ tree_below W now m low q ∷ ts) (below_one W now m kk (jj ∷ ka) c ys)
                  ∙ ap₂ (λ (ls rs : Ts). ls ++ tree_below W now m low q ∷ tree_below W now m kk c ∷ rs) left_same right_same,
            ),
          )

  -- ---- it fits, or is cut in two

  module _ (m : ℕ) (keys : List (List ℕ)) (children : List ℕ) (keys' : List (List ℕ)) (children' : List ℕ) (wide : IsWide m keys children keys' children')
      (long : length keys' ≡ length children' + 1) where
    pub fits_one : (p : ℕ) → (W p).keys ≡ keys' → (W p).children ≡ children' → length children' ≤ 2 * k
        → GoesIn (suc m) (keys, trees_below Y was m keys children) (One (keys_from W now m p))
    fits_one p ks cs roomy =
        let count = below_long W now m keys' children' (omega (arith, long)) in (
          wide.0,
          wide.1,
          wide.2,
          (keys', trees_below W now m keys' children', wide.3, (omega (arith, count, roomy), ks, ap₂ (trees_below W now m) ks cs)),
        )

    pub fits_two : (p q n : ℕ) → (W p).keys ≡ take (n + 1) keys' → (W p).children ≡ take n children' → (W q).keys ≡ drop n keys' → (W q).children ≡ drop n children'
        → length children' ≡ 2 * k + 1 → k ≤ n → n ≤ k + 1 → 1 ≤ k
        → GoesIn (suc m) (keys, trees_below Y was m keys children) (Two (keys_from W now m p) (get_or keys' n []) (keys_from W now m q))
    fits_two p q n kp cp kq cq full least most some =
        let u = get_or keys' n [] in
        let lk = take n keys' in
        let rk = drop (suc n) keys' in
        let one : take (n + 1) keys' ≡ lk ++ u ∷ [] = take_more keys' n [] (omega (arith, long, full, most, some)) in
        let two : drop n keys' ≡ u ∷ rk = drop-cons keys' n [] (omega (arith, long, full, most, some)) in
        let long_lk : length lk ≡ n = length-take-le n keys' (omega (arith, long, full, most, some)) in
        let long_cs : length (take n children') ≡ n = length-take-le n children' (omega (arith, full, most, some)) in
        let front : length lk ≡ length (take n children') = long_lk ∙ sym long_cs in
        let left : trees_below W now m (W p).keys (W p).children ≡ trees_below W now m lk (take n children')
        = ap₂ (trees_below W now m) kp cp ∙ ap (λ (ks : List (List ℕ)). trees_below W now m ks (take n children')) one ∙ below_less W now m lk u (take n children') front in
        let right : trees_below W now m (W q).keys (W q).children ≡ trees_below W now m (drop n keys') (drop n children') = ap₂ (trees_below W now m) kq cq in
        let count_left : length (trees_below W now m (W p).keys (W p).children) ≡ n
        = ap (λ (ts : List (KeyTree (List ℕ) B m)). length ts) left ∙ below_long W now m lk (take n children') (omega (arith, front)) ∙ long_cs in
        let d = length-drop n children' in
        let e = length-drop n keys' in
        let count_right : length (trees_below W now m (W q).keys (W q).children) ≡ length children' - n
        = ap (λ (ts : List (KeyTree (List ℕ) B m)). length ts) right ∙ below_long W now m (drop n keys') (drop n children') (omega (arith, d, e, long)) ∙ d in (
          wide.0,
          wide.1,
          wide.2,
          (
            keys',
            trees_below W now m keys' children',
            wide.3,
            record {
              lk = lk;
              rk = rk;
              keys_are = cut_at keys' n [] (omega (arith, long, full, most, some));
              children_are = ap₂ (trees_below W now m) (sym (take-append-drop n keys')) (sym (take-append-drop n children'))
                  ∙ below_append W now m lk (drop n keys') (take n children') (drop n children') front
                  ∙ ap₂ (λ (ls rs : List (KeyTree (List ℕ) B m)). ls ++ rs) (sym left) (sym right);
              left = kp ∙ one;
              right = kq ∙ two;
              place = long_lk ∙ sym count_left;
              some_left = omega (arith, count_left, least);
              some_right = omega (arith, count_right, full, most);
              full = omega (arith, count_left, count_right, full, most, some);
            },
          ),
        )
