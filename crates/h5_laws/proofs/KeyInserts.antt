-- A tree of keys with one item more is in order.
use Rattle.std.proofs.Common.{◌≡◌, ℕ, zero, suc, ◌⊎◌, inl, inr, List, [], ◌∷◌, ◌++◌, sym, ap, ◌∙◌, subst}
use Rattle.std.specs.List.{flat_map, AllByRecursion}
use Rattle.std.proofs.lemmas.List.{append_assoc, append-nil}
use Rattle.std.proofs.lemmas.Grind.{flat_map-append}
use Rattle.h5_bytes.proofs.BlockLaws.{all_append, all_left, all_right, all_so}
use Rattle.h5_model.proofs.Members.{all_both}
use Rattle.h5_laws.specs.Ladders.{Sides, LieBetween, IsOrderly}
use Rattle.h5_laws.specs.KeyTrees.{KeyTree, items_in, IsSorted}
use Rattle.h5_laws.specs.KeyEdits.{Grown, One, Two, IsPut, LetIn, Descends, IsHeld, Widens, IsHalved, Fits, Inserts, IsRaised}
use Rattle.h5_laws.proofs.KeyLadders.{Ladder, halves, around, from_around, from_around_two, above_first, below_last, first_last, lower_left, raise_right}

-- what follows of two facts of each
pub all_from_both : {X : Type 0} (P Q R : X → Type 0) (xs : List X) → ((x : X) → P x → Q x → R x) → AllByRecursion P xs → AllByRecursion Q xs → AllByRecursion R xs
all_from_both P Q R [] both ps qs = tt
all_from_both P Q R (x ∷ xs) both ps qs = (both x ps.0 qs.0, all_from_both P Q R xs both ps.1 qs.1)

module _ {X : Type 0} (Below : X → X → Type 0) (x : X) where
  all_put : (Q : X → Type 0) (front back : List X) → AllByRecursion Q (front ++ back) → Q x → AllByRecursion Q (front ++ x ∷ back)
  all_put Q [] back all here = (here, all)
  all_put Q (f ∷ front) back all here = (all.0, all_put Q front back all.1 here)

  pub put_all : (Q : X → Type 0) (old new : List X) → IsPut Below x old new → AllByRecursion Q old → Q x → AllByRecursion Q new
  put_all Q old new p all here =
      subst (AllByRecursion Q) (sym p.after) (all_put Q p.front p.back (subst (AllByRecursion Q) p.before all) here)

  -- among items before and behind
  pub put_between : (xs old new ys : List X) → IsPut Below x old new → AllByRecursion (λ y. Below y x) xs → AllByRecursion (Below x) ys
      → IsPut Below x (xs ++ (old ++ ys)) (xs ++ (new ++ ys))
  put_between xs old new ys p above below = record {
    front = xs ++ p.front;
    back = p.back ++ ys;
    before = ap (λ (o : List X). xs ++ (o ++ ys)) p.before ∙ ap (λ (o : List X). xs ++ o) (append_assoc p.front p.back ys) ∙ sym (append_assoc xs p.front (p.back ++ ys));
    after = ap (λ (o : List X). xs ++ (o ++ ys)) p.after ∙ ap (λ (o : List X). xs ++ o) (append_assoc p.front (x ∷ p.back) ys) ∙ sym (append_assoc xs p.front (x ∷ p.back ++ ys));
    above = all_append (λ y. Below y x) xs p.front above p.above;
    below = all_append (Below x) p.back ys p.below below;
  }

module _ {K B X : Type 0} (sides : Sides K X) (orderly : IsOrderly sides) (Below : X → X → Type 0)
    -- between two keys between which something stands, the second may follow; what stands on the two sides of a key is in order
    (through : (l h : K) (y : X) → sides.Right l y → sides.Left y h → sides.Rise l h)
    (parts : (y z : X) (k : K) → sides.Left y k → sides.Right k z → Below y z)
    (items : B → List X) (Base : B → Type 0) where
  abbrev I : (height : ℕ) → KeyTree K B height → List X
  I = items_in K items

  abbrev S : (height : ℕ) → KeyTree K B height → Type 0
  S = IsSorted sides items Base

  -- what an insertion gives: the item stands in its place, and all is in order; the key between two trees parts their items
  abbrev pub IsGrown : (x : X) (height : ℕ) → KeyTree K B height → Grown K (KeyTree K B height) → Type 0
  IsGrown x height t (One a) = S height a × IsPut Below x (I height t) (I height a)
  IsGrown x height t (Two a u b) =
      S height a × S height b × AllByRecursion (λ y. sides.Left y u) (I height a) × AllByRecursion (sides.Right u) (I height b)
      × IsPut Below x (I height t) (I height a ++ I height b)

  -- ---- a key held between two others

  module _ (l h u v : K) (rise : sides.Rise l h) where
    held_low : IsHeld sides l h u v → sides.Rise l v
    held_low (inl is) = subst (sides.Rise l) (sym is.0) (orderly.itself l)
    held_low (inr (inl is)) = subst (sides.Rise l) (sym is.0) rise
    held_low (inr (inr is)) = subst (sides.Rise l) (sym is.0) is.1

    held_high : IsHeld sides l h u v → sides.Rise v h
    held_high (inl is) = subst (λ w. sides.Rise w h) (sym is.0) rise
    held_high (inr (inl is)) = subst (λ w. sides.Rise w h) (sym is.0) (orderly.itself h)
    held_high (inr (inr is)) = subst (λ w. sides.Rise w h) (sym is.0) is.2

    -- it parts what stands between the two as the one that came up does
    held_left : (y : X) → IsHeld sides l h u v → sides.Right l y → sides.Left y h → sides.Left y u → sides.Left y v
    held_left y (inl is) low high left = absurd (is.1 (through l u y low left))
    held_left y (inr (inl is)) low high left = subst (sides.Left y) (sym is.0) high
    held_left y (inr (inr is)) low high left = subst (sides.Left y) (sym is.0) left

    held_right : (y : X) → IsHeld sides l h u v → sides.Right l y → sides.Left y h → sides.Right u y → sides.Right v y
    held_right y (inl is) low high right = subst (λ w. sides.Right w y) (sym is.0) low
    held_right y (inr (inl is)) low high right = absurd (is.1 (through u h y right high))
    held_right y (inr (inr is)) low high right = subst (λ w. sides.Right w y) (sym is.0) right

  module _ (k : ℕ) (x : X) (low high : K) (new : LetIn sides x low high) where
    -- ---- the end keys

    module _ (l i : K) (kb : List K) where
      abbrev IsLow : Type 0
      IsLow = ((l ≡ i) × sides.Right i x) ⊎ ((kb ≡ []) × (l ≡ low) × (sides.Right i x → ⊥))

      lowers : IsLow → (kb ≡ []) ⊎ (l ≡ i)
      lowers (inl is) = inr is.0
      lowers (inr is) = inl is.0

      above : IsLow → sides.Right l x
      above (inl is) = subst (λ n. sides.Right n x) (sym is.0) is.1
      above (inr is) = subst (λ n. sides.Right n x) (sym is.1) new.right

      lower : IsLow → sides.Rise l i
      lower (inl is) = subst (λ n. sides.Rise n i) (sym is.0) (orderly.itself i)
      lower (inr is) = subst (λ n. sides.Rise n i) (sym is.1) (new.lower i is.2)

    module _ (h j : K) (ka : List K) where
      abbrev IsHigh : Type 0
      IsHigh = ((h ≡ j) × sides.Left x j) ⊎ ((ka ≡ []) × (h ≡ high) × (sides.Left x j → ⊥))

      raises : IsHigh → (ka ≡ []) ⊎ (h ≡ j)
      raises (inl is) = inr is.0
      raises (inr is) = inl is.0

      under : IsHigh → sides.Left x h
      under (inl is) = subst (sides.Left x) (sym is.0) is.1
      under (inr is) = subst (sides.Left x) (sym is.1) new.left

      higher : IsHigh → sides.Rise j h
      higher (inl is) = subst (sides.Rise j) (sym is.0) (orderly.itself j)
      higher (inr is) = subst (sides.Rise j) (sym is.1) (new.higher j is.2)

    -- ---- a node

    module _ (height : ℕ) where
      abbrev T : Type 0
      T = KeyTree K B height

      abbrev N : T → List X
      N = I height

      -- the node's keys and children before it is split
      record IsWide (node : List K × List T) (keys : List K) (children : List T) : Type 0 where
        ladder : Ladder sides N keys children
        sorted : AllByRecursion (S height) children
        put : IsPut Below x (flat_map N node.1) (flat_map N children)

      fits_grown : (node : List K × List T) (keys : List K) (children : List T) (r : Grown K (List K × List T))
          → IsWide node keys children → Fits k keys children r → IsGrown x (suc height) node r
      fits_grown node keys children (One a) wide fits = (
        (
          subst (λ (ks : List K). Ladder sides N ks a.1) (sym fits.1) (subst (λ (cs : List T). Ladder sides N keys cs) (sym fits.2) wide.ladder),
          subst (AllByRecursion (S height)) (sym fits.2) wide.sorted,
        ),
        subst (λ (cs : List T). IsPut Below x (flat_map N node.1) (flat_map N cs)) (sym fits.2) wide.put,
      )
      fits_grown node keys children (Two p m q) wide h =
          let all = subst (λ (ks : List K). Ladder sides N ks (p.1 ++ q.1)) h.keys_are (subst (λ (cs : List T). Ladder sides N keys cs) h.children_are wide.ladder) in
          let both = halves sides N h.lk m h.rk p.1 q.1 h.place all in
          let each = subst (AllByRecursion (S height)) h.children_are wide.sorted in (
            (subst (λ (ks : List K). Ladder sides N ks p.1) (sym h.left) both.0, all_left (S height) p.1 q.1 each),
            (subst (λ (ks : List K). Ladder sides N ks q.1) (sym h.right) both.1, all_right (S height) p.1 q.1 each),
            below_last sides N orderly h.lk m p.1 both.0,
            above_first sides N orderly m h.rk q.1 both.1,
            subst (IsPut Below x (flat_map N node.1)) (ap (flat_map N) h.children_are ∙ flat_map-append N p.1 q.1) wide.put,
          )

      -- the node with its end keys moved, and the item between the keys around the child
      pub record IsOpen (l h : K) (kb ka : List K) (xs : List T) (c : T) (ys : List T) : Type 0 where
        pub left : Ladder sides N (kb ++ l ∷ []) xs
        pub right : Ladder sides N (h ∷ ka) ys
        pub lies : LieBetween sides l h (N c)
        pub after_low : sides.Right l x
        pub up_to_high : sides.Left x h
        pub before : AllByRecursion (S height) xs
        pub here : S height c
        pub behind : AllByRecursion (S height) ys

      pub opened : (keys : List K) (children : List T) → S (suc height) (keys, children)
          → (w : Descends sides x low high T keys children) → IsOpen w.l w.h w.kb w.ka w.xs w.child w.ys
      opened keys children sorted w =
          let ladder = subst (λ (ks : List K). Ladder sides N ks (w.xs ++ w.child ∷ w.ys)) w.keys_are (subst (λ (cs : List T). Ladder sides N keys cs) w.children_are sorted.0) in
          let a = around sides N w.kb w.k w.j w.ka w.xs w.child w.ys w.place ladder in
          let each = subst (AllByRecursion (S height)) w.children_are sorted.1 in
          let rest = all_right (S height) w.xs (w.child ∷ w.ys) each in
          record {
            left = lower_left sides N w.l w.k w.kb w.xs (lowers w.l w.k w.kb w.low_is) a.left;
            right = raise_right sides N w.h w.j w.ka w.ys (raises w.h w.j w.ka w.high_is) a.right;
            lies = all_so (λ y. sides.Right w.k y × sides.Left y w.j) (λ y. sides.Right w.l y × sides.Left y w.h) (N w.child)
                (λ y g. (orderly.right w.l w.k y (lower w.l w.k w.kb w.low_is) g.0, orderly.left y w.j w.h g.1 (higher w.h w.j w.ka w.high_is))) a.lies;
            after_low = above w.l w.k w.kb w.low_is;
            up_to_high = under w.h w.j w.ka w.high_is;
            before = all_left (S height) w.xs (w.child ∷ w.ys) each;
            here = rest.0;
            behind = rest.1;
          }

      module _ (l h : K) (kb ka : List K) (xs : List T) (c : T) (ys : List T) (o : IsOpen l h kb ka xs c ys) where
        rise : sides.Rise l h
        rise = through l h x o.after_low o.up_to_high

        all_before : AllByRecursion (λ y. Below y x) (flat_map N xs)
        all_before = all_so (λ y. sides.Left y l) (λ y. Below y x) (flat_map N xs) (λ y g. parts y x l g o.after_low) (below_last sides N orderly kb l xs o.left)

        all_behind : AllByRecursion (Below x) (flat_map N ys)
        all_behind = all_so (sides.Right h) (Below x) (flat_map N ys) (λ y g. parts x y h o.up_to_high g) (above_first sides N orderly h ka ys o.right)

        abbrev Between : X → Type 0
        Between y = sides.Right l y × sides.Left y h

        -- what is put below the child lies between the keys
        pub put_lies : (items' : List X) → IsPut Below x (N c) items' → AllByRecursion Between items'
        put_lies items' p = put_all Below x Between (N c) items' p o.lies (o.after_low, o.up_to_high)

        put_there : (items' : List X) → IsPut Below x (N c) items' → IsPut Below x (flat_map N (xs ++ c ∷ ys)) (flat_map N xs ++ (items' ++ flat_map N ys))
        put_there items' p =
            subst (λ (old : List X). IsPut Below x old (flat_map N xs ++ (items' ++ flat_map N ys))) (sym (flat_map-append N xs (c ∷ ys)))
            (put_between Below x (flat_map N xs) (N c) items' (flat_map N ys) p all_before all_behind)

      widened : (node : List K × List T) (w : Descends sides x low high T node.0 node.1) (r : Grown K T) (keys : List K) (children : List T)
          → IsOpen w.l w.h w.kb w.ka w.xs w.child w.ys → IsGrown x height w.child r → Widens sides x low high T node.0 node.1 w r keys children → IsWide node keys children
      widened node w (One a) keys children o grown wide =
          let put = put_there w.l w.h w.kb w.ka w.xs w.child w.ys o (N a) grown.1 in
          record {
            ladder = subst (λ (ks : List K). Ladder sides N ks children) (sym wide.0)
                (subst (λ (cs : List T). Ladder sides N (w.kb ++ w.l ∷ w.h ∷ w.ka) cs) (sym wide.1)
                (from_around sides N w.kb w.l w.h w.ka w.xs a w.ys w.place (record {
                  left = o.left;
                  lies = put_lies w.l w.h w.kb w.ka w.xs w.child w.ys o (N a) grown.1;
                  rise = rise w.l w.h w.kb w.ka w.xs w.child w.ys o;
                  right = o.right;
                })));
            sorted = subst (AllByRecursion (S height)) (sym wide.1) (all_append (S height) w.xs (a ∷ w.ys) o.before (grown.0, o.behind));
            put = subst (λ (cs : List T). IsPut Below x (flat_map N cs) (flat_map N children)) (sym w.children_are)
                (subst (IsPut Below x (flat_map N (w.xs ++ w.child ∷ w.ys))) (sym (ap (flat_map N) wide.1 ∙ flat_map-append N w.xs (a ∷ w.ys))) put);
          }
      widened node w (Two a u b) keys children o grown wide =
          let v = wide.0 in
          let up = rise w.l w.h w.kb w.ka w.xs w.child w.ys o in
          let all = put_lies w.l w.h w.kb w.ka w.xs w.child w.ys o (N a ++ N b) grown.4 in
          let first = all_left (λ y. sides.Right w.l y × sides.Left y w.h) (N a) (N b) all in
          let second = all_right (λ y. sides.Right w.l y × sides.Left y w.h) (N a) (N b) all in
          let lies_a : LieBetween sides w.l v (N a)
          = all_so (λ y. (sides.Right w.l y × sides.Left y w.h) × sides.Left y u) (λ y. sides.Right w.l y × sides.Left y v) (N a)
          (λ y g. (g.0.0, held_left w.l w.h u v up y wide.1 g.0.0 g.0.1 g.1))
          (all_both (λ y. sides.Right w.l y × sides.Left y w.h) (λ y. sides.Left y u) (N a) first grown.2) in
          let lies_b : LieBetween sides v w.h (N b)
          = all_so (λ y. (sides.Right w.l y × sides.Left y w.h) × sides.Right u y) (λ y. sides.Right v y × sides.Left y w.h) (N b)
          (λ y g. (held_right w.l w.h u v up y wide.1 g.0.0 g.0.1 g.1, g.0.1))
          (all_both (λ y. sides.Right w.l y × sides.Left y w.h) (sides.Right u) (N b) second grown.3) in
          let put = put_there w.l w.h w.kb w.ka w.xs w.child w.ys o (N a ++ N b) grown.4 in
          let list : flat_map N children ≡ flat_map N w.xs ++ ((N a ++ N b) ++ flat_map N w.ys)
          = ap (flat_map N) wide.3 ∙ flat_map-append N w.xs (a ∷ b ∷ w.ys) ∙ ap (λ (es : List X). flat_map N w.xs ++ es) (sym (append_assoc (N a) (N b) (flat_map N w.ys))) in
          record {
            ladder = subst (λ (ks : List K). Ladder sides N ks children) (sym wide.2)
                (subst (λ (cs : List T). Ladder sides N (w.kb ++ w.l ∷ v ∷ w.h ∷ w.ka) cs) (sym wide.3)
                (from_around_two sides N w.kb w.l v w.h w.ka w.xs a b w.ys w.place o.left lies_a (held_low w.l w.h u v up wide.1) lies_b (held_high w.l w.h u v up wide.1) o.right));
            sorted = subst (AllByRecursion (S height)) (sym wide.3) (all_append (S height) w.xs (a ∷ b ∷ w.ys) o.before (grown.0, (grown.1, o.behind)));
            put = subst (λ (cs : List T). IsPut Below x (flat_map N cs) (flat_map N children)) (sym w.children_are)
                (subst (IsPut Below x (flat_map N (w.xs ++ w.child ∷ w.ys))) (sym list) put);
          }

    -- AN INSERTION KEEPS THE ORDER, where one into what stands at the bottom does
    module _ (Puts : B → Grown K B → Type 0) (base : (b : B) (r : Grown K B) → Base b → Puts b r → IsGrown x 0 b r) where
      pub inserts_grown : (height : ℕ) (t : KeyTree K B height) (r : Grown K (KeyTree K B height)) → S height t → Inserts sides Puts k x low high height t r → IsGrown x height t r
      inserts_grown zero b r sorted ins = base b r sorted ins
      inserts_grown (suc height) node r sorted ins =
          let w = ins.0 in
          let o = opened height node.0 node.1 sorted w in
          let below = inserts_grown height w.child ins.1 o.here ins.2 in
          fits_grown height node ins.3.0 ins.3.1 r (widened height node w ins.1 ins.3.0 ins.3.1 o below ins.3.2) ins.3.3

    -- ---- the root

    module _ (height : ℕ) where
      abbrev head_or : K → List K → K
      head_or d [] = d
      head_or d (i ∷ is) = i

      first_below : (first : K) (rest lk : List K) (m : K) (xs : List (KeyTree K B height)) → first ∷ rest ≡ lk ++ m ∷ []
          → Ladder sides (I height) (lk ++ m ∷ []) xs → sides.Rise first m
      first_below first rest [] m xs same is = subst (λ i. sides.Rise i m) (sym (ap (head_or m) same)) (orderly.itself m)
      first_below first rest (j ∷ lk) m xs same is =
          subst (λ i. sides.Rise i m) (sym (ap (head_or m) same)) (first_last sides (I height) orderly j lk m xs is)

      last_above : (init : List K) (last m : K) (rk : List K) (xs : List (KeyTree K B height)) → m ∷ rk ≡ init ++ last ∷ []
          → Ladder sides (I height) (init ++ last ∷ []) xs → sides.Rise m last
      last_above [] last m rk xs same is = subst (λ i. sides.Rise i last) (sym (ap (head_or m) same)) (orderly.itself last)
      last_above (j ∷ init) last m rk xs same is =
          subst (λ i. sides.Rise i last) (sym (ap (head_or m) same)) (first_last sides (I height) orderly j init last xs is)

      -- the root of two halves is in order, with the items of both
      pub raised_sorted : (t : KeyTree K B (suc height)) (keys : List K) (children : List (KeyTree K B height)) (p : KeyTree K B (suc height)) (m : K) (q : KeyTree K B (suc height))
          (raised : KeyTree K B (suc (suc height)))
          → IsHalved k keys children p m q → IsGrown x (suc height) t (Two p m q) → IsRaised p m q raised
          → S (suc (suc height)) raised × IsPut Below x (I (suc height) t) (I (suc (suc height)) raised)
      raised_sorted t keys children p m q raised half grown r =
          let left = subst (λ (ks : List K). Ladder sides (I height) ks p.1) r.first_is grown.0.0 in
          let left' = subst (λ (ks : List K). Ladder sides (I height) ks p.1) half.left grown.0.0 in
          let right = subst (λ (ks : List K). Ladder sides (I height) ks q.1) r.last_is grown.1.0 in
          let one = all_both (sides.Right r.first) (λ y. sides.Left y m) (I (suc height) p) (above_first sides (I height) orderly r.first r.rest p.1 left) grown.2 in
          let two = all_both (sides.Right m) (λ y. sides.Left y r.last) (I (suc height) q) grown.3 (below_last sides (I height) orderly r.init r.last q.1 right) in
          let low' = first_below r.first r.rest half.lk m p.1 (sym r.first_is ∙ half.left) left' in
          let high' = last_above r.init r.last m half.rk q.1 (sym half.right ∙ r.last_is) right in
          let ladder : Ladder sides (I (suc height)) (r.first ∷ m ∷ r.last ∷ []) (p ∷ q ∷ []) = (one, low', (two, high', tt)) in (
            (
              subst (λ (ks : List K). Ladder sides (I (suc height)) ks raised.1) (sym r.keys_are)
                  (subst (λ (cs : List (KeyTree K B (suc height))). Ladder sides (I (suc height)) (r.first ∷ m ∷ r.last ∷ []) cs) (sym r.children_are) ladder),
              subst (AllByRecursion (S (suc height))) (sym r.children_are) (grown.0, (grown.1, tt)),
            ),
            subst (IsPut Below x (I (suc height) t))
                (sym (ap (flat_map (I (suc height))) r.children_are ∙ ap (λ (es : List X). I (suc height) p ++ es) (append-nil (I (suc height) q)))) grown.4,
          )
