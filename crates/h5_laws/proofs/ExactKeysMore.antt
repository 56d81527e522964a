-- Exact keys of a tree of keys with one item more.
use Rattle.std.proofs.Common.{◌≡◌, ℕ, zero, suc, ◌≤◌, inl, inr, List, [], ◌∷◌, ◌++◌, length, refl, sym, ap, ◌∙◌, subst, arith}
use Rattle.std.specs.Prelude.{Option, None, Some, ⊤}
use Rattle.std.specs.List.{AllByRecursion}
use Rattle.h5_bytes.proofs.BlockLaws.{all_append, all_left, all_right, all_so}
use Rattle.h5_laws.specs.Ladders.{Sides, LieBetween, IsOrderly}
use Rattle.h5_laws.specs.KeyTrees.{KeyTree, items_in, IsSorted}
use Rattle.h5_laws.specs.KeyEdits.{Grown, One, Two, IsPut, LetIn, Descends, IsHeld, Widens, Fits, Inserts, IsRaised}
use Rattle.h5_laws.specs.ExactKeys.{IsBehind, IsExact}
use Rattle.h5_laws.specs.ExactWays.{AreAround, IsFirstOf, IsExactFor}
use Rattle.h5_laws.proofs.KeyDepth.{IsBushy}
use Rattle.h5_laws.proofs.KeyInserts.{IsGrown, IsOpen, inserts_grown, opened, put_lies}
use Rattle.h5_laws.proofs.ExactKeysLast.{IsLast, last_of_two, some_there}
use Rattle.h5_laws.proofs.ExactKeysRows.{IsChild, IsCut, past, edge_at, around_some, around_halves, around_joined, around_cut, of_rows, rows_of}
use Rattle.h5_laws.proofs.ExactKeysWays.{IsChildFor, LetsIn, Lowers, Raises, edge_kept, edge_lets, exact_for, first_kept, left_kept, right_kept}
use Rattle.h5_laws.proofs.ExactKeysPut.{HasOwnKeys, AreFilled, all_last, bushy_below, key_put, last_row, least_some, left_exact, right_exact, some_filled}

module _ {K B X : Type 0} (sides : Sides K X) (orderly : IsOrderly sides) (Below : X → X → Type 0)
    -- between two keys between which something stands, the second may follow; what stands on the two sides of a key is in order
    (through : (l h : K) (y : X) → sides.Right l y → sides.Left y h → sides.Rise l h)
    (parts : (y z : X) (k : K) → sides.Left y k → sides.Right k z → Below y z)
    (items : B → List X) (Base : B → Type 0) (key_of : X → K) (lowest : K) (keyed : HasOwnKeys sides Below key_of)
    (k : ℕ) (some : 1 ≤ k) (x : X) (new : LetIn sides x lowest (key_of x)) where
  abbrev I : (height : ℕ) → KeyTree K B height → List X
  I = items_in K items

  abbrev S : (height : ℕ) → KeyTree K B height → Type 0
  S = IsSorted sides items Base

  abbrev Exact : (height : ℕ) → Option K → KeyTree K B height → Type 0
  Exact = IsExact (λ k. ⊥) key_of lowest items

  abbrev ExactFor : (height : ℕ) → Option K → KeyTree K B height → Type 0
  ExactFor = IsExactFor sides x key_of lowest items

  abbrev G : (height : ℕ) → KeyTree K B height → Grown K (KeyTree K B height) → Type 0
  G = IsGrown sides orderly Below through parts items Base x

  -- what an insertion gives: exact keys; and of two trees, each has an item, and the key between them is that of the last item of the first
  abbrev pub IsExactGrown : (height : ℕ) → Option K → Grown K (KeyTree K B height) → Type 0
  IsExactGrown height before (One a) = Exact height before a
  IsExactGrown height before (Two a u b) =
      Exact height before a × Exact height (Some u) b × (I height b ≡ [] → ⊥) × ((y : X) × IsLast (I height a) y × (u ≡ key_of y))

  -- as an item goes in at the bottom: of two things, the second has an item, and the key between them is that of the last item of the first
  abbrev pub IsCutExact : Grown K B → Type 0
  IsCutExact (One a) = ⊤
  IsCutExact (Two a u c) = (items c ≡ [] → ⊥) × ((y : X) × IsLast (items a) y × (u ≡ key_of y))

  -- ---- a node

  module _ (height : ℕ) where
    abbrev T : Type 0
    T = KeyTree K B height

    abbrev N : T → List X
    N = I height

    abbrev E : Option K → K → T → K → Type 0
    E = IsChild (λ k. ⊥) key_of lowest items height

    abbrev F : Option K → K → T → K → Type 0
    F = IsChildFor sides key_of lowest items x height

    -- the node before it is cut in two
    record IsWide (before : Option K) (keys : List K) (children : List T) : Type 0 where
      first : IsFirstOf (λ k. ⊥) lowest before keys
      row : AreAround E before keys children
      filled : AreFilled N children

    -- off the left edge
    past_first : (before : Option K) (kb : List K) (m : K) (ka : List K) (cs : List T) → 1 ≤ length kb → AreAround E (past before kb) (m ∷ ka) cs → AreAround E (Some m) (m ∷ ka) cs
    past_first before [] m ka cs long are = absurd (omega (arith, long))
    past_first before (j ∷ kb) m ka cs long are = around_some E j m (m ∷ ka) cs are

    fits_exact : (before : Option K) (keys : List K) (children : List T) (r : Grown K (List K × List T)) → IsWide before keys children → Fits k keys children r
        → IsExactGrown (suc height) before r
    fits_exact before keys children (One n) wide fits =
        of_rows (λ k. ⊥) key_of lowest items height before n.0 n.1 (
          subst (IsFirstOf (λ k. ⊥) lowest before) (sym fits.1) wide.first,
          subst (λ (ks : List K). AreAround E before ks n.1) (sym fits.1) (subst (λ (cs : List T). AreAround E before keys cs) (sym fits.2) wide.row),
        )
    fits_exact before keys children (Two p m q) wide h =
        let row = subst (λ (ks : List K). AreAround E before ks (p.1 ++ q.1)) h.keys_are (subst (λ (cs : List T). AreAround E before keys cs) h.children_are wide.row) in
        let both = around_halves E before h.lk m h.rk p.1 q.1 h.place row in
        let filled = subst (AreFilled N) h.children_are wide.filled in
        let filled_p : AreFilled N p.1 = all_left (λ c. N c ≡ [] → ⊥) p.1 q.1 filled in
        let long_p : 1 ≤ length p.1 = let l = h.some_left in omega (arith, some, l) in
        let long_q : 1 ≤ length q.1 = let r = h.some_right in omega (arith, some, r) in
        let long_lk : 1 ≤ length h.lk = let l = h.place in omega (arith, long_p, l) in
        let first = first_kept sides x lowest new.right before h.lk m m h.rk [] (inl refl) (subst (IsFirstOf (λ k. ⊥) lowest before) h.keys_are wide.first) in (
          of_rows (λ k. ⊥) key_of lowest items height before p.0 p.1 (
            subst (IsFirstOf (λ k. ⊥) lowest before) (sym h.left) first,
            subst (λ (ks : List K). AreAround E before ks p.1) (sym h.left) both.0,
          ),
          of_rows (λ k. ⊥) key_of lowest items height (Some m) q.0 q.1 (
            subst (IsFirstOf (λ k. ⊥) lowest (Some m)) (sym h.right) (inr (inr refl)),
            subst (λ (ks : List K). AreAround E (Some m) ks q.1) (sym h.right) (past_first before h.lk m h.rk q.1 long_lk both.1),
          ),
          some_filled N q.1 long_q (all_right (λ c. N c ≡ [] → ⊥) p.1 q.1 filled),
          last_row sides orderly Below key_of lowest keyed items x height before h.lk m p.1 long_p filled_p both.0,
        )

    -- ---- around the child on the way

    module _ (before : Option K) (node : List K × List T) (w : Descends sides x lowest (key_of x) T node.0 node.1)
        (o : IsOpen sides orderly Below through parts items Base k x lowest (key_of x) new height w.l w.h w.kb w.ka w.xs w.child w.ys)
        (first : IsFirstOf (λ k. ⊥) lowest before (w.kb ++ w.k ∷ w.j ∷ w.ka)) (cut : IsCut F before w.kb w.k w.j w.ka w.xs w.child w.ys)
        (filled : AreFilled N (w.xs ++ w.child ∷ w.ys)) where
      lowers : Lowers sides x lowest w.kb w.k w.l
      lowers = elim w.low_is [ inl same ↦ inl same.0 | inr gone ↦ inr gone ]

      raises : Raises sides x lowest w.ka w.j w.h (key_of x)
      raises = elim w.high_is [ inl same ↦ inl same.0 | inr gone ↦ inr (gone.0, gone.1) ]

      first_now : IsFirstOf (λ k. ⊥) lowest before (w.kb ++ w.l ∷ w.h ∷ w.ka)
      first_now = first_kept sides x lowest new.right before w.kb w.k w.l (w.j ∷ w.ka) (w.h ∷ w.ka) lowers first

      left : AreAround E before (w.kb ++ w.l ∷ []) w.xs
      left = left_exact sides orderly Below key_of lowest keyed items x height before w.kb w.l w.xs o.after_low o.left
          (left_kept sides x lowest F before w.kb w.k w.l w.xs lowers cut.left)

      right : AreAround E (Some w.l) (w.h ∷ w.ka) w.ys
      right = right_exact sides orderly Below key_of lowest keyed items x height w.l w.h w.ka w.ys o.up_to_high o.right
          (right_kept sides x lowest F w.k w.l w.j w.h (key_of x) w.ka w.ys raises cut.right)

      -- the child itself
      child_for : IsBehind (λ i. i ≡ key_of x) key_of w.k (N w.child) w.j × ExactFor height (edge_at before w.kb w.k) w.child
      child_for = elim cut.here [
        | inl exact ↦ (weaker exact.0, exact_for sides key_of lowest items x height (edge_at before w.kb w.k) w.child exact.1)
        | inr lets ↦ (lets.2, lets.3)
      ] where
        weaker : IsBehind (λ i. ⊥) key_of w.k (N w.child) w.j → IsBehind (λ i. i ≡ key_of x) key_of w.k (N w.child) w.j
        weaker (inl never) = absurd never
        weaker (inr is) = inr is

      -- the key behind it is that of the last item
      behind : (zs : List X) → IsPut Below x (N w.child) zs → (y : X) × IsLast zs y × (w.h ≡ key_of y)
      behind zs put = key_put sides orderly Below key_of lowest keyed items x (N w.child) zs put w.k w.j w.h w.ka
          (all_right (λ c. N c ≡ [] → ⊥) w.xs (w.child ∷ w.ys) filled).0
          (all_so (λ y. sides.Right w.l y × sides.Left y w.h) (λ y. sides.Left y w.h) (N w.child) (λ y is. is.1) o.lies) w.high_is child_for.0

      filled_xs : AreFilled N w.xs
      filled_xs = all_left (λ c. N c ≡ [] → ⊥) w.xs (w.child ∷ w.ys) filled

      filled_ys : AreFilled N w.ys
      filled_ys = (all_right (λ c. N c ≡ [] → ⊥) w.xs (w.child ∷ w.ys) filled).1

      not_none : (zs : List X) (y : X) → IsLast zs y → zs ≡ [] → ⊥
      not_none zs y last none = some_there last.0 y [] (sym last.1 ∙ none)

      -- a key that comes up stays as it is
      held_same : (u v : K) (y : X) → IsHeld sides w.l w.h u v → u ≡ key_of y → sides.Right w.l y → sides.Left y w.h → v ≡ u
      held_same u v y (inl is) own low high = absurd (is.1 (through w.l u y low (subst (sides.Left y) (sym own) (keyed.own y))))
      held_same u v y (inr (inl is)) own low high = absurd (is.1 (subst (λ i. sides.Rise i w.h) (sym own) (keyed.up_to y w.h high)))
      held_same u v y (inr (inr is)) own low high = is.0

      widened : (r : Grown K T) (keys : List K) (children : List T) → G height w.child r → IsExactGrown height (edge_at before w.kb w.l) r
          → Widens sides x lowest (key_of x) T node.0 node.1 w r keys children → IsWide before keys children
      widened (One a) keys children grown exact wide =
          let last = behind (N a) grown.1 in
          let row : AreAround E before (w.kb ++ w.l ∷ w.h ∷ w.ka) (w.xs ++ a ∷ w.ys)
          = around_joined E before w.kb w.l (w.h ∷ w.ka) w.xs (a ∷ w.ys) w.place left ((inr (inr (last.0, last.1.0, last.1.1, last.2)), exact), right) in
          record {
            first = subst (IsFirstOf (λ k. ⊥) lowest before) (sym wide.0) first_now;
            row = subst (λ (ks : List K). AreAround E before ks children) (sym wide.0)
                (subst (λ (cs : List T). AreAround E before (w.kb ++ w.l ∷ w.h ∷ w.ka) cs) (sym wide.1) row);
            filled = subst (AreFilled N) (sym wide.1)
                (all_append (λ c. N c ≡ [] → ⊥) w.xs (a ∷ w.ys) filled_xs (not_none (N a) last.0 last.1, filled_ys));
          }
      widened (Two a u b) keys children grown exact wide =
          let v = wide.0 in
          let last = behind (N a ++ N b) grown.4 in
          let y = exact.3.0 in
          let lie : LieBetween sides w.l w.h (N a ++ N b)
          = put_lies sides orderly Below through parts items Base k x lowest (key_of x) new height w.l w.h w.kb w.ka w.xs w.child w.ys o (N a ++ N b) grown.4 in
          let lie_y : sides.Right w.l y × sides.Left y w.h
          = all_last (λ z. sides.Right w.l z × sides.Left z w.h) (N a) y (all_left (λ z. sides.Right w.l z × sides.Left z w.h) (N a) (N b) lie) exact.3.1 in
          let same : v ≡ u = held_same u v y wide.1 exact.3.2 lie_y.0 lie_y.1 in
          let last_b : IsLast (N b) last.0 = elim (last_of_two (N a) (N b) last.0 last.1.0 last.1.1) [ inl none ↦ absurd (exact.2 none.0) | inr there ↦ there ] in
          let row : AreAround E before (w.kb ++ w.l ∷ u ∷ w.h ∷ w.ka) (w.xs ++ a ∷ b ∷ w.ys)
          = around_joined E before w.kb w.l (u ∷ w.h ∷ w.ka) w.xs (a ∷ b ∷ w.ys) w.place left (
            (inr (inr (y, exact.3.1.0, exact.3.1.1, exact.3.2)), exact.0),
            ((inr (inr (last.0, last_b.0, last_b.1, last.2)), exact.1), around_some E w.l u (w.h ∷ w.ka) w.ys right),
          ) in
          let keys_are : keys ≡ w.kb ++ w.l ∷ u ∷ w.h ∷ w.ka = wide.2 ∙ ap (λ i. w.kb ++ w.l ∷ i ∷ w.h ∷ w.ka) same in
          record {
            first = subst (IsFirstOf (λ k. ⊥) lowest before) (sym keys_are)
                (first_kept sides x lowest new.right before w.kb w.l w.l (w.h ∷ w.ka) (u ∷ w.h ∷ w.ka) (inl refl) first_now);
            row = subst (λ (ks : List K). AreAround E before ks children) (sym keys_are)
                (subst (λ (cs : List T). AreAround E before (w.kb ++ w.l ∷ u ∷ w.h ∷ w.ka) cs) (sym wide.3) row);
            filled = subst (AreFilled N) (sym wide.3)
                (all_append (λ c. N c ≡ [] → ⊥) w.xs (a ∷ b ∷ w.ys) filled_xs (not_none (N a) y exact.3.1, (exact.2, filled_ys)));
          }

      -- as it is before the item goes in below it
      child_now : LetsIn sides x before → ExactFor height (edge_at before w.kb w.l) w.child
      child_now lets = edge_kept sides x lowest new.right (λ e. ExactFor height e w.child) before w.kb w.k w.l (w.j ∷ w.ka) lowers lets first child_for.1

  module _ (Puts : B → Grown K B → Type 0) (base : (b : B) (r : Grown K B) → Base b → Puts b r → IsGrown sides orderly Below through parts items Base x 0 b r)
      (cut : (b : B) (r : Grown K B) → Puts b r → IsCutExact r) where
    -- AN INSERTION KEEPS KEYS EXACT
    pub inserts_exact : (low height : ℕ) (before : Option K) (t : KeyTree K B height) (r : Grown K (KeyTree K B height)) → IsSorted sides items Base height t
        → IsBushy K items k some low height t → LetsIn sides x before → IsExactFor sides x key_of lowest items height before t
        → Inserts sides Puts k x lowest (key_of x) height t r → IsExactGrown height before r
    inserts_exact low zero before b (One a) sorted bushy lets exact ins = tt
    inserts_exact low zero before b (Two a u c) sorted bushy lets exact ins = let made = cut b (Two a u c) ins in (tt, tt, made.0, made.1)
    inserts_exact low (suc height) before node r sorted bushy lets exact ins =
        let w = ins.0 in
        let o = opened sides orderly Below through parts items Base k x lowest (key_of x) new height node.0 node.1 sorted w in
        let grown = inserts_grown sides orderly Below through parts items Base k x lowest (key_of x) new Puts base height w.child ins.1 o.here ins.2 in
        let first = subst (IsFirstOf (λ i. ⊥) lowest before) w.keys_are exact.0 in
        let row = subst (λ (ks : List K). AreAround (F height) before ks (w.xs ++ w.child ∷ w.ys)) w.keys_are
        (subst (λ (cs : List (KeyTree K B height)). AreAround (F height) before node.0 cs) w.children_are exact.1) in
        let there = around_cut (F height) before w.kb w.k w.j w.ka w.xs w.child w.ys w.place row in
        let filled = subst (AreFilled (I height)) w.children_are (bushy_below K items k some low height node bushy) in
        let bushy_child = (all_right (IsBushy K items k some low height) w.xs (w.child ∷ w.ys) (subst (AllByRecursion (IsBushy K items k some low height)) w.children_are bushy.1)).0 in
        let below = inserts_exact low height (edge_at before w.kb w.l) w.child ins.1 o.here bushy_child (edge_lets sides x lowest before w.kb w.l o.after_low)
        (child_now height before node w o first there filled lets) ins.2 in
        fits_exact height before ins.3.0 ins.3.1 r (widened height before node w o first there filled ins.1 ins.3.0 ins.3.1 grown below ins.3.2) ins.3.3

  some_child : (low height : ℕ) (q : KeyTree K B (suc height)) → IsBushy K items k some low (suc height) q → 1 ≤ length q.1
  some_child low height q bushy = let one = least_some K items k some low height in let long = bushy.0 in omega (arith, one, long)

  -- THE ROOT OF TWO HALVES has exact keys
  pub raised_exact : (low height : ℕ) (p : KeyTree K B (suc height)) (m : K) (q : KeyTree K B (suc height)) (raised : KeyTree K B (suc (suc height)))
      → IsExactGrown (suc height) None (Two p m q) → IsBushy K items k some low (suc height) q → IsRaised p m q raised → Exact (suc (suc height)) None raised
  raised_exact low height p m q raised grown bushy is =
      let rows = rows_of (λ i. ⊥) key_of lowest items height (Some m) q.0 q.1 grown.1 in
      let row = subst (λ (ks : List K). AreAround (E height) (Some m) ks q.1) is.last_is rows.1 in
      let last = last_row sides orderly Below key_of lowest keyed items x height (Some m) is.init is.last q.1 (some_child low height q bushy) (bushy_below K items k some low height q bushy) row in
      let mid = grown.3 in
      of_rows (λ i. ⊥) key_of lowest items (suc height) None raised.0 raised.1 (
        subst (IsFirstOf (λ i. ⊥) lowest None) (sym is.keys_are) tt,
        subst (λ (ks : List K). AreAround (E (suc height)) None ks raised.1) (sym is.keys_are)
            (subst (λ (cs : List (KeyTree K B (suc height))). AreAround (E (suc height)) None (is.first ∷ m ∷ is.last ∷ []) cs) (sym is.children_are) (
              (inr (inr (mid.0, mid.1.0, mid.1.1, mid.2)), grown.0),
              ((inr (inr (last.0, last.1.0, last.1.1, last.2)), grown.1), tt),
            )),
      )
