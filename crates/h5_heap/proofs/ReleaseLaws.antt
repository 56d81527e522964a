-- Bytes that become free: the free blocks beside them are taken out of the list, and one block of all comes into it.
use Rattle.std.proofs.Common.{◌≡◌, ℕ, ◌+◌, ◌-◌, ◌<◌, ◌≤◌, ◌⊎◌, Bool, true, false, not, cond, inl, inr, List, [], ◌∷◌, Option, Some, None, length, refl, sym, ap, ap₂, subst, ◌∙◌, arith}
use Rattle.std.specs.List.{AllByRecursion, find, filter}
use Rattle.std.specs.Option.{IfSome}
use Rattle.std.proofs.lemmas.Bool.{cases_lt, ne_eqb}
use Rattle.h5_bytes.specs.Blocks.{block, holds, cover}
use Rattle.h5_bytes.specs.declared.Block.{Block}
use Rattle.h5_bytes.proofs.BlockLaws.{holds_join, holds_none, holds_in, all_so}
use Rattle.h5_model.specs.Format.Heap.{IsFree}
use Rattle.h5_heap.specs.Chain.{free_from, Relists, Ascends, IsPutIn, Stands, IsGreatestBelow}
use Rattle.h5_heap.specs.Sought.{begins_at, ends_at}
use Rattle.h5_heap.specs.Released.{IsJoinedLeft, IsJoinedRight, Releases, IsJoined, begin_of, stop_of, joined_block, others}
use Rattle.h5_heap.proofs.OrderLaws.{filter_none, filter_both, all_filter, ascends_filter, begins_there, others_left, stop_left}

pub joined_le : (free : List Block) (at begin : ℕ) → IsJoinedLeft free at begin → begin ≤ at
joined_le free at begin left = elim left.joined [ inl far ↦ omega (arith, far) | inr near ↦ omega (arith, near.0) ]

module _ (s t u : List ℕ) (f g h at end begin stop : ℕ) (filled : at < end)
    (left : Relists s t f g (block begin (at - begin) ∷ []) []) (left_joined : IsJoinedLeft (free_from s f) at begin)
    (right : Relists t u g h (block end (stop - end) ∷ []) []) (right_joined : IsJoinedRight (free_from t g) end stop (length t))
    (begin_is : begin ≡ begin_of (free_from s f) at) (left_rest : free_from t g ≡ filter (λ b. not (ends_at at b)) (free_from s f))
    (stop_is : stop ≡ stop_of (free_from t g) end) (right_rest : free_from u h ≡ filter (λ b. not (begins_at end b)) (free_from t g)) where
  begin-le : begin ≤ at
  begin-le = joined_le (free_from s f) at begin left_joined

  stop-le : end ≤ stop
  stop-le = elim right_joined.joined [ inl far ↦ omega (arith, far) | inr near ↦ omega (arith, near.0) ]

  all_three : (p : ℕ) → holds p begin (stop - begin) ≡ holds p begin (at - begin) + (holds p at (end - at) + holds p end (stop - end))
  all_three p =
      let one : begin + (at - begin) ≡ at = omega (arith, begin-le) in
      let two : at + (end - at) ≡ end = omega (arith, filled) in
      let size : (at - begin) + ((end - at) + (stop - end)) ≡ stop - begin = omega (arith, begin-le, filled, stop-le) in
      let first : holds p begin (stop - begin) ≡ holds p begin (at - begin) + holds p at ((end - at) + (stop - end))
      = rw (size, one) at (holds_join p begin (at - begin) ((end - at) + (stop - end))) in
      let second : holds p at ((end - at) + (stop - end)) ≡ holds p at (end - at) + holds p end (stop - end)
      = rw two at (holds_join p at (end - at) (stop - end)) in
      omega (arith, first, second)

  pub released_apart : ((p : ℕ) → cover p (free_from s f) + holds p at (end - at) ≤ 1) → (p : ℕ) → cover p (free_from u h) + holds p begin (stop - begin) ≤ 1
  released_apart apart p = omega (arith, apart p, all_three p, left.covered p, right.covered p)

  there : at + (end - at) ≡ end
  there = omega (arith, filled)

  -- the free bytes around, and the free blocks that stay
  joined_is : joined_block (free_from s f) at end ≡ block begin (stop - begin)
  joined_is =
      let stops : stop ≡ stop_of (free_from s f) end
      = stop_is ∙ ap (λ (bs : List Block). stop_of bs end) left_rest ∙ stop_left (free_from s f) at end filled in
      rw (← stops, ← begin_is) refl

  others_are : free_from u h ≡ others (free_from s f) at end
  others_are = right_rest ∙ ap (filter (λ b. not (begins_at end b))) left_rest ∙ others_left (free_from s f) at end filled

  abbrev Joins : Block → List Block → Type 0
  Joins b free' = ((16 ≤ b.len) × IsPutIn b (others (free_from s f) at end) free') ⊎ ((b.len < 16) × (free' ≡ free_from s f))

  joined_list : (free' : List Block) → Joins (block begin (stop - begin)) free' → IsJoined (free_from s f) free' at (at + (end - at))
  joined_list free' joins = subst (λ (e : ℕ). IsJoined (free_from s f) free' at e) (sym there) (subst (λ (b : Block). Joins b free') (sym joined_is) joins)

  ascending_left : Ascends (free_from s f) → Ascends (free_from u h)
  ascending_left up = subst Ascends (sym right_rest) (ascends_filter (λ b. not (begins_at end b)) (free_from t g)
      (subst Ascends (sym left_rest) (ascends_filter (λ b. not (ends_at at b)) (free_from s f) up)))

  pub released_linked : (v : List ℕ) (i : ℕ) → Relists u v h i [] (block begin (stop - begin) ∷ []) → 16 ≤ stop - begin
      → IsPutIn (block begin (stop - begin)) (free_from u h) (free_from v i) → (Ascends (free_from u h) → Ascends (free_from v i))
      → Releases s v f i at (end - at)
  released_linked v i linked enough put ascends = record {
    chain = linked.chain;
    listed = joined_list (free_from v i) (inl (enough, subst (λ (rest : List Block). IsPutIn (block begin (stop - begin)) rest (free_from v i)) others_are put));
    ascending = λ up. ascends (ascending_left up);
    freed = inl (λ p. omega (arith, linked.covered p, all_three p, left.covered p, right.covered p));
    kept = λ p free given.
        let none_t : cover p (free_from t g) ≡ 0 = omega (arith, left.covered p, free) in
        let none_u : cover p (free_from u h) ≡ 0 = omega (arith, right.covered p, none_t) in
        let none : holds p begin (stop - begin) + 0 ≡ 0 = omega (arith, all_three p, left.covered p, right.covered p, free, given) in
        linked.kept p none_u none ∙ right.kept p none_t refl ∙ left.kept p free refl;
    size = linked.size ∙ right.size ∙ left.size;
  }

  pub released_left : stop - begin < 16 → (begin ≡ at → (t ≡ s) × (g ≡ f)) → Releases s u f h at (end - at)
  released_left short same = go left_joined.joined right_joined.joined where
    go : (begin + 16 ≤ at) ⊎ ((begin ≡ at) × (find (ends_at at) (free_from s f) ≡ None))
        → (end + 16 ≤ stop) ⊎ ((stop ≡ end) × (find (begins_at end) (free_from t g) ≡ None)) → Releases s u f h at (end - at)
    go (inl far) r = absurd (omega (arith, far, short, filled, stop-le))
    go (inr near) (inl far) = absurd (omega (arith, far, short, filled, begin-le))
    go (inr near) (inr beside) =
        let as_before = same near.0 in
        let none : (p : ℕ) → holds p begin (at - begin) ≡ 0 = λ p. let e : at - begin ≡ 0 = omega (arith, near.0) in rw e (holds_none p begin) in
        let none' : (p : ℕ) → holds p end (stop - end) ≡ 0 = λ p. let e : stop - end ≡ 0 = omega (arith, beside.0) in rw e (holds_none p end) in
        let behind : find (begins_at end) (free_from s f) ≡ None
        = rw (as_before.0, as_before.1) at beside.1 in
        let same_list : free_from u h ≡ free_from s f
        = right_rest ∙ filter_none (begins_at end) (free_from t g) beside.1 ∙ ap₂ free_from as_before.0 as_before.1 in
        record {
          chain = right.chain;
          listed = joined_list (free_from u h) (inr (short, same_list));
          ascending = ascending_left;
          freed = inr (
            record { short = omega (arith, short, near.0, beside.0); before = near.1; behind = rw there behind },
            λ p. omega (arith, left.covered p, right.covered p, none p, none' p),
          );
          kept = λ p free given.
              let none_t : cover p (free_from t g) ≡ 0 = omega (arith, left.covered p, free) in
              right.kept p none_t refl ∙ left.kept p free refl;
          size = right.size ∙ left.size;
        }

-- ---- bytes without a neighbour

module _ (s t : List ℕ) (f g at len : ℕ) (released : Releases s t f g at len) (enough : 16 ≤ len)
    (before : find (ends_at at) (free_from s f) ≡ None) (behind : find (begins_at (at + len)) (free_from s f) ≡ None) where
  pub alone_relists : Relists s t f g [] (block at len ∷ [])
  alone_relists = record {
    chain = released.chain;
    covered = λ p. elim released.freed [ inl freed ↦ omega (arith, freed p) | inr few ↦ absurd (omega (arith, few.0.short, enough)) ];
    kept = λ p free given. released.kept p free (omega (arith, given));
    size = released.size;
  }

  alone_is : joined_block (free_from s f) at (at + len) ≡ block at len
  alone_is = let size : at + len - at ≡ len = omega arith in rw (before, behind, size) refl

  alone_others : others (free_from s f) at (at + len) ≡ free_from s f
  alone_others =
      sym (filter_both (λ b. not (ends_at at b)) (λ b. not (begins_at (at + len) b)) (free_from s f))
      ∙ ap (filter (λ b. not (begins_at (at + len) b))) (filter_none (ends_at at) (free_from s f) before)
      ∙ filter_none (begins_at (at + len)) (free_from s f) behind

  pub alone_put : IsPutIn (block at len) (free_from s f) (free_from t g)
  alone_put = elim released.listed [
    | inl put ↦ subst (λ (bs : List Block). IsPutIn (block at len) bs (free_from t g)) alone_others
        (subst (λ (b : Block). IsPutIn b (others (free_from s f) at (at + len)) (free_from t g)) alone_is put.1)
    | inr few ↦ absurd (omega (arith, few.0, ap (λ (b : Block). b.len) alone_is, enough))
  ]

-- ---- the greatest offset below the bytes

stands_covered : (p : ℕ) (bs : List Block) → AllByRecursion IsFree bs → Stands p bs → 0 < cover p bs
stands_covered p [] each none = absurd none
stands_covered p (b ∷ bs) each (inl here) = let one : holds p b.at b.len ≡ 1 = subst (λ (q : ℕ). holds q b.at b.len ≡ 1) here (begins_there b each.0) in omega (arith, one)
stands_covered p (b ∷ bs) each (inr later) = omega (arith, stands_covered p bs each.1 later)

module _ (rest : List Block) (at end : ℕ) (below : Option ℕ) (filled : at < end) (listed : IfSome below (λ p. Stands p rest))
    (greatest : IsGreatestBelow rest at below) where
  -- it is not the block that begins where the bytes end
  pub below_stays : IfSome below (λ p. Stands p (filter (λ b. not (begins_at end b)) rest))
  below_stays = go below listed greatest where
    on : (p : ℕ) (bs : List Block) → p < at → Stands p bs → Stands p (filter (λ b. not (begins_at end b)) bs)
    on p [] low none = absurd none
    on p (b ∷ bs) low (inl here) =
        let elsewhere : begins_at end b ≡ false = ne_eqb end b.at (λ e. absurd (omega (arith, e, here, low, filled))) in
        rw elsewhere (inl here)
    on p (b ∷ bs) low (inr later) = skip (begins_at end b) (on p bs low later) where
      skip : (r : Bool) → Stands p (filter (λ c. not (begins_at end c)) bs)
          → Stands p (cond (not r) (b ∷ filter (λ c. not (begins_at end c)) bs) (filter (λ c. not (begins_at end c)) bs))
      skip true more = more
      skip false more = inr more

    go : (o : Option ℕ) → IfSome o (λ p. Stands p rest) → IsGreatestBelow rest at o → IfSome o (λ p. Stands p (filter (λ b. not (begins_at end b)) rest))
    go None stays most = tt
    go (Some p) stays most = on p rest most.0 stays

  -- and it is the greatest below the free bytes before them too
  pub greatest_stays : (begin : ℕ) → begin ≤ at → AllByRecursion IsFree rest → ((q : ℕ) → cover q rest + holds q begin (at - begin) ≤ 1)
      → IsGreatestBelow (filter (λ b. not (begins_at end b)) rest) begin below
  greatest_stays begin first each apart = go below listed greatest where
    go : (o : Option ℕ) → IfSome o (λ p. Stands p rest) → IsGreatestBelow rest at o → IsGreatestBelow (filter (λ b. not (begins_at end b)) rest) begin o
    go None stays most =
        all_filter (λ (b : Block). begin ≤ b.at) (λ b. not (begins_at end b)) rest
        (all_so (λ (b : Block). at ≤ b.at) (λ (b : Block). begin ≤ b.at) rest (λ b past. omega (arith, past, first)) most)
    go (Some p) stays most = (
      elim (cases_lt p begin) [
        | inl low ↦ low
        | inr high ↦ absurd (omega (arith, apart p, stands_covered p rest each stays, holds_in p begin (at - begin) high (omega (arith, most.0, first))))
      ],
      all_filter (λ (b : Block). (b.at ≤ p) ⊎ (begin ≤ b.at)) (λ b. not (begins_at end b)) rest
          (all_so (λ (b : Block). (b.at ≤ p) ⊎ (at ≤ b.at)) (λ (b : Block). (b.at ≤ p) ⊎ (begin ≤ b.at)) rest
          (λ b either. elim either [ inl less ↦ inl less | inr past ↦ inr (omega (arith, past, first)) ]) most.1),
    )
