-- A sound tree stays sound with one link more, from a group that few names lead to, to a text or to an object without links.
use Rattle.std.proofs.Common.{◌≡◌, ◌<◌, ℕ, suc, ◌+◌, ◌≤◌, Bool, true, false, List, [], ◌∷◌, ◌++◌, length, length-append, refl, sym, ap, ◌∙◌, subst, Option, Some, None, ◌⊎◌, inl, inr, arith}
use Rattle.std.proofs.lemmas.Bool.Decides.{nat_tests}
use Rattle.std.specs.Prelude.{IsSome, is_some, ◌==◌, if◌then◌else◌}
use Rattle.std.specs.Option.{option_and_then}
use Rattle.std.specs.FinMap.{get}
use Rattle.h5_model.specs.Format.Limits.{most_hard_links, most_names}
use Rattle.h5_model.specs.Tree.Paths.{is_name}
use Rattle.h5_model.specs.Edits.Refusal.{has_zero}
use Rattle.h5_model.specs.Tree.Objects.{Tree, Object, Link, ToObject, Soft, links_of, link_in, follow, hard_links}
use Rattle.h5_laws.proofs.Objects.{follow-more}
use Rattle.h5_laws.specs.Trees.Sound.{IsSoundTree}
use Rattle.h5_laws.proofs.SoundLaws.Counts.{adds, leads_itself, leads_or, unled, none_named}
use Rattle.h5_laws.proofs.SoundLaws.Depths.{Depth, at_root, deeper, depth_path, one_depth}
use Rattle.h5_laws.proofs.SoundLaws.LinksThere.{holds_links, group_stands}
use Rattle.h5_laws.proofs.SoundLaws.Paths.{same_way}

-- the second tree is the first with this link more, and with the object that it names, if that is new
pub record IsGrown (tree grown : Tree) (parent : ℕ) (name : List ℕ) (link : Link) : Type 0 where
  pub group : IsSome (links_of tree parent)
  pub new : link_in grown parent name ≡ Some link
  pub old : (n : ℕ) (x : List ℕ) (l : Link) → link_in tree n x ≡ Some l → link_in grown n x ≡ Some l
  pub only : (n : ℕ) (x : List ℕ) (l : Link) → link_in grown n x ≡ Some l → (link_in tree n x ≡ Some l) ⊎ ((n ≡ parent) × (x ≡ name) × (l ≡ link))
  pub counts : (n : ℕ) → hard_links grown n ≡ hard_links tree n + adds n link
  pub kept : (n : ℕ) → IsSome (get tree n) → IsSome (get grown n)
  pub got : (n : ℕ) → IsSome (get grown n) → IsSome (get tree n) ⊎ (link ≡ ToObject n)
  pub groups : (n : ℕ) → IsSome (links_of tree n) → IsSome (links_of grown n)
  pub new_group : (n : ℕ) → IsSome (links_of grown n) → IsSome (links_of tree n) ⊎ ((link ≡ ToObject n) × (get tree n ≡ None))

-- what the new link keeps to
pub record IsFit (tree grown : Tree) (parent : ℕ) (name : List ℕ) (link : Link) : Type 0 where
  pub named : is_name name ≡ true
  pub depth : ℕ
  pub above : Depth tree depth parent
  pub low : depth + 1 ≤ most_names
  pub spelled : (text : List ℕ) → link ≡ Soft text → has_zero text ≡ false
  pub there : (n : ℕ) → link ≡ ToObject n → IsSome (get grown n)
  pub bare : (n : ℕ) → link ≡ ToObject n → IsSome (links_of tree n) → ⊥
  pub room : (n : ℕ) → link ≡ ToObject n → hard_links tree n < most_hard_links

module _ (tree grown : Tree) (parent : ℕ) (name : List ℕ) (link : Link) (sound : IsSoundTree tree) (grows : IsGrown tree grown parent name link)
    (fit : IsFit tree grown parent name link) where
  -- ---- counts

  top : hard_links tree 0 ≡ 0
  top = let one : hard_links tree 0 + 1 ≡ 1 = sound.once 0 sound.rooted in omega (arith, one)

  single : (n : ℕ) → IsSome (links_of tree n) → hard_links tree n ≤ 1
  single n group = let one = sound.once n group in omega (arith, one)

  no_root : (n : ℕ) → get tree n ≡ None → (n == 0) ≡ false
  no_root n none = go (n == 0) refl where
    go : (b : Bool) → (n == 0) ≡ b → b ≡ false
    go false is = refl
    go true is =
        let here : n ≡ 0 = grind (arith, nat_tests) in
        let root : IsSome (get tree n) = subst (λ (k : ℕ). IsSome (get tree k)) (sym here) (group_stands tree 0 sound.rooted) in
        absurd (let never : IsSome {T = Object} None = subst (λ (o : Option Object). IsSome o) none root in cc)

  once : (n : ℕ) → IsSome (links_of grown n) → hard_links grown n + (if n == 0 then 1 else 0) ≡ 1
  once n group = elim (grows.new_group n group) [
    | inl before ↦
        let count = sound.once n before in
        let same = unled n link (λ e. fit.bare n e before) in
        let all = grows.counts n in
        omega (arith, count, same, all)
    | inr made ↦
        let none : hard_links tree n ≡ 0
        = none_named tree n (λ a x is. let never : IsSome {T = Object} None = subst (λ (o : Option Object). IsSome o) made.1 (sound.linked a n x is) in absurd (cc)) in
        let one : adds n link ≡ 1 = ap (adds n) made.0 ∙ leads_itself n in
        let below : ◌≡◌ {A = ℕ} (if n == 0 then 1 else 0) 0 = ap (λ (b : Bool). if b then 1 else 0) (no_root n made.1) in
        let all = grows.counts n in
        omega (arith, none, one, below, all)
  ]

  few : (n : ℕ) → IsSome (get grown n) → hard_links grown n ≤ most_hard_links
  few n some = elim (leads_or n link) [
    | inl e ↦
        let one : adds n link ≡ 1 = ap (adds n) e ∙ leads_itself n in
        let room = fit.room n e in
        let all = grows.counts n in
        omega (arith, one, room, all)
    | inr none ↦ elim (grows.got n some) [
      | inl before ↦ let low = sound.few n before in let all = grows.counts n in omega (arith, low, none, all)
      | inr e ↦ let room = fit.room n e in let all = grows.counts n in omega (arith, none, room, all)
    ]
  ]

  -- ---- paths

  -- what a path led to, it leads to
  pub paths_stay : (path : List (List ℕ)) (from to : Link) → follow tree from path ≡ Some to → follow grown from path ≡ Some to
  paths_stay = same_way tree grown grows.old

  reached : (n : ℕ) → IsSome (get grown n) → (path : List (List ℕ)) × (follow grown (ToObject 0) path ≡ Some (ToObject n))
  reached n some = elim (grows.got n some) [
    | inl before ↦ let path = sound.reached n before in (path.0, paths_stay path.0 (ToObject 0) (ToObject n) path.1)
    | inr e ↦
        let path = sound.reached parent (group_stands tree parent grows.group) in
        let here = paths_stay path.0 (ToObject 0) (ToObject parent) path.1 in
        (path.0 ++ name ∷ [], follow-more grown (ToObject 0) link path.0 name parent here grows.new ∙ ap (λ (l : Link). Some l) e)
  ]

  -- the new link leads no further
  dead_end : (n : ℕ) (x : List ℕ) → link ≡ ToObject n → link_in grown n x ≡ None
  dead_end n x e = go (link_in grown n x) refl where
    go : (o : Option Link) → link_in grown n x ≡ o → o ≡ None
    go None is = refl
    go (Some l) is = elim (grows.only n x l is) [
      | inl before ↦ absurd (fit.bare n e (holds_links tree n x l before))
      | inr added ↦ absurd (fit.bare n e (subst (λ (k : ℕ). IsSome (links_of tree k)) (sym added.0) grows.group))
    ]

  ends : (l : Link) → l ≡ link → (x : List ℕ) (path : List (List ℕ)) → IsSome (follow grown l (x ∷ path)) → ⊥
  ends (Soft text) same x path some = let never : IsSome {T = Link} None = some in absurd (cc)
  ends (ToObject n) same x path some =
      let never : IsSome {T = Link} None = subst (λ (o : Option Link). IsSome (option_and_then (λ l. follow grown l path) o)) (dead_end n x (sym same)) some in absurd (cc)

  -- a path from an object that is so deep in the first tree
  abbrev IsShort : ℕ → List (List ℕ) → Type 0
  IsShort k path = (n : ℕ) → Depth tree k n → IsSome (follow grown (ToObject n) path) → k + length path ≤ most_names

  short_end : (k n : ℕ) → Depth tree k n → k + 0 ≤ most_names
  short_end k n d =
      let path = depth_path tree k n d in
      let low = sound.shallow path.0 (ap (λ (o : Option Link). is_some o) path.2) in
      omega (arith, low, path.1)

  behind_text : (k n : ℕ) (x text : List ℕ) (path : List (List ℕ)) → Depth tree k n → link_in tree n x ≡ Some (Soft text)
      → IsSome (follow grown (Soft text) path) → k + length (x ∷ path) ≤ most_names
  behind_text k n x text [] d is some =
      let path = depth_path tree k n d in
      let there = follow-more tree (ToObject 0) (Soft text) path.0 x n path.2 is in
      let low = sound.shallow (path.0 ++ x ∷ []) (ap (λ (o : Option Link). is_some o) there) in
      omega (arith, low, path.1, length-append path.0 (x ∷ []))
  behind_text k n x text (y ∷ path) d is some = let never : IsSome {T = Link} None = some in absurd (cc)

  behind_old : (k n : ℕ) (x : List ℕ) (l : Link) (path : List (List ℕ)) → Depth tree k n → link_in tree n x ≡ Some l → IsShort (suc k) path
      → IsSome (follow grown l path) → k + length (x ∷ path) ≤ most_names
  behind_old k n x (Soft text) path d is short some = behind_text k n x text path d is some
  behind_old k n x (ToObject m) path d is short some = let rest = short m (deeper tree k n m x d is) some in omega (arith, rest)

  behind_new : (k : ℕ) (x : List ℕ) (l : Link) (path : List (List ℕ)) → Depth tree k parent → l ≡ link → IsSome (follow grown l path) → k + length (x ∷ path) ≤ most_names
  behind_new k x l [] d same some = let depth = one_depth tree top single k fit.depth parent grows.group d fit.above in let low = fit.low in omega (arith, depth, low)
  behind_new k x l (y ∷ path) d same some = absurd (ends l same y path some)

  short_step : (k : ℕ) (x : List ℕ) (path : List (List ℕ)) → IsShort (suc k) path → IsShort k (x ∷ path)
  short_step k x path short n d some = go (link_in grown n x) refl some where
    go : (o : Option Link) → link_in grown n x ≡ o → IsSome (option_and_then (λ l. follow grown l path) o) → k + length (x ∷ path) ≤ most_names
    go None is none = let never : IsSome {T = Link} None = none in absurd (cc)
    go (Some l) is rest = elim (grows.only n x l is) [
      | inl before ↦ behind_old k n x l path d before short rest
      | inr added ↦ behind_new k x l path (subst (Depth tree k) added.0 d) added.2 rest
    ]

  all_short : (path : List (List ℕ)) (k : ℕ) → IsShort k path
  all_short [] k n d some = short_end k n d
  all_short (x ∷ path) k n d some = short_step k x path (all_short path (suc k)) n d some

  shallow : (path : List (List ℕ)) → IsSome (follow grown (ToObject 0) path) → length path ≤ most_names
  shallow path some = let short = all_short path 0 0 (at_root tree) some in omega (arith, short)

  -- ---- the whole tree

  pub sound_grown : IsSoundTree grown
  sound_grown = record {
    rooted = grows.groups 0 sound.rooted;
    named = named;
    linked = linked;
    spelled = spelled;
    reached = reached;
    shallow = shallow;
    once = once;
    few = few;
  } where
    named : (n : ℕ) (x : List ℕ) → IsSome (link_in grown n x) → is_name x ≡ true
    named n x some = go (link_in grown n x) refl some where
      go : (o : Option Link) → link_in grown n x ≡ o → IsSome o → is_name x ≡ true
      go None is none = let never : IsSome {T = Link} None = none in absurd (cc)
      go (Some l) is there = elim (grows.only n x l is) [
        | inl before ↦ sound.named n x (ap (λ (o : Option Link). is_some o) before)
        | inr added ↦ ap is_name added.1 ∙ fit.named
      ]

    linked : (n other : ℕ) (x : List ℕ) → link_in grown n x ≡ Some (ToObject other) → IsSome (get grown other)
    linked n other x is = elim (grows.only n x (ToObject other) is) [
      | inl before ↦ grows.kept other (sound.linked n other x before)
      | inr added ↦ fit.there other (sym added.2)
    ]

    spelled : (n : ℕ) (x text : List ℕ) → link_in grown n x ≡ Some (Soft text) → has_zero text ≡ false
    spelled n x text is = elim (grows.only n x (Soft text) is) [
      | inl before ↦ sound.spelled n x text before
      | inr added ↦ fit.spelled text (sym added.2)
    ]
