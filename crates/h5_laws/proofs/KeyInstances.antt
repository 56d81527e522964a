-- What the edits of trees of keys ask of the order, for names and for chunks.
use Rattle.std.proofs.Common.{◌≡◌, ℕ, ◌⊎◌, inl, inr, List, [], ◌∷◌, ◌++◌, refl, sym, ap, ap₂, ◌∙◌, subst}
use Rattle.std.specs.Ordering.{nat_cmp, is_lt, is_le, ordering_reverse}
use Rattle.std.specs.declared.cmp.Ordering.{Ordering}
use Rattle.std.specs.declared.cmp.Ordering.TheVariants.{Less, Equal, Greater}
use Rattle.std.specs.Cmp.Lexicographic.{slice_cmp, nat_list_cmp_total}
use Rattle.h5_model.specs.Format.Chunks.{all_offsets_in}
use Rattle.h5_model.specs.Format.Links.{Before, NotAfter}
use Rattle.h5_model.proofs.TextOrder.{after_trans, not_after_itself, not_after_trans, before_le}
use Rattle.h5_laws.specs.ChunkLadders.{rising_chunk_sides}
use Rattle.h5_laws.specs.KeyEdits.{LetIn, Grown, One, Two}
use Rattle.h5_laws.specs.NameLadders.{name_sides}
use Rattle.h5_laws.proofs.ChunkLadders.{before_after, chunk_order}
use Rattle.h5_laws.proofs.KeyInserts.{IsGrown}

pub not_after_or : (a b : List ℕ) → NotAfter a b ⊎ Before b a
not_after_or a b = by_order (slice_cmp nat_cmp a b) refl where
  by_order : (r : Ordering) → slice_cmp nat_cmp a b ≡ r → NotAfter a b ⊎ Before b a
  by_order Less is = inl (ap is_le is)
  by_order Equal is = inl (ap is_le is)
  by_order Greater is = inr (ap is_lt (nat_list_cmp_total.antisymm b a ∙ ap ordering_reverse is))

not_before : (a b : List ℕ) → (Before b a → ⊥) → NotAfter a b
not_before a b never = elim (not_after_or a b) [ inl is ↦ is | inr before ↦ absurd (never before) ]

before_not : (a b : List ℕ) → (NotAfter b a → ⊥) → NotAfter a b
before_not a b never = elim (not_after_or b a) [ inl is ↦ absurd (never is) | inr before ↦ before_le a b before ]

pub none_before : (t : List ℕ) → NotAfter [] t
none_before [] = refl
none_before (n ∷ t) = refl

-- ---- names: keys that stand for texts

module _ {K : Type 0} (text : K → List ℕ) where
  pub name_through : (l h : K) (y : List ℕ) → (name_sides text).Right l y → (name_sides text).Left y h → (name_sides text).Rise l h
  name_through l h y right left = not_after_trans (text l) y (text h) (before_le (text l) y right) left

  pub name_parts : (y z : List ℕ) (k : K) → (name_sides text).Left y k → (name_sides text).Right k z → Before y z
  name_parts y z k left right = after_trans y (text k) z left right

  -- the key of the empty name, and the key of the name itself
  pub name_let_in : (name : List ℕ) (low high : K) → text low ≡ [] → text high ≡ name → Before [] name → LetIn (name_sides text) name low high
  name_let_in name low high empty own some = record {
    right = subst (λ t. Before t name) (sym empty) some;
    left = subst (NotAfter name) (sym own) (not_after_itself name);
    lower = λ k never. subst (λ t. NotAfter t (text k)) (sym empty) (none_before (text k));
    higher = λ k never. subst (NotAfter (text k)) (sym own) (before_not (text k) name never);
  }

-- ---- chunks: keys that have offsets

module _ (rank : ℕ) where
  abbrev pub Chunk : Type 0
  Chunk = List ℕ × ℕ

  abbrev numbers : Chunk → List ℕ
  numbers chunk = chunk.0 ++ 0 ∷ []

  pub chunk_through : (l h : List ℕ) (y : Chunk) → (rising_chunk_sides rank).Right l y → (rising_chunk_sides rank).Left y h → (rising_chunk_sides rank).Rise l h
  chunk_through l h y right left = not_after_trans (all_offsets_in rank l) (numbers y) (all_offsets_in rank h) right (before_le (numbers y) (all_offsets_in rank h) left)

  pub chunk_parts : (y z : Chunk) (k : List ℕ) → (rising_chunk_sides rank).Left y k → (rising_chunk_sides rank).Right k z → Before (numbers y) (numbers z)
  chunk_parts y z k left right = before_after (numbers y) (all_offsets_in rank k) (numbers z) left right

  -- the chunk's own key, and one past it
  pub chunk_let_in : (chunk : Chunk) (low high : List ℕ) → all_offsets_in rank low ≡ numbers chunk → Before (numbers chunk) (all_offsets_in rank high)
      → LetIn (rising_chunk_sides rank) chunk low high
  chunk_let_in chunk low high own past = record {
    right = subst (λ t. NotAfter t (numbers chunk)) (sym own) (not_after_itself (numbers chunk));
    left = past;
    lower = λ k never. subst (λ t. NotAfter t (all_offsets_in rank k)) (sym own) (before_not (numbers chunk) (all_offsets_in rank k) never);
    higher = λ k never. not_after_trans (all_offsets_in rank k) (numbers chunk) (all_offsets_in rank high)
        (not_before (all_offsets_in rank k) (numbers chunk) never) (before_le (numbers chunk) (all_offsets_in rank high) past);
  }

  -- a new chunk beside the one that stands at a child: behind it, or before it; the key between them parts them
  abbrev pub PutsChunk : Chunk → Chunk → Grown (List ℕ) Chunk → Type 0
  PutsChunk x c (One a) = ⊥
  PutsChunk x c (Two a u b) =
      ((a ≡ c) × (b ≡ x) × (rising_chunk_sides rank).Left c u × (rising_chunk_sides rank).Right u x)
      ⊎ ((a ≡ x) × (b ≡ c) × (rising_chunk_sides rank).Left x u × (rising_chunk_sides rank).Right u c)

  abbrev IsBefore : Chunk → Chunk → Type 0
  IsBefore y z = Before (numbers y) (numbers z)

  abbrev pub only : Chunk → List Chunk
  only c = c ∷ []

  abbrev pub IsChunkGrown : Chunk → Chunk → Grown (List ℕ) Chunk → Type 0
  IsChunkGrown x c r = IsGrown (rising_chunk_sides rank) (chunk_order rank) IsBefore chunk_through chunk_parts only (λ b. Unit {0}) x 0 c r

  pub chunk_grown : (x c : Chunk) (r : Grown (List ℕ) Chunk) → PutsChunk x c r → IsChunkGrown x c r
  chunk_grown x c (One a) puts = absurd puts
  chunk_grown x c (Two a u b) (inl (a_is, b_is, left, right)) = (
    tt,
    tt,
    (subst (λ y. (rising_chunk_sides rank).Left y u) (sym a_is) left, tt),
    (subst ((rising_chunk_sides rank).Right u) (sym b_is) right, tt),
    record {
      front = c ∷ [];
      back = [];
      before = refl;
      after = ap₂ (λ (y z : Chunk). y ∷ z ∷ []) a_is b_is;
      above = (chunk_parts c x u left right, tt);
      below = tt;
    },
  )
  chunk_grown x c (Two a u b) (inr (a_is, b_is, left, right)) = (
    tt,
    tt,
    (subst (λ y. (rising_chunk_sides rank).Left y u) (sym a_is) left, tt),
    (subst ((rising_chunk_sides rank).Right u) (sym b_is) right, tt),
    record {
      front = [];
      back = c ∷ [];
      before = refl;
      after = ap₂ (λ (y z : Chunk). y ∷ z ∷ []) a_is b_is;
      above = tt;
      below = (chunk_parts x c u left right, tt);
    },
  )
