-- Links that wait still do when the walk has gone on.
use Rattle.std.proofs.Common.{◌≡◌, ◌≢◌, inl, inr, ℕ, ◌+◌, ◌-◌, ◌≤◌, List, [], ◌∷◌, ◌++◌, sym, ◌∙◌, subst, arith}
use Rattle.std.specs.List.{AllByRecursion}
use Rattle.h5_bytes.specs.Blocks.{cover}
use Rattle.h5_bytes.specs.declared.Block.{Block}
use Rattle.h5_bytes.proofs.BlockLaws.{all_append}
use Rattle.h5_model.specs.Format.Symbols.{Target, Header, Text}
use Rattle.h5_model.specs.Format.Reached.{Named, naming_of, ObjectHeader}
use Rattle.h5_header.specs.Walk.Met.{IsMet}
use Rattle.h5_open.specs.Read.{AreWaiting, IsOwn}

-- the fields that were followed then are other ones
pub other_fields : (held : List Block) (field place : ℕ) → 1 ≤ cover (place - 8) held → place ≢ field → (new : List Named) → AllByRecursion (IsOwn held field) new
    → AllByRecursion (λ (y : Named). y.field ≢ place) new
other_fields held field place some other [] own = tt
other_fields held field place some other (y ∷ new) own = (differ own.0, other_fields held field place some other new own.1) where
  differ : IsOwn held field y → y.field ≢ place
  differ (inl e) = λ same. other (sym same ∙ e)
  differ (inr none) = λ same. let here : cover (place - 8) held ≡ 0 = subst (λ (f : ℕ). cover (f - 8) held ≡ 0) same none in omega (arith, here, some)

module _ (image : List ℕ) (base held now : List Block) (grown : (p : ℕ) → cover p held ≤ cover p now) (followed new : List Named) (field depth : ℕ) (own : AllByRecursion (IsOwn held field) new) where
  still_met : (z : Named) → z.field ≢ field → IsMet image held followed z → IsMet image now (new ++ followed) z
  still_met z other met = record {
    reached = met.reached;
    behind = met.behind;
    stands = omega (arith, met.stands, grown (z.field - 8));
    fresh = all_append (λ (y : Named). y.field ≢ z.field) new followed (other_fields held field z.field met.stands other new own) met.fresh;
  }

  pub still_waiting : (links : List (List ℕ × Target)) (fields : List ℕ) → AllByRecursion (λ (other : ℕ). other ≢ field) fields
      → AreWaiting image base held followed depth links fields → AreWaiting image base now (new ++ followed) depth links fields
  still_waiting [] fields others waiting = waiting
  still_waiting ((name, Text text) ∷ links) fields others waiting = still_waiting links fields others waiting
  still_waiting ((name, Header header) ∷ links) [] others waiting = waiting
  still_waiting ((name, Header header) ∷ links) (f ∷ fields) others waiting = (
    still_met (naming_of f ObjectHeader header (depth + 1)) others.0 waiting.0,
    waiting.1,
    waiting.2,
    still_waiting links fields others.1 waiting.3,
  )

-- none of the fields is a place before the eighth
pub all_behind : (image : List ℕ) (base held : List Block) (followed : List Named) (depth : ℕ) (links : List (List ℕ × Target)) (fields : List ℕ)
    → AreWaiting image base held followed depth links fields → AllByRecursion (λ (other : ℕ). other ≢ 0) fields
all_behind image base held followed depth [] fields waiting = subst (AllByRecursion (λ (other : ℕ). other ≢ 0)) (sym waiting) tt
all_behind image base held followed depth ((name, Text text) ∷ links) fields waiting = all_behind image base held followed depth links fields waiting
all_behind image base held followed depth ((name, Header header) ∷ links) [] waiting = tt
all_behind image base held followed depth ((name, Header header) ∷ links) (f ∷ fields) waiting =
    ((let low = (waiting.0).behind in λ e. omega (arith, low, e)), all_behind image base held followed depth links fields waiting.3)
