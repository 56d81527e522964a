-- End keys of the nodes on a way, written one node after another.
use Rattle.std.proofs.Common.{◌≡◌, ◌≢◌, ℕ, zero, suc, ◌+◌, ◌-◌, ◌<◌, List, [], ◌∷◌, ◌++◌, length, take, get_or, Bool, refl, sym, ap, ◌∙◌, subst, arith, ◌==◌}
use Rattle.std.specs.Prelude.{⊤, nat_le, slice_set, if◌then◌else◌}
use Rattle.std.proofs.lemmas.Bool.Decides.{nat_tests}
use Rattle.std.specs.List.{AllByRecursion}
use Rattle.h5_bytes.specs.Bytes.{undefined_address}
use Rattle.h5_bytes.specs.Blocks.{cover}
use Rattle.h5_bytes.specs.declared.Block.{Block}
use Rattle.h5_bytes.proofs.BlockLaws.{all_so}
use Rattle.h5_model.specs.Format.Rows.{Node, Reading}
use Rattle.h5_model.specs.Format.Nodes.{Kind, IsNode, node_at, node_block, node_bytes, node_of, reading_of}
use Rattle.h5_space.specs.Space.{Space}
use Rattle.h5_space.specs.Moves.{Moves}
use Rattle.h5_space.proofs.MovesLaws.{moves_none, moves_then, spends_none, spends_then}
use Rattle.h5_space.proofs.AddressLaws.{all_at}
use Rattle.h5_btree.specs.Climb.{IsNoNode, IsWay}
use Rattle.h5_btree.specs.Insertion.{Owns}
use Rattle.h5_btree.specs.Removal.{EndsInTree}
use Rattle.h5_btree.specs.Rewritten.{IsRewritten}
use Rattle.h5_btree.specs.Widened.{AreWidened, IsWidened, end_at, ends_along, way_blocks, widened_node}
use Rattle.h5_btree.specs.declared.way.Step.{Step}
use Rattle.h5_btree.specs.declared.widening.End.{End}
use Rattle.h5_btree.proofs.RowEdits.{level_here}
use Rattle.h5_btree.proofs.RewriteSteps.{rewritten_then}
use Rattle.h5_btree.proofs.SplitSteps.{written_others}
use Rattle.h5_btree.proofs.TreeReadings.{Listed}
use Rattle.h5_btree.proofs.ClimbSteps.{undefined_free}
use Rattle.h5_btree.proofs.WaySteps.{way_low, way_owned}

-- ---- the ends

pub length-ends_along : (V : Reading) (behind : List ℕ → Bool) (stay : ℕ) (way : List Step) → length (ends_along V behind stay way) ≡ length way
length-ends_along V behind stay [] = refl
length-ends_along V behind stay (step ∷ way) = ap suc (length-ends_along V behind (stay - 1) way)

may_now : (stay : ℕ) → (stay == 0) ≡ nat_le stay 0
may_now stay = grind (arith, nat_tests)

may_next : (stay i : ℕ) → nat_le (stay - 1) i ≡ nat_le stay (suc i)
may_next stay i = grind (arith, nat_tests)

pub ends_more : (V : Reading) (behind : List ℕ → Bool) (stay : ℕ) (way : List Step) (i : ℕ) (d : Step) → i < length way
    → take (suc i) (ends_along V behind stay way) ≡ take i (ends_along V behind stay way) ++ end_at V behind (nat_le stay i) (get_or way i d) ∷ []
ends_more V behind stay [] i d low = absurd (omega (arith, low))
ends_more V behind stay (step ∷ way) zero d low = ap (λ (may : Bool). end_at V behind may step ∷ []) (may_now stay)
ends_more V behind stay (step ∷ way) (suc i) d low =
    ap (λ (es : List End). end_at V behind (stay == 0) step ∷ es)
    (ends_more V behind (stay - 1) way i d (omega (arith, low))
    ∙ ap (λ (may : Bool). take i (ends_along V behind (stay - 1) way) ++ end_at V behind may (get_or way i d) ∷ []) (may_next stay i))

-- ---- the nodes on a way are different ones

-- each is one level above the one before
abbrev AreRising : Reading → ℕ → List Step → Type 0
AreRising V m [] = ⊤
AreRising V m (step ∷ way) = ((V step.node).level ≡ m) × AreRising V (suc m) way

abbrev pub AreDifferent : List Step → Type 0
AreDifferent [] = ⊤
AreDifferent (step ∷ way) = AllByRecursion (λ (other : Step). other.node ≢ step.node) way × AreDifferent way

above_other : (V : Reading) (m n : ℕ) (way : List Step) → (V n).level < m → AreRising V m way → AllByRecursion (λ (other : Step). other.node ≢ n) way
above_other V m n [] low rising = tt
above_other V m n (step ∷ way) low rising = (
  λ same. let level = ap (λ (i : ℕ). (V i).level) same in omega (arith, level, low, rising.0),
  above_other V (suc m) n way (omega (arith, low)) rising.1,
)

rising_different : (V : Reading) (m : ℕ) (way : List Step) → AreRising V m way → AreDifferent way
rising_different V m [] rising = tt
rising_different V m (step ∷ way) rising = (above_other V (suc m) step.node way (omega (arith, rising.0)) rising.1, rising_different V (suc m) way rising.1)

module _ (s : Space) (kind : Kind) (root level : ℕ) (way : List Step) (owned list : List ℕ) (k : ℕ) (e : EndsInTree s kind root level way owned list k) where
  out : IsNoNode (reading_of s.bytes kind owned) undefined_address
  out = undefined_free s kind owned e.apart e.short

  rising_on : (m : ℕ) (steps : List Step) (a : ℕ) (front back : List ℕ) → length steps + m < 16 → IsWay (reading_of s.bytes kind owned) m root steps a front back
      → AreRising (reading_of s.bytes kind owned) (suc m) steps
  rising_on m [] a front back high w = tt
  rising_on m (step ∷ steps) a front back high w = (
    level_here (reading_of s.bytes kind owned) (suc m) step.node w.0 w.1 (omega (arith, high)) out (w.2).row,
    rising_on (suc m) steps step.node w.0 w.1 (omega (arith, high)) w.3,
  )

  pub way_different : AreDifferent way
  way_different = subst AreDifferent (sym e.way_is)
      (rising_different (reading_of s.bytes kind owned) 0 (e.step ∷ e.above) (
        level_here (reading_of s.bytes kind owned) 0 e.step.node e.front e.back (omega arith) out e.row,
        rising_on 0 e.above e.step.node e.front e.back (let h = way_low s kind root level way owned list k e in omega (arith, h)) e.leads,
      ))

  -- one node on the way is written
  module _ (t : Space) (i : ℕ) (d : Step) (low : i < length way) (node : Node) (r : IsRewritten s t kind (get_or way i d).node node) where
    written_listed : Listed owned (get_or way i d).node
    written_listed = all_at (λ (step : Step). Listed owned step.node) way i d (way_owned s kind root level way owned list k e) low

    pub written_other : (n : ℕ) → Owns owned n → n ≢ (get_or way i d).node → node_at t.bytes kind n ≡ node_at s.bytes kind n
    written_other n listed other = ap (node_of kind) (written_others s t kind owned (get_or way i d).node node e.apart written_listed r n listed other)

    pub written_along : AllByRecursion (λ (step : Step). step.node ≢ (get_or way i d).node → node_at t.bytes kind step.node ≡ node_at s.bytes kind step.node) way
    written_along = all_so (λ (step : Step). Listed owned step.node) (λ (step : Step). step.node ≢ (get_or way i d).node → node_at t.bytes kind step.node ≡ node_at s.bytes kind step.node) way (λ step listed other. written_other step.node listed other) (way_owned s kind root level way owned list k e)

-- ---- keys along a way

all_apply : {X : Type 0} (P Q : X → Type 0) (xs : List X) → AllByRecursion (λ x. P x → Q x) xs → AllByRecursion P xs → AllByRecursion Q xs
all_apply P Q [] f all = tt
all_apply P Q (x ∷ xs) f all = (f.0 all.0, all_apply P Q xs f.1 all.1)

pub widened_none : (bytes : List ℕ) (kind : Kind) (way : List Step) (low high : List ℕ) → AreWidened bytes bytes kind way [] low high
widened_none bytes kind [] low high = tt
widened_none bytes kind (step ∷ way) low high = (refl, widened_none bytes kind way low high)

module _ (old now new : List ℕ) (kind : Kind) (low high : List ℕ) where
  widened_stays : (way : List Step) (ends : List End) → AllByRecursion (λ (step : Step). node_at new kind step.node ≡ node_at now kind step.node) way
      → AreWidened old now kind way ends low high → AreWidened old new kind way ends low high
  widened_stays [] ends stay is = tt
  widened_stays (step ∷ way) [] stay is = (stay.0 ∙ is.0, widened_stays way [] stay.1 is.1)
  widened_stays (step ∷ way) (end ∷ ends) stay is = (stay.0 ∙ is.0, widened_stays way ends stay.1 is.1)

  pub widened_more : (way : List Step) (ends : List End) (i : ℕ) (d : Step) (none : End) → i < length way → i < length ends → AreDifferent way
      → AllByRecursion (λ (step : Step). step.node ≢ (get_or way i d).node → node_at new kind step.node ≡ node_at now kind step.node) way
      → node_at new kind (get_or way i d).node ≡ widened_node (get_or ends i none) low high (node_at now kind (get_or way i d).node)
      → AreWidened old now kind way (take i ends) low high → AreWidened old new kind way (take (suc i) ends) low high
  widened_more [] ends i d none on within different others here is = absurd (omega (arith, on))
  widened_more (step ∷ way) [] i d none on within different others here is = absurd (omega (arith, within))
  widened_more (step ∷ way) (end ∷ ends) zero d none on within different others here is = (
    here ∙ ap (widened_node end low high) is.0,
    widened_stays way []
        (all_apply (λ (other : Step). other.node ≢ step.node) (λ (other : Step). node_at new kind other.node ≡ node_at now kind other.node) way others.1 different.0) is.1,
  )
  widened_more (step ∷ way) (end ∷ ends) (suc i) d none on within different others here is =
      let here_on : i < length way = omega (arith, on) in
      let other = all_at (λ (other : Step). other.node ≢ step.node) way i d different.0 here_on in (
        others.0 (λ same. other (sym same)) ∙ is.0,
        widened_more way ends i d none here_on (omega (arith, within)) different.1 others.1 here is.1,
      )

-- ---- blocks along a way

-- with more blocks that are used before and after
pub moves_wider : (s t : Space) (a b : List Block) → ((p : ℕ) → cover p b ≡ 0 → cover p a ≡ 0) → Moves s t a a → Moves s t b b
moves_wider s t a b wider m = record {
  grown = m.grown;
  kept = λ p low none free. m.kept p low (wider p none) free;
  moved = λ p. let is = m.moved p in omega (arith, is);
}

on_way_covered : (kind : Kind) (way : List Step) (i : ℕ) (d : Step) → i < length way → (p : ℕ) → cover p (way_blocks kind way) ≡ 0
    → cover p (node_block kind (get_or way i d).node ∷ []) ≡ 0
on_way_covered kind [] i d low p none = absurd (omega (arith, low))
on_way_covered kind (step ∷ way) zero d low p none = omega (arith, none)
on_way_covered kind (step ∷ way) (suc i) d low p none = on_way_covered kind way i d (omega (arith, low)) p (omega (arith, none))

-- ---- one node more

pub widened_start : (s : Space) (kind : Kind) (way : List Step) (low high : List ℕ) → IsWidened s s kind way [] low high
widened_start s kind way low high = record {
  keys = widened_none s.bytes kind way low high;
  moves = moves_none s (way_blocks kind way);
  spends = spends_none s;
}

pub widened_on : (s t u : Space) (kind : Kind) (root level : ℕ) (way : List Step) (owned list : List ℕ) (k : ℕ) → EndsInTree t kind root level way owned list k
    → (ends : List End) (i : ℕ) (d : Step) (none : End) (low high : List ℕ) → i < length way → i < length ends
    → IsRewritten t u kind (get_or way i d).node (widened_node (get_or ends i none) low high (node_at t.bytes kind (get_or way i d).node))
    → IsWidened s t kind way (take i ends) low high → IsWidened s u kind way (take (suc i) ends) low high
widened_on s t u kind root level way owned list k e ends i d none low high on within r is = record {
  keys = widened_more s.bytes t.bytes u.bytes kind low high way ends i d none on within (way_different t kind root level way owned list k e)
      (written_along t kind root level way owned list k e u i d on _ r) r.says is.keys;
  moves = moves_then s t u (way_blocks kind way) (way_blocks kind way) (way_blocks kind way) is.moves
      (moves_wider t u (node_block kind (get_or way i d).node ∷ []) (way_blocks kind way) (on_way_covered kind way i d on) r.moves);
  spends = spends_then s t u 0 0 0 0 is.spends r.spends;
}

-- the first key, and then the last one
pub both_ends : (s t u : Space) (kind : Kind) (at : ℕ) (end : End) (low high : List ℕ)
    → IsRewritten s t kind at (record (node_at s.bytes kind at) {
      keys = if end.first then slice_set (node_at s.bytes kind at).keys 0 low else (node_at s.bytes kind at).keys;
    })
    → IsRewritten t u kind at (record (node_at t.bytes kind at) {
      keys = if end.last then slice_set (node_at t.bytes kind at).keys (length (node_at t.bytes kind at).children) high else (node_at t.bytes kind at).keys;
    })
    → IsRewritten s u kind at (widened_node end low high (node_at s.bytes kind at))
both_ends s t u kind at end low high first second =
    rewritten_then s t u kind at _ _ first
    (subst (λ (n : Node). IsRewritten t u kind at (record n { keys = if end.last then slice_set n.keys (length n.children) high else n.keys })) first.says second)

-- a node that was not written
pub rewritten_none : (s : Space) (kind : Kind) (at : ℕ) → IsNode kind (node_bytes s.bytes kind at) → IsRewritten s s kind at (node_at s.bytes kind at)
rewritten_none s kind at form = record {
  says = refl;
  form = form;
  moves = moves_none s (node_block kind at ∷ []);
  spends = spends_none s;
}
