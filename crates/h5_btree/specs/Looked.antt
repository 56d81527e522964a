-- Where keys of a group's tree that give way are looked for (File Format Specification 3.0, section III.A.1).
use Rattle.std.specs.Prelude.{◌≡◌, ◌==◌, ◌&&◌, ◌||◌, ◌⊎◌, ℕ, zero, suc, Bool, true, false, List, Option, None, Some, slice_get, slice_index_or, [], ⊤}
use Rattle.std.specs.List.{AllByRecursion}
use Rattle.h5_model.specs.Format.Rows.{Reading}
use Rattle.h5_model.specs.Format.Nodes.{Kind, node_at}
use Rattle.h5_space.specs.Space.{Space}
use Rattle.h5_btree.specs.Retired.{AreRetiredBelow, IsRetiring, IsSubtree, keys_below}
use Rattle.h5_btree.specs.declared.way.Step.{Step}
use Rattle.h5_btree.specs.declared.retirement.Look.{Look}
use Rattle.h5_btree.specs.declared.retirement.Look.TheVariants as look

-- whether a way goes on from the node at this address to its child i
abbrev pub goes_on : Option Step → ℕ → ℕ → Bool
goes_on None at i = false
goes_on (Some step) at i = (step.node == at) && (step.place == i)

-- the steps of the way along which it looks; none where it looks everywhere
abbrev pub steps_of : Look → Option (List Step)
steps_of look.Everywhere = None
steps_of (look.Along steps) = Some steps.now

-- whether child i of the node at this address, of this level and with these keys, is looked at: it is on the way, or the key before it is hit
abbrev pub looks_below : (List ℕ → Bool) → Option (List Step) → ℕ → ℕ → List (List ℕ) → ℕ → Bool
looks_below hit None level at keys i = true
looks_below hit (Some way) level at keys i = hit (slice_index_or keys i []) || goes_on (slice_get way level) at i

-- no key of the nodes so many levels down is hit
abbrev pub IsUnhitBelow : (List ℕ → Bool) → Reading → ℕ → ℕ → Type 0
IsUnhitBelow hit V zero at = ⊤
IsUnhitBelow hit V (suc height) at = AllByRecursion (λ (key : List ℕ). hit key ≡ false) (V at).keys × AllByRecursion (IsUnhitBelow hit V height) (V at).children

-- Of a node so many levels high, on the left edge of the tree or not: each child is looked at, and so on, or no key is hit below it. The
-- first child of a node on the left edge, which is on that edge too, is looked at.
abbrev pub AreHitsLooked : (List ℕ → Bool) → Reading → Option (List Step) → ℕ → Bool → ℕ → Type 0
AreHitsLooked hit V way zero edge at = ⊤
AreHitsLooked hit V way (suc height) edge at =
    (i child : ℕ) → slice_get (V at).children i ≡ Some child
    → ((((edge && (i == 0)) || looks_below hit way height at (V at).keys i) ≡ true) × AreHitsLooked hit V way height (edge && (i == 0)) child)
    ⊎ IsUnhitBelow hit V height child

-- Items whose keys are hit stand only at the end of a way, whose steps from level 0 up these are.
abbrev pub AreItemsAlong : (List ℕ → Bool) → Reading → (ℕ → List (List ℕ)) → List Step → ℕ → ℕ → Type 0
AreItemsAlong hit V keys way zero at = ⊤
AreItemsAlong hit V keys way (suc height) at =
    (i child : ℕ) → slice_get (V at).children i ≡ Some child
    → ((goes_on (slice_get way height) at i ≡ true) × AreItemsAlong hit V keys way height child)
    ⊎ AllByRecursion (λ (key : List ℕ). hit key ≡ false) (keys_below V keys height child)

-- ---- while keys give way

-- below a node that was so at the start, or all of whose keys, and of the nodes below it, have given way
abbrev pub IsLookedBelow : (List ℕ → Bool) → (List ℕ → ℕ → List (List ℕ)) → Space → Space → Kind → Option (List Step) → ℕ → Bool → ℕ → Type 0
IsLookedBelow hit keys_at s t kind way height edge at =
    AreHitsLooked hit (node_at s.bytes kind) way height edge at ⊎ AreRetiredBelow hit keys_at s t kind height at

-- it has come to such a node of this level
abbrev pub LooksSomewhere : (List ℕ → Bool) → (List ℕ → ℕ → Type 0) → (List ℕ → ℕ → List (List ℕ)) → Space → Kind → Option (List Step) → ℕ → Bool → ℕ → Type 0
LooksSomewhere hit stands keys_at t kind way level edge at =
    (start : Space) × (root : ℕ) × (height : ℕ) × (owned : List ℕ) × (list : List ℕ) × IsRetiring hit stands keys_at start t kind root height owned list
    × IsSubtree (node_at start.bytes kind) owned list (suc level) at × IsLookedBelow hit keys_at start t kind way (suc level) edge at
