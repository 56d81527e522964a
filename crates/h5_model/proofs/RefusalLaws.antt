-- What an accepted edit keeps to: none of the rules holds of it.
use Rattle.std.proofs.Common.{◌≡◌, ℕ, Bool, true, false, cond, List, [], ◌∷◌, length, refl, sym, ◌∙◌, ap, Option, Some, None, not, ◌&&◌, is_none, ◌==◌, ◌||◌, arith, ℤ}
use Rattle.std.specs.List.{AllByRecursion, list_any, list_all}
use Rattle.std.specs.Option.{option_map_or}
use Rattle.std.proofs.lemmas.Bool.Decides.{nat_tests}
use Rattle.std.proofs.lemmas.Bool.{not-false}
use Rattle.h5_model.specs.Format.Fixed.{fits}
use Rattle.h5_model.specs.Tree.Objects.{Tree, Dataset}
use Rattle.h5_model.specs.Tree.Paths.{names_of, location_of, Located, Here, Missing, NoParent, NoGroup, NoPath, dataset_at}
use Rattle.h5_model.specs.Views.Selection.{Slab, axes_of, axes_from, has_rank, is_within, overlaps, selection_of, selected_cells}
use Rattle.h5_model.specs.Edits.Refusal.{first_holding, rules_of, refusal_of, has_many_objects, has_no_parent, has_no_group, is_missing, is_here}
use Rattle.h5_model.specs.Edits.Applied.{State, state_after}
use Rattle.h5_model.specs.Edits.ImageAnswers.{refusal_or, after_edits}
use Rattle.h5_model.specs.Scripts.Sessions.{IsState}
use Rattle.h5_model.specs.declared.hyperslab.Hyper.{Hyper}
use Rattle.h5_model.specs.declared.edits.Edit.{Edit}
use Rattle.h5_model.specs.declared.edits.Edit.TheVariants.{Write}
use Rattle.h5_model.specs.declared.edit_fault.EditFault.{EditFault}
use Rattle.h5_model.proofs.CountLaws.{length-selection}
use Rattle.h5_model.proofs.PathLaws.{is_place, located-is_place}
use Rattle.h5_model.proofs.StateLaws.{IsState-state_after}

-- none holds of rules of which there is no first one
pub none_holds : (rules : List (EditFault × Bool)) → first_holding rules ≡ None → AllByRecursion (λ (rule : EditFault × Bool). rule.1 ≡ false) rules
none_holds [] h = tt
none_holds ((f, true) ∷ rules) h = absurd (cc)
none_holds ((f, false) ∷ rules) h = (refl, none_holds rules h)

-- and the other way
pub first_holding-none : (rules : List (EditFault × Bool)) → AllByRecursion (λ (rule : EditFault × Bool). rule.1 ≡ false) rules → first_holding rules ≡ None
first_holding-none [] all = refl
first_holding-none (rule ∷ rules) all = ap (λ b. cond b (Some rule.0) (first_holding rules)) all.0 ∙ first_holding-none rules all.1

-- a number is left for the object that an accepted edit makes
pub has_number : (tree : Tree) (next : ℕ) (edit : Edit) → refusal_of tree next edit ≡ None → has_many_objects next edit ≡ false
unfolding refusal_of
has_number tree next edit h =
    let rules = none_holds (rules_of tree next edit) h in
    rules.1.1.1.1.1.1.1.1.1.1.1.1.1.1.1.1.1.1.1.1.1.1.1.1.1.0

-- an accepted edit keeps a state
pub IsState-accepted : (s : State) (edit : Edit) → IsState s → refusal_of s.tree s.next edit ≡ None → IsState (state_after s edit)
IsState-accepted s edit is h = IsState-state_after s edit is (has_number s.tree s.next edit h)

pub not_refused : (refusal given : Option EditFault) → is_none (refusal_or refusal given) ≡ true → refusal ≡ None
not_refused None given h = refl
not_refused (Some f) given h = absurd (cc)

-- and so do edits, some of them refused
pub IsState-after_edits : (s : State) (steps : List (Edit × Option EditFault)) → IsState s → IsState (after_edits s steps)
IsState-after_edits s [] is = is
IsState-after_edits s (step ∷ steps) is = elim (is_none (refusal_or (refusal_of s.tree s.next step.0) step.1)) as (λ b.
    is_none (refusal_or (refusal_of s.tree s.next step.0) step.1) ≡ b → IsState (after_edits (cond b (state_after s step.0) s) steps)) [
      | true ↦ λ accepted. IsState-after_edits (state_after s step.0) steps (IsState-accepted s step.0 is (not_refused _ step.1 accepted))
      | false ↦ λ _. IsState-after_edits s steps is
    ] refl

-- ---- writes

length-axes_from : (rank : ℕ) (a b c d : List ℕ) → length a ≡ rank → length b ≡ rank → length c ≡ rank → length d ≡ rank → length (axes_from a b c d) ≡ rank
length-axes_from rank [] b c d ha hb hc hd = ha
length-axes_from rank (s ∷ ss) [] c d ha hb hc hd = hb
length-axes_from rank (s ∷ ss) (t ∷ ts) [] d ha hb hc hd = hc
length-axes_from rank (s ∷ ss) (t ∷ ts) (n ∷ ns) [] ha hb hc hd = hd
length-axes_from rank (s ∷ ss) (t ∷ ts) (n ∷ ns) (m ∷ ms) ha hb hc hd =
    let tail : length (axes_from ss ts ns ms) ≡ length ss = length-axes_from (length ss) ss ts ns ms refl (omega (arith, ha, hb)) (omega (arith, ha, hc)) (omega (arith, ha, hd)) in
    omega (arith, tail, ha)

pub length-axes_of : (rank : ℕ) (hyper : Hyper) → has_rank rank hyper ≡ true → length (axes_of hyper) ≡ rank
length-axes_of rank hyper h =
    length-axes_from rank hyper.start hyper.stride hyper.count hyper.block (grind (arith, nat_tests)) (grind (arith, nat_tests)) (grind (arith, nat_tests)) (grind (arith, nat_tests))

pub here : (at : Located) → is_place at ≡ true → has_no_parent at ≡ false → has_no_group at ≡ false → is_missing at ≡ false → is_here at ≡ true
here (Here link) place parent group missing = refl
here Missing place parent group missing = absurd (cc)
here NoParent place parent group missing = absurd (cc)
here NoGroup place parent group missing = absurd (cc)
here NoPath place parent group missing = absurd (cc)

pub first_of_or : (b c : Bool) → (b || c) ≡ false → b ≡ false
first_of_or true c h = absurd (cc)
first_of_or false c h = refl

pub some_of : {X : Type 0} (b : Bool) (o : Option X) → b ≡ true → (b && is_none o) ≡ false → (x : X) × (o ≡ Some x)
some_of b None holds h = absurd (cc)
some_of b (Some x) holds h = (x, refl)

-- an accepted write finds a dataset, is within it, and has a value of the type for each selected cell
pub record Writes (d : Dataset) (slab : Slab) (values : List ℤ) : Type 0 where
  pub ranked : length slab ≡ length d.sizes
  pub within : is_within d.sizes slab ≡ true
  pub counted : length values ≡ length (selection_of d.sizes slab)
  pub fitting : list_all (fits d.fixed) values ≡ true

pub same_by : (x y : ℕ) → not (x == y) ≡ false → x ≡ y
same_by x y h = grind (arith, nat_tests)

pub accepted_write : (tree : Tree) (next : ℕ) (path : List ℕ) (hyper : Hyper) (values : List ℤ) → refusal_of tree next (Write path hyper values) ≡ None
    → (d : Dataset) × (dataset_at tree path ≡ Some d) × Writes d (axes_of hyper) values
unfolding refusal_of
accepted_write tree next path hyper values h =
    let rules = none_holds (rules_of tree next (Write path hyper values)) h in
    let form : is_none (names_of path) ≡ false = first_of_or _ _ (first_of_or _ _ (first_of_or _ _ rules.0)) in
    let after_four = rules.1.1.1.1 in
    let parent : has_no_parent (location_of tree path) ≡ false = first_of_or _ _ (first_of_or _ _ rules.1.1.1.0) in
    let group : has_no_group (location_of tree path) ≡ false = first_of_or _ _ (first_of_or _ _ after_four.0) in
    let missing : is_missing (location_of tree path) ≡ false = first_of_or _ _ (first_of_or _ _ after_four.1.0) in
    let stands : is_here (location_of tree path) ≡ true = here (location_of tree path) (located-is_place tree path form) parent group missing in
    let found : (d : Dataset) × (dataset_at tree path ≡ Some d) = some_of (is_here (location_of tree path)) (dataset_at tree path) stands (first_of_or _ _ after_four.1.1.1.1.0) in
    let later = after_four.1.1.1.1.1.1.1 in
    let rank : has_rank (length (found.0).sizes) hyper ≡ true = not-false _ (sym (ap (λ o. option_map_or (λ (d : Dataset). not (has_rank (length d.sizes) hyper)) o false) found.1) ∙ later.0) in
    let apart : list_any overlaps (axes_of hyper) ≡ false = later.1.1.0 in
    let within : is_within (found.0).sizes (axes_of hyper) ≡ true = not-false _ (sym (ap (λ o. option_map_or (λ (d : Dataset). not (is_within d.sizes (axes_of hyper))) o false) found.1) ∙ later.1.1.1.0) in
    let ranked : length (axes_of hyper) ≡ length (found.0).sizes = length-axes_of (length (found.0).sizes) hyper rank in
    let many : length values ≡ selected_cells (axes_of hyper) = same_by _ _ later.1.1.1.1.1.1.1.1.1.0 in (
      found.0,
      found.1,
      record {
        ranked = ranked;
        within = within;
        counted = many ∙ sym (length-selection (found.0).sizes (axes_of hyper) (sym ranked) within apart);
        fitting = not-false _ (sym (ap (λ o. option_map_or (λ (d : Dataset). not (list_all (fits d.fixed) values)) o false) found.1) ∙ later.1.1.1.1.1.1.1.1.1.1.0);
      },
    )
