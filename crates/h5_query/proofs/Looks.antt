-- What a path leads to, by the names that are followed.
use Rattle.std.proofs.Common.{◌≡◌, ℕ, ◌-◌, ◌<◌, ◌≤◌, List, [], ◌∷◌, length, take, drop, sym, ap, ◌∙◌, subst, Option, Some, arith, false, Result, Ok, Err}
use Rattle.std.specs.Prelude.{nat_lt, MatchResult}
use Rattle.std.specs.Option.{option_map_or, option_and_then}
use Rattle.std.proofs.lemmas.Bool.Decides.{nat_tests}
use Rattle.std.proofs.lemmas.List.{take_rest}
use Rattle.std.proofs.lemmas.List.Splits.{length-slice_split}
use Rattle.h5_model.specs.Format.Limits.{most_names}
use Rattle.h5_model.specs.Tree.Objects.{Tree, Link, ToObject, link_in}
use Rattle.h5_model.specs.Tree.Paths.{Located, Here, Missing, NoParent, NoGroup, NoPath, names_of, locate, missing_before, parent_from}
use Rattle.h5_model.specs.declared.edit_fault.EditFault.{EditFault}
use Rattle.h5_model.specs.declared.edit_fault.EditFault.TheVariants.{NoSuchParent, NotAGroup}
use Rattle.h5_open.specs.Opened.State.{FileState}
use Rattle.h5_query.specs.declared.place.Spot.{Spot}
use Rattle.h5_query.specs.declared.place.Spot.TheVariants.{Root, Taken, Free}
use Rattle.h5_query.specs.Names.{parts}
use Rattle.h5_query.specs.Place.{IsSpotOf, IsNoSpot, link_at}
use Rattle.h5_query.specs.Steps.{IsReached, IsLost}
use Rattle.h5_query.proofs.Parts.{some_part, is_slash}
use Rattle.h5_query.proofs.PathLaws.{names-split, locate-linked, parent-linked}
use Rattle.h5_query.proofs.RuleLaws.{at_group}

-- ---- one name after the other

-- from this link the names that are left lead where all of them lead from the root, and to the same group before the last one
pub record LeadsAs (tree : Tree) (link : Link) (names all : List (List ℕ)) : Type 0 where
  pub located : locate tree link names ≡ locate tree (ToObject 0) all
  pub parent : parent_from tree link names ≡ parent_from tree (ToObject 0) all

module _ (tree : Tree) (link : Link) (text name : List ℕ) (others all : List (List ℕ)) (leads : LeadsAs tree link (parts text) all)
    (cut : parts text ≡ name ∷ others) where
  -- the first of them, and those behind it
  cut_leads : LeadsAs tree link (name ∷ others) all
  cut_leads = subst (λ names. LeadsAs tree link names all) cut leads

  pub ends_at : (at : Located) → locate tree link (name ∷ others) ≡ at → locate tree (ToObject 0) all ≡ at
  ends_at at here = sym cut_leads.located ∙ here

  module _ (parent : ℕ) (linked : link ≡ ToObject parent) where
    pub in_parent : others ≡ [] → parent_from tree (ToObject 0) all ≡ Some (parent, name)
    in_parent last = sym cut_leads.parent ∙ (λ i. parent_from tree (linked i) (name ∷ last i))

    module _ (next : Link) (there : link_in tree parent name ≡ Some next) where
      pub ends_there : others ≡ [] → locate tree (ToObject 0) all ≡ Here next
      ends_there last = sym cut_leads.located ∙ (λ i. locate tree (linked i) (name ∷ last i)) ∙ locate-linked tree parent name [] next there

      pub leads_on : (rest : List ℕ) → others ≡ parts rest → LeadsAs tree next (parts rest) all
      leads_on rest are =
          let more = some_part (parts rest) _ (length-slice_split is_slash rest) in
          let known : LeadsAs tree (ToObject parent) (name ∷ parts rest) all
          = subst (λ (l : Link). LeadsAs tree l (name ∷ parts rest) all) linked (subst (λ names. LeadsAs tree link (name ∷ names) all) are cut_leads) in
          record {
            located = sym (locate-linked tree parent name (parts rest) next there) ∙ known.located;
            parent =
                ap (parent_from tree next) more.2
                ∙ sym (parent-linked tree parent name more.1 more.0 next there)
                ∙ ap (λ names. parent_from tree (ToObject parent) (name ∷ names)) (sym more.2)
                ∙ known.parent;
          }

-- a name that is missing before others
pub missing_inside : (rest : List ℕ) → missing_before (parts rest) ≡ NoParent
missing_inside rest = let more = some_part (parts rest) _ (length-slice_split is_slash rest) in ap missing_before more.2

-- ---- the whole path

module _ (f : FileState) (path x : List ℕ) (xs : List (List ℕ)) (named : names_of path ≡ Some (x ∷ xs)) (low : length (x ∷ xs) ≤ most_names) where
  shallow : nat_lt most_names (length (x ∷ xs)) ≡ false
  shallow = grind (arith, nat_tests)

  located_at : (at : Located) → locate f.tree (ToObject 0) (x ∷ xs) ≡ at → option_map_or (λ names. locate f.tree (ToObject 0) names) (names_of path) NoPath ≡ at
  located_at at there = ap (λ o. option_map_or (λ names. locate f.tree (ToObject 0) names) o NoPath) named ∙ there

  parent_of : (p : Option (ℕ × List ℕ)) → parent_from f.tree (ToObject 0) (x ∷ xs) ≡ p → option_and_then (parent_from f.tree (ToObject 0)) (names_of path) ≡ p
  parent_of p there = ap (option_and_then (parent_from f.tree (ToObject 0))) named ∙ there

  lost_before : (e : EditFault) → IsLost f.tree (x ∷ xs) e → IsNoSpot f.tree path e
  lost_before NoSuchParent lost = at_group f.tree path (x ∷ xs) NoParent named shallow (located_at NoParent lost)
  lost_before NotAGroup lost = at_group f.tree path (x ∷ xs) NoGroup named shallow (located_at NoGroup lost)
  lost_before _ lost = absurd lost

  spot_there : (at : Spot) → IsReached f (x ∷ xs) at → IsSpotOf f path at
  spot_there Root reached = absurd reached
  spot_there (Taken parent name place) reached =
      let there = located_at (Here (link_at place)) reached.1 in
      (at_group f.tree path (x ∷ xs) (Here (link_at place)) named shallow there, (parent_of (Some (parent, name.now)) reached.0, there, reached.2))
  spot_there (Free parent name) reached =
      let there = located_at Missing reached.1 in
      (at_group f.tree path (x ∷ xs) Missing named shallow there, (parent_of (Some (parent, name.now)) reached.0, there))

  by_names : (r : Result Spot EditFault) → MatchResult r (IsReached f (x ∷ xs)) (IsLost f.tree (x ∷ xs)) → MatchResult r (IsSpotOf f path) (IsNoSpot f.tree path)
  by_names (Ok at) reached = spot_there at reached
  by_names (Err e) lost = lost_before e lost

-- what the names between the slashes lead to
pub followed : (f : FileState) (path : List ℕ) (names : List (List ℕ)) → names_of path ≡ Some names → 0 < length names → length names ≤ most_names
    → (r : Result Spot EditFault)
    → MatchResult r (IsReached f (parts (take (length path - 1) (drop 1 path)))) (IsLost f.tree (parts (take (length path - 1) (drop 1 path))))
    → MatchResult r (IsSpotOf f path) (IsNoSpot f.tree path)
followed f path [] named some low r is = absurd (omega (arith, some))
followed f path (x ∷ xs) named some low r is =
    let same : parts (take (length path - 1) (drop 1 path)) ≡ x ∷ xs = ap parts (take_rest path 1) ∙ names-split path x xs named in
    by_names f path x xs named low r (rw same at is)
