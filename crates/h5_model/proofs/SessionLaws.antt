-- Lines of a script keep a session: its views go by numbers that were given out, with one axis for each dimension.
use Rattle.std.proofs.Common.{◌≡◌, ℕ, ◌+◌, ◌<◌, ◌≤◌, ◌==◌, Bool, true, false, not, cond, List, [], ◌∷◌, length, refl, sym, ◌∙◌, ap, subst, Option, Some, None, is_some, is_none, arith, Ok, Err, ℤ, ◌-◌, ◌++◌, codes, unwrap_or}
use Rattle.std.proofs.lemmas.Bool.Decides.{nat_tests}
use Rattle.std.specs.Ordering.{nat_cmp, eq_by_cmp}
use Rattle.std.specs.Cmp.{nat_cmp_total}
use Rattle.std.specs.declared.cmp.Ordering.TheVariants.{Equal}
use Rattle.std.specs.FinMap.{get, insert, remove, empty, len, contains_key, get-insert, get-remove, get-retain_keys, len-insert, len-remove, len-empty, get-empty, nat_cmp-IsAntisymmetric}
use Rattle.std.specs.Option.{option_map_or, option_and_then}
use Rattle.h5_model.specs.Format.Limits.{most_views, most_numbers}
use Rattle.h5_model.specs.Tree.Objects.{Tree, Link, ToObject, Soft, Links, Object, Group, Array, Dataset, dataset_in, dataset_of, with_object, only_reached, is_reached}
use Rattle.h5_model.specs.Tree.Paths.{names_of, location_of, parent_at, object_at, dataset_at}
use Rattle.h5_model.specs.Views.Selection.{Slab, axes_of, has_rank}
use Rattle.h5_model.specs.Edits.Applied.{State, state_after, with_edit, with_link_at, without_link_at, with_hard_link, with_links, with_dataset, with_attributes, with_object_at, new_object, new_dataset, attribute_from, with_selection, with_sizes}
use Rattle.h5_model.specs.Edits.Refusal.{refusal_of, rules_of, first_holding, is_here}
use Rattle.h5_model.specs.Scripts.Reading.{path_rules, selection_rules}
use Rattle.h5_model.specs.Edits.ImageAnswers.{refusal_or}
use Rattle.h5_model.specs.Views.ViewFaults.{view_fault_text}
use Rattle.h5_model.specs.Scripts.Lines.{Command, Change, OpenView, Show, Close, ListAll, Dump, Repack, Unread}
use Rattle.h5_model.specs.Scripts.Answers.{Given, Refused, Told, answer_with, edit_decided, view_decided, view_answer, show_told, told_unless, dump_of, with_new_view, has_many_views, answer_of, session_after}
use Rattle.h5_model.specs.Views.Shown.{View, shows}
use Rattle.h5_model.specs.Scripts.Sessions.{Session, new_session, IsState, IsView, IsSession}
use Rattle.std.specs.Fmt.{decimal}
use Rattle.std.proofs.lemmas.Bool.{not-false}
use Rattle.h5_model.specs.declared.hyperslab.Hyper.{Hyper}
use Rattle.h5_model.specs.declared.view_fault.ViewFault.TheVariants as view_fault
use Rattle.h5_model.specs.declared.edits.Edit.{Edit}
use Rattle.h5_model.specs.declared.edits.Edit.TheVariants.{CreateGroup, CreateDataset, HardLink, SoftLink, Unlink, SetAttr, RemoveAttr, Write, Resize}
use Rattle.h5_model.proofs.StateLaws.{passes, passes-with_object, same_number, next-state_after}
use Rattle.h5_model.proofs.RefusalLaws.{none_holds, IsState-accepted, length-axes_of, not_refused, here, some_of, same_by}
use Rattle.h5_model.proofs.PathLaws.{located-is_place}

-- ---- ranks

abbrev has_other_rank : ℕ → Object → Bool
has_other_rank rank o = option_map_or (λ (d : Dataset). not (length d.sizes == rank)) (dataset_in o.content) false

-- each object has the rank that it had
SameRanks : Tree → Tree → Type 0
SameRanks old new = (rank m : ℕ) → passes (has_other_rank rank) new m ≡ passes (has_other_rank rank) old m

rank-with_links : (rank : ℕ) (change : Links → Links) (o : Object) → has_other_rank rank (with_links change o) ≡ has_other_rank rank o
rank-with_links rank change o = elim (o.content) as (λ content. has_other_rank rank (with_links change (record o { content = content })) ≡ has_other_rank rank (record o { content = content })) [
  | Group links ↦ refl
  | Array d ↦ refl
]

rank-written : (rank : ℕ) (slab : Slab) (values : List ℤ) (o : Object) → has_other_rank rank (with_dataset (with_selection slab values) o) ≡ has_other_rank rank o
rank-written rank slab values o = elim (o.content) as (λ content. has_other_rank rank (with_dataset (with_selection slab values) (record o { content = content })) ≡ has_other_rank rank (record o { content = content })) [
  | Group links ↦ refl
  | Array d ↦ refl
]

rank-resized : (rank : ℕ) (dims : List ℕ) (o : Object) → option_map_or (λ (d : Dataset). not (length dims == length d.sizes)) (dataset_in o.content) false ≡ false
    → has_other_rank rank (with_dataset (with_sizes dims) o) ≡ has_other_rank rank o
rank-resized rank dims o h = elim (o.content) as (λ content. option_map_or (λ (d : Dataset). not (length dims == length d.sizes)) (dataset_in content) false ≡ false
    → has_other_rank rank (with_dataset (with_sizes dims) (record o { content = content })) ≡ has_other_rank rank (record o { content = content })) [
      | Group links ↦ λ _. refl
      | Array d ↦ λ same. ap (λ n. not (n == rank)) (same_by (length dims) (length d.sizes) same)
    ] h

ranks-linked : (tree : Tree) (path : List ℕ) (link : Link) → SameRanks tree (with_link_at tree path link)
unfolding SameRanks
ranks-linked tree path link rank m = elim (parent_at tree path) as (λ p. passes (has_other_rank rank) (option_map_or (λ p. with_object tree p.0 (with_links (λ links. insert links p.1 link))) p tree) m ≡ passes (has_other_rank rank) tree m) [
  | None ↦ refl
  | Some p ↦ passes-with_object (has_other_rank rank) (with_links (λ links. insert links p.1 link)) tree p.0 m (λ o there. rank-with_links rank (λ links. insert links p.1 link) o)
]

ranks-unlinked : (tree : Tree) (path : List ℕ) → SameRanks tree (without_link_at tree path)
unfolding SameRanks
ranks-unlinked tree path rank m = elim (parent_at tree path) as (λ p. passes (has_other_rank rank) (option_map_or (λ p. with_object tree p.0 (with_links (λ links. remove links p.1))) p tree) m ≡ passes (has_other_rank rank) tree m) [
  | None ↦ refl
  | Some p ↦ passes-with_object (has_other_rank rank) (with_links (λ links. remove links p.1)) tree p.0 m (λ o there. rank-with_links rank (λ links. remove links p.1) o)
]

ranks-linked_to : (tree : Tree) (target path : List ℕ) → SameRanks tree (with_hard_link tree target path)
unfolding SameRanks
ranks-linked_to tree target path rank m = elim (object_at tree target) as (λ o. passes (has_other_rank rank) (option_map_or (λ number. with_link_at tree path (ToObject number)) o tree) m ≡ passes (has_other_rank rank) tree m) [
  | None ↦ refl
  | Some number ↦ ranks-linked tree path (ToObject number) rank m
]

ranks-with_object_at : (change : Object → Object) → ((rank : ℕ) (o : Object) → has_other_rank rank (change o) ≡ has_other_rank rank o) → (tree : Tree) (path : List ℕ)
    → SameRanks tree (with_object_at tree path change)
unfolding SameRanks
ranks-with_object_at change keeps tree path rank m = elim (object_at tree path) as (λ o. passes (has_other_rank rank) (option_map_or (λ number. with_object tree number change) o tree) m ≡ passes (has_other_rank rank) tree m) [
  | None ↦ refl
  | Some number ↦ passes-with_object (has_other_rank rank) change tree number m (λ o there. keeps rank o)
]

ranks-resized : (tree : Tree) (path dims : List ℕ) → option_map_or (λ (d : Dataset). not (length dims == length d.sizes)) (dataset_at tree path) false ≡ false
    → SameRanks tree (with_object_at tree path (with_dataset (with_sizes dims)))
unfolding SameRanks
ranks-resized tree path dims h rank m = elim (object_at tree path) as (λ o. option_map_or (λ (d : Dataset). not (length dims == length d.sizes)) (option_and_then (dataset_of tree) o) false ≡ false
    → passes (has_other_rank rank) (option_map_or (λ number. with_object tree number (with_dataset (with_sizes dims))) o tree) m ≡ passes (has_other_rank rank) tree m) [
      | None ↦ λ _. refl
      | Some number ↦ λ same. passes-with_object (has_other_rank rank) (with_dataset (with_sizes dims)) tree number m (λ o there. rank-resized rank dims o
          (sym (ap (λ found. option_map_or (λ (d : Dataset). not (length dims == length d.sizes)) (option_and_then (λ (o : Object). dataset_in o.content) found) false) there) ∙ same))
    ] h

rank_beside : (tree : Tree) (next : ℕ) (o : Object) (rank m : ℕ) → m < next → passes (has_other_rank rank) tree m ≡ false
    → passes (has_other_rank rank) (insert tree next o) m ≡ false
rank_beside tree next o rank m low before = ap (λ found. option_map_or (has_other_rank rank) found false) (get-insert nat_cmp_total tree next o m)
    ∙ elim (eq_by_cmp nat_cmp m next) as (λ b. eq_by_cmp nat_cmp m next ≡ b → option_map_or (has_other_rank rank) (cond b (Some o) (get tree m)) false ≡ false) [
      | true ↦ λ same. let here : m ≡ next = nat_cmp-IsAntisymmetric m next (same_number m next same) in absurd (omega (arith, here, low))
      | false ↦ λ _. before
    ] refl

rank_reached : (tree : Tree) (rank m : ℕ) → passes (has_other_rank rank) tree m ≡ false → passes (has_other_rank rank) (only_reached tree) m ≡ false
rank_reached tree rank m before =
    let same = λ (x : ℕ) (tied : nat_cmp m x ≡ Equal). ap (is_reached tree) (sym (nat_cmp-IsAntisymmetric m x tied)) in
    ap (λ found. option_map_or (has_other_rank rank) found false) (get-retain_keys tree (is_reached tree) m same)
    ∙ elim (is_reached tree m) as (λ b. option_map_or (has_other_rank rank) (cond b (get tree m) None) false ≡ false) [ true ↦ before | false ↦ refl ]

-- an object whose number was given out has no other rank after an accepted edit
rank_kept : (s : State) (edit : Edit) → refusal_of s.tree s.next edit ≡ None → (rank m : ℕ) → m < s.next → passes (has_other_rank rank) s.tree m ≡ false
    → passes (has_other_rank rank) (state_after s edit).tree m ≡ false
unfolding with_edit refusal_of SameRanks
rank_kept s (CreateGroup path) h rank m low before = rank_beside (with_link_at s.tree path (ToObject s.next)) s.next (new_object (Group empty)) rank m low (ranks-linked s.tree path (ToObject s.next) rank m ∙ before)
rank_kept s (CreateDataset path spec) h rank m low before = rank_beside (with_link_at s.tree path (ToObject s.next)) s.next (new_object (Array (new_dataset spec))) rank m low (ranks-linked s.tree path (ToObject s.next) rank m ∙ before)
rank_kept s (HardLink target path) h rank m low before = ranks-linked_to s.tree target path rank m ∙ before
rank_kept s (SoftLink text path) h rank m low before = ranks-linked s.tree path (Soft text) rank m ∙ before
rank_kept s (Unlink path) h rank m low before = rank_reached (without_link_at s.tree path) rank m (ranks-unlinked s.tree path rank m ∙ before)
rank_kept s (SetAttr path attr) h rank m low before = ranks-with_object_at (with_attributes (λ a. insert a attr.name (attribute_from attr))) (λ r o. refl) s.tree path rank m ∙ before
rank_kept s (RemoveAttr path name) h rank m low before = ranks-with_object_at (with_attributes (λ a. remove a name)) (λ r o. refl) s.tree path rank m ∙ before
rank_kept s (Write path hyper values) h rank m low before =
    ranks-with_object_at (with_dataset (with_selection (axes_of hyper) values)) (λ r o. rank-written r (axes_of hyper) values o) s.tree path rank m ∙ before
rank_kept s (Resize path dims) h rank m low before =
    ranks-resized s.tree path dims (none_holds (rules_of s.tree s.next (Resize path dims)) h).1.1.1.1.1.1.1.1.1.1.1.0 rank m ∙ before

-- ---- views

ranked_from : (rank : ℕ) (found : Option Dataset) → option_map_or (λ (d : Dataset). not (length d.sizes == rank)) found false ≡ false → (d : Dataset) → found ≡ Some d → rank ≡ length d.sizes
ranked_from rank found h d there = sym (same_by (length d.sizes) rank (sym (ap (λ o. option_map_or (λ (d : Dataset). not (length d.sizes == rank)) o false) there) ∙ h))

ranked_to : (rank : ℕ) (found : Option Dataset) → ((d : Dataset) → found ≡ Some d → rank ≡ length d.sizes) → option_map_or (λ (d : Dataset). not (length d.sizes == rank)) found false ≡ false
ranked_to rank None h = refl
ranked_to rank (Some d) h = let same : rank ≡ length d.sizes = h d refl in grind (arith, nat_tests)

of_dataset : (rank : ℕ) (tree : Tree) (m : ℕ) → passes (has_other_rank rank) tree m ≡ option_map_or (λ (d : Dataset). not (length d.sizes == rank)) (dataset_of tree m) false
of_dataset rank tree m = elim (get tree m) as (λ found. option_map_or (has_other_rank rank) found false
    ≡ option_map_or (λ (d : Dataset). not (length d.sizes == rank)) (option_and_then (λ (o : Object). dataset_in o.content) found) false) [ None ↦ refl | Some o ↦ refl ]

-- an accepted edit keeps what a view keeps to
pub IsView-accepted : (s : State) (edit : Edit) (view : View) → refusal_of s.tree s.next edit ≡ None → IsView s view → IsView (state_after s edit) view
IsView-accepted s edit view h is = record {
  given = omega (arith, is.given, next-state_after s edit);
  ranked = ranked_from (length view.slab) (dataset_of (state_after s edit).tree view.object)
      (sym (of_dataset (length view.slab) (state_after s edit).tree view.object)
      ∙ rank_kept s edit h (length view.slab) view.object is.given
      (of_dataset (length view.slab) s.tree view.object ∙ ranked_to (length view.slab) (dataset_of s.tree view.object) is.ranked));
}

-- ---- sessions

pub IsSession-accepted : (s : Session) (edit : Edit) → refusal_of (s.state).tree (s.state).next edit ≡ None → IsSession s → IsSession (record s { state = state_after s.state edit })
IsSession-accepted s edit h is = record {
  state = IsState-accepted s.state edit is.state h;
  each = λ number view there. IsView-accepted s.state edit view h (is.each number view there);
  given = is.given;
  low = is.low;
  few = is.few;
}

-- a session with one view more
more : (s : Session) (view : View) → IsSession s → IsView s.state view → has_many_views s ≡ false
    → IsSession (record s { views = insert s.views s.next_view view; next_view = s.next_view + 1 })
more s view is new room =
    let few : len s.views < most_views = grind (arith, nat_tests) in
    let low : s.next_view < most_numbers = grind (arith, nat_tests) in
    record {
      state = is.state;
      each = λ number other there. elim (eq_by_cmp nat_cmp number s.next_view) as (λ b. cond b (Some view) (get s.views number) ≡ Some other → IsView s.state other) [
        | true ↦ λ same. subst (λ v. IsView s.state v) (same_view view other same) new
        | false ↦ λ old. is.each number other old
      ] (sym (get-insert nat_cmp_total s.views s.next_view view number) ∙ there);
      given = λ number there. elim (eq_by_cmp nat_cmp number s.next_view) as (λ b. eq_by_cmp nat_cmp number s.next_view ≡ b
          → is_some (cond b (Some view) (get s.views number)) ≡ true → number < s.next_view + 1) [
            | true ↦ λ same _. let at : number ≡ s.next_view = nat_cmp-IsAntisymmetric number s.next_view (same_number number s.next_view same) in omega (arith, at)
            | false ↦ λ _ old. omega (arith, is.given number old)
          ] refl (sym (ap is_some (get-insert nat_cmp_total s.views s.next_view view number)) ∙ there);
      low = omega (arith, low);
      few = one_more (contains_key s.views s.next_view) (len s.views) (len (insert s.views s.next_view view)) (len-insert nat_cmp_total s.views s.next_view view) few;
    } where
      same_view : (a b : View) → Some a ≡ Some b → a ≡ b
      same_view a b h = ap (λ o. unwrap_or o a) h

      one_more : (b : Bool) (n m : ℕ) → m ≡ cond b n (n + 1) → n < most_views → m ≤ most_views
      one_more true n m h low = omega (arith, h, low)
      one_more false n m h low = omega (arith, h, low)

-- a session with one view less
less : (s : Session) (number : ℕ) → IsSession s → IsSession (record s { views = remove s.views number })
less s number is = record {
  state = is.state;
  each = λ at view there. elim (eq_by_cmp nat_cmp at number) as (λ b. cond b None (get s.views at) ≡ Some view → IsView s.state view) [
    | true ↦ λ none. absurd (cc)
    | false ↦ λ old. is.each at view old
  ] (sym (get-remove nat_cmp_total s.views number at) ∙ there);
  given = λ at there. elim (eq_by_cmp nat_cmp at number) as (λ b. is_some (cond b None (get s.views at)) ≡ true → at < s.next_view) [
    | true ↦ λ none. absurd (cc)
    | false ↦ λ old. is.given at old
  ] (sym (ap is_some (get-remove nat_cmp_total s.views number at)) ∙ there);
  low = is.low;
  few = fewer (contains_key s.views number) (len s.views) (len (remove s.views number)) (len-remove nat_cmp_total s.views number) is.few;
} where
  fewer : (b : Bool) (n m : ℕ) → m ≡ cond b (n - 1) n → n ≤ most_views → m ≤ most_views
  fewer true n m h low = omega (arith, h, low)
  fewer false n m h low = omega (arith, h, low)

-- a dataset that was opened has a number that was given out
some_object : (tree : Tree) (number : ℕ) (d : Dataset) → dataset_of tree number ≡ Some d → is_some (get tree number) ≡ true
some_object tree number d h = elim (get tree number) as (λ found. option_and_then (λ (o : Object). dataset_in o.content) found ≡ Some d → is_some found ≡ true) [
  | None ↦ λ none. absurd (cc)
  | Some o ↦ λ _. refl
] h

-- a view that is opened
new_view : (s : State) (path : List ℕ) (hyper : Hyper) (number : ℕ) → IsState s → first_holding (selection_rules s.tree path hyper) ≡ None → object_at s.tree path ≡ Some number
    → IsView s (record { object = number; slab = axes_of hyper })
new_view s path hyper number is h at =
    let rules = none_holds (selection_rules s.tree path hyper) h in
    let form : is_none (names_of path) ≡ false = rules.0 in
    let later = rules.1.1 in
    let stands : is_here (location_of s.tree path) ≡ true = here (location_of s.tree path) (located-is_place s.tree path form) later.0 later.1.0 later.1.1.0 in
    let found : (d : Dataset) × (dataset_at s.tree path ≡ Some d) = some_of (is_here (location_of s.tree path)) (dataset_at s.tree path) stands later.1.1.1.0 in
    let same : dataset_at s.tree path ≡ dataset_of s.tree number = ap (option_and_then (dataset_of s.tree)) at in
    record {
      given = is.given number (some_object s.tree number found.0 (sym same ∙ found.1));
      ranked = λ d there. length-axes_of (length d.sizes) hyper
          (not-false _ (sym (ap (λ o. option_map_or (λ (d : Dataset). not (has_rank (length d.sizes) hyper)) o false) (same ∙ there)) ∙ later.1.1.1.1.0));
    }

view_kept : (s : Session) (path : List ℕ) (hyper : Hyper) (given : Given) → IsSession s → IsSession (view_answer s path hyper given).session
view_kept s path hyper given is = elim (first_holding (selection_rules (s.state).tree path hyper)) as (λ refusal. first_holding (selection_rules (s.state).tree path hyper) ≡ refusal
    → IsSession (view_decided s hyper given refusal (object_at (s.state).tree path)).session) [
      | Some f ↦ λ _. is
      | None ↦ λ free. elim (object_at (s.state).tree path) as (λ at. object_at (s.state).tree path ≡ at → IsSession (view_decided s hyper given None at).session) [
        | None ↦ λ _. is
        | Some number ↦ λ at. elim (has_many_views s) as (λ b. has_many_views s ≡ b → IsSession (cond b (answer_with Refused (view_fault_text view_fault.TooManyViews) s)
            (cond (is_some given) (answer_with Refused (view_fault_text view_fault.NoMemory) s)
            (answer_with Told (codes "view " ++ decimal s.next_view ++ codes "\n") (with_new_view s number hyper)))).session) [
              | true ↦ λ _. is
              | false ↦ λ room. elim (is_some given) as (λ b. IsSession (cond b (answer_with Refused (view_fault_text view_fault.NoMemory) s)
                  (answer_with Told (codes "view " ++ decimal s.next_view ++ codes "\n") (with_new_view s number hyper))).session) [
                    | true ↦ is
                    | false ↦ more s (record { object = number; slab = axes_of hyper }) is (new_view s.state path hyper number is.state free at) room
                  ]
            ] refl
      ] refl
    ] refl

-- whatever a line asks for, it keeps a session
pub IsSession-answer_of : (s : Session) (command : Command) (given : Given) → IsSession s → IsSession (answer_of s command given).session
IsSession-answer_of s (Change edit) given is = elim (refusal_or (refusal_of (s.state).tree (s.state).next edit) given) as (λ o.
    is_none (refusal_or (refusal_of (s.state).tree (s.state).next edit) given) ≡ is_none o → IsSession (edit_decided s edit o).session) [
      | Some f ↦ λ _. is
      | None ↦ λ free. IsSession-accepted s edit (not_refused _ given free) is
    ] refl
IsSession-answer_of s (OpenView path hyper) given is = view_kept s path hyper given is
IsSession-answer_of s (Show number) given is = elim (shows (s.state).tree s.views number) as (λ shown. IsSession (show_told s number shown).session) [ Err f ↦ is | Ok shown ↦ is ]
IsSession-answer_of s (Close number) given is = elim (contains_key s.views number) as (λ b. IsSession (cond b (answer_with Told (codes "closed\n") (record s { views = remove s.views number }))
    (answer_with Refused (view_fault_text view_fault.NoSuchView) s)).session) [ true ↦ less s number is | false ↦ is ]
IsSession-answer_of s ListAll None is = is
IsSession-answer_of s ListAll (Some f) is = is
IsSession-answer_of s (Dump path) given is = elim (refusal_or (first_holding (path_rules (s.state).tree path)) given) as (λ o.
    IsSession (told_unless o (dump_of (s.state).tree path (location_of (s.state).tree path)) s).session) [ Some f ↦ is | None ↦ is ]
IsSession-answer_of s Repack None is = is
IsSession-answer_of s Repack (Some f) is = is
IsSession-answer_of s Unread given is = is

-- and so do all lines of a script
pub IsSession-session_after : (s : Session) (lines : List (Command × Given)) → IsSession s → IsSession (session_after s lines)
unfolding session_after
IsSession-session_after s [] is = is
IsSession-session_after s (line ∷ lines) is = IsSession-session_after (answer_of s line.0 line.1).session lines (IsSession-answer_of s line.0 line.1 is)

-- as a session begins
pub IsSession-new : (s : State) → IsState s → IsSession (new_session s)
IsSession-new s is = record {
  state = is;
  each = λ number view there. let none : get (empty {X = View} {R = nat_cmp}) number ≡ None = get-empty nat_cmp number in absurd (cc);
  given = λ number there. let none : get (empty {X = View} {R = nat_cmp}) number ≡ None = get-empty nat_cmp number in absurd (cc);
  low = omega arith;
  few = rw (len-empty nat_cmp View) (omega arith);
}
