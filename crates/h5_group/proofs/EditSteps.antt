-- Steps of an edit of a group, one after another.
use Rattle.std.proofs.Common.{◌≡◌, ℕ, inl, inr, Bool, true, false, List, [], ◌∷◌, option_map, Some, refl, sym, ap, ◌∙◌, subst}
use Rattle.std.specs.Prelude.{◌==◌, ◌++◌, if◌then◌else◌, slice_get}
use Rattle.std.proofs.lemmas.Option.{same_Some}
use Rattle.h5_bytes.specs.declared.Block.{Block}
use Rattle.h5_laws.proofs.Ascending.{before_trans, ascend_tail}
use Rattle.h5_laws.proofs.Lists.{In}
use Rattle.h5_model.specs.Format.Addresses.{SymbolTable}
use Rattle.h5_model.specs.Format.Links.{Ascend, Before}
use Rattle.h5_model.specs.Format.Symbols.{Entry, Target}
use Rattle.h5_model.proofs.TextOrder.{before_itself}
use Rattle.h5_space.specs.Space.{Space}
use Rattle.h5_space.proofs.MovesLaws.{moves_then}
use Rattle.h5_snod.specs.Entries.{symbol_from}
use Rattle.h5_snod.specs.declared.entry.SymbolEntry.{SymbolEntry}
use Rattle.h5_snod.specs.declared.entry.SymbolTarget.{SymbolTarget}
use Rattle.h5_snod.specs.declared.entry.SymbolTarget.TheVariants as target
use Rattle.h5_group.specs.Edited.{HasGroupMoved, offsets_of}
use Rattle.h5_group.specs.Removal.{offsets_named}

pub moved_then : (s t u : Space) (table : SymbolTable) (before : List Block) (links links' : List (List ℕ × Target)) (spare spare' : List ℕ)
    (m : HasGroupMoved s t table before links spare) → HasGroupMoved t u table m.blocks links' spare' → HasGroupMoved s u table before links' spare'
moved_then s t u table before links links' spare spare' m n = record {
  blocks = n.blocks;
  group = n.group;
  moves = moves_then s t u before m.blocks n.blocks m.moves n.moves;
  k = n.k ∙ m.k;
}

-- ---- an entry that goes, and its texts

pub offsets_are : (e : Entry) → offsets_named (symbol_from e) ≡ offsets_of e
offsets_are e = by_cache (e.cache == 2) where
  by_cache : (b : Bool) → offsets_named (record { name = e.name; target = if b then target.Text e.text else target.Header e.header }) ≡ e.name ∷ (if b then e.text ∷ [] else [])
  by_cache true = refl
  by_cache false = refl

-- an entry of a soft link names two texts
pub soft_offsets : (e : SymbolEntry) (text : ℕ) (spare : List ℕ) → e.target ≡ target.Text text → offsets_named e ++ spare ≡ e.name ∷ text ∷ spare
soft_offsets e text spare is = subst (λ (t : SymbolTarget). offsets_named (record { name = e.name; target = t }) ++ spare ≡ e.name ∷ text ∷ spare) (sym is) refl

-- what was read of an entry is of the entry that stands there
pub entry_read : (es : List Entry) (k : ℕ) (r : SymbolEntry) → option_map symbol_from (slice_get es k) ≡ Some r → (e : Entry) → slice_get es k ≡ Some e → symbol_from e ≡ r
entry_read es k r read e is = same_Some (symbol_from e) r (sym (ap (option_map symbol_from) is) ∙ read)

-- ---- names that ascend name one link each

above_first : (a x : List ℕ × Target) (xs : List (List ℕ × Target)) → Ascend (a ∷ xs) → In x xs → Before a.0 x.0
above_first a x [] rises at = absurd at
above_first a x (b ∷ xs) rises (inl e) = subst (λ (y : List ℕ × Target). Before a.0 y.0) e rises.0
above_first a x (b ∷ xs) rises (inr at) = before_trans a.0 b.0 x.0 rises.0 (above_first b x xs rises.1 at)

pub one_link : (links : List (List ℕ × Target)) (name : List ℕ) (t u : Target) → Ascend links → In (name, t) links → In (name, u) links → t ≡ u
one_link [] name t u rises one other = absurd one
one_link (l ∷ links) name t u rises (inl e) (inl f) = ap (λ (x : List ℕ × Target). x.1) (sym e ∙ f)
one_link (l ∷ links) name t u rises (inl e) (inr at) =
    absurd (before_itself name (subst (λ (n : List ℕ). Before n name) (ap (λ (x : List ℕ × Target). x.0) e) (above_first l (name, u) links rises at)))
one_link (l ∷ links) name t u rises (inr at) (inl f) =
    absurd (before_itself name (subst (λ (n : List ℕ). Before n name) (ap (λ (x : List ℕ × Target). x.0) f) (above_first l (name, t) links rises at)))
one_link (l ∷ links) name t u rises (inr at) (inr also) = one_link links name t u (ascend_tail l links rises) at also
