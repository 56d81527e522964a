-- Entries of a symbol node, one after another (File Format Specification 3.0, section III.C).
use Rattle.std.proofs.Common.{◌≡◌, ℕ, ◌+◌, ◌<◌, List, [], ◌∷◌, ◌++◌, length, take, drop, get_or, slice_get, Option, Some, sym, ap, ◌∙◌, subst, append_assoc}
use Rattle.std.specs.Prelude.{option_map, unwrap_or}
use Rattle.std.specs.List.{AllByRecursion}
use Rattle.std.proofs.lemmas.List.{take_more}
use Rattle.std.proofs.lemmas.Option.{slice_get-get_or}
use Rattle.h5_bytes.proofs.BlockLaws.{all_append, all_left, all_right}
use Rattle.h5_model.specs.Format.Symbols.{Entry}
use Rattle.h5_model.specs.declared.open_fault.Cause.{Cause}
use Rattle.h5_snod.specs.Entries.{symbol_from}
use Rattle.h5_snod.specs.declared.entry.SymbolEntry.{SymbolEntry}
use Rattle.h5_group.specs.Texts.Linked.{linked_by, linked_from, IsEntrySound, AreEntriesSound, IsEntryRefused, AreEntriesRefused}
use Rattle.h5_group.proofs.TextProofs.ListLaws.{around}

-- what is read where no entry stands
abbrev pub blank : Entry
blank = record { name = 0; header = 0; cache = 0; text = 0 }

module _ (es : List Entry) (k : ℕ) (low : k < length es) (symbol : SymbolEntry) (read : option_map symbol_from (slice_get es k) ≡ Some symbol) where
  pub entry_is : symbol_from (get_or es k blank) ≡ symbol
  entry_is =
      let same : Some (symbol_from (get_or es k blank)) ≡ Some symbol = subst (λ (o : Option Entry). option_map symbol_from o ≡ Some symbol) (slice_get-get_or es k blank low) read in
      ap (λ o. unwrap_or o symbol) same

  pub linked_is : linked_from symbol ≡ linked_by (get_or es k blank)
  linked_is = ap linked_from (sym entry_is)

  -- it is sound too
  pub sound_more : (segment : List ℕ) → AreEntriesSound segment (take k es) → IsEntrySound segment symbol → AreEntriesSound segment (take (k + 1) es)
  sound_more segment before here =
      let Sound : Entry → Type 0 = λ e. IsEntrySound segment (symbol_from e) in
      let sound : Sound (get_or es k blank) = subst (IsEntrySound segment) (sym entry_is) here in
      subst (AllByRecursion Sound) (sym (take_more es k blank low)) (all_append Sound (take k es) (get_or es k blank ∷ []) before (sound, tt))

  -- it is sound where all are
  pub sound_one : (segment : List ℕ) → AreEntriesSound segment es → IsEntrySound segment symbol
  sound_one segment all =
      let Sound : Entry → Type 0 = λ e. IsEntrySound segment (symbol_from e) in
      let parts = subst (AllByRecursion Sound) (around es k blank low) all in
      subst (IsEntrySound segment) entry_is (all_right Sound (take k es) (get_or es k blank ∷ drop (k + 1) es) parts).0

  pub entry_refused : (segment : List ℕ) (cause : Cause) → AreEntriesSound segment (take k es) → IsEntryRefused segment symbol cause
      → AreEntriesRefused segment es cause
  entry_refused segment cause sound refused = record {
    before = take k es;
    entry = get_or es k blank;
    after = drop (k + 1) es;
    parts = around es k blank low;
    sound = sound;
    refused = subst (λ (s : SymbolEntry). IsEntryRefused segment s cause) (sym entry_is) refused;
  }

-- sound entries that stand before, and any that stand behind, change nothing
pub refused_between : (segment : List ℕ) (whole before es behind : List Entry) (cause : Cause) → whole ≡ before ++ (es ++ behind)
    → AreEntriesSound segment before → AreEntriesRefused segment es cause → AreEntriesRefused segment whole cause
refused_between segment whole before es behind cause is sound r = record {
  before = before ++ r.before;
  entry = r.entry;
  after = r.after ++ behind;
  parts = is ∙ ap (λ (xs : List Entry). before ++ (xs ++ behind)) r.parts ∙ ap (λ (xs : List Entry). before ++ xs) (append_assoc r.before (r.entry ∷ r.after) behind)
      ∙ sym (append_assoc before r.before (r.entry ∷ (r.after ++ behind)));
  sound = all_append (λ (e : Entry). IsEntrySound segment (symbol_from e)) before r.before sound r.sound;
  refused = r.refused;
}

-- entries among sound ones are sound
pub sound_between : (segment : List ℕ) (whole before es behind : List Entry) → whole ≡ before ++ (es ++ behind) → AreEntriesSound segment whole
    → AreEntriesSound segment es
sound_between segment whole before es behind is sound =
    let Sound : Entry → Type 0 = λ e. IsEntrySound segment (symbol_from e) in
    all_left Sound es behind (all_right Sound before (es ++ behind) (subst (AllByRecursion Sound) is sound))

-- and with sound ones before them too
pub sound_both : (segment : List ℕ) (whole before es : List Entry) → whole ≡ before ++ es → AreEntriesSound segment before → AreEntriesSound segment es
    → AreEntriesSound segment whole
sound_both segment whole before es is first second =
    let Sound : Entry → Type 0 = λ e. IsEntrySound segment (symbol_from e) in
    subst (AllByRecursion Sound) (sym is) (all_append Sound before es first second)
