-- Words without a fault ask for an order: the walk stops at one of the command's subcommands, and that has all that it requires.
use Rattle.std.proofs.Common.{◌≡◌, ◌<◌, ◌&&◌, ◌||◌, ◌++◌, not, ℕ, Bool, cond, true, false, zero, suc, refl, sym, ap, subst, arith, codes, List, [], ◌∷◌, length, Option, Some, None, is_some, option_map, true≢false}
use Rattle.std.specs.Prelude.{encode_utf8, drop, slice_get, find, fold}
use Rattle.std.specs.List.{list_any, slice_index_or}
use Rattle.std.specs.Option.{option_and_then, option_map_or}
use Rattle.std.specs.Str.{bytes_eq, chars}
use Rattle.clap.specs.Lexer.{long_of, short_of}
use Rattle.clap.specs.Walk.{Held, Names, answers_to, stop_after, Outcome, Row, Rule, Step, Waiting, Walk, Text, action_of, after_flag, after_step, arg_by_id, arg_by_index, arg_by_long, arg_by_short, bundle, bundle_met, bundle_step, default_rows, done, first_of, flag_met, idle, is_pending, long_met, long_or_other, more_values, next, nothing_held, option, option_word, plain, plain_word, positional, positional_held, pushed, reacted, reading_by, refused, rows_after, settled, settled_rows, short_met, short_or_plain, started, subcommand, subcommand_met, subcommand_or_other, takes_several, takes_values, to_positional, trailing, used_as, used_by_id, value, values_or_missing, waits, walk, walk_from, walked, walked_from, with_default, with_values, without, word_met}
use Rattle.clap.specs.Simple.{App, Shape, argument_words, built, entered, help_shape, label_of, names_of, rows_at}
use Rattle.clap.specs.Takes.{is_given}
use Rattle.clap.specs.Kinds.{Kinds, check_kinds, or_else}
use Rattle.clap.specs.Faults.{built_fault, check_fault, defaults_fault, entered_fault, level_fault, other_fault, settle_fault, step_fault, turn_fault, walk_fault, word_fault}
use Rattle.clap.specs.declared.error.kind.ErrorKind.{ErrorKind}
use Rattle.clap.specs.declared.builder.action.ArgAction.{ArgAction}
use Rattle.clap.specs.declared.builder.action.ArgAction.TheVariants as action
use Rattle.clap.specs.declared.builder.value_parser.Reading.{Reading}
use Rattle.clap.specs.declared.parser.matches.ValueSource.{ValueSource}
use Rattle.clap.specs.Facts.{explicit_source}
use Rattle.std.proofs.lemmas.List.{length-append}
use Rattle.std.proofs.lemmas.Slice.Eq.{bytes_eq-Decides}
use Rattle.h5_args.specs.Words.{wanted_by_words, faults, h5i_app, wanted_in, WantNew, WantLs, WantDump, WantRun}

-- ---- the subcommand is not `help`

abbrev is_none : Kinds → Bool
is_none [] = true
is_none (k ∷ ks) = false

no_kinds : (k : ErrorKind) (ks : Kinds) → ◌≡◌ {A = Kinds} (k ∷ ks) [] → ⊥
no_kinds k ks e = true≢false (sym (ap is_none e))

-- no kind of two is none of either
neither : (a b : Kinds) → or_else a b ≡ [] → (a ≡ []) × (b ≡ [])
neither [] b e = (refl, e)
neither (k ∷ ks) b e = absurd (no_kinds k ks e)

not_help : (b : Bool) (k : ErrorKind) (ks : Kinds) → cond (b && true) (k ∷ ks) [] ≡ [] → b ≡ false
not_help true k ks e = absurd (no_kinds k ks e)
not_help false k ks e = refl

-- where the last checks find nothing, no subcommand and no value is missing
checked : (help sub missing : Bool) → check_kinds help sub missing ≡ [] → (sub ≡ false) × (missing ≡ false)
checked true sub missing e = absurd (no_kinds _ _ e)
checked false true missing e = absurd (no_kinds _ _ e)
checked false false true e = absurd (no_kinds _ _ e)
checked false false false e = (refl, refl)

abbrev IsOrderName : Text → Type 0
IsOrderName name = bytes_eq name (codes "help") ≡ false

abbrev StopsAtOrder : Option (Text × List Text) → Type 0
StopsAtOrder None = Unit {0}
StopsAtOrder (Some p) = IsOrderName p.0

abbrev MeetsOrder : Step → Type 0
MeetsOrder (subcommand name) = IsOrderName name
MeetsOrder _ = Unit {0}

plain_meets : (c : List Rule) (waiting : Waiting) (word : Text) (h : Held) → MeetsOrder (plain_word c waiting word h).1
plain_meets c idle word h = tt
plain_meets c (option id) word h = tt
plain_meets c positional word h = tt

flag_meets : (c : List Rule) (waiting : Waiting) (word : Text) (h : Held) (o : Outcome) → MeetsOrder (after_flag c waiting word h o).1
flag_meets c waiting word h done = tt
flag_meets c waiting word h (waits id) = tt
flag_meets c waiting word h plain = plain_meets c waiting word h
flag_meets c waiting word h refused = plain_meets c waiting word h

short_meets : (c : List Rule) (waiting : Waiting) (word : Text) (h : Held) (flags : Option Text) → MeetsOrder (short_or_plain c waiting word flags h).1
short_meets c waiting word h (Some flags) = flag_meets c waiting word (bundle c flags h).0 (bundle c flags h).1
short_meets c waiting word h None = plain_meets c waiting word h

long_meets : (c : List Rule) (waiting : Waiting) (word : Text) (h : Held) (parts : Option (Text × Option Text)) → MeetsOrder (long_or_other c waiting word parts h).1
long_meets c waiting word h (Some p) = flag_meets c waiting word (long_met c (arg_by_long c p.0) p.1 h).0 (long_met c (arg_by_long c p.0) p.1 h).1
long_meets c waiting word h None = short_meets c waiting word h (short_of word)

module _ (s : Shape) (names : Names) (helps : s.disable_help_subcommand ≡ false) where
  other_meets : (met : Option Text) (waiting : Waiting) (position : ℕ) (word : Text) (h : Held) → other_fault s met word h ≡ []
      → MeetsOrder (subcommand_or_other s.rules met waiting position word h).1
  other_meets (Some name) waiting position word h e = not_help (bytes_eq name (codes "help")) _ _ (rw helps at e)
  other_meets None waiting position word h e = go (bytes_eq word (45 ∷ 45 ∷ []))
    where
      go : (b : Bool) → MeetsOrder (cond b (h, trailing position) (long_or_other s.rules waiting word (long_of word) h)).1
      go true = tt
      go false = long_meets s.rules waiting word h (long_of word)

  word_meets : (is_trailing : Bool) (waiting : Waiting) (position : ℕ) (word : Text) (h : Held) → word_fault s names is_trailing waiting word h ≡ []
      → MeetsOrder (word_met s.rules names is_trailing waiting position word h).1
  word_meets true waiting position word h e = tt
  word_meets false waiting position word h e = other_meets (subcommand_met names waiting word) waiting position word h e

  step_stops : (c : List Rule) (word : Text) (w : Walk) (h : Held) (step : Step) → StopsAtOrder w.stopped → MeetsOrder step → StopsAtOrder (after_step c word w h step).stopped
  step_stops c word w h (next waiting) at meets = at
  step_stops c word w h (trailing position) at meets = at
  step_stops c word w h (subcommand name) at meets = meets
  step_stops c word w h value at meets = go (arg_by_index c w.position)
    where
      go : (a : Option Rule) → StopsAtOrder (to_positional c a word w h).stopped
      go None = at
      go (Some a) = tt

  from_stops : (stopped : Option (Text × List Text)) (w : Walk) (word : Text) → StopsAtOrder w.stopped → StopsAtOrder stopped
      → cond (is_some stopped) [] (or_else (word_fault s names w.is_trailing w.waiting word w.held)
      (step_fault s w.position (word_met s.rules names w.is_trailing w.waiting w.position word w.held).0 (word_met s.rules names w.is_trailing w.waiting w.position word w.held).1)) ≡ []
      → StopsAtOrder (walked_from s.rules names stopped w word).stopped
  from_stops (Some p) w word at own e = own
  from_stops None w word at own e =
      let met = word_met s.rules names w.is_trailing w.waiting w.position word w.held in
      step_stops s.rules word w met.0 met.1 at (word_meets w.is_trailing w.waiting w.position word w.held (neither (word_fault s names w.is_trailing w.waiting word w.held) _ e).0)

  turn_stops : (w : Walk) (word : Text) → StopsAtOrder w.stopped → turn_fault s names w word ≡ [] → StopsAtOrder (walked s.rules names w word).stopped
  unfolding walked
  turn_stops w word at e = from_stops w.stopped w word at at e

  walk_stops : (w : Walk) (words : List Text) → StopsAtOrder w.stopped → walk_fault s names w words ≡ [] → StopsAtOrder (fold (walked s.rules names) w words).stopped
  unfolding walk_fault
  walk_stops w [] at e = at
  walk_stops w (x ∷ xs) at e =
      let p = neither (turn_fault s names w x) _ e in
      walk_stops (walked s.rules names w x) xs (turn_stops w x at p.0) p.1

-- ---- each row has a value

abbrev AllFull : List Row → Type 0
AllFull [] = Unit {0}
AllFull (r ∷ rs) = (0 < length r.values) × AllFull rs

abbrev PendingFull : Option (Text × List Text) → Type 0
PendingFull None = Unit {0}
PendingFull (Some p) = 0 < length p.1

abbrev IsFull : Held → Type 0
IsFull h = AllFull h.rows × PendingFull h.pending

without_full : (id : Text) (rows : List Row) → AllFull rows → AllFull (without id rows)
without_full id [] full = tt
without_full id (r ∷ rs) full = go (bytes_eq r.id id) (without_full id rs full.1)
  where
    go : (b : Bool) → AllFull (without id rs) → AllFull (cond b ([] ++ rs) (r ∷ without id rs))
    go true rest = full.1
    go false rest = (full.0, rest)

values_full : (id : Text) (how : Reading) (s : ValueSource) (values : List Text) (rows : List Row) → 0 < length values → AllFull rows → AllFull (with_values id how s values rows)
values_full id how s values [] some full = (some, tt)
values_full id how s values (r ∷ rs) some full = go (bytes_eq r.id id) (values_full id how s values rs some full.1)
  where
    go : (b : Bool) → AllFull (with_values id how s values rs) → AllFull (cond b (more_values s values r ++ rs) (r ∷ with_values id how s values rs))
    go true rest = (omega (arith, length-append r.values values, full.0), full.1)
    go false rest = (full.0, rest)

used_full : (x : ArgAction) (id : Text) (how : Reading) (v : Text) (vs : List Text) (rows : List Row) → AllFull rows → AllFull (used_as x id how (v ∷ vs) rows)
used_full action.Set id how v vs rows full = values_full id how _ (v ∷ vs) _ (omega arith) (without_full id rows full)
used_full action.Append id how v vs rows full = values_full id how _ (v ∷ vs) rows (omega arith) full
used_full action.SetTrue id how v vs rows full = values_full id how _ (v ∷ vs) _ (omega arith) (without_full id rows full)
used_full action.SetFalse id how v vs rows full = values_full id how _ (v ∷ vs) _ (omega arith) (without_full id rows full)
used_full action.Count id how v vs rows full = values_full id how _ (v ∷ vs) _ (omega arith) (without_full id rows full)
used_full action.Help id how v vs rows full = full
used_full action.HelpShort id how v vs rows full = full
used_full action.HelpLong id how v vs rows full = full
used_full action.Version id how v vs rows full = full

settled_full : (c : List Rule) (h : Held) → IsFull h → IsFull (settled c h)
settled_full c h full = (go h.pending full.1, tt)
  where
    by_id : (a : Option Rule) (values : List Text) → 0 < length values → AllFull (used_by_id a values h.rows)
    by_id None values some = full.0
    by_id (Some a) [] some = absurd (omega arith)
    by_id (Some a) (v ∷ vs) some = used_full (action_of a) a.id (reading_by a) v vs h.rows full.0

    go : (p : Option (Text × List Text)) → PendingFull p → AllFull (settled_rows c p h.rows)
    go None some = full.0
    go (Some p) some = by_id (arg_by_id c p.0) p.1 some

pushed_full : (id word : Text) (h : Held) → IsFull h → IsFull (pushed id word h)
pushed_full id word h full = (full.0, omega (arith, length-append (started id h.pending).1 (word ∷ [])))

-- the flags of the command ask for help alone
abbrev AsksHelp : Option Rule → Type 0
AsksHelp None = Unit {0}
AsksHelp (Some a) = (action_of a ≡ action.Help) × (takes_values a ≡ false)

abbrev HasHelpAlone : List Rule → Type 0
HasHelpAlone c = ((name : Text) → AsksHelp (arg_by_long c name)) × ((x : ℕ) → AsksHelp (arg_by_short c x))

help_full : (c : List Rule) (a : Rule) (h : Held) → AsksHelp (Some a) → IsFull h → IsFull (reacted c a [] h)
help_full c a h asks full = (subst (λ x. AllFull (used_as x a.id (reading_by a) (values_or_missing a []) (settled c h).rows)) (sym asks.0) (settled_full c h full).0, tt)

module _ (c : List Rule) (alone : HasHelpAlone c) where
  long_full : (a : Option Rule) (v : Option Text) (h : Held) → AsksHelp a → IsFull h → IsFull (long_met c a v h).0
  long_full None v h asks full = full
  long_full (Some a) v h asks full = rw asks.1 (go v)
    where
      go : (o : Option Text) → IsFull (flag_met c a o h).0
      go (Some x) = full
      go None = help_full c a h asks full

  short_full : (a : Option Rule) (rest : Text) (h : Held) (then : Held → Held × Outcome) → AsksHelp a → ((k : Held) → IsFull k → IsFull (then k).0) → IsFull h → IsFull (short_met c a rest h then).0
  short_full None rest h then asks each full = full
  short_full (Some a) rest h then asks each full = rw asks.1 (each (reacted c a [] h) (help_full c a h asks full))

  flag_full : (x : Option ℕ) (flags : Text) (skip : ℕ) (so_far : Outcome) (h : Held) (then : Text → ℕ → Outcome → Held → Held × Outcome)
      → ((rest : Text) (skip : ℕ) (so_far : Outcome) (k : Held) → IsFull k → IsFull (then rest skip so_far k).0)
      → IsFull h → IsFull (bundle_step c x flags skip so_far h then).0
  flag_full None flags skip so_far h then each full = full
  flag_full (Some x) flags zero so_far h then each full =
      let rest = drop (length (encode_utf8 x)) flags in
      short_full (arg_by_short c x) rest h (then rest 0 done) (alone.1 x) (each rest 0 done) full
  flag_full (Some x) flags (suc skip) so_far h then each full = each (drop (length (encode_utf8 x)) flags) skip so_far h full

  bundle_full : (k : ℕ) (flags : Text) (skip : ℕ) (so_far : Outcome) (h : Held) → IsFull h → IsFull (bundle_met c k flags skip so_far h).0
  unfolding bundle_met
  bundle_full zero flags skip so_far h full = full
  bundle_full (suc k) flags skip so_far h full = flag_full (slice_get (chars flags) 0) flags skip so_far h (bundle_met c k) (bundle_full k) full

  plain_full : (waiting : Waiting) (word : Text) (h : Held) → IsFull h → IsFull (plain_word c waiting word h).0
  plain_full idle word h full = full
  plain_full positional word h full = full
  plain_full (option id) word h full = go (arg_by_id c id)
    where
      go : (a : Option Rule) → IsFull (option_word a id word h).0
      go None = full
      go (Some a) = pushed_full id word h full

  after_full : (waiting : Waiting) (word : Text) (h : Held) (o : Outcome) → IsFull h → IsFull (after_flag c waiting word h o).0
  after_full waiting word h done full = full
  after_full waiting word h (waits id) full = full
  after_full waiting word h plain full = plain_full waiting word h full
  after_full waiting word h refused full = plain_full waiting word h full

  flags_full : (waiting : Waiting) (word : Text) (flags : Option Text) (h : Held) → IsFull h → IsFull (short_or_plain c waiting word flags h).0
  flags_full waiting word (Some flags) h full = after_full waiting word (bundle c flags h).0 (bundle c flags h).1 (bundle_full (length flags) flags h.skip plain (record h { skip = 0 }) full)
  flags_full waiting word None h full = plain_full waiting word h full

  parts_full : (waiting : Waiting) (word : Text) (parts : Option (Text × Option Text)) (h : Held) → IsFull h → IsFull (long_or_other c waiting word parts h).0
  parts_full waiting word (Some p) h full =
      let met = long_met c (arg_by_long c p.0) p.1 h in
      after_full waiting word met.0 met.1 (long_full (arg_by_long c p.0) p.1 h (alone.0 p.0) full)
  parts_full waiting word None h full = flags_full waiting word (short_of word) h full

  other_full : (met : Option Text) (waiting : Waiting) (position : ℕ) (word : Text) (h : Held) → IsFull h → IsFull (subcommand_or_other c met waiting position word h).0
  other_full (Some name) waiting position word h full = full
  other_full None waiting position word h full = go (bytes_eq word (45 ∷ 45 ∷ []))
    where
      go : (b : Bool) → IsFull (cond b (h, trailing position) (long_or_other c waiting word (long_of word) h)).0
      go true = full
      go false = parts_full waiting word (long_of word) h full

  word_full : (names : Names) (is_trailing : Bool) (waiting : Waiting) (position : ℕ) (word : Text) (h : Held) → IsFull h → IsFull (word_met c names is_trailing waiting position word h).0
  word_full names true waiting position word h full = full
  word_full names false waiting position word h full = other_full (subcommand_met names waiting word) waiting position word h full

  positional_full : (a : Rule) (word : Text) (h : Held) → IsFull h → IsFull (positional_held c a word h)
  positional_full a word h full = go (is_pending a h.pending && takes_several a)
    where
      go : (b : Bool) → IsFull (pushed a.id word (cond b h (settled c h)))
      go true = pushed_full a.id word h full
      go false = pushed_full a.id word (settled c h) (settled_full c h full)

  step_full : (word : Text) (w : Walk) (h : Held) (step : Step) → IsFull h → IsFull (after_step c word w h step).held
  step_full word w h (next waiting) full = full
  step_full word w h (trailing position) full = full
  step_full word w h (subcommand name) full = full
  step_full word w h value full = go (arg_by_index c w.position)
    where
      go : (a : Option Rule) → IsFull (to_positional c a word w h).held
      go None = full
      go (Some a) = positional_full a word h full

  from_full : (names : Names) (stopped : Option (Text × List Text)) (w : Walk) (word : Text) → IsFull w.held → IsFull (walked_from c names stopped w word).held
  from_full names (Some p) w word full = full
  from_full names None w word full =
      let met = word_met c names w.is_trailing w.waiting w.position word w.held in
      step_full word w met.0 met.1 (word_full names w.is_trailing w.waiting w.position word w.held full)

  turn_full : (names : Names) (w : Walk) (word : Text) → IsFull w.held → IsFull (walked c names w word).held
  unfolding walked
  turn_full names w word full = from_full names w.stopped w word full

  walk_full : (names : Names) (w : Walk) (words : List Text) → IsFull w.held → IsFull (fold (walked c names) w words).held
  walk_full names w [] full = full
  walk_full names w (x ∷ xs) full = walk_full names (walked c names w x) xs (turn_full names w x full)

  default_full : (a : Rule) (rows : List Row) → AllFull rows → AllFull (with_default rows a)
  default_full a rows full = go _
    where
      defaults : (values : List Text) → AllFull (default_rows a.id (reading_by a) values rows)
      defaults [] = full
      defaults (v ∷ vs) = values_full a.id _ _ (v ∷ vs) rows (omega arith) full

      go : (b : Bool) → AllFull (cond b rows (default_rows a.id (reading_by a) a.defaults rows))
      go true = full
      go false = defaults a.defaults

  defaults_full : (xs : List Rule) (rows : List Row) → AllFull rows → AllFull (fold with_default rows xs)
  defaults_full [] rows full = full
  defaults_full (x ∷ xs) rows full = defaults_full xs (with_default rows x) (default_full x rows full)

  rows_full : (names : Names) (words : List Text) → AllFull (rows_after c names words)
  rows_full names words =
      let end = (walk c names nothing_held words).held in
      defaults_full c (settled c end).rows (settled_full c end (walk_full names (walk_from nothing_held) words (tt, tt))).0

-- what is given has a first value
given_first : (id : Text) (rows : List Row) → AllFull rows → is_given id rows ≡ true → is_some (first_of id rows) ≡ true
given_first id [] full e = e
given_first id (r ∷ rs) full e = go (bytes_eq r.id id) (given_first id rs full.1) e
  where
    first : (values : List Text) → 0 < length values → is_some (slice_get values 0) ≡ true
    first [] some = absurd (omega arith)
    first (v ∷ vs) some = refl

    go : (b : Bool) → (is_given id rs ≡ true → is_some (first_of id rs) ≡ true) → option_map_or (λ (x : Row). explicit_source x.source) (cond b (Some r) (find (λ x. bytes_eq x.id id) rs)) false ≡ true
        → is_some (option_and_then (λ (x : Row). slice_get x.values 0) (cond b (Some r) (find (λ x. bytes_eq x.id id) rs))) ≡ true
    go true later e = first r.values full.0
    go false later e = later e

-- ---- a subcommand that is entered

-- a level without a fault: its walk has none, and nothing is missing then
level_checked : (s : Shape) (names : Names) (words : List Text) (has : Bool) (below : Kinds) → level_fault s names nothing_held words has below ≡ []
    → (walk_fault s names (walk_from nothing_held) words ≡ []) × (below ≡ []) × (check_fault s (rows_after s.rules names words) has ≡ [])
level_checked s names words has below e =
    let end = (walk s.rules names nothing_held words).held in
    let walks = neither (walk_fault s names (walk_from nothing_held) words) _ e in
    let under = neither below _ walks.1 in
    let settles = neither (settle_fault s.rules s.args_override_self end) _ under.1 in
    (walks.0, under.0, (neither (defaults_fault (settled s.rules end).rows s.rules) _ settles.1).1)

abbrev is_missing : List Row → Rule → Bool
is_missing rows a = a.required && not (is_given a.id rows)

-- each value that has to be given is given
none_missing : (s : Shape) (words : List Text) → s.subcommand_negates_reqs ≡ false → level_fault s [] nothing_held words false [] ≡ []
    → list_any (is_missing (rows_after s.rules [] words)) s.rules ≡ false
none_missing s words negates e = rw negates at (checked _ _ _ (level_checked s [] words false [] e).2).1

first_given : (given rest : Bool) → (not given || rest) ≡ false → (given ≡ true) × (rest ≡ false)
first_given true rest e = (refl, e)
first_given false rest e = absurd (true≢false e)

has_needed : (has : Bool) → (not has && true) ≡ false → has ≡ true
has_needed true e = refl
has_needed false e = absurd (true≢false e)

-- what is entered without a fault gives an order, but for `help`
record Gives (s : Shape) : Type 0 where
  alone : s.aliases ≡ []
  order : (words : List Text) → IsOrderName s.name → level_fault s [] nothing_held words false [] ≡ [] → is_some (wanted_in (Some (rows_at s words))) ≡ true

abbrev AllGive : List Shape → Type 0
AllGive [] = Unit {0}
AllGive (s ∷ rest) = Gives s × AllGive rest

abbrev FoundGives : Text → Option Shape → Type 0
FoundGives word None = Unit {0}
FoundGives word (Some s) = Gives s × (s.name ≡ word)

named_by : (s : Shape) (word : Text) → s.aliases ≡ [] → answers_to word (label_of s) ≡ true → s.name ≡ word
named_by s word alone e = go (bytes_eq s.name word) refl (rw alone at e)
  where
    go : (b : Bool) → bytes_eq s.name word ≡ b → (b || false) ≡ true → s.name ≡ word
    go true same t = (bytes_eq-Decides s.name word).0 same
    go false same t = absurd (true≢false (sym t))

found_gives : (word : Text) (subs : List Shape) → AllGive subs → FoundGives word (find (λ s. answers_to word (label_of s)) subs)
found_gives word [] all = tt
found_gives word (s ∷ rest) all = go (answers_to word (label_of s)) refl (found_gives word rest all.1)
  where
    go : (b : Bool) → answers_to word (label_of s) ≡ b → FoundGives word (find (λ x. answers_to word (label_of x)) rest) → FoundGives word (cond b (Some s) (find (λ x. answers_to word (label_of x)) rest))
    go true e later = (all.0, named_by s word all.0.alone e)
    go false e later = later

-- ---- the command

module _ (a : App) (all : AllGive a.subs) where
  stop_gives : (stop : Option (Text × List Text)) → StopsAtOrder stop → entered_fault a stop ≡ [] → is_some (entered a stop) ≡ true → is_some (wanted_in (entered a stop)) ≡ true
  stop_gives None at passes has = absurd (true≢false (sym has))
  stop_gives (Some p) at passes has = go (find (λ s. answers_to p.0 (label_of s)) a.subs) (found_gives p.0 a.subs all) passes has
    where
      go : (found : Option Shape) → FoundGives p.0 found → option_map_or (λ s. level_fault s [] nothing_held p.1 false []) found [] ≡ []
          → is_some (option_map (λ s. rows_at s p.1) found) ≡ true → is_some (wanted_in (option_map (λ s. rows_at s p.1) found)) ≡ true
      go None gives passes has = absurd (true≢false (sym has))
      go (Some s) gives passes has = gives.0.order p.1 (rw gives.1 at) passes

  faultless_gives : (words : List Text) → a.top.subcommand_required ≡ true → a.top.disable_help_subcommand ≡ false → built_fault a nothing_held words ≡ []
      → is_some (wanted_in (entered a (stop_after a.top.rules (names_of a) words))) ≡ true
  faultless_gives words required helps e =
      let stop = stop_after a.top.rules (names_of a) words in
      let has = is_some (entered a stop) in
      let level = level_checked a.top (names_of a) words has (entered_fault a stop) e in
      let needs : (not has && a.top.subcommand_required) ≡ false = (checked _ _ _ level.2).0 in
      stop_gives stop (walk_stops a.top (names_of a) helps (walk_from nothing_held) words tt level.0) level.1 (has_needed has (rw required at needs))

-- ---- `h5i`

some_mapped : {X Y : Type 0} (f : X → Y) (o : Option X) → is_some o ≡ true → is_some (option_map f o) ≡ true
some_mapped f None e = absurd (true≢false (sym e))
some_mapped f (Some x) e = refl

some_both : {X Y Z : Type 0} (f : X → Y → Z) (o : Option X) (p : Option Y) → is_some o ≡ true → is_some p ≡ true
    → is_some (option_and_then (λ x. option_map (f x) p) o) ≡ true
some_both f None p e g = absurd (true≢false (sym e))
some_both f (Some x) p e g = some_mapped (f x) p g

asks_help : (b : Bool) (a : Rule) → action_of a ≡ action.Help → takes_values a ≡ false → AsksHelp (cond b (Some a) None)
asks_help true a is_help none = (is_help, none)
asks_help false a is_help none = tt

abbrev sub_at : ℕ → Shape
sub_at k = slice_index_or (built h5i_app).subs k help_shape

file_alone : HasHelpAlone (sub_at 0).rules
file_alone = (λ name. asks_help _ _ refl refl, λ x. asks_help _ _ refl refl)

path_alone : HasHelpAlone (sub_at 2).rules
path_alone = (λ name. asks_help _ _ refl refl, λ x. asks_help _ _ refl refl)

new_gives : Gives (sub_at 0)
new_gives = record {
  alone = refl;
  order = λ words named e.
      let rows = rows_after (sub_at 0).rules [] words in
      let file = given_first (codes "FILE") rows (rows_full (sub_at 0).rules file_alone [] words) (first_given _ _ (none_missing (sub_at 0) words refl e)).0 in
      some_mapped WantNew _ file;
}

ls_gives : Gives (sub_at 1)
ls_gives = record {
  alone = refl;
  order = λ words named e.
      let rows = rows_after (sub_at 1).rules [] words in
      let file = given_first (codes "FILE") rows (rows_full (sub_at 1).rules file_alone [] words) (first_given _ _ (none_missing (sub_at 1) words refl e)).0 in
      some_mapped WantLs _ file;
}

dump_gives : Gives (sub_at 2)
dump_gives = record {
  alone = refl;
  order = λ words named e.
      let rows = rows_after (sub_at 2).rules [] words in
      let full = rows_full (sub_at 2).rules path_alone [] words in
      let given = first_given _ _ (none_missing (sub_at 2) words refl e) in
      some_both WantDump _ _ (given_first (codes "FILE") rows full given.0) (given_first (codes "PATH") rows full (first_given _ _ given.1).0);
}

run_gives : Gives (sub_at 3)
run_gives = record {
  alone = refl;
  order = λ words named e.
      let rows = rows_after (sub_at 3).rules [] words in
      let file = given_first (codes "FILE") rows (rows_full (sub_at 3).rules file_alone [] words) (first_given _ _ (none_missing (sub_at 3) words refl e)).0 in
      some_mapped WantRun _ file;
}

help_gives : Gives (sub_at 4)
help_gives = record { alone = refl; order = λ words named e. absurd (true≢false named) }

-- words in which clap's own definition finds no fault ask for an order
pub faultless_asked : (words : List Text) → faults words ≡ [] → is_some (wanted_by_words words) ≡ true
faultless_asked words none =
    faultless_gives (built h5i_app) (new_gives, (ls_gives, (dump_gives, (run_gives, (help_gives, tt))))) (argument_words h5i_app words) refl refl none
