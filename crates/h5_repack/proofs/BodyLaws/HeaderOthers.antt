-- What every object may have stands in its header behind the messages of its content: the kept messages and the attributes are read
-- back, and what is read of the content does not depend on them (File Format Specification 3.0, section IV.A.2).
use Rattle.std.proofs.Common.{◌≡◌, ℕ, ◌+◌, ◌≤◌, ◌==◌, ◌||◌, List, [], ◌∷◌, ◌++◌, length, length-append, map, refl, sym, ap, ◌∙◌, subst, arith, Bool, true, false, cond, Some, None, eqb-true}
use Rattle.std.proofs.lemmas.Bool.Decides.{nat_tests}
use Rattle.std.proofs.lemmas.Grind.{flat_map-append}
use Rattle.std.proofs.lemmas.List.{length-map}
use Rattle.std.proofs.lemmas.List.Sums.{sum_by-cons}
use Rattle.std.specs.Prelude.{sum_by, option_map}
use Rattle.std.specs.List.{AllByRecursion, AllZip, filter, find}
use Rattle.std.specs.FinMap.{entries, len, len-entries}
use Rattle.h5_bytes.specs.Texts.{pad8}
use Rattle.h5_bytes.proofs.BlockLaws.{all_append}
use Rattle.h5_model.specs.Format.Limits.{most_cells}
use Rattle.h5_model.specs.Format.MessageTypes.{attribute_kind, comment_kind, old_modification_time_kind, modification_time_kind}
use Rattle.h5_model.specs.Format.Messages.{Message, count_of, first_body}
use Rattle.h5_model.specs.Tree.Places.{extent_cells}
use Rattle.h5_model.specs.Format.Plain.{message_bytes, messages_bytes}
use Rattle.h5_model.specs.Format.Reads.{HasAttributes, is_kept, kept_of, is_attribute_message}
use Rattle.h5_model.specs.Format.Sizes.{attribute_message_size as attribute_length, kept_message_size as kept_length}
use Rattle.h5_model.specs.Format.AttributeBody.{attribute_of}
use Rattle.h5_model.specs.Tree.Objects.{Object, Attribute, Kept}
use Rattle.h5_model.proofs.PlainMessages.{IsPlain, messages_from}
use Rattle.h5_repack.specs.Bodies.Bodies.{attribute_message, kept_message, others_of}
use Rattle.h5_repack.specs.Bodies.Sound.{IsPlainKept, IsPlainAttribute, IsPlainObject}
use Rattle.h5_repack.proofs.BodyLaws.HeaderAttributes.{attribute_plain, attribute_read, body_size, length-attribute_message, entries_make, names_differ}

-- ---- types of messages

-- Comment and the two Modification Times
abbrev pub is_kept_kind : ℕ → Bool
is_kept_kind kind = (kind == comment_kind || kind == old_modification_time_kind) || kind == modification_time_kind

-- the types of attributes and of what is kept
abbrev pub is_other_kind : ℕ → Bool
is_other_kind kind = kind == attribute_kind || is_kept_kind kind

-- a message of a content: a plain one of a type that is only a content's
pub record IsContentMessage (m : ℕ × List ℕ) : Type 0 where
  pub plain : IsPlain m
  pub kind : is_other_kind m.0 ≡ false

no_attribute : (kind : ℕ) → is_other_kind kind ≡ false → (kind == attribute_kind) ≡ false
no_attribute kind h = grind (arith, nat_tests)

not_kept : (kind : ℕ) → is_other_kind kind ≡ false → is_kept_kind kind ≡ false
not_kept kind h = grind (arith, nat_tests)

kept_no_attribute : (kind : ℕ) → is_kept_kind kind ≡ true → (kind == attribute_kind) ≡ false
kept_no_attribute kind h = grind (arith, nat_tests)

kept_other : (kind : ℕ) → is_kept_kind kind ≡ true → is_other_kind kind ≡ true
kept_other kind h = grind (arith, nat_tests)

other_differs : (kind k : ℕ) → is_other_kind kind ≡ true → is_other_kind k ≡ false → (kind == k) ≡ false
other_differs kind k is not = elim (kind == k) as (λ b. (kind == k) ≡ b → b ≡ false) [
  | true ↦ λ e. let same : is_other_kind k ≡ true = ap is_other_kind (sym (eqb-true kind k e)) ∙ is in absurd (cc)
  | false ↦ λ e. refl
] refl

-- ---- messages that stand behind others

-- where the messages behind these begin
end_of : ℕ → List (ℕ × List ℕ) → ℕ
end_of at [] = at
end_of at (m ∷ ms) = end_of (at + 8 + length m.1) ms

-- messages whose types do not pass a test are left out
skipped : (test : ℕ → Bool) (at : ℕ) (xs ys : List (ℕ × List ℕ)) → AllByRecursion (λ m. test m.0 ≡ false) xs
    → filter (λ (m : Message). test m.kind) (messages_from at (xs ++ ys)) ≡ filter (λ (m : Message). test m.kind) (messages_from (end_of at xs) ys)
unfolding end_of
skipped test at [] ys all = refl
skipped test at (m ∷ xs) ys all = rw all.0 (skipped test (at + 8 + length m.1) xs ys all.1)

-- a fact about each type is one about each message
pub each_message : (test : ℕ → Bool) (at : ℕ) (ms : List (ℕ × List ℕ)) → AllByRecursion (λ m. test m.0 ≡ true) ms
    → AllByRecursion (λ (m : Message). test m.kind ≡ true) (messages_from at ms)
each_message test at [] all = tt
each_message test at (m ∷ ms) all = (all.0, each_message test (at + 8 + length m.1) ms all.1)

none_counted : (k at : ℕ) (ys : List (ℕ × List ℕ)) → AllByRecursion (λ m. (m.0 == k) ≡ false) ys → count_of k (messages_from at ys) ≡ 0
none_counted k at [] all = refl
none_counted k at (m ∷ ys) all = rw all.0 (omega (arith, none_counted k (at + 8 + length m.1) ys all.1))

none_found : (k at : ℕ) (ys : List (ℕ × List ℕ)) → AllByRecursion (λ m. (m.0 == k) ≡ false) ys → first_body k (messages_from at ys) ≡ None
none_found k at [] all = refl
none_found k at (m ∷ ys) all = rw all.0 (none_found k (at + 8 + length m.1) ys all.1)

counted_before : (k at : ℕ) (xs ys : List (ℕ × List ℕ)) → AllByRecursion (λ m. (m.0 == k) ≡ false) ys
    → count_of k (messages_from at (xs ++ ys)) ≡ count_of k (messages_from at xs)
counted_before k at [] ys all = none_counted k at ys all
counted_before k at (m ∷ xs) ys all = ap (λ n. cond (m.0 == k) 1 0 + n) (counted_before k (at + 8 + length m.1) xs ys all)

found_before : (k at : ℕ) (xs ys : List (ℕ × List ℕ)) → AllByRecursion (λ m. (m.0 == k) ≡ false) ys
    → first_body k (messages_from at (xs ++ ys)) ≡ first_body k (messages_from at xs)
found_before k at [] ys all = none_found k at ys all
found_before k at (m ∷ xs) ys all = elim (m.0 == k) as (λ b.
    option_map (λ (x : Message). x.body) (cond b (Some (record { kind = m.0; at = at + 8; body = m.1 })) (find (λ (x : Message). x.kind == k) (messages_from (at + 8 + length m.1) (xs ++ ys))))
    ≡ option_map (λ (x : Message). x.body) (cond b (Some (record { kind = m.0; at = at + 8; body = m.1 })) (find (λ (x : Message). x.kind == k) (messages_from (at + 8 + length m.1) xs)))) [
      | true ↦ refl
      | false ↦ found_before k (at + 8 + length m.1) xs ys all
    ]

-- one more message has a head of 8 bytes and a body
pub one_more : (m : ℕ × List ℕ) (ms : List (ℕ × List ℕ)) (n rest : ℕ) → length m.1 ≡ n → length (messages_bytes ms) ≡ rest → length (messages_bytes (m ∷ ms)) ≡ 8 + n + rest
one_more m ms n rest e f =
    let own : length (message_bytes m) ≡ 8 + length m.1 = omega arith in
    let both = length-append (message_bytes m) (messages_bytes ms) in
    omega arith

-- messages behind others add their bytes
pub length-messages : (xs ys : List (ℕ × List ℕ)) → length (messages_bytes (xs ++ ys)) ≡ length (messages_bytes xs) + length (messages_bytes ys)
length-messages xs ys = ap length (flat_map-append message_bytes xs ys) ∙ length-append (messages_bytes xs) (messages_bytes ys)

-- ---- kept messages

kept_plain : (k : Kept) → IsPlainKept k → IsPlain (kept_message k)
kept_plain k is = record {
  kind = let kind = is.kind in grind (arith, nat_tests, kind);
  own = let kind = is.kind in grind (arith, nat_tests, kind);
  padded = is.padded;
  low = is.low;
}

all_kept_plain : (ks : List Kept) → AllByRecursion IsPlainKept ks → AllByRecursion IsPlain (map kept_message ks)
all_kept_plain [] all = tt
all_kept_plain (k ∷ ks) all = (kept_plain k all.0, all_kept_plain ks all.1)

length-kept : (ks : List Kept) → AllByRecursion IsPlainKept ks → length (messages_bytes (map kept_message ks)) ≡ sum_by kept_length ks
length-kept [] all = refl
length-kept (k ∷ ks) all =
    let raised : pad8 (length k.body) ≡ length k.body = omega (arith, (all.0).padded) in
    one_more (kept_message k) (map kept_message ks) (length k.body) (sum_by kept_length ks) refl (length-kept ks all.1) ∙ ap (λ n. 8 + n + sum_by kept_length ks) (sym raised) ∙ sym (sum_by-cons kept_length k ks)

-- ---- attributes

all_attributes_plain : (es : List (List ℕ × Attribute)) → AllByRecursion IsPlainAttribute es → AllByRecursion IsPlain (map attribute_message es)
all_attributes_plain [] all = tt
all_attributes_plain (e ∷ es) all = (attribute_plain e all.0, all_attributes_plain es all.1)

length-attributes : (es : List (List ℕ × Attribute)) → AllByRecursion IsPlainAttribute es → length (messages_bytes (map attribute_message es)) ≡ sum_by attribute_length es
length-attributes [] all = refl
length-attributes ((name, a) ∷ es) all =
    one_more (attribute_message (name, a)) (map attribute_message es) (pad8 (body_size (name, a))) (sum_by attribute_length es)
    (length-attribute_message (name, a) all.0) (length-attributes es all.1) ∙ sym (sum_by-cons attribute_length (name, a) es)

all_attribute_others : (es : List (List ℕ × Attribute)) → AllByRecursion (λ (m : ℕ × List ℕ). is_other_kind m.0 ≡ true) (map attribute_message es)
all_attribute_others [] = tt
all_attribute_others ((name, a) ∷ es) = (refl, all_attribute_others es)

abbrev pub IsRead : Message → List ℕ × Attribute → Type 0
IsRead m a = attribute_of m.body ≡ Some a

each_read : (at : ℕ) (es : List (List ℕ × Attribute)) → AllByRecursion IsPlainAttribute es
    → AllZip IsRead (filter is_attribute_message (messages_from at (map attribute_message es))) es
each_read at [] all = tt
each_read at ((name, a) ∷ es) all = (attribute_read (name, a) all.0, each_read (at + 8 + length (attribute_message (name, a)).1) es all.1)

all_small : (es : List (List ℕ × Attribute)) → AllByRecursion IsPlainAttribute es → AllByRecursion (λ (a : List ℕ × Attribute). extent_cells (a.1).sizes ≤ most_cells) es
all_small [] all = tt
all_small (e ∷ es) all = ((all.0).few, all_small es all.1)

none_kept : (at : ℕ) (es : List (List ℕ × Attribute)) → filter is_kept (messages_from at (map attribute_message es)) ≡ []
none_kept at [] = refl
none_kept at ((name, a) ∷ es) = none_kept (at + 8 + length (attribute_message (name, a)).1) es

-- ---- both

all_kept_others : (ks : List Kept) → AllByRecursion IsPlainKept ks → AllByRecursion (λ (m : ℕ × List ℕ). is_other_kind m.0 ≡ true) (map kept_message ks)
all_kept_others [] all = tt
all_kept_others (k ∷ ks) all = (kept_other k.kind (all.0).kind, all_kept_others ks all.1)

kept_no_attributes : (ks : List Kept) → AllByRecursion IsPlainKept ks → AllByRecursion (λ (m : ℕ × List ℕ). (m.0 == attribute_kind) ≡ false) (map kept_message ks)
kept_no_attributes [] all = tt
kept_no_attributes (k ∷ ks) all = (kept_no_attribute k.kind (all.0).kind, kept_no_attributes ks all.1)

kept_read : (at : ℕ) (ks : List Kept) (es : List (List ℕ × Attribute)) → AllByRecursion IsPlainKept ks
    → map kept_of (filter is_kept (messages_from at (map kept_message ks ++ map attribute_message es))) ≡ ks
kept_read at [] es all = ap (map kept_of) (none_kept at es)
kept_read at (k ∷ ks) es all = rw (all.0).kind (ap (λ (rest : List Kept). k ∷ rest) (kept_read (at + 8 + length k.body) ks es all.1))

content_plain : (cs : List (ℕ × List ℕ)) → AllByRecursion IsContentMessage cs → AllByRecursion IsPlain cs
content_plain [] all = tt
content_plain (m ∷ cs) all = ((all.0).plain, content_plain cs all.1)

content_no_attributes : (cs : List (ℕ × List ℕ)) → AllByRecursion IsContentMessage cs → AllByRecursion (λ (m : ℕ × List ℕ). (m.0 == attribute_kind) ≡ false) cs
content_no_attributes [] all = tt
content_no_attributes (m ∷ cs) all = (no_attribute m.0 (all.0).kind, content_no_attributes cs all.1)

content_not_kept : (cs : List (ℕ × List ℕ)) → AllByRecursion IsContentMessage cs → AllByRecursion (λ (m : ℕ × List ℕ). is_kept_kind m.0 ≡ false) cs
content_not_kept [] all = tt
content_not_kept (m ∷ cs) all = (not_kept m.0 (all.0).kind, content_not_kept cs all.1)

all_differ : (k : ℕ) → is_other_kind k ≡ false → (os : List (ℕ × List ℕ)) → AllByRecursion (λ (m : ℕ × List ℕ). is_other_kind m.0 ≡ true) os
    → AllByRecursion (λ (m : ℕ × List ℕ). (m.0 == k) ≡ false) os
all_differ k own [] all = tt
all_differ k own (m ∷ os) all = (other_differs m.0 k all.0 own, all_differ k own os all.1)

all_pass : (test : ℕ → Bool) → ((kind : ℕ) → is_other_kind kind ≡ true → test kind ≡ true) → (os : List (ℕ × List ℕ)) → AllByRecursion (λ (m : ℕ × List ℕ). is_other_kind m.0 ≡ true) os
    → AllByRecursion (λ (m : ℕ × List ℕ). test m.0 ≡ true) os
all_pass test passes [] all = tt
all_pass test passes (m ∷ os) all = (passes m.0 all.0, all_pass test passes os all.1)

-- ---- what every object may have

module _ (o : Object) (is : IsPlainObject o) where
  abbrev es : List (List ℕ × Attribute)
  es = entries o.attributes

  pub others_plain : AllByRecursion IsPlain (others_of o)
  others_plain = all_append IsPlain (map kept_message o.kept) (map attribute_message es) (all_kept_plain o.kept is.kept) (all_attributes_plain es is.attributes)

  -- each is of a type that no content has
  pub others_kinds : AllByRecursion (λ (m : ℕ × List ℕ). is_other_kind m.0 ≡ true) (others_of o)
  others_kinds = all_append (λ (m : ℕ × List ℕ). is_other_kind m.0 ≡ true) (map kept_message o.kept) (map attribute_message es)
      (all_kept_others o.kept is.kept) (all_attribute_others es)

  -- so a test that all these types pass is passed by each
  pub others_pass : (test : ℕ → Bool) → ((kind : ℕ) → is_other_kind kind ≡ true → test kind ≡ true) → AllByRecursion (λ (m : ℕ × List ℕ). test m.0 ≡ true) (others_of o)
  others_pass test passes = all_pass test passes (others_of o) others_kinds

  pub length-others : length (messages_bytes (others_of o)) ≡ sum_by attribute_length es + sum_by kept_length o.kept
  length-others =
      let both = length-messages (map kept_message o.kept) (map attribute_message es) in
      omega (arith, both, length-kept o.kept is.kept, length-attributes es is.attributes)

  pub count-others : length (others_of o) ≡ len o.attributes + length o.kept
  count-others =
      let sum = length-append (map kept_message o.kept) (map attribute_message es) in
      omega (arith, sum, length-map o.kept kept_message, length-map es attribute_message, len-entries o.attributes)

  -- behind the messages of a content
  module _ (at : ℕ) (cs : List (ℕ × List ℕ)) (content : AllByRecursion IsContentMessage cs) where
    abbrev ms : List Message
    ms = messages_from at (cs ++ others_of o)

    pub all_plain : AllByRecursion IsPlain (cs ++ others_of o)
    all_plain = all_append IsPlain cs (others_of o) (content_plain cs content) others_plain

    pub has_attributes : HasAttributes ms o.attributes
    has_attributes = record {
      listed = es;
      each = subst (λ (xs : List Message). AllZip IsRead xs es) (sym attributes_left) (each_read (end_of (end_of at cs) (map kept_message o.kept)) es is.attributes);
      distinct = names_differ o.attributes;
      small = all_small es is.attributes;
      all = entries_make o.attributes;
    } where
      attributes_left : filter is_attribute_message ms ≡ filter is_attribute_message (messages_from (end_of (end_of at cs) (map kept_message o.kept)) (map attribute_message es))
      attributes_left =
          skipped (λ k. k == attribute_kind) at cs (others_of o) (content_no_attributes cs content)
          ∙ skipped (λ k. k == attribute_kind) (end_of at cs) (map kept_message o.kept) (map attribute_message es) (kept_no_attributes o.kept is.kept)

    pub has_kept : o.kept ≡ map kept_of (filter is_kept ms)
    has_kept = sym (ap (map kept_of) (skipped is_kept_kind at cs (others_of o) (content_not_kept cs content)) ∙ kept_read (end_of at cs) o.kept es is.kept)

    -- what is counted and found of a content is the same
    module _ (k : ℕ) (own : is_other_kind k ≡ false) where
      differ : AllByRecursion (λ (m : ℕ × List ℕ). (m.0 == k) ≡ false) (others_of o)
      differ = all_differ k own (others_of o) others_kinds

      pub count_of-content : count_of k ms ≡ count_of k (messages_from at cs)
      count_of-content = counted_before k at cs (others_of o) differ

      pub first_body-content : first_body k ms ≡ first_body k (messages_from at cs)
      first_body-content = found_before k at cs (others_of o) differ
