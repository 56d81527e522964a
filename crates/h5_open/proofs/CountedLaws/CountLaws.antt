-- Counts of links, as one link after another is followed.
use Rattle.std.proofs.Common.{◌≡◌, ◌≢◌, ◌⊎◌, inl, inr, ℕ, zero, suc, ◌+◌, ◌<◌, List, [], ◌∷◌, ◌++◌, length, refl, sym, ap, ◌∙◌, subst, arith, get_or, set, Some, true, false, Bool, get_or-set_same, get_or-set_other}
use Rattle.std.proofs.lemmas.Bool.Decides.{nat_tests}
use Rattle.std.proofs.lemmas.Grind.{flat_map-append}
use Rattle.std.proofs.lemmas.List.{append-nil, get_or_append_left, length-append, length-set}
use Rattle.std.proofs.lemmas.List.Elements.{Contains-append_left}
use Rattle.std.proofs.lemmas.Option.{get_or_from_slice_get, slice_get_read, slice_get_within, slice_get-map}
use Rattle.std.proofs.Math.Seq.{get_or-append_seam}
use Rattle.std.specs.Prelude.{◌==◌, option_map, slice_get}
use Rattle.std.specs.List.{Contains, IsDistinct}
use Rattle.std.specs.Ordering.{nat_cmp, eq_by_cmp}
use Rattle.h5_model.specs.Format.Superblock.{root_header}
use Rattle.h5_model.specs.Format.Symbols.{Target, Header, Text}
use Rattle.h5_laws.proofs.Lists.{in_at, in_map, in_right, contains_in}
use Rattle.h5_laws.proofs.Pigeonhole.{apart_of_distinct, one_place}
use Rattle.h5_open.specs.declared.opened.object.OpenedObject.{OpenedObject}
use Rattle.h5_open.specs.Counted.Links.{leading_links, object_links, all_links}
use Rattle.h5_open.specs.Counted.Counts.{IsCount, AreCounted, MayBeLinked}
use Rattle.h5_open.specs.Opened.Objects.{content_links, header_of, headers}
use Rattle.h5_open.proofs.GrowLaws.{headers-append}

-- ---- places in a list

header_at : (objects : List OpenedObject) (k : ℕ) (o : OpenedObject) → slice_get objects k ≡ Some o → slice_get (headers objects) k ≡ Some o.messages.header
header_at objects k o here = slice_get-map header_of objects k ∙ ap (option_map header_of) here

header_there : (objects : List OpenedObject) (k : ℕ) (o : OpenedObject) → slice_get objects k ≡ Some o → Contains (headers objects) o.messages.header
header_there objects k o here = contains_in o.messages.header (headers objects) (in_map header_of o objects (in_at objects k o here))

-- what stands in a list with one item more stood there before, or is the last
pushed_at : (xs : List OpenedObject) (y : OpenedObject) (k : ℕ) (z : OpenedObject) → slice_get (xs ++ y ∷ []) k ≡ Some z
    → (slice_get xs k ≡ Some z) ⊎ ((k ≡ length xs) × (y ≡ z))
pushed_at [] y zero z at = inr (refl, (cc))
pushed_at [] y (suc k) z at = absurd (cc)
pushed_at (x ∷ xs) y zero z at = inl at
pushed_at (x ∷ xs) y (suc k) z at = elim (pushed_at xs y k z at) [
  | inl before ↦ inl before
  | inr last ↦ inr (ap suc last.0, last.1)
]

-- a count that was read
pub count_read : (counts : List ℕ) (number count : ℕ) → number < length counts → count ≡ get_or counts number count → count ≡ get_or counts number 0
count_read counts number count low is =
    sym (get_or_from_slice_get counts number count 0 (slice_get_read counts (length counts) number count refl low is))

-- ---- links

pub leading-append : (h : ℕ) (xs ys : List (List ℕ × Target)) → leading_links h (xs ++ ys) ≡ leading_links h xs + leading_links h ys
leading-append h [] ys = omega arith
leading-append h (l ∷ xs) ys = omega (arith, leading-append h xs ys)

one_here : (h header : ℕ) (name : List ℕ) → header ≡ h → leading_links h ((name, Header header) ∷ []) ≡ 1
one_here h header name e = let same : (header == h) ≡ true = grind (arith, nat_tests) in rw same refl

none_here : (h header : ℕ) (name : List ℕ) → header ≢ h → leading_links h ((name, Header header) ∷ []) ≡ 0
none_here h header name e = let other : (header == h) ≡ false = grind (arith, nat_tests) in rw other refl

pub one_more : (h header : ℕ) (name : List ℕ) (links : List (List ℕ × Target)) → header ≡ h → leading_links h ((name, Header header) ∷ links) ≡ 1 + leading_links h links
one_more h header name links e = omega (arith, leading-append h ((name, Header header) ∷ []) links, one_here h header name e)

pub none_more : (h header : ℕ) (name : List ℕ) (links : List (List ℕ × Target)) → header ≢ h → leading_links h ((name, Header header) ∷ links) ≡ leading_links h links
none_more h header name links e = omega (arith, leading-append h ((name, Header header) ∷ []) links, none_here h header name e)

-- those of one object more
pub all_links_push : (image : List ℕ) (h : ℕ) (objects : List OpenedObject) (o : OpenedObject)
    → leading_links h (all_links image (objects ++ o ∷ [])) ≡ leading_links h (all_links image objects) + leading_links h (content_links image o.content)
all_links_push image h objects o =
    let links : object_links image (objects ++ o ∷ []) ≡ object_links image objects ++ object_links image (o ∷ [])
    = flat_map-append (λ (x : OpenedObject). content_links image x.content) objects (o ∷ []) in
    let one : object_links image (o ∷ []) ≡ content_links image o.content = append-nil (content_links image o.content) in
    omega (arith, ap (leading_links h) links, leading-append h (object_links image objects) (object_links image (o ∷ [])), ap (leading_links h) one)

-- ---- counts

-- before the root is read, the link to it waits
pub none_counted : (image : List ℕ) (objects : List OpenedObject) (counts : List ℕ) (header : ℕ) → objects ≡ [] → counts ≡ [] → header ≡ root_header image
    → AreCounted image objects counts (([], Header header) ∷ [])
none_counted image objects counts header none empty at =
    subst (λ (os : List OpenedObject). AreCounted image os counts (([], Header header) ∷ [])) (sym none)
    (subst (λ (ns : List ℕ). AreCounted image [] ns (([], Header header) ∷ [])) (sym empty)
    (subst (λ (h : ℕ). AreCounted image [] [] (([], Header h) ∷ [])) (sym at)
    (record { long = refl; each = λ number o here. absurd (cc); elsewhere = λ h none. refl })))

-- a text leads to no object
pub counted_text : (image : List ℕ) (objects : List OpenedObject) (counts : List ℕ) (name text : List ℕ) (waiting : List (List ℕ × Target))
    → AreCounted image objects counts ((name, Text text) ∷ waiting) → AreCounted image objects counts waiting
counted_text image objects counts name text waiting are = record {
  long = are.long;
  each = λ number o here. (let count = are.each number o here in record { exact = omega (arith, count.exact); limit = count.limit; once = count.once });
  elsewhere = λ header none. omega (arith, are.elsewhere header none);
}

module _ (image : List ℕ) (objects : List OpenedObject) (counts : List ℕ) (name : List ℕ) (header : ℕ) (waiting : List (List ℕ × Target))
    (are : AreCounted image objects counts ((name, Header header) ∷ waiting)) where
  -- the link to an object that was read then; its own links wait
  module _ (o : OpenedObject) (new : Contains (headers objects) header → ⊥) (at : o.messages.header ≡ header) where
    abbrev after : List OpenedObject
    after = objects ++ o ∷ []

    still : (number : ℕ) (x : OpenedObject) → slice_get objects number ≡ Some x → IsCount image after (content_links image o.content ++ waiting) x (get_or (counts ++ 1 ∷ []) number 0)
    still number x here =
        let count = are.each number x here in
        let low = slice_get_within objects number x here in
        let other : header ≢ x.messages.header = λ same. new (subst (Contains (headers objects)) (sym same) (header_there objects number x here)) in
        let h = x.messages.header in
        subst (IsCount image after (content_links image o.content ++ waiting) x) (sym (get_or_append_left counts (1 ∷ []) 0 number (omega (arith, low, are.long))))
        (record {
          exact = omega (arith, count.exact, none_more h header name waiting other, leading-append h (content_links image o.content) waiting, all_links_push image h objects o);
          limit = count.limit;
          once = count.once;
        })

    first : (number : ℕ) (x : OpenedObject) → number ≡ length objects → o ≡ x → IsCount image after (content_links image o.content ++ waiting) x (get_or (counts ++ 1 ∷ []) number 0)
    first number x place same =
        let value : get_or (counts ++ 1 ∷ []) number 0 ≡ 1
        = ap (λ (n : ℕ). get_or (counts ++ 1 ∷ []) n 0) (place ∙ sym are.long) ∙ get_or-append_seam counts 1 [] 0 in
        let before : leading_links header ((name, Header header) ∷ waiting) ≡ leading_links header (all_links image objects) = are.elsewhere header new in
        let here : 1 + leading_links header (content_links image o.content ++ waiting) ≡ leading_links header (all_links image after)
        = omega (arith, before, one_more header header name waiting refl, leading-append header (content_links image o.content) waiting, all_links_push image header objects o) in
        subst (λ (y : OpenedObject). IsCount image after (content_links image o.content ++ waiting) y (get_or (counts ++ 1 ∷ []) number 0)) same
        (subst (IsCount image after (content_links image o.content ++ waiting) o) (sym value)
        (record {
          exact = subst (λ (h : ℕ). 1 + leading_links h (content_links image o.content ++ waiting) ≡ leading_links h (all_links image after)) (sym at) here;
          limit = omega arith;
          once = λ group. omega arith;
        }))

    before_in : (h : ℕ) → Contains (headers objects) h → Contains (headers after) h
    before_in h there = subst (λ (hs : List ℕ). Contains hs h) (sym (headers-append objects (o ∷ []))) (Contains-append_left (headers objects) (o.messages.header ∷ []) h there)

    last_in : Contains (headers after) header
    last_in =
        subst (Contains (headers after)) at
        (subst (λ (hs : List ℕ). Contains hs o.messages.header) (sym (headers-append objects (o ∷ [])))
        (contains_in o.messages.header (headers objects ++ o.messages.header ∷ []) (in_right o.messages.header (headers objects) (o.messages.header ∷ []) (inl refl))))

    pub counted_push : AreCounted image after (counts ++ 1 ∷ []) (content_links image o.content ++ waiting)
    counted_push = record {
      long = omega (arith, length-append counts (1 ∷ []), length-append objects (o ∷ []), are.long);
      each = λ number x here. elim (pushed_at objects o number x here) [
        | inl before ↦ still number x before
        | inr last ↦ first number x last.0 last.1
      ];
      elsewhere = λ h none.
          let other : header ≢ h = λ same. none (subst (Contains (headers after)) same last_in) in
          omega (arith, are.elsewhere h (λ there. none (before_in h there)), none_more h header name waiting other, leading-append h (content_links image o.content) waiting, all_links_push image h objects o);
    }

  -- the link to one that was read before
  module _ (number : ℕ) (o : OpenedObject) (distinct : IsDistinct (eq_by_cmp nat_cmp) (headers objects)) (here : slice_get objects number ≡ Some o) (at : o.messages.header ≡ header)
      (room : MayBeLinked o (get_or counts number 0)) where
    abbrev now : List ℕ
    now = set counts number (get_or counts number 0 + 1)

    place_low : number < length counts
    place_low = omega (arith, slice_get_within objects number o here, are.long)

    again : (b : Bool) (k : ℕ) (x : OpenedObject) → slice_get objects k ≡ Some x → (k == number) ≡ b → IsCount image objects waiting x (get_or now k 0)
    again true k x there e =
        let place : number ≡ k = grind (arith, nat_tests, e) in
        let both : Some o ≡ Some x = sym here ∙ ap (slice_get objects) place ∙ there in
        let same : o ≡ x = cc in
        let count = are.each number o here in
        let value : get_or now k 0 ≡ get_or counts number 0 + 1 = ap (λ (n : ℕ). get_or now n 0) (sym place) ∙ get_or-set_same counts number (get_or counts number 0 + 1) 0 place_low in
        subst (λ (y : OpenedObject). IsCount image objects waiting y (get_or now k 0)) same
        (subst (IsCount image objects waiting o) (sym value)
        (record {
          exact = omega (arith, count.exact, one_more o.messages.header header name waiting (sym at));
          limit = omega (arith, room.limit);
          once = λ group. absurd (room.array group);
        }))
    again false k x there e =
        let place : k ≢ number = grind (arith, nat_tests, e) in
        let other : header ≢ x.messages.header = λ same. place (one_place (headers objects) (apart_of_distinct (headers objects) distinct) k number x.messages.header (header_at objects k x there)
        (header_at objects number o here ∙ ap (λ (h : ℕ). Some h) (at ∙ same))) in
        let count = are.each k x there in
        subst (IsCount image objects waiting x) (sym (get_or-set_other counts number k (get_or counts number 0 + 1) 0 place))
        (record {
          exact = omega (arith, count.exact, none_more x.messages.header header name waiting other);
          limit = count.limit;
          once = count.once;
        })

    pub counted_again : AreCounted image objects now waiting
    counted_again = record {
      long = length-set counts number (get_or counts number 0 + 1) ∙ are.long;
      each = λ k x there. again (k == number) k x there refl;
      elsewhere = λ h none.
          let other : header ≢ h = λ same. none (subst (Contains (headers objects)) (at ∙ same) (header_there objects number o here)) in
          omega (arith, are.elsewhere h none, none_more h header name waiting other);
    }
