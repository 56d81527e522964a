-- The fields of all links of the objects that were read: as many lead to a header as links do.
use Rattle.std.proofs.Common.{◌≡◌, ◌≢◌, inl, inr, ℕ, ◌+◌, ◌-◌, ◌≤◌, List, [], ◌∷◌, ◌++◌, length, refl, sym, subst, Bool, true, false, arith}
use Rattle.std.proofs.lemmas.Bool.Decides.{nat_tests}
use Rattle.std.proofs.lemmas.List.{length-append}
use Rattle.std.specs.Prelude.{◌==◌, IsTrue}
use Rattle.h5_bytes.specs.Blocks.{cover}
use Rattle.h5_bytes.specs.declared.Block.{Block}
use Rattle.h5_bytes.proofs.BlockLaws.{all_append, all_so}
use Rattle.h5_model.specs.Format.Superblock.{root_header, root_header_place}
use Rattle.h5_model.specs.Format.Symbols.{Target, Header, Text}
use Rattle.h5_model.specs.Format.Reached.{Named, naming_of, ObjectHeader, Reached}
use Rattle.h5_model.specs.Faults.Breaches.{is_header}
use Rattle.h5_laws.proofs.Lists.{In, in_all, all_in, in_contains, contains_in, in_either}
use Rattle.h5_laws.proofs.Pigeonhole.{Apart, apart_of_distinct, distinct_of_apart}
use Rattle.h5_header.specs.Walk.Met.{IsMet}
use Rattle.h5_open.specs.declared.opened.object.OpenedObject.{OpenedObject}
use Rattle.h5_open.specs.Counted.Links.{leading_links, all_links}
use Rattle.h5_open.specs.Opened.Objects.{content_links}
use Rattle.h5_open.specs.Read.{AreWaiting}
use Rattle.h5_open.specs.Walk.{AreFieldsMet}
use Rattle.h5_open.proofs.CountedLaws.CountLaws.{all_links_push, one_more, none_more}

-- a field that names the header is reached
abbrev IsNaming : List ℕ → ℕ → ℕ → Type 0
IsNaming image header f = (y : Named) × Reached image y × (y.field ≡ f) × (y.at ≡ header) × IsTrue (is_header y.role)

-- ---- the root

pub root_fields : (image : List ℕ) (held : List Block) → IsMet image held [] (naming_of (root_header_place image) ObjectHeader (root_header image) 0)
    → (header : ℕ) → AreFieldsMet image held (all_links image []) header
root_fields image held met header = go (root_header image == header) refl where
  go : (b : Bool) → (root_header image == header) ≡ b → AreFieldsMet image held (all_links image []) header
  go true e =
      let same : root_header image ≡ header = grind (arith, nat_tests, e) in record {
        fields = root_header_place image ∷ [];
        name = record {
          once = distinct_of_apart (root_header_place image ∷ []) ((λ at. at), tt);
          each = λ f contained.
              only f (in_contains f (root_header_place image ∷ []) contained) same;
        };
        stand = (met.stands, tt);
        long = sym (one_more header (root_header image) [] [] same);
      } where
        only : (f : ℕ) → In f (root_header_place image ∷ []) → root_header image ≡ header → IsNaming image header f
        only f (inl at) same = (naming_of (root_header_place image) ObjectHeader (root_header image) 0, met.reached, at, same, refl)
        only f (inr at) same = absurd at
  go false e =
      let other : root_header image ≢ header = grind (arith, nat_tests, e) in
      record { fields = []; name = record { once = distinct_of_apart [] tt; each = λ f contained. absurd (in_contains f [] contained) }; stand = tt; long = sym (none_more header (root_header image) [] [] other) }

-- ---- those of an object

-- a field that names the header, in a block that was not claimed before
record IsOwnField (image : List ℕ) (base held : List Block) (header f : ℕ) : Type 0 where
  naming : IsNaming image header f
  stands : 1 ≤ cover (f - 8) held
  new : cover (f - 8) base ≡ 0

-- as many as these links lead there
record AreOwnFields (image : List ℕ) (base held : List Block) (links : List (List ℕ × Target)) (fields : List ℕ) (header : ℕ) : Type 0 where
  own : List ℕ
  apart : Apart own
  each : (f : ℕ) → In f own → IsOwnField image base held header f
  among : (f : ℕ) → In f own → In f fields
  long : length own ≡ leading_links header links

-- one field more, of a link to some header
field_more : (image : List ℕ) (base held : List Block) (followed : List Named) (depth header : ℕ) (name : List ℕ) (h : ℕ) (links : List (List ℕ × Target)) (f : ℕ) (fields : List ℕ)
    → AreWaiting image base held followed depth ((name, Header h) ∷ links) (f ∷ fields) → AreOwnFields image base held links fields header
    → AreOwnFields image base held ((name, Header h) ∷ links) (f ∷ fields) header
field_more image base held followed depth header name h links f fields waiting rest = go (h == header) refl where
  this : h ≡ header → (g : ℕ) → In g (f ∷ rest.own) → IsOwnField image base held header g
  this same g (inl e) =
      subst (IsOwnField image base held header) e
      (record { naming = (naming_of f ObjectHeader h (depth + 1), (waiting.0).reached, refl, same, refl); stands = (waiting.0).stands; new = waiting.1 })
  this same g (inr at) = rest.each g at

  in_fields : (g : ℕ) → In g (f ∷ rest.own) → In g (f ∷ fields)
  in_fields g (inl e) = inl e
  in_fields g (inr at) = inr (rest.among g at)

  go : (b : Bool) → (h == header) ≡ b → AreOwnFields image base held ((name, Header h) ∷ links) (f ∷ fields) header
  go true e =
      let same : h ≡ header = grind (arith, nat_tests, e) in record {
        own = f ∷ rest.own;
        apart = ((λ at. in_all (λ (other : ℕ). other ≢ f) f fields waiting.2 (rest.among f at) refl), rest.apart);
        each = this same;
        among = in_fields;
        long = omega (arith, rest.long, one_more header h name links same);
      }
  go false e =
      let other : h ≢ header = grind (arith, nat_tests, e) in record {
        own = rest.own;
        apart = rest.apart;
        each = rest.each;
        among = λ g at. inr (rest.among g at);
        long = omega (arith, rest.long, none_more header h name links other);
      }

own_fields : (image : List ℕ) (base held : List Block) (followed : List Named) (depth header : ℕ) (links : List (List ℕ × Target)) (fields : List ℕ)
    → AreWaiting image base held followed depth links fields → AreOwnFields image base held links fields header
own_fields image base held followed depth header [] fields waiting =
    record { own = []; apart = tt; each = λ f at. absurd at; among = λ f at. absurd at; long = refl }
own_fields image base held followed depth header ((name, Text text) ∷ links) fields waiting =
    let rest = own_fields image base held followed depth header links fields waiting in
    record { own = rest.own; apart = rest.apart; each = rest.each; among = rest.among; long = omega (arith, rest.long) }
own_fields image base held followed depth header ((name, Header h) ∷ links) [] waiting = absurd waiting
own_fields image base held followed depth header ((name, Header h) ∷ links) (f ∷ fields) waiting =
    field_more image base held followed depth header name h links f fields waiting (own_fields image base held followed depth header links fields waiting.3)

apart_append : (xs ys : List ℕ) → Apart xs → Apart ys → ((f : ℕ) → In f xs → In f ys → ⊥) → Apart (xs ++ ys)
apart_append [] ys first second never = second
apart_append (x ∷ xs) ys first second never = (
  (λ at. elim (in_either x xs ys at) [ inl here ↦ first.0 here | inr there ↦ never x (inl refl) there ]),
  apart_append xs ys first.1 second (λ f here there. never f (inr here) there),
)

-- one object more, whose links wait
pub more_fields : (image : List ℕ) (held now : List Block) (followed : List Named) (depth : ℕ) (objects : List OpenedObject) (o : OpenedObject) (fields : List ℕ)
    → ((p : ℕ) → cover p held ≤ cover p now) → AreWaiting image held now followed depth (content_links image o.content) fields
    → (header : ℕ) → AreFieldsMet image held (all_links image objects) header → AreFieldsMet image now (all_links image (objects ++ o ∷ [])) header
more_fields image held now followed depth objects o fields grown waiting header old = record {
  fields = more.own ++ old.fields;
  name = record {
    once = distinct_of_apart (more.own ++ old.fields) (apart_append more.own old.fields more.apart (apart_of_distinct old.fields old.name.once)
        (λ f here there. apart f (more.each f here) (in_all (λ (g : ℕ). 1 ≤ cover (g - 8) held) f old.fields old.stand there)));
    each = λ f contained. naming f (in_contains f (more.own ++ old.fields) contained);
  };
  stand = all_append (λ (f : ℕ). 1 ≤ cover (f - 8) now) more.own old.fields (all_in (λ (f : ℕ). 1 ≤ cover (f - 8) now) more.own (λ f at. (more.each f at).stands))
      (all_so (λ (f : ℕ). 1 ≤ cover (f - 8) held) (λ (f : ℕ). 1 ≤ cover (f - 8) now) old.fields (λ f stands. omega (arith, stands, grown (f - 8))) old.stand);
  long = omega (arith, length-append more.own old.fields, more.long, old.long, all_links_push image header objects o);
} where
  more : AreOwnFields image held now (content_links image o.content) fields header
  more = own_fields image held now followed depth header (content_links image o.content) fields waiting

  apart : (f : ℕ) → IsOwnField image held now header f → 1 ≤ cover (f - 8) held → ⊥
  apart f is stands = absurd (omega (arith, is.new, stands))

  naming : (f : ℕ) → In f (more.own ++ old.fields) → IsNaming image header f
  naming f at = elim (in_either f more.own old.fields at) [
    | inl here ↦ (more.each f here).naming
    | inr there ↦ old.name.each f (contains_in f old.fields there)
  ]
