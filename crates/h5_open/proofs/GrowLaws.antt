-- What stays of the objects that were read when more are read.
use Rattle.std.proofs.Common.{◌≡◌, ◌⊎◌, ℕ, zero, suc, ◌+◌, List, [], ◌∷◌, ◌++◌, sym, ◌∙◌, ap, subst, append_assoc}
use Rattle.std.specs.List.{AllByRecursion, Contains, IsDistinct, flat_map}
use Rattle.std.specs.Ordering.{nat_cmp, eq_by_cmp}
use Rattle.std.proofs.lemmas.Grind.{flat_map-append}
use Rattle.std.proofs.lemmas.List.{map-append, append-nil}
use Rattle.std.proofs.lemmas.List.Elements.{Contains-append_left}
use Rattle.h5_bytes.specs.Blocks.{cover}
use Rattle.h5_bytes.proofs.BlockLaws.{cover-append, all_so}
use Rattle.h5_model.specs.Format.Symbols.{Target, Header, Text}
use Rattle.h5_laws.proofs.Lists.{In, contains_in}
use Rattle.h5_laws.proofs.Pigeonhole.{apart_of_distinct, distinct_of_apart, apart_push}
use Rattle.h5_open.specs.declared.opened.object.OpenedObject.{OpenedObject}
use Rattle.h5_open.specs.Opened.Objects.{headers, content_links, object_blocks}
use Rattle.h5_open.specs.Placed.Whole.{IsLedTo, HasHeight, IsLed, AreLed, HasParent, AreNamed}

-- ---- links that lead to objects

-- an object without links is of any height
pub bare : (image : List ℕ) (objects : List OpenedObject) (height : ℕ) (o : OpenedObject) → content_links image o.content ≡ [] → HasHeight image objects height o
bare image objects zero o none = none
bare image objects (suc height) o none = subst (AllByRecursion (IsLed image objects height)) (sym none) tt

led_on : (objects more : List OpenedObject) (P Q : OpenedObject → Type 0) → ((o : OpenedObject) → P o → Q o) → (link : List ℕ × Target)
    → IsLedTo objects P link → IsLedTo (objects ++ more) Q link
led_on objects more P Q on (name, Header header) led = (led.0, Contains-append_left objects more led.0 led.1, led.2, on led.0 led.3)
led_on objects more P Q on (name, Text text) led = tt

pub height_stays : (image : List ℕ) (objects more : List OpenedObject) (height : ℕ) (o : OpenedObject) → HasHeight image objects height o → HasHeight image (objects ++ more) height o
height_stays image objects more zero o high = high
height_stays image objects more (suc height) o high =
    all_so (IsLed image objects height) (IsLed image (objects ++ more) height) (content_links image o.content)
    (led_on objects more (HasHeight image objects height) (HasHeight image (objects ++ more) height) (height_stays image objects more height)) high

pub all_led_grow : (image : List ℕ) (objects more : List OpenedObject) (height : ℕ) (links : List (List ℕ × Target)) → AllByRecursion (IsLed image objects height) links
    → AllByRecursion (IsLed image (objects ++ more) height) links
all_led_grow image objects more height links all =
    all_so (IsLed image objects height) (IsLed image (objects ++ more) height) links
    (led_on objects more (HasHeight image objects height) (HasHeight image (objects ++ more) height) (height_stays image objects more height)) all

pub objects_led_grow : (image : List ℕ) (objects more others : List OpenedObject) → AllByRecursion (AreLed image objects) others → AllByRecursion (AreLed image (objects ++ more)) others
objects_led_grow image objects more others all =
    all_so (AreLed image objects) (AreLed image (objects ++ more)) others (λ o led. (led.0, height_stays image objects more led.0 o led.1)) all

-- ---- one object more

pub headers-append : (objects more : List OpenedObject) → headers (objects ++ more) ≡ headers objects ++ headers more
headers-append objects more = map-append (λ (o : OpenedObject). o.messages.header) objects more

pub cover-objects : (image : List ℕ) (p : ℕ) (objects more : List OpenedObject)
    → cover p (flat_map (object_blocks image) (objects ++ more)) ≡ cover p (flat_map (object_blocks image) objects) + cover p (flat_map (object_blocks image) more)
cover-objects image p objects more = ap (cover p) (flat_map-append (object_blocks image) objects more) ∙ cover-append p (flat_map (object_blocks image) objects) (flat_map (object_blocks image) more)

pub cover-object : (image : List ℕ) (p : ℕ) (o : OpenedObject) → cover p (flat_map (object_blocks image) (o ∷ [])) ≡ cover p (object_blocks image o)
cover-object image p o = ap (cover p) (append-nil (object_blocks image o))

pub distinct_push : (objects : List OpenedObject) (o : OpenedObject) → IsDistinct (eq_by_cmp nat_cmp) (headers objects) → (Contains (headers objects) o.messages.header → ⊥)
    → IsDistinct (eq_by_cmp nat_cmp) (headers (objects ++ o ∷ []))
distinct_push objects o distinct none =
    subst (IsDistinct (eq_by_cmp nat_cmp)) (sym (headers-append objects (o ∷ [])))
    (distinct_of_apart (headers objects ++ o.messages.header ∷ [])
    (apart_push (headers objects) o.messages.header (apart_of_distinct (headers objects) distinct) (λ at. none (contained at)))) where
      contained : In o.messages.header (headers objects) → Contains (headers objects) o.messages.header
      contained at = contains_in o.messages.header (headers objects) at

pub named_push : (image : List ℕ) (before objects : List OpenedObject) (o : OpenedObject) → AreNamed image before objects
    → (before ++ objects ≡ []) ⊎ HasParent image (before ++ objects) o.messages.header → AreNamed image before (objects ++ o ∷ [])
named_push image before [] o named parent =
    (subst (λ (xs : List OpenedObject). (xs ≡ []) ⊎ HasParent image xs o.messages.header) (append-nil before) parent, tt)
named_push image before (x ∷ objects) o named parent = (
  named.0,
  named_push image (before ++ x ∷ []) objects o named.1
      (subst (λ (xs : List OpenedObject). (xs ≡ []) ⊎ HasParent image xs o.messages.header) (sym (append_assoc before (x ∷ []) objects)) parent),
)
