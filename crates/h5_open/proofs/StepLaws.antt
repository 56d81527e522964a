-- The links of an object, followed one by one.
use Rattle.std.proofs.Common.{◌≡◌, ◌≢◌, ◌⊎◌, inl, inr, ℕ, suc, ◌+◌, ◌-◌, ◌≤◌, List, [], ◌∷◌, ◌++◌, length, refl, sym, ◌∙◌, ap, subst, append_assoc, arith}
use Rattle.std.specs.List.{AllByRecursion, Contains}
use Rattle.std.proofs.lemmas.List.{append-nil}
use Rattle.h5_bytes.specs.Blocks.{cover, Separate}
use Rattle.h5_bytes.specs.declared.Block.{Block}
use Rattle.h5_bytes.proofs.BlockLaws.{all_append, all_left}
use Rattle.h5_model.specs.Format.Limits.{most_names}
use Rattle.h5_model.specs.Format.Symbols.{Target, Header, Text}
use Rattle.h5_model.specs.Format.Reached.{Named, naming_of, ObjectHeader}
use Rattle.h5_laws.proofs.Lists.{contains_in, in_left, in_right}
use Rattle.h5_header.specs.Walk.Walked.{IsFollowed}
use Rattle.h5_header.specs.Walk.Met.{IsMet}
use Rattle.h5_open.specs.declared.opened.object.OpenedObject.{OpenedObject}
use Rattle.h5_open.specs.Opened.Objects.{headers, content_links}
use Rattle.h5_open.specs.Placed.Whole.{HasHeight, IsLed, AreLed}
use Rattle.h5_open.specs.Read.{IsObjectRead, IsObjectFollowed, AreWaiting, IsOwn}
use Rattle.h5_open.specs.Walk.{IsUnder, IsReady, AreFurtherObjects, IsTreeRead, IsLinkReady, IsLinkRead, IsPartly}
use Rattle.h5_open.proofs.GrowLaws.{bare, objects_led_grow, all_led_grow}
use Rattle.h5_open.proofs.WaitLaws.{still_waiting, all_behind}
use Rattle.h5_open.proofs.UnderLaws.{object_under, cover_grows}

-- ---- the link whose turn it is

-- the field of the first link, where that is no soft link, and the fields of the others
pub record HasTurn (image : List ℕ) (base held : List Block) (followed : List Named) (depth : ℕ) (link : List ℕ × Target) (links : List (List ℕ × Target)) : Type 0 where
  pub field : ℕ
  pub rest : List ℕ
  pub met : (header : ℕ) → link.1 ≡ Header header → IsMet image held followed (naming_of field ObjectHeader header (depth + 1))
  pub free : (field ≡ 0) ⊎ (cover (field - 8) base ≡ 0)
  pub others : AllByRecursion (λ (other : ℕ). other ≢ field) rest
  pub waiting : AreWaiting image base held followed depth links rest

same_header : (h k : ℕ) → Header h ≡ Header k → h ≡ k
same_header h k e = cc

pub turn_of : (image : List ℕ) (base held : List Block) (followed : List Named) (depth : ℕ) (link : List ℕ × Target) (links : List (List ℕ × Target)) (fields : List ℕ)
    → AreWaiting image base held followed depth (link ∷ links) fields → HasTurn image base held followed depth link links
turn_of image base held followed depth (name, Text text) links fields waiting = record {
  field = 0;
  rest = fields;
  met = λ header e. absurd (cc);
  free = inl refl;
  others = all_behind image base held followed depth links fields waiting;
  waiting = waiting;
}
turn_of image base held followed depth (name, Header header) links [] waiting = absurd waiting
turn_of image base held followed depth (name, Header header) links (f ∷ fields) waiting = record {
  field = f;
  rest = fields;
  met = λ h e. subst (λ (k : ℕ). IsMet image held followed (naming_of f ObjectHeader k (depth + 1))) (same_header header h e) waiting.0;
  free = inr waiting.1;
  others = waiting.2;
  waiting = waiting.3;
}

-- the walk has come to it
ready_of : (image : List ℕ) (base held : List Block) (followed : List Named) (depth : ℕ) (link : List ℕ × Target) (links : List (List ℕ × Target))
    → (turn : HasTurn image base held followed depth link links) → (objects : List OpenedObject) → IsUnder image held followed objects → (o : OpenedObject) → Contains objects o
    → Contains (content_links image o.content) link → IsLinkReady image held followed objects turn.field depth link
ready_of image base held followed depth (name, Text text) links turn objects under o among at = under
ready_of image base held followed depth (name, Header header) links turn objects under o among at =
    record { under = under; met = turn.met header refl; parent = inr (o, among, (name, at)) }

-- ---- from the outer claims

own_outer : (base held : List Block) (outer field : ℕ) → ((p : ℕ) → cover p base ≤ cover p held) → (field ≡ 0) ⊎ (cover (field - 8) base ≡ 0)
    → (y : Named) → 8 ≤ y.field → IsOwn held field y → IsOwn base outer y
own_outer base held outer field grown (inl zero_is) y behind (inl e) = absurd (omega (arith, zero_is, e, behind))
own_outer base held outer field grown (inr none) y behind (inl e) = inr (subst (λ (f : ℕ). cover (f - 8) base ≡ 0) (sym e) none)
own_outer base held outer field grown free y behind (inr none) = inr (omega (arith, none, grown (y.field - 8)))

all_outer : (image : List ℕ) (base held now : List Block) (outer field : ℕ) → ((p : ℕ) → cover p base ≤ cover p held) → (field ≡ 0) ⊎ (cover (field - 8) base ≡ 0)
    → (new : List Named) → AllByRecursion (IsFollowed image now) new → AllByRecursion (IsOwn held field) new → AllByRecursion (IsOwn base outer) new
all_outer image base held now outer field grown free [] all own = tt
all_outer image base held now outer field grown free (y ∷ new) all own =
    (own_outer base held outer field grown free y (all.0).behind own.0, all_outer image base held now outer field grown free new all.1 own.1)

-- ---- one link more

module _ (image : List ℕ) (base held : List Block) (followed : List Named) (objects objects' : List OpenedObject) (outer header depth : ℕ) (link : List ℕ × Target) (later : List (List ℕ × Target))
    (under : IsUnder image base followed objects) (part : IsPartly image base held followed objects objects' outer header depth (link ∷ later)) where
  pub turn : HasTurn image base held (part.new ++ followed) depth link later
  turn = turn_of image base held (part.new ++ followed) depth link later part.fields part.waiting

  pub link_ready : IsLinkReady image held (part.new ++ followed) objects' turn.field depth link
  link_ready = ready_of image base held (part.new ++ followed) depth link later turn objects' part.under part.object there at where
    there : Contains objects' part.object
    there = subst (λ (xs : List OpenedObject). Contains xs part.object) (sym part.grown)
        (contains_in part.object ((objects ++ part.object ∷ []) ++ part.others)
        (in_left part.object (objects ++ part.object ∷ []) part.others (in_right part.object objects (part.object ∷ []) (inl refl))))

    at : Contains (content_links image part.object.content) link
    at = subst (λ (ls : List (List ℕ × Target)). Contains ls link) (sym part.links_are)
        (contains_in link (part.first ++ link ∷ later) (in_right link part.first (link ∷ later) (inl refl)))

  grown : (p : ℕ) → cover p base ≤ cover p held
  grown = cover_grows image base held objects (part.object ∷ part.others) objects' (part.grown ∙ append_assoc objects (part.object ∷ []) part.others) under.covered (part.under).covered

  module _ (now : List Block) (after : List OpenedObject) (got : IsLinkRead image held now (part.new ++ followed) objects' after turn.field depth link) where
    abbrev far : AreFurtherObjects image held now (part.new ++ followed) turn.field objects' after got.more
    far = got.further

    seam : (far.new ++ part.new) ++ followed ≡ far.new ++ (part.new ++ followed)
    seam = append_assoc far.new part.new followed

    more_claimed : (p : ℕ) → cover p held ≤ cover p now
    more_claimed = cover_grows image held now objects' got.more after far.grown (part.under).covered (far.under).covered

    over : (P : List OpenedObject → Type 0) → P (objects' ++ got.more) → P after
    over P at = subst P (sym far.grown) at

    pub step : IsPartly image base now followed objects after outer header depth later
    step = record {
      object = part.object;
      others = part.others ++ got.more;
      header_is = part.header_is;
      top = part.top;
      shallow = part.shallow;
      first = part.first ++ link ∷ [];
      links_are = part.links_are ∙ sym (append_assoc part.first (link ∷ []) later);
      grown = far.grown ∙ ap (λ (xs : List OpenedObject). xs ++ got.more) part.grown ∙ append_assoc (objects ++ part.object ∷ []) part.others got.more;
      new = far.new ++ part.new;
      under = subst (λ (ys : List Named). IsUnder image now ys after) (sym seam) far.under;
      stands = all_append (IsOwn base outer) far.new part.new
          (all_outer image base held now outer turn.field grown turn.free far.new (all_left (IsFollowed image now) far.new (part.new ++ followed) ((far.under).walked).all) far.stands) part.stands;
      led = all_append (AreLed image after) part.others got.more (over (λ (xs : List OpenedObject). AllByRecursion (AreLed image xs) part.others) (objects_led_grow image objects' got.more part.others part.led)) far.led;
      passed = all_append (IsLed image after (most_names - (depth + 1))) part.first (link ∷ [])
          (over (λ (xs : List OpenedObject). AllByRecursion (IsLed image xs (most_names - (depth + 1))) part.first) (all_led_grow image objects' got.more (most_names - (depth + 1)) part.first part.passed)) (got.led, tt);
      fields = turn.rest;
      waiting = subst (λ (ys : List Named). AreWaiting image base now ys depth later turn.rest) (sym seam)
          (still_waiting image base held now more_claimed (part.new ++ followed) far.new turn.field depth far.stands later turn.rest turn.others turn.waiting);
    }

-- ---- the first and the last

module _ (image : List ℕ) (held now : List Block) (followed : List Named) (objects : List OpenedObject) (field header depth : ℕ) (ready : IsReady image held followed objects field header depth)
    (new : Contains (headers objects) header → ⊥) (o : OpenedObject) (read : IsObjectRead image held now header depth o) (separate : Separate now)
    (gone : IsObjectFollowed image held now followed field depth o) (links : List (List ℕ × Target)) (links_are : links ≡ content_links image o.content) where
  pub begun : (after : List OpenedObject) → after ≡ objects ++ o ∷ [] → IsPartly image held now followed objects after field header depth links
  begun after is = record {
    object = o;
    others = [];
    header_is = read.header_is;
    top = read.top;
    shallow = read.shallow;
    first = [];
    links_are = sym links_are;
    grown = is ∙ sym (append-nil (objects ++ o ∷ []));
    new = gone.new;
    under = subst (IsUnder image now (gone.new ++ followed)) (sym is) (object_under image held now followed objects field header depth ready new o read separate gone);
    stands = gone.stands;
    led = tt;
    passed = tt;
    fields = gone.fields;
    waiting = subst (λ (ls : List (List ℕ × Target)). AreWaiting image held now (gone.new ++ followed) depth ls gone.fields) (sym links_are) gone.waiting;
  }

-- links that lead to objects of a height are those of an object that is one higher; none stand at the last level
higher : (image : List ℕ) (objects : List OpenedObject) (depth : ℕ) (o : OpenedObject) → (1 ≤ length (content_links image o.content) → depth + 1 ≤ most_names)
    → AllByRecursion (IsLed image objects (most_names - (depth + 1))) (content_links image o.content) → HasHeight image objects (most_names - depth) o
higher image objects depth o low led = go (content_links image o.content) refl where
  go : (links : List (List ℕ × Target)) → content_links image o.content ≡ links → HasHeight image objects (most_names - depth) o
  go [] is = bare image objects (most_names - depth) o is
  go (l ∷ links) is =
      let some : 1 ≤ length (content_links image o.content) = omega (arith, ap length is) in
      let one : suc (most_names - (depth + 1)) ≡ most_names - depth = omega (arith, low some) in
      subst (λ (h : ℕ). HasHeight image objects h o) one led

pub finished : (image : List ℕ) (held now : List Block) (followed : List Named) (objects after : List OpenedObject) (field header depth : ℕ)
    → IsPartly image held now followed objects after field header depth [] → IsTreeRead image held now followed objects after field header depth
finished image held now followed objects after field header depth part =
    let high : HasHeight image after (most_names - depth) part.object = higher image after depth part.object part.shallow
    (subst (AllByRecursion (IsLed image after (most_names - (depth + 1)))) (sym (part.links_are ∙ append-nil part.first)) part.passed) in
    record {
      object = part.object;
      others = part.others;
      header_is = part.header_is;
      top = part.top;
      shallow = high;
      further = record {
        grown = part.grown ∙ append_assoc objects (part.object ∷ []) part.others;
        new = part.new;
        under = part.under;
        stands = part.stands;
        led = ((most_names - depth, high), part.led);
      };
    }
