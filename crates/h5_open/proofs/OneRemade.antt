-- One object that is made anew, whose links stay: the image is opened as it is now, and in the tree that object alone is another.
use Rattle.std.proofs.Common.{◌≡◌, ℕ, zero, suc, ◌+◌, ◌<◌, ◌≤◌, Bool, true, false, cond, List, [], ◌∷◌, length, refl, sym, ap, ◌∙◌, subst, arith, Option, Some, None}
use Rattle.std.proofs.Math.Bool.{or-false}
use Rattle.std.specs.Prelude.{option_map, slice_get, ◌==◌, if◌then◌else◌}
use Rattle.std.specs.Option.{option_flatten, option_map_or}
use Rattle.std.specs.Ordering.{nat_cmp}
use Rattle.std.specs.Cmp.{nat_cmp_total, unsigned_tied}
use Rattle.std.specs.BTreeMap.{BTreeMap}
use Rattle.std.specs.FinMap.{FinMap, get, insert, same_map, nat_cmp-IsAntisymmetric, get-insert}
use Rattle.std.specs.List.{Contains, flat_map}
use Rattle.std.proofs.lemmas.Bool.Decides.{nat_tests}
use Rattle.std.proofs.lemmas.Option.{same_Some}
use Rattle.h5_bytes.specs.Blocks.{cover}
use Rattle.h5_bytes.specs.declared.Block.{Block}
use Rattle.h5_bytes.proofs.BlockLaws.{cover-append}
use Rattle.h5_model.specs.Format.Messages.{Message, prefix_at, reference_count}
use Rattle.h5_model.specs.Format.Reads.{IsCounted}
use Rattle.h5_model.specs.Format.Symbols.{Header}
use Rattle.h5_model.specs.Format.Superblock.{end_field}
use Rattle.h5_model.specs.Tree.Objects.{Tree, Object, Content, Group, Array, Links, hard_links, links_in, links_to, with_object}
use Rattle.h5_header.specs.Listed.{messages_in}
use Rattle.h5_group.specs.Told.{links_told}
use Rattle.h5_group.proofs.ClimbSteps.{moves_within}
use Rattle.h5_space.specs.Space.{Space}
use Rattle.h5_space.specs.Moves.{Moves}
use Rattle.h5_space.proofs.MovesLaws.{moves_same}
use Rattle.h5_laws.specs.Trees.Sound.{IsSoundTree}
use Rattle.h5_laws.proofs.Lists.{In, in_all, in_contains}
use Rattle.h5_laws.proofs.SoundLaws.Alike.{IsAlike, alike_links, sound_alike}
use Rattle.h5_laws.proofs.Objects.{object_at}
use Rattle.h5_laws.proofs.SoundLaws.Read.{sound_reading}
use Rattle.h5_open.specs.declared.opened.object.OpenedObject.{OpenedObject}
use Rattle.h5_open.specs.declared.opened.object.OpenedContent.{OpenedContent}
use Rattle.h5_open.specs.declared.opened.object.OpenedContent.TheVariants as content
use Rattle.h5_open.specs.ChangedInPlace.{AreSlotsMoved, IsChangedInPlace, is_among}
use Rattle.h5_open.specs.Opened.Kept.{IsIndex, IsObjectKept, IsOpened}
use Rattle.h5_open.specs.Opened.Objects.{content_in, content_links, header_of, links_by, object_blocks, object_in, objects_of, table_of, tree_of}
use Rattle.h5_open.specs.Opened.Sound.{IsHeaderIn, IsObjectOf}
use Rattle.h5_open.specs.Opened.State.{opened_state}
use Rattle.h5_open.specs.SlotsInPlace.{AreLinksKept, IsOneRemade, IsSlotsInPlace, IsTouchedObject, chosen_slots, slot_blocks}
use Rattle.h5_open.proofs.EndKept.{end_kept, field_kept}
use Rattle.h5_open.proofs.OpenedLaws.Entries.{get_table}
use Rattle.h5_open.proofs.OpenedLaws.LinkedHeaders.{linked_header}
use Rattle.h5_open.proofs.OpenedLaws.Sounds.{object_of, sound}
use Rattle.h5_open.proofs.SlotsInPlace.{slots_changed, slots_opened}
use Rattle.h5_open.proofs.ToldObject.{told_object}

-- ---- one number

one_among : (number n : ℕ) → is_among (number ∷ []) n ≡ (number == n)
one_among number n = or-false (number == n)

none_chosen : (m n : ℕ) (slots : List (Option OpenedObject)) → m < n → chosen_slots (is_among (m ∷ [])) n slots ≡ []
none_chosen m n [] low = refl
none_chosen m n (None ∷ slots) low = none_chosen m (n + 1) slots (omega (arith, low))
none_chosen m n (Some o ∷ slots) low =
    let other : (m == n) ≡ false = grind (arith, nat_tests, low) in
    let out : is_among (m ∷ []) n ≡ false = one_among m n ∙ other in
    rw out (none_chosen m (n + 1) slots (omega (arith, low)))

one_chosen : (m n k : ℕ) (slots : List (Option OpenedObject)) (p : OpenedObject) → n + k ≡ m → slice_get slots k ≡ Some (Some p) → chosen_slots (is_among (m ∷ [])) n slots ≡ p ∷ []
one_chosen m n k [] p is at = absurd (let never : None ≡ Some (Some p) = at in cc)
one_chosen m n zero (None ∷ slots) p is at = absurd (let never : None ≡ Some p = same_Some None (Some p) at in cc)
one_chosen m n zero (Some o ∷ slots) p is at =
    let same : (m == n) ≡ true = grind (arith, nat_tests, is) in
    let here : is_among (m ∷ []) n ≡ true = one_among m n ∙ same in
    let one : o ≡ p = same_Some o p (same_Some (Some o) (Some p) at) in
    let rest = none_chosen m (n + 1) slots (omega (arith, is)) in
    rw here (ap (λ (os : List OpenedObject). o ∷ os) rest ∙ ap (λ (x : OpenedObject). x ∷ []) one)
one_chosen m n (suc k) (None ∷ slots) p is at = one_chosen m (n + 1) k slots p (omega (arith, is)) at
one_chosen m n (suc k) (Some o ∷ slots) p is at =
    let other : (m == n) ≡ false = grind (arith, nat_tests, is) in
    let out : is_among (m ∷ []) n ≡ false = one_among m n ∙ other in
    rw out (one_chosen m (n + 1) k slots p (omega (arith, is)) at)

-- its blocks
one_slot_blocks : (image : List ℕ) (number : ℕ) (slots : List (Option OpenedObject)) (p : OpenedObject) → slice_get slots number ≡ Some (Some p) → (q : ℕ)
    → cover q (end_field image ∷ slot_blocks image (is_among (number ∷ [])) slots) ≡ cover q (end_field image ∷ object_blocks image p)
one_slot_blocks image number slots p at q =
    let one = ap (λ (os : List OpenedObject). cover q (flat_map (object_blocks image) os)) (one_chosen number 0 number slots p (omega arith) at) in
    omega (arith, one, cover-append q (object_blocks image p) [])

-- ---- links that stay

links_count : (n : ℕ) (c d : Content) → links_in c ≡ links_in d → links_to n c ≡ links_to n d
links_count n (Group a) (Group b) same = ap (λ (ls : Links). links_to n (Group ls)) (same_Some a b same)
links_count n (Group a) (Array e) same = absurd (let never : Some a ≡ None = same in cc)
links_count n (Array d) (Group b) same = absurd (let never : None ≡ Some b = same in cc)
links_count n (Array d) (Array e) same = refl

module _ (old new : List ℕ) (table table' : FinMap nat_cmp ℕ) (tables : table' ≡ table) (ms ms' : List Message) where
  links_stay : (c c' : OpenedContent) → AreLinksKept old new c c' → links_in (content_in new table' ms' c') ≡ links_in (content_in old table ms c)
  links_stay (content.Group t) (content.Group t') same = λ i. Some (links_by (tables i) (same i))
  links_stay (content.Group t) content.Array same = absurd same
  links_stay content.Array (content.Group t') same = absurd same
  links_stay content.Array content.Array same = refl

module _ (old new : Space) (slots slots' : List (Option OpenedObject)) (numbers : BTreeMap ℕ ℕ) (opened : IsOpened old slots numbers) (number : ℕ) (p p' : OpenedObject)
    (is : IsOneRemade old new slots slots' number p p') where
  abbrev table : FinMap nat_cmp ℕ
  table = table_of slots

  abbrev table' : FinMap nat_cmp ℕ
  table' = table_of slots'

  abbrev tree : Tree
  tree = tree_of old.bytes slots

  abbrev touched : List ℕ
  touched = number ∷ []

  of : IsObjectOf (opened_state old slots) number p
  of = object_of old slots numbers opened number p is.before

  moved : AreSlotsMoved slots slots' (is_among touched)
  moved = record {
    same = λ n out. is.others n (sym (one_among number n) ∙ out);
    remains = λ n o' mine low at.
        let tested : (number == n) ≡ true = sym (one_among number n) ∙ mine in
        let here : number ≡ n = grind (arith, nat_tests, tested) in
        let now : p' ≡ o' = same_Some p' o' (same_Some (Some p') (Some o') (sym is.after ∙ ap (slice_get slots') here ∙ at)) in
        (p, ap (slice_get slots) (sym here) ∙ is.before, ap header_of (sym now) ∙ is.header);
    more = omega (arith, is.as_many);
    few = omega (arith, is.as_many, opened.low);
  }

  -- the headers stand where they stood
  pub one_table : table' ≡ table
  one_table = same_map nat_cmp_total nat_cmp-IsAntisymmetric table' table (λ n. get_table slots' n ∙ go n (number == n) refl ∙ sym (get_table slots n)) where
    go : (n : ℕ) (b : Bool) → (number == n) ≡ b → option_map header_of (option_flatten (slice_get slots' n)) ≡ option_map header_of (option_flatten (slice_get slots n))
    go n true tested =
        let here : n ≡ number = grind (arith, nat_tests, tested) in
        ap (λ (k : ℕ). option_map header_of (option_flatten (slice_get slots' k))) here
        ∙ ap (λ (s : Option (Option OpenedObject)). option_map header_of (option_flatten s)) is.after
        ∙ ap (λ (h : ℕ). Some h) is.header
        ∙ sym (ap (λ (k : ℕ). option_map header_of (option_flatten (slice_get slots k))) here
        ∙ ap (λ (s : Option (Option OpenedObject)). option_map header_of (option_flatten s)) is.before)
    go n false tested = ap (option_map header_of) (is.others n tested)

  -- ---- the tree

  abbrev pub remade : Object
  remade = object_in new.bytes table' p'

  abbrev pub tree' : Tree
  tree' = insert tree number remade

  same_links : links_in remade.content ≡ links_in (object_in old.bytes table p).content
  same_links = links_stay old.bytes new.bytes table table' one_table (messages_in old.bytes p.messages.list) (messages_in new.bytes p'.messages.list) p.content p'.content is.links

  alike : IsAlike tree tree'
  alike = alike_links tree number (object_in old.bytes table p) remade of.there same_links
      (λ n. links_count n remade.content (object_in old.bytes table p).content same_links)

  good : IsSoundTree tree'
  good = sound_alike tree tree' alike (sound_reading old.bytes table tree opened.reads.0 opened.reads.1)

  put_here : (n : ℕ) → (number == n) ≡ true → get tree' n ≡ Some remade
  put_here n tested =
      let same : (n == number) ≡ true = grind (arith, nat_tests, tested) in
      get-insert nat_cmp_total tree number remade n ∙ ap (λ (b : Bool). cond b (Some remade) (get tree n)) (unsigned_tied n number ∙ same)

  put_beside : (n : ℕ) → (number == n) ≡ false → get tree' n ≡ get tree n
  put_beside n tested =
      let other : (n == number) ≡ false = grind (arith, nat_tests, tested) in
      get-insert nat_cmp_total tree number remade n ∙ ap (λ (b : Bool). cond b (Some remade) (get tree n)) (unsigned_tied n number ∙ other)

  -- ---- the object

  led_by : (c c' : OpenedContent) → p.content ≡ c → AreLinksKept old.bytes new.bytes c c' → (name : List ℕ) (h : ℕ) → Contains (content_links new.bytes c') (name, Header h)
      → IsHeaderIn table h
  led_by (content.Group t) (content.Group t') kind same name h at =
      linked_header (opened_state old slots) (sound old slots numbers opened) number p of t kind name h
      (subst (In (name, Header h)) same (in_contains (name, Header h) (links_told new.bytes t') at))
  led_by (content.Group t) content.Array kind same name h at = absurd same
  led_by content.Array (content.Group t') kind same name h at = absurd same
  led_by content.Array content.Array kind same name h at = absurd (in_contains (name, Header h) [] at)

  count_was : reference_count (prefix_at old.bytes (header_of p)) ≡ hard_links tree number + (if number == 0 then 1 else 0)
  count_was =
      let x = object_at old.bytes table tree opened.reads.0 opened.reads.1.holds number (header_of p) of.header in
      let count = in_all (IsCounted old.bytes tree) x.0 opened.reads.0 opened.reads.1.counted x.1 in
      ap (λ (h : ℕ). reference_count (prefix_at old.bytes h)) (sym x.3) ∙ count.counted ∙ ap (λ (n : ℕ). hard_links tree n + (if n == 0 then 1 else 0)) x.2

  touched_object : IsTouchedObject new.bytes table' tree' number p'
  touched_object = record {
    kept = is.kept;
    object = remade;
    there = put_here number (let same : (number == number) ≡ true = grind (arith, nat_tests) in same);
    blocks = object_blocks new.bytes p';
    has = told_object new.bytes table' p' is.kept
        (λ name h at. subst (λ (t : FinMap nat_cmp ℕ). IsHeaderIn t h) (sym one_table) (led_by p.content p'.content refl is.links name h at));
    counted = ap (λ (h : ℕ). reference_count (prefix_at new.bytes h)) is.header ∙ is.counted ∙ count_was
        ∙ ap (λ (n : ℕ). n + (if number == 0 then 1 else 0)) (sym (alike.counts number));
  }

  one_in_place : IsSlotsInPlace old new slots slots' tree tree' (is_among touched)
  one_in_place = record {
    moves = moves_same old new (end_field old.bytes ∷ object_blocks old.bytes p) (end_field new.bytes ∷ object_blocks new.bytes p')
        (end_field old.bytes ∷ slot_blocks old.bytes (is_among touched) slots) (end_field new.bytes ∷ slot_blocks new.bytes (is_among touched) slots')
        (one_slot_blocks old.bytes number slots p is.before) (one_slot_blocks new.bytes number slots' p' is.after) is.moves;
    end = is.end;
    small = is.small;
    slots_moved = moved;
    same = λ n out. put_beside n (sym (one_among number n) ∙ out);
    counts = λ n out some. alike.counts n;
    remade = λ n o mine at.
        let tested : (number == n) ≡ true = sym (one_among number n) ∙ mine in
        let here : number ≡ n = grind (arith, nat_tests, tested) in
        let now : p' ≡ o = same_Some p' o (same_Some (Some p') (Some o) (sym is.after ∙ ap (slice_get slots') here ∙ at)) in
        subst (IsTouchedObject new.bytes table' tree' n) now (subst (λ (k : ℕ). IsTouchedObject new.bytes table' tree' k p') here touched_object);
    gone = λ n mine none.
        let tested : (number == n) ≡ true = sym (one_among number n) ∙ mine in
        let here : number ≡ n = grind (arith, nat_tests, tested) in
        absurd (let never : Some p' ≡ None = ap option_flatten (sym (ap (slice_get slots') (sym here) ∙ is.after)) ∙ none in cc);
  }

  index_stays : IsIndex table' numbers
  index_stays = subst (λ (t : FinMap nat_cmp ℕ). IsIndex t numbers) (sym one_table) opened.index

  -- ---- so

  pub one_opened : IsOpened new slots' numbers
  one_opened = slots_opened old new slots slots' numbers numbers opened tree' (is_among touched) good one_in_place index_stays

  pub one_changed : (bytes : ℕ) → length new.bytes ≤ length old.bytes + bytes → IsChangedInPlace (opened_state old slots) (opened_state new slots') tree' (length slots') touched bytes
  one_changed bytes room = slots_changed old new slots slots' numbers numbers opened tree' touched bytes good one_in_place index_stays room

  -- the tree as a change of that object
  pub one_tree : (change : Object → Object) → remade ≡ change (object_in old.bytes table p) → tree' ≡ with_object tree number change
  one_tree change is_changed =
      ap (λ (o : Object). insert tree number o) is_changed
      ∙ sym (ap (λ (found : Option Object). option_map_or (λ (o : Object). insert tree number (change o)) found tree) of.there)

-- ---- an object that is made anew where it stands, in an image that stays as long

-- the blocks of one slot are among those of all
pub one_cover : (q : ℕ) (f : OpenedObject → List Block) (slots : List (Option OpenedObject)) (k : ℕ) (o : OpenedObject) → slice_get slots k ≡ Some (Some o)
    → cover q (f o) ≤ cover q (flat_map f (objects_of slots))
one_cover q f [] k o at = absurd (let never : None ≡ Some (Some o) = at in cc)
one_cover q f (None ∷ slots) zero o at = absurd (let never : None ≡ Some o = same_Some None (Some o) at in cc)
one_cover q f (None ∷ slots) (suc k) o at = one_cover q f slots k o at
one_cover q f (Some x ∷ slots) zero o at =
    let same = ap (λ (y : OpenedObject). cover q (f y)) (same_Some x o (same_Some (Some x) (Some o) at)) in
    omega (arith, same, cover-append q (f x) (flat_map f (objects_of slots)))
one_cover q f (Some x ∷ slots) (suc k) o at = omega (arith, one_cover q f slots k o at, cover-append q (f x) (flat_map f (objects_of slots)))

module _ (old new : Space) (slots : List (Option OpenedObject)) (numbers : BTreeMap ℕ ℕ) (opened : IsOpened old slots numbers) (number : ℕ) (p : OpenedObject) (at : slice_get slots number ≡ Some (Some p))
    (own : List Block) (among : (q : ℕ) → cover q own ≤ cover q (object_blocks old.bytes p)) (moves : Moves old new own own) (long : length new.bytes ≡ length old.bytes) where
  among_all : (q : ℕ) → cover q own ≤ cover q (flat_map (object_blocks old.bytes) (objects_of slots))
  among_all q = omega (arith, among q, one_cover q (object_blocks old.bytes) slots number p at)

  pub written_remade : IsObjectKept new.bytes p → AreLinksKept old.bytes new.bytes p.content p.content
      → reference_count (prefix_at new.bytes (header_of p)) ≡ reference_count (prefix_at old.bytes (header_of p)) → object_blocks new.bytes p ≡ object_blocks old.bytes p
      → IsOneRemade old new slots slots number p p
  written_remade kept links counted blocks = record {
    before = at;
    after = at;
    others = λ n out. refl;
    as_many = refl;
    header = refl;
    kept = kept;
    links = links;
    counted = counted;
    moves = moves_within old new own (end_field old.bytes ∷ object_blocks old.bytes p) (end_field new.bytes ∷ object_blocks new.bytes p) moves (λ q. omega (arith, among q))
        (λ q. ap (λ (bs : List Block). cover q (end_field new.bytes ∷ bs)) blocks
        ∙ ap (λ (b : Block). cover q (b ∷ object_blocks old.bytes p)) (field_kept old slots numbers opened new own own moves among_all));
    end = end_kept old slots numbers opened new own own moves among_all long;
    small = omega (arith, long, opened.reads.1.holds.whole, opened.reads.1.holds.superblock.small);
  }
