use Rattle.std.proofs.Common.{◌≡◌, ◌+◌, List, [], ◌∷◌, ◌++◌, length, ℕ, sym, subst, ap, ◌∙◌, arith}
use Rattle.std.proofs.lemmas.List.{length-append}
use Rattle.std.proofs.lemmas.Result.{err_from_is_err_and, on_ok_weaker, MatchResult-weaker}
use Rattle.h5_model.specs.Format.Symbols.{Target}
use Rattle.h5_laws.proofs.Lists.{contains_in, in_at}
use Rattle.h5_open.specs.declared.index.Index.{Index}
use Rattle.h5_open.specs.declared.opened.object.OpenedObject.{OpenedObject}
use Rattle.h5_open.specs.Counted.Counts.{AreCounted}
use Rattle.h5_open.specs.Opened.Objects.{objects_of}
use Rattle.h5_open.specs.Walk.{IsLinkRead, IsPartly}
use Rattle.h5_open.proofs.CountedLaws.CountLaws.{counted_again, counted_push}
use Rattle.h5_open.proofs.FollowLaws.{leads_to, leads_to_text, refused_again, ready_at, read_at, array_read, tree_read, counted_at, soft_counted}
use Rattle.h5_open.proofs.IndexLaws.{dense_length, object_of_slot}
use Rattle.h5_open.proofs.RenumberedLaws.Renumbered.{on_ok_both}
use Rattle.h5_open.proofs.UnderLaws.{header_met}
use Rattle.h5_open.proofs.StepLaws.{begun, step, link_ready, finished}
use Rattle.h5_open.proofs.steps.+tree.Goals as goal

pub follow-returns-in_default-clause-counted : goal.follow-returns-in_default-clause-counted
follow-returns-in_default-clause-counted t c =
    soft_counted c.args.image.now.bytes (objects_of c.args.tally.now.index.objects.items) c.args.tally.now.counts.items c.args.link.now c.in_default.field-0.now (leads_to_text c.args.link.now.1 c.to.result c.in_default.field-0 c.to.ensures c.in_default.is)

pub follow-count_again-requires-clause-there : goal.follow-count_again-requires-clause-there
follow-count_again-requires-clause-there t c = let found = c.in-Some.ensures in (found.0, found.1)

pub follow-returns-in-Some-clause-read : goal.follow-returns-in-Some-clause-read
follow-returns-in-Some-clause-read t c =
    let slots = c.args.tally.now.index.objects.items in
    let objects = objects_of slots in
    let image = c.args.image.now.bytes in
    let held = c.args.claims.now.held in
    let found = c.in-Some.ensures in
    let here = object_of_slot slots c.requires.index.all c.in-Some.number found.0 found.1 in
    let same : objects_of c.count_again.new.tally.index.objects.items ≡ objects = ap (λ (i : Index). objects_of i.objects.items) c.count_again.ensures.index in
    on_ok_weaker c.count_again.result (λ room followed field ready.
    subst (λ (os : List OpenedObject). IsLinkRead image held held followed objects os field c.args.depth c.args.link.now) (sym same)
    (read_at image held held followed objects objects field c.args.depth c.args.link.now c.in-Object.header (leads_to c.args.link.now.1 c.to.result c.in-Object.header c.to.ensures c.in-Object.is)
    (array_read image held followed objects field c.in-Object.header c.args.depth c.args.link.now.0
    (ready_at image held followed objects field c.args.depth c.args.link.now c.in-Object.header (leads_to c.args.link.now.1 c.to.result c.in-Object.header c.to.ensures c.in-Object.is) ready)
    found.0 (contains_in found.0 objects (in_at objects c.in-Some.number found.0 here)) found.2 (room found.0 found.1).array))) c.count_again.ensures.room

pub follow-returns-in-Some-clause-counted : goal.follow-returns-in-Some-clause-counted
follow-returns-in-Some-clause-counted t c =
    let slots = c.args.tally.now.index.objects.items in
    let objects = objects_of slots in
    let image = c.args.image.now.bytes in
    let counts = c.args.tally.now.counts.items in
    let found = c.in-Some.ensures in
    let here = object_of_slot slots c.requires.index.all c.in-Some.number found.0 found.1 in
    let same : objects_of c.count_again.new.tally.index.objects.items ≡ objects = ap (λ (i : Index). objects_of i.objects.items) c.count_again.ensures.index in
    on_ok_weaker c.count_again.result (λ both waiting are.
    subst (λ (os : List OpenedObject). AreCounted image os c.count_again.new.tally.counts.items waiting) (sym same)
    (subst (λ (ns : List ℕ). AreCounted image objects ns waiting) (sym both.0)
    (counted_again image objects counts c.args.link.now.0 c.in-Object.header waiting (counted_at image objects counts waiting c.args.link.now c.in-Object.header (leads_to c.args.link.now.1 c.to.result c.in-Object.header c.to.ensures c.in-Object.is) are)
    c.in-Some.number found.0 c.requires.index.distinct here found.2 (both.1 found.0 found.1))))
    (on_ok_both _ _ c.count_again.result c.count_again.ensures.counted c.count_again.ensures.room)

pub follow-returns-in-Some-clause-refused : goal.follow-returns-in-Some-clause-refused
follow-returns-in-Some-clause-refused t c =
    let slots = c.args.tally.now.index.objects.items in
    let objects = objects_of slots in
    let image = c.args.image.now.bytes in
    let held = c.args.claims.now.held in
    let counts = c.args.tally.now.counts.items in
    let found = c.in-Some.ensures in
    let here = object_of_slot slots c.requires.index.all c.in-Some.number found.0 found.1 in
    MatchResult-weaker c.count_again.result c.count_again.ensures.refused (λ _ h. h) (λ fault refused followed field waiting ready are.
    refused_again image held followed objects field c.in-Object.header (c.args.depth + 1)
    (ready_at image held followed objects field c.args.depth c.args.link.now c.in-Object.header (leads_to c.args.link.now.1 c.to.result c.in-Object.header c.to.ensures c.in-Object.is) ready)
    counts c.args.link.now.0 waiting (counted_at image objects counts waiting c.args.link.now c.in-Object.header (leads_to c.args.link.now.1 c.to.result c.in-Object.header c.to.ensures c.in-Object.is) are)
    c.in-Some.number found.0 here found.2 fault.cause fault.address (refused found.0 found.1))

pub follow-returns-in-None-clause-read : goal.follow-returns-in-None-clause-read
follow-returns-in-None-clause-read t c =
    let objects = objects_of c.args.tally.now.index.objects.items in
    let now = objects_of c.read_tree.new.tally.index.objects.items in
    let image = c.args.image.now.bytes in
    let held = c.args.claims.now.held in
    on_ok_weaker c.read_tree.result (λ read followed field ready.
    read_at image held c.read_tree.new.claims.held followed objects now field c.args.depth c.args.link.now c.in-Object.header (leads_to c.args.link.now.1 c.to.result c.in-Object.header c.to.ensures c.in-Object.is)
    (tree_read image held c.read_tree.new.claims.held followed objects now field c.in-Object.header c.args.depth c.args.link.now.0
    (read followed field (ready_at image held followed objects field c.args.depth c.args.link.now c.in-Object.header (leads_to c.args.link.now.1 c.to.result c.in-Object.header c.to.ensures c.in-Object.is) ready)))) c.read_tree.ensures.read

pub follow-returns-in-None-clause-counted : goal.follow-returns-in-None-clause-counted
follow-returns-in-None-clause-counted t c =
    let objects = objects_of c.args.tally.now.index.objects.items in
    on_ok_weaker c.read_tree.result (λ counted waiting are.
    counted c.args.link.now.0 waiting
    (counted_at c.args.image.now.bytes objects c.args.tally.now.counts.items waiting c.args.link.now c.in-Object.header (leads_to c.args.link.now.1 c.to.result c.in-Object.header c.to.ensures c.in-Object.is) are)) c.read_tree.ensures.counted

pub follow-returns-in-None-clause-refused : goal.follow-returns-in-None-clause-refused
follow-returns-in-None-clause-refused t c =
    let objects = objects_of c.args.tally.now.index.objects.items in
    let image = c.args.image.now.bytes in
    let held = c.args.claims.now.held in
    MatchResult-weaker c.read_tree.result c.read_tree.ensures.refused (λ _ h. h) (λ fault refused followed field waiting ready are.
    refused c.args.link.now.0 followed field waiting
    (ready_at image held followed objects field c.args.depth c.args.link.now c.in-Object.header (leads_to c.args.link.now.1 c.to.result c.in-Object.header c.to.ensures c.in-Object.is) ready)
    (counted_at image objects c.args.tally.now.counts.items waiting c.args.link.now c.in-Object.header (leads_to c.args.link.now.1 c.to.result c.in-Object.header c.to.ensures c.in-Object.is) are))

pub read_tree-returns-in_err-object-clause-refused : goal.read_tree-returns-in_err-object-clause-refused
read_tree-returns-in_err-object-clause-refused t c =
    let objects = objects_of c.args.tally.now.index.objects.items in
    let p = err_from_is_err_and c.from_residual.result c.from_residual.ensures.1 in
    rw (p.1, p.2) (λ name followed field waiting ready are. c.in_err-object.ensures.refused followed field
    (header_met c.args.image.now.bytes c.args.claims.now.held followed objects field c.args.header c.args.depth ready c.requires.new))

pub read_tree-loop-link-init : goal.read_tree-loop-link-init
read_tree-loop-link-init t c =
    let objects = objects_of c.args.tally.now.index.objects.items in
    let after = objects_of c.push_counted.new.tally.index.objects.items in
    let held = c.args.claims.now.held in
    let image = c.args.image.now.bytes in
    let given = c.into_iter-link-iterator.ensures.into_iter_gives in
    let links = given ∙ c.in_ok-links.ensures.links in
    record {
      end = c.in_ok-object.ensures.end ∙ c.requires.end;
      index = c.in_ok-push_counted.ensures.index;
      long = omega (
        arith,
        ap length c.in_ok-push_counted.ensures.counted,
        length-append c.args.tally.now.counts.items (1 ∷ []),
        c.requires.length,
        dense_length c.args.tally.now.index.objects.items c.requires.index.all,
        ap length c.in_ok-push_counted.ensures.pushed,
        length-append objects (c.in_ok-object.object ∷ []),
        dense_length c.push_counted.new.tally.index.objects.items c.in_ok-push_counted.ensures.index.all,
      );
      deep = λ some. c.in_ok-object.ensures.read.shallow (omega (arith, some, ap length links));
      read = λ followed field ready.
          begun image held c.read_object.new.claims.held followed objects field c.args.header c.args.depth ready c.requires.new
          c.in_ok-object.object c.in_ok-object.ensures.read c.in_ok-object.ensures.separate
          (c.in_ok-object.ensures.followed followed field (header_met image held followed objects field c.args.header c.args.depth ready c.requires.new))
          _ links after c.in_ok-push_counted.ensures.pushed;
      counted = λ name waiting are.
          subst (λ (os : List OpenedObject). AreCounted image os c.push_counted.new.tally.counts.items (c.into_iter-link-iterator.result ++ waiting)) (sym c.in_ok-push_counted.ensures.pushed)
          (subst (λ (ns : List ℕ). AreCounted image (objects ++ c.in_ok-object.object ∷ []) ns (c.into_iter-link-iterator.result ++ waiting)) (sym c.in_ok-push_counted.ensures.counted)
          (subst (λ (ls : List (List ℕ × Target)). AreCounted image (objects ++ c.in_ok-object.object ∷ []) (c.args.tally.now.counts.items ++ 1 ∷ []) (ls ++ waiting))
          (sym links)
          (counted_push image objects c.args.tally.now.counts.items name c.args.header waiting are c.in_ok-object.object c.requires.new c.in_ok-object.ensures.read.header_is)));
    }

pub read_tree-returns-in_err-follow-clause-refused : goal.read_tree-returns-in_err-follow-clause-refused
read_tree-returns-in_err-follow-clause-refused t c =
    let image = c.args.image.now.bytes in
    let held = c.args.claims.now.held in
    let objects = objects_of c.args.tally.now.index.objects.items in
    let now = objects_of c.loop-link.tally.index.objects.items in
    let later = c.next.new.self in
    let p = err_from_is_err_and c.from_residual-in_err-follow.result c.from_residual-in_err-follow.ensures.1 in
    rw (p.1, p.2) (λ name followed field waiting ready are.
    let part = subst (λ (ls : List (List ℕ × Target)). IsPartly image held c.loop-link.claims.held followed objects now field c.args.header c.args.depth ls)
    c.in-Some.ensures.steps (c.loop-link.invariant.read followed field ready) in
    c.in_err-follow.ensures.refused (part.new ++ followed) _ (later ++ waiting)
    (link_ready image held c.loop-link.claims.held followed objects now field c.args.header c.args.depth c.in-Some.link later ready.under part)
    (subst (λ (ls : List (List ℕ × Target)). AreCounted image now c.loop-link.tally.counts.items (ls ++ waiting)) c.in-Some.ensures.steps
    (c.loop-link.invariant.counted name waiting are)))

pub read_tree-loop-link-preserved : goal.read_tree-loop-link-preserved
read_tree-loop-link-preserved t c =
    let objects = objects_of c.args.tally.now.index.objects.items in
    let now = objects_of c.loop-link.tally.index.objects.items in
    let after = objects_of c.follow.new.tally.index.objects.items in
    let image = c.args.image.now.bytes in
    let held = c.args.claims.now.held in
    let later = c.next.new.self in
    record {
      end = c.in_ok-follow.ensures.end ∙ c.loop-link.invariant.end;
      index = c.in_ok-follow.ensures.index;
      long = c.in_ok-follow.ensures.length;
      deep = λ some. c.loop-link.invariant.deep (omega (arith, some, ap length c.in-Some.ensures.steps));
      read = λ followed field ready.
          let part = subst (λ (ls : List (List ℕ × Target)). IsPartly image held c.loop-link.claims.held followed objects now field c.args.header c.args.depth ls)
          c.in-Some.ensures.steps (c.loop-link.invariant.read followed field ready) in
          step image held c.loop-link.claims.held followed objects now field c.args.header c.args.depth c.in-Some.link later ready.under part
          c.follow.new.claims.held after
          (c.in_ok-follow.ensures.read (part.new ++ followed) _
          (link_ready image held c.loop-link.claims.held followed objects now field c.args.header c.args.depth c.in-Some.link later ready.under part));
      counted = λ name waiting are.
          c.in_ok-follow.ensures.counted (later ++ waiting)
          (subst (λ (ls : List (List ℕ × Target)). AreCounted image now c.loop-link.tally.counts.items (ls ++ waiting)) c.in-Some.ensures.steps
          (c.loop-link.invariant.counted name waiting are));
    }

pub read_tree-returns-clause-read : goal.read_tree-returns-clause-read
read_tree-returns-clause-read t c =
    let objects = objects_of c.args.tally.now.index.objects.items in
    let now = objects_of c.loop-link.tally.index.objects.items in
    let image = c.args.image.now.bytes in
    let held = c.args.claims.now.held in
    λ followed field ready.
    finished image held c.loop-link.claims.held followed objects now field c.args.header c.args.depth
    (subst (λ (ls : List (List ℕ × Target)). IsPartly image held c.loop-link.claims.held followed objects now field c.args.header c.args.depth ls)
    c.in-None.ensures.steps.0 (c.loop-link.invariant.read followed field ready))

pub read_tree-returns-clause-counted : goal.read_tree-returns-clause-counted
read_tree-returns-clause-counted t c =
    λ name waiting are.
    subst (λ (ls : List (List ℕ × Target)). AreCounted c.args.image.now.bytes (objects_of c.loop-link.tally.index.objects.items) c.loop-link.tally.counts.items (ls ++ waiting))
    c.in-None.ensures.steps.0 (c.loop-link.invariant.counted name waiting are)
