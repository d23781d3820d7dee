-- All that the start reaches is found, box by box.
use Rattle.std.proofs.Common.{◌≡◌, ◌<◌, arith, refl, sym, ◌∙◌, subst, length, inl, false}
use Rattle.std.specs.List.{Contains}
use Rattle.std.proofs.lemmas.List.{length-map}
use Rattle.std.proofs.lemmas.Option.{slice_get_read, get_or_from_slice_get}
use Rattle.two_d.specs.Programs.{module_of, box_of}
use Rattle.two_d.specs.Sound.{by_one}
use Rattle.two_d.proofs.Reached.{AreFound, IsFollowed, none_found, followed, closed_more, IsClosedTo, kept_in, reaches_on, all_found, found_few}
use Rattle.two_d.proofs.ring.reaches_itself.Goals as goal

pub follow-init : goal.follow-init
follow-init c =
    let m = module_of c.args.module.now in
    let count : c.len.result ≡ length m.boxes = omega (arith, length-map c.args.module.now.boxes.items box_of) in
    let empty : AreFound m c.args.start c.in_ok-seen.seen.items c.new-found.result.items =
    rw (c.new-found.ensures.items, c.in_ok-seen.ensures, count) (none_found m c.args.start) in
    let both : IsFollowed m c.args.start c.args.start c.new-found.result.items c.add-2.new.seen.items c.add-2.new.found.items =
    followed m c.args.start c.args.start (λ q feeds. by_one feeds) c.args.souths.now c.args.easts.now c.requires.souths c.requires.easts
    c.in_ok-seen.seen.items c.new-found.result.items empty
    c.target_of.result c.target_of.ensures c.add.new.seen.items c.add.new.found.items c.in_ok-add.ensures
    c.target_of-2.result c.target_of-2.ensures c.add-2.new.seen.items c.add-2.new.found.items c.in_ok-add-2.ensures in
    record {
      are = both.are;
      first = both.fed;
      closed = λ i x t less at feeds. absurd (omega arith);
      within = omega arith;
    }

pub target_of-requires-in-follow : goal.target_of-requires-in-follow
target_of-requires-in-follow c =
    let at = slice_get_read c.follow.found.items (length c.follow.found.items) c.follow.next c.index-number.result.now refl (omega arith) c.index-number.ensures in
    let lt = c.follow.invariant.are.below c.follow.next c.index-number.result.now at in
    let long = c.requires.souths.long in omega arith

pub target_of-requires-in-follow-2 : goal.target_of-requires-in-follow-2
target_of-requires-in-follow-2 c =
    let at = slice_get_read c.follow.found.items (length c.follow.found.items) c.follow.next c.index-number.result.now refl (omega arith) c.index-number.ensures in
    let lt = c.follow.invariant.are.below c.follow.next c.index-number.result.now at in
    let long = c.requires.easts.long in omega arith

pub follow-smaller : goal.follow-smaller
follow-smaller c = let few = found_few (module_of c.args.module.now) c.args.start c.follow.seen.items c.follow.found.items c.follow.invariant.are in omega (arith, length-map c.args.module.now.boxes.items box_of)

pub follow-preserved : goal.follow-preserved
follow-preserved c =
    let m = module_of c.args.module.now in
    let number = c.index-number.result.now in
    let lt : c.follow.next < length c.follow.found.items = omega arith in
    let at = slice_get_read c.follow.found.items (length c.follow.found.items) c.follow.next number refl lt c.index-number.ensures in
    let there : Contains c.follow.found.items number = (c.follow.next, lt, sym c.index-number.ensures) in
    let both : IsFollowed m c.args.start number c.follow.found.items c.add-in-follow-2.new.seen.items c.add-in-follow-2.new.found.items =
    followed m c.args.start number (λ q feeds. reaches_on m (c.follow.invariant.are.reached number there) q feeds) c.args.souths.now c.args.easts.now c.requires.souths c.requires.easts
    c.follow.seen.items c.follow.found.items c.follow.invariant.are
    c.target_of-in-follow.result c.target_of-in-follow.ensures c.add-in-follow.new.seen.items c.add-in-follow.new.found.items c.in_ok-add-3.ensures
    c.target_of-in-follow-2.result c.target_of-in-follow-2.ensures c.add-in-follow-2.new.seen.items c.add-in-follow-2.new.found.items c.in_ok-add-4.ensures in
    record {
      are = both.are;
      first = λ t feeds. kept_in c.follow.found.items c.add-in-follow-2.new.found.items both.same t (c.follow.invariant.first t feeds);
      closed = closed_more m c.args.start number c.follow.next c.follow.found.items c.add-in-follow-2.new.seen.items c.add-in-follow-2.new.found.items lt at both c.follow.invariant.closed;
      within = (let longer = both.longer in omega arith);
    }

pub returns : goal.returns
returns c =
    let m = module_of c.args.module.now in
    let found = c.follow.found.items in
    let long = c.follow.invariant.are.long in
    let at = slice_get_read c.follow.seen.items (length c.follow.seen.items) c.args.start c.index.result.now refl (omega arith) c.index.ensures in
    let read = get_or_from_slice_get c.follow.seen.items c.args.start c.index.result.now false at in
    let all : c.follow.next ≡ length found = (let le = c.follow.invariant.within in omega arith) in (
      λ is. c.follow.invariant.are.reached c.args.start ((c.follow.invariant.are.marks c.args.start).0 (read ∙ is)),
      λ reaches. sym read ∙ (c.follow.invariant.are.marks c.args.start).1
          (all_found m c.args.start found c.follow.invariant.first (subst (IsClosedTo m found) all c.follow.invariant.closed) reaches (inl refl)),
    )
