use Rattle.std.proofs.Common.{◌≡◌, ◌+◌, ◌*◌, ◌<◌, ◌≤◌, [], ◌∷◌, ◌++◌, length, take, true, false, sym, ap, ◌∙◌, subst, arith}
use Rattle.std.specs.Prelude.{slice_index, slice_index_or, nat_eq, All}
use Rattle.std.specs.List.{IsDistinct}
use Rattle.std.proofs.lemmas.Bool.{true≢false}
use Rattle.std.proofs.lemmas.List.{append_assoc, append-nil, length_push, get_or-replicate, get_or_default}
use Rattle.std.proofs.lemmas.List.Elements.{All-push}
use Rattle.um_word.specs.Scroll.{scroll}
use Rattle.array_store.specs.Parts.{is_among}
use Rattle.array_store.proofs.PartLemmas.{distinct-push}
use Rattle.um_image.specs.Image.{image_mark}
use Rattle.um_image.proofs.Points.{none_by_end, none_by_word, one_more}
use Rattle.um_image.proofs.Places.{bad}
use Rattle.um_image.proofs.Stops.{once_none}
use Rattle.um_image.proofs.Goes.{IsNew, ids_go_on}
use Rattle.um_image.proofs.Sections.{is_head, seen_more}
use Rattle.um_image.proofs.reading.read_abandoned.Goals.{then-id-eq0-via-then-id-eq0, then-id-eq0-via-else-id-eq0+then-id-made}
use Rattle.um_image.proofs.reading.read_abandoned.Goals as goal

pub loop-k-init : goal.loop-k-init
loop-k-init c =
    let none = c.in-Ok.ensures.items in
    record {
      size = c.in-Ok-vec.ensures.len;
      many = ap length none;
      known = λ k d lt. absurd (let l = ap length none in omega (arith, l, lt));
      once = subst (IsDistinct nat_eq) (sym none) once_none;
      told = λ id le. ap (λ xs. slice_index_or xs id false) (c.in-Ok-vec.ensures.items_if_clones_equal (λ y e. e))
          ∙ get_or-replicate (slice_index c.args.head.now 14 + 1) id false false (omega (arith, le))
          ∙ ap (λ ids. is_among ids id) (sym none);
      read = c.requires.read ∙ ap (λ xs. scroll (image_mark ∷ xs)) (sym (ap (λ ids. c.args.head.now ++ ids) none ∙ append-nil c.args.head.now));
      within = c.requires.within;
    }

pub returns-in_default-word_at-clause-fault : goal.returns-in_default-word_at-clause-fault
returns-in_default-word_at-clause-fault c =
    let i = c.loop-k.invariant in
    let bytes = c.args.bytes.now in
    let head = c.args.head.now in
    let h = is_head bytes head c.requires in
    let many = i.many in
    let R = IsNew (slice_index head 14) c.loop-k.ids.items in
    bad (image_mark ∷ (head ++ c.loop-k.ids.items)) R
    (ids_go_on head c.loop-k.ids.items h i.known i.once (let lt = c.loop-k-test.true in omega (arith, lt, many)))
    bytes (68 + 4 * c.loop-k.k) i.read i.within (none_by_end bytes (68 + 4 * c.loop-k.k) R c.in_default-word_at.ensures)

pub returns-then-id-eq0-clause-fault : goal.returns-then-id-eq0-clause-fault
returns-then-id-eq0-clause-fault c =
    let i = c.loop-k.invariant in
    let bytes = c.args.bytes.now in
    let head = c.args.head.now in
    let h = is_head bytes head c.requires in
    let many = i.many in
    let R = IsNew (slice_index head 14) c.loop-k.ids.items in
    bad (image_mark ∷ (head ++ c.loop-k.ids.items)) R
    (ids_go_on head c.loop-k.ids.items h i.known i.once (let lt = c.loop-k-test.true in omega (arith, lt, many)))
    bytes (68 + 4 * c.loop-k.k) i.read i.within
    (none_by_word bytes (68 + 4 * c.loop-k.k) c.in-Some.id R c.in-Some.ensures (λ r.
    elim c.then-id-eq0.branch as (λ _. ⊥) [
      | then-id-eq0-via-then-id-eq0 w ↦ (let low = r.0 in let e = w.if-id-eq0.true in omega (arith, low, e))
      | then-id-eq0-via-else-id-eq0+then-id-made w ↦ (let high = r.1 in let e = w.if-id-made.true in omega (arith, high, e))
    ]))

pub returns-then-index-clause-fault : goal.returns-then-index-clause-fault
returns-then-index-clause-fault c =
    let i = c.loop-k.invariant in
    let bytes = c.args.bytes.now in
    let head = c.args.head.now in
    let h = is_head bytes head c.requires in
    let many = i.many in
    let R = IsNew (slice_index head 14) c.loop-k.ids.items in
    bad (image_mark ∷ (head ++ c.loop-k.ids.items)) R
    (ids_go_on head c.loop-k.ids.items h i.known i.once (let lt = c.loop-k-test.true in omega (arith, lt, many)))
    bytes (68 + 4 * c.loop-k.k) i.read i.within
    (none_by_word bytes (68 + 4 * c.loop-k.k) c.in-Some.id R c.in-Some.ensures (λ r.
    let told = i.told c.in-Some.id r.1 in
    let high = r.1 in
    let size = i.size in
    let long : c.in-Some.id < length c.loop-k.seen.items = (let l = c.loop-k.seen.ok.0 in omega (arith, l, size, high)) in
    let read : slice_index_or c.loop-k.seen.items c.in-Some.id false ≡ true =
    get_or_default c.loop-k.seen.items c.in-Some.id false c.index.result.now long ∙ sym c.index.ensures ∙ c.if-index.true in
    true≢false (sym read ∙ told ∙ r.2)))

pub loop-k-preserved : goal.loop-k-preserved
loop-k-preserved c =
    let i = c.loop-k.invariant in
    let ids = c.loop-k.ids.items in
    let id = c.in-Some.id in
    let made = slice_index c.args.head.now 14 in
    let head = c.args.head.now in
    let pushed : c.push.new.self.items ≡ ids ++ id ∷ [] = c.in-Ok-push.ensures.items in
    let low : 1 ≤ id = (let a = c.if-id-eq0.false in omega (arith, a)) in
    let high : id ≤ made = (let a = c.if-id-made.false in omega (arith, a)) in
    let size = i.size in
    let long : id < length c.loop-k.seen.items = (let l = c.loop-k.seen.ok.0 in omega (arith, l, size, high)) in
    let new : is_among ids id ≡ false =
    sym (i.told id high) ∙ get_or_default c.loop-k.seen.items id false c.index.result.now long ∙ sym c.index.ensures ∙ c.if-index.false in
    let place : 68 + 4 * (c.loop-k.k + 1) ≡ 68 + 4 * c.loop-k.k + 4 = omega arith in
    record {
      size = size;
      many = (let l = length_push ids id in let e = ap length pushed in let n = i.many in omega (arith, l, e, n));
      known = subst (All (λ id. (1 ≤ id) × (id ≤ made))) (sym pushed) (All-push (λ id. (1 ≤ id) × (id ≤ made)) ids id i.known (low, high));
      once = subst (IsDistinct nat_eq) (sym pushed) (distinct-push ids id i.once new);
      told = λ j le. seen_more c.loop-k.seen.items ids made id long i.told j le ∙ ap (λ xs. is_among xs j) (sym pushed);
      read = ap (λ n. take n c.args.bytes.now) place
          ∙ one_more c.args.bytes.now (image_mark ∷ (head ++ ids)) (68 + 4 * c.loop-k.k) id i.read c.in-Some.ensures
          ∙ ap (λ xs. scroll (image_mark ∷ xs)) (append_assoc head ids (id ∷ []) ∙ ap (λ xs. head ++ xs) (sym pushed));
      within = (let w = c.in-Some.ensures.0 in omega (arith, w));
    }
