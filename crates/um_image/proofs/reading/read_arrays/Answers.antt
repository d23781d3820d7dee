use Rattle.std.proofs.Common.{◌≡◌, ◌+◌, ◌*◌, [], ◌∷◌, ◌++◌, length, false, refl, sym, ap, ◌∙◌, subst, arith}
use Rattle.std.proofs.lemmas.Result.{err_from_is_err_and}
use Rattle.um_word.specs.State.{words_in}
use Rattle.array_store.specs.Parts.{is_among, listed}
use Rattle.array_store.proofs.PartLemmas.{listed-push, words_in-append}
use Rattle.um_image.specs.inner.Reading.{HasWordAt, ArraysRead}
use Rattle.um_image.proofs.Points.{none_by_end, none_by_word}
use Rattle.um_image.proofs.Sections.{is_head, id_stops, array_stops, arrays_more}
use Rattle.um_image.proofs.reading.read_arrays.Goals as goal

pub loop-before-init : goal.loop-before-init
loop-before-init c =
    let none = ap listed c.new-arrays.ensures.items in
    let live = c.requires.zero.live in
    record {
      read = subst (λ arrays. ArraysRead c.args.bytes.now c.args.head.now c.args.ids.now c.args.zero.now arrays 0 (68 + 4 * length c.args.ids.now + 4 + 4 * length c.args.zero.now)) (sym none)
          (record {
            active = refl;
            words = tt;
            read = c.requires.zero.read;
            within = c.requires.zero.within;
            live = omega (arith, live);
          });
      counted = (let n = ap words_in none in omega (arith, n, live));
    }

pub returns-in_default-clause-fault : goal.returns-in_default-clause-fault
returns-in_default-clause-fault c =
    let i = c.loop-before.invariant in
    let head = c.args.head.now in
    let h = is_head c.args.bytes.now head c.requires.head in
    let new : is_among c.args.ids.now (c.loop-before.before + 1) ≡ false = (let lt = c.loop-before-test.true in sym (c.requires.told (c.loop-before.before + 1) (omega (arith, lt))) ∙ c.if-seen-id.false) in
    id_stops c.args.bytes.now head c.args.ids.now c.args.zero.now (listed c.loop-before.arrays.items) c.loop-before.before c.loop-before.at h c.requires.ids
    c.requires.zero.words i.read c.loop-before-test.true new
    (none_by_end c.args.bytes.now c.loop-before.at (λ w. w ≡ c.loop-before.before + 1) c.in_default.ensures)

pub returns-then-word-id-clause-fault : goal.returns-then-word-id-clause-fault
returns-then-word-id-clause-fault c =
    let i = c.loop-before.invariant in
    let head = c.args.head.now in
    let h = is_head c.args.bytes.now head c.requires.head in
    let new : is_among c.args.ids.now (c.loop-before.before + 1) ≡ false = (let lt = c.loop-before-test.true in sym (c.requires.told (c.loop-before.before + 1) (omega (arith, lt))) ∙ c.if-seen-id.false) in
    id_stops c.args.bytes.now head c.args.ids.now c.args.zero.now (listed c.loop-before.arrays.items) c.loop-before.before c.loop-before.at h c.requires.ids
    c.requires.zero.words i.read c.loop-before-test.true new
    (none_by_word c.args.bytes.now c.loop-before.at c.in-Some.word (λ w. w ≡ c.loop-before.before + 1) c.in-Some.ensures c.if-word-id.true)

pub returns-in_err-words-clause-fault : goal.returns-in_err-words-clause-fault
returns-in_err-words-clause-fault c =
    let i = c.loop-before.invariant in
    let head = c.args.head.now in
    let h = is_head c.args.bytes.now head c.requires.head in
    let new : is_among c.args.ids.now (c.loop-before.before + 1) ≡ false = (let lt = c.loop-before-test.true in sym (c.requires.told (c.loop-before.before + 1) (omega (arith, lt))) ∙ c.if-seen-id.false) in
    let has : HasWordAt c.args.bytes.now c.loop-before.at (c.loop-before.before + 1) = subst (HasWordAt c.args.bytes.now c.loop-before.at) c.if-word-id.false c.in-Some.ensures in
    let stops = array_stops c.args.bytes.now head c.args.ids.now c.args.zero.now (listed c.loop-before.arrays.items) c.loop-before.before c.loop-before.at h c.requires.ids
    c.requires.zero.words i.read c.loop-before-test.true new has c.loop-before.room i.counted in
    let p = err_from_is_err_and c.from_residual.result c.from_residual.ensures.1 in
    rw (p.1, p.2) (stops c.in_err-words.field-0.0 c.in_err-words.ensures.fault)

pub loop-before-preserved : goal.loop-before-preserved
loop-before-preserved c =
    let i = c.loop-before.invariant in
    let head = c.args.head.now in
    let h = is_head c.args.bytes.now head c.requires.head in
    let new : is_among c.args.ids.now (c.loop-before.before + 1) ≡ false = (let lt = c.loop-before-test.true in sym (c.requires.told (c.loop-before.before + 1) (omega (arith, lt))) ∙ c.if-seen-id.false) in
    let has : HasWordAt c.args.bytes.now c.loop-before.at (c.loop-before.before + 1) = subst (HasWordAt c.args.bytes.now c.loop-before.at) c.if-word-id.false c.in-Some.ensures in
    let id = c.loop-before.before + 1 in
    let words = c.in_ok-words.words.items in
    let arrays = listed c.loop-before.arrays.items in
    let all : listed c.push.new.self.items ≡ arrays ++ (id, words) ∷ [] =
    ap listed c.in-Ok.ensures.items ∙ listed-push c.loop-before.arrays.items (id, c.in_ok-words.words) in
    let size = c.in_ok-words.ensures.words.size in
    let counted = i.counted in
    let len : c.len.result ≡ length words = (let a = c.len.ensures in let b = c.in_ok-words.words.ok.0 in omega (arith, a, b)) in
    let len2 : c.len-in-loop-before.result ≡ length words = (let a = c.len-in-loop-before.ensures in let b = c.in_ok-words.words.ok.0 in omega (arith, a, b)) in
    let sum = ap words_in all in
    let more = words_in-append arrays ((id, words) ∷ []) in
    record {
      read = subst (λ xs. ArraysRead c.args.bytes.now head c.args.ids.now c.args.zero.now xs (c.loop-before.before + 1) (c.loop-before.at + (8 + 4 * c.len.result))) (sym all)
          (subst (λ n. ArraysRead c.args.bytes.now head c.args.ids.now c.args.zero.now (arrays ++ (id, words) ∷ []) (c.loop-before.before + 1) (c.loop-before.at + (8 + 4 * n))) (sym len)
          (arrays_more c.args.bytes.now head c.args.ids.now c.args.zero.now arrays c.loop-before.before c.loop-before.at h c.requires.ids c.requires.zero.words i.read c.loop-before-test.true new has c.loop-before.room i.counted words c.in_ok-words.ensures.words));
      counted = omega (arith, sum, more, counted, len2, size);
    }
