use Rattle.std.proofs.Common.{◌≡◌, ◌+◌, ◌-◌, [], ◌∷◌, ◌++◌, Some, length, true, not, sym, ap, ◌∙◌, arith}
use Rattle.std.specs.Prelude.{is_ok}
use Rattle.std.specs.FinMap as map
use Rattle.std.proofs.lemmas.Bool.{cond-true}
use Rattle.std.proofs.lemmas.List.{nil_from_length}
use Rattle.um_word.specs.Rule.{next_identifier}
use Rattle.array_store.specs.inner.Slots.{slot_arrays, identifiers_of}
use Rattle.array_store.proofs.SlotLemmas.{arrays-push_some}
use Rattle.array_store.proofs.store.put_next.Goals as goal

pub returns-clause-arrays : goal.returns-clause-arrays
returns-clause-arrays c =
    let slots = c.args.slots.now.items in
    let free = c.args.free.now.items in
    let ok : is_ok c.push.result ≡ true = c.is_err-else-is_err.ensures.negation ∙ ap not c.if-is_err-2.false in
    let pushed : c.push.new.self.items ≡ slots ++ Some c.args.words ∷ [] =
    c.push.ensures.items ∙ cond-true (is_ok c.push.result) (slots ++ Some c.args.words ∷ []) slots ok in
    let none : length free ≡ 0 = let z = c.in_default.ensures.cases.0 in let l = c.args.free.now.ok.0 in omega (arith, z, l) in
    let some : length slots - 1 + 1 ≡ length slots =
    let s = c.requires.some in let l = c.args.slots.now.ok.0 in omega (arith, s, l) in
    let next : next_identifier (identifiers_of slots free) ≡ length slots =
    ap (λ ids. next_identifier (identifiers_of slots ids)) (nil_from_length free none) ∙ some in
    ap slot_arrays pushed ∙ arrays-push_some slots c.args.words
    ∙ ap (λ id. map.insert (slot_arrays slots) id c.args.words.items) (sym next)
