use Rattle.std.specs.Prelude.{codes}
use Rattle.std.proofs.Common.{◌≡◌, ◌∷◌, ◌∙◌, ap, rules, List, ℕ, take, drop, length, ◌-◌, slice_index_or}
use Rattle.type_sheet.specs.inner.Words.{words_read}
use Rattle.type_sheet.proofs.Lined.{no_word, one_word, kind_read, module_line_read, wire_read, of_read}
use Rattle.type_sheet.proofs.reading.line_of.Goals as goal

pub returns-then-eq : goal.returns-then-eq
returns-then-eq c =
    let ws = c.args.words.now in
    let rest = words_read (take (length ws - 1) (drop 1 ws)) in
    let key : (slice_index_or ws 0 no_word).now ≡ codes "type" = search rules in
    kind_read c.kind_of.result (words_read ws) rest (one_word ws c.in-len1-up.len_at_least ∙ ap (λ (word : List ℕ). word ∷ rest) key) c.kind_of.ensures

pub returns-then-eq-2 : goal.returns-then-eq-2
returns-then-eq-2 c =
    let ws = c.args.words.now in
    let rest = words_read (take (length ws - 1) (drop 1 ws)) in
    let key : (slice_index_or ws 0 no_word).now ≡ codes "module" = search rules in
    module_line_read c.module_of.result (words_read ws) rest (one_word ws c.in-len1-up.len_at_least ∙ ap (λ (word : List ℕ). word ∷ rest) key) c.module_of.ensures

pub returns-then-eq-3 : goal.returns-then-eq-3
returns-then-eq-3 c =
    let ws = c.args.words.now in
    let rest = words_read (take (length ws - 1) (drop 1 ws)) in
    let key : (slice_index_or ws 0 no_word).now ≡ codes "wire" = search rules in
    wire_read c.wire_of.result (words_read ws) rest (one_word ws c.in-len1-up.len_at_least ∙ ap (λ (word : List ℕ). word ∷ rest) key) c.wire_of.ensures

pub returns-then-eq-4 : goal.returns-then-eq-4
returns-then-eq-4 c =
    let ws = c.args.words.now in
    let rest = words_read (take (length ws - 1) (drop 1 ws)) in
    let key : (slice_index_or ws 0 no_word).now ≡ codes "of" = search rules in
    of_read c.expression_of.result (words_read ws) rest (one_word ws c.in-len1-up.len_at_least ∙ ap (λ (word : List ℕ). word ∷ rest) key) c.expression_of.ensures
