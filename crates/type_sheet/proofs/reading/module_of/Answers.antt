use Rattle.std.specs.Prelude.{codes}
use Rattle.std.specs.Option.{option_copied}
use Rattle.std.proofs.Common.{◌≡◌, ◌∷◌, [], ◌∙◌, ap, rules, List, ℕ, slice_index_or}
use Rattle.type_sheet.specs.inner.Words.{entry_words, words_read}
use Rattle.type_sheet.proofs.Lined.{no_word, one_word, just_two, module_read}
use Rattle.type_sheet.proofs.reading.module_of.Goals as goal

pub returns : goal.returns
returns c =
    let ws = c.args.words.now in
    let last = c.entry_in-2.result.1.now in
    let mark : (slice_index_or last 0 no_word).now ≡ codes "e" = search rules in
    let kind = (slice_index_or last 1 no_word).now in
    let ends : words_read last ≡ codes "e" ∷ kind ∷ [] =
    just_two last c.in-len2.len_at_least c.in-len2.len_below ∙ ap (λ (word : List ℕ). word ∷ kind ∷ []) mark in
    module_read c.module_named.result (words_read ws) (slice_index_or ws 0 no_word).now (option_copied c.entry_in.result.0) (option_copied c.entry_in-2.result.0) kind
    (one_word ws c.in-len1-up.len_at_least
    ∙ ap (λ (rest : List (List ℕ)). (slice_index_or ws 0 no_word).now ∷ rest) (c.entry_in.ensures.words
    ∙ ap (entry_words (codes "n") (option_copied c.entry_in.result.0)) (c.entry_in-2.ensures.words
    ∙ ap (entry_words (codes "w") (option_copied c.entry_in-2.result.0)) ends)))
    c.module_named.ensures
