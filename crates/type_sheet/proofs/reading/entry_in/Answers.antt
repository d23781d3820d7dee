use Rattle.std.proofs.Common.{◌≡◌, ◌∷◌, ◌∙◌, ap, rules, List, ℕ, take, drop, length, ◌-◌, slice_index_or}
use Rattle.type_sheet.specs.inner.Words.{words_read}
use Rattle.type_sheet.proofs.Lined.{no_word, two_words}
use Rattle.type_sheet.proofs.reading.entry_in.Goals as goal

pub returns-clause-words : goal.returns-clause-words
returns-clause-words c =
    let ws = c.args.words.now in
    let same : (slice_index_or ws 0 no_word).now ≡ c.args.entry.now = search rules in
    two_words ws c.in-len2-up.len_at_least
    ∙ ap (λ (word : List ℕ). word ∷ (slice_index_or ws 1 no_word).now ∷ words_read (take (length ws - 2) (drop 2 ws))) same
