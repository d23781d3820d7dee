use Rattle.std.proofs.Common.{◌≡◌, ◌≤◌, length, sym, subst, ◌∙◌}
use Rattle.std.specs.Prelude.{Ok}
use Rattle.std.proofs.lemmas.Result.{err_from_is_err_and}
use Rattle.um_word.specs.declared.scroll.TheConstants.{MOST_SCROLL_BYTES}
use Rattle.um_word.specs.Scroll.{scroll}
use Rattle.codex_top.specs.Reading.{holds, IsScroll, IsNoScroll}
use Rattle.codex_top.proofs.FileLemmas.{seen_of, none_read, refused_as}
use Rattle.codex_top.proofs.reading.read_scroll.Goals as goal

pub returns-in_err-bytes-clause-read : goal.returns-in_err-bytes-clause-read
returns-in_err-bytes-clause-read g c =
    let p = err_from_is_err_and c.from_residual.result c.from_residual.ensures.1 in
    rw (p.1, p.2) (none_read IsScroll IsNoScroll c.args.file.now MOST_SCROLL_BYTES _ _ c.in_err-bytes.field-0.0 c.in_err-bytes.ensures.read)

pub returns-in_err-words_of-clause-read : goal.returns-in_err-words_of-clause-read
returns-in_err-words_of-clause-read g c =
    let p = err_from_is_err_and c.from_residual-in_err-words_of.result c.from_residual-in_err-words_of.ensures.1 in
    let s = seen_of c.args.file.now MOST_SCROLL_BYTES _ _ (Ok c.in_ok-bytes.bytes) c.in_ok-bytes.ensures.read in
    rw (p.1, p.2) (refused_as c.args.file.now _ _ c.in_ok-bytes.bytes.items c.in_err-words_of.field-0.0 s (rw c.deref.ensures.value at c.in_err-words_of.ensures.fault))

pub returns-clause-read : goal.returns-clause-read
returns-clause-read g c =
    let s = seen_of c.args.file.now MOST_SCROLL_BYTES _ _ (Ok c.in_ok-bytes.bytes) c.in_ok-bytes.ensures.read in
    let fits : length c.in_ok-bytes.bytes.items ≤ MOST_SCROLL_BYTES = rw (← c.deref.ensures.value) c.in_ok-words_of.ensures.fits in
    let same : scroll c.in_ok-words_of.field-0.items ≡ c.in_ok-bytes.bytes.items = c.in_ok-words_of.ensures.words ∙ c.deref.ensures.value in
    holds s.held c.in_ok-words_of.field-0 s.has (record {
      of_words = s.whole fits ∙ sym same;
      small = c.in_ok-words_of.ensures.platters;
      few = subst (λ bytes. length bytes ≤ MOST_SCROLL_BYTES) (sym (s.whole fits)) fits;
    })
