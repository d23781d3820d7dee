use Rattle.std.proofs.Common.{◌≡◌, ◌≤◌, length, sym, subst, ◌∙◌, inl, inr, arith}
use Rattle.std.specs.Prelude.{Err, Ok}
use Rattle.std.proofs.lemmas.Result.{err_from_is_err_and}
use Rattle.um_asm.specs.Assembly.{assembled}
use Rattle.codex_top.specs.declared.reading.TheConstants.{MOST_TEXT_BYTES}
use Rattle.codex_top.specs.Reading.{holds, refused, no_memory, faulty, too_long, IsText, IsNoText}
use Rattle.codex_top.proofs.FileLemmas.{seen_of, none_read}
use Rattle.codex_top.proofs.reading.read_text.Goals as goal

pub returns-in_err-text-clause-read : goal.returns-in_err-text-clause-read
returns-in_err-text-clause-read g c =
    let p = err_from_is_err_and c.from_residual.result c.from_residual.ensures.1 in
    rw (p.1, p.2) (none_read IsText IsNoText c.args.file.now MOST_TEXT_BYTES _ _ c.in_err-text.field-0.0 c.in_err-text.ensures.read)

pub returns-then-len-gt-MOST_TEXT_BYTES-clause-read : goal.returns-then-len-gt-MOST_TEXT_BYTES-clause-read
returns-then-len-gt-MOST_TEXT_BYTES-clause-read g c =
    let s = seen_of c.args.file.now MOST_TEXT_BYTES _ _ (Ok c.in_ok-text.text) c.in_ok-text.ensures.read in
    rw c.text_too_long.ensures (refused s.held _ s.has (too_long (s.over (omega (arith, c.if-len-gt-MOST_TEXT_BYTES.true, c.len.ensures)))))

pub returns-in_err-assemble-clause-read : goal.returns-in_err-assemble-clause-read
returns-in_err-assemble-clause-read g c =
    let p = err_from_is_err_and c.from_residual-in_err-assemble.result c.from_residual-in_err-assemble.ensures.1 in
    let s = seen_of c.args.file.now MOST_TEXT_BYTES _ _ (Ok c.in_ok-text.text) c.in_ok-text.ensures.read in
    let fits : length c.in_ok-text.text.items ≤ MOST_TEXT_BYTES = omega (arith, c.if-len-gt-MOST_TEXT_BYTES.false, c.len.ensures) in
    let is : c.deref.result.now ≡ s.held = c.deref.ensures.value ∙ sym (s.whole fits) in
    rw (p.1, p.2) (elim c.in_err-assemble.ensures.fault [
      | inl e ↦ rw e no_memory
      | inr e ↦ refused s.held _ s.has (faulty c.in_err-assemble.field-0.0
          (subst (λ text. length text ≤ MOST_TEXT_BYTES) (sym (s.whole fits)) fits)
          (subst (λ text. assembled text ≡ Err c.in_err-assemble.field-0.0) is e))
    ])

pub returns-clause-read : goal.returns-clause-read
returns-clause-read g c =
    let s = seen_of c.args.file.now MOST_TEXT_BYTES _ _ (Ok c.in_ok-text.text) c.in_ok-text.ensures.read in
    let fits : length c.in_ok-text.text.items ≤ MOST_TEXT_BYTES = omega (arith, c.if-len-gt-MOST_TEXT_BYTES.false, c.len.ensures) in
    let is : c.deref.result.now ≡ s.held = c.deref.ensures.value ∙ sym (s.whole fits) in
    holds s.held c.in_ok-assemble.field-0 s.has (record {
      few = subst (λ text. length text ≤ MOST_TEXT_BYTES) (sym (s.whole fits)) fits;
      assembles = subst (λ text. assembled text ≡ Ok c.in_ok-assemble.field-0.items) is c.in_ok-assemble.ensures.words;
    })
