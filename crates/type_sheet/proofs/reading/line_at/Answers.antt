use Rattle.std.proofs.Common.{◌∙◌, ap}
use Rattle.type_sheet.specs.inner.Words.{words_read}
use Rattle.type_sheet.proofs.Lined.{text_read}
use Rattle.type_sheet.proofs.reading.line_at.Goals as goal

pub returns : goal.returns
returns c = text_read c.line_of.result (words_read c.deref.result.now) c.args.text.now (ap words_read c.deref.ensures.value ∙ c.in_ok-words.ensures) c.line_of.ensures
