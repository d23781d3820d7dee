use Rattle.asm_view.proofs.Paged.{fault_paged, words_paged}
use Rattle.asm_view.proofs.page.asm_page.Goals as goal

pub returns-in-Ok : goal.returns-in-Ok
returns-in-Ok c =
    words_paged c.args.text.now c.in-Ok.words.items c.deref.result.now c.in_ok-bytes-in-Ok.bytes.items c.in_ok-lines.lines.items c.deref-in-Ok.result.now
    c.in-Ok.ensures.words c.in_ok-lines.ensures c.deref.ensures.value c.deref-in-Ok.ensures.value c.in_ok-bytes-in-Ok.ensures

pub returns : goal.returns
returns c =
    fault_paged c.args.text.now c.in_ok-bytes-in-Err.bytes.items c.in-Err.fault c.in_ok-lines.lines.items c.deref-in-Err.result.now
    c.in-Err.ensures.fault c.in_ok-bytes-in-Err.ensures.known c.in_ok-lines.ensures c.deref-in-Err.ensures.value c.in_ok-bytes-in-Err.ensures.page
