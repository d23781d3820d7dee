use Rattle.std.proofs.Common.{◌≡◌, sym, ap, ◌∙◌, subst}
use Rattle.std.specs.Prelude.{Ok}
use Rattle.std.proofs.lemmas.List.{take_all}
use Rattle.std.proofs.lemmas.List.Elements.{recursion_from_All}
use Rattle.um_asm.specs.Listing.{listing}
use Rattle.um_asm.specs.Assembly.{assembled}
use Rattle.um_asm.proofs.Listed.{listing_assembled}
use Rattle.um_asm.proofs.listing.disassemble.Goals as goal

pub returns-clause-assembles : goal.returns-clause-assembles
returns-clause-assembles c short =
    let is : c.loop-word.text.items ≡ listing c.args.words.now =
    c.loop-word.invariant ∙ ap listing (take_all c.loop-word.word-index c.args.words.now c.loop-word-test.false) in
    subst (λ text. assembled text ≡ Ok c.args.words.now) (sym is)
    (listing_assembled c.args.words.now (recursion_from_All _ c.args.words.now c.words_fit.ensures) short)
