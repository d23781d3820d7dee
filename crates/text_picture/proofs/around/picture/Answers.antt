use Rattle.std.proofs.Common.{◌≡◌, ◌∙◌, ap, refl}
use Rattle.text_picture.specs.Rows.{rows_read, text_rows}
use Rattle.text_picture.specs.inner.Shown.{shown_rows}
use Rattle.text_picture.proofs.Pushed.{picture_made}
use Rattle.text_picture.proofs.around.picture.Goals as goal

pub returns : goal.returns
returns c =
    let all = text_rows c.args.text.now in
    let kept : rows_read c.deref.result.now ≡ shown_rows all c.args.mark.row = ap rows_read c.deref.ensures.value ∙ c.in_ok-rows.ensures.shown in
    picture_made c.args.text.now c.args.mark c.first_column.result all c.new-page.result.items c.push_ruler.new.page.items
    c.push_rows.new.page.items c.new-page.ensures.items c.first_column.ensures.column refl
    c.in_ok-push_ruler.ensures (c.in_ok-push_rows.ensures all kept)
