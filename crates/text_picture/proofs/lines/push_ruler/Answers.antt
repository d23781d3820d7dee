use Rattle.std.proofs.Common.{[], ◌∷◌, map}
use Rattle.std.specs.List.{range_with_len}
use Rattle.text_picture.specs.Pictures.{margin, ruler_sign}
use Rattle.text_picture.proofs.Pushed.{three_pieces}
use Rattle.text_picture.proofs.lines.push_ruler.Goals as goal

pub returns : goal.returns
returns c =
    three_pieces c.args.page.now.items (margin []) (map ruler_sign (range_with_len c.args.first 80)) (10 ∷ []) c.push_margin.new.page.items
    c.push_signs.new.page.items c.push.new.self.items c.in_ok-push_margin.ensures c.in_ok-push_signs.ensures c.in_ok-push.ensures.items
