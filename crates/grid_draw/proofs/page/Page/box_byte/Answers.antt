use Rattle.std.proofs.Common.{◌∙◌}
use Rattle.grid_draw.proofs.PageBytes.{figure_is}
use Rattle.grid_draw.proofs.page.Page.box_byte.Goals as goal

pub returns : goal.returns
returns c =
    c.figure_byte.ensures
    ∙ figure_is c.args.self.now.layout.now c.requires.page.layout.layout c.args.b c.index-row.result.now c.index-text.result.now
    c.requires.there c.index-row.ensures c.index-text.ensures _ _ _ c.deref.ensures.value c.is_some-north.ensures c.is_some-west.ensures c.args.q c.args.col c.args.other
