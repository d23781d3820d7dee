use Rattle.std.proofs.Common.{◌+◌, ◌*◌, arith, rules, sym, ◌∙◌}
use Rattle.std.proofs.lemmas.List.{length-set}
use Rattle.grid_draw.proofs.SetsGain.{cell_marked}
use Rattle.grid_draw.proofs.cells.CellSet.add_cell.Goals as goal

pub returns : goal.returns
returns c =
    let self = c.args.self.now in
    record {
      sized = record {
        high = search rules;
        wide = search rules;
        whole = search rules;
      };
      has_both = λ r k in_r in_k. cell_marked self.marked.items self.rows self.columns c.args.row c.args.col r k c.requires.sized.whole c.requires.row c.requires.col in_k;
    }
