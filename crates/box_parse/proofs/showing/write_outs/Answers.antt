use Rattle.std.proofs.Common.{◌≡◌, ℕ, ◌≤◌, List, length, drop, take, arith, length-drop}
use Rattle.std.proofs.lemmas.Grind.{common_steps}
use Rattle.box_parse.proofs.Outs.{outs_join, on_ok_map}
use Rattle.box_parse.proofs.showing.write_outs.Goals as goal

take_whole : {X : Type 0} (n : ℕ) (xs : List X) → length xs ≤ n → take n xs ≡ xs
take_whole n xs le = grind (arith, common_steps)

pub returns : goal.returns
returns c = on_ok_map c.write_more.result
    (outs_join c.args.text.now.items c.write_out.new.text.items c.write_more.new.text.items c.args.outs.now _ c.first-item.result c.in-len1-up.len_at_least c.first-item.is
    (take_whole _ (drop 1 c.args.outs.now) (omega (arith, length-drop 1 c.args.outs.now))) c.in_ok-write_out.ensures)
    c.write_more.ensures
