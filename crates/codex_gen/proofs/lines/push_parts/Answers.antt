use Rattle.std.proofs.Common.{◌≡◌, ℕ, ◌≤◌, List, length, drop, take, arith, length-drop}
use Rattle.std.proofs.lemmas.Grind.{common_steps}
use Rattle.codex_gen.proofs.Joined.{on_ok_map, parts_join}
use Rattle.codex_gen.proofs.lines.push_parts.Goals as goal

take_whole : {X : Type 0} (n : ℕ) (xs : List X) → length xs ≤ n → take n xs ≡ xs
take_whole n xs le = grind (arith, common_steps)

pub returns : goal.returns
returns c =
    on_ok_map c.push_more.result
    (parts_join c.args.row c.args.text.now.items c.push_part.new.text.items c.push_more.new.text.items
    c.deref.result.now c.args.texts.now _ c.first-item.result c.in-len1-up.len_at_least c.first-item.is
    c.deref.ensures.value
    (take_whole _ (drop 1 c.args.texts.now) (omega (arith, length-drop 1 c.args.texts.now)))
    c.in_ok-push_part.ensures)
    c.push_more.ensures
