use Rattle.std.proofs.Common.{◌-◌, [], ◌∷◌, ◌++◌, length, replicate, ap, ◌∙◌}
use Rattle.codex_gen.specs.Generated.{border, edges, middles, name_line}
use Rattle.codex_gen.specs.inner.Rows.{texts_of}
use Rattle.codex_gen.proofs.Joined.{line_before, no_line, on_ok_map}
use Rattle.codex_gen.proofs.lines.push_strip.Goals as goal

pub returns : goal.returns
returns c =
    let texts = texts_of c.args.texts.now in
    let name = c.args.name.now in
    let bottom = border (39 ∷ []) texts ∷ [] in
    let lower = edges texts ∷ bottom in
    let inner = middles c.args.west texts ∷ lower in
    let upper = edges texts ∷ inner in
    on_ok_map c.push_border-2.result
    (λ last.
    line_before c.args.text.now.items c.push_border.new.text.items _ (border (44 ∷ []) texts) (name_line name texts ∷ upper)
    (c.in_ok-push_border.ensures ∙ ap (λ n. c.args.text.now.items ++ (((44 ∷ replicate n 46) ++ 44 ∷ []) ++ 10 ∷ [])) c.columns-columns.ensures)
    (line_before _ c.push_name.new.text.items _ (name_line name texts) upper
    (c.in_ok-push_name.ensures ∙ ap (λ n. c.push_border.new.text.items ++ ((((58 ∷ name) ++ replicate (n - length name) 32) ++ 58 ∷ []) ++ 10 ∷ [])) c.columns-columns.ensures)
    (line_before _ c.push_edges.new.text.items _ (edges texts) inner c.in_ok-push_edges.ensures
    (line_before _ c.push_middles.new.text.items _ (middles c.args.west texts) lower c.in_ok-push_middles.ensures
    (line_before _ c.push_edges-2.new.text.items _ (edges texts) bottom c.in_ok-push_edges-2.ensures
    (line_before _ c.push_border-2.new.text.items _ (border (39 ∷ []) texts) []
    (last ∙ ap (λ n. c.push_edges-2.new.text.items ++ (((39 ∷ replicate n 46) ++ 39 ∷ []) ++ 10 ∷ [])) c.columns-columns.ensures)
    (no_line c.push_border-2.new.text.items)))))))
    c.push_border-2.ensures
