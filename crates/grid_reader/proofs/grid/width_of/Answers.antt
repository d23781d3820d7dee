use Rattle.std.proofs.Common.{rules, ◌≡◌, ◌-◌, ◌<◌, ◌≤◌, List, length, sym, ap, ◌∙◌, arith, [], ◌∷◌, get_or, suc, zero, ℕ}
use Rattle.std.proofs.lemmas.List.{get_or-map, length-map}
use Rattle.grid_reader.specs.Rows.{rows}
use Rattle.grid_reader.proofs.grid.width_of.Goals as goal

-- behind a first element
get_or-behind : (xs : List (List ℕ)) (x : List ℕ) (i : ℕ) → 0 < i → get_or (x ∷ xs) i [] ≡ get_or xs (i - 1) []
get_or-behind xs x zero h = absurd (omega arith)
get_or-behind xs x (suc i) h = ap (λ k. get_or xs k []) (omega arith)

pub overflow_cast-result : goal.overflow_cast-result
overflow_cast-result c =
    let h = c.in-Some.ensures.lookup in
    let is = get_or-map (λ v. v.items) c.args.lines.now (c.args.row - 1) c.in-Some.line.now c.in-Some.line.now.items h.3.0 ∙ ap (λ v. v.items) (sym h.1) in
    let short : length (get_or (rows c.args.lines.now) (c.args.row - 1) c.in-Some.line.now.items) ≤ 4096 = c.requires.narrow (c.args.row - 1) c.in-Some.line.now.items (omega (arith, length-map c.args.lines.now (λ v. v.items), h.3.0)) in
    let same : length (get_or (rows c.args.lines.now) (c.args.row - 1) c.in-Some.line.now.items) ≡ length c.in-Some.line.now.items = ap length is in
    search rules

pub returns-in-Some-clause-columns : goal.returns-in-Some-clause-columns
returns-in-Some-clause-columns c =
    let h = c.in-Some.ensures.lookup in
    let is = get_or-map (λ v. v.items) c.args.lines.now (c.args.row - 1) c.in-Some.line.now [] h.3.0 ∙ ap (λ v. v.items) (sym h.1) in
    let behind = get_or-behind (rows c.args.lines.now) [] c.args.row (omega arith) in
    omega (arith, ap length (behind ∙ is))

pub returns-in-Some-clause-narrow : goal.returns-in-Some-clause-narrow
returns-in-Some-clause-narrow c =
    let h = c.in-Some.ensures.lookup in
    let is = get_or-map (λ v. v.items) c.args.lines.now (c.args.row - 1) c.in-Some.line.now c.in-Some.line.now.items h.3.0 ∙ ap (λ v. v.items) (sym h.1) in
    let short : length (get_or (rows c.args.lines.now) (c.args.row - 1) c.in-Some.line.now.items) ≤ 4096 = c.requires.narrow (c.args.row - 1) c.in-Some.line.now.items (omega (arith, length-map c.args.lines.now (λ v. v.items), h.3.0)) in
    omega (arith, ap length is)
