use Rattle.std.specs.Prelude.{codes}
use Rattle.std.proofs.Common.{◌≡◌, ◌∷◌, [], ◌∙◌, sym, subst, ap, rules, List, ℕ, slice_index_or}
use Rattle.two_d.specs.Names.{IsName}
use Rattle.type_sheet.proofs.Lined.{no_word, just_three}
use Rattle.type_sheet.proofs.reading.kind_of.Goals as goal

pub returns : goal.returns
returns c =
    let ws = c.args.words.now in
    let text = (slice_index_or ws 2 no_word).now in
    let mark : (slice_index_or ws 1 no_word).now ≡ codes "=" = search rules in
    let name = rw c.in-Some.is at c.in_ok-name.ensures.name in
    let form = rw c.in-Some-2.is at c.in_ok-form.ensures in
    record {
      right = (subst IsName (sym name.0) name.1, form.0);
      written = ap (λ (xs : List (List ℕ)). codes "type" ∷ xs) (just_three ws c.in-len3.len_at_least c.in-len3.len_below
          ∙ ap (λ (x : List ℕ). x ∷ (slice_index_or ws 1 no_word).now ∷ text ∷ []) (sym name.0)
          ∙ ap (λ (x : List ℕ). c.in-Some.name ∷ x ∷ text ∷ []) mark
          ∙ ap (λ (x : List ℕ). c.in-Some.name ∷ codes "=" ∷ x ∷ []) (sym form.1));
    }
