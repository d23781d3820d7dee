-- One module more.
use Rattle.std.specs.Prelude.{◌≡◌, ◌+◌, ◌-◌, ◌%◌, ◌<◌, ℕ, zero, suc, Bool, true, false, List, [], ◌∷◌, ◌++◌, codes, map, nat_lt}
use Rattle.std.proofs.Common.{arith, refl, sym, ap, ◌∙◌, append_assoc, append-nil}
use Rattle.std.proofs.lemmas.Grind.{flat_map-append}
use Rattle.std.proofs.lemmas.Bool.{le-ltb, lt-ltb}
use Rattle.rand_pcg.specs.Lcg.{Lcg}
use Rattle.rand_pcg.specs.Pcg.{pcg32}
use Rattle.codex_gen.specs.Generated.{form_texts, module_name, modules_from, strip, use_next, next_words}
use Rattle.grid_picture.specs.Lined.{lined}
use Rattle.codex_gen.specs.inner.Rows.{next_text}
use Rattle.codex_gen.proofs.FormTexts.{HasColumns, columns_alone, columns_with}
use Rattle.codex_gen.proofs.ModuleNames.{name_long}

-- the forms of the next words
abbrev pub next_forms : Lcg → ℕ → List ℕ
next_forms g n = map (λ word. word % 5) (next_words g n)

-- the next module is used where more words come
next_is : (i n : ℕ) (g : Lcg) (m : ℕ) → n - (i + 1) ≡ m
    → use_next i (next_forms g m) ≡ next_text i (nat_lt (i + 1) n)
next_is i n g zero e = ap (next_text i) (sym (le-ltb (i + 1) n (omega arith)))
next_is i n g (suc m) e = ap (next_text i) (sym (lt-ltb (i + 1) n (omega arith)))

-- the columns of module i
pub columns_at : (i f : ℕ) (goes_on : Bool) → i < 99 → HasColumns (form_texts f ++ next_text i goes_on)
columns_at i f true lt = columns_with f (codes "use " ++ module_name (suc i)) (let e = name_long (suc i) (omega arith) in omega arith)
columns_at i f false lt = columns_alone f

module_then : (i f : ℕ) (forms : List ℕ)
    → lined (modules_from i (f ∷ forms))
    ≡ lined (strip (module_name i) true (form_texts f ++ use_next i forms)) ++ lined (modules_from (suc i) forms)
module_then i f forms = flat_map-append (λ row. row ++ 10 ∷ []) (strip (module_name i) true (form_texts f ++ use_next i forms)) (modules_from (suc i) forms)

less : (n i : ℕ) → i < n → n - i ≡ suc (n - (i + 1))
less n i lt = omega arith

next : (i : ℕ) → suc i ≡ i + 1
next i = omega arith

pub one_module : (g h : Lcg) (w n i : ℕ) (text now grid : List ℕ) → i < n → (w, h) ≡ pcg32 g
    → now ≡ text ++ lined (strip (module_name i) true (form_texts (w % 5) ++ next_text i (nat_lt (i + 1) n)))
    → text ++ lined (modules_from i (next_forms g (n - i))) ≡ grid
    → now ++ lined (modules_from (i + 1) (next_forms h (n - (i + 1)))) ≡ grid
one_module g h w n i text now grid lt took wrote whole =
    let rest = next_forms h (n - (i + 1)) in
    let texts = form_texts (w % 5) ++ next_text i (nat_lt (i + 1) n) in
    ap (λ u. u ++ lined (modules_from (i + 1) rest)) wrote
    ∙ (append_assoc text (lined (strip (module_name i) true texts)) (lined (modules_from (i + 1) rest))
    ∙ (ap (λ k. text ++ (lined (strip (module_name i) true texts) ++ lined (modules_from k rest))) (sym (next i))
    ∙ (ap (λ u. text ++ (lined (strip (module_name i) true (form_texts (w % 5) ++ u)) ++ lined (modules_from (suc i) rest))) (sym (next_is i n h (n - (i + 1)) refl))
    ∙ (ap (λ u. text ++ u) (sym (module_then i (w % 5) rest))
    ∙ (ap (λ p. text ++ lined (modules_from i (p.0 % 5 ∷ next_forms p.1 (n - (i + 1))))) took
    ∙ (ap (λ k. text ++ lined (modules_from i (next_forms g k))) (sym (less n i lt))
    ∙ whole))))))

pub no_module : (g : Lcg) (n i : ℕ) (text grid : List ℕ) → n ≡ i
    → text ++ lined (modules_from i (next_forms g (n - i))) ≡ grid → text ≡ grid
no_module g n i text grid e whole = sym (append-nil text) ∙ (ap (λ k. text ++ lined (modules_from i (next_forms g k))) (sym (by n i e)) ∙ whole)
  where
    by : (n i : ℕ) → n ≡ i → n - i ≡ 0
    by n i e = omega arith
