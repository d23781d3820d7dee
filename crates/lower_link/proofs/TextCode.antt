-- The code of texts, and where each begins.
use Rattle.std.specs.Prelude.{◌≡◌, ℕ, ◌+◌, ◌++◌, List, [], ◌∷◌, length, Result, OnOk}
use Rattle.std.proofs.Common.{refl, sym, ◌∙◌, ap, subst, arith, length-append}
use Rattle.std.proofs.lemmas.List.{append_assoc, append-nil}
use Rattle.std.proofs.lemmas.Result.{on_ok_weaker}
use Rattle.lower_link.specs.declared.texts.Texts.{Texts}
use Rattle.lower_link.specs.inner.Drafts.{AddsTexts, text_code, text_codes, starts}
use Rattle.lower_link.proofs.Adding.{adds_none, adds_then, adds_as, adds_length}

pub codes_append : (xs ys : List (List ℕ)) → text_codes (xs ++ ys) ≡ text_codes xs ++ text_codes ys
codes_append [] ys = refl
codes_append (x ∷ xs) ys = ap (λ ops. text_code x ++ ops) (codes_append xs ys) ∙ sym (append_assoc (text_code x) (text_codes xs) (text_codes ys))

pub starts_append : (place : ℕ) (xs ys : List (List ℕ)) → starts place (xs ++ ys) ≡ starts place xs ++ starts (place + length (text_codes xs)) ys
starts_append place [] ys = ap (λ p. starts p ys) (omega arith)
starts_append place (x ∷ xs) ys =
    let next = place + length (text_code x) in
    let far : next + length (text_codes xs) ≡ place + length (text_codes (x ∷ xs)) = omega (arith, length-append (text_code x) (text_codes xs)) in
    ap (λ ps. place ∷ ps) (starts_append next xs ys ∙ ap (λ p. starts next xs ++ starts p ys) far)

pub texts_none : (old : Texts) → AddsTexts old old []
texts_none old = record { code = adds_none old.code; places = sym (append-nil old.places.items) }

pub texts_then : {a b c : Texts} {xs ys : List (List ℕ)} → AddsTexts a b xs → AddsTexts b c ys → AddsTexts a c (xs ++ ys)
texts_then {a} {b} {c} {xs} {ys} h k = record {
  code = adds_as (text_codes (xs ++ ys)) (sym (codes_append xs ys)) (adds_then h.code k.code);
  places =
      let at = length a.code.words.items in
      let far : length b.code.words.items ≡ at + length (text_codes xs) = adds_length h.code in
      k.places ∙ (ap (λ ps. ps ++ starts (length b.code.words.items) ys) h.places
      ∙ (append_assoc a.places.items (starts at xs) (starts (length b.code.words.items) ys)
      ∙ ap (λ ps. a.places.items ++ ps) (ap (λ p. starts at xs ++ starts p ys) far ∙ sym (starts_append at xs ys))));
}

pub texts_last : {T E : Type 0} (r : Result T E) {a b : Texts} {xs : List (List ℕ)} (c : Texts) (ys : List (List ℕ)) → AddsTexts a b xs → OnOk r (AddsTexts b c ys) → OnOk r (AddsTexts a c (xs ++ ys))
texts_last r {a} {b} {xs} c ys h k = on_ok_weaker r (λ (k : AddsTexts b c ys). texts_then h k) k

pub texts_as : {a b : Texts} {xs : List (List ℕ)} (ys : List (List ℕ)) → xs ≡ ys → AddsTexts a b xs → AddsTexts a b ys
texts_as {a} {b} ys e h = subst (AddsTexts a b) e h
