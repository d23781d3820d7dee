-- What words say when more are added.
use Rattle.std.specs.Prelude.{◌≡◌, ℕ, ◌+◌, ◌<◌, ◌++◌, List, [], ◌∷◌, length, map, take, All, Some, Result, OnOk, slice_index_or}
use Rattle.std.proofs.Common.{refl, sym, ◌∙◌, ap, subst, arith, length-append}
use Rattle.std.proofs.lemmas.List.{map-append, append_assoc, append-nil, length-map, take_more}
use Rattle.std.proofs.lemmas.Result.{on_ok_weaker}
use Rattle.um_word.specs.declared.op.Op.{Op}
use Rattle.um_word.specs.Operators.{decode_word}
use Rattle.code_templates.specs.declared.template.Row.{Row}
use Rattle.code_templates.specs.Rows.{filled, HoleFits, Say}
use Rattle.code_templates.specs.Templates.{write_byte}
use Rattle.code_templates.proofs.Words.{filled_say}
use Rattle.lower_link.specs.declared.draft.Draft.{Draft}
use Rattle.lower_link.specs.inner.Printer.{writes}
use Rattle.lower_link.specs.inner.Drafts.{DraftAdds}

pub adds_filled : (old new : Draft) (words values : List ℕ) (rows : List Row) → new.words.items ≡ old.words.items ++ words → words ≡ map (filled values) rows → All (HoleFits values) rows →
    (ops : List Op) → Say rows values ops → DraftAdds old new ops
adds_filled old new words values rows is are fits ops say = record {
  say = ap (map decode_word) is ∙ (map-append decode_word old.words.items words
      ∙ ap (λ ws. map decode_word old.words.items ++ ws) (ap (map decode_word) are ∙ filled_say values rows ops fits say));
}

pub adds_said : {T E : Type 0} (r : Result T E) (old new : Draft) (rows : List Row) (values : List ℕ) (ops : List Op) →
    OnOk r ((ops : List Op) → Say rows values ops → DraftAdds old new ops) → Say rows values ops → OnOk r (DraftAdds old new ops)
adds_said r old new rows values ops h say = on_ok_weaker r (λ (k : (ops : List Op) → Say rows values ops → DraftAdds old new ops). k ops say) h

pub adds_none : (old : Draft) → DraftAdds old old []
adds_none old = record { say = sym (append-nil (map decode_word old.words.items)) }

pub adds_then : {a b c : Draft} {xs ys : List Op} → DraftAdds a b xs → DraftAdds b c ys → DraftAdds a c (xs ++ ys)
adds_then {a} {b} {c} {xs} {ys} h k = record {
  say = k.say ∙ (ap (λ ws. ws ++ map Some ys) h.say ∙ (append_assoc (map decode_word a.words.items) (map Some xs) (map Some ys)
      ∙ ap (λ ws. map decode_word a.words.items ++ ws) (sym (map-append Some xs ys))));
}

-- the same at the end of a function
pub adds_last : {T E : Type 0} (r : Result T E) {a b : Draft} {xs : List Op} (c : Draft) (ys : List Op) → DraftAdds a b xs → OnOk r (DraftAdds b c ys) → OnOk r (DraftAdds a c (xs ++ ys))
adds_last r {a} {b} {xs} c ys h k = on_ok_weaker r (λ (k : DraftAdds b c ys). adds_then h k) k

-- the same operators, said otherwise
pub adds_as : {a b : Draft} {xs : List Op} (ys : List Op) → xs ≡ ys → DraftAdds a b xs → DraftAdds a b ys
adds_as {a} {b} ys e h = subst (DraftAdds a b) e h

-- so many words more
pub adds_length : {a b : Draft} {xs : List Op} → DraftAdds a b xs → length b.words.items ≡ length a.words.items + length xs
adds_length {a} {b} {xs} h =
    omega (arith, ap length h.say, length-map b.words.items decode_word, length-map a.words.items decode_word, length-append (map decode_word a.words.items) (map Some xs), length-map xs Some)

writes_append : (xs ys : List ℕ) → writes (xs ++ ys) ≡ writes xs ++ writes ys
writes_append [] ys = refl
writes_append (x ∷ xs) ys = ap (λ ops. write_byte x ++ ops) (writes_append xs ys)

-- one byte more
pub writes_more : (xs : List ℕ) (i x : ℕ) → i < length xs → x ≡ slice_index_or xs i 0 → writes (take (i + 1) xs) ≡ writes (take i xs) ++ write_byte x
writes_more xs i x lt is =
    ap writes (take_more xs i 0 lt) ∙ (writes_append (take i xs) (slice_index_or xs i 0 ∷ []) ∙ ap (λ y. writes (take i xs) ++ write_byte y) (sym is))
