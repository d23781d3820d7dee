-- One word more.
use Rattle.std.specs.Prelude.{◌≡◌, ◌+◌, ◌-◌, ◌<◌, ℕ, suc, List, [], ◌∷◌, ◌++◌}
use Rattle.std.proofs.Common.{arith, sym, ap, ◌∙◌, append_assoc, append-nil}
use Rattle.rand_pcg.specs.Lcg.{Lcg}
use Rattle.rand_pcg.specs.Pcg.{pcg32}
use Rattle.codex_gen.specs.Generated.{next_words, after_words}

less : (n c : ℕ) → c < n → n - c ≡ suc (n - (c + 1))
less n c lt = omega arith

pub after_one : (g : Lcg) (n c : ℕ) → c < n → after_words (pcg32 g).1 (n - (c + 1)) ≡ after_words g (n - c)
after_one g n c lt = sym (ap (after_words g) (less n c lt))

pub words_one : (items : List ℕ) (g : Lcg) (n c : ℕ) → c < n → (items ++ (pcg32 g).0 ∷ []) ++ next_words (pcg32 g).1 (n - (c + 1)) ≡ items ++ next_words g (n - c)
words_one items g n c lt = append_assoc items ((pcg32 g).0 ∷ []) (next_words (pcg32 g).1 (n - (c + 1))) ∙ ap (λ w. items ++ w) (sym (ap (next_words g) (less n c lt)))

pub after_none : (g : Lcg) (n c : ℕ) → n ≡ c → after_words g (n - c) ≡ g
after_none g n c e = ap (after_words g) (by n c e)
  where
    by : (n c : ℕ) → n ≡ c → n - c ≡ 0
    by n c e = omega arith

pub words_none : (items : List ℕ) (g : Lcg) (n c : ℕ) → n ≡ c → items ≡ items ++ next_words g (n - c)
words_none items g n c e = sym (ap (λ k. items ++ next_words g k) (by n c e) ∙ append-nil items)
  where
    by : (n c : ℕ) → n ≡ c → n - c ≡ 0
    by n c e = omega arith
