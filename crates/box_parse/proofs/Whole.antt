-- A whole text: what the mirror answers is what the grammar says.
use Rattle.codex_values.specs.Tokens.{EndsWord}
use Rattle.std.proofs.Common.{◌≡◌, ℕ, zero, suc, ◌+◌, ◌-◌, ◌<◌, ◌≤◌, inl, inr, Bool, true, false, cond, ◌==◌, List, [], ◌∷◌, ◌++◌, length, take, drop, replicate, refl, sym, ap, subst, ◌∙◌, arith, Result, Ok, Err, length-append, length-drop}
use Rattle.std.proofs.lemmas.Bool.Decides.{nat_tests}
use Rattle.std.proofs.lemmas.Bool.{cases_eq}
use Rattle.box_parse.proofs.Answers.{IsAnswer, IsDeadEnd, opens_some}
use Rattle.box_parse.proofs.Choosing.{skip_end, skip_space, skip_other}
use Rattle.box_parse.proofs.Exact.{Reads, reads_after, reads_head, reads_mapped, reads_list, reads_case, reads_exp}
use Rattle.box_parse.proofs.Naming.{reads_name, agree_take}
use Rattle.box_parse.specs.inner.ReaderOnLists.{Refusal, bad, deep, ◌>>=◌, skip, rest_from, command_at, whole_at}
use Rattle.two_d.proofs.Agree.{agree, IsOpenAt}
use Rattle.two_d.proofs.Fits.{command_fits, command_is}
use Rattle.two_d.proofs.Heads.{Head, send, case, split, called}
use Rattle.two_d.proofs.Parts.{rest_part, command_part, regular_command}
use Rattle.two_d.proofs.Tokens.{agree_some, agree_none, not_word_space}
use Rattle.two_d.specs.Grammar.{IsCommand, IsTextOf, IsOpen, IsLooselyOpen, IsLongestOpen, OpensLevel, IsTooDeep, IsBad}
use Rattle.two_d.specs.Trees as trees
use Rattle.two_d.specs.Trees.{Form}

reads_rest : (d D : ℕ) → d < D → (h : Head) → Reads (rest_part d h) (rest_part D h) (rest_from d h)
reads_rest d D less send = reads_mapped trees.send (reads_list d D less)
reads_rest d D less case = reads_case d D less
reads_rest d D less split = reads_mapped trees.split (reads_exp d D less)
reads_rest d D less h = reads_mapped trees.call reads_name

reads_command : (d D : ℕ) → d < D → Reads (command_part d) (command_part D) (command_at d)
unfolding command_at
reads_command d D less = reads_after (reads_head send (case ∷ split ∷ called ∷ [])) (reads_rest d D less)

-- Spaces at the end.
spaces_only : (b : List ℕ) → length (skip b) ≡ 0 → (i : ℕ) × (b ≡ replicate i 32)
spaces_only [] none = (0, refl)
spaces_only (x ∷ b) none = elim (cases_eq x 32) [
  | inl space ↦ (let (i, is) = spaces_only b (ap length (sym (skip_space x b space)) ∙ none) in (suc i, cc (is, space)))
  | inr other ↦ absurd (omega (arith, none, ap length (skip_other x b other)))
]

spaces_front : (b : List ℕ) → (j : ℕ) × (j + length (skip b) ≡ length b) × (agree b (replicate j 32) ≡ j)
spaces_front [] = (0, omega arith, refl)
spaces_front (x ∷ b) = elim (cases_eq x 32) [
  | inl space ↦ (let (j, long, same) = spaces_front b in (suc j, omega (arith, long, ap length (skip_space x b space)), omega (arith, same, agree_some x 32 b (replicate j 32) space)))
  | inr other ↦ (0, omega (arith, ap length (skip_other x b other)), refl)
]

agree_spaces : (b : List ℕ) (i : ℕ) → agree b (replicate i 32) + length (skip b) ≤ length b
agree_spaces [] i = omega arith
agree_spaces (x ∷ b) zero = omega (arith, skip-le (x ∷ b))
  where
    skip-le : (r : List ℕ) → length (skip r) ≤ length r
    skip-le r = (let (front, is) = skip_end r in omega (arith, ap length is, length-append front (skip r)))
agree_spaces (x ∷ b) (suc i) = elim (cases_eq x 32) [
  | inl space ↦ omega (arith, agree_some x 32 b (replicate i 32) space, ap length (skip_space x b space), agree_spaces b i)
  | inr other ↦ omega (arith, agree_none x 32 b (replicate i 32) other, ap length (skip_other x b other))
]

spaces_end : (i : ℕ) → EndsWord (replicate i 32)
spaces_end zero = tt
spaces_end (suc i) = not_word_space

skip_spaces : (i : ℕ) → length (skip (replicate i 32)) ≡ 0
skip_spaces zero = refl
skip_spaces (suc i) = skip_spaces i

-- a text of a command within D levels
abbrev IsWhole : ℕ → List ℕ → Form → Type 0
IsWhole D text c = (i : ℕ) × command_part D text (replicate i 32) c

-- All but the last n bytes may still become a text, and no byte more.
record IsStopped (text : List ℕ) (n : ℕ) : Type 0 where
  within : n ≤ length text
  stuck : (c : List ℕ) (f : Form) → IsWhole 64 c f → agree text c + n ≤ length text
  none : (f : Form) → IsWhole 64 text f → ⊥
  begins : (c : List ℕ) × (f : Form) × IsWhole 64 c f × (length text ≤ agree text c + n)

take_agree : (k : ℕ) (a c : List ℕ) → k ≤ agree a c → take k a ++ drop k c ≡ c
take_agree zero a c le = refl
take_agree (suc k) [] c le = absurd (omega (arith, le))
take_agree (suc k) (x ∷ a) [] le = absurd (omega (arith, le))
take_agree (suc k) (x ∷ a) (y ∷ c) le = elim (cases_eq x y) [
  | inl same ↦ (let rest = take_agree k a c (omega (arith, le, agree_some x y a c same)) in cc (rest, same))
  | inr differ ↦ absurd (omega (arith, le, agree_none x y a c differ))
]

text_of_whole : (D : ℕ) (text : List ℕ) (f : Form) → IsWhole D text f → (m : ℕ) × ((i : ℕ) × IsCommand text (replicate i 32) f m) × (m ≤ D)
text_of_whole D text f (i, p) = (let (m, is, le) = command_is D text (replicate i 32) f p in (m, (i, is), le))

whole_of_text : (text : List ℕ) (f : Form) → IsTextOf text f → IsWhole 64 text f
whole_of_text text f (m, (i, is), le) = (i, command_fits text (replicate i 32) f m is 64 le)

longest_of : (text : List ℕ) (n : ℕ) → IsStopped text n → IsLongestOpen text (length text - n)
longest_of text n s = record {
  within = omega arith;
  holds = open_there s.begins;
  longest = no_longer;
}
  where
    open_there : ((c : List ℕ) × (f : Form) × IsWhole 64 c f × (length text ≤ agree text c + n)) → IsOpen (take (length text - n) text)
    open_there (c, f, whole, far) =
        let k = length text - n in
        let joined = take_agree k text c (omega (arith, far, s.within)) in
        (drop k c, f, subst (λ u. IsTextOf u f) (sym joined) (text_of_whole 64 c f whole))

    no_longer : (j : ℕ) → j ≤ length text → IsOpen (take j text) → j ≤ length text - n
    no_longer j le (more, c, is) = omega (arith, s.stuck (take j text ++ more) c (whole_of_text (take j text ++ more) c is), agree_take j text more le, s.within)

-- the end of the text from there on
end_is : (front rest : List ℕ) → drop (length front) (front ++ rest) ≡ rest
end_is [] rest = refl
end_is (x ∷ front) rest = end_is front rest

drop_end : (text front rest : List ℕ) (n : ℕ) → text ≡ front ++ rest → length rest ≡ n → drop (length text - n) text ≡ rest
drop_end text front rest n is long =
    (let k : length text - n ≡ length front = omega (arith, ap length is, length-append front rest, long) in
    ap (λ j. drop j text) k ∙ ap (drop (length front)) is ∙ end_is front rest)

-- no text within D levels goes on with a token that opens a level
abbrev IsClosed : List ℕ → ℕ → Type 0
IsClosed text n = (D : ℕ) → 64 < D → (m : ℕ) → OpensLevel (drop (length text - n) text) m → (k : ℕ) × (n + 1 ≤ k + m) × ((c : List ℕ) (f : Form) → IsWhole D c f → agree text c + k ≤ length text)

bad_of : (text : List ℕ) (n : ℕ) → IsStopped text n → IsClosed text n → IsBad text (length text - n)
bad_of text n s closed = (longest_of text n s, (λ c is. s.none c (whole_of_text text c is)), λ too_deep. not_deep too_deep.1)
  where
    not_deep : ((m : ℕ) × OpensLevel (drop (length text - n) text) m × IsLooselyOpen (take (length text - n + m) text)) → ⊥
    not_deep (m, opens_it, (more, c, levels, (i, is))) =
        let at = length text - n in
        let (k, most, stuck) = closed (65 + levels) (omega arith) m opens_it in
        let text' = take (at + m) text ++ more in
        let fits = command_fits text' (replicate i 32) c levels is (65 + levels) (omega arith) in
        let inside : at + m ≤ length text = omega (arith, (opens_some (drop at text) m opens_it).1, length-drop at text, s.within) in
        omega (arith, stuck text' c (i, fits), agree_take (at + m) text more inside, most, s.within)

deep_of : (text rest front : List ℕ) (n m k : ℕ) → IsStopped text n → text ≡ front ++ rest → length rest ≡ n → OpensLevel rest m → k + m ≡ n → IsOpenAt (command_part 65) text k → IsTooDeep text (length text - n)
deep_of text rest front n m k s is long opens_it sum (v, begins) =
    let at = length text - n in
    let (c, p, far, _) = begins [] tt in
    let joined = take_agree (at + m) text c (omega (arith, far, sum, s.within)) in
    let (levels, spells, _) = text_of_whole 65 c v (0, p) in (
      longest_of text n s,
      (
        m,
        subst (λ u. OpensLevel u m) (sym (drop_end text front rest n is long)) opens_it,
        (drop (at + m) c, v, levels, subst (λ u. (i : ℕ) × IsCommand u (replicate i 32) v levels) (sym joined) spells),
      ),
    )

stopped_of : (text rest : List ℕ) (n : ℕ) → IsDeadEnd (command_part 64) text rest n → IsStopped text n
stopped_of text rest n d = record {
  within = d.stuck.0;
  stuck = λ c f whole. d.stuck.1 c (replicate whole.0 32) f whole.1;
  none = λ f whole. d.none (replicate whole.0 32) f whole.1;
  begins = (let (c, p, far, _) = d.begins.1 [] tt in (c, d.begins.0, (0, p), far));
}

-- Behind a whole command something else than spaces.
trailing_stuck : (D : ℕ) (text b : List ℕ) (v : Form) → command_part D text b v → (c : List ℕ) (f : Form) → IsWhole D c f → agree text c + length (skip b) ≤ length text
trailing_stuck D text b v p c f (i, q) = elim ((regular_command D).local text b v c (replicate i 32) f p q) [
  | inl apart ↦ omega (arith, apart, agree_spaces b i)
  | inr alike ↦ omega (arith, alike.1, agree_spaces b i)
]

trailing_stopped : (text b : List ℕ) (v : Form) → command_part 64 text b v → (length (skip b) ≡ 0 → ⊥) → IsStopped text (length (skip b))
trailing_stopped text b v p some = record {
  within = (let (front, is) = (regular_command 64).leaves text b v p in omega (arith, ap length is, length-append front b, agree_spaces b 0));
  stuck = trailing_stuck 64 text b v p;
  none = λ f whole. some (ap (λ u. length (skip u)) ((regular_command 64).functional text b (replicate whole.0 32) v f p whole.1).0 ∙ skip_spaces whole.0);
  begins = (let (j, long, same) = spaces_front b in
      let (c, q, far, _) = (regular_command 64).free text b v (replicate j 32) p (inr (spaces_end j)) in
      (c, v, (j, q), omega (arith, long, same, far)));
}

-- What the mirror answers is so.
abbrev pub Verdict : List ℕ → Result Form Refusal → Type 0
Verdict text (Ok c) = IsTextOf text c
Verdict text (Err (bad n)) = (n ≤ length text) × IsBad text (length text - n)
Verdict text (Err (deep n)) = (n ≤ length text) × IsTooDeep text (length text - n)

abbrev finish : Form × List ℕ → Result Form Refusal
finish c = cond (length (skip c.1) == 0) (Ok c.0) (Err (bad (length (skip c.1))))

finished : (text b : List ℕ) (v : Form) → ((D : ℕ) → 64 < D → command_part 64 text b v × command_part D text b v) → (t : Bool) → (length (skip b) == 0) ≡ t → Verdict text (cond t (Ok v) (Err (bad (length (skip b)))))
finished text b v each true is =
    let none : length (skip b) ≡ 0 = grind (arith, nat_tests) in
    let (i, spaces) = spaces_only b none in
    text_of_whole 64 text v (i, subst (λ u. command_part 64 text u v) spaces (each 65 (omega arith)).0)
finished text b v each false is =
    let some = λ (e : length (skip b) ≡ 0). (let test : (length (skip b) == 0) ≡ true = grind (arith, nat_tests) in not_both test is) in
    let stopped = trailing_stopped text b v (each 65 (omega arith)).0 some in (
      stopped.within,
      bad_of text (length (skip b)) stopped (λ D less m opens_it.
          (length (skip b), omega (arith, opens_some (drop (length text - length (skip b)) text) m opens_it), trailing_stuck D text b v (each D less).1)),
    )
  where
    not_both : {t : Bool} → t ≡ true → t ≡ false → ⊥
    not_both e f = cc

verdict_of : (text : List ℕ) (r : Result (Form × List ℕ) Refusal) → ((D : ℕ) → 64 < D → IsAnswer (command_part 64) (command_part D) text r) → Verdict text (r >>= finish)
verdict_of text (Ok (v, b)) each = finished text b v each (length (skip b) == 0) refl
verdict_of text (Err (bad n)) each =
    let (rest, dead, _) = each 65 (omega arith) in
    let stopped = stopped_of text rest n dead in (
      stopped.within,
      bad_of text n stopped (λ D less m opens_it.
          let (end, ends, shallow) = each D less in
          let (k, most, stuck) = shallow m (subst (λ u. OpensLevel u m) (drop_end text ends.front end n ends.whole ends.long) opens_it) in
          (k, most, λ c f whole. stuck.1 c (replicate whole.0 32) f whole.1)),
    )
verdict_of text (Err (deep n)) each =
    let (rest, dead, (m, k, opens_it, sum, begins)) = each 65 (omega arith) in
    let stopped = stopped_of text rest n dead in
    (stopped.within, deep_of text rest dead.front n m k stopped dead.whole dead.long opens_it sum begins)

pub verdict : (text : List ℕ) → Verdict text (whole_at 64 text)
unfolding whole_at
verdict text = verdict_of text (command_at 64 text) (λ D less. (reads_command 64 D less).exact text)
