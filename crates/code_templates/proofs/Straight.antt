-- Lines from the states in which templates begin.
use Rattle.std.proofs.Common.{◌≡◌, ◌≢◌, ℕ, ◌+◌, ◌<◌, ◌≤◌, true, false, List, [], ◌∷◌, ◌++◌, length, Some, None, refl, sym, ap, subst, ◌∙◌, arith}
use Rattle.std.specs.Prelude.{slice_get, slice_index}
use Rattle.std.specs.FinMap as map
use Rattle.std.proofs.lemmas.Option.{slice_get-get_or}
use Rattle.um_word.specs.declared.op.Op.{Op}
use Rattle.um_word.specs.State.{State, Arrays, reg}
use Rattle.um_word.specs.Loads.{Loads}
use Rattle.um_word.specs.Leads.{IsNew, Leads}
use Rattle.code_templates.specs.Lines.{StandsAt, StandStill, StandsWithin}
use Rattle.code_templates.specs.Laws.{Quietly, Leaves}
use Rattle.code_templates.specs.inner.Freely.{Freely, ArrivesAt}
use Rattle.um_word.proofs.Leading.{weaken}
use Rattle.code_templates.proofs.Still.{Covers, still_join}
use Rattle.code_templates.proofs.Lines.{Exit, exit_loads, left_by, keeps_table, Line, Left, leads}

-- what stands within a part, stands within the whole
pub within_wider : (from n place size : ℕ) (more but : List ℕ) (s came : State) → place ≤ from → from + n ≤ place + size →
    map.get s.arrays 0 ≡ map.get came.arrays 0 → Covers more came.arrays but → StandStill more came.arrays s.arrays → reg s 1 ≡ reg came 1 → s.out ≡ came.out → s.rest ≡ came.rest →
    (t : State) → StandsWithin from n but s t → StandsWithin place size more came t
within_wider from n place size more but s came low high code covers stays table out rest t w = record {
  from = let f = w.from in omega (arith, f, low);
  to = let f = w.to in omega (arith, f, high);
  code = w.code ∙ code;
  stays = still_join more but came.arrays s.arrays t.arrays covers stays w.stays;
  table = w.table ∙ table;
  out = w.out ∙ out;
  rest = w.rest ∙ rest;
  own = w.own;
}

pub stands_front : (words : List ℕ) (p : ℕ) (a b : List Op) → StandsAt words p (a ++ b) → StandsAt words p a
stands_front words p [] b h = tt
stands_front words p (op ∷ a) b h = (h.0, stands_front words (p + 1) a b h.1)

pub stands_back : (words : List ℕ) (p : ℕ) (a b : List Op) → StandsAt words p (a ++ b) → StandsAt words (p + length a) b
stands_back words p [] b h = let e : p ≡ p + 0 = omega arith in subst (λ n. StandsAt words n b) e h
stands_back words p (op ∷ a) b h =
    let e : p + 1 + length a ≡ p + length (op ∷ a) = omega arith in
    subst (λ n. StandsAt words n b) e (stands_back words (p + 1) a b h.1)

-- eight registers, of which three are known
pub eight : (rs : List ℕ) (a b c : ℕ) → length rs ≡ 8 → slice_index rs 0 ≡ a → slice_index rs 1 ≡ b → slice_index rs 2 ≡ c →
    rs ≡ a ∷ b ∷ c ∷ slice_index rs 3 ∷ slice_index rs 4 ∷ slice_index rs 5 ∷ slice_index rs 6 ∷ slice_index rs 7 ∷ []
eight (x ∷ y ∷ z ∷ d ∷ e ∷ f ∷ g ∷ h ∷ []) a b c n ea eb ec = λ i. ea i ∷ eb i ∷ ec i ∷ d ∷ e ∷ f ∷ g ∷ h ∷ []
eight [] a b c n ea eb ec = absurd (omega (arith, n))
eight (x ∷ []) a b c n ea eb ec = absurd (omega (arith, n))
eight (x ∷ y ∷ []) a b c n ea eb ec = absurd (omega (arith, n))
eight (x ∷ y ∷ z ∷ []) a b c n ea eb ec = absurd (omega (arith, n))
eight (x ∷ y ∷ z ∷ d ∷ []) a b c n ea eb ec = absurd (omega (arith, n))
eight (x ∷ y ∷ z ∷ d ∷ e ∷ []) a b c n ea eb ec = absurd (omega (arith, n))
eight (x ∷ y ∷ z ∷ d ∷ e ∷ f ∷ []) a b c n ea eb ec = absurd (omega (arith, n))
eight (x ∷ y ∷ z ∷ d ∷ e ∷ f ∷ g ∷ []) a b c n ea eb ec = absurd (omega (arith, n))
eight (x ∷ y ∷ z ∷ d ∷ e ∷ f ∷ g ∷ h ∷ k ∷ more) a b c n ea eb ec = absurd (omega (arith, n))

-- the state with its registers written out
abbrev pub listed : State → (table current : ℕ) → State
listed s table current = record s { registers = 0 ∷ table ∷ current ∷ reg s 3 ∷ reg s 4 ∷ reg s 5 ∷ reg s 6 ∷ reg s 7 ∷ [] }

-- R holds where a line leaves
abbrev pub Goal : List Op → (State → Loads → Type 0) → State → Loads → Exit → State → Type 0
Goal ops R s l e t = R (left_by e t (s.finger + length ops) (s.cycles + length ops)) (l ++ exit_loads e)

-- a line from a state whose registers are known
pub straight : (but : List ℕ) (ops : List Op) (R : State → Loads → Type 0) (registers code : List ℕ) (s : State) (l : Loads) →
    s.halted ≡ false → map.get s.arrays 0 ≡ Some code → StandsAt code s.finger ops → keeps_table ops ≡ true → s.registers ≡ registers →
    Line but s.arrays ops (Goal ops R s l) (record s { registers = registers }) → Leads (Quietly s.finger (length ops) but s l) (length ops) R s l
straight but ops R registers code s l running code_is stand keep e line =
    weaken (Quietly s.finger (length ops) but s l) (length ops) (Left (Goal ops R s l) (s.finger + length ops) (s.cycles + length ops) l) R
    (λ t k left. subst (λ x. R t x) (sym left.loaded) (subst (λ x. R x (l ++ exit_loads left.exit)) (sym left.is) left.holds)) s l
    (leads but ops (Goal ops R s l) code s l running code_is stand keep (subst (λ x. Line but s.arrays ops (Goal ops R s l) (record s { registers = x })) (sym e) line))

-- Q holds where a line leaves, which loads this
abbrev pub Ending : List Op → Loads → (State → Type 0) → State → Exit → State → Type 0
Ending ops loads Q s e t = Q (left_by e t (s.finger + length ops) (s.cycles + length ops)) × (exit_loads e ≡ loads)

-- a line from where a template begins
pub template : {but : List ℕ} (ops : List Op) → keeps_table ops ≡ true → (table current : ℕ) (loads : Loads) (Q : State → Type 0) (s : State) → ArrivesAt ops table current s →
    Line but s.arrays ops (Ending ops loads Q s) (listed s table current) →
    Freely (length ops) (length ops) but loads Q s
template {but = but} ops keep table current loads Q s c line l =
    weaken (Quietly s.finger (length ops) but s l) (length ops) (Left (Ending ops loads Q s) (s.finger + length ops) (s.cycles + length ops) l) (λ t k. Q t × (k ≡ l ++ loads))
    (λ t k left. (subst Q (sym left.is) left.holds.0, left.loaded ∙ ap (λ x. l ++ x) left.holds.1)) s l
    (leads but ops (Ending ops loads Q s) c.code s l c.running c.code_is c.operators keep
    (subst (λ x. Line but s.arrays ops (Ending ops loads Q s) (record s { registers = x })) (sym (eight s.registers 0 table current c.eight c.zero_is c.table_is c.current_is)) line))

pub there : (xs : List ℕ) (k : ℕ) → k < length xs → slice_get xs k ≡ Some (slice_index xs k)
there xs k lt = slice_get-get_or xs k 0 lt

-- a new identifier is no array's
pub apart : (m : Arrays) (id q : ℕ) (ws : List ℕ) → IsNew m id → map.get m q ≡ Some ws → q ≢ id
apart m id q ws new e same = let h : Some ws ≡ None = sym e ∙ ap (map.get m) same ∙ new.absent in cc

-- the machine leaves in a state that is written out
pub arrives : {place table current a b c d e cycles : ℕ} {arrays : Arrays} {out : List ℕ} {s : State} →
    Leaves place table current arrays out s (record {
      registers = 0 ∷ table ∷ current ∷ a ∷ b ∷ c ∷ d ∷ e ∷ [];
      finger = place;
      arrays = arrays;
      rest = s.rest;
      out = out;
      cycles = cycles;
      halted = false;
    })
arrives = record { running = refl; finger = refl; eight = refl; zero_is = refl; table_is = refl; current_is = refl; arrays_are = refl; out_is = refl; rest_is = refl }
