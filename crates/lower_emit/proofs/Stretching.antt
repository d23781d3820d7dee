-- How stretches are joined.
use Rattle.std.proofs.Common.{◌≡◌, ℕ, zero, suc, ◌+◌, ◌≤◌, List, [], ◌∷◌, ◌++◌, refl, sym, subst, ◌∙◌, arith}
use Rattle.std.specs.FinMap as map
use Rattle.std.proofs.lemmas.List.{append-nil}
use Rattle.um_word.specs.declared.op.Op.{Op}
use Rattle.um_word.specs.State.{Arrays, State}
use Rattle.um_word.specs.Loads.{Loads}
use Rattle.um_word.specs.Leads.{Leads}
use Rattle.code_templates.specs.Lines.{StandsAt, StandStill, StandsWithin}
use Rattle.code_templates.specs.Laws.{Quietly}
use Rattle.code_templates.specs.inner.Freely.{ArrivesAt, Freely}
use Rattle.code_templates.proofs.Straight.{within_wider}
use Rattle.code_templates.proofs.Still.{Covers, covers_same, covers_none}
use Rattle.um_word.proofs.Leading.{no_step, weaken, weaken_along, join}
use Rattle.lower_emit.specs.inner.Stretches.{Range, KeepsArrays, Stretch, InBlock}

-- where the frame alone changed, all else goes on standing still
pub still_on : (frame : ℕ) (m n o : Arrays) → StandStill (frame ∷ []) m n → KeepsArrays frame n o → map.get o 0 ≡ map.get n 0 → StandStill (frame ∷ []) m o
still_on frame m n o h keeps zero_is zero words out there = zero_is ∙ h zero words out there
still_on frame m n o h keeps zero_is (suc k) words out there = keeps (suc k) words (omega arith) (λ same. out (0, omega arith, sym same)) (h (suc k) words out there)

module _ (r : Range) where
  abbrev Along : State → Loads → Type 0
  Along = Quietly r.place r.size (r.frame ∷ []) r.came r.loads

  pub stays : (Q : State → Type 0) (s : State) → Q s → Stretch r 0 Q s
  stays Q s h = no_step Along (λ t k. Q t × (k ≡ r.loads)) s r.loads (h, refl)

  pub chain : (n m : ℕ) (Q R : State → Type 0) (s : State) → Stretch r n Q s → ((t : State) → Q t → Stretch r m R t) → Stretch r (n + m) R s
  chain n m Q R s h go =
      join Along n m (λ t k. R t × (k ≡ r.loads)) s r.loads
      (weaken Along n (λ t k. Q t × (k ≡ r.loads)) (Leads Along m (λ t k. R t × (k ≡ r.loads)))
      (λ t k q. subst (λ x. Leads Along m (λ t k. R t × (k ≡ r.loads)) t x) (sym q.1) (go t q.0)) s r.loads h)

  pub becomes : (n : ℕ) (Q R : State → Type 0) (s : State) → ((t : State) → Q t → R t) → Stretch r n Q s → Stretch r n R s
  becomes n Q R s f h = weaken Along n (λ t k. Q t × (k ≡ r.loads)) (λ t k. R t × (k ≡ r.loads)) (λ t k q. (f t q.0, q.1)) s r.loads h

  module _ (table frame : ℕ) (code : List ℕ) where
    -- code that amends these arrays is a stretch
    any_stretch : (but : List ℕ) (size cycles : ℕ) (Q : State → Type 0) (place : ℕ) (slots : List ℕ) (s : State) → Covers (frame ∷ []) r.came.arrays but → InBlock r table frame code place slots s →
        r.place ≤ place → place + size ≤ r.place + r.size → Freely size cycles but [] Q s → Stretch r cycles Q s
    any_stretch but size cycles Q place slots s covers here low high h =
        weaken_along (Quietly s.finger size but s r.loads) Along cycles (λ t k. Q t × (k ≡ r.loads))
        (λ t k w. (
          subst (λ f. StandsWithin r.place r.size (f ∷ []) r.came t) (sym here.framed)
              (within_wider s.finger size r.place r.size (frame ∷ []) but s r.came (omega (arith, here.finger, low)) (omega (arith, here.finger, high))
              (here.code_is ∙ sym here.came_with) covers here.still (here.table_is ∙ sym here.came_table) here.out_is here.rest_is t w.0),
          w.1,
        )) s r.loads
        (weaken (Quietly s.finger size but s r.loads) cycles (λ t k. Q t × (k ≡ r.loads ++ [])) (λ t k. Q t × (k ≡ r.loads)) (λ t k q. (q.0, q.1 ∙ append-nil r.loads)) s r.loads (h r.loads))

    -- a template that amends the frame is a stretch
    pub template_stretch : (size cycles : ℕ) (Q : State → Type 0) (place : ℕ) (slots : List ℕ) (s : State) → InBlock r table frame code place slots s →
        r.place ≤ place → place + size ≤ r.place + r.size → Freely size cycles (frame ∷ []) [] Q s → Stretch r cycles Q s
    template_stretch size cycles Q place slots s here low high h = any_stretch (frame ∷ []) size cycles Q place slots s (covers_same (frame ∷ []) r.came.arrays) here low high h

    -- and so is one that amends nothing
    pub quiet_stretch : (size cycles : ℕ) (Q : State → Type 0) (place : ℕ) (slots : List ℕ) (s : State) → InBlock r table frame code place slots s →
        r.place ≤ place → place + size ≤ r.place + r.size → Freely size cycles [] [] Q s → Stretch r cycles Q s
    quiet_stretch size cycles Q place slots s here low high h = any_stretch [] size cycles Q place slots s (covers_none (frame ∷ []) r.came.arrays) here low high h

  pub comes : (table frame : ℕ) (code : List ℕ) (place : ℕ) (slots : List ℕ) (s : State) (ops : List Op) → InBlock r table frame code place slots s → StandsAt code place ops → ArrivesAt ops table frame s
  comes table frame code place slots s ops here stand = record {
    running = here.running;
    code = code;
    code_is = here.code_is;
    operators = subst (λ f. StandsAt code f ops) (sym here.finger) stand;
    eight = here.eight;
    zero_is = here.zero_is;
    table_is = here.table_is;
    current_is = here.current_is;
  }
