-- What `parse` says of its answer.
use Rattle.std.proofs.Common.{◌≡◌, ℕ, ◌≤◌, ◌⊎◌, inl, inr, List, length, take, drop, refl, sym, ap, subst, ◌∙◌, arith, Result, Ok, Err, [], length-drop, append-nil}
use Rattle.std.proofs.lemmas.List.{take_all}
use Rattle.box_parse.proofs.Answers.{opens_some}
use Rattle.box_parse.proofs.Whole.{Verdict, verdict}
use Rattle.box_parse.specs.inner.ReaderOnLists.{Fails, IsWithin, whole_at, fault_of}
use Rattle.box_parse.specs.Refusals.{IsFaultOf}
use Rattle.box_parse.specs.declared.fault.BoxFault.TheVariants as fault
use Rattle.box_parse.specs.declared.fault.BoxFault.{BoxFault}
use Rattle.box_parse.specs.declared.stop.Stop.TheVariants as stop
use Rattle.box_parse.specs.declared.stop.Stop.{Stop}
use Rattle.two_d.specs.Grammar.{IsTextOf, IsLongestOpen, IsTooDeep, IsBad, OpensLevel}
use Rattle.two_d.specs.Trees.{Form}

-- Of a text only one of these is so.
pub longest_once : (text : List ℕ) (j k : ℕ) → IsLongestOpen text j → IsLongestOpen text k → j ≡ k
longest_once text j k one two = omega (arith, one.longest k two.within two.holds, two.longest j one.within one.holds)

no_level : (text : List ℕ) (k m : ℕ) → length text ≤ k → OpensLevel (drop k text) m → ⊥
no_level text k m past opens_it = absurd (omega (arith, opens_some (drop k text) m opens_it, length-drop k text))

text_not_deep : (text : List ℕ) (c : Form) (k : ℕ) → IsTextOf text c → IsTooDeep text k → ⊥
text_not_deep text c k is too_deep =
    let (m, opens_it, _) = too_deep.1 in
    no_level text k m (too_deep.0.longest (length text) (omega arith) ([], c, subst (λ u. IsTextOf u c) (sym (append-nil (take (length text) text) ∙ take_all (length text) text (omega arith))) is)) opens_it

pub within_of : (text : List ℕ) (s : Stop) → Fails s (whole_at 64 text) → IsWithin s (length text)
within_of text stop.Memory h = tt
within_of text (stop.Bad n) h = (subst (Verdict text) h (verdict text)).0
within_of text (stop.TooDeep n) h = (subst (Verdict text) h (verdict text)).0

pub command_of : (text : List ℕ) (c : Form) → whole_at 64 text ≡ Ok c → IsTextOf text c
command_of text c h = subst (Verdict text) h (verdict text)

pub fault_is : (text : List ℕ) (s : Stop) → Fails s (whole_at 64 text) → IsFaultOf (fault_of s (length text)) text
fault_is text stop.Memory h = tt
fault_is text (stop.Bad n) h = (subst (Verdict text) h (verdict text)).1
fault_is text (stop.TooDeep n) h = (subst (Verdict text) h (verdict text)).1

-- The other way round.
pub command_only : (text : List ℕ) (f : BoxFault) → IsFaultOf f text → (c : Form) → IsTextOf text c → f ≡ fault.Memory
command_only text fault.Memory h c is = refl
command_only text (fault.Bad k) h c is = absurd (h.1 c is)
command_only text (fault.TooDeep k) h c is = absurd (text_not_deep text c k is h)

pub bad_only : (text : List ℕ) (f : BoxFault) → IsFaultOf f text → (k : ℕ) → IsBad text k → (f ≡ fault.Bad k) ⊎ (f ≡ fault.Memory)
bad_only text fault.Memory h k is = inr refl
bad_only text (fault.Bad j) h k is = inl (ap fault.Bad (longest_once text j k h.0 is.0))
bad_only text (fault.TooDeep j) h k is = absurd (is.2 (subst (IsTooDeep text) (longest_once text j k h.0 is.0) h))

pub deep_only : (text : List ℕ) (f : BoxFault) → IsFaultOf f text → (k : ℕ) → IsTooDeep text k → (f ≡ fault.TooDeep k) ⊎ (f ≡ fault.Memory)
deep_only text fault.Memory h k is = inr refl
deep_only text (fault.Bad j) h k is = absurd (h.2 (subst (IsTooDeep text) (longest_once text k j is.0 h.0) is))
deep_only text (fault.TooDeep j) h k is = inl (ap fault.TooDeep (longest_once text j k h.0 is.0))

pub text_not_bad : (text : List ℕ) (c : Form) → IsTextOf text c → (k : ℕ) → IsBad text k → ⊥
text_not_bad text c is k it = it.1 c is

pub text_never_deep : (text : List ℕ) (c : Form) → IsTextOf text c → (k : ℕ) → IsTooDeep text k → ⊥
text_never_deep text c is k it = text_not_deep text c k is it

abbrev pub refused : {X E : Type 0} → E → Result X E
refused e = Err e

pub err_either : {X E : Type 0} (f g h : E) → (f ≡ g) ⊎ (f ≡ h) → (refused {X = X} f ≡ refused g) ⊎ (refused {X = X} f ≡ refused h)
err_either f g h (inl e) = inl (ap refused e)
err_either f g h (inr e) = inr (ap refused e)
