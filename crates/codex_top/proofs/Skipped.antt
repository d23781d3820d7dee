-- What is left of an input whose first bytes are taken one by one.
use Rattle.std.proofs.Common.{◌≡◌, ◌≤◌, ◌+◌, ℕ, zero, suc, List, [], ◌∷◌, Option, Some, None, refl, sym, ap, ◌∙◌, arith}
use Rattle.std.specs.Prelude.{drop, Ok, option_map}
use Rattle.std.proofs.lemmas.List.{drop-drop}
use Rattle.umix_base.specs.Causes.{Rose, KeepsTelling}
use Rattle.umix_base.specs.Streams.{Takes}
use Rattle.um_machine.specs.Outside.{IsUsed}
use Rattle.um_machine.proofs.Rests.{rose_later}

drop_one : (k : ℕ) (xs : List ℕ) (byte : ℕ) (rest : List ℕ) → drop k xs ≡ byte ∷ rest → drop (k + 1) xs ≡ rest
drop_one k xs byte rest e = sym (drop-drop 1 k xs) ∙ ap (drop 1) e

drop_of_none : (count : ℕ) → drop {A = ℕ} count [] ≡ []
drop_of_none zero = refl
drop_of_none (suc count) = refl

drop_later : (k count : ℕ) (xs : List ℕ) → k ≤ count → drop k xs ≡ [] → drop count xs ≡ []
drop_later zero count xs le e = ap (drop count) e ∙ drop_of_none count
drop_later (suc k) zero xs le e = absurd (omega (arith, le))
drop_later (suc k) (suc count) [] le e = refl
drop_later (suc k) (suc count) (x ∷ xs) le e = drop_later k count xs (omega (arith, le)) e

pub none_taken : (first : Option (List ℕ)) → first ≡ option_map (drop 0) first
none_taken None = refl
none_taken (Some xs) = refl

pub one_taken : (k : ℕ) (first before now : Option (List ℕ)) (byte : ℕ) → before ≡ option_map (drop k) first → KeepsTelling before now →
    Takes before now (Ok (Some byte)) → now ≡ option_map (drop (k + 1)) first
one_taken k None None None byte e keeps takes = refl
one_taken k None None (Some x) byte e keeps takes = absurd (cc)
one_taken k None (Some y) now byte e keeps takes = absurd (cc)
one_taken k (Some xs) None now byte e keeps takes = absurd (cc)
one_taken k (Some xs) (Some y) now byte e keeps takes =
    let same : drop k xs ≡ y = cc in
    takes.2 ∙ ap Some (sym (drop_one k xs byte takes.0 (same ∙ takes.1)))

pub all_taken : (k count : ℕ) (first before now : Option (List ℕ)) → k ≤ count → before ≡ option_map (drop k) first → KeepsTelling before now →
    Takes before now (Ok None) → now ≡ option_map (drop count) first
all_taken k count None None None le e keeps takes = refl
all_taken k count None None (Some x) le e keeps takes = absurd (cc)
all_taken k count None (Some y) now le e keeps takes = absurd (cc)
all_taken k count (Some xs) None now le e keeps takes = absurd (cc)
all_taken k count (Some xs) (Some y) now le e keeps takes =
    let same : drop k xs ≡ y = cc in
    takes.1 ∙ ap Some (sym (drop_later k count xs le (same ∙ takes.0)))

-- a call after calls that didn't fail
pub asked_on : (a b c : Option (List ℕ)) (k m n : ℕ) (failed : Type 0) → IsUsed a b k m ⊥ → KeepsTelling b c → m ≤ n → (failed → Rose m n) →
    IsUsed a c k n failed
asked_on a b c k m n failed used tells later rose = record {
  tells = tells ∙ used.tells;
  later = let before = used.later in omega (arith, before, later);
  rose = λ f. rose_later k m n used.later (rose f);
}
