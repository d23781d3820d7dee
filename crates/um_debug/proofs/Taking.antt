-- A line as its bytes are taken.
use Rattle.std.proofs.Common.{◌≡◌, ◌≢◌, ℕ, ◌+◌, ◌<◌, ◌≤◌, Bool, true, false, List, [], ◌∷◌, ◌++◌, append_assoc, length, Option, Some, None, Ok, Err, Result, refl, sym, ap, ◌∙◌, subst, arith}
use Rattle.std.specs.Result.{IsErr}
use Rattle.std.proofs.lemmas.List.{append-nil, length_push}
use Rattle.std.proofs.lemmas.List.Elements.{All-nil, All-push}
use Rattle.umix_base.specs.declared.Failed.{Failed}
use Rattle.umix_base.specs.Causes.{KeepsTelling, HasCauseIf, Rose}
use Rattle.umix_base.specs.Streams.{Takes}
use Rattle.um_machine.specs.Outside.{MayHold}
use Rattle.um_debug.specs.CommandLines.{IsLine, ended, last, full, HasNoLineFeed, most_line_bytes}
use Rattle.um_debug.specs.inner.Calls.{TookLine, TookPart, TakesLine}

-- these bytes of a line were taken, and none of them is LF
pub record Taking (before now : Option (List ℕ)) (line : List ℕ) : Type 0 where
  pub plain : HasNoLineFeed line
  pub had : (more : List ℕ) → MayHold now more → MayHold before (line ++ more)
  pub tells : KeepsTelling before now

pub is_found : (r : Result (Option ℕ) Failed) (found other : Option ℕ) → r ≡ Ok found → found ≡ other → r ≡ Ok other
is_found r found other is same = cc

pub taking_none : (before : Option (List ℕ)) → Taking before before []
taking_none before = record { plain = All-nil (λ byte. byte ≢ 10); had = λ more may. may; tells = refl }

took_byte : (old new : Option (List ℕ)) (byte : ℕ) (more : List ℕ) → Takes old new (Ok (Some byte)) → MayHold new more → MayHold old (byte ∷ more)
took_byte None new byte more takes may = tt
took_byte (Some bytes) new byte more takes may =
    let rest : takes.0 ≡ more = subst (λ (held : Option (List ℕ)). MayHold held more) takes.2 may in
    takes.1 ∙ ap (λ (xs : List ℕ). byte ∷ xs) rest

took_failure : (old new : Option (List ℕ)) (failed : Failed) (more : List ℕ) → Takes old new (Err failed) → MayHold new more → MayHold old more
took_failure None new failed more takes may = tt
took_failure (Some bytes) new failed more takes may = subst (λ (held : Option (List ℕ)). MayHold held more) takes may

took_none : (old new : Option (List ℕ)) → Takes old new (Ok None) → KeepsTelling old new → MayHold old [] × MayHold new []
took_none None None takes keeps = (tt, tt)
took_none None (Some bytes) takes keeps = absurd (let e : true ≡ false = keeps in cc)
took_none (Some bytes) new takes keeps = (takes.0, subst (λ (held : Option (List ℕ)). MayHold held []) (sym takes.1) refl)

module _ (before old new : Option (List ℕ)) (line : List ℕ) (r : Result (Option ℕ) Failed) (taking : Taking before old line) (takes : Takes old new r)
    (keeps : KeepsTelling old new) where
  pub tells_still : KeepsTelling before new
  tells_still = keeps ∙ taking.tells

  -- one byte more
  pub taking_more : (byte : ℕ) → r ≡ Ok (Some byte) → byte ≢ 10 → Taking before new (line ++ byte ∷ [])
  taking_more byte is other =
      let took = subst (λ (result : Result (Option ℕ) Failed). Takes old new result) is takes in
      record {
        plain = All-push (λ byte. byte ≢ 10) line byte taking.plain other;
        had = λ more may. subst (λ (bytes : List ℕ). MayHold before bytes) (sym (append_assoc line (byte ∷ []) more))
            (taking.had (byte ∷ more) (took_byte old new byte more took may));
        tells = tells_still;
      }

  -- a line that an LF ends
  pub took_ended : (byte : ℕ) (more : List ℕ) → r ≡ Ok (Some byte) → byte ≡ 10 → length line < most_line_bytes → MayHold new more →
      TookLine before line more
  took_ended byte more is lf short may =
      let took = subst (λ (result : Result (Option ℕ) Failed). Takes old new result) (is ∙ ap (λ (b : ℕ). Ok (Some b)) lf) takes in
      record { bytes = line ++ 10 ∷ more; had = taking.had (10 ∷ more) (took_byte old new 10 more took may); is_line = ended line more short taking.plain }

  pub took_part : (failed : Failed) → r ≡ Err failed → length line < most_line_bytes → TookPart before new
  took_part failed is short =
      let took = subst (λ (result : Result (Option ℕ) Failed). Takes old new result) is takes in
      record { part = line; short = short; plain = taking.plain; had = λ more may. taking.had more (took_failure old new failed more took may) }

  pub took_nothing : r ≡ Ok None → line ≡ [] → MayHold before [] × MayHold new []
  took_nothing is empty =
      let both = took_none old new (subst (λ (result : Result (Option ℕ) Failed). Takes old new result) is takes) keeps in
      (subst (λ (bytes : List ℕ). MayHold before (bytes ++ [])) empty (taking.had [] both.0), both.1)

pub takes_part : (before now : Option (List ℕ)) (r : Result (Option (List ℕ)) Failed) → IsErr r → TookPart before now → TakesLine before now r
takes_part before now (Err failed) is part = part
takes_part before now (Ok line) is part = absurd (let e : false ≡ true = is in cc)

-- a line that the end of the commands ends
took_last_at : (before old new : Option (List ℕ)) (line more : List ℕ) → Taking before old line → Takes old new (Ok None) → line ≢ [] →
    length line < most_line_bytes → MayHold new more → TookLine before line more
took_last_at before None new line more taking takes some short may =
    record { bytes = line ++ 10 ∷ more; had = taking.had (10 ∷ more) tt; is_line = ended line more short taking.plain }
took_last_at before (Some bytes) new line more taking takes some short may =
    let none : [] ≡ more = subst (λ (held : Option (List ℕ)). MayHold held more) takes.1 may in
    let had = subst (λ (all : List ℕ). MayHold before all) (append-nil line) (taking.had [] takes.0) in
    record { bytes = line; had = had; is_line = subst (λ (rest : List ℕ). IsLine line line rest) none (last line some short taking.plain) }

pub took_last : (before old new : Option (List ℕ)) (line more : List ℕ) (r : Result (Option ℕ) Failed) → Taking before old line → Takes old new r →
    r ≡ Ok None → line ≢ [] → length line < most_line_bytes → MayHold new more → TookLine before line more
took_last before old new line more r taking takes is some short may =
    took_last_at before old new line more taking (subst (λ (result : Result (Option ℕ) Failed). Takes old new result) is takes) some short may

pub took_full : (before now : Option (List ℕ)) (line more : List ℕ) → Taking before now line → length line ≡ most_line_bytes → MayHold now more →
    TookLine before line more
took_full before now line more taking many may = record { bytes = line ++ more; had = taking.had more may; is_line = full line more many taking.plain }

rose_from : (before old new : ℕ) → before ≤ old → Rose old new → Rose before new
rose_from before old new later rose = omega (arith, rose)

-- the count of faults over one call more
pub caused_later : (before old new : ℕ) (failed other : Type 0) → before ≤ old → HasCauseIf failed old new → (other → failed) → HasCauseIf other before new
caused_later before old new failed other later cause gives =
    record { later = omega (arith, cause.later); rose = λ here. rose_from before old new later (cause.rose (gives here)) }
