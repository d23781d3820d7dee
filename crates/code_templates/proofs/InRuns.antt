-- What comes freely, comes in runs under limits with legal identifiers; and rows that are filled say operators.
use Rattle.std.proofs.Common.{◌≡◌, ℕ, zero, suc, ◌+◌, ◌-◌, List, [], ◌∷◌, ◌++◌, length, map, drop, refl, sym, ap, subst, ◌∙◌, arith}
use Rattle.std.specs.Prelude.{All, slice_get}
use Rattle.std.proofs.lemmas.List.{take-append-drop}
use Rattle.um_word.specs.declared.op.Op.{Op}
use Rattle.um_word.specs.Operators.{decode_word}
use Rattle.um_word.specs.State.{State}
use Rattle.um_word.specs.Table.{Fault, op_of}
use Rattle.um_word.specs.Run.{Standing, Stands, Failed, run, first_of, ids_left}
use Rattle.um_word.specs.Loads.{Loads, loads_by, IsLimit}
use Rattle.um_word.specs.Leads.{Leads, OnStanding, MeetsLimit}
use Rattle.code_templates.specs.declared.template.Row.{Row}
use Rattle.code_templates.specs.Lines.{StandsAt}
use Rattle.code_templates.specs.Rows.{filled, HoleFits, Say}
use Rattle.code_templates.specs.Laws.{piece, Course, Quietly, IsOnCourse, InRuns, ComesToRows}
use Rattle.code_templates.specs.inner.Freely.{Freely, ArrivesAt}
use Rattle.um_word.proofs.Leading.{is_there}
use Rattle.um_word.proofs.Moments.{moments}
use Rattle.code_templates.proofs.Words.{filled_say, words_stand}

on_standing : {I : Type 0} (standing : Standing I) (P Q : State → Type 0) (F G : State → Fault → Type 0) →
    ((t : State) → P t → Q t) → ((t : State) (fault : Fault) → F t fault → G t fault) → OnStanding standing P F → OnStanding standing Q G
on_standing (Stands t i) P Q F G f g h = f t h
on_standing (Failed t i fault) P Q F G f g h = g t fault h

has_along : (I Q : State → Loads → Type 0) (n : ℕ) (t : State) (l : Loads) → Leads I (suc n) Q t l → I t l
unfolding Leads
has_along I Q n t l h = h.1

-- where so many cycles are left, the machine is on its course
on_course : (course : Course) (Q : State → Type 0) (s : State) (n left : ℕ) (loads : Loads) (t : State) → course.cycles ≡ n + left →
    Leads (Quietly s.finger course.size course.amends s []) left (λ t k. Q t × (k ≡ course.loads)) t loads → IsOnCourse course Q s n loads t
on_course course Q s n zero loads t e way = record {
  before = λ lt. absurd (omega (arith, lt, e));
  after = λ same. is_there (Quietly s.finger course.size course.amends s []) (λ t k. Q t × (k ≡ course.loads)) t loads way;
}
on_course course Q s n (suc left) loads t e way = record {
  before = λ lt. has_along (Quietly s.finger course.size course.amends s []) (λ t k. Q t × (k ≡ course.loads)) left t loads way;
  after = λ same. absurd (omega (arith, same, e));
}

pub in_runs : (course : Course) (Q : State → Type 0) (s : State) → Freely course.size course.cycles course.amends course.loads Q s → InRuns course Q s
in_runs course Q s h L ids n le legal =
    let I = Quietly s.finger course.size course.amends s [] in
    let all = loads_by first_of ids_left L n ids s in
    let R : State → Loads → Type 0 = λ t k. Q t × (k ≡ course.loads) in
    let left = course.cycles - n in
    let e : course.cycles ≡ n + left = omega (arith, le) in
    on_standing (run L n ids s) (λ t. Leads I left R t all) (IsOnCourse course Q s n all) (MeetsLimit I R L all) (λ t fault. IsLimit fault × I t all)
    (λ t way. on_course course Q s n left all t e way) (λ t fault r. (r.limit, has_along I R r.more t all r.way))
    (moments I R L n left ids s [] legal (subst (λ n. Leads I n R s []) e (h [])))

get_drop : (place k : ℕ) (words : List ℕ) → slice_get (drop place words) k ≡ slice_get words (place + k)
get_drop zero k words = let e : k ≡ 0 + k = omega arith in ap (slice_get words) e
get_drop (suc place) k [] = refl
get_drop (suc place) k (word ∷ words) = get_drop place k words ∙ (let e : suc (place + k) ≡ suc place + k = omega arith in ap (slice_get (word ∷ words)) e)

-- what stands in the rest of a list, stands in the list
stand_later : (words : List ℕ) (place k : ℕ) (ops : List Op) → StandsAt (drop place words) k ops → StandsAt words (place + k) ops
stand_later words place k [] h = tt
stand_later words place k (op ∷ ops) h =
    let e : place + (k + 1) ≡ place + k + 1 = omega arith in (
      ap op_of (sym (get_drop place k words)) ∙ h.0,
      subst (λ n. StandsAt words n ops) e (stand_later words place (k + 1) ops h.1),
    )

-- where the words of filled rows stand, their operators do
rows_stand : (words : List ℕ) (place : ℕ) (values : List ℕ) (rows : List Row) (ops : List Op) →
    piece place (length rows) words ≡ map (filled values) rows → All (HoleFits values) rows → Say rows values ops → StandsAt words place ops
rows_stand words place values rows ops are fits say =
    let e : place + 0 ≡ place = omega arith in
    let size = length rows in
    subst (λ n. StandsAt words n ops) e (stand_later words place 0 ops
    (subst (λ ws. StandsAt ws 0 ops) (take-append-drop size (drop place words))
    (words_stand [] (piece place size words) (drop size (drop place words)) ops (ap (map decode_word) are ∙ filled_say values rows ops fits say))))

-- a machine that comes to rows which say operators, comes to these
pub arrived : {rows : List Row} {holes : List ℕ} {ops : List Op} {table current : ℕ} {s : State} (c : ComesToRows rows holes table current s) →
    Say rows (holes ++ c.more) ops → ArrivesAt ops table current s
arrived {rows = rows} {holes = holes} {ops = ops} {s = s} c say = record {
  running = c.running;
  code = c.code;
  code_is = c.code_is;
  operators = rows_stand c.code s.finger (holes ++ c.more) rows ops c.words c.fits say;
  eight = c.eight;
  zero_is = c.zero_is;
  table_is = c.table_is;
  current_is = c.current_is;
}
