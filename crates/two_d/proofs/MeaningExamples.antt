-- The worked programs.
use Rattle.std.specs.Prelude.{Option, Some, None, ◌≡◌, ℕ, List, [], ◌∷◌, codes}
use Rattle.std.proofs.Common.{refl}
use Rattle.codex_values.specs.Value.{unit, inl, inr}
use Rattle.two_d.specs.Trees as tree
use Rattle.two_d.specs.Trees.{send, case, split, call}
use Rattle.two_d.specs.declared.command.Side.TheVariants.{S, E}
use Rattle.two_d.specs.Programs.{North, West, South, East, Program}
use Rattle.two_d.specs.Trails.{NoSum, NoResult, Trail, trail_of}
use Rattle.std.specs.Prelude.{length, true, false}
use Rattle.two_d.specs.Steps.{Fire, First, Last, Listed, Choice, Table, start, after, step, ready, is_ready, events_by, instance_at}
use Rattle.two_d.specs.Walks.{walk, Calls, Returns}
use Rattle.two_d.specs.Meaning.{Outcome, Gives, Stuck, no_inputs, mean, meaning_of, returned, pulled, all_below, sum_below, outcome_of}

abbrev g1 : Program
g1 = record {
  name = codes "main";
  north = false;
  west = false;
  boxes = record { command = send ((tree.unit, E) ∷ []); n = None; w = None } ∷ [];
  exits = Some (East 0) ∷ [];
} ∷ []

abbrev g2 : Program
g2 = record {
  name = codes "main";
  north = false;
  west = false;
  boxes = record { command = call (codes "bad"); n = None; w = None } ∷ [];
  exits = Some (East 0) ∷ [];
} ∷ record {
  name = codes "bad";
  north = false;
  west = false;
  boxes = record { command = send ((tree.unit, E) ∷ []); n = None; w = None } ∷ record { command = case tree.w S E; n = None; w = Some (East 0) } ∷ [];
  exits = Some (East 1) ∷ [];
} ∷ []

abbrev g9 : Program
g9 = record {
  name = codes "main";
  north = false;
  west = false;
  boxes = record { command = send []; n = None; w = None } ∷ [];
  exits = [];
} ∷ []

abbrev g10 : Program
g10 = record {
  name = codes "main";
  north = false;
  west = false;
  boxes = record { command = send ((tree.unit, E) ∷ []); n = None; w = None } ∷ record { command = split tree.w; n = None; w = Some (East 0) } ∷ record { command = call (codes "loop"); n = None; w = None } ∷ [];
  exits = Some (East 1) ∷ [];
} ∷ record {
  name = codes "loop";
  north = false;
  west = false;
  boxes = record { command = call (codes "loop"); n = None; w = None } ∷ [];
  exits = Some (East 0) ∷ [];
} ∷ []

abbrev g11 : Program
g11 = record {
  name = codes "main";
  north = false;
  west = false;
  boxes = record { command = send ((tree.inr (tree.inr (tree.inl tree.unit)), E) ∷ (tree.inr (tree.inr (tree.inr (tree.inl tree.unit))), S) ∷ []); n = None; w = None }
      ∷ record { command = call (codes "plus"); n = Some (East 0); w = Some (South 0) } ∷ [];
  exits = Some (East 1) ∷ [];
} ∷ record {
  name = codes "plus";
  north = true;
  west = true;
  boxes = record { command = case tree.n S E; n = Some North; w = None }
      ∷ record { command = send ((tree.w, S) ∷ (tree.w, E) ∷ []); n = None; w = Some West }
      ∷ record { command = send ((tree.w, E) ∷ []); n = Some (South 0); w = Some (East 1) }
      ∷ record { command = call (codes "plus"); n = Some (East 0); w = Some (South 1) }
      ∷ record { command = send ((tree.inr tree.w, E) ∷ []); n = None; w = Some (East 3) } ∷ [];
  exits = Some (East 2) ∷ Some (East 4) ∷ [];
} ∷ []

g1_means : mean g1 1 0 no_inputs ≡ Some (record { outcome = Gives unit; firings = 1; instances = 1 })
unfolding mean meaning_of returned pulled all_below sum_below outcome_of
g1_means = refl

g2_means : mean g2 2 0 no_inputs ≡ Some (record { outcome = Stuck (record { site = NoSum 1 1; callers = (0, 0) ∷ [] }); firings = 3; instances = 2 })
unfolding mean meaning_of returned pulled all_below sum_below outcome_of
g2_means = refl

g2_at_1 : mean g2 1 0 no_inputs ≡ None
unfolding mean meaning_of returned pulled all_below sum_below outcome_of
g2_at_1 = refl

g9_means : mean g9 1 0 no_inputs ≡ Some (record { outcome = Stuck (trail_of (NoResult 0)); firings = 1; instances = 1 })
unfolding mean meaning_of returned pulled all_below sum_below outcome_of
g9_means = refl

g10_at_20 : mean g10 20 0 no_inputs ≡ None
unfolding mean meaning_of returned pulled all_below sum_below outcome_of
g10_at_20 = refl

g11_means : mean g11 4 0 no_inputs
    ≡ Some (record { outcome = Gives (inr (inr (inr (inr (inr (inl unit)))))); firings = 13; instances = 4 })
unfolding mean meaning_of returned pulled all_below sum_below outcome_of
g11_means = refl

-- the table after at most n events
abbrev table_by : Program → Choice → ℕ → Table
table_by P picks n = after P (start P) (events_by P picks n 0 (start P))

abbrev outcome_by : Program → Choice → ℕ → Option Outcome
outcome_by P picks n = (instance_at (table_by P picks n) 0).outcome

g11_five : events_by g11 First 5 0 (start g11) ≡ Fire 0 0 ∷ Fire 0 1 ∷ Fire 1 0 ∷ Fire 1 1 ∷ Fire 1 3 ∷ []
unfolding mean meaning_of returned pulled all_below sum_below outcome_of step ready is_ready events_by
g11_five = refl

g11_first : outcome_by g11 First 17 ≡ Some (Gives (inr (inr (inr (inr (inr (inl unit)))))))
unfolding mean meaning_of returned pulled all_below sum_below outcome_of step ready is_ready events_by
g11_first = refl

g11_16 : outcome_by g11 First 16 ≡ None
unfolding mean meaning_of returned pulled all_below sum_below outcome_of step ready is_ready events_by
g11_16 = refl

g11_last : outcome_by g11 Last 17 ≡ Some (Gives (inr (inr (inr (inr (inr (inl unit)))))))
unfolding mean meaning_of returned pulled all_below sum_below outcome_of step ready is_ready events_by
g11_last = refl

g11_listed : outcome_by g11 (Listed (7 ∷ 0 ∷ 3 ∷ [])) 17 ≡ Some (Gives (inr (inr (inr (inr (inr (inl unit)))))))
unfolding mean meaning_of returned pulled all_below sum_below outcome_of step ready is_ready events_by
g11_listed = refl

g10_100 : length (events_by g10 First 40 0 (start g10)) ≡ 40
unfolding mean meaning_of returned pulled all_below sum_below outcome_of step ready is_ready events_by
g10_100 = refl

abbrev in_order : ℕ → List ℕ
in_order m = 0 ∷ 1 ∷ 2 ∷ 3 ∷ 4 ∷ []

g11_walk : walk g11 in_order 4 0 no_inputs ≡ Calls 0 ∷ Calls 1 ∷ Calls 1 ∷ Calls 1 ∷ Returns 1 ∷ Returns 1 ∷ Returns 0 ∷ []
unfolding mean meaning_of returned pulled all_below sum_below outcome_of walk
g11_walk = refl

g11_walk_2 : walk g11 in_order 2 0 no_inputs ≡ Calls 0 ∷ Calls 1 ∷ []
unfolding mean meaning_of returned pulled all_below sum_below outcome_of walk
g11_walk_2 = refl

g10_walk : length (walk g10 in_order 9 0 no_inputs) ≡ 9
unfolding mean meaning_of returned pulled all_below sum_below outcome_of walk
g10_walk = refl

-- main uses a, which uses b, which gives nothing
abbrev three_deep : Program
three_deep = record { name = codes "main"; north = false; west = false; boxes = record { command = call (codes "a"); n = None; w = None } ∷ []; exits = [] }
    ∷ record { name = codes "a"; north = false; west = false; boxes = record { command = call (codes "b"); n = None; w = None } ∷ []; exits = [] }
    ∷ record { name = codes "b"; north = false; west = false; boxes = record { command = send []; n = None; w = None } ∷ []; exits = [] } ∷ []

abbrev three_deep_trail : Trail
three_deep_trail = record { site = NoResult 2; callers = (1, 0) ∷ (0, 0) ∷ [] }

three_deep_means : mean three_deep 3 0 no_inputs ≡ Some (record { outcome = Stuck three_deep_trail; firings = 3; instances = 3 })
unfolding mean meaning_of returned pulled all_below sum_below outcome_of
three_deep_means = refl

three_deep_last : outcome_by three_deep Last 6 ≡ Some (Stuck three_deep_trail)
unfolding mean meaning_of returned pulled all_below sum_below outcome_of step ready is_ready events_by
three_deep_last = refl
