-- The numbers that the code of `selftest` finds.
use Rattle.std.specs.Prelude.{◌≡◌, ◌<◌, ◌≤◌, ◌++◌, ℕ, List, length}
use Rattle.umix_base.specs.TextInMemory.{most_text}
use Rattle.um_word.specs.Loads.{state_in}
use Rattle.um_word.specs.Scroll.{most_scroll_bytes, scroll}
use Rattle.two_d.specs.Meaning.{Meaning}
use Rattle.two_d.specs.Texts.{text_of}
use Rattle.lower_link.specs.Completes.{Completed}
use Rattle.codex_top.specs.declared.selftest.Counts.{Counts}
use Rattle.codex_top.specs.declared.selftest.Numbers.{Numbers}
use Rattle.codex_top.specs.declared.selftest.Orders.{Orders}
use Rattle.codex_top.specs.Boxes.{boxes_in}
use Rattle.codex_top.specs.SelftestCommand.{Found, cycles_of, grid_bytes, run_alone}

-- the counts are those of the meaning
pub record AreCounts (r : Meaning) (counts : Counts) : Type 0 where
  pub firings : counts.firings ≡ r.firings
  pub instances : counts.instances ≡ r.instances

-- so they are of three orders
pub record AreOrders (r : Meaning) (orders : Orders) : Type 0 where
  pub first : AreCounts r orders.first
  pub last : AreCounts r orders.last
  pub listed : AreCounts r orders.listed

-- the numbers are those of what was found
pub record AreNumbers (number : ℕ) (found : Found number) (n : Numbers) : Type 0 where
  pub bytes : n.bytes ≡ grid_bytes number
  pub modules : n.modules ≡ length found.program
  pub boxes : n.boxes ≡ boxes_in found.program
  pub orders : AreOrders found.meaning n.orders
  pub text : n.ran.bytes ≡ length (text_of found.program found.meaning.outcome)
  pub words : n.words ≡ length found.words
  pub cycles : n.ran.cycles ≡ cycles_of found.words

-- The words are few enough for a scroll. Alone, their run writes only what begins a short text, and after so many
-- cycles it has halted with all of it.
pub record ComesToText (words : List ℕ) (cycles : ℕ) : Type 0 where
  pub text : List ℕ
  pub short : length text < most_text
  pub few : length (scroll words) ≤ most_scroll_bytes
  pub begins : (n : ℕ) → (more : List ℕ) × ((state_in (run_alone words n)).out ++ more ≡ text)
  pub halts : Completed text (run_alone words cycles)
