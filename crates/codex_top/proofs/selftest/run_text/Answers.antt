use Rattle.std.proofs.Common.{◌≡◌, length, sym, ap, ◌∙◌, inl, inr}
use Rattle.um_machine.specs.declared.stop.Stop.TheVariants.{Halted, Memory}
use Rattle.codex_top.proofs.Selftesting.{how_it_stops}
use Rattle.codex_top.proofs.selftest.run_text.Goals as goal

pub start-requires : goal.start-requires
start-requires c = c.requires.comes.few

pub returns-in-Halted-clause-cycles : goal.returns-in-Halted-clause-cycles
returns-in-Halted-clause-cycles c =
    elim (how_it_stops c.args.words.items c.args.cycles c.requires.comes c.in-Ok.machine c.run-stop.new.self c.new-nothing.result c.in_ok-text.text
    c.run-stop.new.out _ c.run-stop.result c.in-Ok.ensures.machine (c.new-nothing.ensures.rest ∙ c.new.ensures.items) c.in_ok-text.ensures
    c.run-stop.ensures.run c.run-stop.ensures.input.rose c.run-stop.ensures.out.rose c.bytes-bytes.ensures.whole) [
      | inl none ↦ let clash : Halted ≡ Memory = sym c.in-Halted.is ∙ none in absurd (cc)
      | inr halted ↦ c.cycles.ensures ∙ halted.1
    ]

pub returns-in-Halted-clause-bytes : goal.returns-in-Halted-clause-bytes
returns-in-Halted-clause-bytes c =
    elim (how_it_stops c.args.words.items c.args.cycles c.requires.comes c.in-Ok.machine c.run-stop.new.self c.new-nothing.result c.in_ok-text.text
    c.run-stop.new.out _ c.run-stop.result c.in-Ok.ensures.machine (c.new-nothing.ensures.rest ∙ c.new.ensures.items) c.in_ok-text.ensures
    c.run-stop.ensures.run c.run-stop.ensures.input.rose c.run-stop.ensures.out.rose c.bytes-bytes.ensures.whole) [
      | inl none ↦ let clash : Halted ≡ Memory = sym c.in-Halted.is ∙ none in absurd (cc)
      | inr halted ↦ ap length (c.bytes-bytes.ensures.bytes ∙ halted.2)
    ]

pub unreachable-requires : goal.unreachable-requires
unreachable-requires c =
    elim (how_it_stops c.args.words.items c.args.cycles c.requires.comes c.in-Ok.machine c.run-stop.new.self c.new-nothing.result c.in_ok-text.text
    c.run-stop.new.out _ c.run-stop.result c.in-Ok.ensures.machine (c.new-nothing.ensures.rest ∙ c.new.ensures.items) c.in_ok-text.ensures
    c.run-stop.ensures.run c.run-stop.ensures.input.rose c.run-stop.ensures.out.rose c.bytes-bytes.ensures.whole) [
      | inl none ↦ c.in_default-stop.not-Memory none
      | inr halted ↦ c.in_default-stop.not-Halted halted.0
    ]
