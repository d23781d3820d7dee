-- The laws of the templates with rows that say their operators.
use Rattle.std.proofs.Common.{ℕ, ◌+◌, List, ◌∷◌}
use Rattle.code_templates.specs.declared.template.Row.{Row}
use Rattle.code_templates.specs.Rows.{Say}
use Rattle.code_templates.specs.Templates as code
use Rattle.code_templates.specs.Laws.{runs_of, MakeCellLaw, SetSlotLaw, ChooseSlotLaw, ReadPartLaw, BranchOnSlotLaw, CallBlockLaw, TakeOutcomeLaw, ReturnOutcomeLaw, StartTextLaw, WriteByteLaw, PushWorkLaw, PopWorkLaw, GoToPartLaw, GoToTextLaw, HaltLaw, MakeTableLaw, CopyBlockLaw}
use Rattle.code_templates.proofs.BlockLaws.{make_cell_law, set_slot_law, choose_slot_law, read_part_law, branch_on_slot_law, call_block_law, take_outcome_law, return_outcome_law}
use Rattle.code_templates.proofs.PrinterLaws.{start_text_law, write_byte_law, push_work_law, pop_work_law, go_to_part_law, go_to_text_law, halt_law, make_table_law}
use Rattle.code_templates.proofs.CopyBlock.{copy_block_law}
use Rattle.code_templates.proofs.InRuns.{in_runs, arrived}

module _ (rows : List Row) where
  pub make_cell :
      ((a b i j d : ℕ) (more : List ℕ) →
      Say rows (a ∷ b ∷ i ∷ j ∷ d ∷ more) (code.make_cell a b i j d)) →
      MakeCellLaw (runs_of rows)
  unfolding MakeCellLaw
  make_cell say a b i j d table frame slots s comes f ha hb hd hi hj =
      in_runs _ _ s (make_cell_law a b i j d table frame slots s
      (arrived comes (say a b i j d comes.more)) f ha hb hd hi hj)

  pub set_slot :
      ((k d : ℕ) (more : List ℕ) →
      Say rows (k ∷ d ∷ more) (code.set_slot k d)) →
      SetSlotLaw (runs_of rows)
  unfolding SetSlotLaw
  set_slot say k d table frame slots s comes f hd =
      in_runs _ _ s (set_slot_law k d table frame slots s
      (arrived comes (say k d comes.more)) f hd)

  pub choose_slot :
      ((c a b d : ℕ) (more : List ℕ) →
      Say rows (c ∷ a ∷ b ∷ d ∷ more) (code.choose_slot c a b d)) →
      ChooseSlotLaw (runs_of rows)
  unfolding ChooseSlotLaw
  choose_slot say c a b d table frame slots s comes f hc ha hb hd =
      in_runs _ _ s (choose_slot_law c a b d table frame slots s
      (arrived comes (say c a b d comes.more)) f hc ha hb hd)

  pub read_part :
      ((x f d : ℕ) (more : List ℕ) →
      Say rows (x ∷ f ∷ d ∷ more) (code.read_part x f d)) →
      ReadPartLaw (runs_of rows)
  unfolding ReadPartLaw
  read_part say x f d table frame slots words s comes h part hx hd hf =
      in_runs _ _ s (read_part_law x f d table frame slots words s
      (arrived comes (say x f d comes.more)) h part hx hd hf)

  pub branch_on_slot :
      ((x none some : ℕ) (more : List ℕ) →
      Say rows (x ∷ none ∷ some ∷ more) (code.branch_on_slot x none some)) →
      BranchOnSlotLaw (runs_of rows)
  unfolding BranchOnSlotLaw
  branch_on_slot say x none some table frame slots s comes f hx =
      in_runs _ _ s (branch_on_slot_law x none some table frame slots s
      (arrived comes (say x none some comes.more)) f hx)

  pub call_block :
      ((n w callee size own back : ℕ) (more : List ℕ) →
      Say rows (n ∷ w ∷ callee ∷ size ∷ own ∷ back ∷ more) (code.call_block n w callee size own back)) →
      CallBlockLaw (runs_of rows)
  unfolding CallBlockLaw
  call_block say n w callee size own back table caller slots blocks block s comes five f hn hw hb hc block_is =
      in_runs _ _ s (call_block_law n w callee size own back table caller slots blocks block s
      (arrived comes (say n w callee size own back comes.more)) five f hn hw hb hc block_is)

  pub take_outcome :
      ((v x : ℕ) (more : List ℕ) →
      Say rows (v ∷ x ∷ more) (code.take_outcome v x)) →
      TakeOutcomeLaw (runs_of rows)
  unfolding TakeOutcomeLaw
  take_outcome say v x table frame slots s comes f hv hx =
      in_runs _ _ s (take_outcome_law v x table frame slots s
      (arrived comes (say v x comes.more)) f hv hx)

  pub return_outcome :
      ((more : List ℕ) →
      Say rows more code.return_outcome) →
      ReturnOutcomeLaw (runs_of rows)
  unfolding ReturnOutcomeLaw
  return_outcome say table frame slots blocks block s comes f long hb hc block_is =
      in_runs _ _ s (return_outcome_law table frame slots blocks block s
      (arrived comes (say comes.more)) f long hb hc block_is)

  pub start_text :
      ((value trail : ℕ) (more : List ℕ) →
      Say rows (value ∷ trail ∷ more) (code.start_text value trail)) →
      StartTextLaw (runs_of rows)
  unfolding StartTextLaw
  start_text say value trail table s comes =
      in_runs _ _ s (start_text_law value trail table s
      (arrived comes (say value trail comes.more)))

  pub write_byte :
      ((c : ℕ) (more : List ℕ) →
      Say rows (c ∷ more) (code.write_byte c)) →
      WriteByteLaw (runs_of rows)
  unfolding WriteByteLaw
  write_byte say c table current s comes small =
      in_runs _ _ s (write_byte_law c table current s
      (arrived comes (say c comes.more)) small)

  pub push_work :
      ((place : ℕ) (more : List ℕ) →
      Say rows (place ∷ more) (code.push_work place)) →
      PushWorkLaw (runs_of rows)
  unfolding PushWorkLaw
  push_work say place table current s comes =
      in_runs _ _ s (push_work_law place table current s
      (arrived comes (say place comes.more)))

  pub pop_work :
      ((more : List ℕ) →
      Say rows more code.pop_work) →
      PopWorkLaw (runs_of rows)
  unfolding PopWorkLaw
  pop_work say place table current next rest s comes item =
      in_runs _ _ s (pop_work_law place table current next rest s
      (arrived comes (say comes.more)) item)

  pub go_to_part :
      ((f place : ℕ) (more : List ℕ) →
      Say rows (f ∷ place ∷ more) (code.go_to_part f place)) →
      GoToPartLaw (runs_of rows)
  unfolding GoToPartLaw
  go_to_part say f place table current words s comes part hf =
      in_runs _ _ s (go_to_part_law f place table current words s
      (arrived comes (say f place comes.more)) part hf)

  pub go_to_text :
      ((j : ℕ) (more : List ℕ) →
      Say rows (j ∷ more) (code.go_to_text j)) →
      GoToTextLaw (runs_of rows)
  unfolding GoToTextLaw
  go_to_text say j table current words code s comes part some code_is inside small =
      in_runs _ _ s (go_to_text_law j table current words code s
      (arrived comes (say j comes.more)) part some code_is inside small)

  pub halt :
      ((more : List ℕ) →
      Say rows more code.halt) →
      HaltLaw (runs_of rows)
  unfolding HaltLaw
  halt say table current s comes =
      in_runs _ _ s (halt_law table current s
      (arrived comes (say comes.more)))

  pub make_table :
      ((count : ℕ) (more : List ℕ) →
      Say rows (count ∷ more) (code.make_table count)) →
      MakeTableLaw (runs_of rows)
  unfolding MakeTableLaw
  make_table say count table current s comes =
      in_runs _ _ s (make_table_law count table current s
      (arrived comes (say count comes.more)))

  pub copy_block :
      ((size i place loop done : ℕ) (more : List ℕ) →
      Say rows (size ∷ i ∷ place ∷ loop ∷ done ∷ more) (code.copy_block size i place loop done)) →
      CopyBlockLaw (runs_of rows)
  unfolding CopyBlockLaw
  copy_block say size i place table current blocks code s comes blocks_are inside code_is some whole small =
      in_runs _ _ s (copy_block_law size i place table current blocks code s
      (arrived comes (say size i place (s.finger + 3) (s.finger + 12) comes.more)) blocks_are inside code_is some whole small)
