-- The blocks so far are copied.
use Rattle.std.specs.Prelude.{◌≡◌, ◌+◌, ◌*◌, ◌++◌}
use Rattle.code_templates.specs.Templates.{make_table}
use Rattle.lower_link.specs.inner.Boot.{copies}
use Rattle.lower_link.specs.inner.Drafts.{DraftAdds}
use Rattle.lower_link.specs.inner.Made.{places_of}
use Rattle.lower_link.proofs.linking.put_boot.Given as goal

abbrev pub invariant-loop-place : goal.invariant-loop-place
invariant-loop-place l = record {
  number : l.number ≡ l.place-index;
  at : l.at ≡ 2 + 14 * l.place-index;
  code : DraftAdds l.fn.draft l.draft (make_table l.count ++ copies (places_of l.place-items) 0 l.place-index 2);
}
