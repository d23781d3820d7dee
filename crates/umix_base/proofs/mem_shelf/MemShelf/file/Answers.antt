use Rattle.std.proofs.Common.{sym, ◌∙◌, ap, Some}
use Rattle.std.specs.Option.{option_map, option_copied}
use Rattle.std.specs.FinMap.{get}
use Rattle.umix_base.proofs.FilesLemmas.{get-files_of}
use Rattle.umix_base.proofs.mem_shelf.MemShelf.file.Goals as goal

pub returns-in-Some : goal.returns-in-Some
returns-in-Some c = record {
  contents =
      ap Some c.as_slice.ensures.value
      ∙ sym (ap (λ s. get s.held c.args.name.now) (sym c.self.view_is)
      ∙ get-files_of c.self.inside.files.entries c.args.name.now
      ∙ ap (option_map (λ v. v.items)) (sym c.get.ensures.value)
      ∙ ap (λ r. option_map (λ v. v.items) (option_copied r)) c.in-Some.is);
}

pub returns-in-None : goal.returns-in-None
returns-in-None c = record {
  contents =
      sym (ap (λ s. get s.held c.args.name.now) (sym c.self.view_is)
      ∙ get-files_of c.self.inside.files.entries c.args.name.now
      ∙ ap (option_map (λ v. v.items)) (sym c.get.ensures.value)
      ∙ ap (λ r. option_map (λ v. v.items) (option_copied r)) c.in-None.is);
}
