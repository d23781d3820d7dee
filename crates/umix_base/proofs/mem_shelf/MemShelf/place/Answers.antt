use Rattle.std.proofs.Common.{◌≡◌, ◌∙◌, ap, List, ℕ}
use Rattle.std.specs.FinMap.{insert}
use Rattle.std.specs.String.{string_bytes}
use Rattle.umix_base.specs.ShelfView.{files_of}
use Rattle.umix_base.proofs.FilesLemmas.{files_of-updates}
use Rattle.umix_base.proofs.mem_shelf.MemShelf.place.Goals as goal

pub returns-clause-ok : goal.returns-clause-ok
returns-clause-ok c =
    let stored : files_of c.insert.new.self.entries ≡ insert (files_of c.self.inside.files.entries) c.args.name.now c.args.bytes.items =
    files_of-updates c.self.inside.files c.insert.new.self (string_bytes c.in_ok-name.name) c.args.bytes c.in_ok-insert.ensures.updates
    ∙ ap (λ (n : List ℕ). insert (files_of c.self.inside.files.entries) n c.args.bytes.items) c.in_ok-name.ensures.ok in
    rw (← c.self.view_is) (cc stored)
