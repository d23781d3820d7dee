-- How the fields of a shelf in memory are seen as its state.
use Rattle.std.specs.Prelude.{ℕ, List, map, Option, Vec, String, refl}
use Rattle.std.specs.String.{string_bytes}
use Rattle.std.specs.Coded.{Coded, code_by, coded×, coded_list, coded_option, coded_ℕ}
use Rattle.std.specs.FinMap as files
use Rattle.std.specs.declared.alloc.Global.{Global}
use Rattle.umix_base.specs.Files.{Files}
use Rattle.umix_base.specs.ShelfInMemory.{ShelfInMemory}
use Rattle.umix_base.specs.declared.mem_shelf.ShelfFail.{ShelfFail}

-- the finite map of the entries of a tree of names
abbrev pub files_of : List (String Global × Vec ℕ Global) → Files
files_of entries = files.from_entries (map (λ e. (string_bytes e.0, e.1.items)) entries)

-- a code of an entry, and of a shelf: the tuple of its fields
abbrev pub shelf_fail_code : Coded ShelfFail
shelf_fail_code =
    code_by (ℕ × Option ℕ) (coded× coded_ℕ (coded_option coded_ℕ)) (λ f. (f.call, f.kept))
    (λ p. record { call = p.0; kept = p.1 }) (λ _. refl)

abbrev pub shelf_code : Coded ShelfInMemory
shelf_code =
    code_by (Files × (List ShelfFail × (ℕ × (ℕ × ℕ))))
    (coded× (files.code (coded_list coded_ℕ) (coded_list coded_ℕ))
    (coded× (coded_list shelf_fail_code) (coded× coded_ℕ (coded× coded_ℕ coded_ℕ))))
    (λ s. (s.held, (s.fails, (s.calls, (s.read_faults, s.write_faults)))))
    (λ p. record { held = p.0; fails = p.1.0; calls = p.1.1.0; read_faults = p.1.1.1.0; write_faults = p.1.1.1.1 })
    (λ _. refl)
