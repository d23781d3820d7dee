-- The first bytes of a file, one more than a command takes.
use Rattle.std.specs.Prelude.{◌≡◌, ℕ, ◌+◌, List, take, Result, Vec}
use Rattle.std.specs.declared.alloc.Global.{Global}
use Rattle.codex_top.specs.declared.line.Line.{Line}
use Rattle.codex_top.specs.Outside.{Shelved}
use Rattle.codex_top.specs.Reading.{ReadAs}

-- the bytes of the file, but of those past the first `most` only one
abbrev pub AreFirst : ℕ → (held : List ℕ) → Vec ℕ Global → Type 0
AreFirst most held bytes = bytes.items ≡ take (most + 1) held

-- no bytes are wrong
abbrev pub IsNeverWrong : List ℕ → Line → Type 0
IsNeverWrong held line = ⊥

abbrev pub FirstRead : (most : ℕ) (file : List ℕ) (before now : Shelved) →
    Result (Vec ℕ Global) Line → Type 0
FirstRead most = ReadAs (AreFirst most) IsNeverWrong
