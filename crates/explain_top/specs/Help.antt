-- The help text.
use Rattle.std.specs.Prelude.{ℕ, List, ◌++◌, codes}

-- the words of both programs
abbrev pub help_text : List ℕ
help_text =
    codes "explain shows a person what a file is, and where its fault is. codex does the work.\n"
    ++ codes "\n"
    ++ codes "explain grid FILE    shows the drawing in FILE around its fault, and says what is wrong\n"
    ++ codes "explain stuck FILE   evaluates the program in FILE, and shows the boxes where it is stuck\n"
    ++ codes "explain asm FILE     lists the assembly text in FILE with its words, or shows its fault\n"
    ++ codes "explain help         this text\n"
    ++ codes "\n"
    ++ codes "codex check FILE              whether the drawing in FILE is a program\n"
    ++ codes "codex eval FILE [PICKS [N]]   the outcome of its program, after N events at most\n"
    ++ codes "codex trace FILE PICKS N      the same, with a line for each event\n"
    ++ codes "codex compile FILE OUT        a scroll of the program, under OUT\n"
    ++ codes "codex run FILE [N]            runs the scroll in FILE for N cycles at most\n"
    ++ codes "codex asm FILE OUT            the scroll of the assembly text in FILE, under OUT\n"
    ++ codes "codex dis FILE                the scroll in FILE as an assembly text\n"
    ++ codes "codex debug FILE INPUT        a session on the scroll in FILE, whose input is in INPUT\n"
    ++ codes "codex selftest N              makes the program of a number, checks, evaluates, compiles and runs it\n"
    ++ codes "codex draw FILE               draws the program in FILE anew, in one layout\n"
    ++ codes "codex type FILE SHEET         the program in FILE against the sheet of types in SHEET\n"
    ++ codes "codex save FILE N OUT         runs N cycles at most, and writes the machine's image under OUT\n"
    ++ codes "codex resume FILE N           goes on from the image in FILE for N cycles at most\n"
    ++ codes "\n"
    ++ codes "docs/EXPLAIN.md and docs/COMMANDS.md tell the rest.\n"
