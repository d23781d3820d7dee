-- Expressions and commands as plain trees.
use Rattle.std.specs.Prelude.{◌≤◌, ◌≢◌, ⊤, ℕ, ◌+◌, List, [], ◌∷◌, All, max, map}
use Rattle.two_d.specs.Names.{IsName}
use Rattle.two_d.specs.declared.command.Command.TheVariants as command
use Rattle.two_d.specs.declared.command.Command.{Command}
use Rattle.two_d.specs.declared.command.Exp.{Exp, Unit, Pair', Inl', Inr', N, W}
use Rattle.two_d.specs.declared.command.Side.{Side}

-- an expression
pub data Tree : Type 0 where
  unit n w : Tree
  pair : Tree → Tree → Tree
  inl inr : Tree → Tree

-- an expression without its boxes
abbrev pub tree_of : Exp → Tree
tree_of Unit = unit
tree_of N = n
tree_of W = w
tree_of (Pair' p a q b) = pair (tree_of a) (tree_of b)
tree_of (Inl' p a) = inl (tree_of a)
tree_of (Inr' p a) = inr (tree_of a)

-- a command
pub data Form : Type 0 where
  send : List (Tree × Side) → Form
  case : Tree → Side → Side → Form
  split : Tree → Form
  call : List ℕ → Form

-- what is sent, and where, without the places in memory
abbrev pub outs_of : List (Exp × Side) → List (Tree × Side)
outs_of outs = map (λ out. (tree_of out.0, out.1)) outs

-- a command without the places of its parts in memory
abbrev pub form_of : Command → Form
form_of (command.Send outs) = send (outs_of outs.items)
form_of (command.Case e s t) = case (tree_of e) s t
form_of (command.Split e) = split (tree_of e)
form_of (command.Call name) = call name

-- the levels of an expression that is written with no needless parentheses
abbrev pub depth : Tree → ℕ
depth unit = 1
depth n = 0
depth w = 0
depth (pair a b) = 1 + max (depth a) (depth b)
depth (inl a) = 1 + depth a
depth (inr a) = 1 + depth a

-- none, one, or two to different sides
abbrev pub AreApart : List (Tree × Side) → Type 0
AreApart [] = ⊤
AreApart (o ∷ []) = ⊤
AreApart (o ∷ p ∷ []) = o.1 ≢ p.1
AreApart (o ∷ p ∷ q ∷ more) = ⊥

-- a command that can be written
abbrev pub IsWithin : Form → Type 0
IsWithin (send outs) = All (λ o. depth o.0 ≤ 64) outs × AreApart outs
IsWithin (case e s t) = depth e ≤ 64
IsWithin (split e) = depth e ≤ 64
IsWithin (call name) = IsName name
