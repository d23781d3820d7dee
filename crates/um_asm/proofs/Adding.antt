-- One more definition in a map.
use Rattle.std.proofs.Common.{◌≡◌, ℕ, nat_eq, Bool, true, false, cond, ◌&&◌, List, [], ◌∷◌, Option, Some, None, is_some, refl, sym, ◌∙◌, ap, arith}
use Rattle.std.specs.Option.{option_map, option_eq, option_or}
use Rattle.std.specs.Str.{bytes_eq}
use Rattle.std.specs.HashMap.{get}
use Rattle.std.proofs.lemmas.Slice.Eq.{bytes_eq-Decides}
use Rattle.um_asm.specs.declared.labels.Name.{Name}
use Rattle.um_asm.specs.declared.labels.Definition.{Definition}
use Rattle.um_asm.specs.inner.Definitions.{Definitions, meaning_in, named_by, Adds}

-- a name as the code keeps it, at any place in memory
abbrev key_of : Option ℕ → List ℕ → Name
key_of scope name = record { scope = scope; text = record { ref_ptr = (0, 0); now = name } }

-- how the map compares names
abbrev pub same_name : Name → Name → Bool
same_name a b = option_eq nat_eq a.scope b.scope && bytes_eq a.text.now b.text.now

and_parts : (x y : Bool) → (x && y) ≡ true → (x ≡ true) × (y ≡ true)
and_parts true y h = (refl, h)
and_parts false y h = cc

scope_same : (a b : Option ℕ) → option_eq nat_eq a b ≡ true → a ≡ b
scope_same None None h = refl
scope_same None (Some b) h = cc
scope_same (Some a) None h = cc
scope_same (Some a) (Some b) h = let same : a ≡ b = grind (arith, h) in ap Some same

nothing_known : (o : Option Definition) → is_some o ≡ false → o ≡ None
nothing_known None h = refl
nothing_known (Some d) h = cc

or_none : (o : Option Definition) → option_or o None ≡ o
or_none None = refl
or_none (Some d) = refl

-- a name that is absent is added
pub adds_absent : (m n : Definitions) (name : Name) (d : Definition) → ((q : Name) → get same_name n q ≡ cond (same_name name q) (Some d) (get same_name m q))
    → is_some (meaning_in m name.scope name.text.now) ≡ false → Adds m n (named_by name d ∷ [])
adds_absent m n name d updates absent scope text = updates (key_of scope text) ∙ by_test (same_name name (key_of scope text)) refl
  where
    by_test : (b : Bool) → same_name name (key_of scope text) ≡ b → cond b (Some d) (meaning_in m scope text) ≡ option_or (meaning_in m scope text) (option_map (λ d. d.definition) (cond b (Some (named_by name d)) None))
    by_test false e = sym (or_none (meaning_in m scope text))
    by_test true e =
        let parts = and_parts (option_eq nat_eq name.scope scope) (bytes_eq name.text.now text) e in
        let same_scope : name.scope ≡ scope = scope_same name.scope scope parts.0 in
        let same_text : name.text.now ≡ text = (bytes_eq-Decides name.text.now text).0 parts.1 in
        let here : meaning_in m scope text ≡ None = rw (← same_scope, ← same_text) (nothing_known (meaning_in m name.scope name.text.now) absent) in
        rw here refl
