-- The finite map of a tree of files: what it has at a name, and after a change of one file.
use Rattle.std.proofs.Common.{◌≡◌, ℕ, Bool, true, false, cond, List, [], ◌∷◌, map, Option, Some, Vec, String, refl, sym, ◌∙◌, ap}
use Rattle.std.specs.Option.{option_map}
use Rattle.std.specs.Map.{lookup}
use Rattle.std.specs.BTreeMap.{BTreeMap, UpdatesBy, is_at}
use Rattle.std.specs.Ordering.{nat_cmp, eq_by_cmp}
use Rattle.std.specs.Cmp.{eq_by_cmp_equiv}
use Rattle.std.specs.Cmp.Lexicographic.{slice_cmp, nat_list_cmp_total}
use Rattle.std.specs.Str.{bytes_eq}
use Rattle.std.specs.String.{string_cmp, string_bytes}
use Rattle.std.specs.FinMap.{get, find, insert, same_map, get-insert, get-from_entries, slice_cmp-IsAntisymmetric, nat_cmp-IsAntisymmetric}
use Rattle.std.proofs.lemmas.Map.Text.{text_cmp, is_eq-slice_cmp, btree_map_updates_text}
use Rattle.std.specs.declared.alloc.Global.{Global}
use Rattle.umix_base.specs.ShelfView.{files_of}

option_map-cond : {A B : Type 0} (f : A → B) (b : Bool) (x : A) (o : Option A) (p : Option B) → p ≡ option_map f o → cond b (Some (f x)) p ≡ option_map f (cond b (Some x) o)
option_map-cond f true x o p e = refl
option_map-cond f false x o p e = e

find-entries : (es : List (String Global × Vec ℕ Global)) (q : List ℕ) → find (slice_cmp nat_cmp) q (map (λ e. (string_bytes e.0, e.1.items)) es) ≡ option_map (λ v. v.items) (lookup (is_at (text_cmp q)) es)
find-entries [] q = refl
find-entries (e ∷ es) q = option_map-cond (λ v. v.items) (eq_by_cmp (slice_cmp nat_cmp) q (string_bytes e.0)) e.1 _ _ (find-entries es q)

-- what the map has at the bytes of a name
pub get-files_of : (es : List (String Global × Vec ℕ Global)) (q : List ℕ) → get (files_of es) q ≡ option_map (λ v. v.items) (lookup (is_at (text_cmp q)) es)
get-files_of es q = get-from_entries nat_list_cmp_total _ q ∙ find-entries es q

-- a change of one file is an insertion
pub files_of-updates : (m n : BTreeMap (String Global) (Vec ℕ Global)) (name : List ℕ) (v : Vec ℕ Global) → UpdatesBy string_cmp (λ k. slice_cmp nat_cmp name (string_bytes k)) m n (Some v) → files_of n.entries ≡ insert (files_of m.entries) name v.items
files_of-updates m n name v updates =
    same_map nat_list_cmp_total (slice_cmp-IsAntisymmetric nat_cmp-IsAntisymmetric) _ _ (λ q.
    get-files_of n.entries q
    ∙ ap (option_map (λ v. v.items)) (btree_map_updates_text name m n (Some v) updates q)
    ∙ sym (option_map-cond (λ v. v.items) (bytes_eq name q) v _ _ (get-files_of m.entries q))
    ∙ ap (λ b. cond b (Some v.items) (get (files_of m.entries) q)) (sym (is_eq-slice_cmp name q) ∙ (eq_by_cmp_equiv nat_list_cmp_total).symm name q)
    ∙ sym (get-insert nat_list_cmp_total (files_of m.entries) name v.items q))
