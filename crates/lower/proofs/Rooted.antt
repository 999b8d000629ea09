-- The stored functions that have definitions and a region.
use Rattle.std.proofs.Common.{◌≡◌, ℕ, Bool, true, false, List, [], ◌∷◌, map, Option, Some, None, Ok, Err, refl, sym, ap, subst, ◌∙◌}
use Rattle.std.specs.Prelude.{if◌then◌else◌}
use Rattle.std.specs.Option.{option_map}
use Rattle.std.specs.Global.{Vec}
use Rattle.std.proofs.lemmas.Bool.{false≢true}
use Rattle.sched.specs.declared.definitions.Formula.{Formula}
use Rattle.sched.specs.declared.definitions.Stored.{Stored}
use Rattle.sched.specs.declared.roots.Laid.{Laid}
use Rattle.sched.specs.Stored.{FormulaText, formula_of, stored_of}
use Rattle.sched.specs.Regions.{LaidText, laid_of}
use Rattle.sched.specs.Fetches.{Entry}
use Rattle.sched.specs.declared.roots.Root.{Root}
use Rattle.sched.specs.declared.hosts.Inner.{Inner}
use Rattle.lower.specs.declared.parties.Party.{Party}
use Rattle.sched.specs.Groups.{root_of}
use Rattle.lower.specs.Groups.{HasNone, IsAlone, is_same, rooted_by, has_region}
use Rattle.blocks.proofs.First.{formulas_at, no_formulas}

-- ---- as a function's own definitions and region are found

by_parts : (is : Bool) (s : Stored) (l : Option Laid) (rest : List Entry) (o : Option (List FormulaText)) (m : Option Laid) → (stored_of s).formulas ≡ o → l ≡ m
    → rooted_by is (stored_of s) (stored_of s).formulas (option_map laid_of l) rest ≡ rooted_by is (stored_of s) o (option_map laid_of m) rest
by_parts is s l rest o m e h = λ i. rooted_by is (stored_of s) (e i) (option_map laid_of (h i)) rest

pub not_defined : (is : Bool) (s : Stored) (l : Option LaidText) (rest : List Entry) → s.formulas ≡ None → rest ≡ rooted_by is (stored_of s) (stored_of s).formulas l rest
not_defined is s l rest e = ap (λ o. rooted_by is (stored_of s) o l rest) (sym (no_formulas s e))

pub not_laid : (is : Bool) (s : Stored) (v : Vec Formula) (l : Option Laid) (rest : List Entry) → s.formulas ≡ Some v → l ≡ None
    → rest ≡ rooted_by is (stored_of s) (stored_of s).formulas (option_map laid_of l) rest
not_laid is s v l rest e h = sym (by_parts is s l rest (Some (map formula_of v.items)) None (formulas_at s v e) h)

pub of_other : (is : Bool) (s : Stored) (v : Vec Formula) (l : Option Laid) (x : Laid) (rest : List Entry) → s.formulas ≡ Some v → l ≡ Some x
    → is_same (stored_of s).subject.is_root is ≡ false → rest ≡ rooted_by is (stored_of s) (stored_of s).formulas (option_map laid_of l) rest
of_other is s v l x rest e h isnt = sym (by_parts is s l rest (Some (map formula_of v.items)) (Some x) (formulas_at s v e) h
    ∙ ap (λ (b : Bool). if b then (stored_of s, laid_of x, map formula_of v.items) ∷ rest else rest) isnt)

pub of_kind : (is : Bool) (s : Stored) (v : Vec Formula) (l : Option Laid) (x : Laid) (rest : List Entry) → s.formulas ≡ Some v → l ≡ Some x
    → is_same (stored_of s).subject.is_root is ≡ true → (stored_of s, laid_of x, map formula_of v.items) ∷ rest ≡ rooted_by is (stored_of s) (stored_of s).formulas (option_map laid_of l) rest
of_kind is s v l x rest e h is_so = sym (by_parts is s l rest (Some (map formula_of v.items)) (Some x) (formulas_at s v e) h
    ∙ ap (λ (b : Bool). if b then (stored_of s, laid_of x, map formula_of v.items) ∷ rest else rest) is_so)

pub no_entries : (rs : List Root) → map root_of rs ≡ [] → rs ≡ []
no_entries [] h = refl
no_entries (r ∷ rs) h = absurd cc

pub alone_at : (p : Party) (v : Vec Inner) → p.inners ≡ Ok v → IsAlone p → v.items ≡ []
alone_at p v e h = subst HasNone e h

-- what is computed inside its loops is known
pub alone_known : (p : Party) (x : List ℕ) → p.inners ≡ Err x → IsAlone p → ⊥
alone_known p x e h = subst HasNone e h

-- ---- whether a function has both

pub has_both : (s : Stored) (v : Vec Formula) (l : Option Laid) (x : Laid) → s.formulas ≡ Some v → l ≡ Some x → has_region (stored_of s).formulas (option_map laid_of l) ≡ true
has_both s v l x e h = λ i. has_region (formulas_at s v e i) (option_map laid_of (h i))

pub is_no_root : (s : Stored) (b : Bool) → (stored_of s).subject.is_root ≡ false → (stored_of s).subject.is_root ≡ true → b ≡ true
is_no_root s b isnt is_so = absurd (false≢true (sym isnt ∙ is_so))
