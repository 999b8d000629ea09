-- The index at the place of a variable.
use Rattle.std.proofs.Common.{◌≡◌, ◌≢◌, ℕ, zero, suc, ◌+◌, ◌<◌, ◌≤◌, List, [], ◌∷◌, length, map, Bool, true, false, Option, Some, None, Result, Err, refl, sym, ap, ◌∙◌, subst, arith, add-one, get_or}
use Rattle.std.specs.Prelude.{string_bytes, min}
use Rattle.std.specs.declared.string.String.{String}
use Rattle.std.specs.Global.{Global}
use Rattle.tree.specs.Term.{Term, Terms, End, More, term_of}
use Rattle.tree.specs.Substitution.{put_in}
use Rattle.meaning.specs.Names.{same_name}
use Rattle.meaning.proofs.Cases.{name_same, name_differs}
use Rattle.meaning.specs.Inlining.PutIn.{index_for}
use Rattle.subst.specs.declared.error.SubstError.{SubstError}
use Rattle.subst.specs.declared.error.SubstError.TheVariants.{TooLarge}
use Rattle.subst.specs.declared.built.Built.{Built}
use Rattle.subst.specs.Limits.{IsWithin}
use Rattle.subst.specs.Built.{Makes, Holds}
use Rattle.subst.specs.Filled.{AreHeld, FillsName}

pub differ : (p q : List ℕ) → false ≡ same_name p q → p ≢ q
differ p q h e = let no : false ≡ true = h ∙ name_same p q e in absurd (cc)

-- none of the first k names is the name
abbrev pub Misses : List (String Global) → List ℕ → ℕ → Type 0
Misses [] name k = Unit {0}
Misses (x ∷ xs) name zero = Unit {0}
Misses (x ∷ xs) name (suc k) = (string_bytes x ≢ name) × Misses xs name k

pub misses_none : (names : List (String Global)) (name : List ℕ) → Misses names name 0
misses_none [] name = tt
misses_none (x ∷ xs) name = tt

misses_one_more : (names : List (String Global)) (name : List ℕ) (k : ℕ) (s : String Global) → s ≡ get_or names k s → string_bytes s ≢ name → Misses names name k → Misses names name (suc k)
misses_one_more [] name k s is d h = tt
misses_one_more (x ∷ xs) name zero s is d h = ((λ e. d (ap string_bytes is ∙ e)), misses_none xs name)
misses_one_more (x ∷ xs) name (suc k) s is d h = (h.0, misses_one_more xs name k s is d h.1)

pub misses_more : (names : List (String Global)) (name : List ℕ) (k : ℕ) (s : String Global) → s ≡ get_or names k s → string_bytes s ≢ name → Misses names name k → Misses names name (k + 1)
misses_more names name k s is d h = subst (Misses names name) (sym (add-one k)) (misses_one_more names name k s is d h)

-- the index that stands at the first place of the name
abbrev pub IndexAt : List (String Global) → Terms → List ℕ → Option Built → Type 0
IndexAt names held name o = (a : Term) × ((index_for (map string_bytes names) held name ≡ Some a) × Holds a o)

pub index_at : (names : List (String Global)) (at : List (Option Built)) (held : Terms) (name : List ℕ) (k : ℕ) (s : String Global) (o : Option Built) → k < length names → k < length at → s ≡ get_or names k s → o ≡ get_or at k o
    → Misses names name k → string_bytes s ≡ name → AreHeld held at → IndexAt names held name o
index_at [] at held name k s o h g is from m e kept = absurd (omega (arith, h))
index_at (x ∷ xs) [] held name k s o h g is from m e kept = absurd (omega (arith, g))
index_at (x ∷ xs) (p ∷ ps) End name k s o h g is from m e kept = absurd kept
index_at (x ∷ xs) (p ∷ ps) (More a rest) name zero s o h g is from m e kept =
    let pick : Bool → Option Term = λ b. elim b [ true ↦ Some a | false ↦ index_for (map string_bytes xs) rest name ] in
    (a, (ap pick (name_same (string_bytes x) name (ap string_bytes (sym is) ∙ e)), subst (Holds a) (sym from) kept.0))
index_at (x ∷ xs) (p ∷ ps) (More a rest) name (suc k) s o h g is from m e kept =
    let pick : Bool → Option Term = λ b. elim b [ true ↦ Some a | false ↦ index_for (map string_bytes xs) rest name ] in
    let r = index_at xs ps rest name k s o (omega (arith, h)) (omega (arith, g)) is from m.1 e kept.1 in
    (r.0, (ap pick (name_differs (string_bytes x) name m.0) ∙ r.1.0, r.1.1))

-- no place has the name
no_index : (names : List (String Global)) (at : List (Option Built)) (held : Terms) (name : List ℕ) (k : ℕ) → min (length names) (length at) ≤ k → Misses names name k → AreHeld held at → index_for (map string_bytes names) held name ≡ None
no_index [] at End name k le m kept = refl
no_index [] at (More a rest) name k le m kept = refl
no_index (x ∷ xs) at End name k le m kept = refl
no_index (x ∷ xs) [] (More a rest) name k le m kept = absurd kept
no_index (x ∷ xs) (p ∷ ps) (More a rest) name zero le m kept = absurd (omega (arith, le))
no_index (x ∷ xs) (p ∷ ps) (More a rest) name (suc k) le m kept =
    let pick : Bool → Option Term = λ b. elim b [ true ↦ Some a | false ↦ index_for (map string_bytes xs) rest name ] in
    ap pick (name_differs (string_bytes x) name m.0) ∙ no_index xs ps rest name k (omega (arith, le)) m.1 kept.1

module _ (names : List (String Global)) (at : List (Option Built)) (name : List ℕ) (k : ℕ) where
  pub fills_index : (s : String Global) (o : Option Built) (b : Built) (r : Result Built SubstError) → k < length names → k < length at → s ≡ get_or names k s → o ≡ get_or at k o
      → Misses names name k → string_bytes s ≡ name → o ≡ Some b → Makes (term_of b.expr) r → FillsName names at name r
  fills_index s o b r h g is from m e some copied = record {
    made = λ held kept.
        let f = index_at names at held name k s o h g is from m e kept in
        let holds : Holds f.0 (Some b) = subst (Holds f.0) some f.1.1 in
        subst (λ (t : Term). Makes t r) (holds ∙ sym (ap (λ (i : Option Term). put_in i name) f.1.0)) copied;
  }

  pub fills_large : (s : String Global) (o : Option Built) → k < length names → k < length at → s ≡ get_or names k s → o ≡ get_or at k o
      → Misses names name k → string_bytes s ≡ name → o ≡ None → FillsName names at name (Err TooLarge)
  fills_large s o h g is from m e none = record {
    made = λ held kept.
        let f = index_at names at held name k s o h g is from m e kept in
        let holds : ¬ IsWithin f.0 = subst (Holds f.0) none f.1.1 in
        subst (λ (t : Term). ¬ IsWithin t) (sym (ap (λ (i : Option Term). put_in i name) f.1.0)) holds;
  }

  pub fills_variable : (r : Result Built SubstError) → min (length names) (length at) ≤ k → Misses names name k → Makes (put_in None name) r → FillsName names at name r
  fills_variable r le m own = record {
    made = λ held kept. subst (λ (t : Term). Makes t r) (sym (ap (λ (i : Option Term). put_in i name) (no_index names at held name k le m kept))) own;
  }
