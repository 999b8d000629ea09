-- Expressions whose names were looked up: their variables, calls and indices.
use Rattle.std.proofs.Common.{◌≡◌, ℕ, suc, ◌<◌, ◌^◌, List, [], ◌∷◌, ◌++◌, length, take, drop, append_assoc, Bool, true, false, refl, sym, ap, ◌∙◌, ℤ, Option, Some, None}
use Rattle.std.proofs.Math.Seq.{take-append_seam}
use Rattle.std.proofs.lemmas.List.{take-append-drop}
use Rattle.std.specs.Bool.{MatchBool}
use Rattle.std.specs.Prelude.{nat_lt, if◌then◌else◌}
use Rattle.plan.specs.Semantics.Found.{with}
use Rattle.meaning.specs.Names.{bound, same_name}
use Rattle.meaning.proofs.Cases.{same_name_is}
use Rattle.plan.specs.Claimed.{claim_of}
use Rattle.plan.specs.Semantics.Run.{claim_source, source_of, ByClaim, Input, Unknown}
use Rattle.plan.specs.Plan.{Statement, Seq, For, Let, First, Guard, Alloc, Fetch, Store, Publish, Statements, Empty, Then}
use Rattle.numeric.specs.declared.ty.Ty.{Ty}
use Rattle.std.specs.Option.{option_map}
use Rattle.tree.specs.Meaning.{typed}
use Rattle.tree.specs.declared.value.Value.{Value}
use Rattle.interpreter.specs.Claims.{Means}
use Rattle.interpreter.specs.Codes.{StandsAtPlace}
use Rattle.interpreter.proofs.Indices.{drop-append_seam}
use Rattle.interpreter.specs.LineCodes.{BlockIsCoded, StatementIsCoded}

-- the first name is it
pub stands_first : (x : List ℕ) (xs : List (List ℕ)) (name : List ℕ) → same_name x name ≡ true → StandsAtPlace (x ∷ xs) name 0
stands_first x xs name e [] = refl
stands_first x xs name e (z ∷ zs) = ap (λ (b : Bool). elim b [ true ↦ z | false ↦ bound xs zs name ]) e

-- or a later one
pub stands_later : (x : List ℕ) (xs : List (List ℕ)) (name : List ℕ) (k : ℕ) → same_name x name ≡ false → StandsAtPlace xs name k → StandsAtPlace (x ∷ xs) name (suc k)
stands_later x xs name k e h [] = refl
stands_later x xs name k e h (z ∷ zs) = ap (λ (b : Bool). elim b [ true ↦ z | false ↦ bound xs zs name ]) e ∙ h zs

-- a name that means one of these claims is not the input's, which means none
pub means_claim : (input name : List ℕ) (count k : ℕ) → count < 2 ^ 64 → nat_lt k count ≡ true → Means name (Some k) → Means input None → source_of input count name ≡ ByClaim k
means_claim input name count k few inside means none = by (same_name name input) refl
  where
    is : claim_source count (claim_of name) ≡ ByClaim k
    is = sym (means count few) ∙ ap (λ (t : Bool). if t then ByClaim k else Unknown) inside

    by : (t : Bool) → same_name name input ≡ t → (if t then Input else claim_source count (claim_of name)) ≡ ByClaim k
    by true e =
        let both : name ≡ input = same_name_is name input e in
        let f : Unknown ≡ ByClaim k = none count few ∙ ap (λ (l : List ℕ). claim_source count (claim_of l)) (sym both) ∙ is in
        absurd (cc)
    by false e = is

-- a type and a number that are found are a value
pub told : (r : Option Ty) (t : Ty) (z : ℤ) (f : Option Value) → r ≡ Some t → option_map (λ u. typed u z) r ≡ f → f ≡ Some (typed t z)
told r t z f is e = sym e ∙ ap (option_map (λ u. typed u z)) is

-- and where no type is, nothing is found
pub told_none : (r : Option Ty) (z : ℤ) (f : Option Value) → r ≡ None → option_map (λ u. typed u z) r ≡ f → f ≡ None
told_none r z f is e = sym e ∙ ap (option_map (λ u. typed u z)) is

-- what stands behind a number that was put behind others
split : (old new : List ℤ) (z : ℤ) → take (length (old ++ z ∷ [])) new ≡ old ++ z ∷ [] → new ≡ old ++ (z ∷ drop (length (old ++ z ∷ [])) new)
split old new z h =
    let n = length (old ++ z ∷ []) in
    sym (take-append-drop n new) ∙ ap (λ (l : List ℤ). l ++ drop n new) h ∙ append_assoc old (z ∷ []) (drop n new)

pub front_stays : (old new : List ℤ) (z : ℤ) → take (length (old ++ z ∷ [])) new ≡ old ++ z ∷ [] → take (length old) new ≡ old
front_stays old new z h = ap (take (length old)) (split old new z h) ∙ take-append_seam old (z ∷ drop (length (old ++ z ∷ [])) new)

pub number_behind : (old new : List ℤ) (z : ℤ) → take (length (old ++ z ∷ [])) new ≡ old ++ z ∷ [] → drop (length old) new ≡ z ∷ drop (length (old ++ z ∷ [])) new
number_behind old new z h = ap (drop (length old)) (split old new z h) ∙ drop-append_seam old (z ∷ drop (length (old ++ z ∷ [])) new)

-- one index and the others, where they are found or are not
pub one_more_found : (b : Bool) (all rest : Option (List ℤ)) (f : Option Value) (v : Value) (zs ws : List ℤ) → all ≡ with f (λ x. with rest (λ ys. Some (x.number ∷ ys)))
    → f ≡ Some v → ws ≡ v.number ∷ zs
    → MatchBool b (rest ≡ Some zs) (rest ≡ None) → MatchBool b (all ≡ Some ws) (all ≡ None)
one_more_found true all rest f v zs ws is here more h = is ∙ (λ i. with (here i) (λ x. with (h i) (λ ys. Some (x.number ∷ ys)))) ∙ ap Some (sym more)
one_more_found false all rest f v zs ws is here more h = is ∙ (λ i. with (here i) (λ x. with (h i) (λ ys. Some (x.number ∷ ys))))

mutual
  pub none_coded : (a : Statement) → StatementIsCoded [] a
  none_coded (Seq all) = none_coded_all all
  none_coded (For i x kind body) = none_coded body
  none_coded (Let i pick forms) = tt
  none_coded (First i a b) = (none_coded a, none_coded b)
  none_coded (Guard low high body) = none_coded body
  none_coded (Alloc b f places) = tt
  none_coded (Fetch b g region) = tt
  none_coded (Store b k at e) = tt
  none_coded (Publish c) = tt

  none_coded_all : (all : Statements) → BlockIsCoded [] all
  none_coded_all Empty = tt
  none_coded_all (Then a rest) = (none_coded a, none_coded_all rest)
