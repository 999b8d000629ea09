-- No name that a text can have reads as a load by a claim.
use Rattle.std.proofs.Common.{◌≡◌, ℕ, zero, suc, Bool, ◌&&◌, List, [], ◌∷◌, Some, None, refl, ap, subst}
use Rattle.std.specs.Prelude.{if◌then◌else◌, slice_get}
use Rattle.std.specs.List.{AllByRecursion}
use Rattle.std.proofs.lemmas.List.Elements.{recursion_from_All}
use Rattle.meaning.specs.Algorithm.{Algorithm}
use Rattle.algo.specs.Words.{IsName, IsFunctionNamed, IsNamed}
use Rattle.algo.proofs.Words.{begins_without_at}
use Rattle.plan.specs.Claimed.{is_numeral, digits_after, claim_of}
use Rattle.completeness.specs.Laws.{NamesNoLoad}
use Rattle.completeness.proofs.Owned.{some_same}

no_load : (x : List ℕ) → IsName x → claim_of x ≡ None
no_load [] h = refl
no_load (b ∷ bs) h = ap (λ (t : Bool). if t && is_numeral bs then Some (digits_after 0 bs) else None) (begins_without_at b bs h)

at_each : {A : Type 0} (P : A → Type 0) (xs : List A) (i : ℕ) (x : A) → AllByRecursion P xs → slice_get xs i ≡ Some x → P x
at_each P [] i x h e = absurd (cc e)
at_each P (y ∷ xs) zero x h e = subst P (some_same y x e) h.0
at_each P (y ∷ xs) (suc i) x h e = at_each P xs i x h.1 e

pub named_no_load : (a : Algorithm) → IsNamed a → NamesNoLoad a
named_no_load a h =
    record {
      input = no_load a.input h.input;
      functions = λ k f at. no_load f.name (at_each IsFunctionNamed a.functions k f (recursion_from_All IsFunctionNamed a.functions h.functions) at).name;
    }
