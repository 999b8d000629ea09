use Rattle.std.proofs.Common.{◌≡◌, subst, ◌^◌, arith, List}
use Rattle.std.specs.Prelude.{ℤ, IsTrue, None}
use Rattle.std.proofs.lemmas.Grind.{common_steps}
use Rattle.lin.specs.declared.form.Multiple.{Multiple}
use Rattle.lin.specs.Forms.{Form, AreWithin, IsCanonical, is_within_limits, plus_terms, combined}
use Rattle.lin.proofs.TermLemmas.{plus_terms-canonical}
use Rattle.lin.proofs.Limits.{within_limits-terms, combined-large}
use Rattle.std.proofs.lemmas.Int.{to_z-of_z}
use mir.Val.{SFits}
use mir.Syntax.{w64}
use Rattle.lin.proofs.form.Lin.plus_multiple.Goals as goal

pub combined_terms-requires-clause-room : goal.combined_terms-requires-clause-room
combined_terms-requires-clause-room c =
    let within : IsTrue (is_within_limits c.args.self.now) = grind (arith, common_steps) in
    rw c.terms.ensures.value (within_limits-terms c.args.self.now within)

pub combined_terms-requires-clause-small : goal.combined_terms-requires-clause-small
combined_terms-requires-clause-small c =
    let within : IsTrue (is_within_limits c.args.other.now) = grind (arith, common_steps) in
    rw c.terms-2.ensures.value (within_limits-terms c.args.other.now within)

large_of : (a b : Form) (k k' : ℤ) (ts us : List Multiple) → k' ≡ k → ts ≡ a.terms → us ≡ b.terms → (AreWithin (2 ^ 20) (plus_terms ts k' us) → ⊥) → combined a k b ≡ None
large_of a b k k' ts us ek et eu h =
    let Large : List Multiple → ℤ → List Multiple → Type 0 = λ xs n ys. AreWithin (2 ^ 20) (plus_terms xs n ys) → ⊥ in
    combined-large a b k (subst (λ (n : ℤ). Large a.terms n b.terms) ek (subst (λ (ys : List Multiple). Large a.terms k' ys) eu (subst (λ (xs : List Multiple). Large xs k' us) et h)))

pub returns-in_default-clause-limit : goal.returns-in_default-clause-limit
returns-in_default-clause-limit c = λ _.
    let fits : SFits w64 c.args.factor = c.ranges.factor in
    large_of c.args.self.now c.args.other.now c.args.factor _ c.terms.result.now c.terms-2.result.now (to_z-of_z w64 c.args.factor fits) c.terms.ensures.value c.terms-2.ensures.value
    (rw c.in_default.is at c.in_ok-terms.ensures)

canonical_of : (items ts us : List Multiple) (k : ℤ) → items ≡ plus_terms ts k us → IsCanonical ts → IsCanonical items
canonical_of items ts us k e h = rw e (plus_terms-canonical ts k us h)

pub invariant_of-sum : goal.invariant_of-sum
invariant_of-sum c = canonical_of c.in-Some.terms.items c.terms.result.now c.terms-2.result.now _ (rw c.in-Some.is at c.in_ok-terms.ensures) c.terms.ensures.canonical

pub invariant_of-sum-then-is_within_limits : goal.invariant_of-sum-then-is_within_limits
invariant_of-sum-then-is_within_limits c = canonical_of c.in-Some.terms.items c.terms.result.now c.terms-2.result.now _ (rw c.in-Some.is at c.in_ok-terms.ensures) c.terms.ensures.canonical
