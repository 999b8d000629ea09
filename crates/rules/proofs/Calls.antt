-- Calls in stored expressions answer values of their types.
use Rattle.std.proofs.Common.{◌≡◌, ℕ, true, false, Bool, List, length, Option, Some, None, refl, sym, ◌∙◌, subst, arith}
use Rattle.std.specs.Prelude.{ℤ, if◌then◌else◌, All, nat_lt, slice_get}
use Rattle.numeric.specs.Wrap.{IsOf}
use Rattle.tree.specs.declared.value.Value.{Value}
use Rattle.tree.specs.Names.{IsIndex, IsValueOf, TakesCall, called_type}
use Rattle.meaning.specs.Algorithm.{Function, Algorithm}
use Rattle.meaning.specs.Conditions.{IsAlgorithm}
use Rattle.meaning.specs.Functions.{AreSamples}
use Rattle.meaning.specs.Names.{same_name}
use Rattle.meaning.specs.Value.{calls_of}
use Rattle.meaning.proofs.Back.{finished}
use Rattle.meaning.proofs.Calls.{callable_input, input_called}
use Rattle.meaning.proofs.Cases.{name_same, same_name_is}
use Rattle.meaning.proofs.Typed.{before_answers, step_is_typed}
use Rattle.plan.specs.Claimed.{claim_of}
use Rattle.plan.specs.Plan.{Group, Plan}
use Rattle.plan.specs.Certificate.Certificate.{Certificate}
use Rattle.plan.specs.Semantics.Run.{Source, Input, ByClaim, Unknown, claim_source, source_of}
use Rattle.soundness.specs.Given.{function_named, claim_or_none, origin_value, outline_of, given_of}
use Rattle.soundness.specs.Origins.{Given, Reader, origin, done_for, source_answer, answer}
use Rattle.soundness.proofs.Calls.{stands}
use Rattle.headline.specs.Sound.{IsOnInput}
use Rattle.rules.specs.Bounding.Called.{call_of, source_call, called}

-- only the input's name means the input
claim_is_no_input : (count : ℕ) (o : Option ℕ) → claim_source count o ≡ Input → ⊥
claim_is_no_input count None e = absurd (cc e)
claim_is_no_input count (Some k) e = of (nat_lt k count) e
  where
    of : (v : Bool) → (if v then ByClaim k else Unknown) ≡ Input → ⊥
    of true h = absurd (cc h)
    of false h = absurd (cc h)

input_name : (input : List ℕ) (count : ℕ) (name : List ℕ) → source_of input count name ≡ Input → name ≡ input
input_name input count name e = of (same_name name input) refl e
  where
    of : (v : Bool) → same_name name input ≡ v → (if v then Input else claim_source count (claim_of name)) ≡ Input → name ≡ input
    of true h k = same_name_is name input h
    of false h k = absurd (claim_is_no_input count (claim_of name) k)

module _ (a : Algorithm) (samples : List ℕ) (w : IsAlgorithm a) (in_type : AreSamples a samples) where
  input_typed : (at : List ℤ) → All IsIndex at → IsValueOf a.input_ty (calls_of a samples a.input at)
  input_typed at h =
      let is = before_answers a samples w in_type 0 (omega arith) a.input (a.input_ty, length a.input_extents) (callable_input a a.input (name_same a.input a.input refl)) at h in
      subst (λ (v : Value). IsValueOf a.input_ty v) (sym (input_called a w.names samples at)) (record { ty = is.ty; within = is.within })

  function_typed : (name : List ℕ) (o : Option Function) → function_named a.functions name ≡ o → (d : ℕ) (at : List ℤ) → TakesCall (call_of o) (length at) → All IsIndex at →
      IsValueOf (called_type (call_of o)) (origin_value a samples o (origin name d at))
  function_typed name None e d at t h = absurd t
  function_typed name (Some f) e d at t h =
      let r = stands a.functions name f e in
      record { ty = refl; within = subst (IsOf f.ty) (finished a r.0 f w r.1 samples d at) (step_is_typed a samples w in_type r.0 f r.1 d at h) }

  module _ (p : Plan) (c : Certificate) (n : ℕ) (g : Group) (on : IsOnInput a p) (r : Reader) where
    abbrev G : Given
    G = given_of a samples (outline_of p c n g)

    source_typed : (name : List ℕ) (at : List ℤ) (x : Source) → source_of p.input.name (length c.claims) name ≡ x → TakesCall (source_call a p c x) (length at) → All IsIndex at →
        IsValueOf (called_type (source_call a p c x)) (source_answer G r x name at)
    source_typed name at Input e t h =
        let is : name ≡ a.input = input_name p.input.name (length c.claims) name e ∙ on.name in
        subst (λ m. IsValueOf a.input_ty (calls_of a samples m at)) (sym is) (input_typed at h)
    source_typed name at (ByClaim k) e t h =
        let f = (claim_or_none (slice_get c.claims k)).function in
        function_typed f (function_named a.functions f) refl (done_for G r k) at t h
    source_typed name at Unknown e t h = absurd t

    pub answers_typed : (name : List ℕ) (at : List ℤ) → TakesCall (called a p c name) (length at) → All IsIndex at → IsValueOf (called_type (called a p c name)) (answer G r name at)
    answers_typed name at t h = source_typed name at (source_of p.input.name (length c.claims) name) refl t h
