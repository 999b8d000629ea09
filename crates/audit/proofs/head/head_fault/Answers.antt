use Rattle.std.proofs.Common.{◌≡◌, ◌∙◌, sym, refl, subst, inl, inr, All, List, ℕ}
use Rattle.algo.specs.View.{algorithm_of}
use Rattle.plan.specs.View.{plan_of}
use Rattle.plan.specs.Plan.{Group}
use Rattle.audit.proofs.Decided.{refuted, met}
use Rattle.audit.proofs.head.head_fault.Goals as goal

pub returns-then-not-name_is_same-clause-head : goal.returns-then-not-name_is_same-clause-head
returns-then-not-name_is_same-clause-head c = inl (refl, λ e. refuted c.name_is_same.result c.name_is_same.ensures c.if-not-name_is_same.true (e ∙ sym c.name.ensures))

pub returns-then-not-input_is_same-clause-head : goal.returns-then-not-input_is_same-clause-head
returns-then-not-input_is_same-clause-head c = inr (inl (
  refl,
  refuted c.input_is_same.result (c.input_is_same.ensures (algorithm_of c.args.algo.now) (sym c.input_name.ensures) (sym c.input_type.ensures) (sym c.input_extents.ensures)) c.if-not-input_is_same.true,
))

pub returns-then-not-output_is_same-clause-head : goal.returns-then-not-output_is_same-clause-head
returns-then-not-output_is_same-clause-head c = inr (inr (
  refl,
  inl
      (refuted c.output_is_same.result (c.output_is_same.ensures (algorithm_of c.args.algo.now) (record { name = sym c.output_name-output.ensures; ty = c.output_type.ensures; extents = sym c.output_extents-extents.ensures.extents })) c.if-not-output_is_same.true),
))

pub returns-then-not-some_group_is_of-clause-head : goal.returns-then-not-some_group_is_of-clause-head
returns-then-not-some_group_is_of-clause-head c = inr (inr (
  refl,
  inr
      (subst (λ (n : List ℕ). All (λ (g : Group). ¬ (g.function ≡ n)) (plan_of c.args.plan.now).groups) c.output_name-output.ensures (c.some_group_is_of.ensures.none c.if-not-some_group_is_of.true)),
))

pub returns-else-not-some_group_is_of-clause-head : goal.returns-else-not-some_group_is_of-clause-head
returns-else-not-some_group_is_of-clause-head c = record {
  name = met c.name_is_same.result c.name_is_same.ensures c.if-not-name_is_same.false ∙ c.name.ensures;
  input = met c.input_is_same.result (c.input_is_same.ensures (algorithm_of c.args.algo.now) (sym c.input_name.ensures) (sym c.input_type.ensures) (sym c.input_extents.ensures)) c.if-not-input_is_same.false;
  output = met c.output_is_same.result (c.output_is_same.ensures (algorithm_of c.args.algo.now) (record { name = sym c.output_name-output.ensures; ty = c.output_type.ensures; extents = sym c.output_extents-extents.ensures.extents })) c.if-not-output_is_same.false;
}

pub returns-else-not-some_group_is_of-clause-group : goal.returns-else-not-some_group_is_of-clause-group
returns-else-not-some_group_is_of-clause-group c = λ none.
    subst (λ (n : List ℕ). ¬ All (λ (g : Group). ¬ (g.function ≡ n)) (plan_of c.args.plan.now).groups) c.output_name-output.ensures (c.some_group_is_of.ensures.some c.if-not-some_group_is_of.false)
