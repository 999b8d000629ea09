use Rattle.std.proofs.Common.{◌≡◌, sym, ap, ◌∙◌, subst, map, string_bytes, rules}
use Rattle.std.proofs.Math.Logic.{∥∥₁_elim, ∥∥₁_prop}
use Rattle.meaning.specs.Image.View.{AreExtents, IsSampleType}
use Rattle.meaning.specs.Conditions.{IsAlgorithm, IsOutput, function_named}
use Rattle.std.specs.Prelude.{MatchOption, IsSome, IfSome}
use Rattle.expr.specs.Statements.View.{file_text, output_text, statement_text}
use Rattle.algo.specs.declared.error.Code.{Code}
use Rattle.algo.specs.Keeping.{KeepsOutput}
use Rattle.algo.specs.Saying.{says, functions_said, FollowFunctions}
use Rattle.algo.specs.Refusal.{IsRead}
use Rattle.algo.specs.declared.error.Code.TheVariants.{Name, IndexCount, Limit, SampleType}
use Rattle.algo.specs.Parts.{functions_of, algorithm_from, output_type}
use Rattle.algo.specs.Context.{function_names, only_input}
use Rattle.algo.proofs.Whole.{distinct_tail, function_whole, is_output, type_at}
use Rattle.algo.proofs.file.read_file.Goals as goal

pub by_name-requires : goal.by_name-requires
by_name-requires c = distinct_tail (string_bytes c.in_ok-input.input.name) (function_names (functions_of c.in_ok-functions.functions.items)) c.in_ok-functions.ensures.functions.names

pub invariant_of-result : goal.invariant_of-result
invariant_of-result c =
    let name = c.in_ok-clone.field-0 in
    let input = c.in_ok-input.input in
    let output = c.in_ok-output.output in
    let entries = c.in_ok-functions.functions.items in
    let fs = functions_of entries in
    let text = output_text c.args.file.now.output in
    let all : c.deref-3.result.now ≡ entries = c.deref-3.ensures.value in
    let keeps : (code : Code) → KeepsOutput fs code text = λ code. subst (λ es. KeepsOutput (functions_of es) code text) all (c.in_ok-output.ensures.kept code) in
    let own : IfSome (function_named fs text.name) (λ f. output.shape.ty ≡ f.ty) = subst (λ es. IfSome (function_named (functions_of es) text.name) (λ f. output.shape.ty ≡ f.ty)) all c.in_ok-output.ensures.ty in
    let there : MatchOption (function_named fs text.name) ⊥ (IsOutput text.extents) = is_output (function_named fs text.name) text.extents (keeps Name) (keeps IndexCount) (keeps SampleType) in
    let at : MatchOption (function_named fs (string_bytes output.name)) ⊥ (IsOutput output.shape.extents.items) =
    subst (λ xs. MatchOption (function_named fs (string_bytes output.name)) ⊥ (IsOutput xs)) (sym c.in_ok-output.ensures.extents)
    (subst (λ n. MatchOption (function_named fs n) ⊥ (IsOutput text.extents)) (sym c.in_ok-output.ensures.name) there) in
    let is : IsAlgorithm (algorithm_from name input entries output) = record {
      input_sampled = subst IsSampleType (sym c.in_ok-input.ensures.ty) c.in_ok-input.ensures.kept.1;
      input_extents = subst AreExtents (sym c.in_ok-input.ensures.extents) c.in_ok-input.ensures.kept.0;
      few = c.in_ok-functions.ensures.functions.few;
      names = c.in_ok-functions.ensures.functions.names;
      functions = λ k f h. function_whole (only_input input) (string_bytes name) fs (string_bytes output.name) output.shape.extents.items _ f (c.in_ok-functions.ensures.functions.functions k f h);
      output = at;
      output_extents = subst AreExtents (sym c.in_ok-output.ensures.extents) (keeps Limit);
    } in
    let ty : output.shape.ty ≡ output_type (algorithm_from name input entries output) =
    type_at (function_named fs (string_bytes output.name)) output.shape.ty (subst (λ n. IsSome (function_named fs n)) (sym c.in_ok-output.ensures.name) (keeps Name))
    (subst (λ n. IfSome (function_named fs n) (λ f. output.shape.ty ≡ f.ty)) (sym c.in_ok-output.ensures.name) own) in
    let file = file_text c.args.file.now in
    let statements = c.deref-2.ensures.value in
    let follow : FollowFunctions file.statements = subst (λ ss. FollowFunctions (map statement_text ss)) statements c.in_ok-functions.ensures.follow in
    let functions = c.in_ok-functions.ensures.said ∙ ap (λ ss. functions_said (map statement_text ss)) statements in
    let own_name : string_bytes name ≡ file.name = search rules in
    let said : algorithm_from name input entries output ≡ says file = λ i. record {
      name = own_name i;
      input = c.in_ok-input.ensures.name i;
      input_ty = c.in_ok-input.ensures.ty i;
      input_extents = c.in_ok-input.ensures.extents i;
      functions = functions i;
      output = c.in_ok-output.ensures.name i;
      output_extents = c.in_ok-output.ensures.extents i;
    } in
    let read : IsRead (algorithm_from name input entries output) = ∥∥₁_elim c.requires.read ∥∥₁_prop (λ t.
    ∣ (t.0, record { file = file; found = t.1.found; only = t.1.only; said = said; kept = record { updates = follow; algorithm = subst IsAlgorithm said is } }) ∣₁) in
    record {
      well_formed = subst (λ es. IsAlgorithm (algorithm_from name input es output)) (sym c.in_ok-by_name.ensures.entries) is;
      output_typed = subst (λ es. output.shape.ty ≡ output_type (algorithm_from name input es output)) (sym c.in_ok-by_name.ensures.entries) ty;
      read = subst (λ es. IsRead (algorithm_from name input es output)) (sym c.in_ok-by_name.ensures.entries) read;
    }
