use Rattle.std.proofs.Common.{◌≡◌, ◌≤◌, ◌-◌, ◌^◌, drop}
use Rattle.plan.specs.Plan.{block}
use Rattle.plan.specs.Lists.{list_statements}
use Rattle.validation.specs.Groups.Sizes.{more, block_bound_in}
use Rattle.validation.proofs.groups.sizes.+bound.Given as goal

abbrev pub invariant-all_bound_in-loop-stmt : goal.invariant-all_bound_in-loop-stmt
invariant-all_bound_in-loop-stmt l = record {
  small : l.total ≤ 2 ^ 64 - 1;
  sum : more l.total (block_bound_in (block (list_statements (drop l.stmt-index l.all)))) ≡ more 0 (block_bound_in (block (list_statements l.all)));
}
