use Rattle.std.proofs.Common.{◌≤◌, take}
use Rattle.shares.specs.Early.{IsGroupCount}
use Rattle.shares.specs.Noted.{lines_noted}
use Rattle.shares.proofs.early.group_count.Given as goal

abbrev pub invariant-loop-line : goal.invariant-loop-line
invariant-loop-line l = record {
  count : IsGroupCount (take l.line-index (lines_noted l.lines)) l.count;
  most : l.count ≤ l.groups;
}
