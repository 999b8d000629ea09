use Rattle.std.proofs.Common.{pos}
use Rattle.lin.specs.declared.form.Multiple.{Multiple}
use Rattle.std.specs.Prelude.{slice_index_or}
use Rattle.shares.proofs.Gapped.{first_within, leads_lower_at, negated_bits, some_terms}
use Rattle.shares.proofs.gaps.leading.Goals as goal

abbrev none : Multiple
none = record { symbol = 0; factor = pos 0 }

pub returns-then-is_empty-2 : goal.returns-then-is_empty-2
returns-then-is_empty-2 c =
    let ls = c.args.lower.now in
    let some = some_terms ls c.is_empty.result c.is_empty.ensures c.if-is_empty.false in
    leads_lower_at c.args.upper.now ls none _ some (negated_bits (slice_index_or ls 0 none).factor (first_within ls none some c.requires.lower)) c.requires.lower
