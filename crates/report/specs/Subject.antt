-- What is counted.
use Rattle.std.specs.Prelude.{ℕ, ◌&&◌, Bool, true, false, List, Option, map, option_map, slice_get}
use Rattle.meaning.specs.Names.{same_name}
use Rattle.plan.specs.Semantics.Setting.{Buffer, allocated, function_in, group_name}
use Rattle.plan.specs.View.{group_of, statement_of}
use Rattle.report.specs.declared.subject.Deed.{Deed}
use Rattle.report.specs.declared.subject.Deed.TheVariants.{Store, Fetch}
use Rattle.report.specs.declared.subject.Subject.{Subject}
use Rattle.report.specs.Costs.{capped}
use Rattle.report.specs.Tally.{Counted}

-- the function of a buffer that is allocated
abbrev pub named : Option Buffer → Option (List ℕ)
named = option_map (λ b. b.function)

abbrev pub is_store : Deed → Bool
is_store Store = true
is_store Fetch = false

abbrev pub is_fetch : Deed → Bool
is_fetch Store = false
is_fetch Fetch = true

-- which buffers and groups count, and how many are enough, at most the greatest number of 64 bits
abbrev pub counted_of : Subject → Counted
counted_of x = record {
  buffer = λ b. is_store x.deed && same_name (function_in (allocated (statement_of x.body.now) b)) x.function.now;
  group = λ g. is_fetch x.deed && same_name (group_name (slice_get (map group_of x.groups.now) g)) x.function.now;
  enough = capped x.enough;
}
