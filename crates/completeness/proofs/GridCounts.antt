-- A grid counts less than 2^32 pieces in each direction.
use Rattle.std.proofs.Common.{ℕ, ◌<◌, ◌≤◌, Bool, true, false, cond, List, [], ◌∷◌, ◌++◌, Some, None, sym, subst, arith}
use Rattle.std.specs.Prelude.{pos, find}
use Rattle.std.specs.List.{AllByRecursion}
use Rattle.bounds.proofs.ListSound.{all-append}
use Rattle.lin.proofs.TermLemmas.{all_weaker}
use Rattle.meaning.specs.Names.{same_name}
use Rattle.sched.specs.declared.schedule.Split.{Split}
use Rattle.sched.specs.declared.placing.Loop.{Loop}
use Rattle.sched.specs.declared.numbers.Extent.{Extent}
use Rattle.sched.specs.declared.numbers.Numbers.{Numbers}
use Rattle.sched.specs.Numbers.{numbers_named, whole_numbers, halves, cut_numbers, loop_numbers, parallel_loops, grid_counts, or_one}
use Rattle.sched.specs.Skeleton.{SkeletonText}
use Rattle.sched.specs.Stored.{StoredText}
use Rattle.lower.specs.Owning.{IsExtent, IsLaidBy}
use Rattle.lower.proofs.Blocking.{CutFits, few_numbers}
use Rattle.lower.proofs.Owners as owners

abbrev IsFew : Numbers → Type 0
IsFew r = r.count < 4294967296

abbrev pub IsShort : ℕ → Type 0
IsShort n = n < 4294967296

named_few : (rs : List Numbers) (x : List ℕ) → AllByRecursion IsFew rs → IsFew (numbers_named rs x)
named_few [] x h = omega arith
named_few (r ∷ rs) x h = of (same_name r.name x) (named_few rs x h.1)
  where
    of : (b : Bool) → IsFew (numbers_named rs x) → IsFew (elim (cond b (Some r) (find (λ (n : Numbers). same_name n.name x) rs)) [ Some n ↦ n | None ↦ record { name = x; low = pos 0; count = 0 } ])
    of true k = h.0
    of false k = k

whole_few : (xs : List (List ℕ)) (es : List Extent) → AllByRecursion IsExtent es → AllByRecursion IsFew (whole_numbers xs es)
whole_few [] es h = tt
whole_few (x ∷ xs) [] h = tt
whole_few (x ∷ xs) (e ∷ es) h = (h.0.few, whole_few xs es h.1)

cut_few : (cs : List Split) (rs : List Numbers) → AllByRecursion IsFew rs → AllByRecursion (λ c. c.factor ≤ 1024) cs → AllByRecursion IsFew (cut_numbers cs rs)
cut_few [] rs h k = h
cut_few (c ∷ cs) rs h k =
    let n = (numbers_named rs c.whole).count in
    let short = k.0 in
    cut_few cs (rs ++ halves c n) (all-append IsFew rs (halves c n) h (few_numbers n c.factor (named_few rs c.whole h), (omega (arith, short), tt))) k.1

counts_few : (rs : List Numbers) (ls : List Loop) → AllByRecursion IsFew rs → AllByRecursion IsShort (grid_counts rs ls)
counts_few rs [] h = tt
counts_few rs (l ∷ ls) h = (named_few rs l.name h, counts_few rs ls h)

or_one_few : (ns : List ℕ) → AllByRecursion IsShort ns → AllByRecursion IsShort (or_one ns)
or_one_few [] h = (omega arith, tt)
or_one_few (n ∷ ns) h = h

pub grid_few : (g : StoredText) (region : List Extent) (k : SkeletonText) → IsLaidBy g region k → AllByRecursion IsShort k.grid
grid_few g region k h =
    let rs = loop_numbers g.subject.variables g.placed.cuts region in
    let factors = all_weaker (CutFits rs) (λ c. c.factor ≤ 1024) (λ c f. f.few) g.placed.cuts (owners.cuts g region k h) in
    let all = cut_few g.placed.cuts (whole_numbers g.subject.variables region) (whole_few g.subject.variables region h.extents) factors in
    let counts = or_one_few (grid_counts rs (parallel_loops g.placed.loops)) (counts_few rs (parallel_loops g.placed.loops) all) in
    subst (AllByRecursion IsShort) (sym (owners.head g region k h).grid) counts
