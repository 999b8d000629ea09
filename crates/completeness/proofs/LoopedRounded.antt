-- The forms of what is named before the nests of a function with updates, whose loops are split with `roundup`, are within the limits of forms.
use Rattle.std.proofs.Common.{◌≡◌, ℕ, zero, suc, ◌+◌, ◌-◌, ◌≤◌, Bool, true, false, not, ◌||◌, List, [], ◌∷◌, ◌++◌, length, Option, Some, None, refl, subst, arith}
use Rattle.std.specs.Prelude.{ℤ, pos, negsuc, neg_ℤ, find, if◌then◌else◌, slice_get}
use Rattle.std.specs.Int.{saturate_signed, w64}
use Rattle.std.specs.List.{AllByRecursion}
use Rattle.std.specs.Option.{option_map}
use Rattle.std.proofs.lemmas.Int.{ints}
use Rattle.lin.specs.Forms.{Form, number, combined}
use Rattle.lin.specs.Search.{is_empty}
use Rattle.lin.specs.declared.scope.Binding.{Binding}
use Rattle.lin.specs.declared.span.Span1.{Span1}
use Rattle.bounds.proofs.ListSound.{all-append}
use Rattle.headline.proofs.Members.{got}
use Rattle.meaning.specs.Algorithm.{Algorithm}
use Rattle.plan.specs.declared.stmt.Pick.{Pick}
use Rattle.plan.specs.declared.stmt.Pick.TheVariants.{Min, Max}
use Rattle.sched.specs.declared.schedule.Split.{Split}
use Rattle.sched.specs.declared.skeleton.Step.TheVariants.{Named}
use Rattle.sched.specs.Skeleton.{NestText}
use Rattle.sched.specs.Standing.{◌>>=◌}
use Rattle.sched.specs.Stored.{FormulaText, StoredText}
use Rattle.regions.specs.Regions.{bodies_from}
use Rattle.sched.specs.Around.{bind_steps}
use Rattle.sched.specs.Blocks.{difference}
use Rattle.blocks.specs.Blocks.{product, sum}
use Rattle.sched.specs.Demanded.{is_rounding}
use Rattle.blocks.specs.Parted.{told_span, rounding}
use Rattle.lower.specs.Parted.{nests_over, parted_nests}
use Rattle.blocks.specs.Rounded.{NamesText, next_name, name, name_of_two, RestsText, none_below, rests_from, add_parts, end_of, with_block, count_rests, count_past, count, count_all}
use Rattle.blocks.specs.Rounded.{counted, tally_by}
use Rattle.blocks.specs.Rounded.{tally_of, run_over, counted_run, counted_by, count_of, alone_run, moved_if, told_run, is_counted, run_if, run_in, rounding_of, run_by, run_at, BegunText}
use Rattle.blocks.specs.Rounded.{unnamed, with_run}
use Rattle.blocks.specs.Rounded.{runs_from, with_lets, named_over, calls_itself, is_plain, is_allowed}
use Rattle.lower.specs.Rounded.{LainText, lain_plainly, or_lain, lain_if, lain_behind, lain_named, lain_rounded}
use Rattle.lower.specs.Rounded.{lain_over, lain_kept}
use Rattle.blocks.proofs.Laying.{bound, same}
use Rattle.completeness.proofs.Limited.{Limited, AreLimited, IsBodySmall, number_limited, combined_limited, alone_limited}
use Rattle.completeness.proofs.Bounding.{SpanLimited}
use Rattle.completeness.proofs.LoopedLimited.{Blocks, CountedFits, StepFits, StepsFit, NestFits, AreSpans, told_limited, parted_fit, over_fit}

-- a run over a dimension, and what tells of its blocks
abbrev Given : (A B : Type 0) → (A → B) → Type 0
Given A B f = B

abbrev Perhaps : (A B : Type 0) → (A → Option B) → Type 0
Perhaps A B f = B

abbrev Run : Type 0
Run = Given _ _ run_over

abbrev Tally : Type 0
Tally = Perhaps _ _ (tally_by [] (record { lower = []; upper = [] }) (pos 0))

-- ---- names

abbrev NamesFit : NamesText → Type 0
NamesFit n = StepsFit n.lets

name_fits : (pick : Pick) (fs : List Form) (n : NamesText) → AreLimited fs → NamesFit n → NamesFit (name pick fs n)
name_fits pick fs n h k = all-append StepFits n.lets (Named (length n.scope) pick fs ∷ []) k (h, tt)

two_fit : (pick : Pick) (f g : Form) (n : NamesText) → Limited f → Limited g → NamesFit n → NamesFit (name_of_two pick f g n)
two_fit pick f g n h k m = name_fits pick (f ∷ g ∷ []) n (h, (k, tt)) m

next_limited : (n : NamesText) → Limited (next_name n)
next_limited n = alone_limited (length n.scope)

zero_limited : Limited (number (pos 0))
zero_limited = number_limited (pos 0) (omega (arith, ints), omega (arith, ints))

one_limited : Limited (number (pos 1))
one_limited = number_limited (pos 1) (omega (arith, ints), omega (arith, ints))

below_fits : (left : Form) (n : NamesText) → Limited left → NamesFit n → NamesFit (none_below left n)
below_fits left n h k = two_fit Max (number (pos 0)) left n zero_limited h k

-- ---- blocks that are counted

record RestsFit (r : RestsText) : Type 0 where
  firsts : AreLimited r.firsts
  last : Limited r.last
  names : NamesFit r.names

rests_fit : (k : ℤ) (c : ℕ) (left : Form) (firsts : List Form) (n : NamesText) (r : RestsText) → Limited left → AreLimited firsts → NamesFit n → rests_from k c left firsts n ≡ Some r → RestsFit r
rests_fit k zero left firsts n r h f m e =
    subst RestsFit (same (record { firsts = firsts; last = next_name n; names = none_below left n }) r e) (record { firsts = f; last = next_limited n; names = below_fits left n h m })
rests_fit k (suc c) left firsts n r h f m e =
    let b = bound (combined (number (saturate_signed w64 (neg_ℤ k))) (pos 1) (next_name n)) (λ rest. rests_from k c rest (firsts ++ next_name n ∷ []) (none_below left n)) r e in
    rests_fit k c b.value (firsts ++ next_name n ∷ []) (none_below left n) r (combined_limited (number (saturate_signed w64 (neg_ℤ k))) (pos 1) (next_name n) b.value b.is)
    (all-append Limited firsts (next_name n ∷ []) f (next_limited n, tt)) (below_fits left n h m) b.comes

abbrev SumFits : Form × NamesText → Type 0
SumFits x = Limited x.0 × NamesFit x.1

parts_fit : (most : ℤ) (fs : List Form) (total : Form) (n : NamesText) (r : Form × NamesText) → Limited (number most) → AreLimited fs → Limited total → NamesFit n →
    add_parts most fs total n ≡ Some r → SumFits r
parts_fit most [] total n r small h k m e = subst SumFits (same (total, n) r e) (k, m)
parts_fit most (f ∷ fs) total n r small h k m e =
    let b = bound (combined total (pos 1) (next_name n)) (λ t. add_parts most fs t (name_of_two Min f (number most) n)) r e in
    parts_fit most fs b.value (name_of_two Min f (number most) n) r small h.1 (combined_limited total (pos 1) (next_name n) b.value b.is) (two_fit Min f (number most) n h.0 small m) b.comes

end_fits : (first_end needed further : Form) (k : ℤ) (n r : NamesText) → NamesFit n → end_of first_end needed further k n ≡ Some r → NamesFit r
end_fits first_end needed further k n r m e =
    let a = bound (combined first_end (pos 1) needed) (λ a. combined first_end k further >>= λ b. Some (name_of_two Max a b n)) r e in
    let b = bound (combined first_end k further) (λ b. Some (name_of_two Max a.value b n)) r a.comes in
    subst NamesFit (same (name_of_two Max a.value b.value n) r b.comes)
    (two_fit Max a.value b.value n (combined_limited first_end (pos 1) needed a.value a.is) (combined_limited first_end k further b.value b.is) m)

abbrev BlocksFit : Blocks × NamesText → Type 0
BlocksFit x = CountedFits (Some x.0) × NamesFit x.1

block_fits : (further end : Form) (b : Blocks) → Limited further → CountedFits (Some b) → CountedFits (Some (with_block further end b))
block_fits further end b h k = all-append Limited _ (further ∷ []) k (h, tt)

module _ (k : ℤ) (small : Limited (number k)) where
  rests_counted : (first_end : Form) (r : RestsText) (b : Blocks) (x : Blocks × NamesText) → RestsFit r → CountedFits (Some b) → count_rests first_end k r b ≡ Some x → BlocksFit x
  rests_counted first_end r b x h m e =
      let needed = bound (add_parts k r.firsts r.last r.names)
      (λ needed. add_parts (pos 1) r.firsts r.last needed.1 >>= λ further. end_of first_end needed.0 further.0 k further.1 >>= λ n. Some (with_block further.0 (next_name further.1) b, n)) x e in
      let further = bound (add_parts (pos 1) r.firsts r.last needed.value.1)
      (λ further. end_of first_end needed.value.0 further.0 k further.1 >>= λ n. Some (with_block further.0 (next_name further.1) b, n)) x needed.comes in
      let n = bound (end_of first_end needed.value.0 further.value.0 k further.value.1) (λ n. Some (with_block further.value.0 (next_name further.value.1) b, n)) x further.comes in
      let one = parts_fit k r.firsts r.last r.names needed.value small h.firsts h.last h.names needed.is in
      let two = parts_fit (pos 1) r.firsts r.last needed.value.1 further.value one_limited h.firsts h.last one.1 further.is in
      subst BlocksFit (same (with_block further.value.0 (next_name further.value.1) b, n.value) x n.comes)
      (block_fits further.value.0 (next_name further.value.1) b two.0 m, end_fits first_end needed.value.0 further.value.0 k further.value.1 n.value two.1 n.is)

  past_counted : (first_end past : Form) (c : ℕ) (b : Blocks) (n : NamesText) (x : Blocks × NamesText) → Limited past → CountedFits (Some b) → NamesFit n →
      count_past first_end past k c b n ≡ Some x → BlocksFit x
  past_counted first_end past c b n x h m f e = of (is_empty past.terms) e
    where
      of : (t : Bool) → (if t then Some (b, n) else (rests_from k c past [] n >>= λ r. count_rests first_end k r b)) ≡ Some x → BlocksFit x
      of true q = subst BlocksFit (same (b, n) x q) (m, f)
      of false q =
          let r = bound (rests_from k c past [] n) (λ r. count_rests first_end k r b) x q in rests_counted first_end r.value b x (rests_fit k c past [] n r.value h tt f r.is) m r.comes

  one_counted : (low : Form) (c : ℕ) (last : Form) (b : Blocks) (n : NamesText) (x : Blocks × NamesText) → CountedFits (Some b) → NamesFit n → count low k c last b n ≡ Some x → BlocksFit x
  one_counted low c last b n x m f e =
      let end = bound (combined (number (difference k (pos 1))) (pos 1) low) (λ first_end. combined last (negsuc 0) first_end >>= λ past. count_past first_end past k c b n) x e in
      let past = bound (combined last (negsuc 0) end.value) (λ past. count_past end.value past k c b n) x end.comes in
      past_counted end.value past.value c b n x (combined_limited last (negsuc 0) end.value past.value past.is) m f past.comes

  all_counted : (low : Form) (c : ℕ) (fs : List Form) (b : Blocks) (n : NamesText) (x : Blocks × NamesText) → CountedFits (Some b) → NamesFit n → count_all low k c fs b n ≡ Some x → BlocksFit x
  all_counted low c [] b n x m f e = subst BlocksFit (same (b, n) x e) (m, f)
  all_counted low c (l ∷ fs) b n x m f e =
      let r = bound (count low k c l b n) (λ r. count_all low k c fs r.0 r.1) x e in
      let one = one_counted low c l b n r.value m f r.is in
      all_counted low c fs r.value.0 r.value.1 x one.0 one.1 r.comes

  counted_all : (low : Form) (c : ℕ) (upper : List Form) (n : NamesText) (x : Blocks × NamesText) → NamesFit n → counted low k c upper n ≡ Some x → BlocksFit x
  counted_all low c upper n x f e =
      let end = bound (combined (number (difference (product k (sum (pos c) (pos 1))) (pos 1))) (pos 1) low) (λ end. count_all low k c upper (record { further = []; ends = end ∷ [] }) n) x e in
      all_counted low c upper (record { further = []; ends = end.value ∷ [] }) n x tt f end.comes

-- ---- dimensions

record RunFits (r : Run) : Type 0 where
  span : SpanLimited r.span
  blocks : CountedFits r.blocks

abbrev RunAndNames : Run × NamesText → Type 0
RunAndNames x = RunFits x.0 × NamesFit x.1

over_run : (s : Span1) → SpanLimited s → RunFits (run_over s)
over_run s h = record { span = h; blocks = tt }

run_moved : (b : Bool) (s : Span1) (o : Option Form) → SpanLimited s → ((f : Form) → o ≡ Some f → Limited f) → RunFits (moved_if b s o)
run_moved b s None h k = over_run s h
run_moved true s (Some low) h k = record { span = ((k low refl, tt), h.1); blocks = tt }
run_moved false s (Some low) h k = over_run s h

module _ (g : StoredText) (d k : ℕ) (few : k ≤ 1024) (s : Span1) (limits : SpanLimited s) where
  small : Limited (number (pos k))
  small = number_limited (pos k) (omega (arith, ints), omega (arith, ints, few))

  alone_fits : (b : Bool) (low : Form) (upper : List Form) (y : Tally) (n : NamesText) (x : Run × NamesText) → NamesFit n → alone_run b (pos k) s low upper y n ≡ Some x → RunAndNames x
  alone_fits b low upper y n x f e = of (y.is_even || not b) e
    where
      of : (t : Bool) → (if t then Some (run_over s, n) else counted_by (counted low (pos k) (count_of y.further) upper n) s) ≡ Some x → RunAndNames x
      of true q = subst RunAndNames (same (run_over s, n) x q) (over_run s limits, f)
      of false q =
          let r = bound (counted low (pos k) (count_of y.further) upper n) (λ r. Some (counted_run s r.0, r.1)) x q in
          let c = counted_all (pos k) small low (count_of y.further) upper n r.value f r.is in
          subst RunAndNames (same (counted_run s r.value.0, r.value.1) x r.comes) (record { span = limits; blocks = c.0 }, c.1)

  told_fits : (b : Bool) (lows upper : List Form) (y : Tally) (n : NamesText) (x : Run × NamesText) → AreLimited lows → NamesFit n → told_run b (pos k) s lows upper y n ≡ Some x → RunAndNames x
  told_fits b [] upper y n x h f e =
      subst RunAndNames (same (moved_if y.is_even s (slice_get [] y.place), n) x e) (run_moved y.is_even s (slice_get [] y.place) limits (λ l q. got Limited [] y.place l h q), f)
  told_fits b (low ∷ []) upper y n x h f e = alone_fits b low upper y n x f e
  told_fits b (low ∷ l ∷ ls) upper y n x h f e =
      subst RunAndNames (same (moved_if y.is_even s (slice_get (low ∷ l ∷ ls) y.place), n) x e)
      (run_moved y.is_even s (slice_get (low ∷ l ∷ ls) y.place) limits (λ m q. got Limited (low ∷ l ∷ ls) y.place m h q), f)

  run_is : (t : Span1) (o : Option Tally) (n : NamesText) (x : Run × NamesText) → SpanLimited t → NamesFit n → run_if g d (pos k) s t o n ≡ Some x → RunAndNames x
  run_is t None n x h f e = subst RunAndNames (same (run_over s, n) x e) (over_run s limits, f)
  run_is t (Some y) n x h f e = told_fits (is_counted g d y) t.lower t.upper y n x h.0 f e

  run_fits : (n : NamesText) (x : Run × NamesText) → NamesFit n → run_in g d (pos k) s n ≡ Some x → RunAndNames x
  run_fits n x f e =
      let t = told_span n.scope s in
      let y = bound (tally_of n.scope t (pos k)) (λ y. run_if g d (pos k) s t y n) x e in
      run_is t y.value n x (told_limited n.scope Max s.lower limits.0, told_limited n.scope Min s.upper limits.1) f y.comes

found_few : (all cs : List Split) → AllByRecursion (λ c. c.factor ≤ 1024) cs → (x : List ℕ) (k : ℕ)
    → option_map (λ (c : Split). c.factor) (find (is_rounding all x) cs) ≡ Some k → k ≤ 1024
found_few all [] h x k e = absurd (cc e)
found_few all (c ∷ cs) h x k e = of (is_rounding all x c) e (found_few all cs h.1 x k)
  where
    of : (b : Bool) → option_map (λ (c : Split). c.factor) (if b then Some c else find (is_rounding all x) cs) ≡ Some k
        → (option_map (λ (c : Split). c.factor) (find (is_rounding all x) cs) ≡ Some k → k ≤ 1024) → k ≤ 1024
    of true q rest = (let is : c.factor ≡ k = same c.factor k q in subst (λ (n : ℕ). n ≤ 1024) is h.0)
    of false q rest = rest q

rounding_few : (cs : List Split) → AllByRecursion (λ c. c.factor ≤ 1024) cs → (x : List ℕ) (k : ℕ) → rounding cs x ≡ Some k → k ≤ 1024
rounding_few cs h x k e = found_few cs cs h x k e

-- ---- what is named before nests

record BegunFits (b : BegunText) : Type 0 where
  lets : StepsFit b.lets
  region : AreSpans b.region
  blocks : AllByRecursion CountedFits b.blocks

abbrev NamesAndBegun : NamesText × BegunText → Type 0
NamesAndBegun x = NamesFit x.0 × BegunFits x.1

with_fits : (r : Run) (b : BegunText) → RunFits r → BegunFits b → BegunFits (with_run r b)
with_fits r b h k = record {
  lets = k.lets;
  region = all-append SpanLimited b.region (r.span ∷ []) k.region (h.span, tt);
  blocks = all-append CountedFits b.blocks (r.blocks ∷ []) k.blocks (h.blocks, tt);
}

module _ (g : StoredText) (few : AllByRecursion (λ c. c.factor ≤ 1024) g.placed.cuts) where
  at_fits : (d : ℕ) (s : Span1) (n : NamesText) (x : Run × NamesText) → SpanLimited s → NamesFit n → run_at g d s n ≡ Some x → RunAndNames x
  at_fits d s n x h f e = of (rounding_of g d) refl e
    where
      of : (o : Option ℕ) → rounding_of g d ≡ o → run_by g d s n o ≡ Some x → RunAndNames x
      of None k q = subst RunAndNames (same (run_over s, n) x q) (over_run s h, f)
      of (Some k) m q =
          let v = bound (slice_get g.subject.variables d) (rounding g.placed.cuts) k m in run_fits g d k (rounding_few g.placed.cuts few v.value k v.comes) s h n x f q

  runs_fit : (d : ℕ) (ss : List Span1) (n : NamesText) (b : BegunText) (x : NamesText × BegunText) → AreSpans ss → NamesFit n → BegunFits b → runs_from g d ss n b ≡ Some x → NamesAndBegun x
  runs_fit d [] n b x h f k e = subst NamesAndBegun (same (n, b) x e) (f, k)
  runs_fit d (s ∷ ss) n b x h f k e =
      let r = bound (run_at g d s n) (λ r. runs_from g (d + 1) ss r.1 (with_run r.0 b)) x e in
      let one = at_fits d s n r.value h.0 f r.is in
      runs_fit (d + 1) ss r.value.1 (with_run r.value.0 b) x h.1 one.1 (with_fits r.value.0 b one.0 k) r.comes

  module _ (scope : List Binding) (region : List Span1) (limits : AreSpans region) where
    named_fits : (b : BegunText) → named_over g scope region ≡ Some b → BegunFits b
    named_fits b e =
        let first : NamesText = record { scope = scope; lets = [] } in
        let r = bound (runs_from g 0 region first (unnamed [])) (λ r. Some (with_lets r.0.lets r.1)) b e in
        let fits = runs_fit 0 region first (unnamed []) r.value limits tt (record { lets = tt; region = tt; blocks = tt }) r.is in
        subst BegunFits (same (with_lets r.value.0.lets r.value.1) b r.comes) (record { lets = fits.0; region = fits.1.region; blocks = fits.1.blocks })

    module _ (fs : List FormulaText) (small_bodies : AllByRecursion IsBodySmall (bodies_from g.changes 0 g.subject.reductions fs)) where
      -- what is lain over a region
      pub record LainFits (l : LainText) : Type 0 where
        pub lets : StepsFit l.begun.lets
        pub nests : AllByRecursion NestFits l.nests

      plainly_fits : (kept : List Span1) (l : LainText) → lain_plainly g fs scope region kept ≡ Some l → LainFits l
      plainly_fits kept l e =
          let n = bound (nests_over g fs scope region kept) (λ ns. Some (record { begun = unnamed region; nests = ns })) l e in
          subst LainFits (same (record { begun = unnamed region; nests = n.value }) l n.comes)
          (record { lets = tt; nests = over_fit g few scope region limits fs small_bodies kept n.value n.is })

      module _ (a : Algorithm) (kept : List Span1) where
        abbrev IfFits : Option LainText → Type 0
        IfFits o = (l : LainText) → o ≡ Some l → LainFits l

        allowed_fits : (b : BegunText) (ns : List NestText) (t : Bool) → BegunFits b → AllByRecursion NestFits ns → IfFits (lain_if b ns t)
        allowed_fits b ns true f h l e = subst LainFits (same (record { begun = b; nests = ns }) l e) (record { lets = f.lets; nests = h })
        allowed_fits b ns false f h l e = absurd (cc e)

        behind_fits : (b : BegunText) → BegunFits b → (o : Option LainText) → lain_behind a g fs scope region kept b ≡ Some o → IfFits o
        behind_fits b f o e =
            let inner = bind_steps scope b.lets in
            let n = bound (parted_nests g fs inner b.region kept b.blocks) (λ ns. is_allowed a g fs inner region b ns >>= λ is. Some (lain_if b ns is)) o e in
            let t = bound (is_allowed a g fs inner region b n.value) (λ is. Some (lain_if b n.value is)) o n.comes in
            let nests = parted_fit g few inner b.region f.region kept b.blocks f.blocks 0 (bodies_from g.changes 0 g.subject.reductions fs) n.value small_bodies n.is in
            subst IfFits (same (lain_if b n.value t.value) o t.comes) (allowed_fits b n.value t.value f nests)

        named_lain : (o : Option BegunText) → ((b : BegunText) → o ≡ Some b → BegunFits b) → IfFits (lain_named a g fs scope region kept o)
        named_lain None h l e = plainly_fits kept l e
        named_lain (Some b) h l e =
            let o = bound (lain_behind a g fs scope region kept b) (or_lain (lain_plainly g fs scope region kept)) l e in of o.value (behind_fits b (h b refl) o.value o.is) o.comes
          where
            of : (o : Option LainText) → IfFits o → or_lain (lain_plainly g fs scope region kept) o ≡ Some l → LainFits l
            of None k q = plainly_fits kept l q
            of (Some m) k q = k l q

        over_fits : IfFits (lain_over a g fs scope region kept)
        over_fits l e = plain (is_plain g fs) e
          where
            rounded : (t : Bool) → (if t then lain_named a g fs scope region kept (named_over g scope region) else lain_plainly g fs scope region kept) ≡ Some l → LainFits l
            rounded true q = named_lain (named_over g scope region) named_fits l q
            rounded false q = plainly_fits kept l q

            plain : (t : Bool) → (if t then lain_plainly g fs scope region kept else lain_rounded a g fs scope region kept) ≡ Some l → LainFits l
            plain true q = plainly_fits kept l q
            plain false q = rounded (calls_itself g fs) q

      -- its lets and nests
      pub lain_fits : (a : Algorithm) (o : Option (List Span1)) (l : LainText) → lain_kept a g fs scope region o ≡ Some l → LainFits l
      lain_fits a o l e = (let k = bound o (λ kept. lain_over a g fs scope region kept) l e in over_fits a k.value l k.comes)
