-- What is named before the nests of a function that is computed inside loops are lets alone.
use Rattle.std.proofs.Common.{◌≡◌, ℕ, zero, suc, ◌+◌, Bool, true, false, ◌||◌, List, [], ◌∷◌, ◌++◌, length, Option, Some, None, refl, subst}
use Rattle.std.specs.Prelude.{ℤ, pos, negsuc, neg_ℤ, not, if◌then◌else◌}
use Rattle.std.specs.Int.{saturate_signed, w64}
use Rattle.std.specs.List.{AllByRecursion}
use Rattle.lin.specs.Forms.{Form, number, combined}
use Rattle.lin.specs.Search.{is_empty}
use Rattle.lin.specs.declared.scope.Binding.{Binding}
use Rattle.lin.specs.declared.span.Span1.{Span1}
use Rattle.bounds.proofs.ListSound.{all-append}
use Rattle.meaning.specs.Algorithm.{Algorithm}
use Rattle.plan.specs.declared.stmt.Pick.{Pick}
use Rattle.plan.specs.declared.stmt.Pick.TheVariants.{Min, Max}
use Rattle.sched.specs.declared.skeleton.Step.{Step}
use Rattle.sched.specs.declared.skeleton.Step.TheVariants.{Turns, Named, Tested}
use Rattle.sched.specs.Skeleton.{NestText}
use Rattle.sched.specs.Standing.{◌>>=◌, alone}
use Rattle.sched.specs.Stored.{FormulaText, StoredText}
use Rattle.sched.specs.Around.{bind_steps}
use Rattle.blocks.specs.Blocks.{sum, product}
use Rattle.sched.specs.Blocks.{difference}
use Rattle.blocks.specs.Parted.{told_span}
use Rattle.lower.specs.Parted.{nests_over, parted_nests}
use Rattle.blocks.specs.Rounded.{NamesText, name, next_name, RestsText, none_below, rests_from, add_parts, end_of, with_block, count_rests, count_past, count, count_all, counted}
use Rattle.blocks.specs.Rounded.{tally_of}
use Rattle.blocks.specs.Rounded.{run_over, is_counted}
use Rattle.blocks.specs.Rounded.{counted_run, counted_by, count_of, alone_run, told_run, run_if, run_in, rounding_of, run_by, run_at, BegunText, unnamed, with_run, runs_from, with_lets}
use Rattle.blocks.specs.Rounded.{named_over}
use Rattle.lower.specs.Rounded.{LainText}
use Rattle.blocks.specs.Rounded.{calls_itself, is_plain, is_allowed}
use Rattle.lower.specs.Rounded.{lain_plainly, or_lain, lain_if, lain_behind, lain_named, lain_rounded, lain_over, lain_kept}
use Rattle.blocks.proofs.Laying.{bound, same}

-- what functions give and take
abbrev Given : (A B : Type 0) → (A → B) → Type 0
Given A B f = B

abbrev Third : (A B C D : Type 0) → (A → B → C → D) → Type 0
Third A B C D f = C

abbrev Blocks : Type 0
Blocks = Given _ _ (with_block (alone 0) (alone 0))

abbrev Tally : Type 0
Tally = Third _ _ _ _ is_counted

-- a let
abbrev pub IsNamed : Step → Type 0
IsNamed (Turns i x kind) = ⊥
IsNamed (Named i pick fs) = Unit {0}
IsNamed (Tested low high) = ⊥

abbrev pub AreNamed : List Step → Type 0
AreNamed ss = AllByRecursion IsNamed ss

abbrev AllNamed : NamesText → Type 0
AllNamed n = AreNamed n.lets

-- of what is told together with names
abbrev BehindNamed : {A : Type 0} → Option (A × NamesText) → Type 0
BehindNamed {A} o = (x : A × NamesText) → o ≡ Some x → AllNamed x.1

one_named : (pick : Pick) (fs : List Form) (n : NamesText) → AllNamed n → AllNamed (name pick fs n)
one_named pick fs n h = all-append IsNamed n.lets (Named (length n.scope) pick fs ∷ []) h (tt, tt)

told_named : {A : Type 0} (x : A) (n : NamesText) → AllNamed n → BehindNamed (Some (x, n))
told_named x n h y e = subst (λ (z : _ × NamesText). AllNamed z.1) (same (x, n) y e) h

rests_named : (k : ℤ) (c : ℕ) (left : Form) (firsts : List Form) (n : NamesText) → AllNamed n → (r : RestsText) → rests_from k c left firsts n ≡ Some r → AllNamed r.names
rests_named k zero left firsts n h r e =
    subst (λ (u : RestsText). AllNamed u.names) (same (record { firsts = firsts; last = next_name n; names = none_below left n }) r e) (one_named Max (number (pos 0) ∷ left ∷ []) n h)
rests_named k (suc c) left firsts n h r e =
    let b = bound (combined (number (saturate_signed w64 (neg_ℤ k))) (pos 1) (next_name n)) (λ rest. rests_from k c rest (firsts ++ next_name n ∷ []) (none_below left n)) r e in
    rests_named k c b.value (firsts ++ next_name n ∷ []) (none_below left n) (one_named Max (number (pos 0) ∷ left ∷ []) n h) r b.comes

parts_named : (most : ℤ) (fs : List Form) (total : Form) (n : NamesText) → AllNamed n → BehindNamed (add_parts most fs total n)
parts_named most [] total n h x e = told_named total n h x e
parts_named most (f ∷ fs) total n h x e =
    let after = name Min (f ∷ number most ∷ []) n in
    let b = bound (combined total (pos 1) (next_name n)) (λ t. add_parts most fs t after) x e in parts_named most fs b.value after (one_named Min (f ∷ number most ∷ []) n h) x b.comes

end_named : (first_end needed further : Form) (k : ℤ) (n m : NamesText) → AllNamed n → end_of first_end needed further k n ≡ Some m → AllNamed m
end_named first_end needed further k n m h e =
    let made : Form → Form → NamesText = λ a b. name Max (a ∷ b ∷ []) n in
    let a = bound (combined first_end (pos 1) needed) (λ a. combined first_end k further >>= λ b. Some (made a b)) m e in
    let b = bound (combined first_end k further) (λ b. Some (made a.value b)) m a.comes in
    subst AllNamed (same (made a.value b.value) m b.comes) (one_named Max (a.value ∷ b.value ∷ []) n h)

count_rests_named : (first_end : Form) (k : ℤ) (r : RestsText) (b : Blocks) → AllNamed r.names → BehindNamed (count_rests first_end k r b)
count_rests_named first_end k r b h x e =
    let made : Form × NamesText → NamesText → Blocks × NamesText = λ further n. (with_block further.0 (next_name further.1) b, n) in
    let needed = bound (add_parts k r.firsts r.last r.names)
    (λ needed. add_parts (pos 1) r.firsts r.last needed.1 >>= λ further. end_of first_end needed.0 further.0 k further.1 >>= λ n. Some (made further n)) x e in
    let further = bound (add_parts (pos 1) r.firsts r.last needed.value.1) (λ further. end_of first_end needed.value.0 further.0 k further.1 >>= λ n. Some (made further n)) x needed.comes in
    let n = bound (end_of first_end needed.value.0 further.value.0 k further.value.1) (λ n. Some (made further.value n)) x further.comes in
    let one = parts_named k r.firsts r.last r.names h needed.value needed.is in
    let two = parts_named (pos 1) r.firsts r.last needed.value.1 one further.value further.is in
    subst (λ (y : Blocks × NamesText). AllNamed y.1) (same (made further.value n.value) x n.comes) (end_named first_end needed.value.0 further.value.0 k further.value.1 n.value two n.is)

count_past_named : (first_end past : Form) (k : ℤ) (c : ℕ) (b : Blocks) (n : NamesText) → AllNamed n → BehindNamed (count_past first_end past k c b n)
count_past_named first_end past k c b n h x e = of (is_empty past.terms) e
  where
    of : (v : Bool) → (if v then Some (b, n) else (rests_from k c past [] n >>= λ r. count_rests first_end k r b)) ≡ Some x → AllNamed x.1
    of true q = told_named b n h x q
    of false q =
        let r = bound (rests_from k c past [] n) (λ r. count_rests first_end k r b) x q in count_rests_named first_end k r.value b (rests_named k c past [] n h r.value r.is) x r.comes

count_named : (low : Form) (k : ℤ) (c : ℕ) (last : Form) (b : Blocks) (n : NamesText) → AllNamed n → BehindNamed (count low k c last b n)
count_named low k c last b n h x e =
    let f = bound (combined (number (difference k (pos 1))) (pos 1) low) (λ first_end. combined last (negsuc 0) first_end >>= λ past. count_past first_end past k c b n) x e in
    let p = bound (combined last (negsuc 0) f.value) (λ past. count_past f.value past k c b n) x f.comes in
    count_past_named f.value p.value k c b n h x p.comes

count_all_named : (low : Form) (k : ℤ) (c : ℕ) (fs : List Form) (b : Blocks) (n : NamesText) → AllNamed n → BehindNamed (count_all low k c fs b n)
count_all_named low k c [] b n h x e = told_named b n h x e
count_all_named low k c (f ∷ fs) b n h x e =
    let r = bound (count low k c f b n) (λ r. count_all low k c fs r.0 r.1) x e in count_all_named low k c fs r.value.0 r.value.1 (count_named low k c f b n h r.value r.is) x r.comes

counted_named : (low : Form) (k : ℤ) (c : ℕ) (upper : List Form) (n : NamesText) → AllNamed n → BehindNamed (counted low k c upper n)
counted_named low k c upper n h x e =
    let b = bound (combined (number (difference (product k (sum (pos c) (pos 1))) (pos 1))) (pos 1) low) (λ end. count_all low k c upper (record { further = []; ends = end ∷ [] }) n) x e in
    count_all_named low k c upper (record { further = []; ends = b.value ∷ [] }) n h x b.comes

by_named : (o : Option (Blocks × NamesText)) (s : Span1) → BehindNamed o → BehindNamed (counted_by o s)
by_named o s h x e = (let b = bound o (λ r. Some (counted_run s r.0, r.1)) x e in told_named (counted_run s b.value.0) b.value.1 (h b.value b.is) x b.comes)

alone_named : (b : Bool) (k : ℤ) (s : Span1) (low : Form) (upper : List Form) (y : Tally) (n : NamesText) → AllNamed n → BehindNamed (alone_run b k s low upper y n)
alone_named b k s low upper y n h x e = of (y.is_even || not b) e
  where
    of : (v : Bool) → (if v then Some (run_over s, n) else counted_by (counted low k (count_of y.further) upper n) s) ≡ Some x → AllNamed x.1
    of true q = told_named (run_over s) n h x q
    of false q = by_named (counted low k (count_of y.further) upper n) s (counted_named low k (count_of y.further) upper n h) x q

told_run_named : (b : Bool) (k : ℤ) (s : Span1) (lower upper : List Form) (y : Tally) (n : NamesText) → AllNamed n → BehindNamed (told_run b k s lower upper y n)
told_run_named b k s [] upper y n h = told_named _ n h
told_run_named b k s (low ∷ []) upper y n h = alone_named b k s low upper y n h
told_run_named b k s (low ∷ l ∷ ls) upper y n h = told_named _ n h

if_named : (g : StoredText) (d : ℕ) (k : ℤ) (s t : Span1) (o : Option Tally) (n : NamesText) → AllNamed n → BehindNamed (run_if g d k s t o n)
if_named g d k s t None n h = told_named (run_over s) n h
if_named g d k s t (Some y) n h = told_run_named (is_counted g d y) k s t.lower t.upper y n h

in_named : (g : StoredText) (d : ℕ) (k : ℤ) (s : Span1) (n : NamesText) → AllNamed n → BehindNamed (run_in g d k s n)
in_named g d k s n h x e =
    let b = bound (tally_of n.scope (told_span n.scope s) k) (λ y. run_if g d k s (told_span n.scope s) y n) x e in if_named g d k s (told_span n.scope s) b.value n h x b.comes

run_by_named : (g : StoredText) (d : ℕ) (s : Span1) (n : NamesText) (o : Option ℕ) → AllNamed n → BehindNamed (run_by g d s n o)
run_by_named g d s n None h = told_named (run_over s) n h
run_by_named g d s n (Some k) h = in_named g d (pos k) s n h

runs_named : (g : StoredText) (d : ℕ) (ss : List Span1) (n : NamesText) (b : BegunText) → AllNamed n → (r : NamesText × BegunText) → runs_from g d ss n b ≡ Some r → AllNamed r.0
runs_named g d [] n b h r e = subst (λ (y : NamesText × BegunText). AllNamed y.0) (same (n, b) r e) h
runs_named g d (s ∷ ss) n b h r e =
    let m = bound (run_at g d s n) (λ r. runs_from g (d + 1) ss r.1 (with_run r.0 b)) r e in
    runs_named g (d + 1) ss m.value.1 (with_run m.value.0 b) (run_by_named g d s n (rounding_of g d) h m.value m.is) r m.comes

begun_named : (g : StoredText) (scope : List Binding) (region : List Span1) (b : BegunText) → named_over g scope region ≡ Some b → AreNamed b.lets
begun_named g scope region b e =
    let r = bound (runs_from g 0 region (record { scope = scope; lets = [] }) (unnamed [])) (λ r. Some (with_lets r.0.lets r.1)) b e in
    subst (λ (u : BegunText). AreNamed u.lets) (same (with_lets r.value.0.lets r.value.1) b r.comes) (runs_named g 0 region (record { scope = scope; lets = [] }) (unnamed []) tt r.value r.is)

-- ---- what is laid

module _ (a : Algorithm) (g : StoredText) (fs : List FormulaText) (scope : List Binding) (region kept : List Span1) (lain : LainText) where
  plainly : lain_plainly g fs scope region kept ≡ Some lain → AreNamed lain.begun.lets
  plainly e =
      let made : List NestText → LainText = λ ns. record { begun = unnamed region; nests = ns } in
      let b = bound (nests_over g fs scope region kept) (λ ns. Some (made ns)) lain e in
      subst (λ (l : LainText). AreNamed l.begun.lets) (same (made b.value) lain b.comes) tt

  behind : (b : BegunText) → AreNamed b.lets → lain_behind a g fs scope region kept b ≡ Some (Some lain) → AreNamed lain.begun.lets
  behind b h e =
      let n = bound (parted_nests g fs (bind_steps scope b.lets) b.region kept b.blocks) (λ ns. is_allowed a g fs (bind_steps scope b.lets) region b ns >>= λ v. Some (lain_if b ns v)) (Some lain) e in
      let v = bound (is_allowed a g fs (bind_steps scope b.lets) region b n.value) (λ v. Some (lain_if b n.value v)) (Some lain) n.comes in
      of n.value v.value (same (lain_if b n.value v.value) (Some lain) v.comes)
    where
      of : (ns : List NestText) (v : Bool) → lain_if b ns v ≡ Some lain → AreNamed lain.begun.lets
      of ns true q = subst (λ (l : LainText). AreNamed l.begun.lets) (same (record { begun = b; nests = ns }) lain q) h
      of ns false q = absurd (cc q)

  either : (o : Option LainText) → (o ≡ Some lain → AreNamed lain.begun.lets) → or_lain (lain_plainly g fs scope region kept) o ≡ Some lain → AreNamed lain.begun.lets
  either None f e = plainly e
  either (Some l) f e = f e

  named : (o : Option BegunText) → ((b : BegunText) → o ≡ Some b → AreNamed b.lets) → lain_named a g fs scope region kept o ≡ Some lain → AreNamed lain.begun.lets
  named None h e = plainly e
  named (Some b) h e =
      let w = bound (lain_behind a g fs scope region kept b) (or_lain (lain_plainly g fs scope region kept)) lain e in
      either w.value (λ q. behind b (h b refl) (subst (λ (o : Option LainText). lain_behind a g fs scope region kept b ≡ Some o) q w.is)) w.comes

  rounded : (v : Bool) → (if v then lain_named a g fs scope region kept (named_over g scope region) else lain_plainly g fs scope region kept) ≡ Some lain → AreNamed lain.begun.lets
  rounded true e = named (named_over g scope region) (λ b q. begun_named g scope region b q) e
  rounded false e = plainly e

  over : (v : Bool) → (if v then lain_plainly g fs scope region kept else lain_rounded a g fs scope region kept) ≡ Some lain → AreNamed lain.begun.lets
  over true e = plainly e
  over false e = rounded (calls_itself g fs) e

pub lets_named : (a : Algorithm) (g : StoredText) (fs : List FormulaText) (scope : List Binding) (region : List Span1) (o : Option (List Span1)) (lain : LainText) →
    lain_kept a g fs scope region o ≡ Some lain → AreNamed lain.begun.lets
lets_named a g fs scope region o lain e = (let b = bound o (λ kept. lain_over a g fs scope region kept) lain e in over a g fs scope region b.value lain (is_plain g fs) b.comes)
