-- In a group in whose loops functions are computed lines and claims are counted as they are made, and no line publishes before the last.
use Rattle.std.proofs.Common.{◌≡◌, ℕ, suc, ◌+◌, ◌-◌, ◌≤◌, List, [], ◌∷◌, ◌++◌, length, take, Option, Some, None, refl, sym, ap, ◌∙◌, subst, arith}
use Rattle.std.specs.List.{AllByRecursion}
use Rattle.lin.specs.Forms.{Form}
use Rattle.lin.specs.declared.span.Span1.{Span1}
use Rattle.plan.specs.declared.stmt.Pick.TheVariants.{Min}
use Rattle.plan.specs.Certificate.Certificate.{Claim}
use Rattle.plan.specs.Plan.{Statement, Seq, For, Let, First, Guard, Alloc, Store, block}
use Rattle.plan.specs.Lines.{block_lines}
use Rattle.sched.specs.declared.skeleton.Step.{Step}
use Rattle.sched.specs.declared.skeleton.Step.TheVariants.{Turns, Named, Tested}
use Rattle.sched.specs.Skeleton.{NestText}
use Rattle.sched.specs.Standing.{◌>>=◌}
use Rattle.blocks.specs.Bodies.{own_lines}
use Rattle.sched.specs.Renamed.{Pairs, value_in, forms_renamed, step_renamed, region_renamed}
use Rattle.sched.specs.Placed.{PlacedText, OwnerText, SoFar, with_lines, with_symbol, with_claim, claimed, bound_by, around, lets}
use Rattle.blocks.specs.Placed.{Nests, all_at, walk_apart, nests_from, let_count, computed}
use Rattle.blocks.specs.Placed.{over_grid, group_nests}
use Rattle.blocks.proofs.Laying.{bound, same}
use Rattle.completeness.specs.Laws.{IsPublish}
use Rattle.completeness.proofs.Unlike.{ClearAll, joined_clear}
use Rattle.completeness.proofs.InnerLets.{IsNamed}
use Rattle.completeness.proofs.Walked.{choice, Lines, HoldsOfEach}
use Rattle.completeness.proofs.WalkedSeats.{store_is, held_is}

pub joined_lines : (xs ys : List Statement) → block_lines (block (xs ++ ys)) ≡ block_lines (block xs) + block_lines (block ys)
joined_lines [] ys = omega arith
joined_lines (x ∷ xs) ys = (let rest = joined_lines xs ys in omega (arith, rest))

joined_long : {A : Type 0} (xs ys : List A) → length (xs ++ ys) ≡ length xs + length ys
joined_long [] ys = omega arith
joined_long (x ∷ xs) ys = (let rest = joined_long xs ys in omega (arith, rest))

joined_again : {A : Type 0} (xs ys zs : List A) → (xs ++ ys) ++ zs ≡ xs ++ (ys ++ zs)
joined_again [] ys zs = refl
joined_again (x ∷ xs) ys zs = ap (λ (ws : List _). x ∷ ws) (joined_again xs ys zs)

joined_nothing : {A : Type 0} (xs : List A) → xs ++ [] ≡ xs
joined_nothing [] = refl
joined_nothing (x ∷ xs) = ap (λ (ys : List _). x ∷ ys) (joined_nothing xs)

-- this is so of lines `publish` alone
module _ (P : Statement → Type 0) (only : (s : Statement) → P s → IsPublish s) where
  -- so many lines and claims are made, and none of these lines
  pub record AreCounted (p : SoFar) (xs : List Statement) (q : SoFar) : Type 0 where
    pub line : q.line ≡ p.line + block_lines (block xs)
    pub more : List Claim
    pub grown : q.claims ≡ p.claims ++ more
    pub counted : q.claim ≡ p.claim + length more
    pub clear : ClearAll P (block xs)

  abbrev pub Counted : Lines
  Counted f m p xs q = AreCounted p xs q

  nothing_more : (p : SoFar) → AreCounted p [] p
  nothing_more p = record { line = omega arith; more = []; grown = sym (joined_nothing p.claims); counted = omega arith; clear = tt }

  one_more : (p q r : SoFar) (xs ys : List Statement) → AreCounted p xs q → AreCounted q ys r → AreCounted p (xs ++ ys) r
  one_more p q r xs ys h k =
      let l = joined_lines xs ys in
      let n = joined_long h.more k.more in
      let one = h.line in
      let two = k.line in
      let three = h.counted in
      let four = k.counted in
      record {
        line = omega (arith, l, one, two);
        more = h.more ++ k.more;
        grown = k.grown ∙ ap (λ (ws : List Claim). ws ++ k.more) h.grown ∙ joined_again p.claims h.more k.more;
        counted = omega (arith, three, four, n);
        clear = joined_clear P xs ys h.clear k.clear;
      }

  around_clear : (t : Step) (xs : List Statement) → ClearAll P (block xs) → ClearAll P (block (around t xs))
  around_clear (Turns i x kind) xs h = ((λ e. only (For i x kind (Seq (block xs))) e, h), tt)
  around_clear (Named i pick fs) xs h = (λ e. only (Let i pick fs) e, h)
  around_clear (Tested low high) xs h = ((λ e. only (Guard low high (Seq (block xs))) e, h), tt)

  around_lines : (t : Step) (xs : List Statement) → block_lines (block (around t xs)) ≡ own_lines t + block_lines (block xs)
  around_lines (Turns i x kind) xs = omega arith
  around_lines (Named i pick fs) xs = omega arith
  around_lines (Tested low high) xs = omega arith

  some_lines : (t : Step) → 1 ≤ own_lines t
  some_lines (Turns i x kind) = omega arith
  some_lines (Named i pick fs) = omega arith
  some_lines (Tested low high) = omega arith

  by_step : (o : Option ℕ) (t : Step) (p q : SoFar) (xs : List Statement) → AreCounted (with_lines 1 (with_symbol o p)) xs q → AreCounted p (around t xs) (with_lines (own_lines t - 1) q)
  by_step o t p q xs h = of o (h.line) h.more h.grown h.counted
    where
      count : q.line ≡ (p.line + 1) + block_lines (block xs) → q.line + (own_lines t - 1) ≡ p.line + block_lines (block (around t xs))
      count e = (let l = around_lines t xs in let some = some_lines t in omega (arith, e, l, some))

      of : (o : Option ℕ) → q.line ≡ (with_lines 1 (with_symbol o p)).line + block_lines (block xs) → (more : List Claim) → q.claims ≡ (with_lines 1 (with_symbol o p)).claims ++ more →
          q.claim ≡ (with_lines 1 (with_symbol o p)).claim + length more → AreCounted p (around t xs) (with_lines (own_lines t - 1) q)
      of None e more grown counted = record { line = count e; more = more; grown = grown; counted = counted; clear = around_clear t xs h.clear }
      of (Some i) e more grown counted = record { line = count e; more = more; grown = grown; counted = counted; clear = around_clear t xs h.clear }

  by_lets : (ss : List Step) → AllByRecursion IsNamed ss → (m : Pairs) (p : SoFar) (x : List Statement × (Pairs × SoFar)) → lets ss m p ≡ Some x → AreCounted p x.0 x.1.1
  by_lets [] named m p x e = subst (λ (y : List Statement × (Pairs × SoFar)). AreCounted p y.0 y.1.1) (same ([], (m, p)) x e) (nothing_more p)
  by_lets (Turns k x kind ∷ ss) named m p y e = absurd named.0
  by_lets (Tested low high ∷ ss) named m p y e = absurd named.0
  by_lets (Named k pick fs ∷ ss) named m p y e =
      let names = m ++ (k, p.symbol) ∷ [] in
      let inside = with_lines 1 (record p { symbol = p.symbol + 1 }) in
      let b = bound (step_renamed names (Named k pick fs)) (λ t. lets ss names inside >>= λ x. Some (around t x.0, x.1)) y e in
      let c = bound (lets ss names inside) (λ x. Some (around b.value x.0, x.1)) y b.comes in
      let rest = by_lets ss named.1 names inside c.value c.is in
      subst (λ (z : List Statement × (Pairs × SoFar)). AreCounted p z.0 z.1.1) (same (around b.value c.value.0, c.value.1) y c.comes) (one b.value c.value.0 c.value.1.1 rest (let_is k pick
      fs b.value names b.is))
    where
      one : (t : Step) (xs : List Statement) (q : SoFar) → AreCounted (with_lines 1 (record p { symbol = p.symbol + 1 })) xs q → own_lines t ≡ 1 → AreCounted p (around t xs) q
      one t xs q h single =
          let e = h.line in
          let l = around_lines t xs in
          record { line = omega (arith, e, l, single); more = h.more; grown = h.grown; counted = h.counted; clear = around_clear t xs h.clear }

      let_is : (k : ℕ) (pick : _) (fs : List Form) (t : Step) (names : Pairs) → step_renamed names (Named k pick fs) ≡ Some t → own_lines t ≡ 1
      let_is k pick fs t names e =
          let s = bound (value_in names k) (λ s. forms_renamed names fs >>= λ gs. Some (Named s pick gs)) t e in
          let y = bound (forms_renamed names fs) (λ gs. Some (Named s.value pick gs)) t s.comes in
          ap own_lines (sym (same (Named s.value pick y.value) t y.comes))

  lets_counted : (ss : List Step) → AllByRecursion IsNamed (take (let_count ss) ss)
  lets_counted [] = tt
  lets_counted (Turns i x kind ∷ ss) = tt
  lets_counted (Tested low high ∷ ss) = tt
  lets_counted (Named i pick fs ∷ ss) = subst (λ (n : ℕ). AllByRecursion IsNamed (take n (Named i pick fs ∷ ss))) (let next : suc (let_count ss) ≡ let_count ss + 1 = omega arith in next)
      (tt, lets_counted ss)

  by_choice : (i : ℕ) (p q r : SoFar) (us vs : List Statement) → AreCounted (with_lines 1 p) us q → AreCounted (with_lines 1 q) vs r → AreCounted p (choice i us vs) (with_lines 1 r)
  by_choice i p q r us vs h k =
      let one = h.line in
      let two = k.line in
      let three = h.counted in
      let four = k.counted in
      let n = joined_long h.more k.more in
      record {
        line = omega (arith, one, two);
        more = h.more ++ k.more;
        grown = k.grown ∙ ap (λ (ws : List Claim). ws ++ k.more) h.grown ∙ joined_again p.claims h.more k.more;
        counted = omega (arith, three, four, n);
        clear = ((λ e. only (First i (Seq (block us)) (Seq (block vs))) e, h.clear, k.clear), tt);
      }

  pub counted_each : (inners : List PlacedText) → HoldsOfEach inners (λ f s. Unit {0}) IsNamed (λ o ns. Unit {0}) Counted
  counted_each inners = record {
    none = λ f m p. nothing_more p;
    both = λ f m p q r xs ys h k. one_more p q r xs ys h k;
    step = λ f m p q xs s t good e h. by_step (bound_by s) t p q xs h;
    named = λ f m p q ss x ys good e h. one_more p x.1.1 q x.0 ys (by_lets ss good m p x e) h;
    store = λ f m p o ns d n at s owns there renamed e.
        let w = store_is o p.loads d at s e in
        subst (λ (t : Statement). AreCounted p (t ∷ []) (with_lines 1 p)) (sym w.is) (record {
          line = omega arith;
          more = [];
          grown = sym (joined_nothing p.claims);
          counted = omega arith;
          clear = (λ k. only (Store o.buffer d w.coordinates _) k, tt);
        });
    apart = λ f m p q xs h. record { line = h.line; more = h.more; grown = h.grown; counted = h.counted; clear = h.clear };
    claim = λ f m p o ns d n r owns there e. record {
      line = omega arith;
      more = record { line = p.line - 1; buffer = o.buffer; function = o.function.subject.name; definition = d; region = r } ∷ [];
      grown = refl;
      counted = refl;
      clear = tt;
    };
    seat = λ f m p n i places at e. record {
      line = omega arith;
      more = [];
      grown = sym (joined_nothing p.claims);
      counted = omega arith;
      clear = (λ k. only (Alloc p.buffer i.function.subject.name places) k, tt);
    };
    own = λ f m p q n i b xs at seat h. h tt (λ l e. tt);
    slide = λ f m p q r n j l all new i x y z us vs at later place symbol one two three h g.
        let a = by_lets (Named l.new Min l.first_new ∷ []) (tt, tt) m p x one in
        let b = by_lets (take (let_count all.steps) all.steps) (lets_counted all.steps) m x.1.1 y two in
        let c = by_lets (take (let_count new.steps) new.steps) (lets_counted new.steps) x.1.0 y.1.1 z three in
        let rest = one_more y.1.1 z.1.1 (with_lines 1 r) z.0 (choice i us vs) c (by_choice i z.1.1 q r us vs h g) in
        one_more p x.1.1 (with_lines 1 r) x.0 (y.0 ++ (z.0 ++ choice i us vs)) a (one_more x.1.1 y.1.1 (with_lines 1 r) y.0 (z.0 ++ choice i us vs) b rest);
    window = λ f m p q n i l at later e.
        let w = held_is i l m p q e in
        subst (AreCounted p []) w.1 (record { line = omega arith; more = []; grown = sym (joined_nothing p.claims); counted = omega arith; clear = tt });
  }

-- ---- the last claim

-- the last claim is of this function, behind the last of these lines
pub record IsLast (o : OwnerText) (q : SoFar) : Type 0 where
  pub before : List Claim
  pub last : Claim
  pub are : q.claims ≡ before ++ last ∷ []
  pub named : last.function ≡ o.function.subject.name
  pub line : last.line ≡ q.line - 1

module _ (make : Nests) (inners : List PlacedText) (o : OwnerText) (m : Pairs) where
  abbrev own : ℕ → SoFar → List Span1 → Claim
  own d q r = record { line = q.line - 1; buffer = o.buffer; function = o.function.subject.name; definition = d; region = r }

  -- behind the claim of a nest the others are made
  record IsBehind (d : ℕ) (ns : List NestText) (x : List Statement × SoFar) : Type 0 where
    before : SoFar
    region : List Span1
    others : List Statement × SoFar
    made : nests_from make inners o (d + 1) ns m (with_claim o d region before) ≡ Some others
    is : others.1 ≡ x.1

  behind : (d : ℕ) (n : NestText) (ns : List NestText) (p : SoFar) (x : List Statement × SoFar) → nests_from make inners o d (n ∷ ns) m p ≡ Some x → IsBehind d ns x
  behind d n ns p x e =
      let a = bound (walk_apart make inners o d n 0 n.steps m p) (λ x. (claimed o d m x.1 >>= nests_from make inners o (d + 1) ns m) >>= λ y. Some (x.0 ++ y.0, y.1)) x e in
      let b = bound (claimed o d m a.value.1 >>= nests_from make inners o (d + 1) ns m) (λ y. Some (a.value.0 ++ y.0, y.1)) x a.comes in
      let c = bound (claimed o d m a.value.1) (nests_from make inners o (d + 1) ns m) b.value b.is in
      let r = bound (region_renamed m o.claimed) (λ r. Some (with_claim o d r a.value.1)) c.value c.is in
      record {
        before = a.value.1;
        region = r.value;
        others = b.value;
        made = ap (nests_from make inners o (d + 1) ns m) (same (with_claim o d r.value a.value.1) c.value r.comes) ∙ c.comes;
        is = ap (λ (y : List Statement × SoFar). y.1) (same (a.value.0 ++ b.value.0, b.value.1) x b.comes);
      }

  nests_last : (d : ℕ) (n : NestText) (ns : List NestText) (p : SoFar) (x : List Statement × SoFar) → nests_from make inners o d (n ∷ ns) m p ≡ Some x → IsLast o x.1
  nests_last d n [] p x e =
      let b = behind d n [] p x e in
      let one : IsLast o (with_claim o d b.region b.before) = record { before = b.before.claims; last = own d b.before b.region; are = refl; named = refl; line = refl } in
      subst (IsLast o) (ap (λ (y : List Statement × SoFar). y.1) (same ([], with_claim o d b.region b.before) b.others b.made) ∙ b.is) one
  nests_last d n (k ∷ ns) p x e = (let b = behind d n (k ∷ ns) p x e in subst (IsLast o) b.is (nests_last (d + 1) k ns (with_claim o d b.region b.before) b.others b.made))

pub group_last : (deep : ℕ) (inners : List PlacedText) (o : OwnerText) (n : NestText) (ns : List NestText) (m : Pairs) (p q : SoFar) (xs : List Statement) →
    group_nests deep inners o (n ∷ ns) m p ≡ Some (xs, q) → IsLast o q
group_last deep inners o n ns m p q xs e =
    let make = computed deep inners in
    let a = bound (all_at make inners over_grid m p) (λ x. nests_from make inners o 0 (n ∷ ns) m x.1 >>= λ y. Some (x.0 ++ y.0, y.1)) (xs, q) e in
    let b = bound (nests_from make inners o 0 (n ∷ ns) m a.value.1) (λ y. Some (a.value.0 ++ y.0, y.1)) (xs, q) a.comes in
    subst (λ (y : List Statement × SoFar). IsLast o y.1) (same (a.value.0 ++ b.value.0, b.value.1) (xs, q) b.comes) (nests_last make inners o m 0 n ns a.value.1 b.value b.is)
