-- What loops, lets and guards bind and name in a group in whose loops functions are computed: symbols that are in scope and no others, since forms get the names of
-- those alone; a loop or a let might name its own symbol besides.
use Rattle.std.proofs.Common.{◌≡◌, ℕ, suc, ◌+◌, ◌-◌, ◌<◌, ◌≤◌, Bool, true, false, List, [], ◌∷◌, ◌++◌, take, Option, Some, None, refl, sym, ap, ◌∙◌, subst, inl, inr, ◌⊎◌, arith}
use Rattle.std.specs.Prelude.{◌==◌, if◌then◌else◌}
use Rattle.std.specs.List.{AllByRecursion}
use Rattle.lin.specs.Forms.{Form, number, combined}
use Rattle.lin.specs.declared.form.Multiple.{Multiple}
use Rattle.lin.specs.declared.span.Span1.{Span1}
use Rattle.lin.proofs.TermLemmas.{all_weaker}
use Rattle.bounds.proofs.ListSound.{all-append}
use Rattle.soundness.proofs.Refines.{eq_refl}
use Rattle.plan.specs.declared.stmt.Pick.TheVariants.{Min}
use Rattle.plan.specs.Plan.{Statement, Seq, For, Let, First, Guard, Alloc, Fetch, Store, Publish, Statements, Empty, Then, block}
use Rattle.sched.specs.declared.skeleton.Step.{Step}
use Rattle.sched.specs.declared.skeleton.Step.TheVariants.{Turns, Named, Tested}
use Rattle.sched.specs.Standing.{◌>>=◌}
use Rattle.validation.specs.Groups.Lines.{symbols_after}
use Rattle.blocks.specs.Bodies.{own_lines}
use Rattle.sched.specs.Renamed.{Pairs, last_value, value_in, symbol, terms_renamed, form_renamed, behind, forms_renamed, span_renamed, step_renamed}
use Rattle.sched.specs.Placed.{PlacedText, SoFar, with_lines, with_symbol, with_name, bound_by, around, lets}
use Rattle.blocks.specs.Placed.{let_count}
use Rattle.blocks.proofs.Laying.{bound, same}
use Rattle.completeness.proofs.Only.{Only, AreOnly, SpanOnly, only_combined}
use Rattle.completeness.proofs.Spots.{Has, has_first, has_last}
use Rattle.completeness.proofs.Scoped.{last_or}
use Rattle.completeness.proofs.InnerLets.{IsNamed}
use Rattle.completeness.proofs.Walked.{choice, HoldsOfEach}
use Rattle.completeness.proofs.WalkedSeats.{store_is, held_is}
use Rattle.completeness.proofs.WalkedStores.{value_is}

-- ---- names

-- what is so of each name is so of the symbols of a form that has these
module _ (P : ℕ → Type 0) (m : Pairs) (all : AllByRecursion (λ x. P x.1) m) where
  terms_only : (ts : List Multiple) (made f : Form) → Only P made → terms_renamed m ts made ≡ Some f → Only P f
  terms_only [] made f h e = subst (Only P) (same made f e) h
  terms_only (t ∷ ts) made f h e =
      let s = bound (value_in m t.symbol) (λ s. combined made t.factor (symbol s) >>= λ one. terms_renamed m ts one) f e in
      let one = bound (combined made t.factor (symbol s.value)) (λ one. terms_renamed m ts one) f s.comes in
      terms_only ts one.value f (only_combined P made t.factor (symbol s.value) h (value_is (λ k b. P b) m t.symbol s.value all s.is, tt) one.value one.is) one.comes

  form_only : (f g : Form) → form_renamed m f ≡ Some g → Only P g
  form_only f g e = terms_only f.terms (number f.constant) g tt e

  forms_behind : (made fs gs : List Form) → AreOnly P made → behind (form_renamed m) made fs ≡ Some gs → AreOnly P gs
  forms_behind made [] gs h e = subst (AreOnly P) (same made gs e) h
  forms_behind made (f ∷ fs) gs h e =
      let b = bound (form_renamed m f) (λ y. behind (form_renamed m) (made ++ y ∷ []) fs) gs e in
      forms_behind (made ++ b.value ∷ []) fs gs (all-append (Only P) made (b.value ∷ []) h (form_only f b.value b.is, tt)) b.comes

  forms_only : (fs gs : List Form) → forms_renamed m fs ≡ Some gs → AreOnly P gs
  forms_only fs gs e = forms_behind [] fs gs tt e

  span_only : (x y : Span1) → span_renamed m x ≡ Some y → SpanOnly P y
  span_only x y e =
      let made : List Form → List Form → Span1 = λ low high. record { lower = low; upper = high } in
      let b = bound (forms_renamed m x.lower) (λ low. forms_renamed m x.upper >>= λ high. Some (made low high)) y e in
      let c = bound (forms_renamed m x.upper) (λ high. Some (made b.value high)) y b.comes in
      subst (SpanOnly P) (same (made b.value c.value) y c.comes) (forms_only x.lower b.value b.is, forms_only x.upper c.value c.is)

-- a number stands for what the last pair says
value_last : (m : Pairs) (k b : ℕ) → value_in (m ++ (k, b) ∷ []) k ≡ Some b
value_last m k b = of m None
  where
    here : (t : Bool) (o : Option ℕ) → t ≡ true → (if t then Some b else o) ≡ Some b
    here true o e = refl
    here false o e = absurd (cc e)

    of : (m : Pairs) (o : Option ℕ) → last_value o (m ++ (k, b) ∷ []) k ≡ Some b
    of [] o = here (k == k) o (eq_refl k)
    of (p ∷ m) o = either (p.0 == k) (of m (Some p.1)) (of m o)
      where
        either : (t : Bool) → last_value (Some p.1) (m ++ (k, b) ∷ []) k ≡ Some b → last_value o (m ++ (k, b) ∷ []) k ≡ Some b →
            (if t then last_value (Some p.1) (m ++ (k, b) ∷ []) k else last_value o (m ++ (k, b) ∷ []) k) ≡ Some b
        either true x y = x
        either false x y = y

-- ---- by the symbols in scope alone

-- a symbol in scope, or this one
abbrev pub HasOr : List ℕ → ℕ → ℕ → Type 0
HasOr ss i s = Has ss s ⊎ (i ≡ s)

-- no loop or let binds one of these, or one that was bound before; its forms name these, and at most its own symbol besides; a guard's name these
abbrev mutual
  pub Binds : Statement → List ℕ → Type 0
  Binds (Seq all) ss = BindAll all ss
  Binds (For i x kind body) ss = (¬ Has ss i × SpanOnly (HasOr ss i) x) × Binds body (ss ++ i ∷ [])
  Binds (Let i pick fs) ss = ¬ Has ss i × AreOnly (HasOr ss i) fs
  Binds (First i a b) ss = Binds a ss × Binds b ss
  Binds (Guard low high body) ss = (Only (Has ss) low × Only (Has ss) high) × Binds body ss
  Binds (Alloc b f places) ss = Unit {0}
  Binds (Fetch b g region) ss = Unit {0}
  Binds (Store b k at e) ss = Unit {0}
  Binds (Publish c) ss = Unit {0}

  pub BindAll : Statements → List ℕ → Type 0
  BindAll Empty ss = Unit {0}
  BindAll (Then a rest) ss = Binds a ss × BindAll rest (symbols_after a ss)

-- the symbols in scope behind statements
abbrev pub past : Statements → List ℕ → List ℕ
past Empty ss = ss
past (Then a rest) ss = past rest (symbols_after a ss)

pub joined_bind : (xs ys : List Statement) (ss : List ℕ) → BindAll (block xs) ss → BindAll (block ys) (past (block xs) ss) → BindAll (block (xs ++ ys)) ss
joined_bind [] ys ss h k = k
joined_bind (a ∷ xs) ys ss h k = (h.0, joined_bind xs ys (symbols_after a ss) h.1 k)

pub past_joined : (xs ys : List Statement) (ss : List ℕ) → past (block (xs ++ ys)) ss ≡ past (block ys) (past (block xs) ss)
past_joined [] ys ss = refl
past_joined (a ∷ xs) ys ss = past_joined xs ys (symbols_after a ss)

-- the names are in scope, and only symbols before this one
pub record InScope (m : Pairs) (n : ℕ) (ss : List ℕ) : Type 0 where
  pub names : AllByRecursion (λ x. Has ss x.1) m
  pub below : (s : ℕ) → Has ss s → s < n

-- behind the lines these names are in scope still
pub record AreBound (m : Pairs) (p : SoFar) (xs : List Statement) (q : SoFar) (ss : List ℕ) : Type 0 where
  pub lines : BindAll (block xs) ss
  pub scope : InScope m q.symbol (past (block xs) ss)

pub record AreInScope (m : Pairs) (p : SoFar) (xs : List Statement) (q : SoFar) : Type 0 where
  pub rises : p.symbol ≤ q.symbol
  pub bound : (ss : List ℕ) → InScope m p.symbol ss → AreBound m p xs q ss

-- one more symbol, under its name
more_scope : (m : Pairs) (k n : ℕ) (ss : List ℕ) → InScope m n ss → InScope (m ++ (k, n) ∷ []) (n + 1) (ss ++ n ∷ [])
more_scope m k n ss h = record {
  names = all-append (λ x. Has (ss ++ n ∷ []) x.1) m ((k, n) ∷ []) (all_weaker (λ x. Has ss x.1) (λ x. Has (ss ++ n ∷ []) x.1) (λ x g. has_first ss (n ∷ []) x.1 g) m h.names) (has_last ss n, tt);
  below = λ s g. low s (last_or ss n s g);
}
  where
    low : (s : ℕ) → Has ss s ⊎ (n ≡ s) → s < n + 1
    low s (inl g) = (let k = h.below s g in omega (arith, k))
    low s (inr e) = omega (arith, e)

later_scope : (m : Pairs) (n k : ℕ) (ss : List ℕ) → n ≤ k → InScope m n ss → InScope m k ss
later_scope m n k ss le h = record { names = h.names; below = λ s g. (let less = h.below s g in omega (arith, less, le)) }

-- the last names go
fewer_names : (m : Pairs) (k b n : ℕ) (ss : List ℕ) → InScope (m ++ (k, b) ∷ []) n ss → InScope m n ss
fewer_names m k b n ss h = record { names = first m h.names; below = h.below }
  where
    first : (m : Pairs) → AllByRecursion (λ x. Has ss x.1) (m ++ (k, b) ∷ []) → AllByRecursion (λ x. Has ss x.1) m
    first [] g = tt
    first (x ∷ m) g = (g.0, first m g.1)

fresh : (m : Pairs) (n : ℕ) (ss : List ℕ) → InScope m n ss → ¬ Has ss n
fresh m n ss h g = (let less = h.below n g in omega (arith, less))

-- what is named with one more is in scope, or that one
has_or : (n : ℕ) (ss : List ℕ) (s : ℕ) → Has (ss ++ n ∷ []) s → HasOr ss n s
has_or n ss s h = last_or ss n s h

-- ---- steps

-- a step under its name in the plan
module _ (m : Pairs) (ss : List ℕ) where
  record IsLoop (k n : ℕ) (x : Span1) (kind : _) (t : Step) : Type 0 where
    span : Span1
    is : t ≡ Turns n span kind
    over : SpanOnly (HasOr ss n) span

  loop_is : (k n : ℕ) (x : Span1) (kind : _) (t : Step) → InScope m n ss → step_renamed (m ++ (k, n) ∷ []) (Turns k x kind) ≡ Some t → IsLoop k n x kind t
  loop_is k n x kind t h e =
      let names = m ++ (k, n) ∷ [] in
      let s = bound (value_in names k) (λ s. span_renamed names x >>= λ y. Some (Turns s y kind)) t e in
      let y = bound (span_renamed names x) (λ y. Some (Turns s.value y kind)) t s.comes in
      let number_is : s.value ≡ n = same s.value n (sym s.is ∙ value_last m k n) in
      let more = more_scope m k n ss h in
      let over = span_only (HasOr ss n) names (all_weaker (λ x. Has (ss ++ n ∷ []) x.1) (λ x. HasOr ss n x.1) (λ x g. has_or n ss x.1 g) names more.names) x y.value y.is in
      record { span = y.value; is = sym (same (Turns s.value y.value kind) t y.comes) ∙ ap (λ (i : ℕ). Turns i y.value kind) number_is; over = over }

  record IsLet (k n : ℕ) (pick : _) (fs : List Form) (t : Step) : Type 0 where
    forms : List Form
    is : t ≡ Named n pick forms
    over : AreOnly (HasOr ss n) forms

  let_is : (k n : ℕ) (pick : _) (fs : List Form) (t : Step) → InScope m n ss → step_renamed (m ++ (k, n) ∷ []) (Named k pick fs) ≡ Some t → IsLet k n pick fs t
  let_is k n pick fs t h e =
      let names = m ++ (k, n) ∷ [] in
      let s = bound (value_in names k) (λ s. forms_renamed names fs >>= λ gs. Some (Named s pick gs)) t e in
      let y = bound (forms_renamed names fs) (λ gs. Some (Named s.value pick gs)) t s.comes in
      let number_is : s.value ≡ n = same s.value n (sym s.is ∙ value_last m k n) in
      let more = more_scope m k n ss h in
      let over = forms_only (HasOr ss n) names (all_weaker (λ x. Has (ss ++ n ∷ []) x.1) (λ x. HasOr ss n x.1) (λ x g. has_or n ss x.1 g) names more.names) fs y.value y.is in
      record { forms = y.value; is = sym (same (Named s.value pick y.value) t y.comes) ∙ ap (λ (i : ℕ). Named i pick y.value) number_is; over = over }

  record IsTest (t : Step) : Type 0 where
    low : Form
    high : Form
    is : t ≡ Tested low high
    over : Only (Has ss) low × Only (Has ss) high

  test_is : (low high : Form) (n : ℕ) (t : Step) → InScope m n ss → step_renamed m (Tested low high) ≡ Some t → IsTest t
  test_is low high n t h e =
      let a = bound (form_renamed m low) (λ l. form_renamed m high >>= λ h. Some (Tested l h)) t e in
      let b = bound (form_renamed m high) (λ h. Some (Tested a.value h)) t a.comes in
      record {
        low = a.value;
        high = b.value;
        is = sym (same (Tested a.value b.value) t b.comes);
        over = (
          form_only (Has ss) m h.names low a.value a.is,
          form_only (Has ss) m h.names high
              b.value b.is,
        );
      }

-- around what follows
by_step : (m : Pairs) (p q : SoFar) (xs : List Statement) (s t : Step) (n : ℕ) → step_renamed (with_name (bound_by s) p.symbol m) s ≡ Some t →
    AreInScope (with_name (bound_by s) p.symbol m) (with_lines 1 (with_symbol (bound_by s) p)) xs q → AreInScope m p (around t xs) (with_lines n q)
by_step m p q xs (Turns k x kind) t n e h =
    let up = h.rises in
    record {
      rises = omega (arith, up);
      bound = λ ss sc.
          let w = loop_is m ss k p.symbol x kind t sc e in
          let inside = h.bound (ss ++ p.symbol ∷ []) (more_scope m k p.symbol ss sc) in
          let made : AreBound m p (around (Turns p.symbol w.span kind) xs) (with_lines n q) ss =
          record { lines = (((fresh m p.symbol ss sc, w.over), inside.lines), tt); scope = later_scope m p.symbol q.symbol ss (omega (arith, up)) sc } in
          subst (λ (u : Step). AreBound m p (around u xs) (with_lines n q) ss) (sym w.is) made;
    }
by_step m p q xs (Named k pick fs) t n e h =
    let up = h.rises in
    record {
      rises = omega (arith, up);
      bound = λ ss sc.
          let w = let_is m ss k p.symbol pick fs t sc e in
          let inside = h.bound (ss ++ p.symbol ∷ []) (more_scope m k p.symbol ss sc) in
          let made : AreBound m p (around (Named p.symbol pick w.forms) xs) (with_lines n q) ss =
          record { lines = ((fresh m p.symbol ss sc, w.over), inside.lines); scope = fewer_names m k p.symbol q.symbol (past (block xs) (ss ++ p.symbol ∷ [])) inside.scope } in
          subst (λ (u : Step). AreBound m p (around u xs) (with_lines n q) ss) (sym w.is) made;
    }
by_step m p q xs (Tested low high) t n e h = record {
  rises = h.rises;
  bound = λ ss sc.
      let up = h.rises in
      let w = test_is m ss low high p.symbol t sc e in
      let inside = h.bound ss sc in
      let made : AreBound m p (around (Tested w.low w.high) xs) (with_lines n q) ss = record { lines = ((w.over, inside.lines), tt); scope = later_scope m p.symbol q.symbol ss up sc } in
      subst (λ (u : Step). AreBound m p (around u xs) (with_lines n q) ss) (sym w.is) made;
}

-- ---- behind one another

one_more : (m : Pairs) (p q r : SoFar) (xs ys : List Statement) → AreInScope m p xs q → AreInScope m q ys r → AreInScope m p (xs ++ ys) r
one_more m p q r xs ys h k =
    let one = h.rises in
    let two = k.rises in
    record {
      rises = omega (arith, one, two);
      bound = λ ss sc.
          let a = h.bound ss sc in
          let b = k.bound (past (block xs) ss) a.scope in
          record { lines = joined_bind xs ys ss a.lines b.lines; scope = subst (InScope m r.symbol) (sym (past_joined xs ys ss)) b.scope };
    }

nothing_more : (m : Pairs) (p q : SoFar) → p.symbol ≡ q.symbol → AreInScope m p [] q
nothing_more m p q e = record { rises = omega (arith, e); bound = λ ss sc. record { lines = tt; scope = subst (λ (n : ℕ). InScope m n ss) e sc } }

-- lets, and what stands behind them inside their names
pub record AreLain (m : Pairs) (p : SoFar) (x : List Statement × (Pairs × SoFar)) : Type 0 where
  pub rises : p.symbol ≤ x.1.1.symbol
  pub lines : (ss : List ℕ) → InScope m p.symbol ss → BindAll (block x.0) ss × InScope x.1.0 x.1.1.symbol (past (block x.0) ss)
  -- those before them stay
  pub stay : (n : ℕ) (ss : List ℕ) → InScope x.1.0 n ss → InScope m n ss

by_lets : (ss : List Step) → AllByRecursion IsNamed ss → (m : Pairs) (p : SoFar) (x : List Statement × (Pairs × SoFar)) → lets ss m p ≡ Some x → AreLain m p x
by_lets [] named m p x e = subst (AreLain m p) (same ([], (m, p)) x e) (record { rises = omega arith; lines = λ ss sc. (tt, sc); stay = λ n ss sc. sc })
by_lets (Turns k x kind ∷ ss) named m p y e = absurd named.0
by_lets (Tested low high ∷ ss) named m p y e = absurd named.0
by_lets (Named k pick fs ∷ ss) named m p y e =
    let names = m ++ (k, p.symbol) ∷ [] in
    let inside = with_lines 1 (record p { symbol = p.symbol + 1 }) in
    let b = bound (step_renamed names (Named k pick fs)) (λ t. lets ss names inside >>= λ x. Some (around t x.0, x.1)) y e in
    let c = bound (lets ss names inside) (λ x. Some (around b.value x.0, x.1)) y b.comes in
    let rest = by_lets ss named.1 names inside c.value c.is in
    let up = rest.rises in
    subst (AreLain m p) (same (around b.value c.value.0, c.value.1) y c.comes) (record {
      rises = omega (arith, up);
      lines = λ us sc.
          let w = let_is m us k p.symbol pick fs b.value sc b.is in
          let more = rest.lines (us ++ p.symbol ∷ []) (more_scope m k p.symbol us sc) in
          let made : BindAll (block (around (Named p.symbol pick w.forms) c.value.0)) us × InScope c.value.1.0 c.value.1.1.symbol (past (block (around (Named p.symbol pick w.forms) c.value.0)) us) =
          (((fresh m p.symbol us sc, w.over), more.0), more.1) in
          subst (λ (u : Step). BindAll (block (around u c.value.0)) us × InScope c.value.1.0 c.value.1.1.symbol (past (block (around u c.value.0)) us)) (sym w.is) made;
      stay = λ n us sc. fewer_names m k p.symbol n us (rest.stay n us sc);
    })

behind_lets : (m : Pairs) (p q : SoFar) (x : List Statement × (Pairs × SoFar)) (ys : List Statement) → AreLain m p x → AreInScope x.1.0 x.1.1 ys q → AreInScope m p (x.0 ++ ys) q
behind_lets m p q x ys h k =
    let one = h.rises in
    let two = k.rises in
    record {
      rises = omega (arith, one, two);
      bound = λ ss sc.
          let a = h.lines ss sc in
          let b = k.bound (past (block x.0) ss) a.1 in
          record {
            lines = joined_bind x.0 ys ss a.0 b.lines;
            scope = h.stay q.symbol (past (block (x.0 ++ ys)) ss) (subst (InScope x.1.0 q.symbol) (sym (past_joined x.0 ys ss)) b.scope);
          };
    }

lets_counted : (ss : List Step) → AllByRecursion IsNamed (take (let_count ss) ss)
lets_counted [] = tt
lets_counted (Turns i x kind ∷ ss) = tt
lets_counted (Tested low high ∷ ss) = tt
lets_counted (Named i pick fs ∷ ss) = subst (λ (n : ℕ). AllByRecursion IsNamed (take n (Named i pick fs ∷ ss))) (let next : suc (let_count ss) ≡ let_count ss + 1 = omega arith in next) (
  tt,
  lets_counted ss,
)

-- the first turn's lines and those of the others, behind three rows of lets, of which the second stands inside the names of the first in neither
by_choice : (m : Pairs) (p q r : SoFar) (i : ℕ) (x y z : List Statement × (Pairs × SoFar)) (us vs : List Statement) → AreLain m p x → AreLain m x.1.1 y → AreLain x.1.0 y.1.1 z →
    AreInScope y.1.0 (with_lines 1 z.1.1) us q → AreInScope z.1.0 (with_lines 1 q) vs r → AreInScope m p (x.0 ++ (y.0 ++ (z.0 ++ choice i us vs))) (with_lines 1 r)
by_choice m p q r i x y z us vs h g k a b =
    let one = h.rises in
    let two = g.rises in
    let three = k.rises in
    let four = a.rises in
    let five = b.rises in
    record { rises = omega (arith, one, two, three, four, five); bound = λ ss sc. all ss sc }
  where
    -- what is in scope stays so behind lets
    stays : (xs : List Statement) (ss : List ℕ) (s : ℕ) → Has ss s → Has (past (block xs) ss) s
    stays [] ss s h = h
    stays (w ∷ xs) ss s h = stays xs (symbols_after w ss) s (after w)
      where
        after : (w : Statement) → Has (symbols_after w ss) s
        after (Seq all) = h
        after (For j x kind body) = h
        after (Let j pick fs) = has_first ss (j ∷ []) s h
        after (First j c d) = h
        after (Guard low high body) = h
        after (Alloc c f places) = h
        after (Fetch c f region) = h
        after (Store c d at e) = h
        after (Publish c) = h

    wider : (n : Pairs) (xs : List Statement) (ss : List ℕ) → AllByRecursion (λ x. Has ss x.1) n → AllByRecursion (λ x. Has (past (block xs) ss) x.1) n
    wider n xs ss h = all_weaker (λ x. Has ss x.1) (λ x. Has (past (block xs) ss) x.1) (λ x g. stays xs ss x.1 g) n h

    all : (ss : List ℕ) → InScope m p.symbol ss → AreBound m p (x.0 ++ (y.0 ++ (z.0 ++ choice i us vs))) (with_lines 1 r) ss
    all ss sc =
        let s1 = past (block x.0) ss in
        let s2 = past (block y.0) s1 in
        let s3 = past (block z.0) s2 in
        let first = h.lines ss sc in
        let before = h.stay x.1.1.symbol s1 first.1 in
        let second = g.lines s1 before in
        let named_first : InScope x.1.0 y.1.1.symbol s2 = record { names = wider x.1.0 y.0 s1 first.1.names; below = second.1.below } in
        let third = k.lines s2 named_first in
        let whole : InScope y.1.0 z.1.1.symbol s3 = record { names = wider y.1.0 z.0 s2 second.1.names; below = third.1.below } in
        let four = a.rises in
        let five = b.rises in
        let lines_first = (a.bound s3 whole).lines in
        let anew : InScope z.1.0 q.symbol s3 = later_scope z.1.0 z.1.1.symbol q.symbol s3 four third.1 in
        let lines_other = (b.bound s3 anew).lines in
        let stay : InScope m r.symbol s3 = h.stay r.symbol s3 (k.stay r.symbol s3 (later_scope z.1.0 q.symbol r.symbol s3 five anew)) in
        let chosen : BindAll (block (choice i us vs)) s3 = ((lines_first, lines_other), tt) in
        let lines = joined_bind x.0 (y.0 ++ (z.0 ++ choice i us vs)) ss first.0 (joined_bind y.0 (z.0 ++ choice i us vs) s1 second.0 (joined_bind z.0 (choice i us vs) s2 third.0 chosen)) in
        let behind : past (block (x.0 ++ (y.0 ++ (z.0 ++ choice i us vs)))) ss ≡ s3 =
        past_joined x.0 (y.0 ++ (z.0 ++ choice i us vs)) ss ∙ past_joined y.0 (z.0 ++ choice i us vs) s1 ∙ past_joined z.0 (choice i us vs) s2 in
        record { lines = lines; scope = subst (InScope m r.symbol) (sym behind) stay }

-- ---- piece by piece

pub in_scope_each : (inners : List PlacedText) → HoldsOfEach inners (λ f s. Unit {0}) IsNamed (λ o ns. Unit {0}) (λ f. AreInScope)
in_scope_each inners = record {
  none = λ f m p. nothing_more m p p refl;
  both = λ f m p q r xs ys h k. one_more m p q r xs ys h k;
  step = λ f m p q xs s t good e h. by_step m p q xs s t (own_lines t - 1) e h;
  named = λ f m p q ss x ys good e h. behind_lets m p q x ys (by_lets ss good m p x e) h;
  store = λ f m p o ns d n at s owns there renamed e.
      let w = store_is o p.loads d at s e in
      subst (λ (t : Statement). AreInScope m p (t ∷ []) (with_lines 1 p)) (sym w.is) (record { rises = omega arith; bound = λ ss sc. record { lines = (tt, tt); scope = sc } });
  apart = λ f m p q xs h. record { rises = h.rises; bound = λ ss sc. let b = h.bound ss sc in record { lines = b.lines; scope = b.scope } };
  claim = λ f m p o ns d n r owns there e. nothing_more m p _ refl;
  seat = λ f m p n i places at e. record { rises = omega arith; bound = λ ss sc. record { lines = (tt, tt); scope = sc } };
  own = λ f m p q n i b xs at seat h. h tt (λ l e. tt);
  slide = λ f m p q r n j l all new i x y z us vs at later place symbol one two three h g.
      by_choice m p q r i x y z us vs (by_lets (Named l.new Min l.first_new ∷ []) (tt, tt) m p x one) (by_lets (take (let_count all.steps) all.steps) (lets_counted all.steps) m x.1.1 y two)
      (by_lets (take (let_count new.steps) new.steps) (lets_counted new.steps) x.1.0 y.1.1 z three) h g;
  window = λ f m p q n i l at later e. let w = held_is i l m p q e in nothing_more m p q (ap (λ (u : SoFar). u.symbol) w.1);
}
