-- Loops over numbers, each of one coordinate, which is a form over its loops' symbols: taking away a loop of the least factor takes its numbers into its coordinate
-- and leaves the others, where the loops of smaller factors together make up the factor of the next.
use Rattle.std.proofs.Common.{◌≡◌, ℕ, suc, ◌+◌, ◌≤◌, ◌^◌, Bool, true, false, ◌&&◌, ◌||◌, not, List, [], ◌∷◌, ◌++◌, length, map, Option, Some, None}
use Rattle.std.proofs.Common.{refl, sym, ap, ◌∙◌, subst, inl, inr, ◌⊎◌, arith}
use Rattle.std.specs.Prelude.{ℤ, pos, ◌+ℤ◌, ◌-ℤ◌, ◌*ℤ◌, ◌≤ℤ◌, int_le, nat_le, ◌==◌, if◌then◌else◌, filter, flat_map, option_and_then}
use Rattle.std.specs.List.{AllByRecursion, list_any, list_all}
use Rattle.std.specs.Option.{option_map}
use Rattle.std.specs.Ordering.{int_eq}
use Rattle.std.specs.Int.RustNames.{unsigned_abs}
use Rattle.std.proofs.lemmas.Bool.{le-leb}
use Rattle.std.proofs.lemmas.Bool.Decides.{nat_tests}
use Rattle.std.proofs.lemmas.Int.{ints}
use Rattle.lin.specs.Forms.{Form, number, factor_of, is_within_limits, plus_multiple, without, combined, same_terms}
use Rattle.lin.specs.Search.{replaced}
use Rattle.lin.specs.declared.form.Multiple.{Multiple}
use Rattle.lin.specs.declared.span.Span1.{Span1}
use Rattle.lin.proofs.Limits.{combined-made, le_true}
use Rattle.soundness.specs.Claims.{In}
use Rattle.soundness.specs.Obligations.{exactly, form_has, span_has}
use Rattle.soundness.proofs.Refines.{and_parts, eq_refl, eq_true, number_refl, number_true}
use Rattle.tails.specs.Moves.{joined, single, only, naming, not_naming, each_replaced, is_positive, is_gapless, is_block}
use Rattle.tails.specs.Moves.{first_naming, lower_factor, are_blocks, over_turns, over_loop}
use Rattle.tails.specs.Moves.{expanded, span_from}
use Rattle.completeness.proofs.GridScope.{number_limited}
use Rattle.completeness.proofs.PlainTurns.{one_if}
use Rattle.completeness.proofs.LoopMoves.{false_end, true_end, or_none, other_way, Item, item_span, is_lone, is_left, AreApart, One}

-- ---- booleans and numbers

and_end : (b : Bool) → (b && true) ≡ b
and_end true = refl
and_end false = refl

pub is_le : (x y : ℤ) → x ≤ℤ y → int_le x y ≡ true
is_le x y h = grind (arith, nat_tests, ints)

pub le_is : (x y : ℤ) → int_le x y ≡ true → x ≤ℤ y
le_is x y e = grind (arith, nat_tests, ints)

pub not_le : (x y : ℤ) → (y +ℤ pos 1) ≤ℤ x → int_le x y ≡ false
not_le x y h = grind (arith, nat_tests, ints)

pub le_not : (x y : ℤ) → int_le x y ≡ false → (y +ℤ pos 1) ≤ℤ x
le_not x y e = grind (arith, nat_tests, ints)

sum_small : (a b : ℤ) (m n : ℕ) → unsigned_abs a ≤ m → unsigned_abs b ≤ n → unsigned_abs (a +ℤ b) ≤ m + n
sum_small a b m n h k = omega (arith, ints, h, k)

nothing_more : (z : ℤ) → z ≡ pos 0 +ℤ z
nothing_more z = omega (arith, ints)

-- ---- terms

-- what is left out is not what is kept
left_out : (keep : ℕ → Bool) (s i : ℕ) → keep i ≡ true → keep s ≡ false → (s == i) ≡ false
left_out keep s i there gone = of (s == i) refl
  where
    of : (b : Bool) → (s == i) ≡ b → (s == i) ≡ false
    of true k = (let clash : true ≡ false = sym there ∙ ap keep (sym (eq_true s i k)) ∙ gone in absurd (cc clash))
    of false k = k

pub kept_any : (keep : ℕ → Bool) (i : ℕ) → keep i ≡ true → (xs : List Multiple) → list_any (λ t. t.symbol == i) (filter (λ t. keep t.symbol) xs) ≡ list_any (λ t. t.symbol == i) xs
kept_any keep i there [] = refl
kept_any keep i there (t ∷ xs) = of (keep t.symbol) refl (kept_any keep i there xs)
  where
    of : (b : Bool) → keep t.symbol ≡ b → list_any (λ t. t.symbol == i) (filter (λ t. keep t.symbol) xs) ≡ list_any (λ t. t.symbol == i) xs →
        list_any (λ t. t.symbol == i) (if b then t ∷ filter (λ t. keep t.symbol) xs else filter (λ t. keep t.symbol) xs) ≡ ((t.symbol == i) || list_any (λ t. t.symbol == i) xs)
    of true e rest = ap (λ (c : Bool). (t.symbol == i) || c) rest
    of false e rest = rest ∙ sym (ap (λ (c : Bool). c || list_any (λ t. t.symbol == i) xs) (left_out keep t.symbol i there e))

pub kept_factor : (keep : ℕ → Bool) (i : ℕ) → keep i ≡ true → (xs : List Multiple) → factor_of (filter (λ t. keep t.symbol) xs) i ≡ factor_of xs i
kept_factor keep i there [] = refl
kept_factor keep i there (t ∷ xs) = of (keep t.symbol) refl (kept_factor keep i there xs)
  where
    of : (b : Bool) → keep t.symbol ≡ b → factor_of (filter (λ t. keep t.symbol) xs) i ≡ factor_of xs i →
        factor_of (if b then t ∷ filter (λ t. keep t.symbol) xs else filter (λ t. keep t.symbol) xs) i ≡ ((if t.symbol == i then t.factor else pos 0) +ℤ factor_of xs i)
    of true e rest = ap (λ (z : ℤ). (if t.symbol == i then t.factor else pos 0) +ℤ z) rest
    of false e rest =
        rest ∙ nothing_more (factor_of xs i) ∙ sym (ap (λ (c : Bool). (if c then t.factor else pos 0) +ℤ factor_of xs i) (left_out keep t.symbol i there e))

pub kept_twice : (g h : ℕ → Bool) (xs : List Multiple) → filter (λ t. g t.symbol) (filter (λ t. h t.symbol) xs) ≡ filter (λ t. h t.symbol && g t.symbol) xs
kept_twice g h [] = refl
kept_twice g h (t ∷ xs) = of (h t.symbol) (g t.symbol) refl (kept_twice g h xs)
  where
    of : (b c : Bool) → g t.symbol ≡ c → filter (λ t. g t.symbol) (filter (λ t. h t.symbol) xs) ≡ filter (λ t. h t.symbol && g t.symbol) xs →
        filter (λ t. g t.symbol) (if b then t ∷ filter (λ t. h t.symbol) xs else filter (λ t. h t.symbol) xs)
        ≡ (if b && c then t ∷ filter (λ t. h t.symbol && g t.symbol) xs else filter (λ t. h t.symbol && g t.symbol) xs)
    of true true e rest =
        ap (λ (v : Bool). if v then t ∷ filter (λ t. g t.symbol) (filter (λ t. h t.symbol) xs) else filter (λ t. g t.symbol) (filter (λ t. h t.symbol) xs)) e
        ∙ ap (λ (ts : List Multiple). t ∷ ts) rest
    of true false e rest =
        ap (λ (v : Bool). if v then t ∷ filter (λ t. g t.symbol) (filter (λ t. h t.symbol) xs) else filter (λ t. g t.symbol) (filter (λ t. h t.symbol) xs)) e ∙ rest
    of false c e rest = rest

few_kept : (keep : Multiple → Bool) (xs : List Multiple) → length (filter keep xs) ≤ length xs
few_kept keep [] = omega arith
few_kept keep (t ∷ xs) = of (keep t) (few_kept keep xs)
  where
    of : (b : Bool) → length (filter keep xs) ≤ length xs → length (if b then t ∷ filter keep xs else filter keep xs) ≤ suc (length xs)
    of true rest = omega (arith, rest)
    of false rest = omega (arith, rest)

all_kept : (keep small : Multiple → Bool) (xs : List Multiple) → list_all small xs ≡ true → list_all small (filter keep xs) ≡ true
all_kept keep small [] e = refl
all_kept keep small (t ∷ xs) e =
    let parts = and_parts (small t) (list_all small xs) e in
    of (keep t) parts.0 (all_kept keep small xs parts.1)
  where
    of : (b : Bool) → small t ≡ true → list_all small (filter keep xs) ≡ true → list_all small (if b then t ∷ filter keep xs else filter keep xs) ≡ true
    of true here rest = λ j. here j && rest j
    of false here rest = rest

-- some of the terms, with another constant
pub within_kept : (keep : Multiple → Bool) (f : Form) (z : ℤ) → is_within_limits f ≡ true → unsigned_abs z ≤ 2 ^ 40 → is_within_limits (record { constant = z; terms = filter keep f.terms }) ≡ true
within_kept keep f z limited near =
    let small : Multiple → Bool = λ t. nat_le (unsigned_abs t.factor) (2 ^ 20) in
    let outer = and_parts (nat_le (length f.terms) 8 && list_all (λ t. nat_le (unsigned_abs t.factor) (2 ^ 20)) f.terms) (nat_le (unsigned_abs f.constant) (2 ^ 40)) limited in
    let inner = and_parts (nat_le (length f.terms) 8) (list_all (λ t. nat_le (unsigned_abs t.factor) (2 ^ 20)) f.terms) outer.0 in
    let long = le_true (length f.terms) 8 inner.0 in
    let fewer = few_kept keep f.terms in
    let one = le-leb (length (filter keep f.terms)) 8 (omega (arith, long, fewer)) in
    let two = all_kept keep (λ t. nat_le (unsigned_abs t.factor) (2 ^ 20)) f.terms inner.1 in
    let three = le-leb (unsigned_abs z) (2 ^ 40) near in
    λ j. (one j && two j) && three j

pub terms_same : (xs : List Multiple) → same_terms xs xs ≡ true
terms_same [] = refl
terms_same (t ∷ xs) = (let one = eq_refl t.symbol in let two = number_refl t.factor in let rest = terms_same xs in λ j. (one j && two j) && rest j)

-- ---- loops

pub left_in : (i : ℕ) (us : List Item) → is_left i us ≡ true → (u : Item) × In u us × ((u.symbol == i) ≡ true)
left_in i [] e = absurd (cc e)
left_in i (u ∷ us) e = of (u.symbol == i) refl e (λ k. left_in i us k)
  where
    of : (b : Bool) → (u.symbol == i) ≡ b → (b || is_left i us) ≡ true → (is_left i us ≡ true → (v : Item) × In v us × ((v.symbol == i) ≡ true)) →
        (v : Item) × In v (u ∷ us) × ((v.symbol == i) ≡ true)
    of true k e rest = (u, inl refl, k)
    of false k e rest = (let r = rest e in (r.0, inr r.1, r.2))

pub in_left : (u : Item) (us : List Item) → In u us → is_left u.symbol us ≡ true
in_left u [] m = absurd m
in_left u (v ∷ us) (inl e) = ap (λ (b : Bool). b || is_left u.symbol us) (ap (λ (w : Item). v.symbol == w.symbol) e ∙ eq_refl v.symbol)
in_left u (v ∷ us) (inr m) = ap (λ (b : Bool). (v.symbol == u.symbol) || b) (in_left u us m) ∙ true_end (v.symbol == u.symbol)

pub of_all : {A : Type 0} (P : A → Type 0) (xs : List A) (x : A) → AllByRecursion P xs → In x xs → P x
of_all P [] x h m = absurd m
of_all P (y ∷ xs) x h (inl e) = subst P (sym e) h.0
of_all P (y ∷ xs) x h (inr m) = of_all P xs x h.1 m

pub lone_ends : (u : Item) → is_lone u ≡ true → u.low ≡ u.last
lone_ends u e = number_true u.low u.last (and_parts (int_eq u.low u.last) true e).0

-- ---- coordinates

-- a span that no loop changes, or a form over the symbols of these loops, and of what is around them
pub data Target : Type 0 where
  Kept : Span1 → Target
  Sums : Form → List Item → Target

-- one of these, but none of those that are left
abbrev pub is_gone : List Item → List Item → ℕ → Bool
is_gone ts us i = is_left i us && not (is_left i ts)

abbrev pub left_terms : List Item → List Item → List Multiple → List Multiple
left_terms ts us xs = filter (λ t. not (is_gone ts us t.symbol)) xs

abbrev pub is_of : ℕ → Target → Bool
is_of i (Kept y) = false
is_of i (Sums f us) = is_left i us

abbrev pub hits_of : ℕ → List Target → ℕ
hits_of i [] = 0
hits_of i (g ∷ gs) = one_if (is_of i g) + hits_of i gs

-- what is kept has not the loop's symbol; a form has it as one of its own loops, or not at all
abbrev pub FitsTo : Item → Target → Type 0
FitsTo t (Kept y) = span_has t.symbol y ≡ false
FitsTo t (Sums f us) = ((u : Item) → In u us → (u.symbol == t.symbol) ≡ true → u ≡ t) × (is_left t.symbol us ≡ false → form_has t.symbol f ≡ false)

pub record ItemFits (gs : List Target) (t : Item) : Type 0 where
  pub fits : AllByRecursion (FitsTo t) gs
  pub once : hits_of t.symbol gs ≡ 1
  pub near : unsigned_abs t.low ≤ 2 ^ 40
  pub last_near : unsigned_abs t.last ≤ 2 ^ 40

-- what is so of one of these loops and the others
pub record OneFits (gs : List Target) (ts : List Item) (p : One) : Type 0 where
  pub here : ItemFits gs p.one
  pub loose : is_left p.one.symbol p.others ≡ false
  pub apart : AreApart p.others
  pub there : is_left p.one.symbol ts ≡ true
  pub same : (i : ℕ) → (p.one.symbol == i) ≡ false → is_left i p.others ≡ is_left i ts
  pub fewer : suc (length p.others) ≡ length ts

-- ---- what coordinates come to, where the symbols count with these factors

module _ (factor : ℕ → ℤ) where
  -- what loops add that are not left, where each has this number
  abbrev pub added : (Item → ℤ) → List Item → List Item → ℤ
  added e ts [] = pos 0
  added e ts (u ∷ us) = (if is_left u.symbol ts then pos 0 else factor u.symbol *ℤ e u) +ℤ added e ts us

  abbrev pub form_at : (Item → ℤ) → List Item → Form → List Item → Form
  form_at e ts f us = record { constant = f.constant +ℤ added e ts us; terms = left_terms ts us f.terms }

  -- where these loops are left
  abbrev pub now : List Item → Target → Span1
  now ts (Kept y) = y
  now ts (Sums f us) = record { lower = form_at (λ u. u.low) ts f us ∷ []; upper = form_at (λ u. u.last) ts f us ∷ [] }

  abbrev pub weight : List Item → ℕ
  weight [] = 0
  weight (u ∷ us) = (unsigned_abs (factor u.symbol *ℤ u.low) + unsigned_abs (factor u.symbol *ℤ u.last)) + weight us

  -- how far apart the loops of smaller factors bring two numbers
  abbrev pub under : ℤ → List Item → ℤ
  under n [] = pos 0
  under n (u ∷ us) = (if int_le (factor u.symbol +ℤ pos 1) n then factor u.symbol *ℤ u.last -ℤ factor u.symbol *ℤ u.low else pos 0) +ℤ under n us

  -- each loop counts with its factor, the loops of smaller factors make up that, and no other has the same
  pub record SumFits (f : Form) (us : List Item) : Type 0 where
    pub limited : is_within_limits f ≡ true
    pub apart : AreApart us
    pub has : (u : Item) → In u us → (form_has u.symbol f ≡ true) × (factor_of f.terms u.symbol ≡ factor u.symbol) × (pos 1 ≤ℤ factor u.symbol)
    pub small : unsigned_abs f.constant + weight us ≤ 2 ^ 39
    pub radix : (u : Item) → In u us → is_lone u ≡ false → under (factor u.symbol) us ≡ factor u.symbol -ℤ pos 1
    pub single : (u v : Item) → In u us → In v us → is_lone u ≡ false → is_lone v ≡ false → factor u.symbol ≡ factor v.symbol → (u.symbol == v.symbol) ≡ true

  abbrev pub TargetFits : Target → Type 0
  TargetFits (Kept y) = Unit {0}
  TargetFits (Sums f us) = SumFits f us

  -- the loops of smaller factors are taken away first
  abbrev pub InOrder : List Item → Target → Type 0
  InOrder ts (Kept y) = Unit {0}
  InOrder ts (Sums f us) = (u v : Item) → In u us → In v us → is_lone u ≡ false → is_lone v ≡ false → is_left u.symbol ts ≡ false → is_left v.symbol ts ≡ true →
      (factor u.symbol +ℤ pos 1) ≤ℤ factor v.symbol

  added_small : (e : Item → ℤ) → ((u : Item) → unsigned_abs (factor u.symbol *ℤ e u) ≤ unsigned_abs (factor u.symbol *ℤ u.low) + unsigned_abs (factor u.symbol *ℤ u.last)) →
      (ts us : List Item) → unsigned_abs (added e ts us) ≤ weight us
  added_small e each ts [] = omega arith
  added_small e each ts (u ∷ us) =
      of (is_left u.symbol ts) (factor u.symbol *ℤ e u) (unsigned_abs (factor u.symbol *ℤ u.low) + unsigned_abs (factor u.symbol *ℤ u.last)) (each u) (added_small e each ts us)
    where
      of : (b : Bool) (z : ℤ) (m : ℕ) → unsigned_abs z ≤ m → unsigned_abs (added e ts us) ≤ weight us → unsigned_abs ((if b then pos 0 else z) +ℤ added e ts us) ≤ m + weight us
      of true z m here rest = sum_small (pos 0) (added e ts us) m (weight us) (omega arith) rest
      of false z m here rest = sum_small z (added e ts us) m (weight us) here rest

  -- an end of a loop
  abbrev IsEnd : (Item → ℤ) → Type 0
  IsEnd e = (u : Item) → unsigned_abs (factor u.symbol *ℤ e u) ≤ unsigned_abs (factor u.symbol *ℤ u.low) + unsigned_abs (factor u.symbol *ℤ u.last)

  first_part : (m n : ℕ) → m ≤ m + n
  first_part m n = omega arith

  second_part : (m n : ℕ) → n ≤ m + n
  second_part m n = omega arith

  low_end : IsEnd (λ u. u.low)
  low_end u = first_part (unsigned_abs (factor u.symbol *ℤ u.low)) (unsigned_abs (factor u.symbol *ℤ u.last))

  last_end : IsEnd (λ u. u.last)
  last_end u = second_part (unsigned_abs (factor u.symbol *ℤ u.low)) (unsigned_abs (factor u.symbol *ℤ u.last))

  -- ---- one coordinate of which the loop is none

  module _ (p : One) (ts : List Item) (same : (i : ℕ) → (p.one.symbol == i) ≡ false → is_left i p.others ≡ is_left i ts) where
    same_added : (e : Item → ℤ) (us : List Item) → is_left p.one.symbol us ≡ false → added e p.others us ≡ added e ts us
    same_added e [] none = refl
    same_added e (u ∷ us) none =
        let parts = or_none (u.symbol == p.one.symbol) (is_left p.one.symbol us) none in
        let here = same u.symbol (other_way u.symbol p.one.symbol parts.0) in
        let rest = same_added e us parts.1 in
        λ j. (if here j then pos 0 else factor u.symbol *ℤ e u) +ℤ rest j

    same_gone : (us : List Item) → is_left p.one.symbol us ≡ false → (s : ℕ) → is_gone p.others us s ≡ is_gone ts us s
    same_gone us none s = of (p.one.symbol == s) refl
      where
        of : (b : Bool) → (p.one.symbol == s) ≡ b → is_gone p.others us s ≡ is_gone ts us s
        of true e =
            let out : is_left s us ≡ false = ap (λ (i : ℕ). is_left i us) (sym (eq_true p.one.symbol s e)) ∙ none in
            (λ j. out j && not (is_left s p.others)) ∙ sym (λ j. out j && not (is_left s ts))
        of false e = ap (λ (b : Bool). is_left s us && not b) (same s e)

    same_form_at : (e : Item → ℤ) (f : Form) (us : List Item) → is_left p.one.symbol us ≡ false → form_at e p.others f us ≡ form_at e ts f us
    same_form_at e f us none =
        let one = same_added e us none in
        let two = same_gone us none in
        λ j. record { constant = f.constant +ℤ one j; terms = filter (λ t. not (two t.symbol j)) f.terms }

    pub same_now : (g : Target) → is_of p.one.symbol g ≡ false → now ts g ≡ now p.others g
    same_now (Kept y) none = refl
    same_now (Sums f us) none =
        let lows = same_form_at (λ u. u.low) f us none in
        let lasts = same_form_at (λ u. u.last) f us none in
        sym (λ j. record { lower = lows j ∷ []; upper = lasts j ∷ [] })

  -- ---- what the spans name

  module _ (ts : List Item) (t : Item) (there : is_left t.symbol ts ≡ true) where
    kept_here : (us : List Item) → not (is_gone ts us t.symbol) ≡ true
    kept_here us = ap (λ (b : Bool). not (is_left t.symbol us && not b)) there ∙ ap not (false_end (is_left t.symbol us))

    has_form : (f : Form) (us : List Item) → FitsTo t (Sums f us) → SumFits f us → form_has t.symbol f ≡ is_left t.symbol us
    has_form f us h k = of (is_left t.symbol us) refl
      where
        of : (b : Bool) → is_left t.symbol us ≡ b → form_has t.symbol f ≡ is_left t.symbol us
        of true e =
            let u = left_in t.symbol us e in
            ap (λ (i : ℕ). form_has i f) (sym (eq_true u.0.symbol t.symbol u.2)) ∙ (k.has u.0 u.1).0 ∙ sym e
        of false e = h.1 e ∙ sym e

    form_names : (e : Item → ℤ) (f : Form) (us : List Item) → FitsTo t (Sums f us) → SumFits f us → form_has t.symbol (form_at e ts f us) ≡ is_left t.symbol us
    form_names e f us h k = kept_any (λ s. not (is_gone ts us s)) t.symbol (kept_here us) f.terms ∙ has_form f us h k

    pub names_it : (g : Target) → FitsTo t g → TargetFits g → span_has t.symbol (now ts g) ≡ is_of t.symbol g
    names_it (Kept y) h k = h
    names_it (Sums f us) h k =
        let one = form_names (λ u. u.low) f us h k in
        let two = form_names (λ u. u.last) f us h k in
        (λ j. (one j || false) || (two j || false)) ∙ both (is_left t.symbol us)
      where
        both : (b : Bool) → ((b || false) || (b || false)) ≡ b
        both true = refl
        both false = refl

    -- the factor of the loop's symbol in the first of the lower forms that names it
    abbrev first_of : List Form → Option ℤ
    first_of fs = option_map (λ f. factor_of f.terms t.symbol) (first_naming t.symbol fs)

    skipped : (fs more : List Form) → list_any (form_has t.symbol) fs ≡ false → first_of (fs ++ more) ≡ first_of more
    skipped [] more e = refl
    skipped (f ∷ fs) more e =
        let parts = or_none (form_has t.symbol f) (list_any (form_has t.symbol) fs) e in
        ap (λ (b : Bool). option_map (λ f. factor_of f.terms t.symbol) (if b then Some f else first_naming t.symbol (fs ++ more))) parts.0 ∙ skipped fs more parts.1

    pub found_factor : (gs : List Target) → AllByRecursion (FitsTo t) gs → AllByRecursion TargetFits gs → 1 ≤ hits_of t.symbol gs → lower_factor t.symbol (map (now ts) gs) ≡ Some (factor t.symbol)
    found_factor [] h k some = absurd (omega (arith, some))
    found_factor (Kept y ∷ gs) h k some =
        let parts = or_none (list_any (form_has t.symbol) y.lower) (list_any (form_has t.symbol) y.upper) h.0 in
        skipped y.lower (flat_map (λ (y : Span1). y.lower) (map (now ts) gs)) parts.0 ∙ found_factor gs h.1 k.1 (omega (arith, some))
    found_factor (Sums f us ∷ gs) h k some = of (is_left t.symbol us) refl some (λ q. found_factor gs h.1 k.1 q)
      where
        more : List Form
        more = flat_map (λ (y : Span1). y.lower) (map (now ts) gs)

        of : (b : Bool) → is_left t.symbol us ≡ b → 1 ≤ one_if b + hits_of t.symbol gs → (1 ≤ hits_of t.symbol gs → first_of more ≡ Some (factor t.symbol)) →
            first_of (form_at (λ u. u.low) ts f us ∷ more) ≡ Some (factor t.symbol)
        of true e q rest =
            let named = form_names (λ u. u.low) f us h.0 k.0 ∙ e in
            let u = left_in t.symbol us e in
            let same : u.0.symbol ≡ t.symbol = eq_true u.0.symbol t.symbol u.2 in
            let counts = kept_factor (λ s. not (is_gone ts us s)) t.symbol (kept_here us) f.terms ∙ ap (factor_of f.terms) (sym same) ∙ (k.0.has u.0 u.1).1 ∙ ap factor same in
            ap (λ (b : Bool). option_map (λ f. factor_of f.terms t.symbol) (if b then Some (form_at (λ u. u.low) ts f us) else first_naming t.symbol more)) named
            ∙ ap (λ (z : ℤ). Some z) counts
        of false e q rest =
            let named = form_names (λ u. u.low) f us h.0 k.0 ∙ e in
            ap (λ (b : Bool). option_map (λ f. factor_of f.terms t.symbol) (if b then Some (form_at (λ u. u.low) ts f us) else first_naming t.symbol more)) named
            ∙ rest (omega (arith, q))

  -- ---- one coordinate of which it is one

  module _ (p : One) (ts : List Item) (same : (i : ℕ) → (p.one.symbol == i) ≡ false → is_left i p.others ≡ is_left i ts) (loose : is_left p.one.symbol p.others ≡ false)
      (there : is_left p.one.symbol ts ≡ true) (near : unsigned_abs p.one.low ≤ 2 ^ 40) (last_near : unsigned_abs p.one.last ≤ 2 ^ 40) (f : Form) (us : List Item)
      (fit : FitsTo p.one (Sums f us)) (sum : SumFits f us) (mine : is_left p.one.symbol us ≡ true) where
    abbrev i : ℕ
    i = p.one.symbol

    abbrev n : ℤ
    n = factor p.one.symbol

    abbrev at : (Item → ℤ) → Form
    at e = form_at e ts f us

    abbrev after : (Item → ℤ) → Form
    after e = form_at e p.others f us

    gone_more : (s : ℕ) → (not (is_gone ts us s) && not (s == i)) ≡ not (is_gone p.others us s)
    gone_more s = of (s == i) refl
      where
        of : (b : Bool) → (s == i) ≡ b → (not (is_gone ts us s) && not (s == i)) ≡ not (is_gone p.others us s)
        of true e =
            let is : s ≡ i = eq_true s i e in
            let one : is_left s us ≡ true = ap (λ (m : ℕ). is_left m us) is ∙ mine in
            let two : is_left s p.others ≡ false = ap (λ (m : ℕ). is_left m p.others) is ∙ loose in
            ap (λ (b : Bool). not (is_gone ts us s) && not b) e ∙ false_end (not (is_gone ts us s)) ∙ sym (λ j. not (one j && not (two j)))
        of false e =
            let one = same s (other_way s i e) in
            ap (λ (b : Bool). not (is_gone ts us s) && not b) e ∙ and_end (not (is_gone ts us s)) ∙ sym (ap (λ (b : Bool). not (is_left s us && not b)) one)

    added_more : (e : Item → ℤ) (vs : List Item) → AreApart vs → ((u : Item) → In u vs → In u us) → is_left i vs ≡ true → added e p.others vs ≡ added e ts vs +ℤ n *ℤ e p.one
    added_more e [] apart sub some = absurd (cc some)
    added_more e (u ∷ vs) apart sub some = of (u.symbol == i) refl some (λ k. added_more e vs apart.1 (λ v m. sub v (inr m)) k)
      where
        first : (a b : ℤ) → (a +ℤ b) ≡ (pos 0 +ℤ b) +ℤ a
        first a b = omega (arith, ints)

        later : (h a b : ℤ) → (h +ℤ (a +ℤ b)) ≡ (h +ℤ a) +ℤ b
        later h a b = omega (arith, ints)

        of : (b : Bool) → (u.symbol == i) ≡ b → (b || is_left i vs) ≡ true → (is_left i vs ≡ true → added e p.others vs ≡ added e ts vs +ℤ n *ℤ e p.one) →
            added e p.others (u ∷ vs) ≡ added e ts (u ∷ vs) +ℤ n *ℤ e p.one
        of true k s rest =
            let is : u ≡ p.one = fit.0 u (sub u (inl refl)) k in
            let here : is_left u.symbol p.others ≡ false = ap (λ (v : Item). is_left v.symbol p.others) is ∙ loose in
            let before : is_left u.symbol ts ≡ true = ap (λ (v : Item). is_left v.symbol ts) is ∙ there in
            let none : is_left i vs ≡ false = ap (λ (v : Item). is_left v.symbol vs) (sym is) ∙ apart.0 in
            let rests = same_added p ts same e vs none in
            (λ j. (if here j then pos 0 else factor u.symbol *ℤ e u) +ℤ rests j) ∙ ap (λ (v : Item). factor v.symbol *ℤ e v +ℤ added e ts vs) is ∙ first (n *ℤ e p.one) (added e ts vs)
            ∙ sym (ap (λ (b : Bool). ((if b then pos 0 else factor u.symbol *ℤ e u) +ℤ added e ts vs) +ℤ n *ℤ e p.one) before)
        of false k s rest =
            let here = same u.symbol (other_way u.symbol i k) in
            let more = rest s in
            (λ j. (if here j then pos 0 else factor u.symbol *ℤ e u) +ℤ more j) ∙ later (if is_left u.symbol ts then pos 0 else factor u.symbol *ℤ e u) (added e ts vs) (n *ℤ e p.one)

    after_within : (e : Item → ℤ) → IsEnd e → (vs : List Item) → is_within_limits (record { constant = f.constant +ℤ added e vs us; terms = left_terms p.others us f.terms }) ≡ true
    after_within e end vs =
        let few = sum.small in
        let sums = added_small e end vs us in
        let both = sum_small f.constant (added e vs us) (unsigned_abs f.constant) (weight us) (same_number (unsigned_abs f.constant)) sums in
        within_kept (λ t. not (is_gone p.others us t.symbol)) f (f.constant +ℤ added e vs us) sum.limited (omega (arith, few, both))
      where
        same_number : (m : ℕ) → m ≤ m
        same_number m = omega arith

    -- with a number of the loop in the symbol's place
    replaced_is : (e : Item → ℤ) → IsEnd e → (z : ℤ) → z ≡ e p.one → unsigned_abs z ≤ 2 ^ 40 → replaced (at e) i n (number z) ≡ Some (after e)
    replaced_is e end z is small =
        let more = gone_more in
        let bare : Form = record { constant = f.constant +ℤ added e ts us; terms = left_terms p.others us f.terms } in
        let left : without (at e) i ≡ bare =
        ap (λ (xs : List Multiple). record { constant = f.constant +ℤ added e ts us; terms = xs })
        (kept_twice (λ s. not (s == i)) (λ s. not (is_gone ts us s)) f.terms ∙ (λ j. filter (λ t. more t.symbol j) f.terms)) in
        let grown = added_more e us sum.apart (λ u m. m) mine in
        let total : (f.constant +ℤ added e ts us) +ℤ n *ℤ z ≡ f.constant +ℤ added e p.others us =
        ap (λ (y : ℤ). (f.constant +ℤ added e ts us) +ℤ n *ℤ y) is ∙ regrouped f.constant (added e ts us) (n *ℤ e p.one) ∙ ap (λ (y : ℤ). f.constant +ℤ y) (sym grown) in
        let made : plus_multiple bare n (number z) ≡ after e = (λ j. record { constant = total j; terms = left_terms p.others us f.terms }) in
        ap (λ (g : Form). combined g n (number z)) left
        ∙ combined-made bare (number z) n (after_within e end ts) (number_limited z small) (ap is_within_limits made ∙ after_within e end p.others) ∙ ap (λ (g : Form). Some g) made
      where
        regrouped : (a b d : ℤ) → ((a +ℤ b) +ℤ d) ≡ a +ℤ (b +ℤ d)
        regrouped a b d = omega (arith, ints)

    one_replaced : (e : Item → ℤ) → IsEnd e → (z : ℤ) → z ≡ e p.one → unsigned_abs z ≤ 2 ^ 40 → each_replaced (at e) i n (number z ∷ []) ≡ Some (after e ∷ [])
    one_replaced e end z is small = ap (λ (o : Option Form). joined (single o) (Some [])) (replaced_is e end z is small)

    at_within : (e : Item → ℤ) → IsEnd e → is_within_limits (at e) ≡ true
    at_within e end =
        let few = sum.small in
        let sums = added_small e end ts us in
        let both = sum_small f.constant (added e ts us) (unsigned_abs f.constant) (weight us) (same_number (unsigned_abs f.constant)) sums in
        within_kept (λ t. not (is_gone ts us t.symbol)) f (f.constant +ℤ added e ts us) sum.limited (omega (arith, few, both))
      where
        same_number : (m : ℕ) → m ≤ m
        same_number m = omega arith

    named : (e : Item → ℤ) → form_has i (at e) ≡ true
    named e = form_names ts p.one there e f us fit sum ∙ mine

    naming_self : (e : Item → ℤ) → naming i (at e ∷ []) ≡ at e ∷ []
    naming_self e = ap (λ (b : Bool). if b then at e ∷ [] else []) (named e)

    naming_none : (e : Item → ℤ) → not_naming i (at e ∷ []) ≡ []
    naming_none e = ap (λ (b : Bool). if not b then at e ∷ [] else []) (named e)

    factor_self : factor_of (at (λ u. u.low)).terms i ≡ n
    factor_self =
        let u = left_in i us mine in
        let is : u.0.symbol ≡ i = eq_true u.0.symbol i u.2 in
        kept_factor (λ s. not (is_gone ts us s)) i (kept_here ts p.one there us) f.terms ∙ ap (factor_of f.terms) (sym is) ∙ (sum.has u.0 u.1).1 ∙ ap factor is

    at_least_one : pos 1 ≤ℤ n
    at_least_one = (let u = left_in i us mine in subst (λ (v : Item). pos 1 ≤ℤ factor v.symbol) (fit.0 u.0 u.1 u.2) (sum.has u.0 u.1).2)

    module _ (exact : Bool) (shows : Form → Form → Bool) where
      -- over all turns of the loop, where those of smaller factors are taken away and no others
      over_is : added (λ u. u.last) ts us ≡ added (λ u. u.low) ts us +ℤ (n -ℤ pos 1) →
          over_loop exact shows i (item_span p.one) (now ts (Sums f us)) ≡ Some (now p.others (Sums f us))
      over_is wide =
          let y : Span1 = now ts (Sums f us) in
          let low : Form = at (λ u. u.low) in
          let high : Form = at (λ u. u.last) in
          let top : low.constant +ℤ (n -ℤ pos 1) ≡ high.constant = regrouped f.constant (added (λ u. u.low) ts us) (n -ℤ pos 1) ∙ ap (λ (z : ℤ). f.constant +ℤ z) (sym wide) in
          let terms = terms_same high.terms in
          let gapless : is_gapless low n high ≡ true = (let le = ap (λ (z : ℤ). int_le z high.constant) top ∙ is_le high.constant high.constant (itself high.constant) in λ j. terms j && le j) in
          let block : is_block low n high ≡ true = (let eq = ap (λ (z : ℤ). int_eq z high.constant) top ∙ number_refl high.constant in λ j. terms j && eq j) in
          let positive : is_positive n ≡ true = is_le (pos 1) n at_least_one in
          let last_part : (if exact then list_any (is_block low n) (high ∷ []) else true) ≡ true = ap (λ (b : Bool). if exact then b || false else true) block ∙ both exact in
          let blocks : are_blocks exact shows low n (naming i y.upper) ≡ true =
          ap (are_blocks exact shows low n) (naming_self (λ u. u.last)) ∙ (λ j. positive j && ((gapless j && true) && last_part j)) in
          let once : low.constant +ℤ pos 1 *ℤ (n -ℤ pos 1) ≡ high.constant = ap (λ (z : ℤ). low.constant +ℤ z) (one_time (n -ℤ pos 1)) ∙ top in
          let is : plus_multiple low (pos 1) (number (n -ℤ pos 1)) ≡ high = (λ j. record { constant = once j; terms = low.terms }) in
          let made : combined low (pos 1) (number (n -ℤ pos 1)) ≡ Some high =
          combined-made low (number (n -ℤ pos 1)) (pos 1) (at_within (λ u. u.low) low_end) (number_limited (n -ℤ pos 1) width_near) (ap is_within_limits is ∙ at_within (λ u. u.last) last_end)
          ∙ ap (λ (g : Form). Some g) is in
          let lows = one_replaced (λ u. u.low) low_end p.one.low refl near in
          let lasts = one_replaced (λ u. u.last) last_end p.one.last refl last_near in
          let no_low = naming_none (λ u. u.low) in
          let no_last = naming_none (λ u. u.last) in
          ap (λ (fs : List Form). option_and_then (λ f. over_turns exact shows i (item_span p.one) y f (factor_of f.terms i)) (only fs)) (naming_self (λ u. u.low))
          ∙ ap (over_turns exact shows i (item_span p.one) y low) factor_self
          ∙ (λ j. if blocks j then option_and_then (λ last.
          span_from (joined (each_replaced low i n (number p.one.low ∷ [])) (Some (no_low j))) (joined (each_replaced last i n (number p.one.last ∷ [])) (Some (no_last j)))) (made j) else None)
          ∙ (λ j. span_from (joined (lows j) (Some [])) (joined (lasts j) (Some [])))
        where
          regrouped : (a b d : ℤ) → ((a +ℤ b) +ℤ d) ≡ a +ℤ (b +ℤ d)
          regrouped a b d = omega (arith, ints)

          itself : (z : ℤ) → z ≤ℤ z
          itself z = omega (arith, ints)

          one_time : (z : ℤ) → pos 1 *ℤ z ≡ z
          one_time z = omega (arith, ints)

          both : (b : Bool) → (if b then true else true) ≡ true
          both true = refl
          both false = refl

          width_near : unsigned_abs (n -ℤ pos 1) ≤ 2 ^ 40
          width_near =
              let few = sum.small in
              let one = added_small (λ u. u.low) low_end ts us in
              let two = added_small (λ u. u.last) last_end ts us in
              between (n -ℤ pos 1) (added (λ u. u.low) ts us) (added (λ u. u.last) ts us) wide few one two
            where
              between : (w a b : ℤ) → b ≡ a +ℤ w → unsigned_abs f.constant + weight us ≤ 2 ^ 39 → unsigned_abs a ≤ weight us → unsigned_abs b ≤ weight us → unsigned_abs w ≤ 2 ^ 40
              between w a b e few one two = omega (arith, ints, e, few, one, two)

      -- a let of one form
      pub opened_is : is_lone p.one ≡ true →
          span_from (expanded exact shows i (number p.one.low ∷ []) (now ts (Sums f us)).lower) (expanded exact shows i (number p.one.low ∷ []) (now ts (Sums f us)).upper)
          ≡ Some (now p.others (Sums f us))
      opened_is lone =
          let ends = lone_ends p.one lone in
          let positive : is_positive n ≡ true = is_le (pos 1) n at_least_one in
          let one = expanded_is (λ u. u.low) (one_replaced (λ u. u.low) low_end p.one.low refl near) positive in
          let two = expanded_is (λ u. u.last) (one_replaced (λ u. u.last) last_end p.one.low ends near) positive in
          (λ j. span_from (one j) (two j))
        where
          counts : (e : Item → ℤ) → factor_of (at e).terms i ≡ n
          counts e = factor_self

          expanded_is : (e : Item → ℤ) → each_replaced (at e) i n (number p.one.low ∷ []) ≡ Some (after e ∷ []) → is_positive n ≡ true →
              expanded exact shows i (number p.one.low ∷ []) (at e ∷ []) ≡ Some (after e ∷ [])
          expanded_is e comes positive =
              let has = named e in
              let times = counts e in
              (λ j. if has j then (if is_positive (times j) then joined (each_replaced (at e) i (times j) (number p.one.low ∷ [])) (Some []) else None) else joined (Some (at e ∷ [])) (Some []))
              ∙ (λ j. if positive j then joined (comes j) (Some []) else None)

  -- ---- which loop is taken first

  pub before_le : (a b : ℤ) (s t : Bool) → (int_le (b +ℤ pos 1) a || (int_eq b a && (s && not t))) ≡ true → b ≤ℤ a
  before_le a b s t e = of (int_le (b +ℤ pos 1) a) refl e
    where
      of : (c : Bool) → int_le (b +ℤ pos 1) a ≡ c → (c || (int_eq b a && (s && not t))) ≡ true → b ≤ℤ a
      of true k q = (let le = le_is (b +ℤ pos 1) a k in omega (arith, ints, le))
      of false k q = (let is = number_true b a (and_parts (int_eq b a) (s && not t) q).0 in omega (arith, ints, is))

  pub not_before : (a b : ℤ) (s t : Bool) → (int_le (b +ℤ pos 1) a || (int_eq b a && (s && not t))) ≡ false → a ≤ℤ b
  not_before a b s t e =
      let parts = or_none (int_le (b +ℤ pos 1) a) (int_eq b a && (s && not t)) e in
      let le = le_not (b +ℤ pos 1) a parts.0 in
      omega (arith, ints, le)

  module _ (gs : List Target) (targets : AllByRecursion TargetFits gs) where
    -- so of the loops that are left of the coordinates
    abbrev pub Lowest : One → List Item → Type 0
    Lowest p ts = (f : Form) (us : List Item) → In (Sums f us) gs → (u : Item) → In u us → is_left u.symbol ts ≡ true → is_lone u ≡ false → factor p.one.symbol ≤ℤ factor u.symbol

    -- the numbers so far are as many as the factor says
    module _ (ts : List Item) (p : One) (h : OneFits gs ts p) (turns : is_lone p.one ≡ false) (least : Lowest p ts) (f : Form) (us : List Item)
        (m : In (Sums f us) gs) (order : InOrder ts (Sums f us)) (mine : is_left p.one.symbol us ≡ true) where
      own : FitsTo p.one (Sums f us)
      own = of_all (FitsTo p.one) gs (Sums f us) h.here.fits m

      there : In p.one us
      there = (let u = left_in p.one.symbol us mine in subst (λ (v : Item). In v us) (own.0 u.0 u.1 u.2) u.1)

      grouped : (a b d x y z : ℤ) → a ≡ b +ℤ d → x ≡ y +ℤ z → (a +ℤ x) ≡ (b +ℤ y) +ℤ (d +ℤ z)
      grouped a b d x y z e k = omega (arith, ints, e, k)

      head_lone : (l t : Bool) (x y : ℤ) → x ≡ y → (if l then pos 0 else x) ≡ (if l then pos 0 else y) +ℤ (if t then x -ℤ y else pos 0)
      head_lone true true x y e = omega (arith, ints, e)
      head_lone true false x y e = omega (arith, ints, e)
      head_lone false true x y e = omega (arith, ints, e)
      head_lone false false x y e = omega (arith, ints, e)

      head_left : (l t : Bool) (x y : ℤ) → l ≡ true → t ≡ false → (if l then pos 0 else x) ≡ (if l then pos 0 else y) +ℤ (if t then x -ℤ y else pos 0)
      head_left true false x y e k = refl
      head_left true true x y e k = absurd (cc k)
      head_left false t x y e k = absurd (cc e)

      head_gone : (l t : Bool) (x y : ℤ) → l ≡ false → t ≡ true → (if l then pos 0 else x) ≡ (if l then pos 0 else y) +ℤ (if t then x -ℤ y else pos 0)
      head_gone false true x y e k = omega (arith, ints)
      head_gone false false x y e k = absurd (cc k)
      head_gone true t x y e k = absurd (cc e)

      above_one : (a b : ℤ) → a ≤ℤ b → (a +ℤ pos 1) ≤ℤ (b +ℤ pos 1)
      above_one a b e = omega (arith, ints, e)

      abbrev size : ℤ
      size = factor p.one.symbol

      head : (u : Item) → In u us → (if is_left u.symbol ts then pos 0 else factor u.symbol *ℤ u.last)
          ≡ (if is_left u.symbol ts then pos 0 else factor u.symbol *ℤ u.low)
          +ℤ (if int_le (factor u.symbol +ℤ pos 1) size then factor u.symbol *ℤ u.last -ℤ factor u.symbol *ℤ u.low else pos 0)
      head u mu = of (is_lone u) refl (is_left u.symbol ts) refl
        where
          x : ℤ
          x = factor u.symbol *ℤ u.last

          y : ℤ
          y = factor u.symbol *ℤ u.low

          of : (a : Bool) → is_lone u ≡ a → (b : Bool) → is_left u.symbol ts ≡ b →
              (if is_left u.symbol ts then pos 0 else x) ≡ (if is_left u.symbol ts then pos 0 else y) +ℤ (if int_le (factor u.symbol +ℤ pos 1) size then x -ℤ y else pos 0)
          of true e b k = head_lone (is_left u.symbol ts) (int_le (factor u.symbol +ℤ pos 1) size) x y (ap (λ (z : ℤ). factor u.symbol *ℤ z) (sym (lone_ends u e)))
          of false e true k =
              let le = least f us m u mu k e in
              head_left (is_left u.symbol ts) (int_le (factor u.symbol +ℤ pos 1) size) x y k (not_le (factor u.symbol +ℤ pos 1) size (above_one size (factor u.symbol) le))
          of false e false k =
              let le = order u p.one mu there e turns k h.there in
              head_gone (is_left u.symbol ts) (int_le (factor u.symbol +ℤ pos 1) size) x y k (is_le (factor u.symbol +ℤ pos 1) size le)

      widths : (vs : List Item) → ((u : Item) → In u vs → In u us) → added (λ u. u.last) ts vs ≡ added (λ u. u.low) ts vs +ℤ under size vs
      widths [] sub = refl
      widths (u ∷ vs) sub =
          grouped (if is_left u.symbol ts then pos 0 else factor u.symbol *ℤ u.last) (if is_left u.symbol ts then pos 0 else factor u.symbol *ℤ u.low)
          (if int_le (factor u.symbol +ℤ pos 1) size then factor u.symbol *ℤ u.last -ℤ factor u.symbol *ℤ u.low else pos 0)
          (added (λ u. u.last) ts vs) (added (λ u. u.low) ts vs) (under size vs) (head u (sub u (inl refl))) (widths vs (λ v k. sub v (inr k)))

      wide_is : added (λ u. u.last) ts us ≡ added (λ u. u.low) ts us +ℤ (size -ℤ pos 1)
      wide_is = widths us (λ u k. k) ∙ ap (λ (z : ℤ). added (λ u. u.low) ts us +ℤ z) ((of_all TargetFits gs (Sums f us) targets m).radix p.one there turns)

    -- the order stays
    module _ (ts : List Item) (p : One) (h : OneFits gs ts p) (first : (is_lone p.one ≡ true) ⊎ Lowest p ts) where
      keeps_sums : (f : Form) (us : List Item) → In (Sums f us) gs → InOrder ts (Sums f us) → InOrder p.others (Sums f us)
      keeps_sums f us m order u v mu mv one two gone left = by (u.symbol == p.one.symbol) refl
        where
          own : FitsTo p.one (Sums f us)
          own = of_all (FitsTo p.one) gs (Sums f us) h.here.fits m

          differs : (p.one.symbol == v.symbol) ≡ false
          differs = of (p.one.symbol == v.symbol) refl
            where
              of : (b : Bool) → (p.one.symbol == v.symbol) ≡ b → (p.one.symbol == v.symbol) ≡ false
              of true e =
                  let clash : true ≡ false = sym left ∙ ap (λ (i : ℕ). is_left i p.others) (sym (eq_true p.one.symbol v.symbol e)) ∙ h.loose in
                  absurd (cc clash)
              of false e = e

          still : is_left v.symbol ts ≡ true
          still = sym (h.same v.symbol differs) ∙ left

          later : u ≡ p.one → (b : Bool) → int_le (factor u.symbol +ℤ pos 1) (factor v.symbol) ≡ b → (is_lone p.one ≡ true) ⊎ Lowest p ts → (factor u.symbol +ℤ pos 1) ≤ℤ factor v.symbol
          later is b e (inl lone) = (let clash : true ≡ false = sym lone ∙ ap is_lone (sym is) ∙ one in absurd (cc clash))
          later is true e (inr least) = le_is (factor u.symbol +ℤ pos 1) (factor v.symbol) e
          later is false e (inr least) =
              let le = least f us m v mv still two in
              let same : factor u.symbol ≡ factor p.one.symbol = ap (λ (w : Item). factor w.symbol) is in
              let under_it = le_not (factor u.symbol +ℤ pos 1) (factor v.symbol) e in
              let equal : factor u.symbol ≡ factor v.symbol = omega (arith, ints, le, same, under_it) in
              let sums = of_all TargetFits gs (Sums f us) targets m in
              let clash : true ≡ false = sym (sums.single u v mu mv one two equal) ∙ ap (λ (w : Item). w.symbol == v.symbol) is ∙ differs in
              absurd (cc clash)

          by : (b : Bool) → (u.symbol == p.one.symbol) ≡ b → (factor u.symbol +ℤ pos 1) ≤ℤ factor v.symbol
          by true e = later (own.0 u mu e) (int_le (factor u.symbol +ℤ pos 1) (factor v.symbol)) refl first
          by false e = order u v mu mv one two (sym (h.same u.symbol (other_way u.symbol p.one.symbol e)) ∙ gone) still

      pub keeps : (hs : List Target) → ((g : Target) → In g hs → In g gs) → AllByRecursion (InOrder ts) hs → AllByRecursion (InOrder p.others) hs
      keeps [] sub k = tt
      keeps (Kept y ∷ hs) sub k = (tt, keeps hs (λ g m. sub g (inr m)) k.1)
      keeps (Sums f us ∷ hs) sub k = (keeps_sums f us (sub (Sums f us) (inl refl)) k.0, keeps hs (λ g m. sub g (inr m)) k.1)

    -- ---- the moves

    module _ (exact : Bool) (shows : Form → Form → Bool) where
      module _ (ts : List Item) (p : One) (h : OneFits gs ts p) where
        -- the one coordinate comes to its numbers
        pub taken_one : is_lone p.one ≡ false → Lowest p ts → (g : Target) → In g gs → InOrder ts g → is_of p.one.symbol g ≡ true →
            over_loop exact shows p.one.symbol (item_span p.one) (now ts g) ≡ Some (now p.others g)
        taken_one turns least (Kept y) m order e = absurd (cc e)
        taken_one turns least (Sums f us) m order e =
            over_is p ts h.same h.loose h.there h.here.near h.here.last_near f us (of_all (FitsTo p.one) gs (Sums f us) h.here.fits m) (of_all TargetFits gs (Sums f us) targets m) e exact shows
            (wide_is ts p h turns least f us m order e)
        -- ---- lets alone

  -- nothing is added where all are left
  pub none_added : (e : Item → ℤ) (ts us : List Item) → AllByRecursion (λ u. is_left u.symbol ts ≡ true) us → added e ts us ≡ pos 0
  none_added e ts [] h = refl
  none_added e ts (u ∷ us) h = (let here = h.0 in let rest = none_added e ts us h.1 in λ j. (if here j then pos 0 else factor u.symbol *ℤ e u) +ℤ rest j)

  none_gone : (ts us : List Item) → AllByRecursion (λ u. is_left u.symbol ts ≡ true) us → (s : ℕ) → is_gone ts us s ≡ false
  none_gone ts us h s = of (is_left s us) refl
    where
      of : (b : Bool) → is_left s us ≡ b → is_gone ts us s ≡ false
      of false e = λ j. e j && not (is_left s ts)
      of true e =
          let u = left_in s us e in
          let there : is_left s ts ≡ true = ap (λ (i : ℕ). is_left i ts) (sym (eq_true u.0.symbol s u.2)) ∙ of_all (λ u. is_left u.symbol ts ≡ true) us u.0 h u.1 in
          ap (λ (b : Bool). is_left s us && not b) there ∙ false_end (is_left s us)

  all_there : (keep : Multiple → Bool) (xs : List Multiple) → ((t : Multiple) → keep t ≡ true) → filter keep xs ≡ xs
  all_there keep [] h = refl
  all_there keep (t ∷ xs) h = (let here = h t in let rest = all_there keep xs h in λ j. if here j then t ∷ rest j else filter keep xs)

  pub begins_so : (ts : List Item) (f : Form) (us : List Item) → AllByRecursion (λ u. is_left u.symbol ts ≡ true) us → exactly f ≡ now ts (Sums f us)
  begins_so ts f us h =
      let lows = none_added (λ u. u.low) ts us h in
      let lasts = none_added (λ u. u.last) ts us h in
      let terms = all_there (λ t. not (is_gone ts us t.symbol)) f.terms (λ t. ap not (none_gone ts us h t.symbol)) in
      let one : form_at (λ u. u.low) ts f us ≡ f = (λ j. record { constant = f.constant +ℤ lows j; terms = terms j }) ∙ (λ j. record { constant = same f.constant j; terms = f.terms }) in
      let two : form_at (λ u. u.last) ts f us ≡ f = (λ j. record { constant = f.constant +ℤ lasts j; terms = terms j }) ∙ (λ j. record { constant = same f.constant j; terms = f.terms }) in
      sym (λ j. record { lower = one j ∷ []; upper = two j ∷ [] })
    where
      same : (z : ℤ) → (z +ℤ pos 0) ≡ z
      same z = omega (arith, ints)
