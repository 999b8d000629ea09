-- Spans with further upper forms: what a loop comes to is the same beside such forms, and a loop with further upper forms leaves these in the span.
use Rattle.std.proofs.Common.{◌≡◌, ℕ, Bool, true, false, ◌||◌, not, List, [], ◌∷◌, ◌++◌, Option, Some, None, refl, sym, ap, ◌∙◌, arith}
use Rattle.std.specs.Prelude.{ℤ, pos, ◌-ℤ◌, ◌≤ℤ◌, if◌then◌else◌, filter, option_and_then}
use Rattle.std.specs.Option.{option_map}
use Rattle.std.specs.List.{AllByRecursion, list_any}
use Rattle.std.proofs.lemmas.Int.{ints}
use Rattle.lin.specs.Forms.{Form, number, factor_of, combined}
use Rattle.lin.specs.Search.{replaced}
use Rattle.lin.specs.declared.span.Span1.{Span1}
use Rattle.soundness.specs.Obligations.{form_has, span_has}
use Rattle.tails.specs.Moves.{Ready, preferred, naming, not_naming, each_replaced, joined, single, only, span_from, are_blocks, over_turns, over_loop}

module _ {A : Type 0} (r' r : A → Option Ready) where
  abbrev pub bests : (A → Option Ready) → List A → Option Ready
  bests f [] = None
  bests f (p ∷ ps) = preferred (f p) (bests f ps)

  abbrev pub LeastAmong : ℤ → List A → Type 0
  LeastAmong f ps = AllByRecursion (λ p. (z : Ready) → r p ≡ Some z → f ≤ℤ z.factor) ps

  further : (a b d : ℤ) → a ≤ℤ b → b ≤ℤ d → a ≤ℤ d
  further a b d one two = omega (arith, ints, one, two)

  lower : (f g : ℤ) → f ≤ℤ g → (ps : List A) → LeastAmong g ps → LeastAmong f ps
  lower f g le [] h = tt
  lower f g le (p ∷ ps) h = ((λ z e. further f g z.factor le (h.0 z e)), lower f g le ps h.1)

-- ---- a span with further upper forms

abbrev pub capped : Span1 → List Form → Span1
capped y cs = record { lower = y.lower; upper = y.upper ++ cs }

pub append_assoc : (xs ys zs : List Form) → (xs ++ ys) ++ zs ≡ xs ++ (ys ++ zs)
append_assoc [] ys zs = refl
append_assoc (x ∷ xs) ys zs = ap (λ (fs : List Form). x ∷ fs) (append_assoc xs ys zs)

pub no_more : (xs : List Form) → xs ++ [] ≡ xs
no_more [] = refl
no_more (x ∷ xs) = ap (λ (fs : List Form). x ∷ fs) (no_more xs)

pub joined_filter : (f : Form → Bool) (xs ys : List Form) → filter f (xs ++ ys) ≡ filter f xs ++ filter f ys
joined_filter f [] ys = refl
joined_filter f (x ∷ xs) ys = of (f x) (joined_filter f xs ys)
  where
    of : (b : Bool) → filter f (xs ++ ys) ≡ filter f xs ++ filter f ys → (if b then x ∷ filter f (xs ++ ys) else filter f (xs ++ ys)) ≡ (if b then x ∷ filter f xs else filter f xs) ++ filter f ys
    of true h = ap (λ (fs : List Form). x ∷ fs) h
    of false h = h

-- none of these forms has the symbol
abbrev pub HaveNot : ℕ → List Form → Type 0
HaveNot i cs = AllByRecursion (λ c. form_has i c ≡ false) cs

pub naming_none : (i : ℕ) (cs : List Form) → HaveNot i cs → naming i cs ≡ []
naming_none i [] h = refl
naming_none i (c ∷ cs) h = (let here = h.0 in let rest = naming_none i cs h.1 in λ j. if here j then c ∷ rest j else rest j)

pub not_naming_all : (i : ℕ) (cs : List Form) → HaveNot i cs → not_naming i cs ≡ cs
not_naming_all i [] h = refl
not_naming_all i (c ∷ cs) h = (let here = h.0 in let rest = not_naming_all i cs h.1 in λ j. if not (here j) then c ∷ rest j else rest j)

naming_capped : (i : ℕ) (us cs : List Form) → HaveNot i cs → naming i (us ++ cs) ≡ naming i us
naming_capped i us cs h = joined_filter (form_has i) us cs ∙ ap (λ (fs : List Form). naming i us ++ fs) (naming_none i cs h) ∙ no_more (naming i us)

not_naming_capped : (i : ℕ) (us cs : List Form) → HaveNot i cs → not_naming i (us ++ cs) ≡ not_naming i us ++ cs
not_naming_capped i us cs h = joined_filter (λ f. not (form_has i f)) us cs ∙ ap (λ (fs : List Form). not_naming i us ++ fs) (not_naming_all i cs h)

each_capped : (f : Form) (i : ℕ) (n : ℤ) (us ls cs : List Form) → each_replaced f i n ls ≡ Some cs → each_replaced f i n (us ++ ls) ≡ option_map (λ es. es ++ cs) (each_replaced f i n us)
each_capped f i n [] ls cs e = e
each_capped f i n (u ∷ us) ls cs e = ap (joined (single (replaced f i n u))) (each_capped f i n us ls cs e) ∙ of (replaced f i n u) (each_replaced f i n us)
  where
    of : (o : Option Form) (es : Option (List Form)) → joined (single o) (option_map (λ es. es ++ cs) es) ≡ option_map (λ es. es ++ cs) (joined (single o) es)
    of None es = refl
    of (Some g) None = refl
    of (Some g) (Some es) = refl

module _ (exact : Bool) (shows : Form → Form → Bool) (i : ℕ) where
  -- what a loop comes to is the same beside such forms, where these have not its symbol
  turns_capped : (x y : Span1) (cs : List Form) → HaveNot i cs → (f : Form) (n : ℤ) →
      over_turns exact shows i x (capped y cs) f n ≡ option_map (λ z. capped z cs) (over_turns exact shows i x y f n)
  turns_capped x y cs h f n =
      let one = naming_capped i y.upper cs h in
      let two = not_naming_capped i y.upper cs h in
      (λ j. if are_blocks exact shows f n (one j) then option_and_then (λ last.
      span_from (joined (each_replaced f i n x.lower) (Some (not_naming i y.lower))) (joined (each_replaced last i n x.upper) (Some (two j)))) (combined f (pos 1) (number (n -ℤ pos 1))) else None)
      ∙ of (are_blocks exact shows f n (naming i y.upper)) (combined f (pos 1) (number (n -ℤ pos 1)))
    where
      made : (ls es : Option (List Form)) (more : List Form) → span_from ls (joined es (Some (more ++ cs))) ≡ option_map (λ z. capped z cs) (span_from ls (joined es (Some more)))
      made None es more = refl
      made (Some ls) None more = refl
      made (Some ls) (Some es) more = ap (λ (us : List Form). Some (record { lower = ls; upper = us })) (sym (append_assoc es more cs))

      of : (b : Bool) (o : Option Form) →
          (if b then option_and_then (λ last.
          span_from (joined (each_replaced f i n x.lower) (Some (not_naming i y.lower))) (joined (each_replaced last i n x.upper) (Some (not_naming i y.upper ++ cs)))) o else None)
          ≡ option_map (λ z. capped z cs) (if b then option_and_then (λ last.
          span_from (joined (each_replaced f i n x.lower) (Some (not_naming i y.lower))) (joined (each_replaced last i n x.upper) (Some (not_naming i y.upper)))) o else None)
      of false o = refl
      of true None = refl
      of true (Some last) = made (joined (each_replaced f i n x.lower) (Some (not_naming i y.lower))) (each_replaced last i n x.upper) (not_naming i y.upper)

  pub loop_capped : (x y : Span1) (cs : List Form) → HaveNot i cs → over_loop exact shows i x (capped y cs) ≡ option_map (λ z. capped z cs) (over_loop exact shows i x y)
  loop_capped x y cs h = of (only (naming i y.lower))
    where
      of : (o : Option Form) → option_and_then (λ f. over_turns exact shows i x (capped y cs) f (factor_of f.terms i)) o
          ≡ option_map (λ z. capped z cs) (option_and_then (λ f. over_turns exact shows i x y f (factor_of f.terms i)) o)
      of None = refl
      of (Some f) = turns_capped x y cs h f (factor_of f.terms i)

  -- a loop with further upper forms leaves these in the span, as they come to without its symbol
  pub loop_limited : (x y : Span1) (ls cs : List Form) → not_naming i y.upper ≡ [] → ((f last : Form) → only (naming i y.lower) ≡ Some f →
      combined f (pos 1) (number (factor_of f.terms i -ℤ pos 1)) ≡ Some last → each_replaced last i (factor_of f.terms i) ls ≡ Some cs) →
      over_loop exact shows i (capped x ls) y ≡ option_map (λ z. capped z cs) (over_loop exact shows i x y)
  loop_limited x y ls cs none comes = of (only (naming i y.lower)) refl
    where
      made : (ms es : Option (List Form)) →
          span_from ms (joined (option_map (λ es. es ++ cs) es) (Some [])) ≡ option_map (λ z. capped z cs) (span_from ms (joined es (Some [])))
      made None es = refl
      made (Some ms) None = refl
      made (Some ms) (Some es) = ap (λ (us : List Form). Some (record { lower = ms; upper = us })) (no_more (es ++ cs) ∙ ap (λ (us : List Form). us ++ cs) (sym (no_more es)))

      turns : (f : Form) → only (naming i y.lower) ≡ Some f → (b : Bool) (o : Option Form) → combined f (pos 1) (number (factor_of f.terms i -ℤ pos 1)) ≡ o →
          (if b then option_and_then (λ last. span_from (joined (each_replaced f i (factor_of f.terms i) x.lower) (Some (not_naming i y.lower)))
          (joined (each_replaced last i (factor_of f.terms i) (x.upper ++ ls)) (Some (not_naming i y.upper)))) o else None)
          ≡ option_map (λ z. capped z cs) (if b then option_and_then (λ last. span_from (joined (each_replaced f i (factor_of f.terms i) x.lower) (Some (not_naming i y.lower)))
          (joined (each_replaced last i (factor_of f.terms i) x.upper) (Some (not_naming i y.upper)))) o else None)
      turns f named false o e = refl
      turns f named true None e = refl
      turns f named true (Some last) e =
          let n = factor_of f.terms i in
          let lows = joined (each_replaced f i n x.lower) (Some (not_naming i y.lower)) in
          let more = each_capped last i n x.upper ls cs (comes f last named e) in
          (λ j. span_from lows (joined (more j) (Some (none j)))) ∙ made lows (each_replaced last i n x.upper)
          ∙ (λ j. option_map (λ z. capped z cs) (span_from lows (joined (each_replaced last i n x.upper) (Some (sym none j)))))

      of : (o : Option Form) → only (naming i y.lower) ≡ o → option_and_then (λ f. over_turns exact shows i (capped x ls) y f (factor_of f.terms i)) o
          ≡ option_map (λ z. capped z cs) (option_and_then (λ f. over_turns exact shows i x y f (factor_of f.terms i)) o)
      of None named = refl
      of (Some f) named =
          turns f named (are_blocks exact shows f (factor_of f.terms i) (naming i y.upper)) (combined f (pos 1) (number (factor_of f.terms i -ℤ pos 1))) refl

-- ---- all spans, each with its further upper forms

pub any_none : (i : ℕ) (cs : List Form) → HaveNot i cs → list_any (form_has i) cs ≡ false
any_none i [] h = refl
any_none i (c ∷ cs) h = (let here = h.0 in let rest = any_none i cs h.1 in λ j. here j || rest j)

pub any_joined : (i : ℕ) (us cs : List Form) → HaveNot i cs → list_any (form_has i) (us ++ cs) ≡ list_any (form_has i) us
any_joined i [] cs h = any_none i cs h
any_joined i (u ∷ us) cs h = ap (λ (b : Bool). form_has i u || b) (any_joined i us cs h)

pub has_capped : (i : ℕ) (y : Span1) (cs : List Form) → HaveNot i cs → span_has i (capped y cs) ≡ span_has i y
has_capped i y cs h = ap (λ (b : Bool). list_any (form_has i) y.lower || b) (any_joined i y.upper cs h)
