-- What is read is in the grammar.
use Rattle.std.proofs.Common.{◌≡◌, ℕ, zero, suc, ◌<◌, Bool, true, false, cond, List, [], ◌∷◌, ◌++◌, length, map, Option, Some, None, Result, Ok, Err, refl, sym, ap, subst, ◌∙◌, append_assoc, arith, rules as search_rules}
use Rattle.std.specs.List.{AllByRecursion}
use Rattle.std.proofs.lemmas.List.{append-nil, map-id}
use denote.Enum.Bare.{same_true}
use Rattle.numeric.specs.declared.ty.Ty.{Ty}
use Rattle.tree.specs.contracts.token.token.Symbol.{the_type as symbol_type}
use Rattle.tree.specs.contracts.token.token.Word.{the_type as word_type}
use Rattle.tree.specs.declared.token.token.Symbol.{Symbol}
use Rattle.tree.specs.declared.token.token.Symbol.TheVariants as symbol
use Rattle.tree.specs.declared.token.token.Word.{Word}
use Rattle.tree.specs.declared.token.token.Word.TheVariants as word
use Rattle.tree.specs.declared.token.token.Literal.{Literal}
use Rattle.tree.specs.declared.token.token.Token.{Token}
use Rattle.tree.specs.declared.token.token.Token.TheVariants as token
use Rattle.tree.specs.Token.Cursor.{after, after_word, same_symbol, same_word}
use Rattle.tree.specs.Term.{Term}
use Rattle.expr.specs.declared.error.Refusal.{Refusal as ExprRefusal}
use Rattle.expr.specs.declared.error.Refusal.TheVariants as within
use Rattle.expr.specs.Parsing.{expression as expression_at}
use Rattle.expr.specs.Grammar.{sign, Sums, sums_then, sums_term}
use Rattle.expr.specs.Text.{IsSmall as IsSmallTerm}
use Rattle.expr.proofs.Sound.{expression_sound as sums_sound}
use Rattle.expr.specs.declared.statements.error.Refusal.{Refusal}
use Rattle.expr.specs.Statements.Text.{BoundText, DomainText, InputText, FunctionText, UpdateText, StatementText, function as a_function, update as an_update, OutputText, FileText, function_with, update_with, statement_with}
use Rattle.expr.specs.Statements.Reading.{Parse, ◌>>=◌, or_refuse, expect, expect_word, name, type_name, untyped, number, from_here, expression, next_of, more_of, separated, names, numbers, expressions, signed_number, bound, domain, domains, size, over_domains, over, right_side, input, function, update, output, begun, statement, next_statement, statements, led_by, led, ended, file}
use Rattle.expr.specs.Statements.Grammar.{others_then, items_then, name_then, number_then, bound_then, domain_then, size_then, over_then, right_side_then, input_then, function_then, update_then, statement_then, statements_then, output_then, HasParts, IsLed, StandsFor, IsSmallStatement, IsSmall}

-- ---- inversions

-- the value of a step that did not refuse
pub bind_ok : {A B : Type 0} (r : Result A Refusal) (f : A → Result B Refusal) (y : B) → (r >>= f) ≡ Ok y → (x : A) × (r ≡ Ok x) × (f x ≡ Ok y)
bind_ok (Ok x) f y h = (x, refl, h)
bind_ok (Err d) f y h = absurd cc

abbrev answered : {A : Type 0} → (A × List Token) → Result (A × List Token) Refusal
answered p = Ok p

answered_is : {A : Type 0} (p q : A × List Token) → answered p ≡ answered q → p ≡ q
answered_is p q h = cc

pub answer_is : {A : Type 0} (x y : A) (ts us : List Token) → answered (x, ts) ≡ answered (y, us) → (x ≡ y) × (ts ≡ us)
answer_is x y ts us h = let p = answered_is (x, ts) (y, us) h in (ap (λ q. q.0) p, ap (λ q. q.1) p)

after_symbol : (s t : Symbol) (ts us : List Token) (b : Bool) → same_symbol t s ≡ b → cond b (Some ts) None ≡ Some us → sign t ∷ ts ≡ sign s ∷ us
after_symbol s t ts us true is h =
    let same : t ≡ s = same_true symbol_type (search search_rules) t s is in
    let rest : ts ≡ us = cc in
    ap (λ (x : Symbol). sign x ∷ ts) same ∙ ap (λ (x : List Token). sign s ∷ x) rest
after_symbol s t ts us false is h = absurd cc

pub after_is : (s : Symbol) (ts us : List Token) → after s ts ≡ Some us → ts ≡ sign s ∷ us
after_is s [] us h = absurd cc
after_is s (token.Symbol t ∷ ts) us h = after_symbol s t ts us (same_symbol t s) refl h
after_is s (_ ∷ ts) us h = absurd cc

after_this_word : (s t : Word) (ts us : List Token) (b : Bool) → same_word t s ≡ b → cond b (Some ts) None ≡ Some us → token.Word t ∷ ts ≡ token.Word s ∷ us
after_this_word s t ts us true is h =
    let same : t ≡ s = same_true word_type (search search_rules) t s is in
    let rest : ts ≡ us = cc in
    ap (λ (x : Word). token.Word x ∷ ts) same ∙ ap (λ (x : List Token). token.Word s ∷ x) rest
after_this_word s t ts us false is h = absurd cc

pub after_word_is : (s : Word) (ts us : List Token) → after_word s ts ≡ Some us → ts ≡ token.Word s ∷ us
after_word_is s [] us h = absurd cc
after_word_is s (token.Word t ∷ ts) us h = after_this_word s t ts us (same_word t s) refl h
after_word_is s (_ ∷ ts) us h = absurd cc

or_refuse_is : (o : Option (List Token)) (left : ℕ) (us : List Token) → or_refuse o left ≡ Ok us → o ≡ Some us
or_refuse_is (Some ts) left us h = let same : ts ≡ us = cc in ap (λ (x : List Token). Some x) same
or_refuse_is None left us h = absurd cc

expect_is : (s : Symbol) (ts us : List Token) → expect s ts ≡ Ok us → ts ≡ sign s ∷ us
unfolding expect
expect_is s ts us h = after_is s ts us (or_refuse_is (after s ts) (length ts) us h)

expect_word_is : (w : Word) (ts us : List Token) → expect_word w ts ≡ Ok us → ts ≡ token.Word w ∷ us
unfolding expect_word
expect_word_is w ts us h = after_word_is w ts us (or_refuse_is (after_word w ts) (length ts) us h)

-- ---- single tokens

pub name_is : (ts us : List Token) (x : List ℕ) → name ts ≡ Ok (x, us) → ts ≡ name_then x us
name_is [] us x h = absurd cc
name_is (token.Name y ∷ ts) us x h = let p = answer_is y x ts us h in ap (λ (z : List ℕ). name_then z ts) p.0 ∙ ap (name_then x) p.1
name_is (_ ∷ ts) us x h = absurd cc

pub type_is : (ts us : List Token) (t : Ty) → type_name ts ≡ Ok (t, us) → ts ≡ token.Type t ∷ us
type_is [] us t h = absurd cc
type_is (token.Type y ∷ ts) us t h = let p = answer_is y t ts us h in ap (λ (z : Ty). token.Type z ∷ ts) p.0 ∙ ap (λ (v : List Token). token.Type t ∷ v) p.1
type_is (_ ∷ ts) us t h = absurd cc

untyped_is : (n : Literal) (t : Option Ty) (ts us : List Token) (left m : ℕ) → n.ty ≡ t → untyped t n.value ts left ≡ Ok (m, us) → token.Number n ∷ ts ≡ number_then m us
untyped_is n None ts us left m none h =
    let p = answer_is n.value m ts us h in
    ap (λ (o : Option Ty). token.Number (record { value = n.value; ty = o }) ∷ ts) none ∙ ap (λ (v : ℕ). number_then v ts) p.0 ∙ ap (number_then m) p.1
untyped_is n (Some t) ts us left m some h = absurd cc

pub number_is : (ts us : List Token) (n : ℕ) → number ts ≡ Ok (n, us) → ts ≡ number_then n us
number_is [] us n h = absurd cc
number_is (token.Number m ∷ ts) us n h = untyped_is m m.ty ts us (length (token.Number m ∷ ts)) n refl h
number_is (_ ∷ ts) us n h = absurd cc

-- ---- steps

-- the value of each step that did not refuse
and_then : {A B P : Type 0} (r : Result A Refusal) (f : A → Result B Refusal) (y : B) → (r >>= f) ≡ Ok y → ((x : A) → r ≡ Ok x → f x ≡ Ok y → P) → P
and_then (Ok x) f y h k = k x refl h
and_then (Err d) f y h k = absurd cc

signed_is : (ts us : List Token) (b : BoundText) (o : Option (List Token)) → after symbol.Minus ts ≡ o → signed_number ts o ≡ Ok (b, us) → ts ≡ bound_then b us
signed_is ts us b None at h =
    and_then (number ts) _ (b, us) h (λ n number_ok h1.
    let p = answer_is (record { negative = false; number = n.0 }) b n.1 us h1 in
    number_is ts n.1 n.0 number_ok ∙ ap (number_then n.0) p.1 ∙ ap (λ (c : BoundText). bound_then c us) p.0)
signed_is ts us b (Some next) at h =
    and_then (number next) _ (b, us) h (λ n number_ok h1.
    let p = answer_is (record { negative = true; number = n.0 }) b n.1 us h1 in
    after_is symbol.Minus ts next at ∙ ap (λ (v : List Token). sign symbol.Minus ∷ v) (number_is next n.1 n.0 number_ok ∙ ap (number_then n.0) p.1) ∙ ap (λ (c : BoundText). bound_then c us) p.0)

bound_is : (ts us : List Token) (b : BoundText) → bound ts ≡ Ok (b, us) → ts ≡ bound_then b us
unfolding bound
bound_is ts us b h = signed_is ts us b (after symbol.Minus ts) refl h

domain_is : (ts us : List Token) (d : DomainText) → domain ts ≡ Ok (d, us) → ts ≡ domain_then d us
unfolding domain
domain_is ts us d h =
    and_then (name ts) _ (d, us) h (λ v name_ok h1.
    and_then (bound v.1) _ (d, us) h1 (λ low low_ok h2.
    and_then (expect symbol.DotDot low.1) _ (d, us) h2 (λ dots dots_ok h3.
    and_then (bound dots) _ (d, us) h3 (λ high high_ok h4.
    let p = answer_is (record { variable = v.0; low = low.0; high = high.0 }) d high.1 us h4 in
    let last = bound_is dots high.1 high.0 high_ok ∙ ap (bound_then high.0) p.1 in
    let first = bound_is v.1 low.1 low.0 low_ok ∙ ap (bound_then low.0) (expect_is symbol.DotDot low.1 dots dots_ok ∙ ap (λ (w : List Token). sign symbol.DotDot ∷ w) last) in
    name_is ts v.1 v.0 name_ok ∙ ap (name_then v.0) first ∙ ap (λ (c : DomainText). domain_then c us) p.0))))

-- ---- lists

-- what was read from ts to us stands for x, which is within limits
record Found {D A : Type 0} (then : D → List Token → List Token) (view : D → A) (Small : A → Type 0) (ts us : List Token) (x : A) : Type 0 where
  rules : D
  spelled : ts ≡ then rules us
  is : view rules ≡ x
  small : Small x

-- the same of further items, which come behind those found before
record FoundMore {D A : Type 0} (then : D → List Token → List Token) (view : D → A) (Small : A → Type 0) (found : List A) (ts us : List Token) (xs : List A) : Type 0 where
  rules : List D
  spelled : ts ≡ others_then then rules us
  is : found ++ map view rules ≡ xs
  small : AllByRecursion Small (map view rules)

-- the same of one or more items
record FoundItems {D A : Type 0} (then : D → List Token → List Token) (view : D → A) (Small : A → Type 0) (ts us : List Token) (xs : List A) : Type 0 where
  rules : List D
  some : 0 < length rules
  spelled : ts ≡ items_then then rules us
  is : map view rules ≡ xs
  small : AllByRecursion Small xs

module _ {D A : Type 0} (item : Parse A) (then : D → List Token → List Token) (view : D → A) (Small : A → Type 0) (sound : (ts us : List Token) (x : A) → item ts ≡ Ok (x, us) → Found then view Small ts us x) where
  abbrev More : List A → List Token → List Token → List A → Type 0
  More found ts us xs = FoundMore then view Small found ts us xs

  none_more : (found : List A) (ts us : List Token) (xs : List A) → answered (found, ts) ≡ answered (xs, us) → More found ts us xs
  none_more found ts us xs h =
      let p = answer_is found xs ts us h in
      record { rules = []; spelled = p.1; is = append-nil found ∙ p.0; small = tt }

  one_more : (found : List A) (ts next vs us : List Token) (x : A) (xs : List A) → after symbol.Comma ts ≡ Some next → Found then view Small next vs x → More (found ++ x ∷ []) vs us xs → More found ts us xs
  one_more found ts next vs us x xs at p q =
      record {
        rules = p.rules ∷ q.rules;
        spelled = after_is symbol.Comma ts next at ∙ ap (λ (w : List Token). sign symbol.Comma ∷ w) (p.spelled ∙ ap (then p.rules) q.spelled);
        is = ap (λ (y : A). found ++ y ∷ map view q.rules) p.is ∙ sym (append_assoc found (x ∷ []) (map view q.rules)) ∙ q.is;
        small = (subst Small (sym p.is) p.small, q.small);
      }

  next_sound : (more : A → Parse (List A)) (found : List A) → ((x : A) (ts us : List Token) (xs : List A) → more x ts ≡ Ok (xs, us) → More (found ++ x ∷ []) ts us xs)
      → (ts us : List Token) (xs : List A) (o : Option (List Token)) → after symbol.Comma ts ≡ o → next_of item more found ts o ≡ Ok (xs, us) → More found ts us xs
  next_sound more found rest ts us xs None at h = none_more found ts us xs h
  next_sound more found rest ts us xs (Some next) at h =
      and_then (item next) _ (xs, us) h (λ r item_ok h1.
      one_more found ts next r.1 us r.0 xs at (sound next r.1 r.0 item_ok) (rest r.0 r.1 us xs h1))

  more_sound : (n : ℕ) (found : List A) (ts us : List Token) (xs : List A) → more_of item n found ts ≡ Ok (xs, us) → More found ts us xs
  unfolding more_of
  more_sound zero found ts us xs h = none_more found ts us xs h
  more_sound (suc n) found ts us xs h =
      next_sound (λ x. more_of item n (found ++ x ∷ [])) found (λ x vs ws ys e. more_sound n (found ++ x ∷ []) vs ws ys e) ts us xs (after symbol.Comma ts) refl h

  items_sound : (ts us : List Token) (xs : List A) → separated item ts ≡ Ok (xs, us) → FoundItems then view Small ts us xs
  unfolding separated
  items_sound ts us xs h =
      and_then (item ts) _ (xs, us) h (λ r item_ok h1.
      let p = sound ts r.1 r.0 item_ok in
      let q = more_sound (length r.1) (r.0 ∷ []) r.1 us xs h1 in
      let is : map view (p.rules ∷ q.rules) ≡ xs = ap (λ (y : A). y ∷ map view q.rules) p.is ∙ q.is in
      record {
        rules = p.rules ∷ q.rules;
        some = omega arith;
        spelled = p.spelled ∙ ap (then p.rules) q.spelled;
        is = is;
        small = subst (AllByRecursion Small) is (subst Small (sym p.is) p.small, q.small);
      })

-- ---- lists of parts that stand for themselves

module _ {A : Type 0} (item : Parse A) (then : A → List Token → List Token) (sound : (ts us : List Token) (x : A) → item ts ≡ Ok (x, us) → ts ≡ then x us) where
  plain_sound : (ts us : List Token) (xs : List A) → separated item ts ≡ Ok (xs, us) → (0 < length xs) × (ts ≡ items_then then xs us)
  plain_sound ts us xs h =
      let f = items_sound item then (λ x. x) (λ _. Unit {0}) (λ vs ws x e. record { rules = x; spelled = sound vs ws x e; is = refl; small = tt }) ts us xs h in
      let is : f.rules ≡ xs = sym (map-id f.rules) ∙ f.is in
      (subst (λ (ys : List A). 0 < length ys) is f.some, f.spelled ∙ ap (λ (ys : List A). items_then then ys us) is)

size_is : (ts us : List Token) (ns : List ℕ) → size ts ≡ Ok (ns, us) → (0 < length ns) × (ts ≡ size_then ns us)
unfolding size numbers
size_is ts us ns h =
    and_then (expect symbol.LeftBracket ts) _ (ns, us) h (λ start start_ok h1.
    and_then (numbers start) _ (ns, us) h1 (λ r numbers_ok h2.
    and_then (expect symbol.RightBracket r.1) _ (ns, us) h2 (λ rest rest_ok h3.
    let p = answer_is r.0 ns rest us h3 in
    let items = plain_sound number number_then number_is start r.1 r.0 numbers_ok in
    let close = expect_is symbol.RightBracket r.1 rest rest_ok ∙ ap (λ (v : List Token). sign symbol.RightBracket ∷ v) p.1 in
    let spelled = expect_is symbol.LeftBracket ts start start_ok ∙ ap (λ (v : List Token). sign symbol.LeftBracket ∷ v) (items.1 ∙ ap (items_then number_then r.0) close) in
    (subst (λ (xs : List ℕ). 0 < length xs) p.0 items.0, spelled ∙ ap (λ (xs : List ℕ). size_then xs us) p.0))))

over_some : (ds : List DomainText) (us : List Token) → 0 < length ds → token.Word word.Over ∷ sign symbol.LeftParen ∷ items_then domain_then ds (sign symbol.RightParen ∷ us) ≡ over_then ds us
over_some [] us some = absurd (omega (arith, some))
over_some (d ∷ ds) us some = refl

over_at : (ts us : List Token) (ds : List DomainText) (o : Option (List Token)) → after_word word.Over ts ≡ o → over_domains ts o ≡ Ok (ds, us) → ts ≡ over_then ds us
unfolding domains
over_at ts us ds None at h =
    let p = answer_is [] ds ts us h in
    p.1 ∙ ap (λ (xs : List DomainText). over_then xs us) p.0
over_at ts us ds (Some next) at h =
    and_then (expect symbol.LeftParen next) _ (ds, us) h (λ start start_ok h1.
    and_then (domains start) _ (ds, us) h1 (λ r domains_ok h2.
    and_then (expect symbol.RightParen r.1) _ (ds, us) h2 (λ rest rest_ok h3.
    let p = answer_is r.0 ds rest us h3 in
    let items = plain_sound domain domain_then domain_is start r.1 r.0 domains_ok in
    let close = expect_is symbol.RightParen r.1 rest rest_ok ∙ ap (λ (v : List Token). sign symbol.RightParen ∷ v) p.1 in
    let inside = expect_is symbol.LeftParen next start start_ok ∙ ap (λ (v : List Token). sign symbol.LeftParen ∷ v) (items.1 ∙ ap (items_then domain_then r.0) close) in
    after_word_is word.Over ts next at ∙ ap (λ (v : List Token). token.Word word.Over ∷ v) inside ∙ over_some r.0 us items.0 ∙ ap (λ (xs : List DomainText). over_then xs us) p.0)))

over_is : (ts us : List Token) (ds : List DomainText) → over ts ≡ Ok (ds, us) → ts ≡ over_then ds us
unfolding over
over_is ts us ds h = over_at ts us ds (after_word word.Over ts) refl h

-- ---- expressions

abbrev FoundTerm : List Token → List Token → Term → Type 0
FoundTerm ts us x = Found sums_then sums_term IsSmallTerm ts us x

term_at : (ts us : List Token) (x : Term) (left : ℕ) (r : Result (Term × List Token) ExprRefusal) → expression_at ts ≡ r → from_here left r ≡ Ok (x, us) → FoundTerm ts us x
term_at ts us x left (Ok p) at h =
    let q = answer_is p.0 x p.1 us h in
    let f = sums_sound ts p.1 p.0 at in
    record { rules = f.0.rules; spelled = f.0.spelled ∙ ap (sums_then f.0.rules) q.1; is = f.0.is ∙ q.0; small = subst IsSmallTerm q.0 f.1 }
term_at ts us x left (Err (within.BadForm n)) at h = absurd cc
term_at ts us x left (Err (within.LongName n)) at h = absurd cc
term_at ts us x left (Err within.TooLarge) at h = absurd cc

term_sound : (ts us : List Token) (x : Term) → expression ts ≡ Ok (x, us) → FoundTerm ts us x
unfolding expression
term_sound ts us x h = term_at ts us x (length ts) (expression_at ts) refl h

right_side_sound : (ts us : List Token) (x : Term) → right_side ts ≡ Ok (x, us) → Found right_side_then sums_term IsSmallTerm ts us x
unfolding right_side
right_side_sound ts us x h =
    and_then (expect symbol.Equals ts) _ (x, us) h (λ start start_ok h1.
    and_then (expression start) _ (x, us) h1 (λ r term_ok h2.
    and_then (expect symbol.Semicolon r.1) _ (x, us) h2 (λ rest rest_ok h3.
    let p = answer_is r.0 x rest us h3 in
    let f = term_sound start r.1 r.0 term_ok in
    let close = expect_is symbol.Semicolon r.1 rest rest_ok ∙ ap (λ (v : List Token). sign symbol.Semicolon ∷ v) p.1 in
    record {
      rules = f.rules;
      spelled = expect_is symbol.Equals ts start start_ok ∙ ap (λ (v : List Token). sign symbol.Equals ∷ v) (f.spelled ∙ ap (sums_then f.rules) close);
      is = f.is ∙ p.0;
      small = subst IsSmallTerm p.0 f.small;
    })))

-- ---- statements

input_is : (ts us : List Token) (s : InputText) → input ts ≡ Ok (s, us) → (0 < length s.extents) × (ts ≡ input_then s us)
unfolding input
input_is ts us s h =
    and_then (expect_word word.Input ts) _ (s, us) h (λ start start_ok h1.
    and_then (name start) _ (s, us) h1 (λ n name_ok h2.
    and_then (type_name n.1) _ (s, us) h2 (λ t type_ok h3.
    and_then (size t.1) _ (s, us) h3 (λ e size_ok h4.
    and_then (expect symbol.Semicolon e.1) _ (s, us) h4 (λ rest rest_ok h5.
    let p = answer_is (record { name = n.0; ty = t.0; extents = e.0 }) s rest us h5 in
    let extents = size_is t.1 e.1 e.0 size_ok in
    let close = expect_is symbol.Semicolon e.1 rest rest_ok ∙ ap (λ (v : List Token). sign symbol.Semicolon ∷ v) p.1 in
    let type = type_is n.1 t.1 t.0 type_ok ∙ ap (λ (v : List Token). token.Type t.0 ∷ v) (extents.1 ∙ ap (size_then e.0) close) in
    let spelled = expect_word_is word.Input ts start start_ok ∙ ap (λ (v : List Token). token.Word word.Input ∷ v) (name_is start n.1 n.0 name_ok ∙ ap (name_then n.0) type) in
    (subst (λ (i : InputText). 0 < length i.extents) p.0 extents.0, spelled ∙ ap (λ (i : InputText). input_then i us) p.0))))))

output_is : (ts us : List Token) (s : OutputText) → output ts ≡ Ok (s, us) → (0 < length s.extents) × (ts ≡ output_then s us)
unfolding output
output_is ts us s h =
    and_then (expect_word word.Output ts) _ (s, us) h (λ start start_ok h1.
    and_then (name start) _ (s, us) h1 (λ n name_ok h2.
    and_then (size n.1) _ (s, us) h2 (λ e size_ok h3.
    and_then (expect symbol.Semicolon e.1) _ (s, us) h3 (λ rest rest_ok h4.
    let p = answer_is (record { name = n.0; extents = e.0 }) s rest us h4 in
    let extents = size_is n.1 e.1 e.0 size_ok in
    let close = expect_is symbol.Semicolon e.1 rest rest_ok ∙ ap (λ (v : List Token). sign symbol.Semicolon ∷ v) p.1 in
    let spelled = expect_word_is word.Output ts start start_ok ∙ ap (λ (v : List Token). token.Word word.Output ∷ v) (name_is start n.1 n.0 name_ok ∙ ap (name_then n.0) (extents.1 ∙ ap (size_then e.0) close)) in
    (subst (λ (o : OutputText). 0 < length o.extents) p.0 extents.0, spelled ∙ ap (λ (o : OutputText). output_then o us) p.0)))))

abbrev function_of : List ℕ → Ty → List (List ℕ) → Term → FunctionText Term
function_of n t vs x = record { name = n; ty = t; variables = vs; value = x }

-- what was read from ts to us, behind its word, stands for the function, whose expression is within limits
record FoundFunction (ts us : List Token) (s : FunctionText Term) : Type 0 where
  rules : FunctionText Sums
  some : 0 < length rules.variables
  spelled : ts ≡ function_then rules us
  is : function_with sums_term rules ≡ s
  small : IsSmallTerm s.value

function_sound : (ts us : List Token) (s : FunctionText Term) → function ts ≡ Ok (s, us) → FoundFunction ts us s
unfolding function names
function_sound ts us s h =
    and_then (name ts) _ (s, us) h (λ n name_ok h1.
    and_then (type_name n.1) _ (s, us) h1 (λ t type_ok h2.
    and_then (expect symbol.LeftParen t.1) _ (s, us) h2 (λ start start_ok h3.
    and_then (names start) _ (s, us) h3 (λ vs names_ok h4.
    and_then (expect symbol.RightParen vs.1) _ (s, us) h4 (λ rest rest_ok h5.
    and_then (right_side rest) _ (s, us) h5 (λ e side_ok h6.
    let p = answer_is (record { name = n.0; ty = t.0; variables = vs.0; value = e.0 }) s e.1 us h6 in
    let items = plain_sound name name_then name_is start vs.1 vs.0 names_ok in
    let side = right_side_sound rest e.1 e.0 side_ok in
    let close = expect_is symbol.RightParen vs.1 rest rest_ok ∙ ap (λ (v : List Token). sign symbol.RightParen ∷ v) (side.spelled ∙ ap (right_side_then side.rules) p.1) in
    let inside = expect_is symbol.LeftParen t.1 start start_ok ∙ ap (λ (v : List Token). sign symbol.LeftParen ∷ v) (items.1 ∙ ap (items_then name_then vs.0) close) in
    record {
      rules = record { name = n.0; ty = t.0; variables = vs.0; value = side.rules };
      some = items.0;
      spelled = name_is ts n.1 n.0 name_ok ∙ ap (name_then n.0) (type_is n.1 t.1 t.0 type_ok ∙ ap (λ (v : List Token). token.Type t.0 ∷ v) inside);
      is = ap (λ (x : Term). function_of n.0 t.0 vs.0 x) side.is ∙ p.0;
      small = subst (λ (f : FunctionText Term). IsSmallTerm f.value) p.0 side.small;
    }))))))

abbrev update_of : List ℕ → List DomainText → List Term → Term → UpdateText Term
update_of n ds xs x = record { name = n; domains = ds; at = xs; value = x }

-- the same of an update
record FoundUpdate (ts us : List Token) (s : UpdateText Term) : Type 0 where
  rules : UpdateText Sums
  some : 0 < length rules.at
  spelled : ts ≡ update_then rules us
  is : update_with sums_term rules ≡ s
  small : AllByRecursion IsSmallTerm s.at × IsSmallTerm s.value

update_sound : (ts us : List Token) (s : UpdateText Term) → update ts ≡ Ok (s, us) → FoundUpdate ts us s
unfolding update expressions
update_sound ts us s h =
    and_then (name ts) _ (s, us) h (λ n name_ok h1.
    and_then (over n.1) _ (s, us) h1 (λ ds over_ok h2.
    and_then (expect symbol.LeftBracket ds.1) _ (s, us) h2 (λ start start_ok h3.
    and_then (expressions start) _ (s, us) h3 (λ at items_ok h4.
    and_then (expect symbol.RightBracket at.1) _ (s, us) h4 (λ rest rest_ok h5.
    and_then (right_side rest) _ (s, us) h5 (λ e side_ok h6.
    let p = answer_is (record { name = n.0; domains = ds.0; at = at.0; value = e.0 }) s e.1 us h6 in
    let items = items_sound expression sums_then sums_term IsSmallTerm term_sound start at.1 at.0 items_ok in
    let side = right_side_sound rest e.1 e.0 side_ok in
    let close = expect_is symbol.RightBracket at.1 rest rest_ok ∙ ap (λ (v : List Token). sign symbol.RightBracket ∷ v) (side.spelled ∙ ap (right_side_then side.rules) p.1) in
    let inside = expect_is symbol.LeftBracket ds.1 start start_ok ∙ ap (λ (v : List Token). sign symbol.LeftBracket ∷ v) (items.spelled ∙ ap (items_then sums_then items.rules) close) in
    record {
      rules = record { name = n.0; domains = ds.0; at = items.rules; value = side.rules };
      some = items.some;
      spelled = name_is ts n.1 n.0 name_ok ∙ ap (name_then n.0) (over_is n.1 ds.1 ds.0 over_ok ∙ ap (over_then ds.0) inside);
      is = ap (λ (xs : List Term). update_of n.0 ds.0 xs (sums_term side.rules)) items.is ∙ ap (update_of n.0 ds.0 at.0) side.is ∙ p.0;
      small = subst (λ (u : UpdateText Term). AllByRecursion IsSmallTerm u.at × IsSmallTerm u.value) p.0 (items.small, side.small);
    }))))))

-- what was read from ts to us stands for the statement, whose expressions are within limits
record FoundStatement (ts us : List Token) (s : StatementText Term) : Type 0 where
  rules : StatementText Sums
  whole : HasParts rules
  spelled : ts ≡ statement_then rules us
  is : statement_with sums_term rules ≡ s
  small : IsSmallStatement s

-- the same where a statement was read, and where none was
abbrev FoundOption : List Token → List Token → Option (StatementText Term) → Type 0
FoundOption ts us None = ts ≡ us
FoundOption ts us (Some s) = FoundStatement ts us s

begun_sound : (ts us : List Token) (s : Option (StatementText Term)) (o q : Option (List Token)) → after_word word.Func ts ≡ o → after_word word.Update ts ≡ q → begun ts o q ≡ Ok (s, us) → FoundOption ts us s
begun_sound ts us s (Some next) q first second h =
    and_then (function next) _ (s, us) h (λ r function_ok h1.
    let p = answer_is (Some (a_function r.0)) s r.1 us h1 in
    let f = function_sound next r.1 r.0 function_ok in
    let found : FoundStatement ts us (a_function r.0) = record {
      rules = a_function f.rules;
      whole = f.some;
      spelled = after_word_is word.Func ts next first ∙ ap (λ (v : List Token). token.Word word.Func ∷ v) (f.spelled ∙ ap (function_then f.rules) p.1);
      is = ap a_function f.is;
      small = f.small;
    } in
    subst (FoundOption ts us) p.0 found)
begun_sound ts us s None (Some next) first second h =
    and_then (update next) _ (s, us) h (λ r update_ok h1.
    let p = answer_is (Some (an_update r.0)) s r.1 us h1 in
    let f = update_sound next r.1 r.0 update_ok in
    let found : FoundStatement ts us (an_update r.0) = record {
      rules = an_update f.rules;
      whole = f.some;
      spelled = after_word_is word.Update ts next second ∙ ap (λ (v : List Token). token.Word word.Update ∷ v) (f.spelled ∙ ap (update_then f.rules) p.1);
      is = ap an_update f.is;
      small = f.small;
    } in
    subst (FoundOption ts us) p.0 found)
begun_sound ts us s None None first second h =
    let p = answer_is None s ts us h in
    subst (FoundOption ts us) p.0 p.1

statement_sound : (ts us : List Token) (s : Option (StatementText Term)) → statement ts ≡ Ok (s, us) → FoundOption ts us s
unfolding statement
statement_sound ts us s h = begun_sound ts us s (after_word word.Func ts) (after_word word.Update ts) refl refl h

-- what was read from ts to us stands for further statements, which come behind those found before
record FoundStatements (found : List (StatementText Term)) (ts us : List Token) (ss : List (StatementText Term)) : Type 0 where
  rules : List (StatementText Sums)
  whole : AllByRecursion HasParts rules
  spelled : ts ≡ statements_then rules us
  is : found ++ map (statement_with sums_term) rules ≡ ss
  small : AllByRecursion IsSmallStatement (map (statement_with sums_term) rules)

none_left : (found : List (StatementText Term)) (ts us : List Token) (ss : List (StatementText Term)) → answered (found, ts) ≡ answered (ss, us) → FoundStatements found ts us ss
none_left found ts us ss h =
    let p = answer_is found ss ts us h in
    record { rules = []; whole = tt; spelled = p.1; is = append-nil found ∙ p.0; small = tt }

one_left : (found : List (StatementText Term)) (ts vs us : List Token) (s : StatementText Term) (ss : List (StatementText Term)) → FoundStatement ts vs s → FoundStatements (found ++ s ∷ []) vs us ss → FoundStatements found ts us ss
one_left found ts vs us s ss p q =
    record {
      rules = p.rules ∷ q.rules;
      whole = (p.whole, q.whole);
      spelled = p.spelled ∙ ap (statement_then p.rules) q.spelled;
      is = ap (λ (y : StatementText Term). found ++ y ∷ map (statement_with sums_term) q.rules) p.is ∙ sym (append_assoc found (s ∷ []) (map (statement_with sums_term) q.rules)) ∙ q.is;
      small = (subst IsSmallStatement (sym p.is) p.small, q.small);
    }

next_statement_sound : (more : StatementText Term → Parse (List (StatementText Term))) (found : List (StatementText Term))
    → ((s : StatementText Term) (ts us : List Token) (ss : List (StatementText Term)) → more s ts ≡ Ok (ss, us) → FoundStatements (found ++ s ∷ []) ts us ss)
    → (ts vs us : List Token) (ss : List (StatementText Term)) (o : Option (StatementText Term)) → FoundOption ts vs o → next_statement more found vs o ≡ Ok (ss, us) → FoundStatements found ts us ss
next_statement_sound more found rest ts vs us ss None f h = none_left found ts us ss (ap (λ (ws : List Token). answered (found, ws)) f ∙ h)
next_statement_sound more found rest ts vs us ss (Some s) f h = one_left found ts vs us s ss f (rest s vs us ss h)

statements_sound : (n : ℕ) (found : List (StatementText Term)) (ts us : List Token) (ss : List (StatementText Term)) → statements n found ts ≡ Ok (ss, us) → FoundStatements found ts us ss
unfolding statements
statements_sound zero found ts us ss h = none_left found ts us ss h
statements_sound (suc n) found ts us ss h =
    and_then (statement ts) _ (ss, us) h (λ r statement_ok h1.
    next_statement_sound (λ x. statements n (found ++ x ∷ [])) found (λ x vs ws ys e. statements_sound n (found ++ x ∷ []) vs ws ys e) ts r.1 us ss r.0 (statement_sound ts r.1 r.0 statement_ok) h1)

abbrev done : FileText Term → Result (FileText Term) Refusal
done f = Ok f

done_is : (f g : FileText Term) → done f ≡ done g → f ≡ g
done_is f g h = cc

ended_is : (f g : FileText Term) (ts : List Token) → ended f ts ≡ Ok g → (f ≡ g) × (ts ≡ [])
ended_is f g [] h = (done_is f g h, refl)
ended_is f g (t ∷ ts) h = absurd cc

abbrev file_of : List ℕ → InputText → List (StatementText Term) → OutputText → FileText Term
file_of n i ss o = record { name = n; input = i; statements = ss; output = o }

led_is : (ts us : List Token) (o : Option (List Token)) → led_by ts o ≡ Ok us → us ≡ ts
led_is ts us None h = cc
led_is ts us (Some vs) h = absurd cc

led_same : (ts us : List Token) → led ts ≡ Ok us → us ≡ ts
unfolding led
led_same ts us h = led_is ts us (after_word word.Update ts) h

led_rules : (ss : List (StatementText Sums)) (ts us vs : List Token) → led ts ≡ Ok vs → ts ≡ statements_then ss us → IsLed ss
unfolding led
led_rules [] ts us vs h e = tt
led_rules (a_function s ∷ ss) ts us vs h e = tt
led_rules (an_update s ∷ ss) ts us vs h e = let known : led (statements_then (an_update s ∷ ss) us) ≡ Ok vs = subst (λ t. led t ≡ Ok vs) e h in absurd cc

pub file_sound : (tokens : List Token) (f : FileText Term) → file tokens ≡ Ok f → StandsFor tokens f × IsSmall f
unfolding file
file_sound tokens f h =
    and_then (expect_word word.Pipeline tokens) _ f h (λ start start_ok h1.
    and_then (name start) _ f h1 (λ n name_ok h2.
    and_then (expect symbol.Semicolon n.1) _ f h2 (λ head head_ok h3.
    and_then (input head) _ f h3 (λ i input_ok h4.
    and_then (led i.1) _ f h4 (λ front led_ok h5.
    and_then (statements (length front) [] front) _ f h5 (λ s statements_ok h6.
    and_then (output s.1) _ f h6 (λ o output_ok h7.
    let p = ended_is (file_of n.0 i.0 s.0 o.0) f o.1 h7 in
    let first = input_is head i.1 i.0 input_ok in
    let middle = statements_sound (length front) [] front s.1 s.0 statements_ok in
    let behind_input = sym (led_same i.1 front led_ok) ∙ middle.spelled in
    let last = output_is s.1 o.1 o.0 output_ok in
    let after_input = behind_input ∙ ap (statements_then middle.rules) (last.1 ∙ ap (output_then o.0) p.1) in
    let after_name = expect_is symbol.Semicolon n.1 head head_ok ∙ ap (λ (v : List Token). sign symbol.Semicolon ∷ v) (first.1 ∙ ap (input_then i.0) after_input) in
    let stands : StandsFor tokens f = record {
      rules = record { name = n.0; input = i.0; statements = middle.rules; output = o.0 };
      whole = record { input = first.0; led = led_rules middle.rules i.1 s.1 front led_ok behind_input; statements = middle.whole; output = last.0 };
      spelled = expect_word_is word.Pipeline tokens start start_ok ∙ ap (λ (v : List Token). token.Word word.Pipeline ∷ v) (name_is start n.1 n.0 name_ok ∙ ap (name_then n.0) after_name);
      is = ap (λ (ss : List (StatementText Term)). file_of n.0 i.0 ss o.0) middle.is ∙ p.0;
    } in
    (stands, subst IsSmall p.0 (subst (AllByRecursion IsSmallStatement) middle.is middle.small)))))))))
