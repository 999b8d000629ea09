-- The tokens of a well-formed algorithm are put together by the grammar's rules.
use Rattle.std.proofs.Common.{◌≡◌, ℕ, zero, suc, ◌<◌, ◌≤◌, true, false, List, [], ◌∷◌, ◌++◌, length, map, take, Some, refl, sym, ap, subst, ◌∙◌, append_assoc, arith}
use Rattle.std.specs.Prelude.{ℤ, pos, negsuc, slice_get, All}
use Rattle.std.specs.List.{flat_map, list_all, AllByRecursion}
use Rattle.std.proofs.lemmas.List.{append-nil, length-map}
use Rattle.std.proofs.lemmas.List.Elements.{recursion_from_All}
use Rattle.numeric.specs.declared.ty.Ty.{Ty}
use Rattle.numeric.specs.declared.ty.Ty.TheVariants.{I32}
use Rattle.tree.specs.declared.token.token.Symbol.TheVariants as symbol
use Rattle.tree.specs.declared.token.token.Word.TheVariants as word
use Rattle.tree.specs.declared.token.token.Token.{Token}
use Rattle.tree.specs.declared.token.token.Token.TheVariants as token
use Rattle.tree.specs.Term.{Term, indices}
use Rattle.meaning.specs.Image.View.{AreExtents}
use Rattle.meaning.specs.Algorithm.{Range, Change, Function, Algorithm}
use Rattle.meaning.specs.Conditions.{IsSmall as IsSmallExpression, IsExpression, IsDomain, IsUpdate, IsFunction, IsAlgorithm, callable, names_in}
use Rattle.expr.specs.Grammar.{Sums, sign, sums_then, sums_term}
use Rattle.expr.specs.Text.{IsSmall as IsSmallTerm}
use Rattle.expr.specs.Statements.Text.{DomainText, FunctionText, UpdateText, StatementText, function, update, FileText, statement_with, file_with}
use Rattle.expr.specs.Statements.Grammar.{others_then, items_then, name_then, number_then, bound_then, domain_then, size_then, over_then}
use Rattle.expr.specs.Statements.Grammar.{right_side_then, input_then, function_then, update_then, statement_then, statements_then, output_then}
use Rattle.expr.specs.Statements.Grammar.{file_then, HasParts, IsLed, IsWhole, StandsFor, IsSmallStatement, IsSmall}
use Rattle.spelling.proofs.Runs.{both}
use Rattle.printer.specs.Spacing.{has_text}
use Rattle.printer.specs.Tokens.{name_token, number_token, one_name, one_number, behind_comma, listed, term_tokens, row_tokens, size_tokens}
use Rattle.printer.specs.Tokens.{bound_tokens, bounds_tokens, range_tokens, right_side_tokens, input_tokens, output_tokens, pure_tokens, over_tokens}
use Rattle.printer.specs.Tokens.{left_tokens, change_tokens, function_tokens, algorithm_tokens}
use Rattle.printer.specs.Files.{bound_of, domain_of, update_of, updates_of, statements_of, file_of}
use Rattle.printer.proofs.Derivations.{split, named, AtSum, sum_of, AtRow, row_of}

-- ---- lists

module _ {X : Type 0} (rule : X → List Token → List Token) (item : X → List Token) (one : (x : X) → list_all has_text (item x) ≡ true → (rest : List Token) → rule x rest ≡ item x ++ rest) where
  others_are : (xs : List X) → list_all has_text (flat_map (behind_comma item) xs) ≡ true → (rest : List Token) → others_then rule xs rest ≡ flat_map (behind_comma item) xs ++ rest
  others_are [] h rest = refl
  others_are (x ∷ xs) h rest =
      let parts = split (item x) (flat_map (behind_comma item) xs) h in
      ap (λ us. sign symbol.Comma ∷ us) (one x parts.0 (others_then rule xs rest) ∙ ap (λ us. item x ++ us) (others_are xs parts.1 rest) ∙ sym (append_assoc (item x) (flat_map (behind_comma item) xs) rest))

  pub items_are : (xs : List X) → list_all has_text (listed item xs) ≡ true → (rest : List Token) → items_then rule xs rest ≡ listed item xs ++ rest
  items_are [] h rest = refl
  items_are (x ∷ xs) h rest =
      let parts = split (item x) (flat_map (behind_comma item) xs) h in
      one x parts.0 (others_then rule xs rest) ∙ ap (λ us. item x ++ us) (others_are xs parts.1 rest) ∙ sym (append_assoc (item x) (flat_map (behind_comma item) xs) rest)

one_name_is : (x : List ℕ) → list_all has_text (one_name x) ≡ true → (rest : List Token) → name_then x rest ≡ one_name x ++ rest
one_name_is x h rest = ap (λ u. u ∷ rest) (sym (named x (both (has_text (name_token x)) true h).0))

one_number_is : (n : ℕ) → list_all has_text (one_number n) ≡ true → (rest : List Token) → number_then n rest ≡ one_number n ++ rest
one_number_is n h rest = refl

bound_is : (z : ℤ) (rest : List Token) → bound_then (bound_of z) rest ≡ bound_tokens z ++ rest
bound_is (pos n) rest = refl
bound_is (negsuc n) rest = refl

domain_is : (d : Range) → list_all has_text (range_tokens d) ≡ true → (rest : List Token) → domain_then (domain_of d) rest ≡ range_tokens d ++ rest
domain_is d h rest =
    let name = named d.variable (both (has_text (name_token d.variable)) (list_all has_text (bounds_tokens d.low d.high)) h).0 in
    let low = bound_tokens d.low in
    let high = bound_tokens d.high in
    ap (λ us. token.Name d.variable ∷ us)
    (bound_is d.low (sign symbol.DotDot ∷ bound_then (bound_of d.high) rest) ∙ ap (λ us. low ++ sign symbol.DotDot ∷ us) (bound_is d.high rest) ∙ sym (append_assoc low (sign symbol.DotDot ∷ high) rest))
    ∙ ap (λ u. u ∷ ((low ++ sign symbol.DotDot ∷ high) ++ rest)) (sym name)

-- ranges as domains
mapped_others : (ds : List Range) (rest : List Token) → others_then domain_then (map domain_of ds) rest ≡ others_then (λ d r. domain_then (domain_of d) r) ds rest
mapped_others [] rest = refl
mapped_others (d ∷ ds) rest = ap (λ us. sign symbol.Comma ∷ domain_then (domain_of d) us) (mapped_others ds rest)

mapped_items : (ds : List Range) (rest : List Token) → items_then domain_then (map domain_of ds) rest ≡ items_then (λ d r. domain_then (domain_of d) r) ds rest
mapped_items [] rest = refl
mapped_items (d ∷ ds) rest = ap (λ us. domain_then (domain_of d) us) (mapped_others ds rest)

domains_are : (ds : List Range) → list_all has_text (listed range_tokens ds) ≡ true → (rest : List Token) → items_then domain_then (map domain_of ds) rest ≡ listed range_tokens ds ++ rest
domains_are ds h rest = mapped_items ds rest ∙ items_are (λ d r. domain_then (domain_of d) r) range_tokens domain_is ds h rest

-- ---- parts of statements

size_is : (ns : List ℕ) → list_all has_text (listed one_number ns) ≡ true → (rest : List Token) → size_then ns rest ≡ size_tokens ns ++ rest
size_is ns h rest =
    ap (λ us. sign symbol.LeftBracket ∷ us) (items_are number_then one_number one_number_is ns h (sign symbol.RightBracket ∷ rest) ∙ sym (append_assoc (listed one_number ns) (sign symbol.RightBracket ∷ []) rest))

-- a size, and the end of the statement
ended_size : (ns : List ℕ) → list_all has_text (size_tokens ns ++ sign symbol.Semicolon ∷ []) ≡ true → (rest : List Token) → size_then ns (sign symbol.Semicolon ∷ rest) ≡ (size_tokens ns ++ sign symbol.Semicolon ∷ []) ++ rest
ended_size ns h rest =
    let inner = (split (size_tokens ns) (sign symbol.Semicolon ∷ []) h).0 in
    let items = (split (listed one_number ns) (sign symbol.RightBracket ∷ []) inner).0 in
    size_is ns items (sign symbol.Semicolon ∷ rest) ∙ sym (append_assoc (size_tokens ns) (sign symbol.Semicolon ∷ []) rest)

right_side_at : (e : Term) (p : AtSum (term_tokens e) e) (rest : List Token) → right_side_then p.rules rest ≡ right_side_tokens e ++ rest
right_side_at e p rest =
    ap (λ us. sign symbol.Equals ∷ us) (p.tokens (sign symbol.Semicolon ∷ rest) ∙ sym (append_assoc (term_tokens e) (sign symbol.Semicolon ∷ []) rest))

value_all : (e : Term) → list_all has_text (right_side_tokens e) ≡ true → list_all has_text (term_tokens e) ≡ true
value_all e h = (split (term_tokens e) (sign symbol.Semicolon ∷ []) h).0

-- ---- statements

record AtStatement (ts : List Token) (s : StatementText Term) : Type 0 where
  rules : StatementText Sums
  parts : HasParts rules
  tokens : (rest : List Token) → statement_then rules rest ≡ ts ++ rest
  is : statement_with sums_term rules ≡ s

record AtStatements (ts : List Token) (ss : List (StatementText Term)) : Type 0 where
  rules : List (StatementText Sums)
  parts : AllByRecursion HasParts rules
  tokens : (rest : List Token) → statements_then rules rest ≡ ts ++ rest
  is : map (statement_with sums_term) rules ≡ ss

before_others : (ts us : List Token) (s : StatementText Term) (ss : List (StatementText Term)) → AtStatement ts s → AtStatements us ss → AtStatements (ts ++ us) (s ∷ ss)
before_others ts us s ss p q = record {
  rules = p.rules ∷ q.rules;
  parts = (p.parts, q.parts);
  tokens = λ rest. p.tokens (statements_then q.rules rest) ∙ ap (λ vs. ts ++ vs) (q.tokens rest) ∙ sym (append_assoc ts us rest);
  is = λ i. p.is i ∷ q.is i;
}

pure_at : (x : List ℕ) (t : Ty) (vs : List (List ℕ)) (e : Term) → 1 ≤ length vs → list_all has_text (pure_tokens x t vs e) ≡ true
    → AtStatement (pure_tokens x t vs e) (function (record { name = x; ty = t; variables = vs; value = e }))
pure_at x t vs e some h =
    let front = both (has_text (name_token x)) (list_all has_text (listed one_name vs ++ sign symbol.RightParen ∷ right_side_tokens e)) h in
    let parts = split (listed one_name vs) (sign symbol.RightParen ∷ right_side_tokens e) front.1 in
    let p = sum_of e (value_all e parts.1) in
    let name = named x front.0 in
    record {
      rules = function (record { name = x; ty = t; variables = vs; value = p.rules });
      parts = some;
      tokens = λ rest.
          ap (λ us. token.Word word.Func ∷ token.Name x ∷ token.Type t ∷ sign symbol.LeftParen ∷ us)
          (items_are name_then one_name one_name_is vs parts.0 (sign symbol.RightParen ∷ right_side_then p.rules rest)
          ∙ ap (λ us. listed one_name vs ++ sign symbol.RightParen ∷ us) (right_side_at e p rest)
          ∙ sym (append_assoc (listed one_name vs) (sign symbol.RightParen ∷ right_side_tokens e) rest))
          ∙ ap (λ u. token.Word word.Func ∷ u ∷ token.Type t ∷ sign symbol.LeftParen ∷ ((listed one_name vs ++ sign symbol.RightParen ∷ right_side_tokens e) ++ rest)) (sym name);
      is = λ i. function (record { name = x; ty = t; variables = vs; value = p.is i });
    }

over_at : (ds : List Range) → 1 ≤ length ds → list_all has_text (over_tokens ds) ≡ true → (rest : List Token) → over_then (map domain_of ds) rest ≡ over_tokens ds ++ rest
over_at [] some h rest = absurd (omega arith)
over_at (d ∷ ds) some h rest =
    let items = (split (listed range_tokens (d ∷ ds)) (sign symbol.RightParen ∷ []) h).0 in
    ap (λ us. token.Word word.Over ∷ sign symbol.LeftParen ∷ us) (domains_are (d ∷ ds) items (sign symbol.RightParen ∷ rest) ∙ sym (append_assoc (listed range_tokens (d ∷ ds)) (sign symbol.RightParen ∷ []) rest))

left_at : (at : List Term) (p : AtRow (row_tokens (indices at)) at) (rest : List Token) → sign symbol.LeftBracket ∷ items_then sums_then p.rules (sign symbol.RightBracket ∷ rest) ≡ left_tokens at ++ rest
left_at at p rest = ap (λ us. sign symbol.LeftBracket ∷ us) (p.tokens (sign symbol.RightBracket ∷ rest) ∙ sym (append_assoc (row_tokens (indices at)) (sign symbol.RightBracket ∷ []) rest))

same_length : (rules : List Sums) (at : List Term) → map sums_term rules ≡ at → 1 ≤ length at → 0 < length rules
same_length rules at is some = let n = ap length is in omega (arith, n, length-map rules sums_term)

change_at : (x : List ℕ) (u : Change) → 1 ≤ length u.ranges → 1 ≤ length u.at → list_all has_text (change_tokens x u) ≡ true → AtStatement (change_tokens x u) (update (update_of x u))
change_at x u ranges some h =
    let front = both (has_text (name_token x)) (list_all has_text (over_tokens u.ranges ++ (left_tokens u.at ++ right_side_tokens u.value))) h in
    let one = split (over_tokens u.ranges) (left_tokens u.at ++ right_side_tokens u.value) front.1 in
    let two = split (left_tokens u.at) (right_side_tokens u.value) one.1 in
    let row = row_of u.at (split (row_tokens (indices u.at)) (sign symbol.RightBracket ∷ []) two.0).0 in
    let p = sum_of u.value (value_all u.value two.1) in
    let name = named x front.0 in
    let left = left_tokens u.at in
    let right = right_side_tokens u.value in
    let own = over_tokens u.ranges in
    record {
      rules = update (record { name = x; domains = map domain_of u.ranges; at = row.rules; value = p.rules });
      parts = same_length row.rules u.at row.is some;
      tokens = λ rest.
          ap (λ us. token.Word word.Update ∷ token.Name x ∷ us)
          (over_at u.ranges ranges one.0 (sign symbol.LeftBracket ∷ items_then sums_then row.rules (sign symbol.RightBracket ∷ right_side_then p.rules rest))
          ∙ ap (λ us. own ++ us) (left_at u.at row (right_side_then p.rules rest) ∙ ap (λ us. left ++ us) (right_side_at u.value p rest) ∙ sym (append_assoc left right rest))
          ∙ sym (append_assoc own (left ++ right) rest))
          ∙ ap (λ t. token.Word word.Update ∷ t ∷ ((own ++ (left ++ right)) ++ rest)) (sym name);
      is = λ i. update (record { name = x; domains = map domain_of u.ranges; at = row.is i; value = p.is i });
    }

-- an update has a domain and a left index
record HasIndices (u : Change) : Type 0 where
  ranges : 1 ≤ length u.ranges
  at : 1 ≤ length u.at

changes_at : (x : List ℕ) (us : List Change) (ts : List Token) (ss : List (StatementText Term)) → AllByRecursion HasIndices us → list_all has_text (flat_map (change_tokens x) us) ≡ true
    → AtStatements ts ss → AtStatements (flat_map (change_tokens x) us ++ ts) (updates_of x us ++ ss)
changes_at x [] ts ss some h q = q
changes_at x (u ∷ us) ts ss some h q =
    let parts = split (change_tokens x u) (flat_map (change_tokens x) us) h in
    subst (λ vs. AtStatements vs (update (update_of x u) ∷ (updates_of x us ++ ss))) (sym (append_assoc (change_tokens x u) (flat_map (change_tokens x) us) ts))
    (before_others (change_tokens x u) (flat_map (change_tokens x) us ++ ts) (update (update_of x u)) (updates_of x us ++ ss)
    (change_at x u some.0.ranges some.0.at parts.0) (changes_at x us ts ss some.1 parts.1 q))

-- a function has variables, and its updates have indices
record HasVariables (f : Function) : Type 0 where
  some : 1 ≤ length f.variables
  updates : AllByRecursion HasIndices f.changes

functions_at : (fs : List Function) → AllByRecursion HasVariables fs → list_all has_text (flat_map function_tokens fs) ≡ true → AtStatements (flat_map function_tokens fs) (flat_map statements_of fs)
functions_at [] some h = record { rules = []; parts = tt; tokens = λ rest. refl; is = refl }
functions_at (f ∷ fs) some h =
    let parts = split (function_tokens f) (flat_map function_tokens fs) h in
    let own = split (pure_tokens f.name f.ty f.variables f.value) (flat_map (change_tokens f.name) f.changes) parts.0 in
    let tail = flat_map function_tokens fs in
    let ups = flat_map (change_tokens f.name) f.changes in
    let pure = pure_tokens f.name f.ty f.variables f.value in
    subst (λ vs. AtStatements vs (flat_map statements_of (f ∷ fs))) (sym (append_assoc pure ups tail))
    (before_others pure (ups ++ tail) (function (record { name = f.name; ty = f.ty; variables = f.variables; value = f.value })) (updates_of f.name f.changes ++ flat_map statements_of fs)
    (pure_at f.name f.ty f.variables f.value some.0.some own.0)
    (changes_at f.name f.changes tail (flat_map statements_of fs) some.0.updates own.1 (functions_at fs some.1 parts.1)))

-- ---- what a well-formed algorithm has

from_places : {X : Type 0} (P : X → Type 0) (xs : List X) → ((k : ℕ) (x : X) → slice_get xs k ≡ Some x → P x) → AllByRecursion P xs
from_places P [] h = tt
from_places P (x ∷ xs) h = (h 0 x refl, from_places P xs (λ k y is. h (suc k) y is))

each : {X : Type 0} (P Q : X → Type 0) → ((x : X) → P x → Q x) → (xs : List X) → AllByRecursion P xs → AllByRecursion Q xs
each P Q f [] h = tt
each P Q f (x ∷ xs) h = (f x h.0, each P Q f xs h.1)

update_has : (a : Algorithm) (before : List Function) (f : Function) → 1 ≤ length f.variables → (u : Change) → IsUpdate a before f u → HasIndices u
update_has a before f some u h = record { ranges = h.domain.some; at = let n = h.places in omega (arith, n, some) }

function_has : (a : Algorithm) (before : List Function) (f : Function) → IsFunction a before f → HasVariables f
function_has a before f h = record {
  some = h.some;
  updates = each (IsUpdate a before f) HasIndices (update_has a before f h.some) f.changes (recursion_from_All (IsUpdate a before f) f.changes h.updates);
}

some_extents : (ns : List ℕ) → AreExtents ns → 0 < length ns
some_extents [] h = absurd h
some_extents (n ∷ ns) h = omega arith

-- ---- the sizes of expressions

small : (e : Term) → IsSmallExpression e → IsSmallTerm e
small e h = record { few = h.nodes; shallow = h.levels }

update_small : (a : Algorithm) (before : List Function) (f : Function) (u : Change) → IsUpdate a before f u → IsSmallStatement (update (update_of f.name u))
update_small a before f u h =
    let P = IsExpression (names_in f u) (callable a before) I32 in
    (each P IsSmallTerm (λ e k. small e k.small) u.at (recursion_from_All P u.at h.left), small u.value h.right.small)

updates_small : (a : Algorithm) (before : List Function) (f : Function) (us : List Change) (ss : List (StatementText Term)) → AllByRecursion (IsUpdate a before f) us → AllByRecursion IsSmallStatement ss
    → AllByRecursion IsSmallStatement (updates_of f.name us ++ ss)
updates_small a before f [] ss h more = more
updates_small a before f (u ∷ us) ss h more = (update_small a before f u h.0, updates_small a before f us ss h.1 more)

abbrev Stands : Algorithm → Function → Type 0
Stands a f = (before : List Function) × IsFunction a before f

functions_small : (a : Algorithm) (fs : List Function) → AllByRecursion (Stands a) fs → AllByRecursion IsSmallStatement (flat_map statements_of fs)
functions_small a [] h = tt
functions_small a (f ∷ fs) h =
    let is = h.0.1 in
    (small f.value is.pure.small, updates_small a h.0.0 f f.changes (flat_map statements_of fs) (recursion_from_All (IsUpdate a h.0.0 f) f.changes is.updates) (functions_small a fs h.1))

all_stand : (a : Algorithm) → IsAlgorithm a → AllByRecursion (Stands a) a.functions
all_stand a h = from_places (Stands a) a.functions (λ k f is. (take k a.functions, h.functions k f is))

pub file_small : (a : Algorithm) → IsAlgorithm a → IsSmall (file_of a)
file_small a h = functions_small a a.functions (all_stand a h)

-- ---- a function comes first

led_of : (ss : List (StatementText Sums)) → IsLed (map (statement_with sums_term) ss) → IsLed ss
led_of [] h = tt
led_of (function s ∷ ss) h = tt
led_of (update s ∷ ss) h = absurd h

functions_lead : (fs : List Function) → IsLed (flat_map statements_of fs)
functions_lead [] = tt
functions_lead (f ∷ fs) = tt

-- ---- the file

pub file_stands : (a : Algorithm) → IsAlgorithm a → list_all has_text (algorithm_tokens a) ≡ true → StandsFor (algorithm_tokens a) (file_of a)
file_stands a h all =
    let input = input_tokens a.input a.input_ty a.input_extents in
    let middle = flat_map function_tokens a.functions in
    let output = output_tokens a.output a.output_extents in
    let head = both (has_text (name_token a.name)) (list_all has_text (input ++ (middle ++ output))) all in
    let one = split input (middle ++ output) head.1 in
    let two = split middle output one.1 in
    let in_parts = both (has_text (name_token a.input)) (list_all has_text (size_tokens a.input_extents ++ sign symbol.Semicolon ∷ [])) one.0 in
    let out_parts = both (has_text (name_token a.output)) (list_all has_text (size_tokens a.output_extents ++ sign symbol.Semicolon ∷ [])) two.1 in
    let fs = functions_at a.functions (each (Stands a) HasVariables (λ f s. function_has a s.0 f s.1) a.functions (all_stand a h)) two.0 in
    let out_is : output_then (record { name = a.output; extents = a.output_extents }) [] ≡ output ++ [] =
    ap (λ us. token.Word word.Output ∷ token.Name a.output ∷ us) (ended_size a.output_extents out_parts.1 [])
    ∙ ap (λ t. token.Word word.Output ∷ t ∷ ((size_tokens a.output_extents ++ sign symbol.Semicolon ∷ []) ++ [])) (sym (named a.output out_parts.0)) in
    let out_bare : output_then (record { name = a.output; extents = a.output_extents }) [] ≡ output = out_is ∙ append-nil output in
    let mid_is = fs.tokens (output_then (record { name = a.output; extents = a.output_extents }) []) ∙ ap (λ us. middle ++ us) out_bare in
    let rest = statements_then fs.rules (output_then (record { name = a.output; extents = a.output_extents }) []) in
    let in_is : input_then (record { name = a.input; ty = a.input_ty; extents = a.input_extents }) rest ≡ input ++ rest =
    ap (λ us. token.Word word.Input ∷ token.Name a.input ∷ token.Type a.input_ty ∷ us) (ended_size a.input_extents in_parts.1 rest)
    ∙ ap (λ t. token.Word word.Input ∷ t ∷ token.Type a.input_ty ∷ ((size_tokens a.input_extents ++ sign symbol.Semicolon ∷ []) ++ rest)) (sym (named a.input in_parts.0)) in
    record {
      rules = record { name = a.name; input = record { name = a.input; ty = a.input_ty; extents = a.input_extents }; statements = fs.rules; output = record { name = a.output; extents = a.output_extents } };
      whole = record {
        input = some_extents a.input_extents h.input_extents;
        led = led_of fs.rules (subst (λ ss. IsLed ss) (sym fs.is) (functions_lead a.functions));
        statements = fs.parts;
        output = some_extents a.output_extents h.output_extents;
      };
      spelled = sym (ap (λ us. token.Word word.Pipeline ∷ token.Name a.name ∷ sign symbol.Semicolon ∷ us) (in_is ∙ ap (λ us. input ++ us) mid_is)
          ∙ ap (λ t. token.Word word.Pipeline ∷ t ∷ sign symbol.Semicolon ∷ (input ++ (middle ++ output))) (sym (named a.name head.0)));
      is = λ i. record { name = a.name; input = record { name = a.input; ty = a.input_ty; extents = a.input_extents }; statements = fs.is i; output = record { name = a.output; extents = a.output_extents } };
    }
