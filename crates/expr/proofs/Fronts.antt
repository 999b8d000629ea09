-- Forms one behind the other, and where they begin and end.
use Rattle.std.proofs.Common.{◌≡◌, ℕ, zero, suc, ◌+◌, ◌-◌, ◌≤◌, ◌<◌, Bool, true, false, cond, inl, inr, List, [], ◌∷◌, ◌++◌, length, get_or, take, drop, Option, Some, None, refl, ap, sym, subst, ◌∙◌, append_assoc, append-nil, arith}
use Rattle.std.specs.List.{prefix_len}
use Rattle.std.proofs.lemmas.List.{take_all, take-append-drop}
use Rattle.std.proofs.Math.Seq.{drop-cons}
use Rattle.numeric.specs.declared.op.Op.{Op}
use Rattle.numeric.specs.declared.op.Comparison.{Comparison}
use Rattle.tree.specs.declared.token.span.Span.{Span}
use Rattle.tree.specs.declared.token.token.Symbol.{Symbol}
use Rattle.tree.specs.declared.token.token.Symbol.TheVariants as symbol
use Rattle.tree.specs.declared.token.token.Token.{Token}
use Rattle.tree.specs.declared.token.token.Token.TheVariants as token
use Rattle.tree.specs.declared.token.token.Lexeme.{Lexeme}
use Rattle.tree.specs.Token.Cursor.{after, kinds, place}
use Rattle.tree.specs.declared.expr.Expr.{Expr, Row_of-Expr, end_of-Expr, more_of-Expr, items-the_row-Expr, items_hidden-the_row-Expr-0}
use Rattle.tree.specs.declared.expr.Cond.{Cond, Compare, Not', All', Any'}
use Rattle.tree.specs.Place.{test_span}
use Rattle.tree.specs.declared.expr.Cond.TheViews.{Call}
use Rattle.tree.specs.declared.expr.Cond.TheBlock.{hidden-the_row-Expr-0}
use Rattle.std.specs.Prelude.{string_bytes}
use Rattle.expr.specs.Grammar.{sign}
use Rattle.expr.specs.Text.{last_end}
use Rattle.expr.specs.Brackets.{is_opening}
use Rattle.tree.specs.declared.token.token.Word.{Word}
use Rattle.expr.specs.declared.parser.Level.{Level}
use Rattle.expr.specs.Parsing.{operator, comparison}
use Rattle.expr.specs.Places.{extreme, ExtremeOf, OperatorOf, ComparisonOf, Form, Covers, Then, ◌⨾◌, One, opens, closes, comma, InBrackets, Part, Separates, called, Stands, TestStands, RowStands, AllStand, AreOpening, Front, FrontAt}
use Rattle.expr.proofs.Sound.{after_is}

-- from the first of the one place to the last of the other
abbrev pub through : Span → Span → Span
through s t = record { start = s.start; end = t.end }

-- ---- places

end_of_both : (xs : List Lexeme) (y : Lexeme) (ys : List Lexeme) (n : ℕ) → last_end (xs ++ y ∷ ys) n ≡ last_end ys y.span.end
end_of_both [] y ys n = refl
end_of_both (x ∷ xs) y ys n = end_of_both xs y ys x.span.end

covers_both : (xs ys : List Lexeme) (s t : Span) → Covers xs s → Covers ys t → Covers (xs ++ ys) (through s t)
covers_both [] ys s t h k = absurd h
covers_both (x ∷ xs) [] s t h k = absurd k
covers_both (x ∷ xs) (y ∷ ys) s t h k = ap (λ (u : Span). through u t) h ∙ ap (λ (u : Span). through x.span u) k ∙ ap (λ (n : ℕ). through x.span (record { start = 0; end = n })) (sym (end_of_both xs y ys x.span.end))

-- ---- one behind the other

pub then_at : {P Q : Form} {s t : Span} {ls us vs : List Lexeme} → FrontAt P s ls us → FrontAt Q t us vs → FrontAt (P ⨾ Q) (through s t) ls vs
then_at {P} {Q} {s} {t} {ls} {us} {vs} h k = record {
  taken = h.taken ++ k.taken;
  front = h.front ∙ ap (λ rest. h.taken ++ rest) k.front ∙ sym (append_assoc h.taken k.taken vs);
  form = record { first = h.taken; second = k.taken; is = refl; this = h.form; that = k.form };
  covers = covers_both h.taken k.taken s t h.covers k.covers;
}

pub then_front : {P Q : Form} {ls us vs : List Lexeme} → Front P ls us → Front Q us vs → Front (P ⨾ Q) ls vs
then_front {P} {Q} {ls} {us} {vs} h k = record {
  taken = h.taken ++ k.taken;
  front = h.front ∙ ap (λ rest. h.taken ++ rest) k.front ∙ sym (append_assoc h.taken k.taken vs);
  form = record { first = h.taken; second = k.taken; is = refl; this = h.form; that = k.form };
}

pub front_of : {P : Form} {s : Span} {ls us : List Lexeme} → FrontAt P s ls us → Front P ls us
front_of h = record { taken = h.taken; front = h.front; form = h.form }

-- another form of the same tokens
pub as_form : {P : Form} {s : Span} {ls us : List Lexeme} (Q : Form) → ((xs : List Lexeme) → Covers xs s → P xs → Q xs) → FrontAt P s ls us → FrontAt Q s ls us
as_form Q f h = record { taken = h.taken; front = h.front; form = f h.taken h.covers h.form; covers = h.covers }

-- another form of the same tokens, and the same place
pub node_at : {P : Form} {s : Span} {ls us : List Lexeme} (Q : Form) (x y : Span) → x ≡ y → y ≡ s → ((xs : List Lexeme) → Covers xs y → P xs → Q xs) → FrontAt P s ls us → FrontAt (Part Q) x ls us
node_at {P} {s} Q x y e f g h = record {
  taken = h.taken;
  front = h.front;
  form = record { brackets = 0; is = g h.taken (subst (Covers h.taken) (sym f) h.covers) h.form };
  covers = subst (Covers h.taken) (sym (e ∙ f)) h.covers;
}

pub test_at : {P : Form} {s : Span} {ls us : List Lexeme} (Q : Form) (y : Span) → y ≡ s → ((xs : List Lexeme) → Covers xs y → P xs → Q xs) → FrontAt P s ls us → Front Q ls us
test_at {P} {s} Q y f g h = record { taken = h.taken; front = h.front; form = g h.taken (subst (Covers h.taken) (sym f) h.covers) h.form }

-- ---- parts

bare_form : (P : Form) (xs : List Lexeme) → P xs → Part P xs
bare_form P xs h = record { brackets = 0; is = h }

-- with no bracket round it
pub as_part : {P : Form} {s : Span} {ls us : List Lexeme} (Q : Form) → ((xs : List Lexeme) → Covers xs s → P xs → Q xs) → FrontAt P s ls us → FrontAt (Part Q) s ls us
as_part Q f h = record { taken = h.taken; front = h.front; form = bare_form Q h.taken (f h.taken h.covers h.form); covers = h.covers }

bracketed : (P : Form) (xs : List Lexeme) → (opens ⨾ Part P ⨾ closes) xs → Part P xs
bracketed P xs h = record {
  brackets = suc h.that.this.brackets;
  is = record {
    first = h.first;
    second = h.second;
    is = h.is;
    this = h.this;
    that = record { first = h.that.first; second = h.that.second; is = h.that.is; this = h.that.this.is; that = h.that.that };
  };
}

-- with a bracket more
pub in_brackets : {P : Form} {s : Span} {ls us : List Lexeme} (x : Span) → x ≡ s → FrontAt (opens ⨾ Part P ⨾ closes) s ls us → FrontAt (Part P) x ls us
in_brackets {P} x e h = record { taken = h.taken; front = h.front; form = bracketed P h.taken h.form; covers = subst (Covers h.taken) (sym e) h.covers }

-- ---- single tokens

head_is : {A : Type 0} {x y : A} {xs ys : List A} → x ∷ xs ≡ y ∷ ys → x ≡ y
head_is e = cc

one_is : (t : Token) (l : Lexeme) → l.token ≡ t → One t (l ∷ [])
one_is t l h = record { span = l.span; is = ap (λ (u : Token). record { token = u; span = l.span } ∷ []) h }

-- the token at the front
pub one_at : (t : Token) (l : Lexeme) (ls : List Lexeme) → l.token ≡ t → FrontAt (One t) l.span (l ∷ ls) ls
one_at t l ls h = record { taken = l ∷ []; front = refl; form = one_is t l h; covers = refl }

item_here : (t : Token) (ls : List Lexeme) (l : Lexeme) → 1 ≤ length ls → l ≡ get_or ls 0 l → l.token ≡ t → FrontAt (One t) (place ls 0) ls (take (length ls - 1) (drop 1 ls))
item_here t [] l long at is = absurd (omega (arith, long))
item_here t (x ∷ ls) l long at is =
    let all : length ls ≤ length (x ∷ ls) - 1 = omega arith in
    subst (FrontAt (One t) x.span (x ∷ ls)) (sym (take_all (length (x ∷ ls) - 1) ls all)) (one_at t x ls (ap (λ (y : Lexeme). y.token) (sym at) ∙ is))

item_span : (ls : List Lexeme) (l : Lexeme) → 1 ≤ length ls → l ≡ get_or ls 0 l → place ls 0 ≡ l.span
item_span [] l long at = absurd (omega (arith, long))
item_span (x ∷ ls) l long at = ap (λ (y : Lexeme). y.span) (sym at)

pub item_place : (t : Token) (ls : List Lexeme) (l : Lexeme) → 1 ≤ length ls → l ≡ get_or ls 0 l → l.token ≡ t → FrontAt (One t) (place ls 0) ls (take (length ls - 1) (drop 1 ls))
item_place t ls l long at is = item_here t ls l long at is

pub item_at : (t : Token) (ls : List Lexeme) (l : Lexeme) → 1 ≤ length ls → l ≡ get_or ls 0 l → l.token ≡ t → FrontAt (One t) l.span ls (take (length ls - 1) (drop 1 ls))
item_at t ls l long at is = subst (λ (s : Span). FrontAt (One t) s ls (take (length ls - 1) (drop 1 ls))) (item_span ls l long at) (item_here t ls l long at is)

pub first_at : (t : Token) (ls us : List Lexeme) (vs : List Token) → kinds ls ≡ t ∷ vs → us ≡ drop 1 ls → FrontAt (One t) (place ls 0) ls us
first_at t [] us vs e is = cc
first_at t (l ∷ ls) us vs e is = record { taken = l ∷ []; front = ap (λ rest. l ∷ rest) (sym is); form = one_is t l (head_is e); covers = refl }

pub symbol_at : (s : Symbol) (ls us : List Lexeme) (vs : List Token) → after s (kinds ls) ≡ Some vs → us ≡ drop 1 ls → FrontAt (One (sign s)) (place ls 0) ls us
symbol_at s ls us vs h is = first_at (sign s) ls us vs (after_is s (kinds ls) vs h) is

pub separates_comma : {s : Span} {ls us : List Lexeme} → FrontAt comma s ls us → FrontAt Separates s ls us
separates_comma h = record { taken = h.taken; front = h.front; form = inl h.form; covers = h.covers }

pub separates_end : {s : Span} {ls us : List Lexeme} → FrontAt (One (sign symbol.RightBracket)) s ls us → FrontAt Separates s ls us
separates_end h = record { taken = h.taken; front = h.front; form = inr h.form; covers = h.covers }

-- ---- opening brackets

opening_token : (t : Token) → is_opening t ≡ true → t ≡ sign symbol.LeftParen
opening_token (token.Symbol symbol.LeftParen) h = refl
opening_token t h = absurd cc

opening_more : (b : Bool) (l : Lexeme) (ls : List Lexeme) → is_opening l.token ≡ b → AreOpening (take (prefix_len (λ x. is_opening x.token) ls) ls)
    → AreOpening (take (cond b (1 + prefix_len (λ x. is_opening x.token) ls) 0) (l ∷ ls))
opening_more true l ls is h =
    let n = prefix_len (λ x. is_opening x.token) ls in
    let both : AreOpening (take (suc n) (l ∷ ls)) = (opening_token l.token is, h) in
    let one : suc n ≡ 1 + n = omega arith in
    subst (λ (m : ℕ). AreOpening (take m (l ∷ ls))) one both
opening_more false l ls is h = tt

pub are_opening : (ls : List Lexeme) → AreOpening (take (prefix_len (λ x. is_opening x.token) ls) ls)
are_opening [] = tt
are_opening (l ∷ ls) = opening_more (is_opening l.token) l ls refl (are_opening ls)

opening_in : (bs : List Lexeme) (j : ℕ) (d : Lexeme) → AreOpening bs → j < length bs → (get_or bs j d).token ≡ sign symbol.LeftParen
opening_in [] j d h lt = absurd (omega (arith, lt))
opening_in (b ∷ bs) zero d h lt = h.0
opening_in (b ∷ bs) (suc j) d h lt = opening_in bs j d h.1 (omega (arith, lt))

-- the bracket before those that are closed
pub opened : (bs ls : List Lexeme) (i : ℕ) (d : Lexeme) → i < length bs → AreOpening bs
    → FrontAt (One (sign symbol.LeftParen)) (get_or bs (length bs - 1 - i) d).span (drop (length bs - (i + 1)) bs ++ ls) (drop (length bs - i) bs ++ ls)
opened bs ls i d lt all =
    let j = length bs - 1 - i in
    let l = get_or bs j d in
    let within : j < length bs = omega (arith, lt) in
    let one : length bs - (i + 1) ≡ j = omega (arith, lt) in
    let next : suc j ≡ length bs - i = omega (arith, lt) in
    let same : drop (length bs - (i + 1)) bs ++ ls ≡ l ∷ (drop (length bs - i) bs ++ ls) =
    ap (λ (n : ℕ). drop n bs ++ ls) one ∙ ap (λ (xs : List Lexeme). xs ++ ls) (drop-cons bs j d within) ∙ ap (λ (n : ℕ). l ∷ (drop n bs ++ ls)) next in
    subst (λ (xs : List Lexeme). FrontAt (One (sign symbol.LeftParen)) l.span xs (drop (length bs - i) bs ++ ls)) (sym same)
    (one_at (sign symbol.LeftParen) l (drop (length bs - i) bs ++ ls) (opening_in bs j d all within))

-- the brackets and what stands behind them
pub opened_all : (ls front : List Lexeme) (n : ℕ) → n ≡ prefix_len (λ x. is_opening x.token) ls → front ≡ take n ls → AreOpening front
opened_all ls front n count is = subst AreOpening (sym (is ∙ ap (λ (m : ℕ). take m ls) count)) (are_opening ls)

-- ---- indices

sign_last : (a : Expr) (xs ys : List Lexeme) → ys ≡ xs → (Part (Stands a) ⨾ Separates) xs → (Part (Stands a) ⨾ Separates ⨾ AllStand []) ys
sign_last a xs ys is h = record {
  first = h.first;
  second = h.second;
  is = is ∙ h.is;
  this = h.this;
  that = record { first = h.second; second = []; is = sym (append-nil h.second); this = h.that; that = refl };
}

index_pushed : (ds : List Expr) (a : Expr) (xs ys : List Lexeme) → AllStand ds xs → (Part (Stands a) ⨾ Separates) ys → AllStand (ds ++ a ∷ []) (xs ++ ys)
index_pushed [] a xs ys h k = sign_last a ys (xs ++ ys) (ap (λ zs. zs ++ ys) h) k
index_pushed (b ∷ ds) a xs ys h k = record {
  first = h.first;
  second = h.second ++ ys;
  is = ap (λ zs. zs ++ ys) h.is ∙ append_assoc h.first h.second ys;
  this = h.this;
  that = record {
    first = h.that.first;
    second = h.that.second ++ ys;
    is = ap (λ zs. zs ++ ys) h.that.is ∙ append_assoc h.that.first h.that.second ys;
    this = h.that.this;
    that = index_pushed ds a h.that.second ys h.that.that k;
  };
}

pub no_index : (ls : List Lexeme) → Front (AllStand []) ls ls
no_index ls = record { taken = []; front = refl; form = refl }

pub one_more_index : (ds bs : List Expr) (a : Expr) (ls us vs : List Lexeme) → bs ≡ ds ++ a ∷ [] → Front (AllStand ds) ls us → Front (Part (Stands a) ⨾ Separates) us vs → Front (AllStand bs) ls vs
one_more_index ds bs a ls us vs is h k = subst (λ cs. Front (AllStand cs) ls vs) (sym is) (record {
  taken = h.taken ++ k.taken;
  front = h.front ∙ ap (λ rest. h.taken ++ rest) k.front ∙ sym (append_assoc h.taken k.taken vs);
  form = index_pushed ds a h.taken k.taken h.form k.form;
})

start_of_both : (xs ys : List Lexeme) (t : Span) (vs : List Lexeme) → Covers ys t → Covers (xs ++ ys) (record { start = (place (xs ++ (ys ++ vs)) 0).start; end = t.end })
start_of_both [] [] t vs k = absurd k
start_of_both [] (y ∷ ys) t vs k = ap (λ (u : Span). through y.span u) k
start_of_both (x ∷ xs) [] t vs k = absurd k
start_of_both (x ∷ xs) (y ∷ ys) t vs k = ap (λ (u : Span). through x.span u) k ∙ ap (λ (n : ℕ). through x.span (record { start = 0; end = n })) (sym (end_of_both xs y ys x.span.end))

pub last_index : (ds bs : List Expr) (a : Expr) (s : Span) (ls us vs : List Lexeme) → bs ≡ ds ++ a ∷ [] → Front (AllStand ds) ls us → FrontAt (Part (Stands a) ⨾ Separates) s us vs
    → FrontAt (AllStand bs) (record { start = (place ls 0).start; end = s.end }) ls vs
last_index ds bs a s ls us vs is h k = subst (λ cs. FrontAt (AllStand cs) (record { start = (place ls 0).start; end = s.end }) ls vs) (sym is) (record {
  taken = h.taken ++ k.taken;
  front = h.front ∙ ap (λ rest. h.taken ++ rest) k.front ∙ sym (append_assoc h.taken k.taken vs);
  form = index_pushed ds a h.taken k.taken h.form k.form;
  covers = subst (λ zs. Covers (h.taken ++ k.taken) (record { start = (place zs 0).start; end = s.end })) (sym (h.front ∙ ap (λ rest. h.taken ++ rest) k.front)) (start_of_both h.taken k.taken s vs k.covers);
})

-- the same of the indices of a call
row_stands : (n : _) (k : Row_of-Expr n) → RowStands k ≡ AllStand (items-the_row-Expr n k)
row_stands n end_of-Expr = refl
row_stands n (more_of-Expr a rest) = ap (λ (F : Form). Part (Stands a) ⨾ Separates ⨾ F) (row_stands _ rest)

pub call_stands : (name : _) (at : _) (s : Span) (ls : List Lexeme) → Stands (Call name at s) ls ≡ (Covers ls s × called (string_bytes name) (AllStand at.items) ls)
call_stands name at s ls = ap (λ (F : Form). Covers ls s × called (string_bytes name) F ls) (row_stands _ (hidden-the_row-Expr-0 at) ∙ ap AllStand (items_hidden-the_row-Expr-0 at))

-- ---- conditions

test_covers : (c : Cond) (xs : List Lexeme) → TestStands c xs → Covers xs (test_span c)
test_covers (Compare by a b s) xs h = h.0
test_covers (Not' p c s) xs h = h.0
test_covers (All' p c q d s) xs h = h.0
test_covers (Any' p c q d s) xs h = h.0

-- with the place that the condition has
pub test_front : (c : Cond) {ls us : List Lexeme} → Front (TestStands c) ls us → FrontAt (TestStands c) (test_span c) ls us
test_front c h = record { taken = h.taken; front = h.front; form = h.form; covers = test_covers c h.taken h.form }

-- ---- signs

pub extreme_at : {s : Span} {ls us : List Lexeme} (w : Word) (o : Op) → extreme w ≡ Some o → FrontAt (One (token.Word w)) s ls us → FrontAt (ExtremeOf o) s ls us
extreme_at w o e h = record { taken = h.taken; front = h.front; form = record { word = w; means = e; is = h.form }; covers = h.covers }

pub operator_front : {s : Span} {ls us : List Lexeme} (level : Level) (x : Symbol) (o : Op) → operator level x ≡ Some o → FrontAt (One (sign x)) s ls us → FrontAt (OperatorOf o) s ls us
operator_front level x o e h = record { taken = h.taken; front = h.front; form = record { level = level; symbol = x; means = e; is = h.form }; covers = h.covers }

pub comparison_front : {s : Span} {ls us : List Lexeme} (x : Symbol) (b : Comparison) → comparison x ≡ Some b → FrontAt (One (sign x)) s ls us → FrontAt (ComparisonOf b) s ls us
comparison_front x b e h = record { taken = h.taken; front = h.front; form = record { symbol = x; means = e; is = h.form }; covers = h.covers }

pub both_are : (n : ℕ) (ls front back : List Lexeme) → front ≡ take n ls → back ≡ drop n ls → front ++ back ≡ ls
both_are n ls front back h k = ap (λ (xs : List Lexeme). xs ++ back) h ∙ ap (λ (xs : List Lexeme). take n ls ++ xs) k ∙ take-append-drop n ls
