-- Parts stand among the tokens that they are read from.
use Rattle.std.proofs.Common.{◌≡◌, ℕ, List, [], ◌∷◌, ◌++◌, length, take, drop, Some, Ok, refl, ap, sym, subst, ◌∙◌, append_assoc, append-nil}
use Rattle.std.specs.List.{flat_map}
use Rattle.std.proofs.lemmas.Grind.{flat_map-append}
use Rattle.std.proofs.lemmas.List.{take-append-drop}
use Rattle.std.proofs.Math.Seq.{drop-append_seam}
use Rattle.numeric.specs.declared.ty.Ty.{Ty}
use Rattle.tree.specs.declared.token.span.Span.{Span}
use Rattle.tree.specs.declared.token.token.Symbol.{Symbol}
use Rattle.tree.specs.declared.token.token.Word.{Word}
use Rattle.tree.specs.declared.token.token.Token.{Token}
use Rattle.tree.specs.declared.token.token.Token.TheVariants as token
use Rattle.tree.specs.declared.token.token.Lexeme.{Lexeme}
use Rattle.tree.specs.Token.Cursor.{after, after_word, kinds, place}
use Rattle.tree.specs.declared.expr.Expr.{Expr}
use Rattle.expr.specs.Grammar.{sign}
use Rattle.expr.specs.Text.{last_end}
use Rattle.expr.specs.Places.{Covers, One, Part, Stands, Front, FrontAt}
use Rattle.expr.proofs.Fronts.{first_at}
use Rattle.expr.specs.Statements.Marks.{Mark, Marks, AreMarked, StandIn, begins, ends, stands, spells, named_marks, number_token, extent_marks, type_marks, expression_marks}
use Rattle.expr.specs.declared.statements.statement.Named.{Named}
use Rattle.expr.specs.declared.statements.statement.Extent.{Extent}
use Rattle.expr.specs.Statements.View.{named_text, extent_text}
use Rattle.expr.specs.Statements.Reading.{name, number, type_name}
use Rattle.expr.specs.Statements.Standing.{AreOf}
use Rattle.expr.proofs.Standing.{dropped}
use Rattle.expr.proofs.StatementsSound.{after_is, after_word_is, name_is, number_is, type_is}

one_marked : (m : Mark) (xs : List Lexeme) → Marks m xs → AreMarked (m ∷ []) xs
one_marked m xs h = record { before = []; here = xs; behind = []; is = sym (append-nil xs); this = h; that = tt }

behind : (xs : List Lexeme) (ns : List Mark) (ys : List Lexeme) → AreMarked ns ys → AreMarked ns (xs ++ ys)
behind xs [] ys h = tt
behind xs (n ∷ ns) ys h = record {
  before = xs ++ h.before;
  here = h.here;
  behind = h.behind;
  is = ap (λ zs. xs ++ zs) h.is ∙ sym (append_assoc xs h.before (h.here ++ h.behind));
  this = h.this;
  that = h.that;
}

both : (ms : List Mark) (xs : List Lexeme) (ns : List Mark) (ys : List Lexeme) → AreMarked ms xs → AreMarked ns ys → AreMarked (ms ++ ns) (xs ++ ys)
both [] xs ns ys h k = behind xs ns ys k
both (m ∷ ms) xs ns ys h k = record {
  before = h.before;
  here = h.here;
  behind = h.behind ++ ys;
  is = ap (λ zs. zs ++ ys) h.is ∙ append_assoc h.before (h.here ++ h.behind) ys ∙ ap (λ zs. h.before ++ zs) (append_assoc h.here h.behind ys);
  this = h.this;
  that = both ms h.behind ns ys h.that k;
}

-- one part after another
pub after_part : (ms ns : List Mark) (ls us vs : List Lexeme) → StandIn ms ls us → StandIn ns us vs → StandIn (ms ++ ns) ls vs
after_part ms ns ls us vs h k = record {
  taken = h.taken ++ k.taken;
  front = h.front ∙ ap (λ rest. h.taken ++ rest) k.front ∙ sym (append_assoc h.taken k.taken vs);
  marked = both ms h.taken ns k.taken h.marked k.marked;
}

-- tokens that are passed over behind a part
pub passed : (ms : List Mark) (ls us vs : List Lexeme) → StandIn ms ls us → StandIn [] us vs → StandIn ms ls vs
passed ms ls us vs h k = subst (λ ns. StandIn ns ls vs) (append-nil ms) (after_part ms [] ls us vs h k)

-- the same, where the facts show what stands where
pub join : {ms ns : List Mark} {ls us vs : List Lexeme} → StandIn ms ls us → StandIn ns us vs → StandIn (ms ++ ns) ls vs
join {ms} {ns} {ls} {us} {vs} h k = after_part ms ns ls us vs h k

pub skip : {ns : List Mark} {ls us vs : List Lexeme} → StandIn [] ls us → StandIn ns us vs → StandIn ns ls vs
skip {ns} {ls} {us} {vs} h k = after_part [] ns ls us vs h k

pub close : {ms : List Mark} {ls us vs : List Lexeme} → StandIn ms ls us → StandIn [] us vs → StandIn ms ls vs
close {ms} {ls} {us} {vs} h k = passed ms ls us vs h k

pub left_out : (n : ℕ) (ls us : List Lexeme) → us ≡ drop n ls → StandIn [] ls us
left_out n ls us is = record { taken = take n ls; front = sym (ap (λ rest. take n ls ++ rest) is ∙ take-append-drop n ls); marked = tt }

pub nothing : (ls : List Lexeme) → StandIn [] ls ls
nothing ls = record { taken = []; front = refl; marked = tt }

widened : (ms : List Mark) (xs ys : List Lexeme) → AreMarked ms xs → AreMarked ms (xs ++ ys)
widened ms xs ys h = subst (λ ns. AreMarked ns (xs ++ ys)) (append-nil ms) (both ms xs [] ys h tt)

-- in the whole list
pub in_all : (ms : List Mark) (ls rest : List Lexeme) → StandIn ms ls rest → AreMarked ms ls
in_all ms ls rest h = subst (AreMarked ms) (sym h.front) (widened ms h.taken rest h.marked)

-- the marks of a list with one more
pub marks_pushed : {X : Type 0} (marks : X → List Mark) (xs ys : List X) (x : X) → ys ≡ xs ++ x ∷ [] → flat_map marks ys ≡ flat_map marks xs ++ marks x
marks_pushed marks xs ys x is = ap (flat_map marks) is ∙ flat_map-append marks xs (x ∷ []) ∙ ap (λ ms. flat_map marks xs ++ ms) (append-nil (marks x))

pub marks_one : {X : Type 0} (marks : X → List Mark) (xs ys : List X) (x : X) → xs ≡ [] → ys ≡ xs ++ x ∷ [] → flat_map marks ys ≡ marks x
marks_one marks xs ys x none is = marks_pushed marks xs ys x is ∙ ap (λ zs. flat_map marks zs ++ marks x) none

-- ---- single tokens

head_is : {A : Type 0} {x y : A} {xs ys : List A} → x ∷ xs ≡ y ∷ ys → x ≡ y
head_is e = cc

one_is : (t : Token) (l : Lexeme) → l.token ≡ t → One t (l ∷ [])
one_is t l h = record { span = l.span; is = ap (λ (u : Token). record { token = u; span = l.span } ∷ []) h }

token_marked : (t : Token) (s : Span) (ls us : List Lexeme) → FrontAt (One t) s ls us → StandIn (stands t s ∷ []) ls us
token_marked t s ls us h = record { taken = h.taken; front = h.front; marked = one_marked (stands t s) h.taken (h.form, h.covers) }

-- the first token is this one
front_stands : (t : Token) (ls us : List Lexeme) (vs : List Token) (s : Span) → kinds ls ≡ t ∷ vs → s ≡ place ls 0 → us ≡ drop 1 ls → StandIn (stands t s ∷ []) ls us
front_stands t ls us vs s e at is = subst (λ (p : Span). StandIn (stands t p ∷ []) ls us) (sym at) (token_marked t (place ls 0) ls us (first_at t ls us vs e is))

pub name_placed : (ls us : List Lexeme) (n : Named) → name (kinds ls) ≡ Ok (named_text n, kinds us) → n.span ≡ place ls 0 → us ≡ drop 1 ls → StandIn (named_marks n) ls us
name_placed ls us n read at is = front_stands (token.Name (named_text n)) ls us (kinds us) n.span (name_is (kinds ls) (kinds us) (named_text n) read) at is

pub number_placed : (ls us : List Lexeme) (e : Extent) → number (kinds ls) ≡ Ok (extent_text e, kinds us) → e.span ≡ place ls 0 → us ≡ drop 1 ls → StandIn (extent_marks e) ls us
number_placed ls us e read at is = front_stands (number_token e.number) ls us (kinds us) e.span (number_is (kinds ls) (kinds us) e.number read) at is

pub type_placed : (ls us : List Lexeme) (t : Ty) (s : Span) → type_name (kinds ls) ≡ Ok (t, kinds us) → s ≡ place ls 0 → us ≡ drop 1 ls → StandIn (type_marks t s) ls us
type_placed ls us t s read at is = front_stands (token.Type t) ls us (kinds us) s (type_is (kinds ls) (kinds us) t read) at is

-- ---- symbols and words

pub sign_begins : (s : Symbol) (ls us : List Lexeme) (vs : List Token) → after s (kinds ls) ≡ Some vs → us ≡ drop 1 ls → StandIn (begins (sign s) (place ls 0).start ∷ []) ls us
sign_begins s [] us vs h is = cc
sign_begins s (l ∷ ls) us vs h is = record {
  taken = l ∷ [];
  front = ap (λ rest. l ∷ rest) (sym is);
  marked = one_marked (begins (sign s) l.span.start) (l ∷ []) (one_is (sign s) l (head_is (after_is s (kinds (l ∷ ls)) vs h)), refl);
}

pub word_stands : (w : Word) (ls us : List Lexeme) (vs : List Token) → after_word w (kinds ls) ≡ Some vs → us ≡ drop 1 ls → StandIn (stands (token.Word w) (place ls 0) ∷ []) ls us
word_stands w ls us vs h is = front_stands (token.Word w) ls us vs (place ls 0) (after_word_is w (kinds ls) vs h) refl is

last_covered : (s : Span) (xs : List Lexeme) → Covers xs s → last_end xs 0 ≡ s.end
last_covered s [] h = absurd h
last_covered s (x ∷ xs) h = sym (ap (λ (p : Span). p.end) h)

ends_there : (t : Token) (s : Span) (xs : List Lexeme) → AreMarked (stands t s ∷ []) xs → AreMarked (ends t s.end ∷ []) xs
ends_there t s xs h = record { before = h.before; here = h.here; behind = h.behind; is = h.is; this = (h.this.0, last_covered s h.here h.this.1); that = tt }

-- what stands at a place ends with it
pub ends_with : (t : Token) (s : Span) (ls us : List Lexeme) → StandIn (stands t s ∷ []) ls us → StandIn (ends t s.end ∷ []) ls us
ends_with t s ls us h = record { taken = h.taken; front = h.front; marked = ends_there t s h.taken h.marked }

-- ---- expressions

pub expression_placed : (e : Expr) (ls us : List Lexeme) → Front (Part (Stands e)) ls us → StandIn (expression_marks e) ls us
expression_placed e ls us h = record { taken = h.taken; front = h.front; marked = one_marked (spells e) h.taken h.form }

-- the tokens behind an expression
pub expression_kept : (text : List ℕ) (e : Expr) (ls us : List Lexeme) → Front (Part (Stands e)) ls us → AreOf text ls → AreOf text us
expression_kept text e ls us h = dropped text (length h.taken) ls us (sym (ap (λ zs. drop (length h.taken) zs) h.front ∙ drop-append_seam h.taken us))
