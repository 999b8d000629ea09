-- What is read is in the grammar.
use Rattle.std.proofs.Common.{◌≡◌, ℕ, zero, suc, ◌<◌, Bool, true, false, ◌&&◌, List, [], ◌∷◌, ◌++◌, length, Option, Some, None, IfSome, Result, Ok, Err, refl, sym, ap, subst, ◌∙◌, append_assoc, arith}
use Rattle.std.specs.List.{AllByRecursion}
use Rattle.std.specs.Prelude.{find}
use Rattle.std.specs.Str.{bytes_eq}
use Rattle.std.proofs.lemmas.List.{append-nil}
use Rattle.std.proofs.lemmas.Slice.Eq.{bytes_eq-Decides}
use Rattle.numeric.specs.declared.ty.Ty.{Ty}
use Rattle.tree.specs.declared.token.token.Symbol.{Symbol}
use Rattle.tree.specs.declared.token.token.Symbol.TheVariants as symbol
use Rattle.tree.specs.declared.token.token.Literal.{Literal}
use Rattle.tree.specs.declared.token.token.Token.{Token}
use Rattle.tree.specs.declared.token.token.Token.TheVariants as token
use Rattle.tree.specs.Token.Cursor.{after}
use Rattle.tree.proofs.Fronts.{found_passes}
use Rattle.expr.specs.Grammar.{sign}
use Rattle.expr.specs.Statements.Grammar.{name_then, number_then}
use Rattle.expr.proofs.StatementsSound.{after_is}
use Rattle.sched.specs.declared.error.Refusal.{Refusal}
use Rattle.sched.specs.declared.keyword.Keyword.{Keyword}
use Rattle.sched.specs.declared.keyword.Keyword.TheVariants as word
use Rattle.sched.specs.declared.schedule.Tail.{Tail}
use Rattle.sched.specs.declared.schedule.Home.{Home}
use Rattle.sched.specs.declared.schedule.Fold.{Fold}
use Rattle.sched.specs.declared.schedule.Split.{Split}
use Rattle.sched.specs.declared.schedule.Tile.{Tile}
use Rattle.sched.specs.Words.{keyword_text, tail_text, is_offered, keywords, tails, keyword_named, tail_named}
use Rattle.sched.specs.Schedule.{DirectiveText, compute_root, compute_at, store_at, fold as a_fold, split as a_split, tile as a_tile, reorder, unroll, vectorize, parallel, ScheduledText, Schedule}
use Rattle.sched.specs.Reading.{Parse, ◌>>=◌, or_refuse, expect, name, untyped, number, known, keyword, tail, name_comma, number_comma, home, fold, split, tile, next_of, more_of, names, arguments, directive, scheduled, ended, functions, file}
use Rattle.sched.specs.Grammar.{behind_then, items_then, name_comma_then, number_comma_then, tail_then, home_then, fold_then, split_then, tile_then, keyword_of, arguments_then, directive_then, scheduled_then, schedule_then, HasParts, IsGiven, IsWhole, StandsFor}

-- ---- inversions

-- the value of each step that did not refuse
and_then : {A B P : Type 0} (r : Result A Refusal) (f : A → Result B Refusal) (y : B) → (r >>= f) ≡ Ok y → ((x : A) → r ≡ Ok x → f x ≡ Ok y → P) → P
and_then (Ok x) f y h k = k x refl h
and_then (Err d) f y h k = absurd cc

abbrev answered : {A : Type 0} → (A × List Token) → Result (A × List Token) Refusal
answered p = Ok p

answered_is : {A : Type 0} (p q : A × List Token) → answered p ≡ answered q → p ≡ q
answered_is p q h = cc

answer_is : {A : Type 0} (x y : A) (ts us : List Token) → answered (x, ts) ≡ answered (y, us) → (x ≡ y) × (ts ≡ us)
answer_is x y ts us h = let p = answered_is (x, ts) (y, us) h in (ap (λ q. q.0) p, ap (λ q. q.1) p)

or_refuse_is : (o : Option (List Token)) (left : ℕ) (us : List Token) → or_refuse o left ≡ Ok us → o ≡ Some us
or_refuse_is (Some ts) left us h = let same : ts ≡ us = cc in ap (λ (x : List Token). Some x) same
or_refuse_is None left us h = absurd cc

expect_is : (s : Symbol) (ts us : List Token) → expect s ts ≡ Ok us → ts ≡ sign s ∷ us
unfolding expect
expect_is s ts us h = after_is s ts us (or_refuse_is (after s ts) (length ts) us h)

-- ---- single tokens

name_is : (ts us : List Token) (x : List ℕ) → name ts ≡ Ok (x, us) → ts ≡ name_then x us
name_is [] us x h = absurd cc
name_is (token.Name y ∷ ts) us x h = let p = answer_is y x ts us h in ap (λ (z : List ℕ). name_then z ts) p.0 ∙ ap (name_then x) p.1
name_is (_ ∷ ts) us x h = absurd cc

untyped_is : (n : Literal) (t : Option Ty) (ts us : List Token) (left m : ℕ) → n.ty ≡ t → untyped t n.value ts left ≡ Ok (m, us) → token.Number n ∷ ts ≡ number_then m us
untyped_is n None ts us left m none h =
    let p = answer_is n.value m ts us h in
    ap (λ (o : Option Ty). token.Number (record { value = n.value; ty = o }) ∷ ts) none ∙ ap (λ (v : ℕ). number_then v ts) p.0 ∙ ap (number_then m) p.1
untyped_is n (Some t) ts us left m some h = absurd cc

number_is : (ts us : List Token) (n : ℕ) → number ts ≡ Ok (n, us) → ts ≡ number_then n us
number_is [] us n h = absurd cc
number_is (token.Number m ∷ ts) us n h = untyped_is m m.ty ts us (length (token.Number m ∷ ts)) n refl h
number_is (_ ∷ ts) us n h = absurd cc

-- ---- words

from_some : {A : Type 0} (x y : A) → Some x ≡ Some y → x ≡ y
from_some x y e = cc

both_true : (a b : Bool) → (a && b) ≡ true → (a ≡ true) × (b ≡ true)
both_true true b h = (refl, h)
both_true false b h = absurd cc

known_is : {A : Type 0} (o : Option A) (ts us : List Token) (left : ℕ) (x : A) → known o ts left ≡ Ok (x, us) → (o ≡ Some x) × (ts ≡ us)
known_is {A} (Some y) ts us left x h = let p = answer_is y x ts us h in (ap (λ (z : A). Some z) p.0, p.1)
known_is None ts us left x h = absurd cc

keyword_found : (text : List ℕ) (found : Option Keyword) (k : Keyword) → IfSome found (λ y. (is_offered y && bytes_eq (keyword_text y) text) ≡ true) → found ≡ Some k → (is_offered k ≡ true) × (text ≡ keyword_text k)
keyword_found text None k h e = absurd (let f = e in cc)
keyword_found text (Some y) k h e =
    let both = both_true (is_offered y) (bytes_eq (keyword_text y) text) h in
    let same = from_some y k e in
    (subst (λ (z : Keyword). is_offered z ≡ true) same both.0, sym ((bytes_eq-Decides (keyword_text y) text).0 both.1) ∙ ap keyword_text same)

keyword_named_is : (text : List ℕ) (k : Keyword) → keyword_named text ≡ Some k → (is_offered k ≡ true) × (text ≡ keyword_text k)
unfolding keyword_named
keyword_named_is text k e = keyword_found text (find (λ y. is_offered y && bytes_eq (keyword_text y) text) keywords) k (found_passes (λ y. is_offered y && bytes_eq (keyword_text y) text) keywords) e

tail_found : (text : List ℕ) (found : Option Tail) (t : Tail) → IfSome found (λ y. bytes_eq (tail_text y) text ≡ true) → found ≡ Some t → text ≡ tail_text t
tail_found text None t h e = absurd (let f = e in cc)
tail_found text (Some y) t h e = sym ((bytes_eq-Decides (tail_text y) text).0 h) ∙ ap tail_text (from_some y t e)

tail_named_is : (text : List ℕ) (t : Tail) → tail_named text ≡ Some t → text ≡ tail_text t
unfolding tail_named
tail_named_is text t e = tail_found text (find (λ y. bytes_eq (tail_text y) text) tails) t (found_passes (λ y. bytes_eq (tail_text y) text) tails) e

keyword_is : (ts us : List Token) (k : Keyword) → keyword ts ≡ Ok (k, us) → (is_offered k ≡ true) × (ts ≡ name_then (keyword_text k) us)
unfolding keyword
keyword_is ts us k h =
    and_then (name ts) _ (k, us) h (λ n name_ok h1.
    let p = known_is (keyword_named n.0) n.1 us (length ts) k h1 in
    let q = keyword_named_is n.0 k p.0 in
    (q.0, name_is ts n.1 n.0 name_ok ∙ ap (name_then n.0) p.1 ∙ ap (λ (x : List ℕ). name_then x us) q.1))

tail_is : (ts us : List Token) (t : Tail) → tail ts ≡ Ok (t, us) → ts ≡ tail_then t us
unfolding tail
tail_is ts us t h =
    and_then (name ts) _ (t, us) h (λ n name_ok h1.
    let p = known_is (tail_named n.0) n.1 us (length ts) t h1 in
    name_is ts n.1 n.0 name_ok ∙ ap (name_then n.0) p.1 ∙ ap (λ (x : List ℕ). name_then x us) (tail_named_is n.0 t p.0))

-- ---- arguments

name_comma_is : (ts us : List Token) (x : List ℕ) → name_comma ts ≡ Ok (x, us) → ts ≡ name_comma_then x us
unfolding name_comma
name_comma_is ts us x h =
    and_then (name ts) _ (x, us) h (λ n name_ok h1.
    and_then (expect symbol.Comma n.1) _ (x, us) h1 (λ rest rest_ok h2.
    let p = answer_is n.0 x rest us h2 in
    name_is ts n.1 n.0 name_ok ∙ ap (name_then n.0) (expect_is symbol.Comma n.1 rest rest_ok ∙ ap (λ (v : List Token). sign symbol.Comma ∷ v) p.1) ∙ ap (λ (z : List ℕ). name_comma_then z us) p.0))

number_comma_is : (ts us : List Token) (x : ℕ) → number_comma ts ≡ Ok (x, us) → ts ≡ number_comma_then x us
unfolding number_comma
number_comma_is ts us x h =
    and_then (number ts) _ (x, us) h (λ n number_ok h1.
    and_then (expect symbol.Comma n.1) _ (x, us) h1 (λ rest rest_ok h2.
    let p = answer_is n.0 x rest us h2 in
    number_is ts n.1 n.0 number_ok ∙ ap (number_then n.0) (expect_is symbol.Comma n.1 rest rest_ok ∙ ap (λ (v : List Token). sign symbol.Comma ∷ v) p.1) ∙ ap (λ (z : ℕ). number_comma_then z us) p.0))

home_is : (ts us : List Token) (x : Home) → home ts ≡ Ok (x, us) → ts ≡ home_then x us
unfolding home
home_is ts us x h =
    and_then (name_comma ts) _ (x, us) h (λ f f_ok h1.
    and_then (name f.1) _ (x, us) h1 (λ v v_ok h2.
    let p = answer_is (record { function = f.0; turn = v.0 }) x v.1 us h2 in
    name_comma_is ts f.1 f.0 f_ok ∙ ap (name_comma_then f.0) (name_is f.1 v.1 v.0 v_ok ∙ ap (name_then v.0) p.1) ∙ ap (λ (z : Home). home_then z us) p.0))

fold_is : (ts us : List Token) (x : Fold) → fold ts ≡ Ok (x, us) → ts ≡ fold_then x us
unfolding fold
fold_is ts us x h =
    and_then (name_comma ts) _ (x, us) h (λ d d_ok h1.
    and_then (number d.1) _ (x, us) h1 (λ n n_ok h2.
    let p = answer_is (record { dimension = d.0; factor = n.0 }) x n.1 us h2 in
    name_comma_is ts d.1 d.0 d_ok ∙ ap (name_comma_then d.0) (number_is d.1 n.1 n.0 n_ok ∙ ap (number_then n.0) p.1) ∙ ap (λ (z : Fold). fold_then z us) p.0))

split_is : (ts us : List Token) (x : Split) → split ts ≡ Ok (x, us) → ts ≡ split_then x us
unfolding split
split_is ts us x h =
    and_then (name_comma ts) _ (x, us) h (λ v v_ok h1.
    and_then (name_comma v.1) _ (x, us) h1 (λ vo vo_ok h2.
    and_then (name_comma vo.1) _ (x, us) h2 (λ vi vi_ok h3.
    and_then (number_comma vi.1) _ (x, us) h3 (λ n n_ok h4.
    and_then (tail n.1) _ (x, us) h4 (λ t t_ok h5.
    let p = answer_is (record { whole = v.0; outer = vo.0; inner = vi.0; factor = n.0; tail = t.0 }) x t.1 us h5 in
    let end = tail_is n.1 t.1 t.0 t_ok ∙ ap (tail_then t.0) p.1 in
    let factor = number_comma_is vi.1 n.1 n.0 n_ok ∙ ap (number_comma_then n.0) end in
    let inner = name_comma_is vo.1 vi.1 vi.0 vi_ok ∙ ap (name_comma_then vi.0) factor in
    let outer = name_comma_is v.1 vo.1 vo.0 vo_ok ∙ ap (name_comma_then vo.0) inner in
    name_comma_is ts v.1 v.0 v_ok ∙ ap (name_comma_then v.0) outer ∙ ap (λ (z : Split). split_then z us) p.0)))))

tile_is : (ts us : List Token) (x : Tile) → tile ts ≡ Ok (x, us) → ts ≡ tile_then x us
unfolding tile
tile_is ts us z h =
    and_then (name_comma ts) _ (z, us) h (λ x x_ok h1.
    and_then (name_comma x.1) _ (z, us) h1 (λ y y_ok h2.
    and_then (name_comma y.1) _ (z, us) h2 (λ xo xo_ok h3.
    and_then (name_comma xo.1) _ (z, us) h3 (λ yo yo_ok h4.
    and_then (name_comma yo.1) _ (z, us) h4 (λ xi xi_ok h5.
    and_then (name_comma xi.1) _ (z, us) h5 (λ yi yi_ok h6.
    and_then (number_comma yi.1) _ (z, us) h6 (λ n n_ok h7.
    and_then (number_comma n.1) _ (z, us) h7 (λ m m_ok h8.
    and_then (tail m.1) _ (z, us) h8 (λ t t_ok h9.
    let p = answer_is (record { x = x.0; y = y.0; x_outer = xo.0; y_outer = yo.0; x_inner = xi.0; y_inner = yi.0; x_factor = n.0; y_factor = m.0; tail = t.0 }) z t.1 us h9 in
    let e9 = tail_is m.1 t.1 t.0 t_ok ∙ ap (tail_then t.0) p.1 in
    let e8 = number_comma_is n.1 m.1 m.0 m_ok ∙ ap (number_comma_then m.0) e9 in
    let e7 = number_comma_is yi.1 n.1 n.0 n_ok ∙ ap (number_comma_then n.0) e8 in
    let e6 = name_comma_is xi.1 yi.1 yi.0 yi_ok ∙ ap (name_comma_then yi.0) e7 in
    let e5 = name_comma_is yo.1 xi.1 xi.0 xi_ok ∙ ap (name_comma_then xi.0) e6 in
    let e4 = name_comma_is xo.1 yo.1 yo.0 yo_ok ∙ ap (name_comma_then yo.0) e5 in
    let e3 = name_comma_is y.1 xo.1 xo.0 xo_ok ∙ ap (name_comma_then xo.0) e4 in
    let e2 = name_comma_is x.1 y.1 y.0 y_ok ∙ ap (name_comma_then y.0) e3 in
    name_comma_is ts x.1 x.0 x_ok ∙ ap (name_comma_then x.0) e2 ∙ ap (λ (c : Tile). tile_then c us) p.0)))))))))

-- ---- lists

-- what was read from ts to us are further items, which come behind those found before
record FoundMore {A : Type 0} (s : Symbol) (then : A → List Token → List Token) (P : A → Type 0) (found : List A) (ts us : List Token) (xs : List A) : Type 0 where
  more : List A
  spelled : ts ≡ behind_then s then more us
  is : found ++ more ≡ xs
  all : AllByRecursion P more

module _ {A : Type 0} (s : Symbol) (item : Parse A) (then : A → List Token → List Token) (P : A → Type 0) (sound : (ts us : List Token) (x : A) → item ts ≡ Ok (x, us) → P x × (ts ≡ then x us)) where
  abbrev More : List A → List Token → List Token → List A → Type 0
  More found ts us xs = FoundMore s then P found ts us xs

  none_more : (found : List A) (ts us : List Token) (xs : List A) → answered (found, ts) ≡ answered (xs, us) → More found ts us xs
  none_more found ts us xs h =
      let p = answer_is found xs ts us h in
      record { more = []; spelled = p.1; is = append-nil found ∙ p.0; all = tt }

  one_more : (found : List A) (ts next vs us : List Token) (x : A) (xs : List A) → after s ts ≡ Some next → P x × (next ≡ then x vs) → More (found ++ x ∷ []) vs us xs → More found ts us xs
  one_more found ts next vs us x xs at p q =
      record {
        more = x ∷ q.more;
        spelled = after_is s ts next at ∙ ap (λ (w : List Token). sign s ∷ w) (p.1 ∙ ap (then x) q.spelled);
        is = sym (append_assoc found (x ∷ []) q.more) ∙ q.is;
        all = (p.0, q.all);
      }

  next_sound : (more : A → Parse (List A)) (found : List A) → ((x : A) (ts us : List Token) (xs : List A) → more x ts ≡ Ok (xs, us) → More (found ++ x ∷ []) ts us xs)
      → (ts us : List Token) (xs : List A) (o : Option (List Token)) → after s ts ≡ o → next_of item more found ts o ≡ Ok (xs, us) → More found ts us xs
  next_sound more found rest ts us xs None at h = none_more found ts us xs h
  next_sound more found rest ts us xs (Some next) at h =
      and_then (item next) _ (xs, us) h (λ r item_ok h1.
      one_more found ts next r.1 us r.0 xs at (sound next r.1 r.0 item_ok) (rest r.0 r.1 us xs h1))

  more_sound : (n : ℕ) (found : List A) (ts us : List Token) (xs : List A) → more_of s item n found ts ≡ Ok (xs, us) → More found ts us xs
  unfolding more_of
  more_sound zero found ts us xs h = none_more found ts us xs h
  more_sound (suc n) found ts us xs h =
      next_sound (λ x. more_of s item n (found ++ x ∷ [])) found (λ x vs ws ys e. more_sound n (found ++ x ∷ []) vs ws ys e) ts us xs (after s ts) refl h

names_is : (ts us : List Token) (xs : List (List ℕ)) → names ts ≡ Ok (xs, us) → (0 < length xs) × (ts ≡ items_then name_then xs us)
unfolding names
names_is ts us xs h =
    and_then (name ts) _ (xs, us) h (λ r name_ok h1.
    let q = more_sound symbol.Comma name name_then (λ _. Unit {0}) (λ vs ws x e. (tt, name_is vs ws x e)) (length r.1) (r.0 ∷ []) r.1 us xs h1 in
    let whole : (0 < length (r.0 ∷ q.more)) × (ts ≡ items_then name_then (r.0 ∷ q.more) us) = (omega arith, name_is ts r.1 r.0 name_ok ∙ ap (name_then r.0) q.spelled) in
    subst (λ (ys : List (List ℕ)). (0 < length ys) × (ts ≡ items_then name_then ys us)) q.is whole)

-- ---- directives

-- what was read from ts to us, behind the word, is what stands in the brackets of the directive
record FoundArguments (k : Keyword) (ts us : List Token) (d : DirectiveText) : Type 0 where
  parts : HasParts d
  word : keyword_of d ≡ k
  spelled : ts ≡ arguments_then d us

module _ {A : Type 0} (item : Parse A) (then : A → List Token → List Token) (P : A → Type 0) (sound : (ts us : List Token) (x : A) → item ts ≡ Ok (x, us) → P x × (ts ≡ then x us))
    (make : A → DirectiveText) (k : Keyword) (made : (x : A) (us : List Token) → P x → FoundArguments k (then x us) us (make x)) where
  abbrev making : Parse DirectiveText
  making ts = item ts >>= λ r. Ok (make r.0, r.1)

  made_is : (ts us : List Token) (d : DirectiveText) → making ts ≡ Ok (d, us) → FoundArguments k ts us d
  made_is ts us d h =
      and_then (item ts) _ (d, us) h (λ r item_ok h1.
      let p = answer_is (make r.0) d r.1 us h1 in
      let f = sound ts r.1 r.0 item_ok in
      let m = made r.0 us f.0 in
      let found : FoundArguments k ts us (make r.0) = record { parts = m.parts; word = m.word; spelled = f.1 ∙ ap (then r.0) p.1 ∙ m.spelled } in
      subst (FoundArguments k ts us) p.0 found)

abbrev plainly : {A : Type 0} (item : Parse A) (then : A → List Token → List Token) → ((ts us : List Token) (x : A) → item ts ≡ Ok (x, us) → ts ≡ then x us)
    → (ts us : List Token) (x : A) → item ts ≡ Ok (x, us) → Unit {0} × (ts ≡ then x us)
plainly item then sound ts us x h = (tt, sound ts us x h)

arguments_is : (k : Keyword) (ts us : List Token) (d : DirectiveText) → arguments k ts ≡ Ok (d, us) → FoundArguments k ts us d
unfolding arguments
arguments_is word.ComputeRoot ts us d h =
    let p = answer_is compute_root d ts us h in
    let found : FoundArguments word.ComputeRoot ts us compute_root = record { parts = tt; word = refl; spelled = p.1 } in
    subst (FoundArguments word.ComputeRoot ts us) p.0 found
arguments_is word.ComputeAt ts us d h =
    made_is home home_then (λ _. Unit {0}) (plainly home home_then home_is) compute_at word.ComputeAt (λ x vs _. record { parts = tt; word = refl; spelled = refl }) ts us d h
arguments_is word.StoreAt ts us d h =
    made_is home home_then (λ _. Unit {0}) (plainly home home_then home_is) store_at word.StoreAt (λ x vs _. record { parts = tt; word = refl; spelled = refl }) ts us d h
arguments_is word.Fold ts us d h =
    made_is fold fold_then (λ _. Unit {0}) (plainly fold fold_then fold_is) a_fold word.Fold (λ x vs _. record { parts = tt; word = refl; spelled = refl }) ts us d h
arguments_is word.Split ts us d h =
    made_is split split_then (λ _. Unit {0}) (plainly split split_then split_is) a_split word.Split (λ x vs _. record { parts = tt; word = refl; spelled = refl }) ts us d h
arguments_is word.Tile ts us d h =
    made_is tile tile_then (λ _. Unit {0}) (plainly tile tile_then tile_is) a_tile word.Tile (λ x vs _. record { parts = tt; word = refl; spelled = refl }) ts us d h
arguments_is word.Reorder ts us d h =
    made_is names (items_then name_then) (λ xs. 0 < length xs) names_is reorder word.Reorder (λ x vs some. record { parts = some; word = refl; spelled = refl }) ts us d h
arguments_is word.Unroll ts us d h =
    made_is name name_then (λ _. Unit {0}) (plainly name name_then name_is) unroll word.Unroll (λ x vs _. record { parts = tt; word = refl; spelled = refl }) ts us d h
arguments_is word.Vectorize ts us d h =
    made_is name name_then (λ _. Unit {0}) (plainly name name_then name_is) vectorize word.Vectorize (λ x vs _. record { parts = tt; word = refl; spelled = refl }) ts us d h
arguments_is word.Parallel ts us d h =
    made_is name name_then (λ _. Unit {0}) (plainly name name_then name_is) parallel word.Parallel (λ x vs _. record { parts = tt; word = refl; spelled = refl }) ts us d h

abbrev FoundDirective : List Token → List Token → DirectiveText → Type 0
FoundDirective ts us d = IsGiven d × (ts ≡ directive_then d us)

directive_is : (ts us : List Token) (d : DirectiveText) → directive ts ≡ Ok (d, us) → FoundDirective ts us d
unfolding directive
directive_is ts us d h =
    and_then (keyword ts) _ (d, us) h (λ k keyword_ok h1.
    and_then (expect symbol.LeftParen k.1) _ (d, us) h1 (λ start start_ok h2.
    and_then (arguments k.0 start) _ (d, us) h2 (λ a arguments_ok h3.
    and_then (expect symbol.RightParen a.1) _ (d, us) h3 (λ rest rest_ok h4.
    let p = answer_is a.0 d rest us h4 in
    let w = keyword_is ts k.1 k.0 keyword_ok in
    let f = arguments_is k.0 start a.1 a.0 arguments_ok in
    let close = expect_is symbol.RightParen a.1 rest rest_ok ∙ ap (λ (v : List Token). sign symbol.RightParen ∷ v) p.1 in
    let inside = expect_is symbol.LeftParen k.1 start start_ok ∙ ap (λ (v : List Token). sign symbol.LeftParen ∷ v) (f.spelled ∙ ap (arguments_then a.0) close) in
    let spelled : ts ≡ directive_then a.0 us =
    w.1 ∙ ap (name_then (keyword_text k.0)) inside ∙ ap (λ (c : Keyword). name_then (keyword_text c) (sign symbol.LeftParen ∷ arguments_then a.0 (sign symbol.RightParen ∷ us))) (sym f.word) in
    let given : IsGiven a.0 = record { parts = f.parts; offered = ap is_offered f.word ∙ w.0 } in
    subst (FoundDirective ts us) p.0 (given, spelled)))))

-- ---- functions

abbrev FoundScheduled : List Token → List Token → ScheduledText → Type 0
FoundScheduled ts us s = AllByRecursion IsGiven s.directives × (ts ≡ scheduled_then s us)

abbrev scheduled_from : List ℕ → List DirectiveText → ScheduledText
scheduled_from f ds = record { function = f; directives = ds }

scheduled_is : (ts us : List Token) (s : ScheduledText) → scheduled ts ≡ Ok (s, us) → FoundScheduled ts us s
unfolding scheduled
scheduled_is ts us s h =
    and_then (name ts) _ (s, us) h (λ f name_ok h1.
    and_then (more_of symbol.Dot directive (length f.1) [] f.1) _ (s, us) h1 (λ ds more_ok h2.
    and_then (expect symbol.Semicolon ds.1) _ (s, us) h2 (λ rest rest_ok h3.
    let p = answer_is (scheduled_from f.0 ds.0) s rest us h3 in
    let q = more_sound symbol.Dot directive directive_then IsGiven directive_is (length f.1) [] f.1 ds.1 ds.0 more_ok in
    let close = expect_is symbol.Semicolon ds.1 rest rest_ok ∙ ap (λ (v : List Token). sign symbol.Semicolon ∷ v) p.1 in
    let spelled : ts ≡ scheduled_then (scheduled_from f.0 q.more) us = name_is ts f.1 f.0 name_ok ∙ ap (name_then f.0) (q.spelled ∙ ap (behind_then symbol.Dot directive_then q.more) close) in
    let is : q.more ≡ ds.0 = q.is in
    let found : FoundScheduled ts us (scheduled_from f.0 ds.0) = subst (λ (ys : List DirectiveText). FoundScheduled ts us (scheduled_from f.0 ys)) is (q.all, spelled) in
    subst (FoundScheduled ts us) p.0 found)))

-- what was read are further functions, which come behind those found before
record FoundFunctions (found : Schedule) (ts : List Token) (ss : Schedule) : Type 0 where
  more : Schedule
  whole : IsWhole more
  spelled : ts ≡ schedule_then more
  is : found ++ more ≡ ss

abbrev done : Schedule → Result Schedule Refusal
done s = Ok s

done_is : (f g : Schedule) → done f ≡ done g → f ≡ g
done_is f g h = cc

no_more : (found ss : Schedule) → done found ≡ done ss → FoundFunctions found [] ss
no_more found ss h = record { more = []; whole = tt; spelled = refl; is = append-nil found ∙ done_is found ss h }

ended_is : (found : Schedule) (ts : List Token) (ss : Schedule) → ended found ts ≡ Ok ss → FoundFunctions found ts ss
ended_is found [] ss h = no_more found ss h
ended_is found (t ∷ ts) ss h = absurd cc

functions_are : (n : ℕ) (found : Schedule) (ts : List Token) (ss : Schedule) → functions n found ts ≡ Ok ss → FoundFunctions found ts ss
unfolding functions
functions_are zero found ts ss h = ended_is found ts ss h
functions_are (suc n) found [] ss h = no_more found ss h
functions_are (suc n) found (t ∷ ts) ss h =
    and_then (scheduled (t ∷ ts)) _ ss h (λ r scheduled_ok h1.
    let f = scheduled_is (t ∷ ts) r.1 r.0 scheduled_ok in
    let q = functions_are n (found ++ r.0 ∷ []) r.1 ss h1 in
    record {
      more = r.0 ∷ q.more;
      whole = (f.0, q.whole);
      spelled = f.1 ∙ ap (scheduled_then r.0) q.spelled;
      is = sym (append_assoc found (r.0 ∷ []) q.more) ∙ q.is;
    })

pub file_is : (ts : List Token) (s : Schedule) → file ts ≡ Ok s → StandsFor ts s
unfolding file
file_is ts s h =
    let f = functions_are (length ts) [] ts s h in
    let is : f.more ≡ s = f.is in
    subst (StandsFor ts) is (record { whole = f.whole; spelled = f.spelled })
